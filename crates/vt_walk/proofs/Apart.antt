-- The journal's name is that of no picture.
use Rattle.std.proofs.Common.{◌≡◌, ◌≢◌, ℕ, Bool, true, false, List, Option, Some, None, refl, sym, ap, ◌∙◌}
use Rattle.std.specs.Prelude.{option_map, if◌then◌else◌, IsSome}
use Rattle.std.specs.Str.{bytes_eq}
use Rattle.std.proofs.lemmas.Slice.Eq.{bytes_eq-Decides}
use Rattle.std.proofs.lemmas.Bool.{false≢true}
use mathlib.Core.Path.{fun_ext}
use Rattle.vt_outside.specs.Files.{Files, with_bytes, IsThere}
use Rattle.vt_pictures.specs.Names.{picture_name, is_picture_name}
use Rattle.vt_pictures.proofs.Named.{name_known}
use Rattle.vt_walk.specs.Walks.{WalkNames}
use Rattle.vt_walk.specs.Folders.{IsApart}

pub other_name : (names : WalkNames) (picture : ℕ) → IsApart names → names.journal ≢ picture_name names.prefix picture
other_name names picture apart same =
    false≢true (sym apart ∙ ap (is_picture_name names.prefix) same ∙ name_known names.prefix picture)

-- two names hold what they hold, whichever was written first
pub either_first : (n m s t : List ℕ) (files : Files) → m ≢ n → with_bytes n s (with_bytes m t files) ≡ with_bytes m t (with_bytes n s files)
either_first n m s t files other = fun_ext (λ q. pick q (bytes_eq q n) (bytes_eq q m) refl refl) where
  pick : (q : List ℕ) (a b : Bool) → bytes_eq q n ≡ a → bytes_eq q m ≡ b
      → (if bytes_eq q n then Some s else (if bytes_eq q m then Some t else files q)) ≡
      (if bytes_eq q m then Some t else (if bytes_eq q n then Some s else files q))
  pick q true true is_n is_m = absurd (other (sym ((bytes_eq-Decides q m).0 is_m) ∙ (bytes_eq-Decides q n).0 is_n))
  pick q true false is_n is_m = rw (is_n, is_m) refl
  pick q false b is_n is_m = rw is_n refl

-- a name that is there stays so
pub there_stays : (n m s : List ℕ) (known : Option Files) → IsThere known n → IsThere (option_map (with_bytes m s) known) n
there_stays n m s None there = tt
there_stays n m s (Some files) there = pick (bytes_eq n m) there where
  pick : (b : Bool) → IsSome (files n) → IsSome (if b then Some s else files n)
  pick true there = refl
  pick false there = there
