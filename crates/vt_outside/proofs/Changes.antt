-- Several changes of a folder's files in a row.
use Rattle.std.proofs.Common.{◌≡◌, ℕ, ◌≤◌, ◌+◌, min, true, false, List, ◌++◌, length, take, Option, Some, None, refl, ap, sym, ◌∙◌, arith}
use Rattle.std.proofs.lemmas.List.{take_min, take-append-le}
use Rattle.std.proofs.Math.Seq.{take-append-add}
use Rattle.std.specs.Prelude.{option_map, if◌then◌else◌}
use Rattle.std.specs.Str.{bytes_eq}
use mathlib.Core.Path.{fun_ext}
use Rattle.vt_outside.specs.Files.{Files, with_bytes, with_appended}

-- bytes, and more bytes
with_appended-with_bytes : (n s t : List ℕ) (f : Files) → with_appended n t (with_bytes n s f) ≡ with_bytes n (s ++ t) f
with_appended-with_bytes n s t f =
    fun_ext (λ q. elim (bytes_eq q n)
    as (λ b. (if b then option_map (λ h. h ++ t) (if b then Some s else f q) else (if b then Some s else f q)) ≡ (if b then Some (s ++ t) else f q))
    [ true ↦ refl | false ↦ refl ])

-- the same where the files may be untold
pub known-bytes-appended : (n s t : List ℕ) (o : Option Files)
    → option_map (with_appended n t) (option_map (with_bytes n s) o) ≡ option_map (with_bytes n (s ++ t)) o
known-bytes-appended n s t None = refl
known-bytes-appended n s t (Some f) = ap Some (with_appended-with_bytes n s t f)

-- the whole of one piece and a prefix of the next is a prefix of both
pub front_of_two : (s t : List ℕ) (k : ℕ) → s ++ take k t ≡ take (length s + k) (s ++ t)
front_of_two s t k = sym (take-append-add s t k)

-- a prefix of the first of two pieces is one of both
pub front_of_first : (s t : List ℕ) (k : ℕ) → (m : ℕ) × (take k s ≡ take m (s ++ t))
front_of_first s t k =
    let n = min k (length s) in
    let le : n ≤ length s = omega arith in
    (n, sym (take-append-le n s t le ∙ take_min k s))
