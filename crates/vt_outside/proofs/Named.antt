-- What a name holds in a map from names to bytes after another was added.
use Rattle.std.proofs.Common.{◌≡◌, ℕ, Bool, true, false, List, Option, Some, refl, sym, ap, ◌∙◌}
use Rattle.std.specs.Prelude.{option_map, if◌then◌else◌, Vec}
use Rattle.std.specs.Str.{bytes_eq}
use Rattle.std.specs.declared.alloc.Global.{Global}
use Rattle.std.proofs.lemmas.Slice.Eq.{bytes_eq-Decides}

same_test : (a b : Bool) → (a ≡ true → b ≡ true) → (b ≡ true → a ≡ true) → a ≡ b
same_test true b f g = sym (f refl)
same_test false true f g = g refl
same_test false false f g = refl

bytes_eq_swapped : (x y : List ℕ) → bytes_eq x y ≡ bytes_eq y x
bytes_eq_swapped x y = same_test (bytes_eq x y) (bytes_eq y x)
    (λ h. (bytes_eq-Decides y x).1 (sym ((bytes_eq-Decides x y).0 h)))
    (λ h. (bytes_eq-Decides x y).1 (sym ((bytes_eq-Decides y x).0 h)))

chosen : (b : Bool) (held : Vec ℕ Global) (old : Option (Vec ℕ Global))
    → option_map (λ v. v.items) (if b then Some held else old) ≡ (if b then Some held.items else option_map (λ v. v.items) old)
chosen true held old = refl
chosen false held old = refl

-- the name holds the bytes, and every other name what it held
pub held_after : (name key q : List ℕ) (held : Vec ℕ Global) (new old : Option (Vec ℕ Global)) → key ≡ name
    → new ≡ (if bytes_eq key q then Some held else old)
    → option_map (λ v. v.items) new ≡ (if bytes_eq q name then Some held.items else option_map (λ v. v.items) old)
held_after name key q held new old same e =
    ap (option_map (λ (v : Vec ℕ Global). v.items)) e
    ∙ ap (λ (b : Bool). option_map (λ (v : Vec ℕ Global). v.items) (if b then Some held else old))
    (bytes_eq_swapped key q ∙ ap (bytes_eq q) same)
    ∙ chosen (bytes_eq q name) held old
