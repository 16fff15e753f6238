-- What a refused append leaves.
use Rattle.std.proofs.Common.{◌≡◌, ℕ, true, false, List, [], ◌++◌, take, length, ◌/◌, Option, Some, None, Ok, Err, ap, sym, ◌∙◌, refl}
use Rattle.std.proofs.lemmas.List.{append-nil}
use Rattle.std.specs.Prelude.{Result, OnErr, IsErrOf, option_map, if◌then◌else◌}
use Rattle.std.specs.Str.{bytes_eq}
use mathlib.Core.Path.{fun_ext}
use Rattle.vt_outside.specs.Files.{Files, with_appended}
use Rattle.vt_outside.specs.declared.answers.OutsideError.{OutsideError}
use Rattle.vt_outside.specs.declared.answers.OutsideError.TheVariants.{Failed, NoMemory}

none_more : (held : Option (List ℕ)) → option_map (λ h. h ++ []) held ≡ held
none_more None = refl
none_more (Some h) = ap Some (append-nil h)

-- no bytes added change nothing
appended_none : (name : List ℕ) (f : Files) → with_appended name [] f ≡ f
appended_none name f =
    fun_ext (λ q. elim (bytes_eq q name) as (λ b. (if b then option_map (λ h. h ++ []) (f q) else f q) ≡ f q)
    [ true ↦ none_more (f q) | false ↦ refl ])

-- half of the bytes, or none of them, is a prefix of them
pub part_of_half : {T : Type 0} (r : Result T OutsideError) (name bytes : List ℕ) (old new : Files)
    → (IsErrOf r Failed → new ≡ with_appended name (take (length bytes / 2) bytes) old) → (IsErrOf r NoMemory → new ≡ old)
    → OnErr r ((k : ℕ) × (Some new ≡ option_map (with_appended name (take k bytes)) (Some old)))
part_of_half (Ok x) name bytes old new half none = tt
part_of_half (Err Failed) name bytes old new half none = (length bytes / 2, ap Some (half refl))
part_of_half (Err NoMemory) name bytes old new half none = (0, ap Some (none refl ∙ sym (appended_none name old)))
