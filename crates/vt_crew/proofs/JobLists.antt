-- Jobs of a list that were done, the last one last.
use Rattle.std.proofs.Common.{◌≡◌, List, [], ◌∷◌, ◌++◌, sym, subst}
use Rattle.std.proofs.lemmas.List.Elements.{AllZip-push}
use Rattle.std.specs.List.{AllZip}

-- all but the last one were done, and it was: so all were
pub last_done : {J : Type 0} (did : J → J → Type 0) (xs ys a b : List J) (x y z : J) → xs ≡ a ++ x ∷ [] → ys ≡ b ++ y ∷ [] → AllZip did a b → z ≡ x
    → did z y → AllZip did xs ys
last_done did xs ys a b x y z before after most same last =
    subst (λ l. AllZip did l ys) (sym before) (subst (λ l. AllZip did (a ++ x ∷ []) l) (sym after)
    (AllZip-push did a b x y most (subst (λ w. did w y) same last)))
