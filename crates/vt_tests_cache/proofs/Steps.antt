-- What may be done to small page tables.
use Rattle.std.proofs.Common.{◌≡◌, ℕ, Option, Some, None, List, [], ◌∷◌, inl, inr, refl, sym, ap, ◌∙◌, subst, arith}
use Rattle.vt_pictures.specs.JournalTypes.changes.Change.{Change}
use Rattle.vt_pictures.specs.JournalTypes.changes.Change.TheVariants.{Map}
use Rattle.vt_pictures.specs.Changes.{at, newest, IsNext}
use Rattle.vt_pictures.proofs.Versions.{newest-none, newest-more, mapped_after_map}
use Rattle.vt_swap.specs.Streamers.{MayBring}

none_some : (x : ℕ) (o : Option ℕ) → o ≡ None → o ≡ Some x → ⊥
none_some x None is e = cc
none_some x (Some y) is e = cc

-- the root may be mapped first
pub root_may : (js : List Change) → js ≡ [] → IsNext (newest js) (Map 4 0)
root_may js is = subst (λ (l : List Change). IsNext (newest l) (Map 4 0)) (sym is) (newest-none 4, λ p e. none_some 0 (newest [] p) (newest-none p) e)

no_frame : (p : ℕ) → newest (Map 4 0 ∷ []) p ≡ Some 1 → ⊥
no_frame p e =
    let by : newest (Map 4 0 ∷ []) p ≡ Some 1 = e in
    elim (mapped_after_map (newest []) 4 0 p 1 (sym (ap (λ m. m p) (newest-more [] (Map 4 0))) ∙ by)) [
      | inl h ↦ absurd (omega (arith, h.1))
      | inr h ↦ none_some 1 (newest [] p) (newest-none p) h.1
    ]

-- then page 2 may be brought into frame 1
pub first_may : (js : List Change) → js ≡ Map 4 0 ∷ [] → MayBring (newest js) 2 1 None
unfolding at
first_may js is =
    subst (λ (l : List Change). MayBring (newest l) 2 1 None) (sym is) (record { unmapped = refl; place = no_frame })

-- and then page 0 in its place
pub second_may : (js : List Change) → js ≡ Map 4 0 ∷ Map 2 1 ∷ [] → MayBring (newest js) 0 1 (Some 2)
unfolding at
second_may js is =
    subst (λ (l : List Change). MayBring (newest l) 0 1 (Some 2)) (sym is) (record { unmapped = refl; place = refl })
