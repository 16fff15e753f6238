-- Results that are applied one after another.
use Rattle.std.proofs.Common.{ℕ, List, [], ◌∷◌, ◌++◌, refl, sym, subst, append_assoc}
use Rattle.std.proofs.lemmas.List.{append-nil}
use Rattle.vt_requests.specs.PlanTypes.batches.Planned.{Planned}
use Rattle.vt_queue.specs.declared.items.Loaded.{Loaded}
use Rattle.vt_streaming.specs.Applied.{IsApplied, AreApplied}

module _ {W : Type 0} (put : Planned → List ℕ → W → W → Type 0) (batch : List Planned) where
  -- and one more
  pub applied_more : (results : List Loaded) (x : Loaded) (u v w : W) → AreApplied put batch results u v → IsApplied put batch x v w
      → AreApplied put batch (results ++ x ∷ []) u w
  applied_more [] x u v w none one = (w, subst (λ (z : W). IsApplied put batch x z w) none one, refl)
  applied_more (y ∷ results) x u v w all one = (all.0, all.1, applied_more results x all.0 v w all.2 one)

  -- what is so of none, and of one more where it is so of some, is so of all
  module _ (P : List Loaded → W → Type 0)
      (more : (results : List Loaded) (x : Loaded) (v w : W) → P results v → IsApplied put batch x v w → P (results ++ x ∷ []) w) where
    so_of_more : (before results : List Loaded) (v w : W) → P before v → AreApplied put batch results v w → P (before ++ results) w
    so_of_more before [] v w so none = subst (λ (l : List Loaded). P l w) (sym (append-nil before)) (subst (P before) (sym none) so)
    so_of_more before (x ∷ results) v w so all =
        subst (λ (l : List Loaded). P l w) (append_assoc before (x ∷ []) results)
        (so_of_more (before ++ x ∷ []) results all.0 w (more before x v all.0 so all.1) all.2)

    pub so_of_all : (results : List Loaded) (v w : W) → P [] v → AreApplied put batch results v w → P results w
    so_of_all results v w so all = so_of_more [] results v w so all
