-- Steps of a batch, one after the other.
use Rattle.std.proofs.Common.{◌≡◌, ℕ, suc, ◌+◌, List, sym, ◌∙◌, subst, arith, Some, slice_get}
use Rattle.vt_shared.specs.Owners.{OwnerView}
use Rattle.vtex_c.specs.declared.settle.VtexStep.{VtexStep}
use Rattle.vtex_c.specs.declared.table.VtexWaiting.{VtexWaiting}
use Rattle.vtex_c.specs.Settlings.{MayMake, IsMade, IsTakenOut, AreMade, AreMadeBy}

-- a step that takes its page out of its frame is made so
pub made_out : (tiles : List ℕ) (s : VtexStep) (a : OwnerView) (before : VtexWaiting) (status : ℕ) (after : VtexWaiting) (b : OwnerView) → s.mapped ≡ 0
    → IsTakenOut s.page s.frame a before status after b → IsMade tiles s a before status after b
made_out tiles s a before status after b out h = record {
  statuses = h.statuses;
  inside = λ e. record {
    tile = λ not. absurd (not out);
    put = λ not. absurd (not out);
    left = λ _. (h.inside e).may;
    at = λ _. (h.inside e).at;
  };
  made = λ e. record { put = λ not. absurd (not out); left = λ _. h.left e };
  unfit = λ e may. h.unfit e record { may = may.left out; at = may.at out };
  same = h.same;
  waits = h.waits;
  awaited = λ e. record {
    written = λ not. absurd (not out);
    unwritten = λ _. h.unwritten e;
    put = λ not. absurd (not out);
    left = λ _. h.awaited e;
  };
  kept = h.kept;
}

-- so many steps, and one more
pub made_more : (steps : List VtexStep) (tiles : List ℕ) (k : ℕ) (s : VtexStep) (a b d : OwnerView) (before : VtexWaiting) (status : ℕ) (after : VtexWaiting)
    → slice_get steps k ≡ Some s → AreMade steps tiles k a b → IsMade tiles s b before status after d → status ≡ 0 → AreMade steps tiles (k + 1) a d
made_more steps tiles k s a b d before status after is so_far made done =
    let next : suc k ≡ k + 1 = omega arith in
    subst (λ (n : ℕ). AreMade steps tiles n a d) next (s, b, is, so_far, made.inside done, made.made done)

-- and one that was not made
pub made_until : (steps : List VtexStep) (tiles : List ℕ) (k : ℕ) (s : VtexStep) (a b d : OwnerView) (first before : VtexWaiting) (status : ℕ) (after : VtexWaiting)
    → slice_get steps k ≡ Some s → AreMade steps tiles k a b → before ≡ first → IsMade tiles s b before status after d → (status ≡ 0 → ⊥)
    → AreMadeBy a steps tiles first status k after d
made_until steps tiles k s a b d first before status after is so_far same made not = record {
  statuses = made.statuses;
  all = λ e. absurd (not e);
  done = λ e. absurd (not e);
  stops = λ e. record {
    so_far = subst (λ (x : OwnerView). AreMade steps tiles k a x) (sym (made.same e)) so_far;
    next = s;
    is_next = is;
    unfit = subst (λ (x : OwnerView). MayMake tiles s x → ⊥) (sym (made.same e)) (made.unfit e);
  };
  waits = λ e. record { between = b; so_far = so_far; next = s; is_next = is; nothing = made.waits e; awaited = made.awaited e };
  kept = λ six. made.kept six ∙ same;
}
