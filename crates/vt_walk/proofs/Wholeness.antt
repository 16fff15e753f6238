-- What a finished picture of a settled run shows, and which pictures fit.
use Rattle.std.proofs.Common.{◌≡◌, ℕ, ◌+◌, ◌-◌, ◌≤◌, Bool, true, false, ◌||◌, nat_eq, nat_lt, nat_le, List, [], ◌∷◌, ◌++◌, Option, Some, None, inl, inr, ◌⊎◌, refl, sym, ap, ◌∙◌, subst, arith}
use Rattle.std.specs.Prelude.{Contains, IsSome, count_by, not}
use Rattle.std.proofs.lemmas.Bool.{false≢true}
use Rattle.std.proofs.lemmas.Bool.Decides.{nat_tests}
use Rattle.std.proofs.lemmas.List.{append-nil}
use Rattle.vt_pages.specs.Pages.{pages_of, root_of}
use Rattle.vt_journal.specs.declared.changes.Change.{Change}
use Rattle.vt_journal.specs.declared.changes.Event.{Event}
use Rattle.vt_journal.specs.Changes.{newest}
use Rattle.vt_journal.specs.JournalText.{changes_of}
use Rattle.vt_feedback.specs.declared.Wanted.{Wanted}
use Rattle.vt_feedback.specs.Wants.{pages_wanted, IsWants}
use Rattle.vt_plan.specs.Orders.{line_pages}
use Rattle.vt_evict.specs.PageLists.{is_in}
use Rattle.vt_plan.specs.Views.{RecencyView, first_view, pages_needed}
use Rattle.vt_evict.specs.Missing.{has_frame}
use Rattle.vt_evict.proofs.SettleLemmas.{self_eq, contains_head}
use Rattle.vt_walk_decisions.specs.Passes.{MapsNeeded}
use Rattle.vt_walk_decisions.proofs.Settled.{no_events}
use Rattle.vt_walk_decisions.specs.declared.mode.Mode.{Mode}
use Rattle.vt_walk_decisions.specs.declared.mode.Mode.TheVariants.{Settled}
use Rattle.vt_walk.specs.Fits.{WalkSetup, NeedsFrames, PictureFits, DoesNotFit}
use Rattle.vt_walk.specs.Runs.{WalkPass, IsWalkSetup, journal_after, recency_after, plan_after, Finishes, IsFinished, WalkGoesOn, IsWalkRun}
use Rattle.vt_walk.specs.Agreements.{entry_number_of}
use Rattle.vt_walk.proofs.Agreeing.{root_last}
use Rattle.vt_walk.proofs.Running.{run_kept}
use Rattle.vt_walk.proofs.Finishing.{wants_one, mapped_if_none}

pub mapped_some : (o : Option ℕ) → nat_lt 0 (entry_number_of o) ≡ true → IsSome o
mapped_some None e = absurd (false≢true e)
mapped_some (Some f) e = refl

in_pages : (wants : List Wanted) (w : Wanted) → Contains wants w → is_in (pages_wanted wants) w.page ≡ true
in_pages [] w there = absurd (omega (arith, there.1))
in_pages (x ∷ wants) w there = pick (contains_head x wants w there) (in_pages wants w) where
  or_true : (b c : Bool) → c ≡ true → (b || c) ≡ true
  or_true true c e = refl
  or_true false c e = e

  or_false : (b c : Bool) → b ≡ true → (b || c) ≡ true
  or_false true c e = refl
  or_false false c e = absurd (false≢true e)

  pick : (x ≡ w) ⊎ Contains wants w → (Contains wants w → is_in (pages_wanted wants) w.page ≡ true)
      → (nat_eq w.page x.page || is_in (pages_wanted wants) w.page) ≡ true
  pick (inl same) rest = or_false (nat_eq w.page x.page) (is_in (pages_wanted wants) w.page) (ap (λ (y : Wanted). nat_eq w.page y.page) same ∙ self_eq w.page)
  pick (inr later) rest = or_true (nat_eq w.page x.page) (is_in (pages_wanted wants) w.page) (rest later)

-- how many pages are needed depends on the pages and on how many are pinned alone
pub needed_same : (v u : RecencyView) (wants : List Wanted) → v.shape ≡ u.shape → v.pinned ≡ u.pinned → pages_needed v wants ≡ pages_needed u wants
unfolding pages_needed
needed_same v u wants shape pinned = λ i. count_by (λ p. not (nat_le (pages_of (shape i)) (p + pinned i))) (line_pages (shape i) (pages_wanted wants))

pub needs_one : (w : WalkSetup) (picture n m : ℕ) → NeedsFrames w picture n → NeedsFrames w picture m → n ≡ m
needs_one w picture n m a b =
    a.count ∙ ap (pages_needed (first_view w.shape w.frames w.pinned)) (wants_one w.shape (w.needs picture) a.wants b.wants a.wanted b.wanted) ∙ sym b.count

pub fits_or_not : (w : WalkSetup) (picture n : ℕ) → PictureFits w picture → DoesNotFit w picture n → ⊥
fits_or_not w picture n f d = absurd (omega (arith, f.room, d.no_room, needs_one w picture f.needed n f.pages d.pages))

-- how many pages a pass's wanted list needs
pub needs_of : (w : WalkSetup) (v : RecencyView) (picture : ℕ) (wants : List Wanted) → v.shape ≡ w.shape → v.pinned ≡ w.pinned
    → IsWants w.shape (w.needs picture) wants
    → NeedsFrames w picture (pages_needed v wants)
unfolding first_view
needs_of w v picture wants shape pinned wanted = record {
  wants = wants;
  wanted = wanted;
  count = needed_same v (first_view w.shape w.frames w.pinned) wants shape pinned;
}

pub pin_true : (m n : ℕ) → m ≤ n → nat_le m n ≡ true
pin_true m n h = grind (arith, nat_tests)

pub finished_maps_needed : (w : WalkSetup) (p : WalkPass) (passes : List WalkPass) → IsWalkSetup w → IsWalkRun w (p ∷ passes) → w.mode ≡ Settled
    → WalkGoesOn w.mode w p → IsFinished w p passes → MapsNeeded w.shape (newest (journal_after w passes)) (w.needs p.picture)
finished_maps_needed w p passes h run mode go finished =
    let kept = run_kept w (p ∷ passes) h run in
    let v = recency_after w (p ∷ passes) in
    let goes : WalkGoesOn Settled w p = subst (λ (m : Mode). WalkGoesOn m w p) mode go in
    let done : Finishes Settled p.batch (plan_after w (p ∷ passes)) = subst (λ (m : Mode). Finishes m p.batch (plan_after w (p ∷ passes))) mode finished in
    let same : journal_after w (p ∷ passes) ≡ journal_after w passes =
    ap (λ (es : List Event). journal_after w passes ++ changes_of es) (no_events p.batch p.losses p.events done.0 run.1.outcome)
    ∙ append-nil (journal_after w passes) in
    let fit = goes.1 in
    let count : pages_needed (recency_after w (p ∷ passes)) p.wants ≡ fit.needed =
    needs_one w p.picture (pages_needed (recency_after w (p ∷ passes)) p.wants) fit.needed
    (needs_of w (recency_after w (p ∷ passes)) p.picture p.wants kept.shape kept.pinned run.1.wanted) fit.pages in
    let fits : pages_needed (recency_after w (p ∷ passes)) p.wants ≤ (recency_after w (p ∷ passes)).frames - (recency_after w (p ∷ passes)).pinned =
    omega (arith, count, fit.room, kept.frames, kept.pinned) in
    let pages : pages_of (recency_after w (p ∷ passes)).shape ≡ pages_of w.shape = ap pages_of kept.shape in
    let held : (q : ℕ) → has_frame (recency_after w (p ∷ passes)).entries q ≡ true → IsSome (newest (journal_after w passes) q) =
    λ q is. subst (λ (js : List Change). IsSome (newest js q)) same
    (mapped_some (newest (journal_after w (p ∷ passes)) q) (ap (nat_lt 0) (sym (kept.agrees q)) ∙ is)) in
    let last = root_last w.shape h.limits in
    record {
      root = held (root_of w.shape) (kept.table.pinned_mapped (root_of w.shape) (omega (arith, last, pages))
          (pin_true (pages_of (recency_after w (p ∷ passes)).shape) (root_of w.shape + (recency_after w (p ∷ passes)).pinned)
          (omega (arith, last, pages, kept.pinned, h.some_pinned))));
      needed_mapped = λ q inside needed.
          let wanted : Wanted = record { page = q; pixels = w.needs p.picture q } in
          let there = (run.1.wanted.exact wanted).1 (record { inside = inside; some = omega (arith, needed); all = refl }) in
          held q (mapped_if_none (recency_after w (p ∷ passes)) p.wants w.most q kept.table h.some_entry done.1 fits (omega (arith, inside, pages))
          (in_pages p.wants wanted there));
    }
