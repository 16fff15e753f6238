-- A settled run has its pictures, each finished.
use Rattle.std.proofs.Common.{◌≡◌, ◌≢◌, ℕ, ◌+◌, ◌<◌, ◌≤◌, ◌⊎◌, inl, inr, Bool, true, false, cond, nat_lt, Option, None, Some, List, [], ◌∷◌, ◌++◌, refl, sym, ap, ◌∙◌, subst, arith}
use Rattle.std.specs.List.{AllByRecursion}
use Rattle.std.specs.Prelude.{IsSome}
use Rattle.std.proofs.lemmas.Bool.{false≢true, cases_lt}
use Rattle.std.proofs.lemmas.Bool.Decides.{nat_tests}
use Rattle.vt_machine.specs.Changes.{newest}
use Rattle.vt_walk.specs.WalkDecisionsTypes.mode.Mode.TheVariants.{Settled}
use Rattle.vt_walk.specs.Fits.{WalkSetup}
use Rattle.vt_walk.specs.Runs.{WalkPass, IsWalkSetup, IsFinished, IsPictureAfter, WalkGoesOn, IsWalkRun, IsWhole, journal_after}
use Rattle.vt_walk.specs.Logs.{passes_of}
use Rattle.vt_walk_laws.specs.PassCounts.{IsAtPictureEnd, HasPicture, mapped_after}
use Rattle.vt_walk.specs.Agreements.{entry_number_of}
use Rattle.vt_walk.proofs.Running.{run_kept}
use Rattle.vt_walk.proofs.Showing.{other_number}

-- a run without a pass of another picture
skipped : (p : WalkPass) (passes : List WalkPass) (k : ℕ) → p.picture ≢ k → passes_of k (p ∷ passes) ≡ passes_of k passes
skipped p passes k other = ap (λ (b : Bool). cond b (p ∷ passes_of k passes) (passes_of k passes)) (other_number p.picture k other)

-- no pass is of a picture after that of the newest one
none_above : (w : WalkSetup) (q : WalkPass) (rest : List WalkPass) (k : ℕ) → IsWalkRun w (q ∷ rest) → q.picture < k → passes_of k (q ∷ rest) ≡ []
none_above w q [] k run below = skipped q [] k (λ same. absurd (omega (arith, same, below)))
none_above w q (r ∷ rest) k run below =
    skipped q (r ∷ rest) k (λ same. absurd (omega (arith, same, below))) ∙ none_above w r rest k run.0 (pick run.1.step.1) where
      pick : IsPictureAfter (IsFinished w r rest) r.picture q.picture → r.picture < k
      pick (inl next) = omega (arith, next.1, below)
      pick (inr on) = omega (arith, on.1, below)

-- the passes of the newest pass's picture
record IsSplit (passes : List WalkPass) (picture : ℕ) : Type 0 where
  pub later : List WalkPass
  pub first : WalkPass
  pub before : List WalkPass
  pub whole : passes ≡ later ++ first ∷ before
  pub number : first.picture ≡ picture
  pub later_passes : AllByRecursion (λ p. p.picture ≡ first.picture) later
  pub first_pass : passes_of first.picture before ≡ []

split : (w : WalkSetup) (p : WalkPass) (passes : List WalkPass) → IsWalkRun w (p ∷ passes) → IsSplit (p ∷ passes) p.picture
split w p [] run = record { later = []; first = p; before = []; whole = refl; number = refl; later_passes = tt; first_pass = refl }
split w p (q ∷ rest) run = pick run.1.step.1 (split w q rest run.0) where
  pick : IsPictureAfter (IsFinished w q rest) q.picture p.picture → IsSplit (q ∷ rest) q.picture → IsSplit (p ∷ q ∷ rest) p.picture
  pick (inl next) s = record {
    later = [];
    first = p;
    before = q ∷ rest;
    whole = refl;
    number = refl;
    later_passes = tt;
    first_pass = none_above w q rest p.picture run.0 (omega (arith, next.1));
  }
  pick (inr on) s = record {
    later = p ∷ s.later;
    first = s.first;
    before = s.before;
    whole = ap (λ (l : List WalkPass). p ∷ l) s.whole;
    number = s.number ∙ sym on.1;
    later_passes = (on.1 ∙ sym s.number, s.later_passes);
    first_pass = s.first_pass;
  }

pub newest_picture : (w : WalkSetup) (p : WalkPass) (passes : List WalkPass) → IsWalkSetup w → w.mode ≡ Settled → IsWalkRun w (p ∷ passes) → WalkGoesOn w.mode w p
    → IsFinished w p passes
    → HasPicture w (p ∷ passes) p.picture
newest_picture w p passes h mode run goes finished =
    let s = split w p passes run in
    let end : IsAtPictureEnd w (p ∷ passes) = (goes, finished) in
    record {
      later = s.later;
      first = s.first;
      before = s.before;
      finished = record {
        setup = h;
        settled = mode;
        run = subst (IsWalkRun w) s.whole run;
        later_passes = s.later_passes;
        first_pass = s.first_pass;
        end = subst (IsAtPictureEnd w) s.whole end;
      };
      number = s.number;
      passes_are = ap (passes_of p.picture) s.whole ∙ ap (λ k. passes_of k (s.later ++ s.first ∷ s.before)) (sym s.number);
    }

-- one pass more, of another picture
more_passes : (w : WalkSetup) (p : WalkPass) (passes : List WalkPass) (k : ℕ) → p.picture ≢ k → HasPicture w passes k → HasPicture w (p ∷ passes) k
more_passes w p passes k other s = record {
  later = s.later;
  first = s.first;
  before = s.before;
  finished = s.finished;
  number = s.number;
  passes_are = skipped p passes k other ∙ s.passes_are;
}

pub earlier_picture : (w : WalkSetup) (p : WalkPass) (passes : List WalkPass) (k : ℕ) → IsWalkSetup w → w.mode ≡ Settled → IsWalkRun w (p ∷ passes) → k < p.picture
    → HasPicture w (p ∷ passes) k
earlier_picture w p [] k h mode run below = absurd (let first = run.1.step in omega (arith, first, below))
earlier_picture w p (q ∷ rest) k h mode run below =
    more_passes w p (q ∷ rest) k (λ same. absurd (omega (arith, same, below))) (pick run.1.step.1 (earlier_picture w q rest k h mode run.0)) where
      at : IsFinished w q rest → (k < q.picture → HasPicture w (q ∷ rest) k) → k ≤ q.picture → (k < q.picture) ⊎ (q.picture ≤ k) → HasPicture w (q ∷ rest) k
      at finished before most (inl earlier) = before earlier
      at finished before most (inr least) =
          let same : q.picture ≡ k = omega (arith, most, least) in
          subst (HasPicture w (q ∷ rest)) same (newest_picture w q rest h mode run.0 run.1.step.0 finished)

      pick : IsPictureAfter (IsFinished w q rest) q.picture p.picture → (k < q.picture → HasPicture w (q ∷ rest) k) → HasPicture w (q ∷ rest) k
      pick (inl next) before = at next.0 before (omega (arith, next.1, below)) (cases_lt k q.picture)
      pick (inr on) before = before (omega (arith, on.1, below))

pub whole_picture : (w : WalkSetup) (passes : List WalkPass) (k : ℕ) → IsWalkSetup w → w.mode ≡ Settled → IsWalkRun w passes → IsWhole w passes
    → k < w.pictures → HasPicture w passes k
whole_picture w [] k h mode run whole below = absurd (omega (arith, whole, below))
whole_picture w (p ∷ passes) k h mode run whole below = pick (cases_lt k p.picture) where
  pick : (k < p.picture) ⊎ (p.picture ≤ k) → HasPicture w (p ∷ passes) k
  pick (inl earlier) = earlier_picture w p passes k h mode run earlier
  pick (inr least) =
      let same : p.picture ≡ k = omega (arith, whole.2, below, least) in
      subst (HasPicture w (p ∷ passes)) same (newest_picture w p passes h mode run whole.0 whole.1)

-- a page is mapped where it is in the journal's newest version
pub mapped_is : (w : WalkSetup) (passes : List WalkPass) (page : ℕ) → IsWalkSetup w → IsWalkRun w passes → mapped_after w passes page ≡ true
    → IsSome (newest (journal_after w passes) page)
mapped_is w passes page h run high =
    some (newest (journal_after w passes) page) (ap (nat_lt 0) (sym ((run_kept w passes h run).agrees page)) ∙ high) where
      some : (o : Option ℕ) → nat_lt 0 (entry_number_of o) ≡ true → IsSome o
      some None e = absurd (false≢true e)
      some (Some f) e = refl

pub unmapped_is : (w : WalkSetup) (passes : List WalkPass) (page : ℕ) → IsWalkSetup w → IsWalkRun w passes → mapped_after w passes page ≡ false
    → newest (journal_after w passes) page ≡ None
unmapped_is w passes page h run low =
    none (newest (journal_after w passes) page) (ap (nat_lt 0) (sym ((run_kept w passes h run).agrees page)) ∙ low) where
      above : (f : ℕ) → nat_lt 0 (f + 1) ≡ true
      above f = grind (arith, nat_tests)

      none : (o : Option ℕ) → nat_lt 0 (entry_number_of o) ≡ false → o ≡ None
      none None e = refl
      none (Some f) e = absurd (false≢true (sym e ∙ above f))
