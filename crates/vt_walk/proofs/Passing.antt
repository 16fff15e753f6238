-- A pass that was made, or was under way.
use Rattle.std.proofs.Common.{◌≡◌, ℕ, zero, suc, ◌+◌, ◌<◌, ◌≤◌, ◌⊎◌, inl, inr, List, [], ◌∷◌, length, map, sum, Option, Some, None, refl, sym, ap, ◌∙◌, subst, take, arith}
use Rattle.std.specs.Prelude.{option_map, IsSome, is_some}
use Rattle.vt_outside.specs.Counts.{added, Rose, RoseBy}
use Rattle.vt_outside.specs.Files.{Files, Asked, with_appended, IsThere}
use Rattle.vt_outside.specs.declared.answers.OutsideError.{OutsideError}
use Rattle.vt_outside.specs.declared.answers.OutsideError.TheVariants.{Failed, NoMemory}
use Rattle.vt_journal.specs.JournalText.{Pass, pass_text}
use Rattle.vt_journal.specs.Passes.{pass_of as text_of}
use Rattle.vt_evict.specs.PlanTypes.batches.Planned.{Planned}
use Rattle.vt_plan.specs.Views.{RecencyView}
use Rattle.vt_walk_decisions.specs.Outcomes.{lost_count}
use Rattle.vt_walk_decisions.specs.Requests.{FileState, AllKnown, AreSameFiles, ArePartlyReadFor, counts_of}
use Rattle.vt_walk_decisions.specs.Machines.{MachineState}
use Rattle.vt_walk_decisions.specs.declared.error.WalkError.{WalkError}
use Rattle.vt_walk_decisions.specs.declared.error.WalkError.TheVariants as walk_error
use Rattle.vt_walk_decisions.specs.declared.steps.WalkStep.{WalkStep}
use Rattle.vt_walk_decisions.specs.declared.steps.Drawn.{Drawn}
use Rattle.vt_walk_decisions.specs.Refusals.{walk_refusal_by}
use Rattle.vt_walk.specs.DrawnBy.{PictureDrawn}
use Rattle.vt_walk.specs.Runs.{IsStepOf, plan_after, planned_in, lost_in}
use Rattle.vt_walk.specs.Walks.{WalkGiven}
use Rattle.vt_walk.specs.States.{WalkState}
use Rattle.vt_walk.specs.Reads.{AreAskedAtMostFor, OnKnown}
use Rattle.vt_walk.specs.Causes.{HasBroken, IsCausedBy}
use Rattle.vt_walk.specs.WalkSteps.{StandsAtStep, StandsAfter, HasDrawnPass, MayTakeStep, LeftByRefusal}
use Rattle.vt_walk.proofs.Asking.{losses_more}
use Rattle.vt_walk.proofs.Asks.{with_open, pass_asks, pass_asks_most, faults_rise}
use Rattle.vt_walk.proofs.Steps.{pass_journaled, asked_more}
use Rattle.vt_walk.proofs.Failing.{has_broken, faults_rise_more}

-- the state of a walk by what its folder is
abbrev pub state_of : Option Files → Option Asked → ℕ → List ℕ → List FileState → Option (List ℕ) → ℕ → WalkState
state_of files asked faults store opened held out_faults = record {
  files = files;
  held = held;
  faults = added faults (sum (counts_of opened));
  out_faults = out_faults;
  asked = with_open store opened asked;
}

is_known : {X : Type 0} (a b : Option X) → is_some b ≡ is_some a → IsSome a → IsSome b
is_known a b same known = same ∙ known

all_are_known : (xs ys : List FileState) → map (λ (f : FileState). is_some f.asked) ys ≡ map (λ (f : FileState). is_some f.asked) xs → AllKnown xs → AllKnown ys
all_are_known xs [] same all_known = λ k d inside. absurd (omega (arith, inside))
all_are_known [] (y ∷ ys) same all_known = let no : ⊥ = cc in absurd no
all_are_known (x ∷ xs) (y ∷ ys) same all_known =
    let head : is_some y.asked ≡ is_some x.asked = cc in
    let tail : map (λ (f : FileState). is_some f.asked) ys ≡ map (λ (f : FileState). is_some f.asked) xs = cc in
    pick head (all_are_known xs ys tail (λ k d inside. all_known (suc k) d (omega (arith, inside)))) where
      pick : is_some y.asked ≡ is_some x.asked → AllKnown ys → AllKnown (y ∷ ys)
      pick head more zero d inside = is_known x.asked y.asked head (all_known 0 d (omega arith))
      pick head more (suc k) d inside = more k d (omega (arith, inside))

-- a machine may take the step
pub may_draw : (drawn : PictureDrawn) (g : WalkGiven) (number : ℕ) (t : WalkStep) (first now : WalkState) (m : MachineState)
    (v : RecencyView)
    → (s : StandsAtStep drawn g number t first now m v) → t.picture < g.setup.pictures → MayTakeStep g s.run number t m v
may_draw drawn g number t first now m v s more = record { given = s.given; at_run = s.at_run; step = s.step; more = more }

-- files that tell their places still do
pub still_all_known : (old new : List FileState) → AreSameFiles old new → AllKnown old → AllKnown new
still_all_known old new same all_known = all_are_known old new same.all_known all_known

module _ (drawn : PictureDrawn)
    (g : WalkGiven) (number : ℕ) (t : WalkStep) (first : WalkState) (store : List ℕ) (kept : FileState) (held : Option (List ℕ)) (out_faults : ℕ)
    (files : Option Files) (asked : Option Asked) (faults : ℕ) (m n : MachineState) (v u : RecencyView) where
  abbrev was : WalkState
  was = state_of files asked faults store (kept ∷ m.files) held out_faults

  abbrev now : Option Files → ℕ → WalkState
  now new rose = state_of new asked rose store (kept ∷ n.files) held out_faults

  -- the text of the pass is whole
  stands_whole : (new : Option Files) (rose : ℕ) (d : Drawn) (s : StandsAtStep drawn g number t first was m v)
      → HasDrawnPass drawn g s.run t m n u d
      → new ≡ option_map (with_appended g.names.journal (pass_text g.setup.shape (text_of d.text))) files
      → (IsThere files g.names.journal → IsThere new g.names.journal) → faults ≤ rose
      → StandsAfter drawn g number d.passed first (now new rose) n u
  stands_whole new rose d s h written there risen =
      let count = h.picture ∙ s.count in
      let fault = faults_rise (lost_count h.pass.losses) faults kept.faults (counts_of m.files) (counts_of n.files) h.read.faults in
      record {
        run = s.run;
        pass = h.pass;
        pictures = s.pictures;
        count = count;
        given = s.given;
        stands = pass_journaled drawn g h.pass s.run s.pictures first was (now new rose) s.stands h.next count
            (written ∙ ap (λ (p : Pass). option_map (with_appended g.names.journal (pass_text g.setup.shape p)) files) h.text)
            (there s.stands.there) refl
            (pass_asks g.scene.shape g.scene.depth h.pass.batch h.pass.losses store kept m.files n.files asked s.all_known h.read)
            (omega (arith, fault, risen)) (omega arith);
        at_run = h.at_run;
        passed = h.passed;
        has_run = h.has_run;
        number_is = s.step.number_is;
        all_known = λ known. still_all_known m.files n.files h.read.same (s.all_known (still_known asked known));
      } where
        still_known : (asked : Option Asked) → IsSome (with_open store (kept ∷ n.files) asked) → IsSome (with_open store (kept ∷ m.files) asked)
        still_known None known = known
        still_known (Some places) known = refl

  pub pass_made : (new : Option Files) (later : Option Asked) (rose : ℕ) (d : Drawn) (s : StandsAtStep drawn g number t first was m v)
      → HasDrawnPass drawn g s.run t m n u d
      → new ≡ option_map (with_appended g.names.journal (pass_text g.setup.shape (text_of d.text))) files
      → (IsThere files g.names.journal → IsThere new g.names.journal) → later ≡ asked → faults ≤ rose
      → StandsAfter drawn g number d.passed first (state_of new later rose store (kept ∷ n.files) held out_faults) n u
  pass_made new later rose d s h written there same risen =
      subst (λ (a : Option Asked). StandsAfter drawn g number d.passed first (state_of new a rose store (kept ∷ n.files) held out_faults) n u)
      (sym same) (stands_whole new rose d s h written there risen)

  -- the pass could not be drawn, or not be planned after
  pub pass_broke : (s : StandsAtStep drawn g number t first was m v) → t.picture < g.setup.pictures
      → ArePartlyReadFor g.scene.shape g.scene.depth t.batch.elements m.files n.files
      → (e : WalkError) → e ≡ walk_error.NoMemory → LeftByRefusal drawn g first (now files faults) e
  pass_broke s more read e is =
      let fault = faults_rise (length read.lost) faults kept.faults (counts_of m.files) (counts_of n.files) read.faults in
      let asks : OnKnown (AreAskedAtMostFor g.scene.shape g.scene.depth 0 (plan_after g.setup s.run)) (with_open store (kept ∷ m.files) asked)
      (with_open store (kept ∷ n.files) asked) =
      subst (λ (batch : List Planned). OnKnown (AreAskedAtMostFor g.scene.shape g.scene.depth 0 batch) (with_open store (kept ∷ m.files) asked)
      (with_open store (kept ∷ n.files) asked))
      s.step.batch (pass_asks_most g.scene.shape g.scene.depth t.batch.elements store kept m.files n.files asked s.all_known read) in (
        inr (record {
          run = s.run;
          pictures = s.pictures;
          mid = was;
          stands = s.stands;
          front = inr (inl (record {
            step = subst (IsStepOf g.setup s.run) s.count s.step.step;
            of_path = let c = s.count in omega (arith, c, more);
            files = refl;
            held = refl;
            asked = asks;
            faults = omega (arith, fault);
            out_faults = omega arith;
          }));
        }),
        subst (IsCausedBy drawn g first (now files faults)) (sym is) tt,
      )

  -- a prefix of the pass's text is there
  text_left : (new : Option Files) (rose : ℕ) (d : Drawn) (error : OutsideError) (s : StandsAtStep drawn g number t first was m v)
      → HasDrawnPass drawn g s.run t m n u d
      → (new ≡ files) ⊎ ((k : ℕ) × (new ≡ option_map (with_appended g.names.journal (take k (pass_text g.setup.shape (text_of d.text)))) files))
      → faults ≤ rose → (error ≡ Failed → IsThere files g.names.journal → Rose faults rose)
      → LeftByRefusal drawn g first (now new rose) (walk_refusal_by error)
  text_left new rose d error s h part risen failed =
      let count = h.picture ∙ s.count in
      let fault = faults_rise (lost_count h.pass.losses) faults kept.faults (counts_of m.files) (counts_of n.files) h.read.faults in
      let asks = pass_asks g.scene.shape g.scene.depth h.pass.batch h.pass.losses store kept m.files n.files asked s.all_known h.read in (
        inr (record {
          run = s.run;
          pictures = s.pictures;
          mid = was;
          stands = s.stands;
          front = inr (inr (inl (record {
            next = h.pass;
            comes_next = h.next;
            picture_is = count;
            files = subst (λ (p : Pass). (new ≡ files) ⊎ ((k : ℕ)
                × (new ≡ option_map (with_appended g.names.journal (take k (pass_text g.setup.shape p))) files))) h.text part;
            held = refl;
            asked = asks;
            faults = omega (arith, fault, risen);
            out_faults = omega arith;
          })));
        }),
        cause error failed,
      ) where
        lost : RoseBy (lost_count h.pass.losses + 1) (added faults (sum (kept.faults ∷ counts_of m.files))) (added rose (sum (kept.faults ∷ counts_of n.files)))
            → HasBroken g first (now new rose)
        lost more =
            let add = losses_more g.setup h.pass s.run (s.stands.is_run, h.next) in
            let before = s.stands.faults in
            has_broken g (planned_in (h.pass ∷ s.run)) (lost_in (h.pass ∷ s.run)) first (now new rose) s.given
            (asked_more g.scene.shape g.scene.depth g.setup.pinned h.pass s.run first.asked was.asked (with_open store (kept ∷ n.files) asked) s.stands.asked
            (pass_asks g.scene.shape g.scene.depth h.pass.batch h.pass.losses store kept m.files n.files asked s.all_known h.read))
            (omega (arith, add, before, more))

        cause : (error : OutsideError) → (error ≡ Failed → IsThere files g.names.journal → Rose faults rose)
            → IsCausedBy drawn g first (now new rose) (walk_refusal_by error)
        cause NoMemory failed = tt
        cause Failed failed = inl (lost (faults_rise_more (lost_count h.pass.losses) faults rose kept.faults (counts_of m.files) (counts_of n.files)
            h.read.faults (failed refl s.stands.there)))

  pub text_broke : (new : Option Files) (later : Option Asked) (rose : ℕ) (d : Drawn) (error : OutsideError) (e : WalkError)
      (s : StandsAtStep drawn g number t first was m v) → HasDrawnPass drawn g s.run t m n u d
      → (new ≡ files) ⊎ ((k : ℕ) × (new ≡ option_map (with_appended g.names.journal (take k (pass_text g.setup.shape (text_of d.text)))) files))
      → later ≡ asked → faults ≤ rose → (error ≡ Failed → IsThere files g.names.journal → Rose faults rose) → e ≡ walk_refusal_by error
      → LeftByRefusal drawn g first (state_of new later rose store (kept ∷ n.files) held out_faults) e
  text_broke new later rose d error e s h part same risen failed is =
      subst (λ (x : WalkError). LeftByRefusal drawn g first (state_of new later rose store (kept ∷ n.files) held out_faults) x) (sym is)
      (subst (λ (a : Option Asked). LeftByRefusal drawn g first (state_of new a rose store (kept ∷ n.files) held out_faults) (walk_refusal_by error)) (sym same)
      (text_left new rose d error s h part risen failed))
