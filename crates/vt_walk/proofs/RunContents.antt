-- The content that tells a run: it is lawful, and grows by a pass.
use Rattle.std.proofs.Common.{◌≡◌, ℕ, ◌+◌, ◌⊎◌, inl, inr, List, [], ◌∷◌, ◌++◌, length, refl, sym, ap, ◌∙◌, subst, append_assoc, length-append, arith}
use Rattle.std.specs.Prelude.{flat_map}
use Rattle.std.proofs.lemmas.List.{append-nil}
use Rattle.std.proofs.lemmas.Grind.{flat_map-append}
use Rattle.vt_pages.specs.Shape.{Shape}
use Rattle.vt_journal.specs.declared.changes.Change.{Change}
use Rattle.vt_journal.specs.Changes.{AreLegal, Pinned}
use Rattle.vt_journal.specs.JournalText.{Pass, changes_of, passes_changes, pinned_changes, head_text, pass_text}
use Rattle.vt_journal.specs.JournalFlaws.{IsLawfulJournal, IsNextPicture}
use Rattle.vt_journal.specs.Following.{AreRowsOf, IsPassAfter, ArePassesAfter}
use Rattle.vt_journal.proofs.Versions.{legal-pinned}
use Rattle.vt_journal.proofs.ByParts.{lawful_by_parts, content_pinned}
use Rattle.vt_journal.proofs.Contents.{content_unique}
use Rattle.vt_walk.specs.Fits.{WalkSetup}
use Rattle.vt_walk.specs.Runs.{WalkPass, IsWalkSetup, journal_after, recency_after, IsStepOf, IsNextPass, IsWalkRun, content_pass, content_passes, run_content, run_text}
use Rattle.vt_walk.proofs.Agreeing.{root_last}
use Rattle.vt_walk.proofs.Eventing.{outcome_follows}
use Rattle.vt_walk.proofs.Running.{run_kept, may_pin, unpinned_victims, batch_is_lawful, batch_may_be_run}

-- the picture of the last pass
last_picture : ℕ → List Pass → ℕ
last_picture before [] = before
last_picture before (q ∷ passes) = last_picture q.picture passes

last_picture-more : (before : ℕ) (passes : List Pass) (p : Pass) → last_picture before (passes ++ p ∷ []) ≡ p.picture
unfolding last_picture
last_picture-more before [] p = refl
last_picture-more before (q ∷ passes) p = last_picture-more q.picture passes p

follow_more : (s : Shape) (height pinned : ℕ) (js : List Change) (n before : ℕ) (passes : List Pass) (p : Pass) (ks : List Change) (m last : ℕ)
    → ks ≡ js ++ passes_changes passes → m ≡ n + length passes → last ≡ last_picture before passes → ArePassesAfter s height pinned js n before passes
    → IsPassAfter s height pinned ks m last p → ArePassesAfter s height pinned js n before (passes ++ p ∷ [])
unfolding last_picture
follow_more s height pinned js n before [] p ks m last changes count picture all one =
    let all_changes : ks ≡ js = changes ∙ append-nil js in
    let all_passes : m ≡ n = omega (arith, count) in (
      subst (λ x. IsPassAfter s height pinned js n x p) picture
          (subst (λ x. IsPassAfter s height pinned js x last p) all_passes
          (subst (λ (x : List Change). IsPassAfter s height pinned x m last p) all_changes one)),
      tt,
    )
follow_more s height pinned js n before (q ∷ passes) p ks m last changes count picture all one = (
  all.0,
  follow_more s height pinned (js ++ changes_of q.events) (n + 1) q.picture passes p ks m last
      (changes ∙ sym (append_assoc js (changes_of q.events) (passes_changes passes))) (omega (arith, count)) picture all.1 one,
)

content_count : (w : WalkSetup) (passes : List WalkPass) → length (content_passes w passes) ≡ length passes
content_count w [] = refl
content_count w (p ∷ passes) = omega (arith, length-append (content_passes w passes) (content_pass w passes p ∷ []), content_count w passes)

pub spelled_changes : (w : WalkSetup) (passes : List WalkPass) → pinned_changes w.shape w.pinned ++ passes_changes (content_passes w passes) ≡ journal_after w passes
spelled_changes w [] = append-nil (pinned_changes w.shape w.pinned)
spelled_changes w (p ∷ passes) =
    ap (λ (cs : List Change). pinned_changes w.shape w.pinned
    ++ cs) (flat_map-append (λ (q : Pass). changes_of q.events) (content_passes w passes) (content_pass w passes p ∷ [])
    ∙ ap (λ (cs : List Change). passes_changes (content_passes w passes) ++ cs) (append-nil (changes_of p.events)))
    ∙ sym (append_assoc (pinned_changes w.shape w.pinned) (passes_changes (content_passes w passes)) (changes_of p.events))
    ∙ ap (λ (cs : List Change). cs ++ changes_of p.events) (spelled_changes w passes)

-- the picture before the next pass
pub before_of : List WalkPass → ℕ
before_of [] = 0
before_of (p ∷ passes) = p.picture

content_picture : (w : WalkSetup) (passes : List WalkPass) → before_of passes ≡ last_picture 0 (content_passes w passes)
unfolding before_of last_picture
content_picture w [] = refl
content_picture w (p ∷ passes) = sym (last_picture-more 0 (content_passes w passes) (content_pass w passes p))

next_picture : (w : WalkSetup) (passes : List WalkPass) (picture : ℕ) → IsStepOf w passes picture → IsNextPicture (length passes) (before_of passes) picture
unfolding before_of
next_picture w [] picture step = record { first = λ none. step; later = λ some. absurd (omega (arith, some)) }
next_picture w (p ∷ passes) picture step = record { first = λ none. absurd (omega (arith, none)); later = λ some. either step.1 } where
  either : {F : Type 0} → (F × (picture ≡ p.picture + 1)) ⊎ ((F → ⊥) × (picture ≡ p.picture)) → (picture ≡ p.picture) ⊎ (picture ≡ p.picture + 1)
  either (inl next) = inr next.1
  either (inr same) = inl same.1

-- a pass by its parts, after a run
pub next_content : (w : WalkSetup) (passes : List WalkPass) (p : WalkPass) → IsWalkSetup w → IsWalkRun w passes → IsNextPass w passes p
    → IsPassAfter w.shape w.height w.pinned (journal_after w passes) (length passes) (before_of passes) (content_pass w passes p)
next_content w passes p h run next =
    let kept = run_kept w passes h run in
    let laws = batch_is_lawful w passes p.batch run kept next.planned in
    record {
      pass_is = refl;
      picture_is = next_picture w passes p.picture next.step;
      start_is = refl;
      events = outcome_follows w.shape w.frames w.pinned (journal_after w passes) p.batch p.losses p.events h.most_frames kept.step
          (batch_may_be_run w passes p.batch run kept next.planned) (unpinned_victims w (recency_after w passes) p.batch kept.shape kept.pinned laws)
          next.outcome;
      rows = subst (λ n. AreRowsOf w.height (length (journal_after w passes)) n p.rows) (length-append (journal_after w passes) (changes_of p.events))
          next.in_order.of_picture;
    }

passes_follow : (w : WalkSetup) (passes : List WalkPass) → IsWalkSetup w → IsWalkRun w passes
    → ArePassesAfter w.shape w.height w.pinned (pinned_changes w.shape w.pinned) 0 0 (content_passes w passes)
passes_follow w [] h run = tt
passes_follow w (p ∷ passes) h run =
    follow_more w.shape w.height w.pinned (pinned_changes w.shape w.pinned) 0 0 (content_passes w passes) (content_pass w passes p) (journal_after w passes)
    (length passes) (before_of passes)
    (sym (spelled_changes w passes)) (omega (arith, content_count w passes)) (content_picture w passes) (passes_follow w passes h run.0)
    (next_content w passes p h run.0 run.1)

pub run_is_lawful : (w : WalkSetup) (passes : List WalkPass) → IsWalkSetup w → IsWalkRun w passes → IsLawfulJournal w.shape w.height (run_content w passes)
run_is_lawful w passes h run = lawful_by_parts w.shape w.height (run_content w passes) (record { head = may_pin w h; passes = passes_follow w passes h run })

pub run_is_pinned : (w : WalkSetup) (passes : List WalkPass) → IsWalkSetup w → IsWalkRun w passes → Pinned w.shape (journal_after w passes) w.pinned
run_is_pinned w passes h run = subst (λ (js : List Change). Pinned w.shape js w.pinned) (spelled_changes w passes)
    (content_pinned w.shape w.height (run_content w passes) (record { head = may_pin w h; passes = passes_follow w passes h run }))

pub run_is_legal : (w : WalkSetup) (passes : List WalkPass) → IsWalkSetup w → IsWalkRun w passes → AreLegal w.shape (journal_after w passes)
run_is_legal w passes h run = legal-pinned w.shape (journal_after w passes) w.pinned (root_last w.shape h.limits) h.some_pinned
    (run_kept w passes h run).step (run_is_pinned w passes h run)

pub text_grows : (w : WalkSetup) (p : WalkPass) (passes : List WalkPass) → run_text w (p ∷ passes) ≡ run_text w passes ++ pass_text w.shape (content_pass w passes p)
text_grows w p passes =
    ap (λ (bs : List ℕ). head_text w.shape w.pinned ++ bs) (flat_map-append (pass_text w.shape) (content_passes w passes) (content_pass w passes p ∷ [])
    ∙ ap (λ (bs : List ℕ). flat_map (pass_text w.shape) (content_passes w passes) ++ bs) (append-nil (pass_text w.shape (content_pass w passes p))))
    ∙ sym (append_assoc (head_text w.shape w.pinned) (flat_map (pass_text w.shape) (content_passes w passes)) (pass_text w.shape (content_pass w passes p)))

pub text_spells : (w : WalkSetup) (a b : List WalkPass) → IsWalkSetup w → IsWalkRun w a → IsWalkRun w b → run_text w a ≡ run_text w b → run_content w a ≡ run_content w b
text_spells w a b h run other same =
    content_unique w.shape w.height (run_content w a) (run_content w b) (omega (arith, h.limits.least_tile)) (run_is_lawful w a h run)
    (run_is_lawful w b h other) same
