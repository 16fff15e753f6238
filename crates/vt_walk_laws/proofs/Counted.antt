-- What the passes of a finished settled picture loaded together.
use Rattle.std.proofs.Common.{◌≡◌, ℕ, Bool, true, false, not, cond, ◌&&◌, ◌||◌, ◌==◌, List, [], ◌∷◌, ◌++◌, length, refl, sym, ap, ◌∙◌, subst, arith}
use Rattle.std.specs.Prelude.{nat_eq}
use Rattle.std.specs.List.{AllByRecursion, filter, IsDistinct}
use Rattle.std.proofs.lemmas.Bool.{false≢true}
use Rattle.std.proofs.lemmas.Grind.{flat_map-append}
use Rattle.std.proofs.lemmas.List.{append-nil, map-append}
use Rattle.vt_walk.specs.FeedbackTypes.Wanted.{Wanted}
use Rattle.vt_machine.specs.PlanTypes.batches.Planned.{Planned}
use Rattle.vt_machine.specs.PageLists.{is_in}
use Rattle.vt_machine.proofs.ListLemmas.{is_in-append, distinct-append}
use Rattle.vt_machine.proofs.PlanListLemmas.{is_in-filter, filter_twice, filter_same, filter_all, all_true}
use Rattle.vt_machine.proofs.SettleLemmas.{same_bool}
use Rattle.vt_machine.specs.Outcomes.{lost_count}
use Rattle.vt_walk.specs.WalkDecisionsTypes.mode.Mode.{Mode}
use Rattle.vt_walk.specs.WalkDecisionsTypes.mode.Mode.TheVariants.{Settled}
use Rattle.vt_walk.specs.Fits.{WalkSetup, PictureFits}
use Rattle.vt_walk.specs.Runs.{WalkPass, IsWalkSetup, plan_after, Finishes, IsFinished, IsWalkRun, planned_in}
use Rattle.vt_walk.specs.Logs.{passes_of}
use Rattle.vt_walk_laws.specs.PassCounts.{picture_pages, batch_pages, IsAtPictureEnd, IsFinishedPicture}
use Rattle.vt_walk.proofs.Showing.{self_number}
use Rattle.vt_walk.proofs.Stepping.{settled_step, first_step}
use Rattle.vt_walk_laws.proofs.Frames.{first_true, second_true, not_true}
use Rattle.vt_walk_laws.proofs.Loading.{to_load_after, IsLoading, loading, fits_of, done}

-- the newest of a picture's passes
abbrev pub newest_of : List WalkPass → WalkPass → WalkPass
newest_of [] first = first
newest_of (p ∷ later) first = p

-- what the later passes of a picture have loaded of its pages
pub record HaveLoaded (w : WalkSetup) (later : List WalkPass) (first : WalkPass) (before : List WalkPass) : Type 0 where
  pub wants : (newest_of later first).wants ≡ first.wants
  pub left : to_load_after w (later ++ first ∷ before) first.wants ≡ filter (λ x. not (is_in (batch_pages (planned_in later)) x)) (picture_pages w first before)
  pub asked : (x : ℕ) → is_in (batch_pages (planned_in later)) x ≡ true → is_in (picture_pages w first before) x ≡ true
  pub once : IsDistinct nat_eq (batch_pages (planned_in later))

nor : (b c : Bool) → (not c && not b) ≡ not (b || c)
nor true true = refl
nor true false = refl
nor false true = refl
nor false false = refl

batch_pages-append : (a b : List Planned) → batch_pages (a ++ b) ≡ batch_pages a ++ batch_pages b
batch_pages-append a b = map-append (λ (e : Planned). e.page) a b

in_batches : (a b : List Planned) (x : ℕ) → is_in (batch_pages (a ++ b)) x ≡ (is_in (batch_pages a) x || is_in (batch_pages b) x)
in_batches a b x = ap (λ (l : List ℕ). is_in l x) (batch_pages-append a b) ∙ is_in-append (batch_pages a) (batch_pages b) x

loaded_none : (w : WalkSetup) (first : WalkPass) (before : List WalkPass) → HaveLoaded w [] first before
unfolding IsDistinct
loaded_none w first before = record {
  wants = refl;
  left = sym (filter_all (λ (x : ℕ). true) (picture_pages w first before) (all_true (picture_pages w first before)));
  asked = λ x there. absurd (false≢true there);
  once = tt;
}

-- one pass more, after a pass and the rest of the run
more_left : (w : WalkSetup) (p q : WalkPass) (rest later : List WalkPass) (first : WalkPass) (before : List WalkPass) → IsLoading w p q rest
    → q.wants ≡ first.wants
    → to_load_after w (q ∷ rest) first.wants ≡ filter (λ x. not (is_in (batch_pages (planned_in later)) x)) (picture_pages w first before)
    → to_load_after w (p ∷ q ∷ rest) first.wants ≡ filter (λ x. not (is_in (batch_pages (planned_in (p ∷ later))) x)) (picture_pages w first before)
more_left w p q rest later first before l same left =
    subst (λ (ws : List Wanted). to_load_after w (p ∷ q ∷ rest) ws ≡ filter (λ x. not (is_in (batch_pages p.batch) x))
    (to_load_after w (q ∷ rest) ws)) same l.left
    ∙ ap (filter (λ x. not (is_in (batch_pages p.batch) x))) left
    ∙ filter_twice (λ x. not (is_in (batch_pages p.batch) x)) (λ x. not (is_in (batch_pages (planned_in later)) x)) (picture_pages w first before)
    ∙ filter_same _ _ (picture_pages w first before) (λ x. nor (is_in (batch_pages p.batch) x) (is_in (batch_pages (planned_in later)) x)
    ∙ ap not (sym (in_batches p.batch (planned_in later) x)))

-- the pages of its batch were left to load
more_parts : (w : WalkSetup) (p q : WalkPass) (rest later : List WalkPass) (first : WalkPass) (before : List WalkPass) (x : ℕ) → IsLoading w p q rest
    → q.wants ≡ first.wants
    → to_load_after w (q ∷ rest) first.wants ≡ filter (λ x. not (is_in (batch_pages (planned_in later)) x)) (picture_pages w first before)
    → is_in (batch_pages p.batch) x ≡ true → (is_in (picture_pages w first before) x && not (is_in (batch_pages (planned_in later)) x)) ≡ true
more_parts w p q rest later first before x l same left there =
    sym (is_in-filter (λ x. not (is_in (batch_pages (planned_in later)) x)) (picture_pages w first before) x)
    ∙ ap (λ (k : List ℕ). is_in k x) (sym left)
    ∙ ap (λ (ws : List Wanted). is_in (to_load_after w (q ∷ rest) ws) x) (sym same) ∙ l.asked x there

more_asked : (w : WalkSetup) (p q : WalkPass) (rest later : List WalkPass) (first : WalkPass) (before : List WalkPass) → IsLoading w p q rest
    → q.wants ≡ first.wants
    → to_load_after w (q ∷ rest) first.wants ≡ filter (λ x. not (is_in (batch_pages (planned_in later)) x)) (picture_pages w first before)
    → ((x : ℕ) → is_in (batch_pages (planned_in later)) x ≡ true → is_in (picture_pages w first before) x ≡ true)
    → (x : ℕ) → is_in (batch_pages (planned_in (p ∷ later))) x ≡ true → is_in (picture_pages w first before) x ≡ true
more_asked w p q rest later first before l same left asked x there = pick (is_in (batch_pages p.batch) x) refl
    (sym (in_batches p.batch (planned_in later) x) ∙ there) where
      pick : (b : Bool) → is_in (batch_pages p.batch) x ≡ b → (b || is_in (batch_pages (planned_in later)) x) ≡ true → is_in (picture_pages w first before) x ≡ true
      pick true e h = first_true (is_in (picture_pages w first before) x) (not (is_in (batch_pages (planned_in later)) x))
          (more_parts w p q rest later first before x l same left e)
      pick false e h = asked x h

more_once : (w : WalkSetup) (p q : WalkPass) (rest later : List WalkPass) (first : WalkPass) (before : List WalkPass) → IsLoading w p q rest
    → q.wants ≡ first.wants
    → to_load_after w (q ∷ rest) first.wants ≡ filter (λ x. not (is_in (batch_pages (planned_in later)) x)) (picture_pages w first before)
    → IsDistinct nat_eq (batch_pages (planned_in later)) → IsDistinct nat_eq (batch_pages (planned_in (p ∷ later)))
more_once w p q rest later first before l same left once =
    subst (IsDistinct nat_eq) (sym (batch_pages-append p.batch (planned_in later)))
    (distinct-append (batch_pages p.batch) (batch_pages (planned_in later)) l.once once (λ x there.
    not_true (is_in (batch_pages (planned_in later)) x) (second_true (is_in (picture_pages w first before) x) (not (is_in (batch_pages (planned_in later)) x))
    (more_parts w p q rest later first before x l same left there))))

pub have_loaded : (w : WalkSetup) (later : List WalkPass) (first : WalkPass) (before : List WalkPass) → IsWalkSetup w → w.mode ≡ Settled
    → IsWalkRun w (later ++ first ∷ before)
    → AllByRecursion (λ p. p.picture ≡ first.picture) later → lost_count (newest_of later first).losses ≡ 0 → HaveLoaded w later first before
have_loaded w [] first before h mode run same none = loaded_none w first before
have_loaded w (p ∷ []) first before h mode run same none =
    let n = loaded_none w first before in
    let l = loading w p first before h mode run same.0 none in
    record {
      wants = l.wants;
      left = more_left w p first before [] first before l refl n.left;
      asked = more_asked w p first before [] first before l refl n.left n.asked;
      once = more_once w p first before [] first before l refl n.left n.once;
    }
have_loaded w (p ∷ q ∷ later) first before h mode run same none =
    let goes = fits_of w q mode run.1.step.0 in
    let n = have_loaded w (q ∷ later) first before h mode run.0 same.1 goes.0 in
    let l = loading w p q (later ++ first ∷ before) h mode run (same.0 ∙ sym same.1.0) none in
    record {
      wants = l.wants ∙ n.wants;
      left = more_left w p q (later ++ first ∷ before) (q ∷ later) first before l n.wants n.left;
      asked = more_asked w p q (later ++ first ∷ before) (q ∷ later) first before l n.wants n.left n.asked;
      once = more_once w p q (later ++ first ∷ before) (q ∷ later) first before l n.wants n.left n.once;
    }

-- the end of a picture's run: nothing was lost in the newest pass, the picture fits, it loaded nothing, and nothing is planned
pub record IsEnd (w : WalkSetup) (later : List WalkPass) (first : WalkPass) (before : List WalkPass) : Type 0 where
  pub none_lost : lost_count (newest_of later first).losses ≡ 0
  pub fits : PictureFits w (newest_of later first).picture
  pub no_batch : (newest_of later first).batch ≡ []
  pub no_plan : plan_after w (later ++ first ∷ before) ≡ []

finish_of : (w : WalkSetup) (p : WalkPass) (passes : List WalkPass) → w.mode ≡ Settled → IsFinished w p passes
    → (p.batch ≡ []) × (plan_after w (p ∷ passes) ≡ [])
finish_of w p passes mode is = let done : Finishes Settled p.batch (plan_after w (p ∷ passes)) = subst
    (λ (m : Mode). Finishes m p.batch (plan_after w (p ∷ passes))) mode is in done

pub end_of : (w : WalkSetup) (later : List WalkPass) (first : WalkPass) (before : List WalkPass) → w.mode ≡ Settled
    → IsAtPictureEnd w (later ++ first ∷ before) → IsEnd w later first before
end_of w [] first before mode e =
    let g = fits_of w first mode e.0 in
    let d = finish_of w first before mode e.1 in
    record { none_lost = g.0; fits = g.1; no_batch = d.0; no_plan = d.1 }
end_of w (p ∷ later) first before mode e =
    let g = fits_of w p mode e.0 in
    let d = finish_of w p (later ++ first ∷ before) mode e.1 in
    record { none_lost = g.0; fits = g.1; no_batch = d.0; no_plan = d.1 }

-- after it nothing is to be loaded
pub none_left : (w : WalkSetup) (later : List WalkPass) (first : WalkPass) (before : List WalkPass) → IsWalkSetup w → IsWalkRun w (later ++ first ∷ before)
    → IsEnd w later first before
    → (newest_of later first).wants ≡ first.wants → to_load_after w (later ++ first ∷ before) first.wants ≡ []
none_left w [] first before h run e same = done w first before h run e.fits e.no_plan
none_left w (p ∷ later) first before h run e same =
    subst (λ (ws : List Wanted). to_load_after w (p ∷ later ++ first ∷ before) ws ≡ []) same (done w p (later ++ first ∷ before) h run e.fits e.no_plan)

same_true : (p q : ℕ) → p ≡ q → (p == q) ≡ true
same_true p q same = subst (λ k. (p == k) ≡ true) same (self_number p)

-- the passes of the picture
pub picture_passes : (later : List WalkPass) (first : WalkPass) (before : List WalkPass) → AllByRecursion (λ p. p.picture ≡ first.picture) later
    → passes_of first.picture before ≡ []
    → passes_of first.picture (later ++ first ∷ before) ≡ later ++ first ∷ []
picture_passes [] first before same none =
    ap (λ (b : Bool). cond b (first ∷ passes_of first.picture before) (passes_of first.picture before)) (self_number first.picture)
    ∙ ap (λ (l : List WalkPass). first ∷ l) none
picture_passes (p ∷ later) first before same none =
    ap (λ (b : Bool). cond b (p ∷ passes_of first.picture (later ++ first ∷ before)) (passes_of first.picture (later
    ++ first ∷ before))) (same_true p.picture first.picture same.0)
    ∙ ap (λ (l : List WalkPass). p ∷ l) (picture_passes later first before same.1 none)

run_from : (w : WalkSetup) (later : List WalkPass) (first : WalkPass) (before : List WalkPass) → IsWalkRun w (later ++ first ∷ before) → IsWalkRun w (first ∷ before)
run_from w [] first before run = run
run_from w (p ∷ later) first before run = run_from w later first before run.0

begins_empty : (w : WalkSetup) (first : WalkPass) (before : List WalkPass) → w.mode ≡ Settled → IsWalkRun w (first ∷ before)
    → passes_of first.picture before ≡ [] → first.batch ≡ []
begins_empty w first [] mode run none = (first_step w first run).1
begins_empty w first (q ∷ before) mode run none = settled_step w first q before mode run (λ same.
    let there : q ∷ passes_of first.picture before ≡ [] =
    sym (ap (λ (b : Bool). cond b (q ∷ passes_of first.picture before) (passes_of first.picture before))
    (same_true q.picture first.picture (sym same))) ∙ none in
    let n : length (q ∷ passes_of first.picture before) ≡ 0 = ap (λ (l : List WalkPass). length l) there in
    absurd (omega (arith, n)))

pub first_empty : (w : WalkSetup) (later : List WalkPass) (first : WalkPass) (before : List WalkPass) → IsFinishedPicture w later first before
    → first.batch ≡ []
first_empty w later first before f = begins_empty w first before f.settled (run_from w later first before f.run) f.first_pass

-- what its passes planned is what the later ones did
pub planned_later : (w : WalkSetup) (later : List WalkPass) (first : WalkPass) (before : List WalkPass) → IsFinishedPicture w later first before
    → planned_in (passes_of first.picture (later ++ first ∷ before)) ≡ planned_in later
planned_later w later first before f =
    ap planned_in (picture_passes later first before f.later_passes f.first_pass)
    ∙ flat_map-append (λ (p : WalkPass). p.batch) later (first ∷ [])
    ∙ ap (λ (b : List Planned). planned_in later ++ (b ++ [])) (first_empty w later first before f)
    ∙ append-nil (planned_in later)

pub loaded_of : (w : WalkSetup) (later : List WalkPass) (first : WalkPass) (before : List WalkPass) → IsFinishedPicture w later first before
    → HaveLoaded w later first before
loaded_of w later first before f = have_loaded w later first before f.setup f.settled f.run f.later_passes
    (end_of w later first before f.settled f.end).none_lost

-- each of its pages was planned
pub all_asked : (w : WalkSetup) (later : List WalkPass) (first : WalkPass) (before : List WalkPass) (x : ℕ) → IsFinishedPicture w later first before
    → is_in (picture_pages w first before) x ≡ true → is_in (batch_pages (planned_in later)) x ≡ true
all_asked w later first before x f there = pick (is_in (batch_pages (planned_in later)) x) refl where
  l : HaveLoaded w later first before
  l = loaded_of w later first before f

  none : filter (λ x. not (is_in (batch_pages (planned_in later)) x)) (picture_pages w first before) ≡ []
  none = sym (loaded_of w later first before f).left
      ∙ none_left w later first before f.setup f.run (end_of w later first before f.settled f.end) (loaded_of w later first before f).wants

  pick : (b : Bool) → is_in (batch_pages (planned_in later)) x ≡ b → is_in (batch_pages (planned_in later)) x ≡ true
  pick true e = e
  pick false e = absurd (false≢true (sym (ap (λ (k : List ℕ). is_in k x) none)
      ∙ is_in-filter (λ x. not (is_in (batch_pages (planned_in later)) x)) (picture_pages w first before) x
      ∙ ap (λ b. b && not (is_in (batch_pages (planned_in later)) x)) there ∙ ap not e))

pub loads_exactly : (w : WalkSetup) (later : List WalkPass) (first : WalkPass) (before : List WalkPass) (page : ℕ) → IsFinishedPicture w later first before
    → is_in (batch_pages (planned_in (passes_of first.picture (later ++ first ∷ before)))) page ≡ is_in (picture_pages w first before) page
loads_exactly w later first before page f =
    ap (λ (b : List Planned). is_in (batch_pages b) page) (planned_later w later first before f)
    ∙ same_bool (is_in (batch_pages (planned_in later)) page) (is_in (picture_pages w first before) page)
    ((loaded_of w later first before f).asked page) (all_asked w later first before page f)

pub loads_once : (w : WalkSetup) (later : List WalkPass) (first : WalkPass) (before : List WalkPass) → IsFinishedPicture w later first before
    → IsDistinct nat_eq (batch_pages (planned_in (passes_of first.picture (later ++ first ∷ before))))
loads_once w later first before f =
    subst (λ (b : List Planned). IsDistinct nat_eq (batch_pages b)) (sym (planned_later w later first before f)) (loaded_of w later first before f).once
