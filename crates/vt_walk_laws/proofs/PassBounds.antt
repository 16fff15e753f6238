-- How many passes a finished settled picture has.
use Rattle.std.proofs.Common.{◌≡◌, ℕ, zero, suc, ◌+◌, ◌*◌, ◌/◌, ◌<◌, ◌≤◌, ◌⊎◌, inl, inr, true, false, not, List, [], ◌∷◌, ◌++◌, length, refl, sym, ap, ◌∙◌, subst, length-append, arith}
use Rattle.std.specs.Prelude.{nat_eq}
use Rattle.std.specs.Int.{div_ceil}
use Rattle.std.specs.List.{AllByRecursion, filter}
use Rattle.std.specs.Cmp.{nat_eq_equiv}
use Rattle.std.proofs.Math.Nat.{suc-mul, le-div_iff_mul-le}
use Rattle.std.proofs.lemmas.Bool.{false≢true, cases_lt}
use Rattle.std.proofs.lemmas.Grind.{div_ceil_times}
use Rattle.std.proofs.lemmas.Map.Made.{length-le_from_is_member}
use Rattle.vt_walk.specs.FeedbackTypes.Wanted.{Wanted}
use Rattle.vt_walk.specs.Wants.{pages_wanted}
use Rattle.vt_machine.specs.PlanTypes.batches.Planned.{Planned}
use Rattle.vt_machine.specs.PageLists.{is_in}
use Rattle.vt_machine.proofs.ListLemmas.{each_once_distinct}
use Rattle.vt_machine.proofs.SettleLemmas.{self_eq}
use Rattle.vt_machine.specs.Outcomes.{lost_count}
use Rattle.vt_walk.specs.WalkDecisionsTypes.mode.Mode.{Mode}
use Rattle.vt_walk.specs.WalkDecisionsTypes.mode.Mode.TheVariants.{Settled}
use Rattle.vt_walk.specs.Fits.{WalkSetup, PictureFits}
use Rattle.vt_walk.specs.Runs.{WalkPass, IsWalkSetup, recency_after, plan_after, Finishes, IsFinished, IsPictureAfter, WalkGoesOn, IsWalkRun, planned_in}
use Rattle.vt_walk.specs.Logs.{passes_of}
use Rattle.vt_walk_laws.specs.PassCounts.{pages_to_load, mapped_after, picture_pages, most_in_line, batch_pages, IsFinishedPicture}
use Rattle.vt_walk_laws.proofs.Frames.{or_left}
use Rattle.vt_machine.specs.Shape.{Shape}
use Rattle.vt_walk.proofs.Running.{run_kept, plan_most}
use Rattle.vt_walk_laws.proofs.PlanPages.{none_missing, mapped_done, length-pages}
use Rattle.vt_walk_laws.proofs.Loading.{to_load_after, most_after, fitting, IsLoading, loading, fits_of, done, none_planned, plan_inside}
use Rattle.vt_walk_laws.proofs.Counted.{newest_of, loaded_of, end_of, picture_passes, all_asked, first_empty}

-- a pass after which a picture goes on did not finish it
goes_unfinished : (w : WalkSetup) (p q : WalkPass) (rest : List WalkPass) → IsWalkRun w (p ∷ q ∷ rest) → p.picture ≡ q.picture → IsFinished w q rest → ⊥
goes_unfinished w p q rest run same is = pick run.1.step.1 where
  pick : IsPictureAfter (IsFinished w q rest) q.picture p.picture → ⊥
  pick (inl next) = absurd (omega (arith, next.1, same))
  pick (inr on) = on.0 is

finished_by : (w : WalkSetup) (q : WalkPass) (rest : List WalkPass) → w.mode ≡ Settled → q.batch ≡ [] → plan_after w (q ∷ rest) ≡ [] → IsFinished w q rest
finished_by w q rest mode batch plan =
    subst (λ (m : Mode). Finishes m q.batch (plan_after w (q ∷ rest))) (sym mode) (batch, plan)

-- where all wanted pages are mapped, nothing is to be loaded
all_mapped : (w : WalkSetup) (q : WalkPass) (rest : List WalkPass) → IsWalkSetup w → IsWalkRun w (q ∷ rest) → PictureFits w q.picture
    → ((page : ℕ) → is_in (pages_wanted q.wants) page ≡ true → mapped_after w (q ∷ rest) page ≡ true) → to_load_after w (q ∷ rest) q.wants ≡ []
all_mapped w q rest h run fit mapped =
    let f = fitting w q rest h run fit in
    let kept = run_kept w (q ∷ rest) h run in
    subst (λ (s : Shape). pages_to_load s (mapped_after w (q ∷ rest)) (pages_wanted q.wants) ≡ []) kept.shape
    (mapped_done (recency_after w (q ∷ rest)).shape (mapped_after w (q ∷ rest)) (pages_wanted q.wants) f.table.limits
    (λ p there. (f.inside p there, mapped p there)))

-- how many passes the picture has
passes_count : (w : WalkSetup) (later : List WalkPass) (first : WalkPass) (before : List WalkPass) → IsFinishedPicture w later first before
    → length (passes_of first.picture (later ++ first ∷ before)) ≡ length later + 1
passes_count w later first before f =
    ap (λ (l : List WalkPass). length l) (picture_passes later first before f.later_passes f.first_pass) ∙ length-append later (first ∷ [])

no_page_in : (batch : List Planned) → ((x : ℕ) → is_in (batch_pages batch) x ≡ true → ⊥) → batch ≡ []
no_page_in [] none = refl
no_page_in (e ∷ batch) none = absurd (none e.page (or_left (nat_eq e.page e.page) (is_in (batch_pages batch) e.page) (self_eq e.page)))

-- where nothing is to be loaded, nothing is planned
no_plan : (w : WalkSetup) (q : WalkPass) (rest : List WalkPass) → IsWalkSetup w → IsWalkRun w (q ∷ rest) → PictureFits w q.picture
    → to_load_after w (q ∷ rest) q.wants ≡ [] → plan_after w (q ∷ rest) ≡ []
no_plan w q rest h run fit none = no_page_in (plan_after w (q ∷ rest)) (λ x there.
    absurd (false≢true (sym (ap (λ (l : List ℕ). is_in l x) none) ∙ plan_inside w q rest h run fit x there)))

-- a later pass that loads nothing finishes its picture
stops : (w : WalkSetup) (p q : WalkPass) (rest : List WalkPass) → IsWalkSetup w → w.mode ≡ Settled → IsWalkRun w (p ∷ q ∷ rest) → p.picture ≡ q.picture
    → WalkGoesOn w.mode w p
    → p.batch ≡ [] → IsFinished w p (q ∷ rest)
stops w p q rest h mode run same goes empty =
    let g = fits_of w p mode goes in
    let before = fits_of w q mode run.1.step.0 in
    let l = loading w p q rest h mode run same g.0 in
    let nothing : to_load_after w (q ∷ rest) q.wants ≡ [] = done w q rest h run.0 before.1 (sym run.1.planned ∙ empty) in
    let after : to_load_after w (p ∷ q ∷ rest) q.wants ≡ [] = l.left ∙ ap (filter (λ x. not (is_in (batch_pages p.batch) x))) nothing in
    finished_by w p (q ∷ rest) mode empty
    (no_plan w p (q ∷ rest) h run g.1 (subst (λ (ws : List Wanted). to_load_after w (p ∷ q ∷ rest) ws ≡ []) (sym l.wants) after))

-- a picture that its first pass finishes has no other
first_unfinished : (w : WalkSetup) (later : List WalkPass) (p first : WalkPass) (before : List WalkPass) → IsWalkRun w ((p ∷ later) ++ first ∷ before)
    → AllByRecursion (λ q. q.picture ≡ first.picture) (p ∷ later) → IsFinished w first before → ⊥
first_unfinished w [] p first before run same is = goes_unfinished w p first before run same.0 is
first_unfinished w (q ∷ later) p first before run same is = first_unfinished w later q first before run.0 same.1 is

first_goes : (w : WalkSetup) (later : List WalkPass) (p first : WalkPass) (before : List WalkPass) → w.mode ≡ Settled
    → IsWalkRun w ((p ∷ later) ++ first ∷ before) → IsWalkRun w (first ∷ before) × PictureFits w first.picture
first_goes w [] p first before mode run = (run.0, (fits_of w first mode run.1.step.0).1)
first_goes w (q ∷ later) p first before mode run = first_goes w later q first before mode run.0

pub one_pass : (w : WalkSetup) (later : List WalkPass) (first : WalkPass) (before : List WalkPass) → IsFinishedPicture w later first before
    → ((page : ℕ) → is_in (pages_wanted first.wants) page ≡ true → mapped_after w (first ∷ before) page ≡ true)
    → length (passes_of first.picture (later ++ first ∷ before)) ≡ 1
one_pass w [] first before f mapped = passes_count w [] first before f
one_pass w (p ∷ later) first before f mapped =
    let first_run = first_goes w later p first before f.settled f.run in
    absurd (first_unfinished w later p first before f.run f.later_passes
    (finished_by w first before f.settled (first_empty w (p ∷ later) first before f)
    (no_plan w first before f.setup first_run.0 first_run.1 (all_mapped w first before f.setup first_run.0 first_run.1 mapped))))

-- the number of its pages
pages_asked : (w : WalkSetup) (later : List WalkPass) (first : WalkPass) (before : List WalkPass) → IsFinishedPicture w later first before
    → length (picture_pages w first before) ≤ length (planned_in later)
unfolding pages_to_load
pages_asked w later first before f =
    let a = length-le_from_is_member nat_eq_equiv (picture_pages w first before) (batch_pages (planned_in later)) (each_once_distinct _)
    (λ x there. all_asked w later first before x f there) in
    omega (arith, a, length-pages (planned_in later))

asked_few : (w : WalkSetup) (later : List WalkPass) (first : WalkPass) (before : List WalkPass) → IsFinishedPicture w later first before
    → length (planned_in later) ≤ length (picture_pages w first before)
asked_few w later first before f =
    let l = loaded_of w later first before f in
    let a = length-le_from_is_member nat_eq_equiv (batch_pages (planned_in later)) (picture_pages w first before) l.once l.asked in
    omega (arith, a, length-pages (planned_in later))

-- no batch has more entries than it may
planned_most : (w : WalkSetup) (later : List WalkPass) (rest : List WalkPass) → IsWalkRun w (later ++ rest) → length (planned_in later) ≤ length later * w.most
planned_most w [] rest run = omega arith
planned_most w (p ∷ later) rest run =
    let few : length p.batch ≤ w.most = subst (λ (b : List Planned). length b ≤ w.most) (sym run.1.planned) (plan_most w (later ++ rest)) in
    let more = planned_most w later rest run.0 in
    omega (arith, few, more, length-append p.batch (planned_in later), suc-mul (length later) w.most)

times_more : (a b q : ℕ) → a ≤ b → a * q ≤ b * q
times_more zero b q most = omega arith
times_more (suc a) zero q most = absurd (omega (arith, most))
times_more (suc a) (suc b) q most = omega (arith, times_more a b q (omega (arith, most)), suc-mul a q, suc-mul b q)

ceil_few : (a k q : ℕ) → 0 < q → a ≤ k * q → div_ceil a q ≤ k
ceil_few a k q some few = pick (cases_lt k (div_ceil a q)) where
  pick : (k < div_ceil a q) ⊎ (div_ceil a q ≤ k) → div_ceil a q ≤ k
  pick (inr least) = least
  pick (inl less) =
      let t = (div_ceil_times a q some).1 in
      let m : suc k * q ≤ div_ceil a q * q = times_more (suc k) (div_ceil a q) q (omega (arith, less)) in
      absurd (omega (arith, t, m, few, suc-mul k q))

pub enough_passes : (w : WalkSetup) (later : List WalkPass) (first : WalkPass) (before : List WalkPass) (page : ℕ) → IsFinishedPicture w later first before
    → is_in (pages_wanted first.wants) page ≡ true → mapped_after w (first ∷ before) page ≡ false
    → 2 + div_ceil (length (picture_pages w first before)) w.most ≤ length (passes_of first.picture (later ++ first ∷ before))
enough_passes w [] first before page f wanted low =
    let e = end_of w [] first before f.settled f.end in
    absurd (false≢true (sym low ∙ none_missing (recency_after w (first ∷ before)) first.wants page
    (none_planned w first before f.setup f.run e.fits e.no_plan) wanted))
enough_passes w (p ∷ later) first before page f wanted low =
    let e = end_of w (p ∷ later) first before f.settled f.end in
    let asked = pages_asked w (p ∷ later) first before f in
    let none : length p.batch ≡ 0 = ap (λ (b : List Planned). length b) e.no_batch in
    let most = planned_most w later (first ∷ before) f.run.0 in
    let ceil = ceil_few (length (picture_pages w first before)) (length later) w.most (omega (arith, f.setup.some_entry))
    (omega (arith, asked, none, most, length-append p.batch (planned_in later))) in
    omega (arith, ceil, passes_count w (p ∷ later) first before f)

-- of the later passes so many had full batches, and each other one has made the fullest line shorter
record HaveFull (w : WalkSetup) (later : List WalkPass) (first : WalkPass) (before : List WalkPass) : Type 0 where
  pub full : ℕ
  pub entries : full * w.most ≤ length (planned_in later)
  pub wants : (newest_of later first).wants ≡ first.wants
  pub shorter : most_after w (later ++ first ∷ before) first.wants + length later ≤ most_in_line w first before + full

-- one pass more
more_full : (w : WalkSetup) (p q : WalkPass) (rest : List WalkPass) (n planned full d : ℕ) (ws : List Wanted) → IsLoading w p q rest → q.wants ≡ ws
    → 1 ≤ length p.batch
    → full * w.most ≤ planned → most_after w (q ∷ rest) ws + n ≤ d + full
    → (more : ℕ) × (more * w.most ≤ length p.batch + planned) × (most_after w (p ∷ q ∷ rest) ws + suc n ≤ d + more)
more_full w p q rest n planned full d ws l same some entries shorter = pick (cases_lt (length p.batch) w.most) where
  falls : most_after w (p ∷ q ∷ rest) ws ≤ most_after w (q ∷ rest) ws
  falls = subst (λ (us : List Wanted). most_after w (p ∷ q ∷ rest) us ≤ most_after w (q ∷ rest) us) same l.falls

  less : length p.batch < w.most → most_after w (p ∷ q ∷ rest) ws + 1 ≤ most_after w (q ∷ rest) ws
  less few = subst (λ (us : List Wanted). most_after w (p ∷ q ∷ rest) us + 1 ≤ most_after w (q ∷ rest) us) same (l.less few some)

  pick : (length p.batch < w.most) ⊎ (w.most ≤ length p.batch)
      → (more : ℕ) × (more * w.most ≤ length p.batch + planned) × (most_after w (p ∷ q ∷ rest) ws + suc n ≤ d + more)
  pick (inl few) = let a = less few in (full, omega (arith, entries), omega (arith, a, shorter))
  pick (inr all) = (suc full, omega (arith, entries, all, suc-mul full w.most), omega (arith, falls, shorter))

-- each of some passes loads something
abbrev AllLoad : List WalkPass → Type 0
AllLoad later = AllByRecursion (λ p. 1 ≤ length p.batch) later

have_full : (w : WalkSetup) (later : List WalkPass) (first : WalkPass) (before : List WalkPass) → IsWalkSetup w → w.mode ≡ Settled
    → IsWalkRun w (later ++ first ∷ before)
    → AllByRecursion (λ p. p.picture ≡ first.picture) later → AllLoad later → lost_count (newest_of later first).losses ≡ 0 → HaveFull w later first before
have_full w [] first before h mode run same load none = record { full = 0; entries = omega arith; wants = refl; shorter = omega arith }
have_full w (p ∷ []) first before h mode run same load none =
    let l = loading w p first before h mode run same.0 none in
    let m = more_full w p first before 0 0 0 (most_in_line w first before) first.wants l refl load.0 (omega arith) (omega arith) in
    record { full = m.0; entries = omega (arith, m.1, length-append p.batch []); wants = l.wants; shorter = m.2 }
have_full w (p ∷ q ∷ later) first before h mode run same load none =
    let goes = fits_of w q mode run.1.step.0 in
    let n = have_full w (q ∷ later) first before h mode run.0 same.1 load.1 goes.0 in
    let l = loading w p q (later ++ first ∷ before) h mode run (same.0 ∙ sym same.1.0) none in
    let m = more_full w p q (later ++ first ∷ before) (length (q ∷ later)) (length (planned_in (q ∷ later))) n.full (most_in_line w first before)
    first.wants l n.wants load.0 n.entries n.shorter in
    record { full = m.0; entries = omega (arith, m.1, length-append p.batch (planned_in (q ∷ later))); wants = l.wants ∙ n.wants; shorter = m.2 }

some_entry : (batch : List Planned) → (batch ≡ [] → ⊥) → 1 ≤ length batch
some_entry [] none = absurd (none refl)
some_entry (e ∷ batch) none = omega arith

-- each later pass but the last loads something
all_load : (w : WalkSetup) (last : WalkPass) (later : List WalkPass) (first : WalkPass) (before : List WalkPass) → IsWalkSetup w → w.mode ≡ Settled
    → IsWalkRun w (last ∷ later ++ first ∷ before) → AllByRecursion (λ p. p.picture ≡ first.picture) (last ∷ later) → AllLoad later
all_load w last [] first before h mode run same = tt
all_load w last (p ∷ []) first before h mode run same = (
  some_entry p.batch (λ empty. goes_unfinished w last p (first ∷ before) run (same.0
      ∙ sym same.1.0) (stops w p first before h mode run.0 same.1.0 run.1.step.0 empty)),
  tt,
)
all_load w last (p ∷ q ∷ later) first before h mode run same = (
  some_entry p.batch (λ empty. goes_unfinished w last p (q ∷ later ++ first ∷ before) run (same.0 ∙ sym same.1.0)
      (stops w p q (later ++ first ∷ before) h mode run.0 (same.1.0 ∙ sym same.1.1.0) run.1.step.0 empty)),
  all_load w p (q ∷ later) first before h mode run.0 same.1,
)

newest_kept : (w : WalkSetup) (last : WalkPass) (later : List WalkPass) (first : WalkPass) (before : List WalkPass) → w.mode ≡ Settled
    → IsWalkRun w (last ∷ later ++ first ∷ before)
    → lost_count (newest_of later first).losses ≡ 0
newest_kept w last [] first before mode run = (fits_of w first mode run.1.step.0).0
newest_kept w last (p ∷ later) first before mode run = (fits_of w p mode run.1.step.0).0

pub few_passes : (w : WalkSetup) (later : List WalkPass) (first : WalkPass) (before : List WalkPass) → IsFinishedPicture w later first before
    → length (passes_of first.picture (later ++ first ∷ before)) ≤ 2 + length (picture_pages w first before) / w.most + most_in_line w first before
few_passes w [] first before f = omega (arith, passes_count w [] first before f)
few_passes w (last ∷ later) first before f =
    let n = have_full w later first before f.setup f.settled f.run.0 f.later_passes.1
    (all_load w last later first before f.setup f.settled f.run f.later_passes)
    (newest_kept w last later first before f.settled f.run) in
    let few = asked_few w (last ∷ later) first before f in
    let whole : n.full ≤ length (picture_pages w first before) / w.most =
    (le-div_iff_mul-le (omega (arith, f.setup.some_entry))).1 (omega (arith, n.entries, few, length-append last.batch (planned_in later))) in
    omega (arith, n.shorter, whole, passes_count w (last ∷ later) first before f)
