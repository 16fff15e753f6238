-- What a pass of a settled picture loads.
use Rattle.std.proofs.Common.{◌≡◌, ℕ, suc, ◌+◌, ◌-◌, ◌<◌, ◌≤◌, Bool, true, false, not, List, [], ◌∷◌, length, min, refl, sym, ap, ◌∙◌, subst, arith}
use Rattle.std.specs.List.{filter, IsDistinct}
use Rattle.std.specs.Prelude.{nat_eq}
use Rattle.std.proofs.lemmas.List.Sums.{length-filter}
use Rattle.vt_machine.specs.Shape.{Shape}
use Rattle.vt_walk.specs.FeedbackTypes.Wanted.{Wanted}
use Rattle.vt_walk.specs.Wants.{pages_wanted, IsWants}
use Rattle.vt_machine.specs.PlanTypes.batches.Planned.{Planned}
use Rattle.vt_machine.specs.PageLists.{is_in}
use Rattle.vt_walk.specs.Views.{RecencyView, IsRecencyTable, pages_needed}
use Rattle.vt_machine.specs.Missing.{has_frame}
use Rattle.vt_machine.specs.Batches.{IsSettledTable, read_entries}
use Rattle.vt_walk.specs.Plans.{missing_pages, plan_of}
use Rattle.vt_machine.specs.Outcomes.{lost_count}
use Rattle.vt_walk.specs.WalkDecisionsTypes.mode.Mode.{Mode}
use Rattle.vt_walk.specs.WalkDecisionsTypes.mode.Mode.TheVariants.{Settled}
use Rattle.vt_walk.specs.Fits.{WalkSetup, PictureFits}
use Rattle.vt_walk.specs.Runs.{WalkPass, IsWalkSetup, recency_after, plan_after, WalkGoesOn, IsWalkRun}
use Rattle.vt_walk_laws.specs.PassCounts.{pages_to_load, most_before, mapped_after, batch_pages}
use Rattle.vt_walk.proofs.Running.{run_kept, wants_inside, plan_most}
use Rattle.vt_walk.proofs.Finishing.{wants_one}
use Rattle.vt_walk.proofs.Wholeness.{needs_one, needs_of}
use Rattle.vt_walk_laws.proofs.Frames.{ArePages, are_pages, plan_full}
use Rattle.vt_walk_laws.proofs.PlanPages.{plan_distinct, left_after, plan_to_load, missing_done, most_falls, most_less}

-- what holds after a pass of a picture that fits
pub record IsFitting (w : WalkSetup) (p : WalkPass) (passes : List WalkPass) : Type 0 where
  pub table : IsRecencyTable (recency_after w (p ∷ passes))
  pub inside : ArePages (recency_after w (p ∷ passes)) p.wants
  pub full : length (plan_after w (p ∷ passes)) ≡ min w.most (length (missing_pages (recency_after w (p ∷ passes)) p.wants))

pub fitting : (w : WalkSetup) (p : WalkPass) (passes : List WalkPass) → IsWalkSetup w → IsWalkRun w (p ∷ passes) → PictureFits w p.picture → IsFitting w p passes
fitting w p passes h run fit =
    let kept = run_kept w (p ∷ passes) h run in
    let inside : ArePages (recency_after w (p ∷ passes)) p.wants = are_pages (recency_after w (p ∷ passes)) p.wants
    (wants_inside (recency_after w (p ∷ passes)).shape w.shape (w.needs p.picture) p.wants kept.shape run.1.wanted) in
    let count : pages_needed (recency_after w (p ∷ passes)) p.wants ≡ fit.needed =
    needs_one w p.picture (pages_needed (recency_after w (p ∷ passes)) p.wants) fit.needed
    (needs_of w (recency_after w (p ∷ passes)) p.picture p.wants kept.shape kept.pinned run.1.wanted) fit.pages in
    let fits : pages_needed (recency_after w (p ∷ passes)) p.wants ≤ (recency_after w (p ∷ passes)).frames - (recency_after w (p ∷ passes)).pinned =
    omega (arith, count, fit.room, kept.frames, kept.pinned) in
    record {
      table = kept.table;
      inside = inside;
      full = plan_full (recency_after w (p ∷ passes)) p.wants w.most kept.table inside fits;
    }

pub plan_is_full : (w : WalkSetup) (p : WalkPass) (passes : List WalkPass) → IsWalkSetup w → IsWalkRun w (p ∷ passes) → PictureFits w p.picture
    → length (plan_after w (p ∷ passes)) ≡ min w.most (length (missing_pages (recency_after w (p ∷ passes)) p.wants))
plan_is_full w p passes h run fit = (fitting w p passes h run fit).full

-- the pages that are to be loaded after passes, and the most of them in one line
abbrev pub to_load_after : WalkSetup → List WalkPass → List Wanted → List ℕ
to_load_after w passes wants = pages_to_load w.shape (mapped_after w passes) (pages_wanted wants)

abbrev pub most_after : WalkSetup → List WalkPass → List Wanted → ℕ
most_after w passes wants = most_before w.shape (mapped_after w passes) (pages_wanted wants)

-- what one more pass of a picture does
pub record IsLoading (w : WalkSetup) (p q : WalkPass) (rest : List WalkPass) : Type 0 where
  pub wants : p.wants ≡ q.wants
  pub left : to_load_after w (p ∷ q ∷ rest) q.wants ≡ filter (λ x. not (is_in (batch_pages p.batch) x)) (to_load_after w (q ∷ rest) q.wants)
  pub asked : (x : ℕ) → is_in (batch_pages p.batch) x ≡ true → is_in (to_load_after w (q ∷ rest) q.wants) x ≡ true
  pub once : IsDistinct nat_eq (batch_pages p.batch)
  pub few : length p.batch ≤ w.most
  pub falls : most_after w (p ∷ q ∷ rest) q.wants ≤ most_after w (q ∷ rest) q.wants
  pub less : length p.batch < w.most → 1 ≤ length p.batch → most_after w (p ∷ q ∷ rest) q.wants + 1 ≤ most_after w (q ∷ rest) q.wants

-- where nothing was lost, all entries were read
pub read_all : (batch : List Planned) (losses : List Bool) → length losses ≡ length batch → lost_count losses ≡ 0 → read_entries batch losses ≡ batch
read_all [] losses reported none = refl
read_all (e ∷ batch) [] reported none = absurd (omega (arith, reported))
read_all (e ∷ batch) (true ∷ losses) reported none = absurd (let some : suc (length (filter (λ (lost : Bool). lost) losses)) ≡ 0 = length-filter
    (λ (lost : Bool). lost) (true ∷ losses) ∙ none in omega (arith, some))
read_all (e ∷ batch) (false ∷ losses) reported none = ap (λ (l : List Planned). e ∷ l) (read_all batch losses (omega (arith, reported)) none)

-- what the loading of a plan does to a shape's pages
record IsLoaded (s : Shape) (v u : RecencyView) (wants : List Wanted) (most : ℕ) (batch : List Planned) : Type 0 where
  pub left : pages_to_load s (has_frame u.entries) (pages_wanted wants) ≡ filter (λ x. not (is_in (batch_pages batch) x))
      (pages_to_load s (has_frame v.entries) (pages_wanted wants))
  pub asked : (x : ℕ) → is_in (batch_pages batch) x ≡ true → is_in (pages_to_load s (has_frame v.entries) (pages_wanted wants)) x ≡ true
  pub once : IsDistinct nat_eq (batch_pages batch)
  pub falls : most_before s (has_frame u.entries) (pages_wanted wants) ≤ most_before s (has_frame v.entries) (pages_wanted wants)
  pub less : length batch < most → 1 ≤ length batch
      → most_before s (has_frame u.entries) (pages_wanted wants) + 1 ≤ most_before s (has_frame v.entries) (pages_wanted wants)

loaded_plan : (v u : RecencyView) (wants : List Wanted) (most : ℕ) → IsRecencyTable v → ArePages v wants → IsSettledTable v.entries (plan_of v wants most) u.entries
    → length (plan_of v wants most) ≡ min most (length (missing_pages v wants)) → IsLoaded v.shape v u wants most (plan_of v wants most)
loaded_plan v u wants most table inside settled full = record {
  left = left_after v u wants most table inside settled;
  asked = λ x there. plan_to_load v wants most x table inside there;
  once = plan_distinct v wants most;
  falls = most_falls v u wants most table inside settled;
  less = λ few some. most_less v u wants most table inside settled (omega (arith, few, full)) some;
}

-- a settled walk goes on after a pass that lost nothing, of a picture that fits
pub fits_of : (w : WalkSetup) (q : WalkPass) → w.mode ≡ Settled → WalkGoesOn w.mode w q → (lost_count q.losses ≡ 0) × PictureFits w q.picture
fits_of w q mode goes = let goes_on : WalkGoesOn Settled w q = subst (λ (m : Mode). WalkGoesOn m w q) mode goes in goes_on

pub loading : (w : WalkSetup) (p q : WalkPass) (rest : List WalkPass) → IsWalkSetup w → w.mode ≡ Settled → IsWalkRun w (p ∷ q ∷ rest) → p.picture ≡ q.picture
    → lost_count p.losses ≡ 0 → IsLoading w p q rest
loading w p q rest h mode run same none =
    let v : RecencyView = recency_after w (q ∷ rest) in
    let u : RecencyView = recency_after w (p ∷ q ∷ rest) in
    let kept = run_kept w (q ∷ rest) h run.0 in
    let goes = fits_of w q mode run.1.step.0 in
    let f = fitting w q rest h run.0 goes.1 in
    let reads : read_entries p.batch p.losses ≡ plan_of (recency_after w (q ∷ rest)) q.wants w.most = read_all p.batch p.losses run.1.outcome.reported
    none ∙ run.1.planned in
    let settled : IsSettledTable (recency_after w (q ∷ rest)).entries (plan_of (recency_after w (q ∷ rest)) q.wants w.most)
    (recency_after w (p ∷ q ∷ rest)).entries =
    subst (λ (b : List Planned). IsSettledTable (recency_after w (q ∷ rest)).entries b p.settled.entries) reads run.1.settles.table in
    let l = loaded_plan (recency_after w (q ∷ rest)) (recency_after w (p ∷ q ∷ rest)) q.wants w.most f.table f.inside settled f.full in
    let r : IsLoaded w.shape (recency_after w (q ∷ rest)) (recency_after w (p ∷ q ∷ rest)) q.wants w.most p.batch =
    subst (λ (b : List Planned). IsLoaded w.shape (recency_after w (q ∷ rest)) (recency_after w (p ∷ q ∷ rest)) q.wants w.most b) (sym run.1.planned)
    (subst (λ (s : Shape). IsLoaded s (recency_after w (q ∷ rest)) (recency_after w (p ∷ q ∷ rest)) q.wants w.most
    (plan_of (recency_after w (q ∷ rest)) q.wants w.most)) kept.shape l) in
    record {
      wants = wants_one w.shape (w.needs p.picture) p.wants q.wants run.1.wanted (subst (λ k. IsWants w.shape (w.needs k) q.wants) (sym same) run.0.1.wanted);
      left = r.left;
      asked = r.asked;
      once = r.once;
      few = subst (λ (b : List Planned). length b ≤ w.most) (sym run.1.planned) (plan_most w (q ∷ rest));
      falls = r.falls;
      less = r.less;
    }

no_pages : (q : ℕ) (xs : List ℕ) → 1 ≤ q → min q (length xs) ≡ 0 → xs ≡ []
no_pages q [] some none = refl
no_pages q (x ∷ xs) some none = absurd (omega (arith, some, none))

pub none_planned : (w : WalkSetup) (q : WalkPass) (rest : List WalkPass) → IsWalkSetup w → IsWalkRun w (q ∷ rest) → PictureFits w q.picture → plan_after w (q ∷ rest) ≡ []
    → missing_pages (recency_after w (q ∷ rest)) q.wants ≡ []
none_planned w q rest h run fit none =
    let f = fitting w q rest h run fit in
    no_pages w.most (missing_pages (recency_after w (q ∷ rest)) q.wants) h.some_entry (sym f.full ∙ ap (λ (b : List Planned). length b) none)

-- where nothing is planned, nothing is to be loaded
pub done : (w : WalkSetup) (q : WalkPass) (rest : List WalkPass) → IsWalkSetup w → IsWalkRun w (q ∷ rest) → PictureFits w q.picture → plan_after w (q ∷ rest) ≡ []
    → to_load_after w (q ∷ rest) q.wants ≡ []
done w q rest h run fit none =
    let f = fitting w q rest h run fit in
    let kept = run_kept w (q ∷ rest) h run in
    subst (λ (s : Shape). pages_to_load s (mapped_after w (q ∷ rest)) (pages_wanted q.wants) ≡ []) kept.shape
    (missing_done (recency_after w (q ∷ rest)) q.wants f.table f.inside (none_planned w q rest h run fit none))

-- what is planned is among what is to be loaded
pub plan_inside : (w : WalkSetup) (q : WalkPass) (rest : List WalkPass) → IsWalkSetup w → IsWalkRun w (q ∷ rest) → PictureFits w q.picture
    → (x : ℕ) → is_in (batch_pages (plan_after w (q ∷ rest))) x ≡ true → is_in (to_load_after w (q ∷ rest) q.wants) x ≡ true
plan_inside w q rest h run fit x there =
    let f = fitting w q rest h run fit in
    let kept = run_kept w (q ∷ rest) h run in
    subst (λ (s : Shape). is_in (pages_to_load s (mapped_after w (q ∷ rest)) (pages_wanted q.wants)) x ≡ true) kept.shape
    (plan_to_load (recency_after w (q ∷ rest)) q.wants w.most x f.table f.inside there)
