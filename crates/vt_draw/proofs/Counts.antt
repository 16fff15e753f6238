-- How many pixels of a row want a page.
use Rattle.std.proofs.Common.{◌≡◌, ◌≢◌, ℕ, ◌+◌, ◌^◌, ◌<◌, ◌≤◌, Bool, true, false, cond, List, [], ◌∷◌, ◌++◌, length, slice_index, slice_set, refl, sym, ap, ◌∙◌, add-one, arith}
use Rattle.std.specs.Prelude.{◌==◌, if◌then◌else◌}
use Rattle.std.specs.List.{range_with_len, count_by}
use Rattle.std.proofs.lemmas.Bool.{eqb-true, eqb-false}
use Rattle.std.proofs.lemmas.List.{get_or-set_same, get_or-set_other}
use Rattle.std.proofs.lemmas.List.FromFn.{length-range_with_len}
use Rattle.std.proofs.lemmas.List.Sums.{sum_by-append, count_by-le-length}
use Rattle.vt_pages.specs.Shape.{Shape}
use Rattle.vt_camera.specs.Rows.{RowView}
use Rattle.vt_draw.specs.Shots.{wanted_page, pixels_wanting, run_of}
use Rattle.vt_draw.proofs.Ranges.{range_more}

pub pixels-none : (s : Shape) (row : RowView) (p : ℕ) → pixels_wanting s row 0 p ≡ 0
unfolding pixels_wanting
pixels-none s row p = refl

pub pixels-most : (s : Shape) (row : RowView) (n p : ℕ) → pixels_wanting s row n p ≤ n
unfolding pixels_wanting
pixels-most s row n p = omega (arith, count_by-le-length (λ (x : ℕ). wanted_page s row x == p) (range_with_len 0 n), length-range_with_len 0 n)

pixels-more : (s : Shape) (row : RowView) (n p : ℕ) → pixels_wanting s row (n + 1) p ≡ pixels_wanting s row n p + (0 + cond (wanted_page s row n == p) 1 0)
unfolding pixels_wanting
pixels-more s row n p =
    let test : ℕ → Bool = λ x. wanted_page s row x == p in
    ap (λ (m : ℕ). count_by test (range_with_len 0 m)) (add-one n)
    ∙ ap (count_by test) (range_more 0 n ∙ ap (λ (m : ℕ). range_with_len 0 n ++ m ∷ []) (omega arith))
    ∙ sum_by-append (λ (x : ℕ). cond (test x) 1 0) (range_with_len 0 n) (n ∷ [])

-- a run of no pixels has none for any page
pub run-none : (page p : ℕ) → run_of page 0 p ≡ 0
unfolding run_of
run-none page p = step (page == p) where
  step : (b : Bool) → ◌≡◌ {A = ℕ} (if b then 0 else 0) 0
  step true = refl
  step false = refl

-- one pixel more of the same page makes the run longer
pub run-more : (page run p : ℕ) → run_of page (run + 1) p ≡ run_of page run p + run_of page 1 p
unfolding run_of
run-more page run p = step (page == p) where
  step : (b : Bool) → (if b then run + 1 else 0) ≡ (if b then run else 0) + (if b then 1 else 0)
  step true = refl
  step false = refl

-- a run has no more pixels for its page than it has
pub run-own : (page run : ℕ) → run_of page run page ≡ run
unfolding run_of
run-own page run = step (page == page) refl where
  step : (b : Bool) → (page == page) ≡ b → (if b then run else 0) ≡ run
  step true e = refl
  step false e = absurd (eqb-false _ _ e refl)

-- a run that was added to its page's count is in the counts
pub run-added : (page run p : ℕ) (counts : List ℕ) → page < length counts
    → slice_index (slice_set counts page (slice_index counts page + run)) p ≡ slice_index counts p + run_of page run p
unfolding run_of
run-added page run p counts inside = step (page == p) refl where
  step : (b : Bool) → (page == p) ≡ b
      → slice_index (slice_set counts page (slice_index counts page + run)) p ≡ slice_index counts p + (if b then run else 0)
  step true e =
      let here : page ≡ p = eqb-true _ _ e in
      ap (λ (i : ℕ). slice_index (slice_set counts page (slice_index counts page + run)) i) (sym here)
      ∙ get_or-set_same counts page (slice_index counts page + run) 0 inside
      ∙ ap (λ (i : ℕ). slice_index counts i + run) here
  step false e =
      let apart : p ≢ page = λ (h : p ≡ page). eqb-false _ _ e (sym h) in
      get_or-set_other counts page p (slice_index counts page + run) 0 apart ∙ omega arith

-- one pixel more of a row wants its page
pub pixels-next : (s : Shape) (row : RowView) (x page p : ℕ) → page ≡ wanted_page s row x
    → pixels_wanting s row (x + 1) p ≡ pixels_wanting s row x p + run_of page 1 p
unfolding run_of
pixels-next s row x page p wants =
    pixels-more s row x p ∙ ap (λ (w : ℕ). pixels_wanting s row x p + (0 + cond (w == p) 1 0)) (sym wants) ∙ omega arith

-- a page's count has room for the run that wants the page
pub run_fits : (s : Shape) (row : RowView) (x columns page run : ℕ) (old counts : List ℕ) → x ≤ columns → page < length old
    → ((p : ℕ) → slice_index counts p + run_of page run p ≡ slice_index old p + pixels_wanting s row x p)
    → ((p : ℕ) → p < length old → slice_index old p + columns < 2 ^ 32) → slice_index counts page + run < 2 ^ 32
run_fits s row x columns page run old counts few inside counted room =
    omega (arith, counted page, run-own page run, room page inside, pixels-most s row x page)
