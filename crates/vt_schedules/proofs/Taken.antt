-- What passes of a bag took is what was put.
use Rattle.std.proofs.Common.{subst, ◌≡◌, ℕ, ◌<◌, List, [], ◌∷◌, ◌++◌, get_or, ap, sym, arith}
use Rattle.std.specs.Prelude.{IsPermutation, All, Contains, AllPairs}
use Rattle.std.specs.List.{range_with_len}
use Rattle.std.proofs.lemmas.List.{map-append}
use Rattle.std.proofs.lemmas.List.Quantifiers.{all_pairs_push}
use Rattle.std.proofs.lemmas.List.Elements.{All-contains, All-map}
use Rattle.std.proofs.lemmas.List.Sorted.{IsPermutation-map, IsPermutation-trans}
use Rattle.vt_queue.specs.declared.views.PassView.{PassView}
use Rattle.vt_queue.specs.PassViews.{all_shares}
use Rattle.vt_queue.specs.Orders.{items_of}
use Rattle.vt_queue.specs.Steps.{IsAtStep, Takes}
use Rattle.vt_queue.proofs.Gathered.{shuffled_as, append_nil, all_cut}
use Rattle.vt_queue.proofs.OrderLemmas.{order_of, items_as_put, taken_first}
use Rattle.vt_schedules.specs.declared.bag.RowJob.{RowJob}
use Rattle.vt_schedules.specs.SharedRows.{rows_of, FitsRow, AreRowsPut, Rise, Took}

-- a pass with all shares, where none is left
module _ (height line : ℕ) (v : PassView RowJob) (whole : v.shares ≡ all_shares) (empty : IsAtStep v []) (put : AreRowsPut height line v.put) where
  pub taken_once : IsPermutation (range_with_len 0 height) (rows_of (items_of v.took))
  taken_once =
      let moved : IsPermutation (items_of v.put) (items_of v.took ++ []) = items_as_put v.put v.took [] (order_of v [] empty whole) in
      let rows : IsPermutation (rows_of (items_of v.put)) (rows_of (items_of v.took ++ [])) = IsPermutation-map (λ (j : RowJob). j.row) _ _ moved in
      IsPermutation-trans _ _ _ (shuffled_as _ _ (sym put.all))
      (IsPermutation-trans _ _ _ rows (shuffled_as _ _ (ap rows_of (append_nil (items_of v.took)))))

  -- each entry that was taken is a row of the picture, at the place of its number
  pub taken_each : (got : List (ℕ × RowJob)) → All (Contains v.took) got → All (λ (e : ℕ × RowJob). (e.1.row ≡ e.0) × FitsRow height line e.1) got
  taken_each got among k d inside =
      All-contains (λ (e : ℕ × RowJob). (e.1.row ≡ e.0) × FitsRow height line e.1) v.put (get_or got k d) put.each
      (taken_first v.put v.took [] (get_or got k d) (order_of v [] empty whole) (among k d inside)).0

  pub taken_fit : (got : List (ℕ × RowJob)) → All (Contains v.took) got → All (FitsRow height line) (items_of got)
  taken_fit got among = All-map (FitsRow height line) (λ (e : ℕ × RowJob). e.1) got (λ k d inside. (taken_each got among k d inside).1)

  pub taken_rise : (got : List (ℕ × RowJob)) → All (Contains v.took) got → Rise got → AllPairs (λ (a b : ℕ × RowJob). a.1.row < b.1.row) got
  taken_rise got among rise i j d low inside =
      let a = (taken_each got among i d (omega (arith, low, inside))).0 in
      let b = (taken_each got among j d inside).0 in
      let c = rise i j d low inside in
      omega (arith, a, b, c)

-- what a pass has taken so far
pub rise_more : (v w x : PassView RowJob) (got : List (ℕ × RowJob)) (job : RowJob) → Took v got w → Rise got → (t : Takes w job x)
    → Rise (got ++ (t.place, job) ∷ [])
rise_more v w x got job took rise t =
    let Low : ℕ × RowJob → Type 0 = λ e. e.0 < t.place in
    let all : All Low (v.took ++ got) = subst (λ (u : PassView RowJob). All Low u.took) took t.after_took in
    let low : All Low got = (all_cut Low v.took got all).1 in
    all_pairs_push (λ (a b : ℕ × RowJob). a.0 < b.0) got (t.place, job) rise (λ k d inside. low k d inside)

pub rows_push : (jobs : List RowJob) (job : RowJob) → rows_of (jobs ++ job ∷ []) ≡ rows_of jobs ++ job.row ∷ []
rows_push jobs job = map-append (λ (j : RowJob). j.row) jobs (job ∷ [])
