-- What the samplers of a machine have drawn, once they are home and their rows in their places.
use Rattle.std.proofs.Common.{◌≡◌, ℕ, suc, ◌^◌, ◌<◌, List, [], ◌∷◌, length, get_or, Some, refl, sym, ap, ◌∙◌, subst, arith}
use Rattle.std.specs.Prelude.{slice_get, slice_index, All, Contains, IsTrue, IsPermutation}
use Rattle.std.specs.List.{concat, range_with_len}
use Rattle.std.proofs.lemmas.List.{length-map}
use Rattle.std.proofs.lemmas.List.Elements.{All-contains}
use Rattle.std.proofs.lemmas.List.Sorted.{sum_by-IsPermutation}
use Rattle.std.proofs.lemmas.List.Sums.{sum_by-cons, sum_by-append}
use Rattle.std.proofs.lemmas.Option.{same_Some, slice_get_within, slice_get-get_or, get_or_from_slice_get}
use Rattle.vt_definitions.specs.Dealing.{sampler_of}
use Rattle.vt_journal.specs.Shape.{Shape}
use Rattle.vt_journal.specs.Pages.{pages_of}
use Rattle.vt_pass_rows.specs.Paths.{PathView, ArePictureSides}
use Rattle.vt_pass_rows.specs.Rows.{RowView}
use Rattle.vt_pass_rows.specs.Shots.{shot_row, wants_in_rows}
use Rattle.vt_pass_rows.specs.Scenes.{Scene}
use Rattle.vt_pass_rows.specs.PicturesTypes.filters.Filter.{Ghosts as FilterMeanings}
use Rattle.vt_pass_rows.specs.FilterLaws.{WantsFew, picture_wants}
use Rattle.vt_pass_rows.specs.Evidence.{AreShown}
use Rattle.vt_pass_rows.proofs.Handed.{shown_by_more}
use Rattle.vt_pass_rows.specs.Samplers.{row_length}
use Rattle.vt_pass_rows.proofs.Sharing.{picture_few}
use Rattle.vt_pass_rows.specs.PageTableTypes.table.PageTable.{Ghosts as TableMeanings}
use Rattle.vt_pass_rows.specs.SchedulesTypes.bag.RowJob.{RowJob}
use Rattle.vt_pass_rows.specs.SharedRows.{rows_of}
use Rattle.vt_pass_rows.specs.SchedulesTypes.schedule.Schedule.{Ghosts as ScheduleMeanings}
use Rattle.vt_pass_rows.specs.SchedulesRows.{AreTaken, AreAllRows, AreRowsInPlace}
use Rattle.vt_pass_rows.specs.declared.sampler.PassSampler.{PassSampler}
use Rattle.vt_pass_rows.specs.DrawnRows.{IsDrawnRow}
use Rattle.vt_pass_rows.specs.PassSamplers.{HasDrawn}
use Rattle.vt_pass_pool.specs.declared.pool.PassPool.{PassPool}
use Rattle.vt_pass_pool.specs.Placing.{ArePlaced, all_kept, rows_kept, counted_by, RiseBySampler}
use Rattle.vt_pass_pool.specs.Pools.{IsSampler, AreSamplers, AreSameSamplers, line_length, ways_of}
use Rattle.vt_pass_pool.specs.Returned.{AreOut, IsClosed, AreClosed, HaveTaken, MayCount}
use Rattle.vt_pass_pool.specs.Ended.{MayEnd, IsRowOfPass}
use Rattle.vt_pass_pool.proofs.Listed.{made_of, made_at, contained_at}
use Rattle.vt_pass_pool.proofs.Placement.{numbers_are, kept_by, placed_own}
use Rattle.vt_pass_pool.proofs.Rising.{rising_pair}

-- what samplers have counted together is what the rows that they keep want
counts_add : {T S H R W B O M : Type 0} (wants : Shape → RowView → ℕ → ℕ → ℕ) (s : Shape) (path : PathView) (i p : ℕ)
    (samplers : List (PassSampler T S H R W B O M)) → ((n : ℕ) (a : PassSampler T S H R W B O M) → slice_get samplers n ≡ Some a
    → slice_index a.counts.items p ≡ wants_in_rows wants s path i (rows_of a.kept.elements) p)
    → counted_by samplers p ≡ wants_in_rows wants s path i (concat (rows_kept samplers)) p
unfolding wants_in_rows
counts_add wants s path i p [] each = refl
counts_add {T} {S} {H} {R} {W} {B} {O} {M} wants s path i p (a ∷ others) each =
    let w : ℕ → ℕ = λ y. wants s (shot_row s path i y) path.width p in
    let c : PassSampler T S H R W B O M → ℕ = λ x. slice_index x.counts.items p in
    omega (
      arith,
      sum_by-cons c a others,
      each 0 a refl,
      counts_add wants s path i p others (λ n x is. each (suc n) x is),
      sum_by-append w (rows_of a.kept.elements) (concat (rows_kept others)),
    )

all_wanted : (wants : Shape → RowView → ℕ → ℕ → ℕ) (s : Shape) (path : PathView) (i p : ℕ) (xs ys : List ℕ) → IsPermutation xs ys
    → wants_in_rows wants s path i ys p ≡ wants_in_rows wants s path i xs p
unfolding wants_in_rows
all_wanted wants s path i p xs ys moved = sum_by-IsPermutation (λ (y : ℕ). wants s (shot_row s path i y) path.width p) xs ys moved

module _ {T S P H R W B O M : Type 0} (table : TableMeanings T H R W) (schedule : ScheduleMeanings S B O M) (filter : FilterMeanings P) (shared : H)
    (rows : B) (k : PassPool T S H R W B O M) (scene : Scene) (picture start : ℕ) (bs cs : List (PassSampler T S H R W B O M))
    (h : MayEnd table schedule filter shared rows k scene picture start bs cs) where
  abbrev Worker : Type 0
  Worker = PassSampler T S H R W B O M

  same_line : row_length scene.depth scene.path.width ≡ line_length k
  same_line i = row_length (h.depth i) (h.width i)

  -- what a sampler was, and that it has drawn
  record HasWorked (n : ℕ) (c : PassSampler T S H R W B O M) : Type 0 where
    before : PassSampler T S H R W B O M
    there : slice_get bs n ≡ Some before
    was : IsSampler k.geometry n before
    opened : table.start before.reader ≡ start
    drawn : HasDrawn table schedule filter shared rows k.geometry k.depth scene.path picture k.height (line_length k) before c

  worked : (n : ℕ) (c : PassSampler T S H R W B O M) → slice_get cs n ≡ Some c → HasWorked n c
  worked n c is =
      let low : n < length bs = (let w = slice_get_within cs n c is in let m = h.number in omega (arith, w, m)) in
      let there = slice_get-get_or bs n c low in
      record {
        before = get_or bs n c;
        there = there;
        was = h.ready.pool.samplers_are.each n (get_or bs n c) there;
        opened = (h.ready.ready n (get_or bs n c) there).start_is;
        drawn = subst (λ (z : Shape × ℕ × ℕ × ℕ × PassSampler T S H R W B O M).
            HasDrawn table schedule filter shared rows z.0 z.1 scene.path picture z.2 z.3 (get_or bs n c) z.4)
            (λ i. (h.shape i, h.depth i, h.height i, same_line i, get_or_from_slice_get cs n c c is i)) (h.drawn n c low);
      }

  count_is : length cs ≡ k.count
  count_is = h.number ∙ h.ready.pool.samplers_are.number

  number_at : (n : ℕ) (c : PassSampler T S H R W B O M) (d : HasWorked n c) → c.number ≡ n
  number_at n c d = d.drawn.number ∙ d.was.number_is

  -- they are out
  pub are_out : AreOut table schedule shared rows k.geometry (length k.drawn.elements) cs
  are_out n c is = let d = worked n c is in record {
    number_is = number_at n c d;
    may = d.drawn.may;
    way = (k.height, line_length k, d.drawn.of);
    inside = λ j e low. let x = (d.drawn.drawn j e low).fits.inside in let m = h.ready.pool.number in omega (arith, x, m);
  }

  -- each counts the pages of the texture
  pub pages_are : All (λ (a : PassSampler T S H R W B O M). length a.counts.items ≡ length k.counts) cs
  pages_are n e inside =
      let d = worked n (get_or cs n e) (slice_get-get_or cs n e inside) in d.drawn.pages ∙ d.was.pages ∙ sym h.ready.pool.counts

  -- they took the rows that they keep, until there was nothing more to take
  pub have_taken : (none_gathered : (rows : B) (height line samplers : ℕ) (firsts : List O) (home : M)
      → schedule.has_dealt rows height line samplers firsts home → schedule.has_gathered rows height line samplers firsts [] home)
      → HaveTaken schedule rows k.height (line_length k) k.count (ways_of bs) k.home cs
  have_taken none_gathered = record {
    gathered = none_gathered rows k.height (line_length k) k.count (ways_of bs) k.home h.ready.dealt;
    took = taken (schedule.took k.height (line_length k)) (λ n c is. (worked n c is).drawn.took);
    ended = taken (schedule.ended k.height (line_length k)) (λ n c is. (worked n c is).drawn.ended);
  } where
    taken : (P : O → O → List ℕ → Type 0)
        → ((n : ℕ) (c : PassSampler T S H R W B O M) (is : slice_get cs n ≡ Some c) → P (worked n c is).before.own c.own (rows_of c.kept.elements))
        → AreTaken P k.count (ways_of bs) (ways_of cs) (rows_kept cs)
    taken P each = record {
      firsts_number = length-map bs (λ (a : PassSampler T S H R W B O M). a.own) ∙ h.ready.pool.samplers_are.number;
      lasts_number = length-map cs (λ (a : PassSampler T S H R W B O M). a.own) ∙ count_is;
      rows_number = length-map cs (λ (a : PassSampler T S H R W B O M). rows_of a.kept.elements) ∙ count_is;
      each = λ n first last own f l o.
          let x = made_of (λ (a : PassSampler T S H R W B O M). a.own) bs n first f in
          let y = made_of (λ (a : PassSampler T S H R W B O M). a.own) cs n last l in
          let z = made_of (λ (a : PassSampler T S H R W B O M). rows_of a.kept.elements) cs n own o in
          let same : z.0 ≡ y.0 = same_Some z.0 y.0 (sym z.1 ∙ y.1) in
          let d = worked n y.0 y.1 in
          let was : d.before ≡ x.0 = same_Some d.before x.0 (sym d.there ∙ x.1) in
          subst (λ (u : O × O × List ℕ). P u.0 u.1 u.2)
          (λ i. (
            (ap (λ (a : PassSampler T S H R W B O M). a.own) was ∙ x.2) i,
            y.2 i,
            (ap (λ (a : PassSampler T S H R W B O M). rows_of a.kept.elements) (sym same) ∙ z.2) i,
          ))
          (each n y.0 y.1);
    }

  -- their rows are each row of the picture once
  module _ (all : AreAllRows schedule.DEALT k.height k.count (rows_kept cs)) where
    -- what they have counted together is what the picture wants
    pub counted : (p : ℕ) → p < pages_of k.geometry → counted_by cs p ≡ picture_wants filter.wants scene picture p
    counted p inside =
        subst (λ (z : Shape × ℕ). counted_by cs p ≡ wants_in_rows filter.wants z.0 scene.path picture (range_with_len 0 z.1) p)
        (λ i. (sym h.shape i, sym h.height i))
        (counts_add filter.wants k.geometry scene.path picture p cs (λ n c is.
        let d = worked n c is in
        d.drawn.counted p (let a = d.drawn.pages in let e = d.was.pages in omega (arith, a, e, inside)))
        ∙ all_wanted filter.wants k.geometry scene.path picture p (range_with_len 0 k.height) (concat (rows_kept cs)) all.once)

    counts_low : WantsFew filter.wants → (p : ℕ) → p < length k.counts → counted_by cs p < 2 ^ 32
    counts_low most p inside =
        let sides = subst (λ (x : ℕ × ℕ). ArePictureSides x.0 x.1) (λ i. (sym h.width i, sym h.height i)) h.ready.pool.sides in
        let few = picture_few filter.wants most scene.shape scene.path picture p sides in
        let n = h.ready.pool.counts in
        let c = counted p (omega (arith, n, inside)) in
        omega (arith, c, few)

    -- the rows are in their places
    module _ (new : List RowJob) (placed : ArePlaced (all_kept cs) k.drawn.elements new) where
      -- a row of the picture, with the sampler that kept it
      record HasRow (y : ℕ) (job : RowJob) : Type 0 where
        row : job.row ≡ y
        n : ℕ
        by : PassSampler T S H R W B O M
        there : slice_get cs n ≡ Some by
        keeps : Contains by.kept.elements job

      new_number : length new ≡ k.height
      new_number = placed.number ∙ h.ready.pool.number

      once : IsPermutation (range_with_len 0 k.height) (rows_of (all_kept cs))
      once = subst (λ l. IsPermutation (range_with_len 0 k.height) l) (sym (numbers_are cs)) all.once

      has_row : (y : ℕ) (job : RowJob) → slice_get new y ≡ Some job → HasRow y job
      has_row y job is =
          let low : y < k.height = (let w = slice_get_within new y job is in let n = new_number in omega (arith, w, n)) in
          let own = placed_own k.height (all_kept cs) k.drawn.elements new h.ready.pool.number once placed y job low in
          let here : get_or new y job ≡ job = get_or_from_slice_get new y job job is in
          let by = kept_by cs job (subst (Contains (all_kept cs)) here own.0) in
          record {
            row = sym (ap (λ (j : RowJob). j.row) here) ∙ own.1;
            n = by.0;
            by = by.1;
            there = by.2;
            keeps = by.3;
          }

      module _ (y : ℕ) (job : RowJob) (r : HasRow y job) where
        by_one : HasWorked r.n r.by
        by_one = worked r.n r.by r.there

        was_kept : IsDrawnRow table filter k.geometry k.depth scene.path picture k.height (line_length k) by_one.before.number by_one.drawn.first r.by.reader job
        was_kept = All-contains (IsDrawnRow table filter k.geometry k.depth scene.path picture k.height (line_length k) by_one.before.number
            by_one.drawn.first r.by.reader) r.by.kept.elements job by_one.drawn.drawn r.keeps

        by_sampler : job.sampler ≡ r.n
        by_sampler = was_kept.by ∙ by_one.was.number_is

        among : r.n < k.count
        among = (let w = slice_get_within cs r.n r.by r.there in let n = count_is in omega (arith, w, n))

        shown : AreShown filter.shown k.geometry k.depth job.version (table.says r.by.reader) (shot_row k.geometry scene.path picture y) scene.path.width
            job.samples.elements
        shown = subst (λ (n : ℕ). AreShown filter.shown k.geometry k.depth job.version (table.says r.by.reader) (shot_row k.geometry scene.path picture n)
            scene.path.width job.samples.elements) r.row was_kept.drawn

        dealt_to : IsTrue schedule.DEALT → r.n ≡ sampler_of y k.count
        dealt_to dealt = sym (all.dealt_to dealt r.n (rows_of r.by.kept.elements) y
            (made_at (λ (a : PassSampler T S H R W B O M). rows_of a.kept.elements) cs r.n r.by r.there)
            (subst (λ (n : ℕ). Contains (rows_of r.by.kept.elements) n) r.row
            (contained_at (λ (j : RowJob). j.row) r.by.kept.elements job r.keeps)))

        -- the samplers are home
        module _ (v w : W) (ds : List (PassSampler T S H R W B O M)) (same : AreSameSamplers cs ds) (closed : AreClosed table v w cs ds)
            (drew_since : (p q r : R) (version : ℕ) → table.entered p q → table.drew q r version → table.drew p r version) where
          after : PassSampler T S H R W B O M
          after = get_or ds r.n r.by

          after_there : slice_get ds r.n ≡ Some (get_or ds r.n r.by)
          after_there = slice_get-get_or ds r.n r.by (let w = slice_get_within cs r.n r.by r.there in let n = same.count in omega (arith, w, n))

          its : IsClosed table v w r.by (get_or ds r.n r.by)
          its = closed r.n r.by (get_or ds r.n r.by) r.there after_there

          row_of_pass : IsRowOfPass table filter schedule.DEALT k scene picture start v w bs ds y job
          row_of_pass = record {
            among = (let a = by_sampler in let b = among in omega (arith, a, b));
            dealt_to = λ dealt. by_sampler ∙ dealt_to dealt;
            from = (let a = was_kept.since in let b = by_one.drawn.start_is in let c = by_one.opened in omega (arith, a, b, c));
            to = its.newest by_one.drawn.first job.version was_kept.drew;
            drawn = record {
              drawn = shown_by_more filter.shown k.geometry k.depth job.version scene.path.width (table.says r.by.reader) (table.knows w)
                  (shot_row k.geometry scene.path picture y) job.samples.elements its.known shown;
              number = r.n;
              by = get_or ds r.n r.by;
              there = after_there;
              dealt_to = dealt_to;
              at = subst (λ (n : ℕ). table.was_at w n (get_or ds r.n r.by).reader job.version) (number_at r.n r.by by_one)
                  (its.at by_one.drawn.first job.version was_kept.drew);
            };
            held = record {
              was = by_one.before;
              had = ap (slice_get bs) by_sampler ∙ by_one.there;
              home = get_or ds r.n r.by;
              has = ap (slice_get ds) by_sampler ∙ after_there;
              reader = r.by.reader;
              came = subst (λ (n : ℕ). table.came v w n r.by.reader (get_or ds r.n r.by).reader) (number_at r.n r.by by_one ∙ sym by_sampler) its.came;
              drew = drew_since by_one.before.reader by_one.drawn.first r.by.reader job.version by_one.drawn.entered was_kept.drew;
              drawn = shown;
            };
          }

      pub rows_of_pass : (v w : W) (ds : List (PassSampler T S H R W B O M)) → AreSameSamplers cs ds → AreClosed table v w cs ds
          → ((p q r : R) (version : ℕ) → table.entered p q → table.drew q r version → table.drew p r version)
          → (y : ℕ) (job : RowJob) → slice_get new y ≡ Some job → IsRowOfPass table filter schedule.DEALT k scene picture start v w bs ds y job
      rows_of_pass v w ds same closed drew_since y job is = row_of_pass y job (has_row y job is) v w ds same closed drew_since

      pub in_place : AreRowsInPlace k.height (line_length k) new
      in_place = record {
        number = new_number;
        each = λ y job is. let r = has_row y job is in (r.row, (was_kept y job r).fits.full);
      }

      pub rising : RiseBySampler new
      rising i j a b below at_i at_j same =
          let ra = has_row i a at_i in
          let rb = has_row j b at_j in
          let turn : ra.n ≡ rb.n = sym (by_sampler i a ra) ∙ same ∙ by_sampler j b rb in
          let one : ra.by ≡ rb.by = same_Some ra.by rb.by (sym ra.there ∙ ap (slice_get cs) turn ∙ rb.there) in
          let d = worked rb.n rb.by rb.there in
          rising_pair rb.by.kept.elements a b
          (all.rise rb.n (rows_of rb.by.kept.elements) (made_at (λ (x : PassSampler T S H R W B O M). rows_of x.kept.elements) cs rb.n rb.by rb.there))
          d.drawn.rising (subst (λ (x : PassSampler T S H R W B O M). Contains x.kept.elements a) one ra.keeps) rb.keeps
          (let x = ra.row in let y = rb.row in omega (arith, x, y, below))

  -- the counts stay below their bound
  pub may_count : WantsFew filter.wants → MayCount schedule.DEALT k.height k.count (length k.counts) cs
  may_count most all p inside = counts_low all most p inside

  -- samplers that are home are those of the pool
  pub samplers_stay : (ds : List (PassSampler T S H R W B O M)) → AreSameSamplers cs ds → AreSamplers k.geometry k.count ds
  samplers_stay ds same = record {
    number = same.count ∙ count_is;
    each = λ n b is.
        let c = get_or cs n b in
        let there : slice_get cs n ≡ Some c = slice_get-get_or cs n b (let w = slice_get_within ds n b is in let m = same.count in omega (arith, w, m)) in
        let d = worked n c there in
        let x = same.each n c b there is in
        record {
          number_is = x.number ∙ number_at n c d;
          pages = ap (λ v. length v.items) x.counts ∙ d.drawn.pages ∙ d.was.pages;
          none = x.none;
        };
  }
