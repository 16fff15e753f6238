-- One row more that a sampler keeps.
use Rattle.std.proofs.Common.{◌≡◌, ℕ, ◌*◌, ◌≤◌, List, [], ◌∷◌, ◌++◌, length, get_or, subst}
use Rattle.std.specs.Prelude.{All}
use Rattle.std.proofs.lemmas.List.Elements.{All-weaker, All-push}
use Rattle.std.proofs.lemmas.List.Quantifiers.{all_pairs_push}
use Rattle.std.proofs.lemmas.List.Sums.{sum_by-le}
use Rattle.vt_page_table.specs.Shape.{Shape}
use Rattle.vt_page_table.specs.Paths.{PathView}
use Rattle.vt_page_table.specs.Rows.{RowView}
use Rattle.vt_page_table.specs.DrawLookups.{Note}
use Rattle.vt_page_table.specs.Shots.{shot_row, wants_in_rows}
use Rattle.vt_page_table.specs.PicturesTypes.filters.Filter.{Ghosts as FilterMeanings}
use Rattle.vt_page_table.specs.Evidence.{AreShown}
use Rattle.vt_page_table.proofs.Handed.{shown_by_more}
use Rattle.vt_page_table.specs.declared.table.PageTable.{Ghosts as TableMeanings}
use Rattle.vt_schedules.specs.declared.bag.RowJob.{RowJob}
use Rattle.vt_schedules.specs.SharedRows.{FitsRow, VersionsRise}
use Rattle.vt_pass_rows.specs.DrawnRows.{IsDrawnRow}

-- what rows want of a page is bounded by how many they are
pub wants_most : (wants : Shape → RowView → ℕ → ℕ → ℕ) (s : Shape) (path : PathView) (picture p most : ℕ)
    → ((y : ℕ) → wants s (shot_row s path picture y) path.width p ≤ most) → (rows : List ℕ)
    → wants_in_rows wants s path picture rows p ≤ length rows * most
unfolding wants_in_rows
wants_most wants s path picture p most few rows =
    sum_by-le (λ (y : ℕ). wants s (shot_row s path picture y) path.width p) most rows (λ k d inside. few (get_or rows k d))

module _ {T H R W P : Type 0} (table : TableMeanings T H R W) (filter : FilterMeanings P) (s : Shape) (d : ℕ) (path : PathView)
    (picture height line number : ℕ) (first q r : R) (versions : List ℕ)
    (drew_now : (a b c : R) (us : List ℕ) (v : ℕ) → table.drew_rows a b us → table.drew_row b c v → table.drew a c v)
    (drew_then : (a b c : R) (u v : ℕ) → table.drew a b u → table.drew_row b c v → table.drew a c u)
    (rises : (a b c : R) (u v : ℕ) → table.drew a b u → table.drew_row b c v → u ≤ v)
    (since : (b c : R) (v : ℕ) → table.drew_row b c v → table.start b ≤ v)
    (says_more : (b c : R) (v : ℕ) (note : Note) → table.drew_row b c v → table.says b note → table.says c note)
    (before : table.drew_rows first q versions) (same : table.start q ≡ table.start first) (kept : List RowJob) (job : RowJob)
    (now : table.drew_row q r job.version) (were : All (IsDrawnRow table filter s d path picture height line number first q) kept) where
  -- what was kept is kept
  still_kept : All (IsDrawnRow table filter s d path picture height line number first r) kept
  still_kept = All-weaker (IsDrawnRow table filter s d path picture height line number first q)
      (IsDrawnRow table filter s d path picture height line number first r) (λ x h. record {
        fits = h.fits;
        by = h.by;
        drawn = shown_by_more filter.shown s d x.version path.width (table.says q) (table.says r) (shot_row s path picture x.row) x.samples.elements
            (λ note said. says_more q r job.version note now said) h.drawn;
        drew = drew_then first q r x.version job.version h.drew now;
        since = h.since;
      }) kept were

  -- and so is what was drawn now
  pub kept_more : FitsRow height line job → job.sampler ≡ number
      → AreShown filter.shown s d job.version (table.says r) (shot_row s path picture job.row) path.width job.samples.elements
      → All (IsDrawnRow table filter s d path picture height line number first r) (kept ++ job ∷ [])
  kept_more fits by drawn = All-push (IsDrawnRow table filter s d path picture height line number first r) kept job still_kept (record {
    fits = fits;
    by = by;
    drawn = drawn;
    drew = drew_now first q r versions job.version before now;
    since = subst (λ (n : ℕ). n ≤ job.version) same (since q r job.version now);
  })

  pub versions_more : VersionsRise kept → VersionsRise (kept ++ job ∷ [])
  versions_more rising = all_pairs_push (λ (a b : RowJob). a.version ≤ b.version) kept job rising
      (λ k e inside. rises first q r (get_or kept k e).version job.version (were k e inside).drew now)
