-- Rows that a sampler keeps, and buffers that are lent.
use Rattle.std.proofs.Common.{◌≡◌, ℕ, List, [], ◌∷◌, ◌++◌, length, reverse, take, drop, sym, ap, ◌∙◌}
use Rattle.std.specs.List.{refill}
use Rattle.std.proofs.Math.Seq.{take-append_seam}
use Rattle.std.proofs.lemmas.List.{length-map, map-append, reverse-append}
use Rattle.vt_schedules.specs.declared.bag.RowJob.{RowJob}
use Rattle.vt_schedules.specs.SharedRows.{rows_of, versions_of}

-- a list whose lent elements are all back
pub refilled : {W : Type 0} (xs ws : List W) → length ws ≡ length xs → refill (length xs) xs ws ≡ ws
refilled xs ws e = ap (λ (n : ℕ). take n (ws ++ drop (length ws) xs)) (sym e) ∙ take-append_seam ws (drop (length ws) xs)

pub rows_number : (jobs : List RowJob) → length (rows_of jobs) ≡ length jobs
rows_number jobs = length-map jobs (λ (j : RowJob). j.row)

-- the versions of rows, the newest first, where one row more was drawn
pub versions_push : (jobs : List RowJob) (job : RowJob) → reverse (versions_of (jobs ++ job ∷ [])) ≡ job.version ∷ reverse (versions_of jobs)
versions_push jobs job =
    ap reverse (map-append (λ (j : RowJob). j.version) jobs (job ∷ [])) ∙ reverse-append (versions_of jobs) (job.version ∷ [])
