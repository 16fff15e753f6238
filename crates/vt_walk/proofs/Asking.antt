-- What the passes of a run ask for, and what of it was lost, adds up.
use Rattle.std.proofs.Common.{◌≡◌, ℕ, suc, ◌+◌, Bool, true, false, cond, List, [], ◌∷◌, ◌++◌, length, refl, ap, ◌∙◌, length-append, arith}
use Rattle.std.specs.List.{filter, count_by}
use Rattle.std.proofs.lemmas.List.Sums.{length-filter, sum_by-append}
use Rattle.vt_pages.specs.Shape.{Shape}
use Rattle.vt_evict.specs.PlanTypes.batches.Planned.{Planned}
use Rattle.vt_walk_decisions.specs.Outcomes.{lost_count}
use Rattle.vt_walk_decisions.specs.Requests.{is_tile_at, times_planned, lost_entries}
use Rattle.vt_walk.specs.Fits.{WalkSetup}
use Rattle.vt_walk.specs.Runs.{WalkPass, IsWalkRun, planned_in, lost_in}
use Rattle.vt_walk.specs.Logs.{reads_of}

pub count_both : {X : Type 0} (t : X → Bool) (xs ys : List X) → count_by t (xs ++ ys) ≡ count_by t xs + count_by t ys
count_both t xs ys = sum_by-append (λ x. cond (t x) 1 0) xs ys

pub planned_both : (s : Shape) (d at len : ℕ) (xs ys : List Planned)
    → times_planned s d (xs ++ ys) at len ≡ times_planned s d xs at len + times_planned s d ys at len
planned_both s d at len xs ys = count_both (λ (e : Planned). is_tile_at s d at len e.page) xs ys

pub planned_more : (s : Shape) (d at len : ℕ) (p : WalkPass) (passes : List WalkPass)
    → times_planned s d (planned_in (p ∷ passes)) at len ≡ times_planned s d p.batch at len + times_planned s d (planned_in passes) at len
planned_more s d at len p passes = planned_both s d at len p.batch (planned_in passes)

pub lost_more : (s : Shape) (d at len : ℕ) (p : WalkPass) (passes : List WalkPass)
    → times_planned s d (lost_in (p ∷ passes)) at len ≡ times_planned s d (lost_entries p.batch p.losses) at len + times_planned s d (lost_in passes) at len
lost_more s d at len p passes = planned_both s d at len (lost_entries p.batch p.losses) (lost_in passes)

kept_lost : (batch : List Planned) (losses : List Bool) → length losses ≡ length batch → length (lost_entries batch losses) ≡ length (filter (λ l. l) losses)
kept_lost [] [] same = refl
kept_lost [] (l ∷ losses) same = absurd (omega (arith, same))
kept_lost (e ∷ batch) [] same = absurd (omega (arith, same))
kept_lost (e ∷ batch) (true ∷ losses) same = ap suc (kept_lost batch losses (omega (arith, same)))
kept_lost (e ∷ batch) (false ∷ losses) same = kept_lost batch losses (omega (arith, same))

pub count_lost : (batch : List Planned) (losses : List Bool) → length losses ≡ length batch → length (lost_entries batch losses) ≡ lost_count losses
count_lost batch losses same = kept_lost batch losses same ∙ length-filter (λ l. l) losses

pub losses_more : (w : WalkSetup) (p : WalkPass) (passes : List WalkPass) → IsWalkRun w (p ∷ passes)
    → length (lost_in (p ∷ passes)) ≡ lost_count p.losses + length (lost_in passes)
losses_more w p passes run = omega (arith, length-append (lost_entries p.batch p.losses) (lost_in passes), count_lost p.batch p.losses run.1.outcome.reported)

pub reads_more : (w : WalkSetup) (p : WalkPass) (passes : List WalkPass) → reads_of w (p ∷ passes) ≡ reads_of w passes + length p.batch
reads_more w p passes = omega (arith, length-append p.batch (planned_in passes))
