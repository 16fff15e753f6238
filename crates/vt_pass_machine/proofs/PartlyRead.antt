-- Files that were read for a batch were read for a part of it.
use Rattle.std.proofs.Common.{◌≡◌, ℕ, suc, Bool, true, false, List, [], ◌∷◌, length, refl, sym, ap, ◌∙◌, subst, arith}
use Rattle.std.specs.List.{filter}
use Rattle.std.proofs.lemmas.List.Sums.{length-filter}
use Rattle.vt_outside.specs.Counts.{RoseTogetherBy}
use Rattle.vt_load.specs.Shape.{Shape}
use Rattle.vt_loading.specs.PlanTypes.batches.Planned.{Planned}
use Rattle.vt_loading.specs.Requests.{FileState, AreReadFor, ArePartlyReadFor, counts_of, lost_entries}

kept_lost : (batch : List Planned) (losses : List Bool) → length losses ≡ length batch → length (lost_entries batch losses) ≡ length (filter (λ l. l) losses)
kept_lost [] [] same = refl
kept_lost [] (l ∷ losses) same = absurd (omega (arith, same))
kept_lost (e ∷ batch) [] same = absurd (omega (arith, same))
kept_lost (e ∷ batch) (true ∷ losses) same = ap suc (kept_lost batch losses (omega (arith, same)))
kept_lost (e ∷ batch) (false ∷ losses) same = kept_lost batch losses (omega (arith, same))

pub read_partly : (s : Shape) (d : ℕ) (batch : List Planned) (losses : List Bool) (old new : List FileState) → length losses ≡ length batch
    → AreReadFor s d batch losses old new → ArePartlyReadFor s d batch old new
read_partly s d batch losses old new each read = record {
  same = read.same;
  at_most_once = λ all_known at len. let once = (read.once all_known).asked at len in omega (arith, once);
  lost = lost_entries batch losses;
  failed = λ all_known at len. let once = (read.once all_known).failed at len in omega (arith, once);
  faults = subst (λ n. RoseTogetherBy n (counts_of old) (counts_of new)) (sym (kept_lost batch losses each ∙ length-filter (λ l. l) losses)) read.faults;
}
