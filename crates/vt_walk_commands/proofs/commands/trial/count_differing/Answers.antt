use Rattle.std.proofs.Common.{◌≡◌, ℕ, suc, ◌+◌, List, [], ◌∷◌, ◌++◌, ap, ◌∙◌, arith}
use Rattle.std.specs.Prelude.{sum_by}
use Rattle.std.specs.List.{range_with_len}
use Rattle.std.proofs.lemmas.List.Sums.{sum_by_push}
use Rattle.vt_outside.specs.MemoryFolder.{memory_files}
use Rattle.vt_draw.proofs.Ranges.{range_more}
use Rattle.vt_walk_commands.specs.commands.Trial.{differing_in}
use Rattle.vt_walk_commands.proofs.commands.trial.count_differing.Goals as goal

pub loop-picture-preserved : goal.loop-picture-preserved
loop-picture-preserved g c =
    let f : ℕ → ℕ = differing_in (memory_files c.args.folder.now) c.args.chain.now c.args.path.now in
    let k : ℕ = c.loop-picture.picture in
    let next : k + 1 ≡ suc k = omega arith in
    let more : sum_by f (range_with_len 0 (k + 1)) ≡ sum_by f (range_with_len 0 k) + f k =
    ap (λ (n : ℕ). sum_by f (range_with_len 0 n)) next
    ∙ ap (λ (xs : List ℕ). sum_by f xs) (range_more 0 k ∙ ap (λ (m : ℕ). range_with_len 0 k ++ m ∷ []) (omega arith))
    ∙ sum_by_push f (range_with_len 0 k) k in
    let before = c.loop-picture.invariant in
    let one = c.in_ok-differing.ensures in
    let sum = c.saturating_add-count.ensures in
    omega (arith, before, one, sum, more)
