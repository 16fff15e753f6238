use Rattle.std.proofs.Common.{ℕ, ◌*◌, take, ap, ap₂}
use Rattle.vt_mip.proofs.HalvedStrips.{piece_moved}
use Rattle.vt_mip.proofs.halved_strips.halve_strip.Goals as goal

pub returns-clause-halves : goal.returns-clause-halves
returns-clause-halves g c = λ p before piece.
    c.take.ensures.halves p before
    (piece_moved p c.args.half.now c.args.header.now c.args.strip _ c.args.room.now before c.requires.to
    (ap (λ (n : ℕ). take n c.args.room.now) (ap₂ (λ (m n : ℕ). m * n) c.rows_in-count.ensures.value c.requires.row)) piece)
