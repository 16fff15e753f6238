use Rattle.std.proofs.Common.{ℕ, sym, ◌∙◌, subst}
use Rattle.vt_page_table.specs.Fills.{FillsOne}
use Rattle.vt_swap_table.specs.SwapWriters.{HasFilledPage}
use Rattle.vt_swap_table.proofs.Knowing.{on_ok}
use Rattle.vt_swap_table.proofs.Filling.{one_filled}
use Rattle.vt_swap_table.proofs.table.SwapTablePageTable.bring.Goals as goal

pub returns-clause-filled : goal.returns-clause-filled
returns-clause-filled g c =
    let v = c.args.writer.now.streamer in let w = c.bring.new.self in let e = c.args.planned.now in
    on_ok c.bring.result (λ b. subst (λ (n : ℕ). FillsOne c.args.depth n e.page c.args.tile.now (HasFilledPage v) (HasFilledPage w)) c.texels_of-texels.ensures
    (one_filled c.args.depth c.texels_of-texels.result c.args.tile.now e.victim e.page e.frame b.words v w b.words_of b.log
    (sym c.is_broken.ensures.broken ∙ c.if-is_broken.false))) c.bring.ensures.brought
