use Rattle.std.proofs.Common.{sym, ◌∙◌, ap}
use Rattle.vt_swap_log.proofs.Adding.{adds_moves}
use Rattle.vt_swap_log.proofs.fronts.add.Goals as goal

pub compare_exchange-found-requires : goal.compare_exchange-found-requires
compare_exchange-found-requires c =
    let h = c.requires.of in
    let pen = c.no_pen-pen.ensures in (
      ap (λ w. w.tracked) h,
      sym (ap (λ w. w.book) h),
      pen.0 ∙ sym (ap (λ w. w.book) h),
      c.requires.names,
      rw (ap (λ w. w.key) h, pen.1, c.requires.new) (adds_moves c.args.front.now.seen.log c.args.offer.ask c.args.front.now.count (sym c.args.front.now.counted) c.requires.may),
    )
