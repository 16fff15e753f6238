use Rattle.std.proofs.Common.{[], ◌≡◌, ◌+◌, ◌-◌, refl, ap, ◌∙◌, arith}
use Rattle.std.specs.Prelude.{is_some}
use Rattle.vt_outside.proofs.UnknownContents.{OnErr-all}
use Rattle.vt_pages.specs.Pages.{pages_of}
use Rattle.vt_walk_decisions.specs.Machines.{MachineState}
use Rattle.vt_walk.specs.Reads.{AreAskedAtMostFor, lost_reads}
use Rattle.vt_walk.specs.Placing.{with_tiles}
use Rattle.vt_walk.proofs.Asks.{known_same}
use Rattle.vt_walk.proofs.Placed.{next_pinned, early_pinned, next_placed, asked_at, all_asked, last_asked, more_tiles, none_lost, last_lost, store_kept}
use Rattle.vt_walk.proofs.pinned.place_pinned.Goals as goal

pub place_page-requires-clause-next : goal.place_page-requires-clause-next
place_page-requires-clause-next g c =
    next_pinned c.args.geometry.now c.args.pinned c.loop-frame.frame c.pinned_page-page.result
    (g.M.PassMachine.state c.args.machine.now) (g.M.PassMachine.state c.loop-frame.machine) c.loop-frame.invariant.state
    (c.pinned_page-page.ensures ∙ ap (λ n. n - c.args.pinned + c.loop-frame.frame) c.page_count-pages.ensures.pages)

pub place_page-requires-clause-early : goal.place_page-requires-clause-early
place_page-requires-clause-early g c =
    omega (
      arith,
      early_pinned c.args.geometry.now c.args.pinned c.loop-frame.frame (g.M.PassMachine.state c.args.machine.now)
          (g.M.PassMachine.state c.loop-frame.machine) c.loop-frame.invariant.state,
      c.loop-frame-test.true,
      c.ranges.pinned.fits,
    )

pub returns-in_err-place_page-clause-part : goal.returns-in_err-place_page-clause-part
returns-in_err-place_page-clause-part g c =
    let page = c.pinned_page-page.result in
    let part = c.in_err-place_page.ensures.part in
    OnErr-all c.from_residual-in_err-place_page.result _
    (last_asked c.args.geometry.now c.args.store.now.depth c.args.pinned c.loop-frame.frame part.0 (g.F.File.asked c.args.store.now.file)
    (g.F.File.asked c.loop-frame.store.file) (g.F.File.asked c.place_page.new.store.file) c.loop-frame-test.true c.loop-frame.invariant.asked
    (asked_at c.args.geometry.now c.loop-frame.store.shape c.args.store.now.depth c.loop-frame.store.depth
    (pages_of c.args.geometry.now - c.args.pinned + c.loop-frame.frame) page part.0
    (g.F.File.asked c.loop-frame.store.file) (g.F.File.asked c.place_page.new.store.file)
    (c.loop-frame.invariant.kept.shape ∙ c.requires.shape) c.loop-frame.invariant.kept.depth
    (c.pinned_page-page.ensures ∙ ap (λ n. n - c.args.pinned + c.loop-frame.frame) c.page_count-pages.ensures.pages) part.1))

pub returns-in_err-place_page-clause-lost : goal.returns-in_err-place_page-clause-lost
returns-in_err-place_page-clause-lost g c =
    let page = c.pinned_page-page.result in
    let part = c.in_err-place_page.ensures.part in
    last_lost c.args.geometry.now c.args.store.now.depth c.args.pinned c.loop-frame.frame part.0 (g.F.File.asked c.args.store.now.file)
    (g.F.File.asked c.loop-frame.store.file) (g.F.File.asked c.place_page.new.store.file) c.page_count-pages.ensures.limits c.depth-depth.ensures.lawful
    c.loop-frame.invariant.asked
    (asked_at c.args.geometry.now c.loop-frame.store.shape c.args.store.now.depth c.loop-frame.store.depth
    (pages_of c.args.geometry.now - c.args.pinned + c.loop-frame.frame) page part.0
    (g.F.File.asked c.loop-frame.store.file) (g.F.File.asked c.place_page.new.store.file)
    (c.loop-frame.invariant.kept.shape ∙ c.requires.shape) c.loop-frame.invariant.kept.depth
    (c.pinned_page-page.ensures ∙ ap (λ n. n - c.args.pinned + c.loop-frame.frame) c.page_count-pages.ensures.pages) part.1)

pub loop-frame-preserved : goal.loop-frame-preserved
loop-frame-preserved g c =
    let page = c.pinned_page-page.result in
    let at = c.pinned_page-page.ensures ∙ ap (λ n. n - c.args.pinned + c.loop-frame.frame) c.page_count-pages.ensures.pages in
    record {
      idle = c.place_page.ensures.idle;
      state = next_placed c.args.geometry.now c.args.pinned c.loop-frame.frame page (g.M.PassMachine.state c.args.machine.now)
          (g.M.PassMachine.state c.loop-frame.machine)
          (g.M.PassMachine.state c.place_page.new.machine) c.loop-frame.invariant.state at c.in_ok-place_page.ensures.placed;
      asked = more_tiles c.args.geometry.now c.args.store.now.depth c.args.pinned c.loop-frame.frame (g.F.File.asked c.args.store.now.file)
          (g.F.File.asked c.loop-frame.store.file) (g.F.File.asked c.place_page.new.store.file) c.loop-frame.invariant.asked
          (asked_at c.args.geometry.now c.loop-frame.store.shape c.args.store.now.depth c.loop-frame.store.depth
          (pages_of c.args.geometry.now - c.args.pinned + c.loop-frame.frame) page _
          (g.F.File.asked c.loop-frame.store.file) (g.F.File.asked c.place_page.new.store.file)
          (c.loop-frame.invariant.kept.shape ∙ c.requires.shape) c.loop-frame.invariant.kept.depth at c.in_ok-place_page.ensures.asked);
      room = omega (arith, c.loop-frame.invariant.room, c.place_page.ensures.spare);
      kept = store_kept g.F.File _ _ _ c.loop-frame.invariant.kept c.place_page.ensures.kept;
    }

pub returns-clause-asked : goal.returns-clause-asked
returns-clause-asked g c =
    let whole : c.loop-frame.frame ≡ c.args.pinned = omega (arith, c.loop-frame-test.false, c.loop-frame.auto.frame-end) in
    all_asked c.args.geometry.now c.args.store.now.depth c.args.pinned (g.F.File.asked c.args.store.now.file) (g.F.File.asked c.loop-frame.store.file)
    (c.loop-frame.invariant.asked ∙ ap (λ n. with_tiles c.args.geometry.now c.args.store.now.depth c.args.pinned n
    (g.F.File.asked c.args.store.now.file)) whole)

pub returns-clause-lost : goal.returns-clause-lost
returns-clause-lost g c =
    none_lost c.args.geometry.now c.args.store.now.depth c.args.pinned c.loop-frame.frame (g.F.File.asked c.args.store.now.file)
    (g.F.File.asked c.loop-frame.store.file) c.loop-frame.invariant.asked

pub returns-in_err-reserve-clause-files : goal.returns-in_err-reserve-clause-files
returns-in_err-reserve-clause-files g c = refl

pub returns-in_err-buffer-clause-files : goal.returns-in_err-buffer-clause-files
returns-in_err-buffer-clause-files g c = refl

pub returns-in_err-place_page-clause-files : goal.returns-in_err-place_page-clause-files
returns-in_err-place_page-clause-files g c =
    ap (λ (m : MachineState). m.files) (c.in_err-place_page.ensures.refused ∙ c.loop-frame.invariant.state)

pub returns-clause-idle : goal.returns-clause-idle
returns-clause-idle g c = c.loop-frame.invariant.idle

pub returns-clause-files : goal.returns-clause-files
returns-clause-files g c = ap (λ (m : MachineState). m.files) c.loop-frame.invariant.state

pub returns-in_err-reserve-clause-part : goal.returns-in_err-reserve-clause-part
returns-in_err-reserve-clause-part g c = OnErr-all c.from_residual.result _
    (known_same (AreAskedAtMostFor c.args.geometry.now c.args.store.now.depth c.args.pinned []) (g.F.File.asked c.args.store.now.file)
    (g.F.File.asked c.reserve.new.self.file) c.reserve.ensures.asked (λ places at len. omega arith))

pub returns-in_err-reserve-clause-lost : goal.returns-in_err-reserve-clause-lost
returns-in_err-reserve-clause-lost g c =
    known_same (λ old new. lost_reads c.args.geometry.now c.args.store.now.depth c.args.pinned new
    ≡ lost_reads c.args.geometry.now c.args.store.now.depth c.args.pinned old) (g.F.File.asked c.args.store.now.file)
    (g.F.File.asked c.reserve.new.self.file) c.reserve.ensures.asked (λ places. refl)

pub returns-in_err-buffer-clause-part : goal.returns-in_err-buffer-clause-part
returns-in_err-buffer-clause-part g c = OnErr-all c.from_residual-in_err-buffer.result _
    (known_same (AreAskedAtMostFor c.args.geometry.now c.args.store.now.depth c.args.pinned []) (g.F.File.asked c.args.store.now.file)
    (g.F.File.asked c.reserve.new.self.file) c.reserve.ensures.asked (λ places at len. omega arith))

pub returns-in_err-buffer-clause-lost : goal.returns-in_err-buffer-clause-lost
returns-in_err-buffer-clause-lost g c =
    known_same (λ old new. lost_reads c.args.geometry.now c.args.store.now.depth c.args.pinned new
    ≡ lost_reads c.args.geometry.now c.args.store.now.depth c.args.pinned old) (g.F.File.asked c.args.store.now.file)
    (g.F.File.asked c.reserve.new.self.file) c.reserve.ensures.asked (λ places. refl)

pub returns-in_err-reserve-clause-kept : goal.returns-in_err-reserve-clause-kept
returns-in_err-reserve-clause-kept g c = record {
  same = record { name = c.reserve.ensures.name; all_known = ap is_some c.reserve.ensures.asked };
  bytes = c.reserve.ensures.bytes;
  shape = c.reserve.ensures.shape;
  depth = c.reserve.ensures.depth;
  faults = omega (arith, c.reserve.ensures.faults);
}

pub returns-in_err-buffer-clause-kept : goal.returns-in_err-buffer-clause-kept
returns-in_err-buffer-clause-kept g c = record {
  same = record { name = c.reserve.ensures.name; all_known = ap is_some c.reserve.ensures.asked };
  bytes = c.reserve.ensures.bytes;
  shape = c.reserve.ensures.shape;
  depth = c.reserve.ensures.depth;
  faults = omega (arith, c.reserve.ensures.faults);
}

pub returns-in_err-place_page-clause-kept : goal.returns-in_err-place_page-clause-kept
returns-in_err-place_page-clause-kept g c = store_kept g.F.File _ _ _ c.loop-frame.invariant.kept c.place_page.ensures.kept

pub returns-clause-kept : goal.returns-clause-kept
returns-clause-kept g c = c.loop-frame.invariant.kept
