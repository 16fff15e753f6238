use Rattle.std.proofs.Common.{arith, ◌≡◌, ◌-◌, ◌<◌, ◌≤◌, ℕ, List, Some, length, slice_get, sym, ap, ◌∙◌}
use Rattle.vt_table.specs.JournalTypes.changes.Change.{Change}
use Rattle.vt_streamer.specs.declared.latest.Latest.{Latest}
use Rattle.vt_streamer.specs.Banks.{IsChangeInside}
use Rattle.vt_streamer.specs.Latests.{AreLatest}
use Rattle.vt_streamer.proofs.Leading.{lead_step, entered_more, may_still}
use Rattle.vt_streamer.proofs.banks.lead_on.Goals as goal

-- the change that comes after a version, by how far that is behind the next one
made_by : (js : List Change) (l : Latest) (version made : ℕ) (c : Change) → version ≡ length js → made < version → AreLatest js l
    → ((changes : List Change) → AreLatest changes l → version - made ≤ length changes → slice_get changes (length changes - (version - made)) ≡ Some c)
    → slice_get js made ≡ Some c
made_by js l version made c count low latest back =
    let place : length js - (version - made) ≡ made = omega (arith, count, low) in
    ap (slice_get js) (sym place) ∙ back js latest (omega (arith, count, low))

pub advance-requires-clause-inside : goal.advance-requires-clause-inside
advance-requires-clause-inside c = c.requires.inside c.loop-made.made _
    (made_by c.args.writer.now.view.journal c.args.latest.now c.args.version c.loop-made.made _ c.requires.version c.loop-made-test.true c.requires.latest c.change_back.ensures)

pub loop-made-preserved : goal.loop-made-preserved
loop-made-preserved c = let view = c.advance.ensures.view in let inv = c.loop-made.invariant in
    let here = made_by c.args.writer.now.view.journal c.args.latest.now c.args.version c.loop-made.made _ c.requires.version c.loop-made-test.true c.requires.latest c.change_back.ensures in
    let one : IsChangeInside c.args.words.now.sizes c.change_back.result = c.requires.inside c.loop-made.made _ here in record {
      begun = omega (arith, inv.begun);
      of = c.advance.ensures.of;
      sound = c.advance.ensures.sound;
      may = may_still _ _ _ _ view inv.may;
      entered = entered_more _ _ _ _ _ inv.entered view (let page = one.page_inside in let count = ap (λ z. z.pages) inv.of.sizes in omega arith);
      stands = lead_step _ _ _ _ _ _ _ inv.of.sizes inv.entered view here one.page_inside inv.sound.entries inv.stands;
    }
