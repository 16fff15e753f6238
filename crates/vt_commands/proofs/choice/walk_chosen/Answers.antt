use Rattle.vt_command_words.specs.Walk.{shown_walk}
use Rattle.vt_command_words.specs.declared.machines.MachineChoice.TheVariants.{Standard, SwappedTable, SharedRows, Bilinear}
use Rattle.vt_command_inputs.specs.Effects.{call_effect}
use Rattle.vt_commands.proofs.Choosing.{by_choice}
use Rattle.vt_commands.proofs.choice.walk_chosen.Goals as goal

pub returns-in-Standard : goal.returns-in-Standard
returns-in-Standard g c =
    by_choice g.Ms.Machines.kinds
    (shown_walk c.args.words.now) Standard (call_effect g.D.Folder g.O.Sink c.args.folder.now c.walk.new.folder c.args.out.now c.walk.new.out)
    c.walk.result c.in-Standard.is (g.met.Ms.Machines.standard _ _ _ c.walk.ensures)

pub returns-in-SwappedTable : goal.returns-in-SwappedTable
returns-in-SwappedTable g c =
    by_choice g.Ms.Machines.kinds
    (shown_walk c.args.words.now) SwappedTable
    (call_effect g.D.Folder g.O.Sink c.args.folder.now c.walk-in-SwappedTable.new.folder c.args.out.now c.walk-in-SwappedTable.new.out)
    c.walk-in-SwappedTable.result c.in-SwappedTable.is (g.met.Ms.Machines.swapped_table _ _ _ c.walk-in-SwappedTable.ensures)

pub returns-in-SharedRows : goal.returns-in-SharedRows
returns-in-SharedRows g c =
    by_choice g.Ms.Machines.kinds
    (shown_walk c.args.words.now) SharedRows (call_effect g.D.Folder g.O.Sink c.args.folder.now c.walk-in-SharedRows.new.folder c.args.out.now c.walk-in-SharedRows.new.out)
    c.walk-in-SharedRows.result c.in-SharedRows.is (g.met.Ms.Machines.shared_rows _ _ _ c.walk-in-SharedRows.ensures)

pub returns-in-Bilinear : goal.returns-in-Bilinear
returns-in-Bilinear g c =
    by_choice g.Ms.Machines.kinds
    (shown_walk c.args.words.now) Bilinear (call_effect g.D.Folder g.O.Sink c.args.folder.now c.walk-in-Bilinear.new.folder c.args.out.now c.walk-in-Bilinear.new.out)
    c.walk-in-Bilinear.result c.in-Bilinear.is (g.met.Ms.Machines.bilinear _ _ _ c.walk-in-Bilinear.ensures)
