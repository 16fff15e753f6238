use Rattle.std.proofs.Common.{ap, ◌∙◌, arith}
use Rattle.vt_outside.specs.Files.{bytes_at}
use Rattle.vt_walk_decisions.specs.Machines.{files_of}
use Rattle.vt_walk.specs.Closing.{with_closed}
use Rattle.vt_walk.proofs.Opened.{all_fresh, closed_fresh}
use Rattle.vt_walk.proofs.loaders.open_loaders.Goals as goal

pub returns-in-Ok-clause-fresh : goal.returns-in-Ok-clause-fresh
returns-in-Ok-clause-fresh g c =
    all_fresh g.D.File.File c.args.geometry.now c.args.depth c.args.name.now (g.D.Folder.asked c.args.folder.now)
    (bytes_at (g.D.Folder.files c.args.folder.now) c.args.name.now) c.args.loaders c.open_into.new.stores.elements c.requires.some c.in-Ok.ensures.count
    c.open_into.ensures.fresh

pub returns-in-Ok-clause-kept : goal.returns-in-Ok-clause-kept
returns-in-Ok-clause-kept g c = c.open_into.ensures.kept

pub returns-in-Err-clause-kept : goal.returns-in-Err-clause-kept
returns-in-Err-clause-kept g c =
    let opened = c.open_into.ensures.kept in
    record {
      files = c.close_stores.ensures.files ∙ opened.files;
      asked = c.close_stores.ensures.asked
          ∙ ap (with_closed (files_of g.D.File.File c.open_into.new.stores.elements)) opened.asked
          ∙ closed_fresh g.D.File.File c.args.geometry.now c.args.depth c.args.name.now (g.D.Folder.asked c.args.folder.now)
          (bytes_at (g.D.Folder.files c.args.folder.now) c.args.name.now) c.open_into.new.stores.elements c.open_into.ensures.fresh;
      faults = omega (arith, opened.faults, c.close_stores.ensures.faults);
    }
