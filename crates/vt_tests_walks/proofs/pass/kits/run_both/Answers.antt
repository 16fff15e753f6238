use Rattle.std.proofs.Common.{length}
use Rattle.vt_tests_walks.proofs.Passes.{two_lawful}
use Rattle.vt_tests_walks.proofs.pass.kits.run_both.Goals as goal

pub runs-requires-clause-lawful : goal.runs-requires-clause-lawful
runs-requires-clause-lawful g c κs within = two_lawful c.args.streamer.now.shape (length c.args.streamer.now.owners) c.args.streamer.now.writer.journal
    c.in-Ok.batch.elements c.requires.pages c.requires.frames c.requires.journal c.in-Ok.ensures
