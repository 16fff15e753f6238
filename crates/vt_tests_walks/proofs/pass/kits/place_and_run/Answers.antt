use Rattle.vt_tests_walks.proofs.Passes.{is_tile, root_placed}
use Rattle.vt_tests_walks.proofs.pass.kits.place_and_run.Goals as goal

pub place-requires-clause-tile : goal.place-requires-clause-tile
place-requires-clause-tile g c = is_tile g.F.File c.args.words.now c.args.streamer.now c.args.pool.now c.args.tile.now c.requires.idle c.requires.size

pub run_both-requires-clause-idle : goal.run_both-requires-clause-idle
run_both-requires-clause-idle g c κs within =
    root_placed g.F.File c.args.words.now c.args.streamer.now c.args.pool.now c.args.tile.now c.requires.idle c.requires.size
    c.place.new.streamer c.requires.journal c.requires.pages c.requires.frames c.requires.depth c.requires.tile c.place.ensures.of c.if-place.ensures.placed
