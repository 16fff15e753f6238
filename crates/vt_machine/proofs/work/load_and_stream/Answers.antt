use Rattle.vt_machine.proofs.work.load_and_stream.Goals as goal

pub work-requires : goal.work-requires
work-requires g c = c.requires.streamer
