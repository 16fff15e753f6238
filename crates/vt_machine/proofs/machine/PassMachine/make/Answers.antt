use Rattle.vt_machine.proofs.machine.PassMachine.make.Goals as goal

pub returns-in-Ok-clause-begins : goal.returns-in-Ok-clause-begins
returns-in-Ok-clause-begins g c = c.in-Ok.ensures.begins

pub make_from-requires-clause-frames : goal.make_from-requires-clause-frames
make_from-requires-clause-frames g c = c.requires.frames
