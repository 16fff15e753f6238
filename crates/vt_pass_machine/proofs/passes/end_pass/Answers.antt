use Rattle.std.proofs.Common.{sym, refl, length, ◌∙◌}
use Rattle.vt_pass_pool.proofs.Stills.{still_none}
use Rattle.vt_pass_machine.proofs.passes.end_pass.Goals as goal

pub end_round-events-requires : goal.end_round-events-requires
end_round-events-requires g c = (c.args.batch.now.elements, c.requires.0.stream, c.requires.1.stream)

pub finish-requires-clause-of : goal.finish-requires-clause-of
finish-requires-clause-of g c = c.requires.1.fed.of

pub finish-requires-clause-shape : goal.finish-requires-clause-shape
finish-requires-clause-shape g c = let may = c.requires.1 in may.fed.shape ∙ may.fit.shape ∙ sym may.agree.shape

pub finish-requires-clause-may : goal.finish-requires-clause-may
finish-requires-clause-may g c = (_, c.requires.0.samplers, c.requires.1.draw)

pub returns-clause-ended : goal.returns-clause-ended
returns-clause-ended g c = λ b may. c.end_round-events.ensures.ended c.args.batch.now.elements b.stream may.stream

pub returns-in_err-lines-clause-ended : goal.returns-in_err-lines-clause-ended
returns-in_err-lines-clause-ended g c = λ b may. c.end_round-events.ensures.ended c.args.batch.now.elements b.stream may.stream

pub returns-clause-drawn : goal.returns-clause-drawn
returns-clause-drawn g c = λ b may. c.in_ok-lines.ensures.ended (length (g.T.PageTable.journal b.streamer.writer)) b.samplers may.draw

pub returns-then-own-clause-ended : goal.returns-then-own-clause-ended
returns-then-own-clause-ended g c = λ b may. c.end_round-events.ensures.ended c.args.batch.now.elements b.stream may.stream

pub returns-then-own-clause-still : goal.returns-then-own-clause-still
returns-then-own-clause-still g c =
    still_none g.T.PageTable c.args.table.now g.met.T.PageTable.later_none c.args.own.now.writer c.requires.1.fed.of

pub returns-then-not-is_sound-clause-ended : goal.returns-then-not-is_sound-clause-ended
returns-then-not-is_sound-clause-ended g c = λ b may. c.end_round-events.ensures.ended c.args.batch.now.elements b.stream may.stream

pub returns-clause-sound : goal.returns-clause-sound
returns-clause-sound g c = c.if-not-is_sound.ensures.sound refl
