use Rattle.std.proofs.Common.{rules, length, inr}
use Rattle.vt_camera.proofs.KeysAdded.{said_key, last_is, no_key, single_added, steps_added}
use Rattle.vt_camera.proofs.parse.add_key.Goals as goal

pub returns-in-None : goal.returns-in-None
returns-in-None c = search rules

pub add_steps-requires-clause-from_limits : goal.add_steps-requires-clause-from_limits
add_steps-requires-clause-from_limits c = (last_is c.args.last c.in-Some.from (length c.args.cameras.now.items) c.in-Some.is c.requires.last).0

pub add_steps-requires-clause-to_limits : goal.add_steps-requires-clause-to_limits
add_steps-requires-clause-to_limits c = (said_key c.args.line.now c.in-Some-Steps.field-0 _ c.in-Some-Steps.field-0-is c.in-Some-Steps.ensures).0.2

pub add_steps-requires-clause-few : goal.add_steps-requires-clause-few
add_steps-requires-clause-few c = (said_key c.args.line.now c.in-Some-Steps.field-0 _ c.in-Some-Steps.field-0-is c.in-Some-Steps.ensures).0.1

pub returns-in-Some-Single : goal.returns-in-Some-Single
returns-in-Some-Single c =
    single_added c.args.number c.args.line.now c.args.last c.args.cameras.now.items c.add_single.new.cameras.items c.in-Some-Single.camera
    c.add_single.result (said_key c.args.line.now c.in-Some-Single.field-0 _ c.in-Some-Single.field-0-is c.in-Some-Single.ensures) c.add_single.ensures

pub returns-in-None-last : goal.returns-in-None-last
returns-in-None-last c =
    inr (no_key c.args.number (length c.args.cameras.now.items) c.args.line.now c.in-Some-Steps.pictures c.in-Some-Steps.camera c.args.last
    (said_key c.args.line.now c.in-Some-Steps.field-0 _ c.in-Some-Steps.field-0-is c.in-Some-Steps.ensures) c.in-None-last.is c.requires.last)

pub returns-in-Some : goal.returns-in-Some
returns-in-Some c =
    steps_added c.args.number c.args.line.now c.args.last c.args.cameras.now.items c.add_steps.new.cameras.items c.in-Some.from c.in-Some-Steps.camera
    c.in-Some-Steps.pictures c.add_steps.result
    (said_key c.args.line.now c.in-Some-Steps.field-0 _ c.in-Some-Steps.field-0-is c.in-Some-Steps.ensures) c.in-Some.is
    (last_is c.args.last c.in-Some.from (length c.args.cameras.now.items) c.in-Some.is c.requires.last).1 c.add_steps.ensures
