use Rattle.std.proofs.Common.{◌-◌, inl, inr, take, drop}
use Rattle.vt_camera.proofs.PathSteps.{line_refused, line_read, all_read}
use Rattle.vt_camera.proofs.parse.read_keys.Goals as goal

pub returns-in-Err : goal.returns-in-Err
returns-in-Err c =
    elim c.in-Err.ensures [
      | inl memory ↦ inl memory
      | inr flaw ↦ inr
          (line_refused c.args.text.now c.args.start c.loop-at.at c.in-Some.end c.loop-at.number c.loop-at.last
          c.loop-at.cameras.items (take (c.in-Some.end - c.loop-at.at) (drop c.loop-at.at c.args.text.now))
          c.in-Err.error c.loop-at.invariant c.in-Some.ensures.line flaw)
    ]

pub loop-at-preserved : goal.loop-at-preserved
loop-at-preserved c =
    line_read c.args.text.now c.args.start c.loop-at.at c.in-Some.end c.loop-at.number c.loop-at.last
    c.loop-at.cameras.items c.add_key.new.cameras.items c.in-Ok.camera
    (take (c.in-Some.end - c.loop-at.at) (drop c.loop-at.at c.args.text.now)) c.loop-at.invariant
    c.in-Some.ensures.line c.in-Some.ensures.place.1 c.in-Ok.ensures

pub returns : goal.returns
returns c = all_read c.args.text.now c.args.start c.loop-at.at c.loop-at.number c.loop-at.last c.loop-at.cameras.items c.loop-at.invariant c.loop-at-test.false
