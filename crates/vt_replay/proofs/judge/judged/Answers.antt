use Rattle.std.proofs.Common.{arith}
use Rattle.vt_replay.proofs.Judging.{judged_read, judged_refused}
use Rattle.vt_replay.proofs.judge.judged.Goals as goal

pub returns-in-Ok-clause-read : goal.returns-in-Ok-clause-read
returns-in-Ok-clause-read c =
    let limits = c.tile-side.ensures.limits in
    let least = limits.least_tile in
    (judged_read c.args.geometry.now c.args.path.now c.args.text.now c.height.result c.pictures.result c.in-Ok.journal c.first_outside-outside.result
    c.accepted.result (omega (arith, least)) c.height.ensures.value c.pictures.ensures.value c.in-Ok.ensures.ok c.first_outside-outside.ensures
    c.accepted.ensures).read

pub returns-in-Ok-clause-line : goal.returns-in-Ok-clause-line
returns-in-Ok-clause-line c =
    let limits = c.tile-side.ensures.limits in
    let least = limits.least_tile in
    (judged_read c.args.geometry.now c.args.path.now c.args.text.now c.height.result c.pictures.result c.in-Ok.journal c.first_outside-outside.result
    c.accepted.result (omega (arith, least)) c.height.ensures.value c.pictures.ensures.value c.in-Ok.ensures.ok c.first_outside-outside.ensures
    c.accepted.ensures).line

pub returns-in-Ok-clause-refused : goal.returns-in-Ok-clause-refused
returns-in-Ok-clause-refused c =
    let limits = c.tile-side.ensures.limits in
    let least = limits.least_tile in
    (judged_read c.args.geometry.now c.args.path.now c.args.text.now c.height.result c.pictures.result c.in-Ok.journal c.first_outside-outside.result
    c.accepted.result (omega (arith, least)) c.height.ensures.value c.pictures.ensures.value c.in-Ok.ensures.ok c.first_outside-outside.ensures
    c.accepted.ensures).refused

pub returns-in-Err-BadLine-clause-line : goal.returns-in-Err-BadLine-clause-line
returns-in-Err-BadLine-clause-line c =
    let limits = c.tile-side.ensures.limits in
    let least = limits.least_tile in
    let refused = rw c.in-Err-BadLine.field-0-is at c.in-Err-BadLine.ensures.refused in
    (judged_refused c.args.geometry.now c.args.path.now c.args.text.now c.height.result c.pictures.result c.in-Err-BadLine.line c.earlier.result
    c.first_outside-outside.result (omega (arith, least)) c.height.ensures.value c.pictures.ensures.value refused
    c.first_outside-outside.ensures c.earlier.ensures).line

pub returns-in-Err-BadLine-clause-refused : goal.returns-in-Err-BadLine-clause-refused
returns-in-Err-BadLine-clause-refused c =
    let limits = c.tile-side.ensures.limits in
    let least = limits.least_tile in
    let refused = rw c.in-Err-BadLine.field-0-is at c.in-Err-BadLine.ensures.refused in
    (judged_refused c.args.geometry.now c.args.path.now c.args.text.now c.height.result c.pictures.result c.in-Err-BadLine.line c.earlier.result
    c.first_outside-outside.result (omega (arith, least)) c.height.ensures.value c.pictures.ensures.value refused
    c.first_outside-outside.ensures c.earlier.ensures).refused
