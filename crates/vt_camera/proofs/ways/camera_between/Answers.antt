use Rattle.std.proofs.Common.{sym, subst}
use Rattle.vt_camera.specs.Paths.{IsCamera}
use Rattle.vt_camera.proofs.WayLemmas.{between_camera, made_way}
use Rattle.vt_camera.proofs.Bits.{place_limits, height_limits, direction_limits}
use Rattle.vt_camera.proofs.ways.camera_between.Goals as goal

pub returns-clause-value : goal.returns-clause-value
returns-clause-value c =
    made_way c.args.from.now c.args.to.now c.args.i c.args.n _ _ _ _ _ c.requires.within c.requires.from_limits
    c.requires.to_limits c.between.ensures.value c.between-2.ensures.value c.between-3.ensures.value
    c.between-4.ensures.value c.between-5.ensures.value

pub returns-clause-limits : goal.returns-clause-limits
returns-clause-limits c =
    subst IsCamera
    (sym
    (made_way c.args.from.now c.args.to.now c.args.i c.args.n _ _ _ _ _ c.requires.within c.requires.from_limits
    c.requires.to_limits c.between.ensures.value c.between-2.ensures.value c.between-3.ensures.value
    c.between-4.ensures.value c.between-5.ensures.value))
    (between_camera c.args.from.now c.args.to.now c.args.i c.args.n c.requires.within c.requires.from_limits c.requires.to_limits)

pub between-requires-clause-a_limits : goal.between-requires-clause-a_limits
between-requires-clause-a_limits c = place_limits c.args.from.now.u c.requires.from_limits.u_low c.requires.from_limits.u_high

pub between-requires-clause-b_limits : goal.between-requires-clause-b_limits
between-requires-clause-b_limits c = place_limits c.args.to.now.u c.requires.to_limits.u_low c.requires.to_limits.u_high

pub between-requires-2-clause-a_limits : goal.between-requires-2-clause-a_limits
between-requires-2-clause-a_limits c = place_limits c.args.from.now.v c.requires.from_limits.v_low c.requires.from_limits.v_high

pub between-requires-2-clause-b_limits : goal.between-requires-2-clause-b_limits
between-requires-2-clause-b_limits c = place_limits c.args.to.now.v c.requires.to_limits.v_low c.requires.to_limits.v_high

pub between-requires-3-clause-a_limits : goal.between-requires-3-clause-a_limits
between-requires-3-clause-a_limits c = height_limits c.args.from.now.h c.requires.from_limits.h_low c.requires.from_limits.h_high

pub between-requires-3-clause-b_limits : goal.between-requires-3-clause-b_limits
between-requires-3-clause-b_limits c = height_limits c.args.to.now.h c.requires.to_limits.h_low c.requires.to_limits.h_high

pub between-requires-4-clause-a_limits : goal.between-requires-4-clause-a_limits
between-requires-4-clause-a_limits c = direction_limits c.args.from.now.c c.requires.from_limits.c_low c.requires.from_limits.c_high

pub between-requires-4-clause-b_limits : goal.between-requires-4-clause-b_limits
between-requires-4-clause-b_limits c = direction_limits c.args.to.now.c c.requires.to_limits.c_low c.requires.to_limits.c_high

pub between-requires-5-clause-a_limits : goal.between-requires-5-clause-a_limits
between-requires-5-clause-a_limits c = direction_limits c.args.from.now.s c.requires.from_limits.s_low c.requires.from_limits.s_high

pub between-requires-5-clause-b_limits : goal.between-requires-5-clause-b_limits
between-requires-5-clause-b_limits c = direction_limits c.args.to.now.s c.requires.to_limits.s_low c.requires.to_limits.s_high
