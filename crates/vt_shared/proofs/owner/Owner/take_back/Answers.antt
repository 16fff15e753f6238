use Rattle.vt_shared.specs.Readers.{left_by}
use Rattle.vt_shared.proofs.Tiles.{pass_noted_back}
use Rattle.vt_shared.proofs.owner.Owner.take_back.Goals as goal

pub returns-clause-tiles : goal.returns-clause-tiles
returns-clause-tiles c =
    pass_noted_back c.self.inside.table c.take_back.new.self c.into_pass-pass.result.view (left_by c.args.reader.stand) c.self.inside.depth
    c.take_back.ensures.taken c.into_pass-pass.ensures.view c.take_back.ensures.of.sound
    c.contents_have_the_versions_frames.ensures c.contents_are_those_of_the_change_in_force.ensures
    c.self.invariant.depth_is c.self.invariant.of.lawful.limits.least_tile c.self.invariant.given
