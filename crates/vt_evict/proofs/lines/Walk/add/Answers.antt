use Rattle.vt_evict.proofs.WalkLemmas.{room_at, added_walk}
use Rattle.vt_evict.proofs.lines.Walk.add.Goals as goal

pub push-requires : goal.push-requires
push-requires c = room_at c.args.pages c.args.self.now.marks.items c.args.self.now.walked c.args.page c.requires.walk c.requires.inside c.requires.new

pub returns-clause-walk : goal.returns-clause-walk
returns-clause-walk c =
    added_walk c.args.pages c.args.self.now.marks.items c.args.self.now.walked c.push.new.self c.args.page c.requires.walk c.requires.inside c.requires.new
    c.push.ensures.elements c.push.ensures.spare
