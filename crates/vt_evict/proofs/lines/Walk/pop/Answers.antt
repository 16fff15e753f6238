use Rattle.std.proofs.Common.{◌≡◌, ◌∷◌, ◌++◌, [], arith}
use Rattle.vt_evict.proofs.WalkLemmas.{last_below, popped_walk}
use Rattle.vt_evict.proofs.lines.Walk.pop.Goals as goal

pub index_mut-requires : goal.index_mut-requires
index_mut-requires c =
    let e : c.args.self.now.walked.elements ≡ c.pop.new.self.elements ++ c.in_ok-page.page ∷ [] = c.in_ok-page.ensures.some in
    let below = last_below c.args.pages c.args.self.now.marks.items c.args.self.now.walked c.pop.new.self.elements c.in_ok-page.page c.requires.walk e in
    omega (arith, c.requires.walk.marks_for_all)

pub returns-clause-walk : goal.returns-clause-walk
returns-clause-walk c =
    popped_walk c.args.pages c.args.self.now.marks.items c.args.self.now.walked c.pop.new.self c.in_ok-page.page c.requires.walk
    c.in_ok-page.ensures.some c.in_ok-page.ensures.spare
