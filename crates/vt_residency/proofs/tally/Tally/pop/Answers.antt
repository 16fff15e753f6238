use Rattle.std.proofs.Common.{◌≡◌, ◌∷◌, ◌++◌, [], arith}
use Rattle.vt_residency.proofs.Tallying.{counts_for_all, popped_below, tally_popped}
use Rattle.vt_residency.proofs.tally.Tally.pop.Goals as goal

pub index_mut-requires : goal.index_mut-requires
index_mut-requires c =
    let e : c.args.self.now.pages.elements ≡ c.pop.new.self.elements ++ c.in_ok-page.page ∷ [] = c.in_ok-page.ensures.some in
    let below = popped_below c.args.pages c.args.self.now.counts.items c.args.self.now.pages c.requires.tally c.pop.new.self.elements c.in_ok-page.page e in
    let long = counts_for_all c.args.pages c.args.self.now.counts.items c.args.self.now.pages c.requires.tally in
    omega (arith, below, long)

pub returns-clause-tally : goal.returns-clause-tally
returns-clause-tally c =
    tally_popped c.args.pages c.args.self.now.counts.items c.args.self.now.pages c.requires.tally c.pop.new.self c.in_ok-page.page
    c.in_ok-page.ensures.some c.in_ok-page.ensures.spare
