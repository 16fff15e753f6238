use Rattle.std.proofs.Common.{◌≡◌, ℕ, ◌<◌, nat_lt, List, get_or, slice_index, sym, ap, ◌∙◌, arith}
use Rattle.std.proofs.lemmas.List.{get_or_default}
use Rattle.vt_outside.specs.Lists.{ListView}
use Rattle.vt_residency.specs.Tallies.{IsTally}
use Rattle.vt_residency.proofs.Tallying.{counts_for_all, room_in, tally_added, tally_same}
use Rattle.vt_residency.proofs.tally.Tally.add.Goals as goal

-- the count that was read
read_count : (n : ℕ) (counts : List ℕ) (pages : ListView ℕ) (p b : ℕ) → IsTally n counts pages → p < n → b ≡ get_or counts p b → slice_index counts p ≡ b
read_count n counts pages p b h inside e =
    get_or_default counts p 0 b (let long = counts_for_all n counts pages h in omega (arith, long, inside)) ∙ sym e

pub push-requires : goal.push-requires
push-requires c =
    let n = c.args.pages in let counts : List ℕ = c.args.self.now.counts.items in let pages = c.args.self.now.pages in
    room_in n counts pages c.requires.tally c.args.page c.requires.inside
    (read_count n counts pages c.args.page c.index-before.result.now c.requires.tally c.requires.inside c.index-before.ensures ∙ c.if-is_first.ensures.0)

pub returns-then-is_first-clause-tally : goal.returns-then-is_first-clause-tally
returns-then-is_first-clause-tally c =
    let n = c.args.pages in let counts : List ℕ = c.args.self.now.counts.items in let pages = c.args.self.now.pages in
    tally_added n counts pages c.requires.tally c.push.new.self c.args.page c.saturating_add-count.result c.requires.inside
    (read_count n counts pages c.args.page c.index-before.result.now c.requires.tally c.requires.inside c.index-before.ensures ∙ c.if-is_first.ensures.0)
    c.if-is_first.ensures.1 (omega (arith, c.saturating_add-count.type_inv)) c.push.ensures.elements c.push.ensures.spare

pub returns-else-is_first-clause-tally : goal.returns-else-is_first-clause-tally
returns-else-is_first-clause-tally c =
    let n = c.args.pages in let counts : List ℕ = c.args.self.now.counts.items in let pages = c.args.self.now.pages in
    tally_same n counts pages c.requires.tally c.args.page c.saturating_add-count.result (omega (arith, c.saturating_add-count.type_inv))
    (c.if-is_first.ensures ∙ ap (nat_lt 0) (sym (read_count n counts pages c.args.page c.index-before.result.now c.requires.tally c.requires.inside
    c.index-before.ensures)))
