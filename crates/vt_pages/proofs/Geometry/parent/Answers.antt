use Rattle.std.proofs.Common.{◌≡◌, ◌+◌, ◌<◌, sym, ap, ◌∙◌, rules, arith, Some}
use Rattle.std.proofs.lemmas.Bool.{false≢true}
use Rattle.vt_pages.specs.Pages.{levels_of, level_of}
use Rattle.vt_pages.proofs.Names.{parent_is_page}
use Rattle.vt_pages.proofs.Lines.{parent_code, parent_none, places_nest}
use Rattle.vt_pages.proofs.Seen.{seen}
use Rattle.vt_pages.proofs.Geometry.parent.Goals as goal

pub overflow_add-name : goal.overflow_add-name
overflow_add-name c = let found = c.page_at-name.ensures in omega (arith, found.in_chain.level_inside, found.limits.most_levels)

pub returns-then-name-self : goal.returns-then-name-self
returns-then-name-self c =
    let g = seen c.self.view_is c.self.invariant in
    let found = c.page_at-name.ensures in
    let last : level_of c.args.self.now c.args.page + 1 ≡ levels_of c.args.self.now = omega (arith, found.level, g.levels_is, c.if-name-self.true) in
    record {
      parent = sym (parent_none c.args.self.now c.args.page last);
      root = search rules;
      inside = search rules;
      nest = places_nest c.args.self.now (omega (arith, found.limits.least_tile));
    }

pub index_at-requires : goal.index_at-requires
index_at-requires c =
    let g = seen c.self.view_is c.self.invariant in
    let found = c.page_at-name.ensures in
    let more : c.page_at-name.result.level + 1 < levels_of c.args.self.now = omega (arith, found.in_chain.level_inside, g.levels_is, c.if-name-self.false) in
    let page = parent_is_page c.args.self.now c.page_at-name.result (omega (arith, found.limits.least_tile)) found.in_chain more in
    record { level_inside = more; col_inside = page.col_inside; row_inside = page.row_inside }

pub returns : goal.returns
returns c =
    let g = seen c.self.view_is c.self.invariant in
    let found = c.page_at-name.ensures in
    let code = c.index_at.ensures in
    let more : c.page_at-name.result.level + 1 < levels_of c.args.self.now = omega (arith, found.in_chain.level_inside, g.levels_is, c.if-name-self.false) in
    let e = parent_code c.args.self.now c.args.page c.page_at-name.result found.name more in
    record {
      parent = ap Some code.index ∙ sym e;
      root = (
        λ w. absurd (false≢true (sym w)),
        λ (last : level_of c.args.self.now c.args.page + 1 ≡ levels_of c.args.self.now). absurd (omega (arith, found.level)),
      );
      inside = record { inside = code.page.inside; level = code.page.level ∙ ap (λ k. k + 1) found.level };
      nest = places_nest c.args.self.now (omega (arith, found.limits.least_tile));
    }
