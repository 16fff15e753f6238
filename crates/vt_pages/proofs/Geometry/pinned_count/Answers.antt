use Rattle.std.proofs.Common.{◌≡◌, ◌-◌, ◌<◌, ◌≤◌, slice_index, ap, ◌∙◌, arith}
use Rattle.vt_definitions.specs.Limits.{most_levels}
use Rattle.vt_pages.specs.Pages.{levels_of}
use Rattle.vt_pages.proofs.Pinned.{unpinned_most, pinned_code, pinned_none, pinned_last}
use Rattle.vt_pages.proofs.Seen.{seen}
use Rattle.vt_pages.proofs.Geometry.pinned_count.Goals as goal

pub returns-then-unpinned-self : goal.returns-then-unpinned-self
returns-then-unpinned-self c =
    let g = seen c.self.view_is c.self.invariant in
    let some : 1 ≤ c.args.self.now.tile = omega (arith, g.limits.least_tile) in
    let none : levels_of c.args.self.now - c.args.n ≡ levels_of c.args.self.now =
    omega (arith, g.levels_is, c.saturating_sub-unpinned.ensures, c.if-unpinned-self.true) in
    let count = pinned_none c.args.self.now c.args.n none in
    record { count = count; most = omega arith; last = λ p inside. pinned_last c.args.self.now c.args.n 0 p some count inside }

pub overflow_sub-result : goal.overflow_sub-result
overflow_sub-result c =
    let g = seen c.self.view_is c.self.invariant in
    let some : 1 ≤ c.args.self.now.tile = omega (arith, g.limits.least_tile) in
    let q : c.saturating_sub-unpinned.result ≡ levels_of c.args.self.now - c.args.n = rw g.levels_is at c.saturating_sub-unpinned.ensures in
    let inside : c.saturating_sub-unpinned.result < most_levels = omega (arith, g.levels_is, g.limits.most_levels, c.if-unpinned-self.false) in
    rw (g.tabled.first c.saturating_sub-unpinned.result inside, q, g.pages_is) (unpinned_most c.args.self.now c.args.n)

pub returns : goal.returns
returns c =
    let i = c.self.inside in
    let g = seen c.self.view_is c.self.invariant in
    let some : 1 ≤ c.args.self.now.tile = omega (arith, g.limits.least_tile) in
    let q : c.saturating_sub-unpinned.result ≡ levels_of c.args.self.now - c.args.n = rw g.levels_is at c.saturating_sub-unpinned.ensures in
    let inside : c.saturating_sub-unpinned.result < most_levels = omega (arith, g.levels_is, g.limits.most_levels, c.if-unpinned-self.false) in
    let first = g.tabled.first c.saturating_sub-unpinned.result inside in
    let count =
    ap (λ n. n - slice_index i.tables.first c.saturating_sub-unpinned.result) g.pages_is
    ∙ pinned_code c.args.self.now c.args.n c.saturating_sub-unpinned.result _ q first in
    record { count = count; most = omega (arith, g.pages_is); last = λ p at. pinned_last c.args.self.now c.args.n _ p some count at }
