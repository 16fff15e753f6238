use Rattle.std.proofs.Common.{◌≡◌, ◌<◌, ◌≤◌, max, refl, sym, arith}
use Rattle.vt_pages.specs.Pages.{level_of, levels_of, ancestor_of}
use Rattle.vt_pages.proofs.Lines.{ancestor_is_page}
use Rattle.vt_tests_stores.proofs.draw.tables.TableLookup.find.Goals as goal

pub returns-clause-finest : goal.returns-clause-finest
returns-clause-finest c =
    let s = c.args.self.now.geometry in
    let p = c.args.page in
    let k = c.coarser-level.result in
    let within : c.args.self.now.least < levels_of s = c.args.self.now.within in
    let inside : c.page_at.result.level < levels_of s = c.page_at.ensures.in_chain.level_inside in
    let higher : k ≡ max c.page_at.result.level c.args.self.now.least = c.coarser-level.ensures in
    let own : c.page_at.result.level ≡ level_of s p = c.page_at.ensures.level in
    let below : k < levels_of s = omega arith in
    let low : level_of s p ≤ k = omega arith in
    let tile : 2 ≤ s.tile = c.page_at.ensures.limits.least_tile in
    let reached : level_of s c.ancestor_at-page.result ≡ k = c.ancestor_at-page.ensures.level in
    record {
      no_finer = low;
      level_inside = below;
      page = c.ancestor_at-page.ensures.ancestor;
      level = sym reached;
      unmapped = λ i from high.
          let at : level_of s (ancestor_of s p i) ≡ i =
          (ancestor_is_page s p i (omega arith) c.page_at.ensures.limits.least_width c.requires from (omega arith)).level in
          (λ _. refl, λ (over : c.args.self.now.least ≤ level_of s (ancestor_of s p i)). absurd (omega arith));
      mapped = (λ (over : level_of s c.ancestor_at-page.result < c.args.self.now.least). absurd (omega arith), λ _. refl);
    }
