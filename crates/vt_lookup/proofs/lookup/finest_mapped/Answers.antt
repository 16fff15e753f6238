use Rattle.std.proofs.Common.{◌≡◌, ◌/◌, ◌≤◌, ◌<◌, true, inl, inr, refl, sym, ap, ◌∙◌, arith}
use Rattle.std.proofs.lemmas.Bool.{cases_lt}
use Rattle.vt_pages.specs.Pages.{levels_of, level_of, ancestor_of}
use Rattle.vt_pictures.specs.DrawLookups.{EntryNote}
use Rattle.vt_grace.specs.declared.views.PassView.{PassView}
use Rattle.vt_lookup.proofs.Noting.{noted_behind_entry, entry_noted, one_more, noted_as}
use Rattle.vt_lookup.proofs.Climbing.{half_more, ancestor_named, ancestor_index, ancestor_level, some_root}
use Rattle.vt_lookup.proofs.lookup.finest_mapped.Goals as goal

pub index_of-ancestor-requires : goal.index_of-ancestor-requires
index_of-ancestor-requires c =
    let named = c.page_at-name.ensures in
    ancestor_named c.args.geometry.now c.args.page c.loop-level.level c.loop-level.col c.loop-level.row named.limits c.requires.page
    (omega (arith, named.level)) (omega arith) c.loop-level.invariant.col c.loop-level.invariant.row

pub returns-then-entry-ne0-clause-more : goal.returns-then-entry-ne0-clause-more
returns-then-entry-ne0-clause-more c = one_more _ _ _ _ _ _ c.entry-entry.ensures.view c.loop-level.invariant.more

pub returns-then-entry-ne0-clause-finest : goal.returns-then-entry-ne0-clause-finest
returns-then-entry-ne0-clause-finest c =
    let named = c.page_at-name.ensures in
    let from : level_of c.args.geometry.now c.args.page ≤ c.loop-level.level = omega (arith, named.level) in
    let within : c.loop-level.level < levels_of c.args.geometry.now = omega arith in
    let page : c.index_of-ancestor.result ≡ ancestor_of c.args.geometry.now c.args.page c.loop-level.level =
    c.index_of-ancestor.ensures.index
    ∙ ancestor_index c.args.geometry.now c.args.page c.loop-level.level c.loop-level.col c.loop-level.row from within
    c.loop-level.invariant.col c.loop-level.invariant.row in
    record {
      no_finer = from;
      level_inside = within;
      page = page;
      level = sym (ap (level_of c.args.geometry.now) page
          ∙ ancestor_level c.args.geometry.now c.args.page c.loop-level.level named.limits c.requires.page from within);
      unmapped = λ k low high.
          noted_as c.entry-entry.new.self.view _ _ _ _ _ _ c.entry-entry.ensures.version refl refl
          (noted_behind_entry _ _ _ _ _ c.entry-entry.ensures.view (EntryNote _ _ _) (c.loop-level.invariant.unmapped k low high));
      mapped = noted_as c.entry-entry.new.self.view _ _ _ _ _ _ c.entry-entry.ensures.version refl (omega (arith, c.if-entry-ne0.true))
          (entry_noted _ _ _ _ _ c.entry-entry.ensures.view);
    }

pub loop-level-preserved : goal.loop-level-preserved
loop-level-preserved c =
    let named = c.page_at-name.ensures in
    let from : level_of c.args.geometry.now c.args.page ≤ c.loop-level.level = omega (arith, named.level) in
    let within : c.loop-level.level < levels_of c.args.geometry.now = omega arith in
    let page : c.index_of-ancestor.result ≡ ancestor_of c.args.geometry.now c.args.page c.loop-level.level =
    c.index_of-ancestor.ensures.index
    ∙ ancestor_index c.args.geometry.now c.args.page c.loop-level.level c.loop-level.col c.loop-level.row from within
    c.loop-level.invariant.col c.loop-level.invariant.row in
    let rooted : c.loop-level.held.view.rooted ≡ true =
    ap (λ (p : PassView). p.rooted) c.loop-level.invariant.more.rest ∙ c.requires.rooted in
    let zero : c.entry-entry.result ≡ 0 = omega (arith, c.if-entry-ne0.false) in
    record {
      of = c.entry-entry.ensures.of;
      version = c.entry-entry.ensures.version ∙ c.loop-level.invariant.version;
      more = one_more _ _ _ _ _ _ c.entry-entry.ensures.view c.loop-level.invariant.more;
      col = ap (λ n. n / 2) c.loop-level.invariant.col ∙ half_more _ _ c.loop-level.level from;
      row = ap (λ n. n / 2) c.loop-level.invariant.row ∙ half_more _ _ c.loop-level.level from;
      unmapped = λ k low high.
          elim (cases_lt k c.loop-level.level) [
            | inl below ↦
                noted_as c.entry-entry.new.self.view _ _ _ _ _ _ c.entry-entry.ensures.version refl refl
                (noted_behind_entry _ _ _ _ _ c.entry-entry.ensures.view (EntryNote _ _ _) (c.loop-level.invariant.unmapped k low below))
            | inr last ↦
                let same : k ≡ c.loop-level.level = omega arith in
                noted_as c.entry-entry.new.self.view _ _ _ _ _ _ c.entry-entry.ensures.version
                (ap (ancestor_of c.args.geometry.now c.args.page) same ∙ sym page) (sym zero)
                (entry_noted _ _ _ _ _ c.entry-entry.ensures.view)
          ];
      above = λ k low high.
          elim (cases_lt k c.loop-level.level) [
            | inl below ↦ c.loop-level.invariant.above k low below
            | inr last ↦
                let same : k ≡ c.loop-level.level = omega arith in
                λ is.
                c.entry-entry.ensures.root
                (page ∙ sym (ap (ancestor_of c.args.geometry.now c.args.page) same) ∙ is ∙ sym c.requires.fits.root) rooted zero
          ];
    }

pub unreachable-requires : goal.unreachable-requires
unreachable-requires c =
    let named = c.page_at-name.ensures in
    some_root c.args.geometry.now c.args.page c.loop-level.level named.limits c.requires.page
    (omega (arith, named.level, named.in_chain.level_inside)) (omega arith) c.loop-level.invariant.above
