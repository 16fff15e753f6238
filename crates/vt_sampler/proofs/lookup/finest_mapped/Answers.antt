use Rattle.std.proofs.Common.{◌≡◌, ◌/◌, ◌≤◌, ◌<◌, inl, inr, refl, sym, ap, ◌∙◌, subst, arith}
use Rattle.std.specs.Prelude.{IsSome}
use Rattle.std.proofs.lemmas.Bool.{cases_lt}
use Rattle.vt_pages.specs.Shape.{Shape}
use Rattle.vt_pages.specs.Pages.{levels_of, index_of, level_of, ancestor_of, root_of}
use Rattle.vt_table.specs.Changes.{newest}
use Rattle.vt_sampler.specs.Notes.{entry_number}
use Rattle.vt_lookup.proofs.Climbing.{half_more, ancestor_named, ancestor_index, ancestor_level}
use Rattle.vt_sampler.proofs.Climbing.{some_mapped}
use Rattle.vt_sampler.proofs.lookup.finest_mapped.Goals as goal

pub found_at-requires-clause-name : goal.found_at-requires-clause-name
found_at-requires-clause-name c =
    let named = c.page_at-name.ensures in
    ancestor_named c.args.geometry.now c.args.page c.loop-level.level c.loop-level.col c.loop-level.row named.limits c.requires.page
    (omega (arith, named.level)) (omega arith) c.loop-level.invariant.col c.loop-level.invariant.row

pub returns-in-Some : goal.returns-in-Some
returns-in-Some c =
    let named = c.page_at-name.ensures in
    let found = c.in-Some.ensures in
    let from : level_of c.args.geometry.now c.args.page ≤ c.loop-level.level = omega (arith, named.level) in
    let within : c.loop-level.level < levels_of c.args.geometry.now = omega arith in
    let page : index_of c.args.geometry.now (record { level = c.loop-level.level; col = c.loop-level.col; row = c.loop-level.row })
    ≡ ancestor_of c.args.geometry.now c.args.page c.loop-level.level =
    ancestor_index c.args.geometry.now c.args.page c.loop-level.level c.loop-level.col c.loop-level.row from within
    c.loop-level.invariant.col c.loop-level.invariant.row in
    record {
      no_finer = omega (arith, from, found.level);
      level_inside = omega (arith, within, found.level);
      page = found.page ∙ page ∙ ap (ancestor_of c.args.geometry.now c.args.page) (sym found.level);
      level = found.level
          ∙ sym (ap (level_of c.args.geometry.now) (found.page ∙ page)
          ∙ ancestor_level c.args.geometry.now c.args.page c.loop-level.level named.limits c.requires.page from within);
      unmapped = λ k low high. (refl, sym (ap entry_number (c.loop-level.invariant.unmapped k low (omega (arith, high, found.level)))));
      mapped = (refl, sym (ap entry_number found.mapped));
    }

pub loop-level-preserved : goal.loop-level-preserved
loop-level-preserved c =
    let named = c.page_at-name.ensures in
    let from : level_of c.args.geometry.now c.args.page ≤ c.loop-level.level = omega (arith, named.level) in
    let within : c.loop-level.level < levels_of c.args.geometry.now = omega arith in
    let page : index_of c.args.geometry.now (record { level = c.loop-level.level; col = c.loop-level.col; row = c.loop-level.row })
    ≡ ancestor_of c.args.geometry.now c.args.page c.loop-level.level =
    ancestor_index c.args.geometry.now c.args.page c.loop-level.level c.loop-level.col c.loop-level.row from within
    c.loop-level.invariant.col c.loop-level.invariant.row in
    record {
      col = ap (λ n. n / 2) c.loop-level.invariant.col ∙ half_more _ _ c.loop-level.level from;
      row = ap (λ n. n / 2) c.loop-level.invariant.row ∙ half_more _ _ c.loop-level.level from;
      unmapped = λ k low high.
          elim (cases_lt k c.loop-level.level) [
            | inl below ↦ c.loop-level.invariant.unmapped k low below
            | inr last ↦
                let same : k ≡ c.loop-level.level = omega arith in
                ap (λ i. newest c.args.table.now.changes (ancestor_of c.args.geometry.now c.args.page i)) same
                ∙ ap (newest c.args.table.now.changes) (sym page) ∙ c.in_default.ensures.none
          ];
    }

pub unreachable-requires : goal.unreachable-requires
unreachable-requires c =
    let named = c.page_at-name.ensures in
    let root : IsSome (newest c.args.table.now.changes (root_of c.args.geometry.now)) =
    subst (λ (s : Shape). IsSome (newest c.args.table.now.changes (root_of s))) c.requires.shape c.requires.root in
    some_mapped c.args.geometry.now (newest c.args.table.now.changes) c.args.page c.loop-level.level named.limits c.requires.page
    (omega (arith, named.level, named.in_chain.level_inside)) (omega arith) root c.loop-level.invariant.unmapped
