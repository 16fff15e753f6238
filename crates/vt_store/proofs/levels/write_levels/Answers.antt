use Rattle.std.proofs.Common.{◌≡◌, ℕ, ◌+◌, ◌*◌, ◌≤◌, inr, refl, sym, ap, ◌∙◌, subst, arith}
use Rattle.vt_outside.proofs.UnknownContents.{OnErr-all}
use Rattle.vt_outside.specs.declared.answers.OutsideError.TheVariants.{Failed}
use Rattle.vt_mip.proofs.Words.{first_level}
use Rattle.vt_pages.specs.Pages.{columns_at, levels_of, pages_below, pages_of}
use Rattle.vt_pages.proofs.Counts.{pages_below_le, pages_of-is}
use Rattle.vt_store.specs.ChainStores.{AddsPages, level_source}
use Rattle.vt_tiles.specs.Format.{tile_length}
use Rattle.vt_store.proofs.AddedPages.{adds_none}
use Rattle.vt_store.proofs.LevelRows.{passed_on}
use Rattle.vt_store.proofs.LevelChain.{level_side, level_texels, level_next, adds_then, adds_then_part}
use Rattle.vt_store.proofs.levels.write_levels.Goals as goal

pub loop-level-init : goal.loop-level-init
loop-level-init g c = record {
  from = omega arith;
  to = c.levels.ensures.limits.some_level;
  is = first_level c.args.image c.width.ensures.limits;
  adds = adds_none c.args.geometry.now c.args.image.depth (level_source (record { base = c.args.image; tile = c.args.geometry.now.tile }) 1)
      (pages_below c.args.geometry.now 1) c.args.name.now (g.D.Folder.files c.args.folder.now);
  asked = refl;
  faults = omega arith;
}

pub loop-level-preserved : goal.loop-level-preserved
loop-level-preserved g c =
    let i = c.loop-level.invariant in
    let k : ℕ = c.loop-level.level in
    let src = level_source (record { base = c.args.image; tile = c.args.geometry.now.tile }) 1 in
    record {
      from = omega (arith, i.from);
      to = omega (arith, c.levels-level-end.ensures.levels);
      is = level_next c.args.image c.loop-level.next c.in_ok-next.next k i.from i.is c.write_level.ensures.bytes c.in_ok-next.ensures.half
          c.in_ok-next.ensures.lawful;
      adds = adds_then c.args.geometry.now c.args.image.depth c.loop-level.next.depth src (pages_below c.args.geometry.now 1)
          (pages_below c.args.geometry.now k) (pages_below c.args.geometry.now (k + 1)) c.args.name.now (g.D.Folder.files c.args.folder.now)
          (g.D.Folder.files c.loop-level.folder) (g.D.Folder.files c.write_level.new.folder) i.is.depth
          (pages_below_le c.args.geometry.now 1 k i.from) (pages_below_le c.args.geometry.now k (k + 1) (omega arith)) i.adds
          (c.in_ok-next.ensures.whole src (level_texels c.args.image c.loop-level.next c.args.geometry.now.tile k i.is));
      asked = c.write_level.ensures.asked ∙ i.asked;
      faults = omega (arith, c.write_level.ensures.faults, i.faults);
    }

pub write_level-requires-clause-level : goal.write_level-requires-clause-level
write_level-requires-clause-level g c κs within = omega (arith, c.levels-level-end.ensures.levels)

pub write_level-requires-clause-width : goal.write_level-requires-clause-width
write_level-requires-clause-width g c κs within = level_side c.args.geometry.now.width c.args.image.width c.loop-level.next.width c.loop-level.level
    c.loop-level.invariant.from c.requires.width c.loop-level.invariant.is.columns

pub write_level-requires-clause-height : goal.write_level-requires-clause-height
write_level-requires-clause-height g c κs within = level_side c.args.geometry.now.height c.args.image.height c.loop-level.next.height c.loop-level.level
    c.loop-level.invariant.from c.requires.height c.loop-level.invariant.is.rows

pub write_level-requires-clause-room : goal.write_level-requires-clause-room
write_level-requires-clause-room g c κs within =
    c.loop-level.auto.tiles ∙ c.requires.room
    ∙ ap (λ (n : ℕ). columns_at c.args.geometry.now 0 * tile_length c.args.geometry.now n) (sym c.loop-level.invariant.is.depth)

pub returns-in_err-next-clause-part : goal.returns-in_err-next-clause-part
returns-in_err-next-clause-part g c =
    let i = c.loop-level.invariant in
    let k : ℕ = c.loop-level.level in
    let inside : pages_below c.args.geometry.now k ≤ pages_of c.args.geometry.now =
    omega (arith, pages_below_le c.args.geometry.now k (levels_of c.args.geometry.now) i.to, pages_of-is c.args.geometry.now) in
    OnErr-all _ _ (inr (adds_then_part c.args.geometry.now c.args.image.depth c.args.image c.loop-level.next c.args.geometry.now.tile k
    (pages_below c.args.geometry.now 1) (pages_below c.args.geometry.now k) c.args.name.now (g.D.Folder.files c.args.folder.now)
    (g.D.Folder.files c.loop-level.folder) (g.D.Folder.files c.write_level.new.folder) i.is.depth
    (pages_below_le c.args.geometry.now 1 k i.from) inside i.is i.adds c.in_err-next.ensures.part))

pub returns-in_err-next-clause-failed : goal.returns-in_err-next-clause-failed
returns-in_err-next-clause-failed g c = λ failed before done e.
    let i = c.loop-level.invariant in
    let src = level_source (record { base = c.args.image; tile = c.args.geometry.now.tile }) 1 in
    let rose = c.write_level.ensures.failed (passed_on c.write_level.result c.from_residual.result _ Failed c.in_err-next.was
    c.from_residual.ensures.1 failed) before _ (i.adds.held before done e) in
    omega (arith, rose, i.faults)

pub returns-clause-whole : goal.returns-clause-whole
returns-clause-whole g c =
    let src = level_source (record { base = c.args.image; tile = c.args.geometry.now.tile }) 1 in
    let last : c.loop-level.level ≡ levels_of c.args.geometry.now = omega (arith, c.loop-level.invariant.to, c.levels-level-end.ensures.levels) in
    let all : pages_below c.args.geometry.now c.loop-level.level ≡ pages_of c.args.geometry.now =
    ap (pages_below c.args.geometry.now) last ∙ sym (pages_of-is c.args.geometry.now) in
    subst (λ (n : ℕ). AddsPages c.args.geometry.now c.args.image.depth src (pages_below c.args.geometry.now 1) n c.args.name.now
    (g.D.Folder.files c.args.folder.now) (g.D.Folder.files c.loop-level.folder)) all c.loop-level.invariant.adds
