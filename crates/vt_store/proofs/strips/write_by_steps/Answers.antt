use Rattle.std.proofs.Common.{ℕ, ◌+◌, ◌*◌, inl, inr, List, refl, sym, ap, ◌∙◌, subst, arith}
use Rattle.std.proofs.lemmas.List.{with_items_is}
use Rattle.std.specs.Prelude.{option_map}
use Rattle.vt_definitions.specs.Depths.{texel_length}
use Rattle.vt_outside.specs.Effects.{folder_effect, folder_state}
use Rattle.vt_outside.specs.Files.{with_appended}
use Rattle.vt_ppm.specs.declared.header.Header.{Header}
use Rattle.vt_ppm.specs.Format.{depth_of}
use Rattle.vt_pages.specs.Pages.{columns_at}
use Rattle.vt_tiles.specs.Format.{tile_length}
use Rattle.vt_store.specs.StripSteps.{strips_state}
use Rattle.vt_store.proofs.OneStep.{front_in}
use Rattle.vt_store.proofs.ReadStrips.{keeps_on}
use Rattle.vt_store.proofs.StripSteps.{IsAhead, between, asks_none, asks_on, added_all, added_none, next_lost, ahead_added, ahead_begun, ahead_next, ahead_more, ahead_stopped, row_refused, stopped_by}
use Rattle.vt_store.proofs.strips.write_by_steps.Goals as goal

pub loop-strip-init : goal.loop-strip-init
loop-strip-init g c =
    let a = strips_state g.F.File c.args.chain.now c.args.half.now in
    let b = strips_state g.F.File c.make_strip.new.chain c.make_strip.new.half in
    let f = folder_state g.D.Folder c.args.folder.now in
    let made = with_items_is c.args.front.now c.make_strip.new.tiles (c.make_strip.auto.tiles ∙ c.as_mut_slice.ensures.len) in
    record {
      ahead = subst (λ (l : List ℕ). IsAhead c.args.geometry.now c.args.name.now 0 a b (between f f) l) (sym made)
          (ahead_begun c.args.geometry.now c.args.name.now a c.requires.first c.strip_count-last.ensures.limits 0 a f f
          (added_none c.args.geometry.now c.args.name.now a c.requires.first c.strip_count-last.ensures.limits f c.requires.spare) b c.make_strip.new.tiles
          c.requires.first.inside c.in_ok-make_strip.ensures.made c.make_strip.ensures.kept c.make_strip.ensures.spare);
      front = refl;
      back = refl;
    }

pub loop-strip-preserved : goal.loop-strip-preserved
loop-strip-preserved g c =
    let i = c.loop-strip.invariant in
    record {
      ahead = ahead_more c.args.geometry.now c.args.name.now (strips_state g.F.File c.args.chain.now c.args.half.now) c.requires.first
          c.strip_count-last.ensures.limits c.loop-strip.strip (strips_state g.F.File c.loop-strip.chain c.loop-strip.half)
          (folder_state g.D.Folder c.args.folder.now) (folder_state g.D.Folder c.loop-strip.folder) c.loop-strip.front.items i.ahead
          (strips_state g.F.File c.write_next.new.chain c.write_next.new.half) (folder_state g.D.Folder c.write_next.new.folder)
          c.write_next.new.front.items (omega (arith, c.loop-strip-test.true, c.strip_count-last.ensures.count, c.strip_count-last.ensures.some))
          c.in_ok-write_next.ensures.step c.write_next.ensures.kept;
      front = c.write_next.ensures.front ∙ i.front;
      back = c.write_next.ensures.back ∙ i.back;
    }

pub returns-in_err-make_strip-clause-level : goal.returns-in_err-make_strip-clause-level
returns-in_err-make_strip-clause-level g c =
    let a = strips_state g.F.File c.args.chain.now c.args.half.now in
    let b = strips_state g.F.File c.make_strip.new.chain c.make_strip.new.half in
    let f = folder_state g.D.Folder c.args.folder.now in
    stopped_by c.args.geometry.now c.args.name.now a b (between f f) c.from_residual.result _ c.from_residual.ensures.1
    (next_lost c.args.geometry.now c.args.name.now a c.requires.first c.strip_count-last.ensures.limits 0 a f f
    (added_none c.args.geometry.now c.args.name.now a c.requires.first c.strip_count-last.ensures.limits f c.requires.spare) b c.requires.first.inside
    c.in_err-make_strip.ensures.made)

pub returns-in_err-make_strip-clause-asks : goal.returns-in_err-make_strip-clause-asks
returns-in_err-make_strip-clause-asks g c = asks_none (folder_state g.D.Folder c.args.folder.now)

pub returns-in_err-make_strip-clause-kept : goal.returns-in_err-make_strip-clause-kept
returns-in_err-make_strip-clause-kept g c = c.make_strip.ensures.kept

pub returns-in_err-write_next-clause-level : goal.returns-in_err-write_next-clause-level
returns-in_err-write_next-clause-level g c =
    let a = strips_state g.F.File c.args.chain.now c.args.half.now in
    let e = strips_state g.F.File c.write_next.new.chain c.write_next.new.half in
    let f = folder_state g.D.Folder c.args.folder.now in
    let h = folder_state g.D.Folder c.write_next.new.folder in
    stopped_by c.args.geometry.now c.args.name.now a e (between f h) c.from_residual-in_err-write_next.result _ c.from_residual-in_err-write_next.ensures.1
    (ahead_stopped c.args.geometry.now c.args.name.now a c.requires.first c.strip_count-last.ensures.limits c.loop-strip.strip
    (strips_state g.F.File c.loop-strip.chain c.loop-strip.half) f (folder_state g.D.Folder c.loop-strip.folder)
    c.loop-strip.front.items c.loop-strip.invariant.ahead e h _
    (omega (arith, c.loop-strip-test.true, c.strip_count-last.ensures.count, c.strip_count-last.ensures.some)) c.in_err-write_next.ensures.step)

pub returns-in_err-write_next-clause-kept : goal.returns-in_err-write_next-clause-kept
returns-in_err-write_next-clause-kept g c =
    keeps_on (strips_state g.F.File c.args.chain.now c.args.half.now) (strips_state g.F.File c.loop-strip.chain c.loop-strip.half)
    (strips_state g.F.File c.write_next.new.chain c.write_next.new.half) c.loop-strip.invariant.ahead.strips.kept c.write_next.ensures.kept.strips

pub returns-in_err-write_next-clause-front : goal.returns-in_err-write_next-clause-front
returns-in_err-write_next-clause-front g c = c.write_next.ensures.front ∙ c.loop-strip.invariant.front

pub returns-in_err-write_next-clause-asks : goal.returns-in_err-write_next-clause-asks
returns-in_err-write_next-clause-asks g c =
    asks_on (folder_state g.D.Folder c.args.folder.now) (folder_state g.D.Folder c.loop-strip.folder) (folder_state g.D.Folder c.write_next.new.folder)
    c.loop-strip.invariant.ahead.asks c.write_next.ensures.kept.asks

pub returns-in_err-add_row-clause-level : goal.returns-in_err-add_row-clause-level
returns-in_err-add_row-clause-level g c =
    row_refused c.args.geometry.now c.args.name.now (strips_state g.F.File c.args.chain.now c.args.half.now) c.requires.first
    c.strip_count-last.ensures.limits c.loop-strip.strip (strips_state g.F.File c.loop-strip.chain c.loop-strip.half)
    (folder_state g.D.Folder c.args.folder.now) (folder_state g.D.Folder c.loop-strip.folder) c.loop-strip.front.items c.loop-strip.invariant.ahead
    (folder_state g.D.Folder c.add_row.new.folder) _ c.from_residual-in_err-add_row.result c.from_residual-in_err-add_row.ensures.1
    (front_in c.args.name.now c.as_slice.result.now c.loop-strip.front.items
    (folder_effect g.D.Folder c.loop-strip.folder c.add_row.new.folder) _
    c.as_slice.ensures.value c.in_err-add_row.ensures.added)

pub returns-in_err-add_row-clause-kept : goal.returns-in_err-add_row-clause-kept
returns-in_err-add_row-clause-kept g c = c.loop-strip.invariant.ahead.strips.kept

pub returns-in_err-add_row-clause-front : goal.returns-in_err-add_row-clause-front
returns-in_err-add_row-clause-front g c = c.loop-strip.invariant.front

pub returns-in_err-add_row-clause-asks : goal.returns-in_err-add_row-clause-asks
returns-in_err-add_row-clause-asks g c =
    asks_on (folder_state g.D.Folder c.args.folder.now) (folder_state g.D.Folder c.loop-strip.folder) (folder_state g.D.Folder c.add_row.new.folder)
    c.loop-strip.invariant.ahead.asks c.add_row.ensures.asks

pub returns-clause-level : goal.returns-clause-level
returns-clause-level g c =
    let s = c.args.geometry.now in
    let n = c.args.name.now in
    let a = strips_state g.F.File c.args.chain.now c.args.half.now in
    let b = strips_state g.F.File c.loop-strip.chain c.loop-strip.half in
    let f = folder_state g.D.Folder c.args.folder.now in
    let h = folder_state g.D.Folder c.add_row.new.folder in
    let limits = c.strip_count-last.ensures.limits in
    let added = c.in_ok-add_row.ensures.added
    ∙ ap (λ (t : List ℕ). option_map (with_appended n t) (g.D.Folder.files c.loop-strip.folder)) c.as_slice.ensures.value in
    added_all s n a c.requires.first limits (c.loop-strip.strip + 1) b f h
    (ahead_added s n a c.requires.first limits c.loop-strip.strip b f (folder_state g.D.Folder c.loop-strip.folder) c.loop-strip.front.items
    c.loop-strip.invariant.ahead h added c.add_row.ensures.asks)
    (omega (arith, c.strip_count-last.ensures.count, c.strip_count-last.ensures.some))

pub returns-clause-kept : goal.returns-clause-kept
returns-clause-kept g c = c.loop-strip.invariant.ahead.strips.kept

pub returns-clause-front : goal.returns-clause-front
returns-clause-front g c = c.loop-strip.invariant.front

pub returns-clause-asks : goal.returns-clause-asks
returns-clause-asks g c =
    asks_on (folder_state g.D.Folder c.args.folder.now) (folder_state g.D.Folder c.loop-strip.folder) (folder_state g.D.Folder c.add_row.new.folder)
    c.loop-strip.invariant.ahead.asks c.add_row.ensures.asks

pub make_strip-requires-clause-next : goal.make_strip-requires-clause-next
make_strip-requires-clause-next g c κs within = c.requires.first

pub write_next-requires-clause-next : goal.write_next-requires-clause-next
write_next-requires-clause-next g c κs within =
    ahead_next c.args.geometry.now c.args.name.now (strips_state g.F.File c.args.chain.now c.args.half.now) c.requires.first
    c.strip_count-last.ensures.limits c.loop-strip.strip (strips_state g.F.File c.loop-strip.chain c.loop-strip.half)
    (folder_state g.D.Folder c.args.folder.now) (folder_state g.D.Folder c.loop-strip.folder) c.loop-strip.front.items c.loop-strip.invariant.ahead
    (omega (arith, c.loop-strip-test.true, c.strip_count-last.ensures.count, c.strip_count-last.ensures.some))

pub write_next-requires-clause-rows : goal.write_next-requires-clause-rows
write_next-requires-clause-rows g c κs within =
    c.loop-strip.auto.rows ∙ c.make_strip.auto.rows ∙ c.requires.rows
    ∙ ap (λ (h : Header). c.args.geometry.now.tile * (texel_length (depth_of h.maximum) * c.args.geometry.now.width)) (sym c.loop-strip.invariant.ahead.strips.kept.header)

pub write_next-requires-clause-front : goal.write_next-requires-clause-front
write_next-requires-clause-front g c κs within =
    c.loop-strip.invariant.front ∙ c.requires.front
    ∙ ap (λ (h : Header). columns_at c.args.geometry.now 0 * tile_length c.args.geometry.now (depth_of h.maximum)) (sym c.loop-strip.invariant.ahead.strips.kept.header)

pub write_next-requires-clause-back : goal.write_next-requires-clause-back
write_next-requires-clause-back g c κs within = elim c.requires.back [
  | inl none ↦ inl (c.loop-strip.invariant.back ∙ none)
  | inr same ↦ inr (c.loop-strip.invariant.back ∙ same ∙ sym c.loop-strip.invariant.front)
]
