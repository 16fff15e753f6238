use Rattle.std.proofs.Common.{ℕ, List, inl, inr, ⊎_elim, sym, subst, ◌∙◌, rules, arith}
use Rattle.std.specs.Prelude.{vec_len}
use Rattle.std.proofs.lemmas.List.{with_items_is}
use Rattle.std.proofs.lemmas.Result.{err_from_is_err_and}
use Rattle.vt_outside.specs.Effects.{folder_state}
use Rattle.vt_store_commands.specs.PlainFiles.{HoldsFiles, HaveRoomFor}
use Rattle.vt_store_commands.proofs.PlainGroups.{next_room, begun, gone_on, all_written}
use Rattle.vt_store_commands.proofs.plain_groups.write_groups.Goals as goal

pub draw_front-requires-after_bounds : goal.draw_front-requires-after_bounds
draw_front-requires-after_bounds g c κs within =
    let p = c.args.pictures.now in
    subst (λ (n : ℕ). HaveRoomFor p 0 c.group_end-middle.result n) (sym c.as_mut_slice.ensures.len)
    (next_room p 0 c.group_end-middle.result c.args.group (vec_len c.args.front.now) c.requires.has (omega arith)
    (omega (arith, c.group_end-middle.ensures.inside, c.pictures-all.ensures.value)) c.group_end-middle.ensures.few c.requires.front)

pub loop-round-init : goal.loop-round-init
loop-round-init g c =
    let p = c.args.pictures.now in
    let made = with_items_is c.args.front.now c.draw_front.new.room (c.draw_front.auto.room ∙ c.as_mut_slice.ensures.len) in record {
      at = begun p c.args.prefix.now c.group_end-middle.result (folder_state g.D.Folder c.args.folder.now) _
          (subst (λ (room : List ℕ). HoldsFiles p 0 c.group_end-middle.result room) (sym made) c.draw_front.ensures)
          (λ less. c.group_end-middle.ensures.some (omega (arith, less, c.pictures-all.ensures.value)));
      front = search rules;
      back = search rules;
    }

pub write_next-requires-clause-holds : goal.write_next-requires-clause-holds
write_next-requires-clause-holds g c κs within = c.loop-round.invariant.at.holds

pub write_next-requires-clause-next : goal.write_next-requires-clause-next
write_next-requires-clause-next g c κs within =
    next_room c.args.pictures.now c.loop-round.middle c.group_end-end.result c.args.group (vec_len c.loop-round.front) c.requires.has
    c.group_end-end.ensures.order (omega (arith, c.group_end-end.ensures.inside, c.pictures-all.ensures.value)) c.group_end-end.ensures.few
    (omega (arith, c.requires.front, c.loop-round.invariant.front))

pub write_next-requires-clause-back : goal.write_next-requires-clause-back
write_next-requires-clause-back g c κs within =
    let front = c.loop-round.invariant.front in
    let back = c.loop-round.invariant.back in
    ⊎_elim (λ none. inl (back ∙ none)) (λ same. inr (back ∙ same ∙ sym front)) c.requires.back

pub loop-round-preserved : goal.loop-round-preserved
loop-round-preserved g c =
    let p = c.args.pictures.now in
    let at = c.loop-round.invariant.at in
    let before = folder_state g.D.Folder c.args.folder.now in record {
      at = gone_on p c.args.prefix.now c.loop-round.round c.loop-round.first c.loop-round.middle c.group_end-end.result before
          (folder_state g.D.Folder c.loop-round.folder) (folder_state g.D.Folder c.write_next.new.folder) c.loop-round.front.items
          c.write_next.new.front.items at (omega (arith, c.loop-round-test.true, c.pictures-all.ensures.value))
          (c.in_ok-write_next.ensures.written before (at.written.asks, at.written.files)) c.in_ok-write_next.ensures.drawn
          (λ less. c.group_end-end.ensures.some (omega (arith, less, c.pictures-all.ensures.value)));
      front = c.in_ok-write_next.ensures.front ∙ c.loop-round.invariant.front;
      back = c.in_ok-write_next.ensures.back ∙ c.loop-round.invariant.back;
    }

pub returns-in_err-write_next : goal.returns-in_err-write_next
returns-in_err-write_next g c =
    let q = err_from_is_err_and c.from_residual.result c.from_residual.ensures.1 in
    let at = c.loop-round.invariant.at in
    rw (q.1, q.2) (c.in_err-write_next.ensures.written (folder_state g.D.Folder c.args.folder.now) (at.written.asks, at.written.files))

pub returns : goal.returns
returns g c =
    all_written c.args.pictures.now c.args.prefix.now c.loop-round.round c.loop-round.first c.loop-round.middle
    (folder_state g.D.Folder c.args.folder.now) (folder_state g.D.Folder c.loop-round.folder) c.loop-round.front.items c.loop-round.invariant.at
    (omega (arith, c.loop-round-test.false, c.pictures-all.ensures.value))
