use Rattle.std.proofs.Common.{ℕ, List, sym, subst, ◌∙◌}
use Rattle.std.proofs.lemmas.List.{with_items_is}
use Rattle.vt_store_commands.specs.PlainFiles.{HoldsFiles, HaveRoomFor}
use Rattle.vt_store_commands.proofs.plain_groups.write_next.Goals as goal

pub write_then_draw-requires-clause-holds : goal.write_then_draw-requires-clause-holds
write_then_draw-requires-clause-holds g c κs within =
    subst (λ (room : List ℕ). HoldsFiles c.args.pictures.now c.args.first c.args.middle room) (sym c.as_mut_slice.ensures.value) c.requires.holds

pub write_then_draw-requires-clause-next : goal.write_then_draw-requires-clause-next
write_then_draw-requires-clause-next g c κs within =
    subst (λ (n : ℕ). HaveRoomFor c.args.pictures.now c.args.middle c.args.end n) (sym c.as_mut_slice.ensures.len) c.requires.next

pub returns-then-is_in_turn-clause-drawn : goal.returns-then-is_in_turn-clause-drawn
returns-then-is_in_turn-clause-drawn g c =
    subst (λ (room : List ℕ). HoldsFiles c.args.pictures.now c.args.middle c.args.end room)
    (sym (with_items_is c.args.front.now c.write_then_draw.new.room (c.write_then_draw.auto.room ∙ c.as_mut_slice.ensures.len)))
    c.write_then_draw.ensures.drawn

pub returns-clause-drawn : goal.returns-clause-drawn
returns-clause-drawn g c =
    subst (λ (room : List ℕ). HoldsFiles c.args.pictures.now c.args.middle c.args.end room)
    (sym (with_items_is c.swap.new.x c.write_and_draw.new.room (c.write_and_draw.auto.room ∙ c.as_mut_slice-2.ensures.len)))
    c.write_and_draw.ensures.drawn
