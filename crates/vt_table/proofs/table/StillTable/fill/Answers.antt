use Rattle.std.proofs.Common.{◌≡◌, ◌+◌, ◌*◌, ◌∙◌, ◌<◌, ◌≤◌, inl, inr, ap, sym, subst, ℕ, length, length-set, arith}
use Rattle.std.proofs.lemmas.List.{with_items_is, get_or-set_same, get_or-set_other}
use Rattle.vt_journal.specs.Depths.{IsDepth, texel_length}
use Rattle.vt_journal.specs.Changes.{newest, IsFree}
use Rattle.vt_journal.specs.Kept.{entry_of}
use Rattle.vt_table.specs.Views.{TableView, IsTile, tile_of, filled_for}
use Rattle.vt_table.proofs.Entries.{number_of}
use Rattle.vt_table.proofs.Rooms.{is_written, tile_there, tile_elsewhere}
use Rattle.vt_table.proofs.Keeping.{kept_filled, depth_of_length}
use Rattle.vt_table.proofs.table.StillTable.fill.Goals as goal

at_least_one : (d : ℕ) → IsDepth d → 1 ≤ d
at_least_one d (inl one) = omega arith
at_least_one d (inr two) = omega arith

at_most_two : (d : ℕ) → IsDepth d → d ≤ 2
at_most_two d (inl one) = omega arith
at_most_two d (inr two) = omega arith

pub invariant_of-self : goal.invariant_of-self
invariant_of-self c =
    let t = c.self.inside in
    let back = sym c.self.view_is in
    let tile : IsTile t.geometry c.args.tile.now = subst (λ (u : TableView). IsTile u.shape c.args.tile.now) back c.requires.tile in
    let some : 2 ≤ t.geometry.tile = c.self.invariant.table.limits.least_tile in
    let d : c.depth_in.result ≡ tile.depth =
    depth_of_length t.geometry c.args.tile.now t.room c.depth_in.result tile (omega arith) c.self.invariant.room_is
    c.depth_in.ensures.wide c.depth_in.ensures.narrow in
    let written = with_items_is t.bytes c.put_tile.new.bytes (c.put_tile.auto.bytes ∙ c.as_mut_slice.ensures.len) in
    kept_filled t.geometry t.journal.changes t.journal.spare t.room c.args.frame c.args.page c.depth_in.result t.entries.items t.bytes.items
    t.depths.items t.owners.items _
    (subst (λ (u : TableView). c.args.frame < u.frames) back c.requires.frame_inside)
    (subst (λ (u : TableView). IsFree (newest u.changes) c.args.frame) back c.requires.free)
    (omega (arith, d, at_least_one tile.depth tile.lawful)) (omega (arith, d, at_most_two tile.depth tile.lawful))
    (ap length written ∙ c.put_tile.auto.bytes ∙ ap length c.as_mut_slice.ensures.value)
    c.self.invariant

pub returns-clause-tile : goal.returns-clause-tile
returns-clause-tile c =
    let t = c.self.inside in
    let back = sym c.self.view_is in
    let tile : IsTile t.geometry c.args.tile.now = subst (λ (u : TableView). IsTile u.shape c.args.tile.now) back c.requires.tile in
    let some : 2 ≤ t.geometry.tile = c.self.invariant.table.limits.least_tile in
    let d : c.depth_in.result ≡ tile.depth =
    depth_of_length t.geometry c.args.tile.now t.room c.depth_in.result tile (omega arith) c.self.invariant.room_is
    c.depth_in.ensures.wide c.depth_in.ensures.narrow in
    let made = with_items_is t.bytes c.put_tile.new.bytes (c.put_tile.auto.bytes ∙ c.as_mut_slice.ensures.len) in
    let written =
    is_written t.geometry.tile t.room c.args.frame c.depth_in.result t.bytes.items c.as_mut_slice.result.now c.put_tile.new.bytes _ c.args.tile.now
    c.self.invariant.room_is c.as_mut_slice.ensures.value made
    (tile.full ∙ ap (λ n. texel_length n * (t.geometry.tile * t.geometry.tile)) (sym d))
    (omega (arith, d, at_most_two tile.depth tile.lawful))
    c.put_tile.ensures.written c.put_tile.ensures.before c.put_tile.ensures.behind in
    let inside : c.args.frame < length t.owners.items = subst (λ (u : TableView). c.args.frame < u.frames) back c.requires.frame_inside in
    tile_there t.geometry.tile c.args.frame c.depth_in.result _ t.bytes.items _ c.args.tile.now t.depths.items written
    (omega (arith, length-set t.owners.items c.args.frame (c.args.page + 1))) (omega (arith, c.self.invariant.all_depths))

pub returns-clause-other_tiles : goal.returns-clause-other_tiles
returns-clause-other_tiles c f other =
    let t = c.self.inside in
    let back = sym c.self.view_is in
    let tile : IsTile t.geometry c.args.tile.now = subst (λ (u : TableView). IsTile u.shape c.args.tile.now) back c.requires.tile in
    let some : 2 ≤ t.geometry.tile = c.self.invariant.table.limits.least_tile in
    let d : c.depth_in.result ≡ tile.depth =
    depth_of_length t.geometry c.args.tile.now t.room c.depth_in.result tile (omega arith) c.self.invariant.room_is
    c.depth_in.ensures.wide c.depth_in.ensures.narrow in
    let made = with_items_is t.bytes c.put_tile.new.bytes (c.put_tile.auto.bytes ∙ c.as_mut_slice.ensures.len) in
    let written =
    is_written t.geometry.tile t.room c.args.frame c.depth_in.result t.bytes.items c.as_mut_slice.result.now c.put_tile.new.bytes _ c.args.tile.now
    c.self.invariant.room_is c.as_mut_slice.ensures.value made
    (tile.full ∙ ap (λ n. texel_length n * (t.geometry.tile * t.geometry.tile)) (sym d))
    (omega (arith, d, at_most_two tile.depth tile.lawful))
    c.put_tile.ensures.written c.put_tile.ensures.before c.put_tile.ensures.behind in
    tile_elsewhere t.geometry.tile c.args.frame c.depth_in.result (length t.owners.items) _ f t.bytes.items _ c.args.tile.now t.depths.items written
    (length-set t.owners.items c.args.frame (c.args.page + 1)) other c.self.invariant.high_depth
    ∙ ap (λ (u : TableView). tile_of u f) c.self.view_is

pub returns-clause-table : goal.returns-clause-table
returns-clause-table c = (invariant_of-self c).table

pub returns-clause-filled : goal.returns-clause-filled
returns-clause-filled c =
    let xs = c.self.inside.owners.items in
    let inside : c.args.frame < length xs = subst (λ (u : TableView). c.args.frame < u.frames) (sym c.self.view_is) c.requires.frame_inside in
    ap entry_of (get_or-set_same xs c.args.frame (c.args.page + 1) 0 inside) ∙ number_of c.args.page

pub returns-clause-other_pages : goal.returns-clause-other_pages
returns-clause-other_pages c f other =
    ap entry_of (get_or-set_other c.self.inside.owners.items c.args.frame f (c.args.page + 1) 0 other)
    ∙ ap (λ (u : TableView). filled_for u f) c.self.view_is
