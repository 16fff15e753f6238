use Rattle.std.proofs.Common.{◌≡◌, ◌+◌, ◌<◌, ◌∙◌, ◌*◌, ap, sym, subst, ℕ, List, length, get_or, arith}
use Rattle.std.specs.Prelude.{slice_range}
use Rattle.std.proofs.lemmas.List.{get_or_read}
use Rattle.vt_journal.specs.Depths.{texel_length}
use Rattle.vt_journal.specs.Changes.{newest}
use Rattle.vt_table.specs.Views.{TableView, IsMappedTo, tile_of}
use Rattle.vt_table.proofs.Keeping.{tile_read}
use Rattle.vt_table.proofs.table.StillTable.tile.Goals as goal

pub returns-clause-tile : goal.returns-clause-tile
returns-clause-tile c =
    let t = c.self.inside in
    let mapped : IsMappedTo (newest t.journal.changes) c.args.frame =
    subst (λ (u : TableView). IsMappedTo (newest u.changes) c.args.frame) (sym c.self.view_is) c.requires.mapped in
    let inside : c.args.frame < length t.owners.items = c.self.invariant.table.frames_inside mapped.0 c.args.frame mapped.1 in
    let read : c.index.result.now ≡ get_or t.depths.items c.args.frame 0 =
    get_or_read t.depths.items c.args.frame c.index.result.now (omega (arith, c.self.invariant.all_depths)) c.index.ensures 0 in
    let side : ℕ = c.tile-side.result in
    let from : ℕ = c.args.frame * t.room in
    let size : ℕ = c.texel_length.result * (side * side) in
    let full : size ≡ texel_length c.from-depth.result * (t.geometry.tile * t.geometry.tile) =
    ap (λ (n : ℕ). n * (side * side)) c.texel_length.ensures.value
    ∙ ap (λ (n : ℕ). texel_length c.from-depth.result * (n * n)) c.tile-side.ensures.tile in
    ap (λ (l : List ℕ). slice_range l from (from + size)) c.deref.ensures.value
    ∙ tile_read t.geometry t.journal.changes t.journal.spare t.room c.args.frame c.from-depth.result size t.entries.items t.bytes.items
    t.depths.items t.owners.items c.self.invariant inside (c.from-depth.ensures ∙ read) full
    ∙ ap (λ (u : TableView). tile_of u c.args.frame) c.self.view_is
