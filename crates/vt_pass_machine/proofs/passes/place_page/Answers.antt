use Rattle.std.proofs.Common.{◌≡◌, ◌<◌, List, [], ◌∷◌, length, sym, subst, arith}
use Rattle.vt_load.specs.Shape.{Shape}
use Rattle.vt_pass_pool.specs.Pages.{pages_of}
use Rattle.vt_pass_pool.specs.JournalTypes.changes.Change.{Change}
use Rattle.vt_pass_pool.specs.JournalTypes.changes.Change.TheVariants.{Map}
use Rattle.vt_pass_pool.specs.Changes.{newest, IsNext}
use Rattle.vt_load.specs.Format.{tile_length}
use Rattle.vt_pass_machine.proofs.Placing.{none_placed, then_placed, placed_from, same_from}
use Rattle.vt_pass_machine.proofs.passes.place_page.Goals as goal

pub place-requires-clause-page : goal.place-requires-clause-page
place-requires-clause-page g c = subst (λ (s : Shape). c.args.page < pages_of s) (sym c.make_room.ensures.still.shape) c.requires.page

pub place-requires-clause-frame : goal.place-requires-clause-frame
place-requires-clause-frame g c = let n = c.make_room.ensures.still.frames in let f = c.requires.frame in omega (arith, n, f)

pub place-requires-clause-next : goal.place-requires-clause-next
place-requires-clause-next g c =
    subst (λ (j : List Change). IsNext (newest j) (Map c.args.page c.args.frame)) (sym c.make_room.ensures.still.journal) c.requires.next

pub place-requires-clause-full : goal.place-requires-clause-full
place-requires-clause-full g c =
    subst (λ (s : Shape). length c.args.tile.now ≡ tile_length s c.args.own.now.depth) (sym c.make_room.ensures.still.shape) c.requires.full

pub returns-clause-placed : goal.returns-clause-placed
returns-clause-placed g c =
    let r = c.make_room.ensures in
    let e = c.place.ensures in
    then_placed g.T.PageTable c.args.table.now c.args.page c.args.tile.now c.args.own.now c.make_room.new.writer r.still r.home c.place.new.writer e.of
    e.shape e.frames e.filled e.home

pub returns-in_err-make_room-clause-placed : goal.returns-in_err-make_room-clause-placed
returns-in_err-make_room-clause-placed g c =
    let r = c.make_room.ensures in
    none_placed g.T.PageTable c.args.table.now c.args.page c.args.tile.now c.args.own.now c.make_room.new.writer r.still r.home

pub returns-clause-mapped : goal.returns-clause-mapped
returns-clause-mapped g c = placed_from c.place.result _ _ _ (Map c.args.page c.args.frame ∷ []) c.make_room.ensures.still.journal c.place.ensures.placed

pub returns-clause-refused : goal.returns-clause-refused
returns-clause-refused g c = same_from c.place.result _ _ _ c.make_room.ensures.still.journal c.place.ensures.same
