use Rattle.std.proofs.Common.{◌≡◌, ◌∙◌, ◌+◌, ◌*◌, ◌≤◌, sym, ap, length}
use Rattle.vt_pages.specs.Pages.{pages_of}
use Rattle.vt_tiles.specs.Format.{tile_length}
use Rattle.vt_tiles.proofs.Opening.{tiles_inside}
use Rattle.vt_tiles.proofs.store.Store.read_tiles.Goals as goal

pub returns-clause-failed : goal.returns-clause-failed
returns-clause-failed g c = λ failed.
    let file : c.self.inside.file ≡ c.args.self.now.file = ap (λ v. v.file) c.self.view_is in
    let shape : c.self.inside.geometry ≡ c.args.self.now.shape = ap (λ v. v.shape) c.self.view_is in
    let depth : c.self.inside.depth ≡ c.args.self.now.depth = ap (λ v. v.depth) c.self.view_is in
    let inside : c.args.first + c.args.count ≤ pages_of c.self.inside.geometry = rw shape c.requires.pages in
    let full : length c.read_at.new.buf ≡ c.args.count * tile_length c.self.inside.geometry c.self.inside.depth =
    c.read_at.auto.buf ∙ c.requires.size ∙ ap (λ n. c.args.count * tile_length n c.args.self.now.depth) (sym shape)
    ∙ ap (λ n. c.args.count * tile_length c.self.inside.geometry n) (sym depth) in
    rw (← file) (c.read_at.ensures.failed failed
    (rw c.tile_start.ensures (tiles_inside (g.F.File.bytes c.self.inside.file) c.self.inside.geometry c.self.inside.depth c.args.first
    c.args.count (length c.read_at.new.buf) c.self.invariant.store inside full)))
