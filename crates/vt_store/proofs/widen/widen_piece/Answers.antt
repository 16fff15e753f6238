use Rattle.vt_pages.specs.Shape.{Shape}
use Rattle.vt_pages.specs.Pages.{pages_of}
use Rattle.vt_tiles.specs.Format.{tile_length}
use Rattle.vt_tiles.specs.Places.{TilesAsked}
use Rattle.std.proofs.Common.{ℕ, ◌*◌, true, false, inl, inr, refl, sym, ap, ◌∙◌, subst, arith}
use Rattle.vt_outside.proofs.UnknownContents.{OnErr-all}
use Rattle.vt_outside.proofs.Refusing.{none_made, no_fewer}
use Rattle.vt_store.proofs.WideStores.{known_tiles}
use Rattle.vt_tiles.proofs.Refusing.{by_file, by_outside}
use Rattle.vt_store.proofs.LevelChain.{refused_by}
use Rattle.vt_store.proofs.widen.widen_piece.Goals as goal

pub returns-in_err-append-clause-part : goal.returns-in_err-append-clause-part
returns-in_err-append-clause-part g c = OnErr-all _ _ (inr (record {
  tiles = c.widen_tiles.new.wide;
  part = c.in_err-append.ensures.part.0;
  held = c.in_err-append.ensures.part.1;
  same = known_tiles (g.D.File.File.bytes c.args.store.now.file) (g.D.File.File.bytes c.read_tiles.new.self.file) c.args.store.now.shape
      c.read_tiles.new.self.shape c.geometry.result c.args.store.now.depth c.read_tiles.new.self.depth c.args.first c.args.count
      c.read_tiles.new.buf c.widen_tiles.new.wide c.read_tiles.ensures.bytes c.read_tiles.ensures.shape c.geometry.ensures.shape
      c.read_tiles.ensures.depth c.requires.depth c.geometry.ensures.store c.in_ok-read_tiles.ensures.tiles c.widen_tiles.ensures;
}))

pub returns-clause-gained : goal.returns-clause-gained
returns-clause-gained g c = record {
  tiles = c.widen_tiles.new.wide;
  held = c.in_ok-append.ensures.files;
  same = known_tiles (g.D.File.File.bytes c.args.store.now.file) (g.D.File.File.bytes c.read_tiles.new.self.file) c.args.store.now.shape
      c.read_tiles.new.self.shape c.geometry.result c.args.store.now.depth c.read_tiles.new.self.depth c.args.first c.args.count
      c.read_tiles.new.buf c.widen_tiles.new.wide c.read_tiles.ensures.bytes c.read_tiles.ensures.shape c.geometry.ensures.shape
      c.read_tiles.ensures.depth c.requires.depth c.geometry.ensures.store c.in_ok-read_tiles.ensures.tiles c.widen_tiles.ensures;
}

pub returns-in_err-read_tiles-clause-gained : goal.returns-in_err-read_tiles-clause-gained
returns-in_err-read_tiles-clause-gained g c = none_made c.from_residual.result _ _ c.from_residual.ensures.1

pub returns-in_err-read_tiles-clause-read : goal.returns-in_err-read_tiles-clause-read
returns-in_err-read_tiles-clause-read g c = none_made c.from_residual.result _ _ c.from_residual.ensures.1

pub returns-in_err-read_tiles-clause-part : goal.returns-in_err-read_tiles-clause-part
returns-in_err-read_tiles-clause-part g c = OnErr-all _ _ (inl refl)

pub returns-in_err-read_tiles-clause-refusals : goal.returns-in_err-read_tiles-clause-refusals
returns-in_err-read_tiles-clause-refusals g c = by_file c.from_residual.result c.from_residual.ensures.1

pub returns-in_err-read_tiles-clause-asked : goal.returns-in_err-read_tiles-clause-asked
returns-in_err-read_tiles-clause-asked g c = refl

pub returns-in_err-read_tiles-clause-faults : goal.returns-in_err-read_tiles-clause-faults
returns-in_err-read_tiles-clause-faults g c = no_fewer _ _ refl

pub returns-in_err-append-clause-gained : goal.returns-in_err-append-clause-gained
returns-in_err-append-clause-gained g c = none_made c.from_residual-in_err-append.result _ _ c.from_residual-in_err-append.ensures.1

pub returns-in_err-append-clause-read : goal.returns-in_err-append-clause-read
returns-in_err-append-clause-read g c = none_made c.from_residual-in_err-append.result _ _ c.from_residual-in_err-append.ensures.1

pub returns-in_err-append-clause-refusals : goal.returns-in_err-append-clause-refusals
returns-in_err-append-clause-refusals g c = by_outside c.from_residual-in_err-append.result _ c.from_residual-in_err-append.ensures.1

pub returns-in_err-append-clause-failed : goal.returns-in_err-append-clause-failed
returns-in_err-append-clause-failed g c =
    λ failed there. inl (c.append.ensures.failed (refused_by c.append.result c.from_residual-in_err-append.result _ c.in_err-append.was
    c.from_residual-in_err-append.ensures.1 failed) there)

pub returns-in_err-append-clause-asked : goal.returns-in_err-append-clause-asked
returns-in_err-append-clause-asked g c = c.append.ensures.asked

pub returns-in_err-append-clause-faults : goal.returns-in_err-append-clause-faults
returns-in_err-append-clause-faults g c = c.append.ensures.faults

pub returns-clause-asked : goal.returns-clause-asked
returns-clause-asked g c = c.append.ensures.asked

pub returns-clause-faults : goal.returns-clause-faults
returns-clause-faults g c = c.append.ensures.faults

pub returns-in_err-read_tiles-clause-spare : goal.returns-in_err-read_tiles-clause-spare
returns-in_err-read_tiles-clause-spare g c = c.read_tiles.ensures.spare

pub returns-in_err-read_tiles-clause-bytes : goal.returns-in_err-read_tiles-clause-bytes
returns-in_err-read_tiles-clause-bytes g c = c.read_tiles.ensures.bytes

pub returns-in_err-read_tiles-clause-name : goal.returns-in_err-read_tiles-clause-name
returns-in_err-read_tiles-clause-name g c = c.read_tiles.ensures.name

pub returns-in_err-read_tiles-clause-shape : goal.returns-in_err-read_tiles-clause-shape
returns-in_err-read_tiles-clause-shape g c = c.read_tiles.ensures.shape

pub returns-in_err-read_tiles-clause-depth : goal.returns-in_err-read_tiles-clause-depth
returns-in_err-read_tiles-clause-depth g c = c.read_tiles.ensures.depth

pub returns-in_err-read_tiles-clause-file_faults : goal.returns-in_err-read_tiles-clause-file_faults
returns-in_err-read_tiles-clause-file_faults g c = c.read_tiles.ensures.faults

pub returns-in_err-append-clause-spare : goal.returns-in_err-append-clause-spare
returns-in_err-append-clause-spare g c = c.read_tiles.ensures.spare

pub returns-in_err-append-clause-bytes : goal.returns-in_err-append-clause-bytes
returns-in_err-append-clause-bytes g c = c.read_tiles.ensures.bytes

pub returns-in_err-append-clause-name : goal.returns-in_err-append-clause-name
returns-in_err-append-clause-name g c = c.read_tiles.ensures.name

pub returns-in_err-append-clause-shape : goal.returns-in_err-append-clause-shape
returns-in_err-append-clause-shape g c = c.read_tiles.ensures.shape

pub returns-in_err-append-clause-depth : goal.returns-in_err-append-clause-depth
returns-in_err-append-clause-depth g c = c.read_tiles.ensures.depth

pub returns-in_err-append-clause-file_faults : goal.returns-in_err-append-clause-file_faults
returns-in_err-append-clause-file_faults g c = c.read_tiles.ensures.faults

pub returns-clause-spare : goal.returns-clause-spare
returns-clause-spare g c = c.read_tiles.ensures.spare

pub returns-clause-bytes : goal.returns-clause-bytes
returns-clause-bytes g c = c.read_tiles.ensures.bytes

pub returns-clause-name : goal.returns-clause-name
returns-clause-name g c = c.read_tiles.ensures.name

pub returns-clause-shape : goal.returns-clause-shape
returns-clause-shape g c = c.read_tiles.ensures.shape

pub returns-clause-depth : goal.returns-clause-depth
returns-clause-depth g c = c.read_tiles.ensures.depth

pub returns-clause-file_faults : goal.returns-clause-file_faults
returns-clause-file_faults g c = c.read_tiles.ensures.faults

pub read_tiles-requires-clause-pages : goal.read_tiles-requires-clause-pages
read_tiles-requires-clause-pages g c = c.requires.pages

pub read_tiles-requires-clause-spare : goal.read_tiles-requires-clause-spare
read_tiles-requires-clause-spare g c = c.requires.spare

pub read_tiles-requires-clause-size : goal.read_tiles-requires-clause-size
read_tiles-requires-clause-size g c =
    c.requires.narrow ∙ ap (λ (d : ℕ). c.args.count * tile_length c.args.store.now.shape d) (sym c.requires.depth)

pub widen_tiles-requires-clause-pages : goal.widen_tiles-requires-clause-pages
widen_tiles-requires-clause-pages g c =
    omega (arith, c.requires.pages, ap pages_of (c.geometry.ensures.shape ∙ c.read_tiles.ensures.shape))

pub widen_tiles-requires-clause-room : goal.widen_tiles-requires-clause-room
widen_tiles-requires-clause-room g c =
    c.requires.wide ∙ ap (λ (s : Shape). c.args.count * tile_length s 2) (sym (c.geometry.ensures.shape ∙ c.read_tiles.ensures.shape))

pub widen_tiles-requires-clause-tiles : goal.widen_tiles-requires-clause-tiles
widen_tiles-requires-clause-tiles g c =
    c.read_tiles.auto.buf ∙ c.requires.narrow
    ∙ ap (λ (s : Shape). c.args.count * tile_length s 1) (sym (c.geometry.ensures.shape ∙ c.read_tiles.ensures.shape))

pub returns-clause-part : goal.returns-clause-part
returns-clause-part g c = tt

pub returns-clause-refusals : goal.returns-clause-refusals
returns-clause-refusals g c = tt

pub returns-clause-tried : goal.returns-clause-tried
returns-clause-tried g c = tt

pub returns-clause-failed : goal.returns-clause-failed
returns-clause-failed g c = λ failed. let no : ⊥ = cc in absurd no

pub returns-clause-read : goal.returns-clause-read
returns-clause-read g c =
    subst (λ (d : ℕ). TilesAsked c.args.store.now.shape d c.args.first c.args.count false (g.D.File.File.asked c.args.store.now.file)
    (g.D.File.File.asked c.read_tiles.new.self.file)) c.requires.depth c.in_ok-read_tiles.ensures.asked

pub returns-in_err-append-clause-tried : goal.returns-in_err-append-clause-tried
returns-in_err-append-clause-tried g c =
    OnErr-all _ _ (inl (subst (λ (d : ℕ). TilesAsked c.args.store.now.shape d c.args.first c.args.count false (g.D.File.File.asked c.args.store.now.file)
    (g.D.File.File.asked c.read_tiles.new.self.file)) c.requires.depth c.in_ok-read_tiles.ensures.asked))

pub returns-in_err-read_tiles-clause-tried : goal.returns-in_err-read_tiles-clause-tried
returns-in_err-read_tiles-clause-tried g c =
    OnErr-all _ _ (inr (subst (λ (d : ℕ). TilesAsked c.args.store.now.shape d c.args.first c.args.count true (g.D.File.File.asked c.args.store.now.file)
    (g.D.File.File.asked c.read_tiles.new.self.file)) c.requires.depth c.in_err-read_tiles.ensures.asked))

pub returns-in_err-read_tiles-clause-failed : goal.returns-in_err-read_tiles-clause-failed
returns-in_err-read_tiles-clause-failed g c = λ failed there. inr (c.in_err-read_tiles.ensures.failed refl)
