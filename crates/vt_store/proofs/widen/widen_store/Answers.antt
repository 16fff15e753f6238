use Rattle.std.proofs.Common.{ℕ, ◌+◌, ◌-◌, ◌*◌, ◌/◌, inl, inr, length, refl, sym, ap, ◌∙◌, subst, arith}
use Rattle.std.proofs.lemmas.List.{length-take-le}
use Rattle.std.proofs.lemmas.Nat.{mul-le}
use Rattle.vt_outside.proofs.UnknownContents.{OnErr-all}
use Rattle.vt_outside.proofs.Refusing.{none_made, no_fewer}
use Rattle.vt_pages.specs.Shape.{Shape}
use Rattle.vt_pages.specs.Pages.{columns_at, pages_of}
use Rattle.vt_pages.proofs.Counts.{lt_up}
use Rattle.vt_tiles.specs.Format.{tile_length}
use Rattle.vt_tiles.specs.Places.{PiecesAsked}
use Rattle.vt_tiles.specs.declared.error.StoreError.TheVariants.{Failed}
use Rattle.vt_store.proofs.WideStores.{some_columns, begun_pages, pages_moved, header_front, none_asked, front_asked, more_asked, piece_tried, piece_is, piece_part, piece_whole, all_done, all_pages, rose_along, no_less, carried, there}
use Rattle.vt_store.proofs.LevelChain.{refused_by}
use Rattle.vt_store.proofs.TileRows.{row_room}
use Rattle.vt_tiles.proofs.Refusing.{by_memory, by_outside, by_call, no_fault}
use Rattle.vt_store.proofs.widen.widen_store.Goals as goal

pub nonzero_div-pieces : goal.nonzero_div-pieces
nonzero_div-pieces g c = omega (arith, some_columns c.geometry-geometry.result c.levels.ensures.limits, c.tile_columns-step.ensures.value)

pub returns-in_err-narrow_room-clause-front_read : goal.returns-in_err-narrow_room-clause-front_read
returns-in_err-narrow_room-clause-front_read g c = OnErr-all _ _
    (front_asked c.args.store.now.shape 0 (g.D.File.File.asked c.args.store.now.file) (g.D.File.File.asked c.reserve.new.self.file)
    (omega arith) (none_asked c.args.store.now.shape (g.D.File.File.asked c.args.store.now.file)
    (g.D.File.File.asked c.reserve.new.self.file) c.reserve.ensures.asked))

pub returns-in_err-begin_store-clause-part : goal.returns-in_err-begin_store-clause-part
returns-in_err-begin_store-clause-part g c = OnErr-all _ _
    (header_front (g.D.File.File.bytes c.args.store.now.file) c.args.store.now.shape c.geometry-geometry.result c.args.name.now
    (g.D.Folder.files c.args.folder.now) (g.D.Folder.files c.begin_store.new.folder) c.geometry-geometry.ensures.shape
    c.in_err-begin_store.ensures.part)

pub returns-in_err-begin_store-clause-front_read : goal.returns-in_err-begin_store-clause-front_read
returns-in_err-begin_store-clause-front_read g c = OnErr-all _ _
    (front_asked c.args.store.now.shape 0 (g.D.File.File.asked c.args.store.now.file) (g.D.File.File.asked c.reserve.new.self.file)
    (omega arith) (none_asked c.args.store.now.shape (g.D.File.File.asked c.args.store.now.file)
    (g.D.File.File.asked c.reserve.new.self.file) c.reserve.ensures.asked))

pub loop-piece-init : goal.loop-piece-init
loop-piece-init g c = record {
  held = pages_moved (g.D.File.File.bytes c.args.store.now.file) c.args.store.now.shape c.args.name.now
      (g.D.Folder.files c.args.folder.now) (g.D.Folder.files c.begin_store.new.folder) 0 _ (omega arith)
      (begun_pages (g.D.File.File.bytes c.args.store.now.file) c.args.store.now.shape c.geometry-geometry.result c.args.name.now
      (g.D.Folder.files c.args.folder.now) (g.D.Folder.files c.begin_store.new.folder) c.geometry-geometry.ensures.shape
      c.in_ok-begin_store.ensures.whole);
  read = none_asked c.args.store.now.shape (g.D.File.File.asked c.args.store.now.file) (g.D.File.File.asked c.reserve.new.self.file)
      c.reserve.ensures.asked;
  spare = (let done = all_done c.args.store.now.shape c.geometry-geometry.result c.tile_columns-step.result c.page_count-pages.result
      ((c.page_count-pages.result + c.tile_columns-step.result - 1) / c.tile_columns-step.result)
      c.geometry-geometry.ensures.shape c.levels.ensures.limits c.tile_columns-step.ensures.value c.page_count-pages.ensures.pages refl in
      omega (arith, done.0, c.in_ok-reserve.ensures.room));
  bytes = c.reserve.ensures.bytes;
  called = c.reserve.ensures.name;
  shape = c.reserve.ensures.shape;
  depth = c.reserve.ensures.depth ∙ c.requires;
  file_faults = omega (arith, c.reserve.ensures.faults);
  asked = c.begin_store.ensures.asked;
  faults = c.begin_store.ensures.faults;
}

pub returns-in_err-widen_piece-clause-part : goal.returns-in_err-widen_piece-clause-part
returns-in_err-widen_piece-clause-part g c =
    let piece = piece_is c.args.store.now.shape c.geometry-geometry.result c.tile_columns-step.result c.page_count-pages.result
    c.loop-piece.piece (c.loop-piece.piece * c.tile_columns-step.result) c.min-count.result c.geometry-geometry.ensures.shape
    c.levels.ensures.limits c.tile_columns-step.ensures.value c.page_count-pages.ensures.pages c.loop-piece-test.true refl c.min-count.ensures in
    OnErr-all _ _ (inr (piece_part (g.D.File.File.bytes c.args.store.now.file) (g.D.File.File.bytes c.loop-piece.store.file)
    c.args.store.now.shape c.loop-piece.store.shape c.args.name.now (g.D.Folder.files c.args.folder.now) (g.D.Folder.files c.loop-piece.folder)
    (g.D.Folder.files c.widen_piece.new.folder) _ c.min-count.result (c.loop-piece.piece * c.tile_columns-step.result)
    (omega (arith, piece.inside, piece.here)) c.loop-piece.invariant.bytes c.loop-piece.invariant.shape (sym piece.here)
    c.loop-piece.invariant.held c.in_err-widen_piece.ensures.part))

pub returns-in_err-widen_piece-clause-failed : goal.returns-in_err-widen_piece-clause-failed
returns-in_err-widen_piece-clause-failed g c = λ failed.
    rose_along (g.D.Folder.faults c.args.folder.now) (g.D.Folder.faults c.loop-piece.folder) (g.D.Folder.faults c.widen_piece.new.folder)
    (g.D.File.File.faults c.args.store.now.file) (g.D.File.File.faults c.loop-piece.store.file)
    (g.D.File.File.faults c.widen_piece.new.store.file) c.loop-piece.invariant.faults c.loop-piece.invariant.file_faults
    (c.widen_piece.ensures.failed (carried c.widen_piece.result c.from_residual-in_err-widen_piece.result _ Failed c.in_err-widen_piece.was
    c.from_residual-in_err-widen_piece.ensures.1 failed) (there (g.D.File.File.bytes c.args.store.now.file) c.args.store.now.shape c.args.name.now
    (g.D.Folder.files c.args.folder.now) (g.D.Folder.files c.loop-piece.folder) _ c.loop-piece.invariant.held))

pub returns-in_err-widen_piece-clause-front_read : goal.returns-in_err-widen_piece-clause-front_read
returns-in_err-widen_piece-clause-front_read g c =
    let piece = piece_is c.args.store.now.shape c.geometry-geometry.result c.tile_columns-step.result c.page_count-pages.result
    c.loop-piece.piece (c.loop-piece.piece * c.tile_columns-step.result) c.min-count.result c.geometry-geometry.ensures.shape
    c.levels.ensures.limits c.tile_columns-step.ensures.value c.page_count-pages.ensures.pages c.loop-piece-test.true refl c.min-count.ensures in
    OnErr-all _ _ (piece_tried c.args.store.now.shape c.loop-piece.store.shape c.loop-piece.piece
    (c.loop-piece.piece * c.tile_columns-step.result) c.min-count.result (g.D.File.File.asked c.args.store.now.file)
    (g.D.File.File.asked c.loop-piece.store.file) (g.D.File.File.asked c.widen_piece.new.store.file) piece.below
    c.loop-piece.invariant.read c.loop-piece.invariant.shape piece.begins piece.counts c.in_err-widen_piece.ensures.tried)

pub loop-piece-preserved : goal.loop-piece-preserved
loop-piece-preserved g c =
    let piece = piece_is c.args.store.now.shape c.geometry-geometry.result c.tile_columns-step.result c.page_count-pages.result
    c.loop-piece.piece (c.loop-piece.piece * c.tile_columns-step.result) c.min-count.result c.geometry-geometry.ensures.shape
    c.levels.ensures.limits c.tile_columns-step.ensures.value c.page_count-pages.ensures.pages c.loop-piece-test.true refl c.min-count.ensures in
    record {
      held = piece_whole (g.D.File.File.bytes c.args.store.now.file) (g.D.File.File.bytes c.loop-piece.store.file)
          c.args.store.now.shape c.loop-piece.store.shape c.args.name.now (g.D.Folder.files c.args.folder.now)
          (g.D.Folder.files c.loop-piece.folder) (g.D.Folder.files c.widen_piece.new.folder) _ c.min-count.result
          (c.loop-piece.piece * c.tile_columns-step.result) _ c.loop-piece.invariant.bytes c.loop-piece.invariant.shape (sym piece.here)
          c.loop-piece.invariant.held c.in_ok-widen_piece.ensures.gained (omega (arith, piece.next, piece.here));
      read = more_asked c.args.store.now.shape c.loop-piece.store.shape c.loop-piece.piece
          (c.loop-piece.piece * c.tile_columns-step.result) c.min-count.result (g.D.File.File.asked c.args.store.now.file)
          (g.D.File.File.asked c.loop-piece.store.file) (g.D.File.File.asked c.widen_piece.new.store.file)
          c.loop-piece.invariant.read c.loop-piece.invariant.shape piece.begins piece.counts c.in_ok-widen_piece.ensures.read;
      spare = omega (arith, c.widen_piece.ensures.spare, c.loop-piece.invariant.spare);
      bytes = c.widen_piece.ensures.bytes ∙ c.loop-piece.invariant.bytes;
      called = c.widen_piece.ensures.name ∙ c.loop-piece.invariant.called;
      shape = c.widen_piece.ensures.shape ∙ c.loop-piece.invariant.shape;
      depth = c.widen_piece.ensures.depth ∙ c.loop-piece.invariant.depth;
      file_faults = omega (arith, c.widen_piece.ensures.file_faults, c.loop-piece.invariant.file_faults);
      asked = c.widen_piece.ensures.asked ∙ c.loop-piece.invariant.asked;
      faults = omega (arith, c.widen_piece.ensures.faults, c.loop-piece.invariant.faults);
    }

pub returns-clause-whole : goal.returns-clause-whole
returns-clause-whole g c =
    let done = all_done c.args.store.now.shape c.geometry-geometry.result c.tile_columns-step.result c.page_count-pages.result c.loop-piece.piece
    c.geometry-geometry.ensures.shape c.levels.ensures.limits c.tile_columns-step.ensures.value c.page_count-pages.ensures.pages (omega arith) in
    all_pages (g.D.File.File.bytes c.args.store.now.file) c.args.store.now.shape c.args.name.now (g.D.Folder.files c.args.folder.now)
    (g.D.Folder.files c.loop-piece.folder) _ done.1 c.loop-piece.invariant.held

pub returns-in_err-widen_piece-clause-bytes : goal.returns-in_err-widen_piece-clause-bytes
returns-in_err-widen_piece-clause-bytes g c = c.widen_piece.ensures.bytes ∙ c.loop-piece.invariant.bytes

pub returns-in_err-widen_piece-clause-name : goal.returns-in_err-widen_piece-clause-name
returns-in_err-widen_piece-clause-name g c = c.widen_piece.ensures.name ∙ c.loop-piece.invariant.called

pub returns-in_err-widen_piece-clause-shape : goal.returns-in_err-widen_piece-clause-shape
returns-in_err-widen_piece-clause-shape g c = c.widen_piece.ensures.shape ∙ c.loop-piece.invariant.shape

pub returns-in_err-widen_piece-clause-asked : goal.returns-in_err-widen_piece-clause-asked
returns-in_err-widen_piece-clause-asked g c = c.widen_piece.ensures.asked ∙ c.loop-piece.invariant.asked

pub returns-in_err-widen_piece-clause-depth : goal.returns-in_err-widen_piece-clause-depth
returns-in_err-widen_piece-clause-depth g c = c.widen_piece.ensures.depth ∙ c.loop-piece.invariant.depth ∙ sym c.requires

pub returns-in_err-widen_piece-clause-file_faults : goal.returns-in_err-widen_piece-clause-file_faults
returns-in_err-widen_piece-clause-file_faults g c = no_less (g.D.File.File.faults c.args.store.now.file) (g.D.File.File.faults c.loop-piece.store.file)
    (g.D.File.File.faults c.widen_piece.new.store.file) c.loop-piece.invariant.file_faults c.widen_piece.ensures.file_faults

pub returns-in_err-widen_piece-clause-faults : goal.returns-in_err-widen_piece-clause-faults
returns-in_err-widen_piece-clause-faults g c = no_less (g.D.Folder.faults c.args.folder.now) (g.D.Folder.faults c.loop-piece.folder)
    (g.D.Folder.faults c.widen_piece.new.folder) c.loop-piece.invariant.faults c.widen_piece.ensures.faults

pub returns-clause-bytes : goal.returns-clause-bytes
returns-clause-bytes g c = c.loop-piece.invariant.bytes

pub returns-clause-name : goal.returns-clause-name
returns-clause-name g c = c.loop-piece.invariant.called

pub returns-clause-shape : goal.returns-clause-shape
returns-clause-shape g c = c.loop-piece.invariant.shape

pub returns-clause-file_faults : goal.returns-clause-file_faults
returns-clause-file_faults g c = c.loop-piece.invariant.file_faults

pub returns-clause-asked : goal.returns-clause-asked
returns-clause-asked g c = c.loop-piece.invariant.asked

pub returns-clause-faults : goal.returns-clause-faults
returns-clause-faults g c = c.loop-piece.invariant.faults

pub returns-clause-depth : goal.returns-clause-depth
returns-clause-depth g c = c.loop-piece.invariant.depth ∙ sym c.requires

pub returns-clause-all_read : goal.returns-clause-all_read
returns-clause-all_read g c =
    let done = all_done c.args.store.now.shape c.geometry-geometry.result c.tile_columns-step.result c.page_count-pages.result c.loop-piece.piece
    c.geometry-geometry.ensures.shape c.levels.ensures.limits c.tile_columns-step.ensures.value c.page_count-pages.ensures.pages (omega arith) in
    subst (λ (n : ℕ). PiecesAsked c.args.store.now.shape 1 n (g.D.File.File.asked c.args.store.now.file)
    (g.D.File.File.asked c.loop-piece.store.file)) done.0 c.loop-piece.invariant.read

pub returns-in_err-reserve-clause-whole : goal.returns-in_err-reserve-clause-whole
returns-in_err-reserve-clause-whole g c = none_made c.from_residual.result _ _ c.from_residual.ensures.1

pub returns-in_err-reserve-clause-part : goal.returns-in_err-reserve-clause-part
returns-in_err-reserve-clause-part g c = OnErr-all _ _ (inl refl)

pub returns-in_err-reserve-clause-refusals : goal.returns-in_err-reserve-clause-refusals
returns-in_err-reserve-clause-refusals g c = by_memory c.from_residual.result c.from_residual.ensures.1

pub returns-in_err-reserve-clause-failed : goal.returns-in_err-reserve-clause-failed
returns-in_err-reserve-clause-failed g c = λ failed. no_fault c.from_residual.result _ c.from_residual.ensures.1 failed

pub returns-in_err-reserve-clause-all_read : goal.returns-in_err-reserve-clause-all_read
returns-in_err-reserve-clause-all_read g c = none_made c.from_residual.result _ _ c.from_residual.ensures.1

pub returns-in_err-reserve-clause-front_read : goal.returns-in_err-reserve-clause-front_read
returns-in_err-reserve-clause-front_read g c = OnErr-all _ _
    (front_asked c.args.store.now.shape 0 (g.D.File.File.asked c.args.store.now.file) (g.D.File.File.asked c.reserve.new.self.file)
    (omega arith) (none_asked c.args.store.now.shape (g.D.File.File.asked c.args.store.now.file)
    (g.D.File.File.asked c.reserve.new.self.file) c.reserve.ensures.asked))

pub returns-in_err-reserve-clause-bytes : goal.returns-in_err-reserve-clause-bytes
returns-in_err-reserve-clause-bytes g c = c.reserve.ensures.bytes

pub returns-in_err-reserve-clause-name : goal.returns-in_err-reserve-clause-name
returns-in_err-reserve-clause-name g c = c.reserve.ensures.name

pub returns-in_err-reserve-clause-shape : goal.returns-in_err-reserve-clause-shape
returns-in_err-reserve-clause-shape g c = c.reserve.ensures.shape

pub returns-in_err-reserve-clause-depth : goal.returns-in_err-reserve-clause-depth
returns-in_err-reserve-clause-depth g c = c.reserve.ensures.depth

pub returns-in_err-reserve-clause-file_faults : goal.returns-in_err-reserve-clause-file_faults
returns-in_err-reserve-clause-file_faults g c = no_fewer _ _ c.reserve.ensures.faults

pub returns-in_err-reserve-clause-asked : goal.returns-in_err-reserve-clause-asked
returns-in_err-reserve-clause-asked g c = refl

pub returns-in_err-reserve-clause-faults : goal.returns-in_err-reserve-clause-faults
returns-in_err-reserve-clause-faults g c = no_fewer _ _ refl

pub returns-in_err-narrow_room-clause-whole : goal.returns-in_err-narrow_room-clause-whole
returns-in_err-narrow_room-clause-whole g c = none_made c.from_residual-in_err-narrow_room.result _ _ c.from_residual-in_err-narrow_room.ensures.1

pub returns-in_err-narrow_room-clause-part : goal.returns-in_err-narrow_room-clause-part
returns-in_err-narrow_room-clause-part g c = OnErr-all _ _ (inl refl)

pub returns-in_err-narrow_room-clause-refusals : goal.returns-in_err-narrow_room-clause-refusals
returns-in_err-narrow_room-clause-refusals g c = by_memory c.from_residual-in_err-narrow_room.result c.from_residual-in_err-narrow_room.ensures.1

pub returns-in_err-narrow_room-clause-failed : goal.returns-in_err-narrow_room-clause-failed
returns-in_err-narrow_room-clause-failed g c =
    λ failed. no_fault c.from_residual-in_err-narrow_room.result _ c.from_residual-in_err-narrow_room.ensures.1 failed

pub returns-in_err-narrow_room-clause-all_read : goal.returns-in_err-narrow_room-clause-all_read
returns-in_err-narrow_room-clause-all_read g c = none_made c.from_residual-in_err-narrow_room.result _ _ c.from_residual-in_err-narrow_room.ensures.1

pub returns-in_err-narrow_room-clause-bytes : goal.returns-in_err-narrow_room-clause-bytes
returns-in_err-narrow_room-clause-bytes g c = c.reserve.ensures.bytes

pub returns-in_err-narrow_room-clause-name : goal.returns-in_err-narrow_room-clause-name
returns-in_err-narrow_room-clause-name g c = c.reserve.ensures.name

pub returns-in_err-narrow_room-clause-shape : goal.returns-in_err-narrow_room-clause-shape
returns-in_err-narrow_room-clause-shape g c = c.reserve.ensures.shape

pub returns-in_err-narrow_room-clause-depth : goal.returns-in_err-narrow_room-clause-depth
returns-in_err-narrow_room-clause-depth g c = c.reserve.ensures.depth

pub returns-in_err-narrow_room-clause-file_faults : goal.returns-in_err-narrow_room-clause-file_faults
returns-in_err-narrow_room-clause-file_faults g c = no_fewer _ _ c.reserve.ensures.faults

pub returns-in_err-narrow_room-clause-asked : goal.returns-in_err-narrow_room-clause-asked
returns-in_err-narrow_room-clause-asked g c = refl

pub returns-in_err-narrow_room-clause-faults : goal.returns-in_err-narrow_room-clause-faults
returns-in_err-narrow_room-clause-faults g c = no_fewer _ _ refl

pub returns-in_err-begin_store-clause-whole : goal.returns-in_err-begin_store-clause-whole
returns-in_err-begin_store-clause-whole g c = none_made c.from_residual-in_err-begin_store.result _ _ c.from_residual-in_err-begin_store.ensures.1

pub returns-in_err-begin_store-clause-refusals : goal.returns-in_err-begin_store-clause-refusals
returns-in_err-begin_store-clause-refusals g c = by_outside c.from_residual-in_err-begin_store.result _ c.from_residual-in_err-begin_store.ensures.1

pub returns-in_err-begin_store-clause-failed : goal.returns-in_err-begin_store-clause-failed
returns-in_err-begin_store-clause-failed g c =
    λ failed. inl (c.begin_store.ensures.failed (refused_by c.begin_store.result c.from_residual-in_err-begin_store.result _
    c.in_err-begin_store.was c.from_residual-in_err-begin_store.ensures.1 failed))

pub returns-in_err-begin_store-clause-all_read : goal.returns-in_err-begin_store-clause-all_read
returns-in_err-begin_store-clause-all_read g c = none_made c.from_residual-in_err-begin_store.result _ _ c.from_residual-in_err-begin_store.ensures.1

pub returns-in_err-begin_store-clause-bytes : goal.returns-in_err-begin_store-clause-bytes
returns-in_err-begin_store-clause-bytes g c = c.reserve.ensures.bytes

pub returns-in_err-begin_store-clause-name : goal.returns-in_err-begin_store-clause-name
returns-in_err-begin_store-clause-name g c = c.reserve.ensures.name

pub returns-in_err-begin_store-clause-shape : goal.returns-in_err-begin_store-clause-shape
returns-in_err-begin_store-clause-shape g c = c.reserve.ensures.shape

pub returns-in_err-begin_store-clause-depth : goal.returns-in_err-begin_store-clause-depth
returns-in_err-begin_store-clause-depth g c = c.reserve.ensures.depth

pub returns-in_err-begin_store-clause-file_faults : goal.returns-in_err-begin_store-clause-file_faults
returns-in_err-begin_store-clause-file_faults g c = no_fewer _ _ c.reserve.ensures.faults

pub returns-in_err-begin_store-clause-asked : goal.returns-in_err-begin_store-clause-asked
returns-in_err-begin_store-clause-asked g c = c.begin_store.ensures.asked

pub returns-in_err-begin_store-clause-faults : goal.returns-in_err-begin_store-clause-faults
returns-in_err-begin_store-clause-faults g c = c.begin_store.ensures.faults

pub returns-in_err-widen_piece-clause-whole : goal.returns-in_err-widen_piece-clause-whole
returns-in_err-widen_piece-clause-whole g c = none_made c.from_residual-in_err-widen_piece.result _ _ c.from_residual-in_err-widen_piece.ensures.1

pub returns-in_err-widen_piece-clause-all_read : goal.returns-in_err-widen_piece-clause-all_read
returns-in_err-widen_piece-clause-all_read g c = none_made c.from_residual-in_err-widen_piece.result _ _ c.from_residual-in_err-widen_piece.ensures.1

pub returns-in_err-widen_piece-clause-refusals : goal.returns-in_err-widen_piece-clause-refusals
returns-in_err-widen_piece-clause-refusals g c =
    by_call c.from_residual-in_err-widen_piece.result _ c.from_residual-in_err-widen_piece.ensures.1 c.in_err-widen_piece.ensures.refusals

pub overflow_add-pieces : goal.overflow_add-pieces
overflow_add-pieces g c =
    omega (arith, c.page_count-pages.ensures.limits.most_pages, c.page_count-pages.ensures.pages, c.tile_columns-step.ensures.few)

pub overflow_mul-first : goal.overflow_mul-first
overflow_mul-first g c =
    let begins = lt_up c.page_count-pages.result c.tile_columns-step.result c.loop-piece.piece
    (omega (arith, some_columns c.geometry-geometry.result c.levels.ensures.limits, c.tile_columns-step.ensures.value))
    c.loop-piece-test.true in
    omega (arith, begins, c.page_count-pages.type_inv)

pub overflow_sub-pages : goal.overflow_sub-pages
overflow_sub-pages g c =
    let begins = lt_up c.page_count-pages.result c.tile_columns-step.result c.loop-piece.piece
    (omega (arith, some_columns c.geometry-geometry.result c.levels.ensures.limits, c.tile_columns-step.ensures.value))
    c.loop-piece-test.true in
    omega (arith, begins)

pub overflow_mul-read : goal.overflow_mul-read
overflow_mul-read g c =
    omega (
      arith,
      mul-le c.min-count.result c.tile_length.result 16384 98304 (omega (arith, c.min-count.ensures, c.tile_columns-step.ensures.few))
          c.tile_length.ensures.few,
    )

pub overflow_mul-made : goal.overflow_mul-made
overflow_mul-made g c =
    omega (
      arith,
      mul-le c.min-count.result c.tile_length-in-loop-piece.result 16384 98304
          (omega (arith, c.min-count.ensures, c.tile_columns-step.ensures.few)) c.tile_length-in-loop-piece.ensures.few,
    )

pub slice_bounds-widen_piece-end : goal.slice_bounds-widen_piece-end
slice_bounds-widen_piece-end g c =
    row_room c.min-count.result (columns_at c.geometry-geometry.result 0) c.tile_length.result (length c.loop-piece.narrow)
    (omega (arith, c.min-count.ensures, c.tile_columns-step.ensures.value))
    (c.loop-piece.auto.narrow ∙ c.as_mut_slice-narrow.ensures.len ∙ c.in_ok-narrow_room.narrow_room.ok.0 ∙ c.in_ok-narrow_room.ensures.narrow
    ∙ ap (λ (n : ℕ). columns_at c.geometry-geometry.result 0 * n) (sym c.tile_length.ensures.value))

pub slice_bounds-widen_piece-end-in-loop-piece : goal.slice_bounds-widen_piece-end-in-loop-piece
slice_bounds-widen_piece-end-in-loop-piece g c =
    sym (length-take-le _ c.loop-piece.narrow
    (row_room c.min-count.result (columns_at c.geometry-geometry.result 0) c.tile_length.result (length c.loop-piece.narrow)
    (omega (arith, c.min-count.ensures, c.tile_columns-step.ensures.value))
    (c.loop-piece.auto.narrow ∙ c.as_mut_slice-narrow.ensures.len ∙ c.in_ok-narrow_room.narrow_room.ok.0 ∙ c.in_ok-narrow_room.ensures.narrow
    ∙ ap (λ (n : ℕ). columns_at c.geometry-geometry.result 0 * n) (sym c.tile_length.ensures.value))))

pub slice_bounds-widen_piece-end-in-loop-piece-2 : goal.slice_bounds-widen_piece-end-in-loop-piece-2
slice_bounds-widen_piece-end-in-loop-piece-2 g c =
    row_room c.min-count.result (columns_at c.geometry-geometry.result 0) c.tile_length-in-loop-piece.result (length c.loop-piece.wide)
    (omega (arith, c.min-count.ensures, c.tile_columns-step.ensures.value))
    (c.loop-piece.auto.wide ∙ c.as_mut_slice-wide.ensures.len ∙ c.in_ok-narrow_room.wide_room.ok.0 ∙ c.in_ok-narrow_room.ensures.wide
    ∙ ap (λ (n : ℕ). columns_at c.geometry-geometry.result 0 * n) (sym c.tile_length-in-loop-piece.ensures.value))

pub slice_bounds-widen_piece-end-in-loop-piece-3 : goal.slice_bounds-widen_piece-end-in-loop-piece-3
slice_bounds-widen_piece-end-in-loop-piece-3 g c =
    sym (length-take-le _ c.loop-piece.wide
    (row_room c.min-count.result (columns_at c.geometry-geometry.result 0) c.tile_length-in-loop-piece.result (length c.loop-piece.wide)
    (omega (arith, c.min-count.ensures, c.tile_columns-step.ensures.value))
    (c.loop-piece.auto.wide ∙ c.as_mut_slice-wide.ensures.len ∙ c.in_ok-narrow_room.wide_room.ok.0 ∙ c.in_ok-narrow_room.ensures.wide
    ∙ ap (λ (n : ℕ). columns_at c.geometry-geometry.result 0 * n) (sym c.tile_length-in-loop-piece.ensures.value))))

pub widen_piece-requires-clause-depth : goal.widen_piece-requires-clause-depth
widen_piece-requires-clause-depth g c κs within = c.loop-piece.invariant.depth

pub widen_piece-requires-clause-narrow : goal.widen_piece-requires-clause-narrow
widen_piece-requires-clause-narrow g c κs within =
    length-take-le _ c.loop-piece.narrow
    (row_room c.min-count.result (columns_at c.geometry-geometry.result 0) c.tile_length.result (length c.loop-piece.narrow)
    (omega (arith, c.min-count.ensures, c.tile_columns-step.ensures.value))
    (c.loop-piece.auto.narrow ∙ c.as_mut_slice-narrow.ensures.len ∙ c.in_ok-narrow_room.narrow_room.ok.0 ∙ c.in_ok-narrow_room.ensures.narrow
    ∙ ap (λ (n : ℕ). columns_at c.geometry-geometry.result 0 * n) (sym c.tile_length.ensures.value)))
    ∙ ap (λ (n : ℕ). c.min-count.result * n) (c.tile_length.ensures.value
    ∙ ap (λ (s : Shape). tile_length s 1) (c.geometry-geometry.ensures.shape ∙ sym c.loop-piece.invariant.shape))

pub widen_piece-requires-clause-wide : goal.widen_piece-requires-clause-wide
widen_piece-requires-clause-wide g c κs within =
    length-take-le _ c.loop-piece.wide
    (row_room c.min-count.result (columns_at c.geometry-geometry.result 0) c.tile_length-in-loop-piece.result (length c.loop-piece.wide)
    (omega (arith, c.min-count.ensures, c.tile_columns-step.ensures.value))
    (c.loop-piece.auto.wide ∙ c.as_mut_slice-wide.ensures.len ∙ c.in_ok-narrow_room.wide_room.ok.0 ∙ c.in_ok-narrow_room.ensures.wide
    ∙ ap (λ (n : ℕ). columns_at c.geometry-geometry.result 0 * n) (sym c.tile_length-in-loop-piece.ensures.value)))
    ∙ ap (λ (n : ℕ). c.min-count.result * n) (c.tile_length-in-loop-piece.ensures.value
    ∙ ap (λ (s : Shape). tile_length s 2) (c.geometry-geometry.ensures.shape ∙ sym c.loop-piece.invariant.shape))

pub widen_piece-requires-clause-pages : goal.widen_piece-requires-clause-pages
widen_piece-requires-clause-pages g c κs within =
    let piece = piece_is c.args.store.now.shape c.geometry-geometry.result c.tile_columns-step.result c.page_count-pages.result
    c.loop-piece.piece (c.loop-piece.piece * c.tile_columns-step.result) c.min-count.result c.geometry-geometry.ensures.shape
    c.levels.ensures.limits c.tile_columns-step.ensures.value c.page_count-pages.ensures.pages c.loop-piece-test.true refl c.min-count.ensures in
    omega (arith, piece.inside, ap pages_of c.loop-piece.invariant.shape)

pub widen_piece-requires-clause-spare : goal.widen_piece-requires-clause-spare
widen_piece-requires-clause-spare g c κs within =
    let piece = piece_is c.args.store.now.shape c.geometry-geometry.result c.tile_columns-step.result c.page_count-pages.result
    c.loop-piece.piece (c.loop-piece.piece * c.tile_columns-step.result) c.min-count.result c.geometry-geometry.ensures.shape
    c.levels.ensures.limits c.tile_columns-step.ensures.value c.page_count-pages.ensures.pages c.loop-piece-test.true refl c.min-count.ensures in
    omega (arith, piece.below, c.loop-piece.invariant.spare)

pub returns-clause-part : goal.returns-clause-part
returns-clause-part g c = tt

pub returns-clause-refusals : goal.returns-clause-refusals
returns-clause-refusals g c = tt

pub returns-clause-front_read : goal.returns-clause-front_read
returns-clause-front_read g c = tt

pub returns-clause-failed : goal.returns-clause-failed
returns-clause-failed g c = λ failed. let no : ⊥ = cc in absurd no
