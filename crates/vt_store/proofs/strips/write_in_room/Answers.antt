use Rattle.std.proofs.Common.{◌≡◌, ℕ, ◌*◌, inr, List, Some, refl, sym, ap, ◌∙◌, arith, Err}
use Rattle.vt_outside.specs.Effects.{folder_effect, folder_state}
use Rattle.vt_outside.proofs.Refusing.{no_fewer}
use Rattle.vt_ppm.specs.StripPlaces.{strips_of}
use Rattle.vt_ppm.specs.Strips.{texture_of}
use Rattle.vt_mip.specs.TakenRows.{HalvesFront}
use Rattle.vt_pages.specs.Pages.{pages_below, rows_at, columns_at}
use Rattle.vt_tiles.specs.Made.{HoldsMade}
use Rattle.vt_store.specs.ChainStores.{level_source}
use Rattle.vt_store.specs.StripStores.{strip_front, strip_store}
use Rattle.vt_store.specs.StripSteps.{rows_state, strips_state}
use Rattle.vt_store.proofs.WideStores.{rose_along}
use Rattle.vt_store.proofs.StripStores.{made_moved, made_begun, made_header, made_whole, made_rest_part, store_seen, front_seen, header_seen}
use Rattle.vt_ppm.proofs.StripPlaces.{no_strips, strips_front}
use Rattle.vt_store.proofs.StripLevels.{first_pages, first_inside, are_strips, rest_tiles, level_made}
use Rattle.vt_store.proofs.StripSteps.{asks_on, first_next}
use Rattle.vt_store.proofs.Written.{refused_store, refused_outside}
use Rattle.vt_store.proofs.strips.write_in_room.Goals as goal

pub returns-in_err-begin_store-clause-written : goal.returns-in_err-begin_store-clause-written
returns-in_err-begin_store-clause-written g c =
    let a = rows_state g.F.File c.args.chain.now in
    let f = g.D.Folder.files c.args.folder.now in
    let h = g.D.Folder.files c.begin_store.new.folder in
    refused_outside c.args.geometry.now c.args.name.now (strip_store c.args.chain.now) a a
    (folder_effect g.D.Folder c.args.folder.now c.begin_store.new.folder) c.from_residual.result _ c.from_residual.ensures.1
    (header_seen a.known c.args.chain.now c.args.geometry.now c.args.name.now f h c.requires.shape
    (made_header a.known c.args.geometry.now a.header c.depth.result c.args.name.now f h c.depth.ensures.value c.in_err-begin_store.ensures.part))
    (strips_front a.header c.args.geometry.now.tile 0 a.places a.places (omega arith) (no_strips a.header c.args.geometry.now.tile a.places a.places refl))
    (λ is. c.in_err-begin_store.ensures.failed (ap Err is))

pub returns-in_err-begin_store-clause-kept : goal.returns-in_err-begin_store-clause-kept
returns-in_err-begin_store-clause-kept g c = record { known = refl; called = refl; header = refl; tile = refl; faults = no_fewer _ _ refl }

pub returns-in_err-begin_store-clause-asks : goal.returns-in_err-begin_store-clause-asks
returns-in_err-begin_store-clause-asks g c = record { asked = c.begin_store.ensures.asked; faults = c.begin_store.ensures.faults }

pub returns-in_err-write_first_level-clause-written : goal.returns-in_err-write_first_level-clause-written
returns-in_err-write_first_level-clause-written g c =
    let a = rows_state g.F.File c.args.chain.now in
    let b = rows_state g.F.File c.write_first_level.new.chain in
    let f = g.D.Folder.files c.args.folder.now in
    let begun = made_begun a.known c.args.geometry.now a.header c.depth.result c.args.name.now f (g.D.Folder.files c.begin_store.new.folder)
    c.depth.ensures.value c.in_ok-begin_store.ensures.whole in
    let level = c.in_err-write_first_level.ensures.level in
    refused_store c.args.geometry.now c.args.name.now (strip_store c.args.chain.now) a b
    (folder_effect g.D.Folder c.args.folder.now c.write_first_level.new.folder) c.from_residual-in_err-write_first_level.result _
    c.from_residual-in_err-write_first_level.ensures.1
    (record {
      part = inr (level.part f begun);
      front_read = level.front_read;
      failed = λ is. rose_along (g.D.Folder.faults c.args.folder.now) (g.D.Folder.faults c.begin_store.new.folder)
          (g.D.Folder.faults c.write_first_level.new.folder) a.faults a.faults b.faults c.begin_store.ensures.faults (no_fewer _ _ refl)
          (level.failed is f begun);
      outside = level.outside;
    })

pub returns-in_err-write_first_level-clause-kept : goal.returns-in_err-write_first_level-clause-kept
returns-in_err-write_first_level-clause-kept g c = c.write_first_level.ensures.kept

pub returns-in_err-write_first_level-clause-asks : goal.returns-in_err-write_first_level-clause-asks
returns-in_err-write_first_level-clause-asks g c =
    asks_on (folder_state g.D.Folder c.args.folder.now) (folder_state g.D.Folder c.begin_store.new.folder)
    (folder_state g.D.Folder c.write_first_level.new.folder) (record { asked = c.begin_store.ensures.asked; faults = c.begin_store.ensures.faults })
    c.write_first_level.ensures.asks

pub returns-in_err-write_levels-clause-written : goal.returns-in_err-write_levels-clause-written
returns-in_err-write_levels-clause-written g c =
    let a = rows_state g.F.File c.args.chain.now in
    let b = rows_state g.F.File c.write_first_level.new.chain in
    let s = c.args.geometry.now in
    let p = c.finish.result in
    let n = c.args.name.now in
    let f0 = g.D.Folder.files c.args.folder.now in
    let f1 = g.D.Folder.files c.write_first_level.new.folder in
    let f2 = g.D.Folder.files c.write_levels.new.folder in
    let begun = made_begun a.known s a.header c.depth.result n f0 (g.D.Folder.files c.begin_store.new.folder) c.depth.ensures.value
    c.in_ok-begin_store.ensures.whole in
    let first = c.in_ok-write_first_level.ensures.level in
    let done = first.whole f0 begun in
    let are = are_strips s c.args.chain.now c.requires.shape in
    let held : HoldsMade a.known (strip_front s a.header (pages_below s 1)) n f0 f1 =
    made_moved a.known s a.header n f0 f1 (rows_at s 0 * columns_at s 0) (pages_below s 1) (sym (first_pages s)) done in
    let halves : (b : List ℕ) → a.known ≡ Some b → HalvesFront (texture_of a.header b) c.write_first_level.new.half = λ b e.
    first.halves b e (c.requires.room.begun (texture_of a.header b) refl are.width are.height) in
    let level = level_made a.known a.header c.write_first_level.new.half p c.depth.ensures.texture halves c.finish.ensures.half c.finish.ensures.lawful in
    let same = λ (b : List ℕ) (e : a.known ≡ Some b). rest_tiles s a.header b p c.requires.room.limits are.width are.height (level b e) in
    let inside = first_inside s c.requires.room.limits.some_level in
    refused_outside s n (strip_store c.args.chain.now) a b (folder_effect g.D.Folder c.args.folder.now c.write_levels.new.folder)
    c.from_residual-in_err-write_levels.result _ c.from_residual-in_err-write_levels.ensures.1
    (inr (front_seen a.known c.args.chain.now s n f0 f2 c.requires.shape
    (made_rest_part a.known s a.header p.depth (pages_below s 1) (level_source (record { base = p; tile = s.tile }) 1) n f0 f1 f2 inside held same
    c.in_err-write_levels.ensures.part)))
    (strips_front a.header s.tile (strips_of a.header s.tile) a.places b.places (omega arith) first.all_read)
    (λ is.
    let rose = c.in_err-write_levels.ensures.failed (ap Err is) f0 done.written done.held in
    omega (arith, rose, c.write_first_level.ensures.asks.faults, c.begin_store.ensures.faults))

pub returns-in_err-write_levels-clause-kept : goal.returns-in_err-write_levels-clause-kept
returns-in_err-write_levels-clause-kept g c = c.write_first_level.ensures.kept

pub returns-in_err-write_levels-clause-asks : goal.returns-in_err-write_levels-clause-asks
returns-in_err-write_levels-clause-asks g c = record {
  asked = c.write_levels.ensures.asked ∙ c.write_first_level.ensures.asks.asked ∙ c.begin_store.ensures.asked;
  faults = omega (arith, c.begin_store.ensures.faults, c.write_first_level.ensures.asks.faults, c.write_levels.ensures.faults);
}

pub returns-clause-written : goal.returns-clause-written
returns-clause-written g c =
    let a = rows_state g.F.File c.args.chain.now in
    let s = c.args.geometry.now in
    let p = c.finish.result in
    let n = c.args.name.now in
    let f0 = g.D.Folder.files c.args.folder.now in
    let f1 = g.D.Folder.files c.write_first_level.new.folder in
    let f2 = g.D.Folder.files c.write_levels.new.folder in
    let begun = made_begun a.known s a.header c.depth.result n f0 (g.D.Folder.files c.begin_store.new.folder) c.depth.ensures.value
    c.in_ok-begin_store.ensures.whole in
    let first = c.in_ok-write_first_level.ensures.level in
    let are = are_strips s c.args.chain.now c.requires.shape in
    let held : HoldsMade a.known (strip_front s a.header (pages_below s 1)) n f0 f1 =
    made_moved a.known s a.header n f0 f1 (rows_at s 0 * columns_at s 0) (pages_below s 1) (sym (first_pages s)) (first.whole f0 begun) in
    let halves : (b : List ℕ) → a.known ≡ Some b → HalvesFront (texture_of a.header b) c.write_first_level.new.half = λ b e.
    first.halves b e (c.requires.room.begun (texture_of a.header b) refl are.width are.height) in
    let level = level_made a.known a.header c.write_first_level.new.half p c.depth.ensures.texture halves c.finish.ensures.half c.finish.ensures.lawful in
    let same = λ (b : List ℕ) (e : a.known ≡ Some b). rest_tiles s a.header b p c.requires.room.limits are.width are.height (level b e) in
    record {
      whole = store_seen a.known c.args.chain.now s n f0 f2 c.requires.shape
          (made_whole a.known s a.header p.depth (pages_below s 1) (level_source (record { base = p; tile = s.tile }) 1) n f0 f1 f2
          (first_inside s c.requires.room.limits.some_level) held c.in_ok-write_levels.ensures.whole same);
      all_read = first.all_read;
    }

pub returns-clause-kept : goal.returns-clause-kept
returns-clause-kept g c = c.write_first_level.ensures.kept

pub returns-clause-asks : goal.returns-clause-asks
returns-clause-asks g c = record {
  asked = c.write_levels.ensures.asked ∙ c.write_first_level.ensures.asks.asked ∙ c.begin_store.ensures.asked;
  faults = omega (arith, c.begin_store.ensures.faults, c.write_first_level.ensures.asks.faults, c.write_levels.ensures.faults);
}

pub write_first_level-requires-clause-first : goal.write_first_level-requires-clause-first
write_first_level-requires-clause-first g c κs within =
    first_next c.args.geometry.now (strips_state g.F.File c.args.chain.now c.args.room.half) c.requires.shape c.requires.room.limits c.requires.spare
    c.requires.room.depth c.requires.room.width c.requires.room.height c.requires.room.taken
