use Rattle.std.proofs.Common.{◌≡◌, ℕ, ◌⊎◌, inl, List, Option, refl, ◌∙◌, subst, arith}
use Rattle.std.specs.Prelude.{OnOk, OnErr}
use Rattle.vt_outside.specs.Counts.{Rose}
use Rattle.vt_outside.specs.Effects.{folder_effect}
use Rattle.vt_outside.specs.declared.place.Place.{Place}
use Rattle.vt_outside.proofs.UnknownContents.{OnErr-all}
use Rattle.vt_outside.proofs.Refusing.{none_made, no_fewer}
use Rattle.vt_ppm.specs.declared.header.Header.{Header}
use Rattle.vt_ppm.specs.Strips.{texture_of}
use Rattle.vt_ppm.specs.StripPlaces.{strips_of, StripsAsked, StripsTried}
use Rattle.vt_tiles.specs.Made.{HoldsMade, HoldsMadeFront}
use Rattle.vt_tiles.proofs.Refusing.{by_memory, no_fault}
use Rattle.vt_store.specs.ChainStores.{texture_store}
use Rattle.vt_store.specs.StripStores.{strip_store}
use Rattle.vt_store.specs.StripSteps.{rows_state}
use Rattle.vt_store.proofs.WideStores.{no_less}
use Rattle.vt_store.proofs.StripStores.{seen_at}
use Rattle.vt_ppm.proofs.StripPlaces.{no_strips, strips_front}
use Rattle.vt_store.proofs.Written.{seen_failed, seen_part, seen_read, seen_refusal, seen_tried, seen_whole}
use Rattle.vt_store.proofs.strips.write_strips.Goals as goal

pub returns-in_err-reserve-clause-whole : goal.returns-in_err-reserve-clause-whole
returns-in_err-reserve-clause-whole g c = none_made c.from_residual.result _ _ c.from_residual.ensures.1

pub returns-in_err-reserve-clause-all_read : goal.returns-in_err-reserve-clause-all_read
returns-in_err-reserve-clause-all_read g c = none_made c.from_residual.result _ _ c.from_residual.ensures.1

pub returns-in_err-reserve-clause-part : goal.returns-in_err-reserve-clause-part
returns-in_err-reserve-clause-part g c = OnErr-all _ _ (inl refl)

pub returns-in_err-reserve-clause-refusals : goal.returns-in_err-reserve-clause-refusals
returns-in_err-reserve-clause-refusals g c = by_memory c.from_residual.result c.from_residual.ensures.1

pub returns-in_err-reserve-clause-failed : goal.returns-in_err-reserve-clause-failed
returns-in_err-reserve-clause-failed g c = λ failed. no_fault c.from_residual.result _ c.from_residual.ensures.1 failed

pub returns-in_err-reserve-clause-front_read : goal.returns-in_err-reserve-clause-front_read
returns-in_err-reserve-clause-front_read g c =
    OnErr-all _ _ (strips_front c.args.chain.now.header c.args.geometry.now.tile 0 (g.F.File.asked c.args.chain.now.file)
    (g.F.File.asked c.reserve.new.self.file)
    (omega arith) (no_strips c.args.chain.now.header c.args.geometry.now.tile (g.F.File.asked c.args.chain.now.file)
    (g.F.File.asked c.reserve.new.self.file) c.reserve.ensures.asked))

pub returns-in_err-reserve-clause-bytes : goal.returns-in_err-reserve-clause-bytes
returns-in_err-reserve-clause-bytes g c = c.reserve.ensures.bytes

pub returns-in_err-reserve-clause-name : goal.returns-in_err-reserve-clause-name
returns-in_err-reserve-clause-name g c = c.reserve.ensures.name

pub returns-in_err-reserve-clause-header : goal.returns-in_err-reserve-clause-header
returns-in_err-reserve-clause-header g c = c.reserve.ensures.header

pub returns-in_err-reserve-clause-tile : goal.returns-in_err-reserve-clause-tile
returns-in_err-reserve-clause-tile g c = c.reserve.ensures.tile

pub returns-in_err-reserve-clause-file_faults : goal.returns-in_err-reserve-clause-file_faults
returns-in_err-reserve-clause-file_faults g c = no_fewer _ _ c.reserve.ensures.faults

pub returns-in_err-reserve-clause-asked : goal.returns-in_err-reserve-clause-asked
returns-in_err-reserve-clause-asked g c = refl

pub returns-in_err-reserve-clause-faults : goal.returns-in_err-reserve-clause-faults
returns-in_err-reserve-clause-faults g c = no_fewer _ _ refl

pub returns-in_err-room-clause-whole : goal.returns-in_err-room-clause-whole
returns-in_err-room-clause-whole g c = none_made c.from_residual-in_err-room.result _ _ c.from_residual-in_err-room.ensures.1

pub returns-in_err-room-clause-all_read : goal.returns-in_err-room-clause-all_read
returns-in_err-room-clause-all_read g c = none_made c.from_residual-in_err-room.result _ _ c.from_residual-in_err-room.ensures.1

pub returns-in_err-room-clause-part : goal.returns-in_err-room-clause-part
returns-in_err-room-clause-part g c = OnErr-all _ _ (inl refl)

pub returns-in_err-room-clause-refusals : goal.returns-in_err-room-clause-refusals
returns-in_err-room-clause-refusals g c = by_memory c.from_residual-in_err-room.result c.from_residual-in_err-room.ensures.1

pub returns-in_err-room-clause-failed : goal.returns-in_err-room-clause-failed
returns-in_err-room-clause-failed g c = λ failed. no_fault c.from_residual-in_err-room.result _ c.from_residual-in_err-room.ensures.1 failed

pub returns-in_err-room-clause-front_read : goal.returns-in_err-room-clause-front_read
returns-in_err-room-clause-front_read g c =
    OnErr-all _ _ (strips_front c.args.chain.now.header c.args.geometry.now.tile 0 (g.F.File.asked c.args.chain.now.file)
    (g.F.File.asked c.reserve.new.self.file)
    (omega arith) (no_strips c.args.chain.now.header c.args.geometry.now.tile (g.F.File.asked c.args.chain.now.file)
    (g.F.File.asked c.reserve.new.self.file) c.reserve.ensures.asked))

pub returns-in_err-room-clause-bytes : goal.returns-in_err-room-clause-bytes
returns-in_err-room-clause-bytes g c = c.reserve.ensures.bytes

pub returns-in_err-room-clause-name : goal.returns-in_err-room-clause-name
returns-in_err-room-clause-name g c = c.reserve.ensures.name

pub returns-in_err-room-clause-header : goal.returns-in_err-room-clause-header
returns-in_err-room-clause-header g c = c.reserve.ensures.header

pub returns-in_err-room-clause-tile : goal.returns-in_err-room-clause-tile
returns-in_err-room-clause-tile g c = c.reserve.ensures.tile

pub returns-in_err-room-clause-file_faults : goal.returns-in_err-room-clause-file_faults
returns-in_err-room-clause-file_faults g c = no_fewer _ _ c.reserve.ensures.faults

pub returns-in_err-room-clause-asked : goal.returns-in_err-room-clause-asked
returns-in_err-room-clause-asked g c = refl

pub returns-in_err-room-clause-faults : goal.returns-in_err-room-clause-faults
returns-in_err-room-clause-faults g c = no_fewer _ _ refl

pub returns-clause-whole : goal.returns-clause-whole
returns-clause-whole g c =
    seen_at (λ (known : Option (List ℕ)) (h : Header) (side : ℕ). OnOk c.write_in_room.result (HoldsMade known (λ b. texture_store (texture_of h b) side)
    c.args.name.now (g.D.Folder.files c.args.folder.now) (g.D.Folder.files c.write_in_room.new.folder)))
    c.reserve.ensures.bytes c.reserve.ensures.header c.reserve.ensures.tile
    (seen_whole c.args.geometry.now c.args.name.now (strip_store c.reserve.new.self) (rows_state g.F.File c.reserve.new.self)
    (rows_state g.F.File c.write_in_room.new.chain) (folder_effect g.D.Folder c.args.folder.now c.write_in_room.new.folder) c.write_in_room.result
    c.write_in_room.ensures.written)

pub returns-clause-part : goal.returns-clause-part
returns-clause-part g c =
    seen_at (λ (known : Option (List ℕ)) (h : Header) (side : ℕ). OnErr c.write_in_room.result
    ((g.D.Folder.files c.write_in_room.new.folder ≡ g.D.Folder.files c.args.folder.now) ⊎ HoldsMadeFront known (λ b. texture_store (texture_of h b) side)
    c.args.name.now (g.D.Folder.files c.args.folder.now) (g.D.Folder.files c.write_in_room.new.folder)))
    c.reserve.ensures.bytes c.reserve.ensures.header c.reserve.ensures.tile
    (seen_part c.args.geometry.now c.args.name.now (strip_store c.reserve.new.self) (rows_state g.F.File c.reserve.new.self)
    (rows_state g.F.File c.write_in_room.new.chain) (folder_effect g.D.Folder c.args.folder.now c.write_in_room.new.folder) c.write_in_room.result
    c.write_in_room.ensures.written)

pub returns-clause-all_read : goal.returns-clause-all_read
returns-clause-all_read g c =
    seen_at (λ (before : Option (List Place)) (h : Header) (side : ℕ). OnOk c.write_in_room.result (StripsAsked h c.args.geometry.now.tile
    (strips_of h c.args.geometry.now.tile) before (g.F.File.asked c.write_in_room.new.chain.file)))
    c.reserve.ensures.asked c.reserve.ensures.header c.reserve.ensures.tile
    (seen_read c.args.geometry.now c.args.name.now (strip_store c.reserve.new.self) (rows_state g.F.File c.reserve.new.self)
    (rows_state g.F.File c.write_in_room.new.chain) (folder_effect g.D.Folder c.args.folder.now c.write_in_room.new.folder) c.write_in_room.result
    c.write_in_room.ensures.written)

pub returns-clause-front_read : goal.returns-clause-front_read
returns-clause-front_read g c =
    seen_at (λ (before : Option (List Place)) (h : Header) (side : ℕ). OnErr c.write_in_room.result (StripsTried h c.args.geometry.now.tile before
    (g.F.File.asked c.write_in_room.new.chain.file)))
    c.reserve.ensures.asked c.reserve.ensures.header c.reserve.ensures.tile
    (seen_tried c.args.geometry.now c.args.name.now (strip_store c.reserve.new.self) (rows_state g.F.File c.reserve.new.self)
    (rows_state g.F.File c.write_in_room.new.chain) (folder_effect g.D.Folder c.args.folder.now c.write_in_room.new.folder) c.write_in_room.result
    c.write_in_room.ensures.written)

pub returns-clause-refusals : goal.returns-clause-refusals
returns-clause-refusals g c =
    seen_refusal c.args.geometry.now c.args.name.now (strip_store c.reserve.new.self) (rows_state g.F.File c.reserve.new.self)
    (rows_state g.F.File c.write_in_room.new.chain) (folder_effect g.D.Folder c.args.folder.now c.write_in_room.new.folder) c.write_in_room.result
    c.write_in_room.ensures.written

pub returns-clause-failed : goal.returns-clause-failed
returns-clause-failed g c =
    λ failed. subst (λ (n : ℕ). Rose (g.D.Folder.faults c.args.folder.now) (g.D.Folder.faults c.write_in_room.new.folder)
    ⊎ Rose n (g.F.File.faults c.write_in_room.new.chain.file)) c.reserve.ensures.faults
    (seen_failed c.args.geometry.now c.args.name.now (strip_store c.reserve.new.self) (rows_state g.F.File c.reserve.new.self)
    (rows_state g.F.File c.write_in_room.new.chain) (folder_effect g.D.Folder c.args.folder.now c.write_in_room.new.folder) c.write_in_room.result
    c.write_in_room.ensures.written failed)

pub returns-clause-bytes : goal.returns-clause-bytes
returns-clause-bytes g c = c.write_in_room.ensures.kept.known ∙ c.reserve.ensures.bytes

pub returns-clause-name : goal.returns-clause-name
returns-clause-name g c = c.write_in_room.ensures.kept.called ∙ c.reserve.ensures.name

pub returns-clause-header : goal.returns-clause-header
returns-clause-header g c = c.write_in_room.ensures.kept.header ∙ c.reserve.ensures.header

pub returns-clause-tile : goal.returns-clause-tile
returns-clause-tile g c = c.write_in_room.ensures.kept.tile ∙ c.reserve.ensures.tile

pub returns-clause-file_faults : goal.returns-clause-file_faults
returns-clause-file_faults g c =
    no_less (g.F.File.faults c.args.chain.now.file) (g.F.File.faults c.reserve.new.self.file) (g.F.File.faults c.write_in_room.new.chain.file)
    (no_fewer _ _ c.reserve.ensures.faults) c.write_in_room.ensures.kept.faults

pub returns-clause-asked : goal.returns-clause-asked
returns-clause-asked g c = c.write_in_room.ensures.asks.asked

pub returns-clause-faults : goal.returns-clause-faults
returns-clause-faults g c = c.write_in_room.ensures.asks.faults
