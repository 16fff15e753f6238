use Rattle.std.proofs.Common.{Ok}
use Rattle.vt_outside.specs.Effects.{FolderState, folder_state}
use Rattle.vt_outside.specs.Expectations.{Writes}
use Rattle.vt_pictures.specs.Pictures.{expected_pictures}
use Rattle.vt_pictures.proofs.WrittenPictures.{HasPictures}
use Rattle.vt_store_commands.specs.PlainFiles.{picture_file_of}
use Rattle.vt_store_commands.proofs.plain_groups.write_files.Given as goal

-- the pictures so far are written
abbrev pub invariant-loop-picture : goal.invariant-loop-picture
invariant-loop-picture g l =
    (before : FolderState) → Writes {T = Unit {0}} (expected_pictures l.prefix (picture_file_of l.pictures) l.first)
    (record { before = before; after = folder_state g.D.Folder l.fn.folder }) (Ok tt)
    → HasPictures l.prefix (picture_file_of l.pictures) l.picture before (folder_state g.D.Folder l.folder)
