-- A folder as a walk writes to it.
use Rattle.vt_outside.specs.declared.outside.Folder.{Ghosts as FolderMeanings}
use Rattle.vt_walk.specs.declared.output_folder.OutputFolder.{Ghosts as OutputMeanings}

-- the meanings of a folder that is written to, as a folder's
abbrev pub folder_of : {D : Type 0} → OutputMeanings D → FolderMeanings D D
folder_of d = record { files = d.files; asked = d.asked; faults = d.faults }
