-- The places asked of each name by the files that a folder in memory has closed.
use Rattle.std.specs.Prelude.{[], ◌++◌, string_bytes, if◌then◌else◌}
use Rattle.std.specs.Str.{bytes_eq}
use Rattle.vt_outside.specs.Files.{Asked}
use Rattle.vt_outside.specs.declared.closed_files.ClosedFiles.{ClosedFiles, Nothing, File'}

-- the places of each closed file of the name, in the order of closing
abbrev pub places_in : ClosedFiles → Asked
places_in Nothing q = []
places_in (File' name places p rest) q = if bytes_eq q (string_bytes name) then places_in rest q ++ places.items else places_in rest q
