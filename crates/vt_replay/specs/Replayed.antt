-- What the replay of a journal draws.
use Rattle.std.specs.Prelude.{ℕ, ◌+◌, ◌==◌, if◌then◌else◌, List, [], ◌∷◌, slice_get, option_map, unwrap_or}
use Rattle.std.specs.List.{flat_map, range_with_len}
use Rattle.vt_definitions.specs.Texels.{Source}
use Rattle.vt_pages.specs.Shape.{Shape}
use Rattle.vt_camera.specs.Paths.{PathView}
use Rattle.vt_ppm.specs.Picture.{picture_bytes}
use Rattle.vt_journal.specs.declared.changes.Change.{Change}
use Rattle.vt_journal.specs.declared.changes.RowLine.{RowLine}
use Rattle.vt_journal.specs.Changes.{Table, at}
use Rattle.vt_journal.specs.JournalText.{Pass, Content, content_changes}
use Rattle.vt_tiles.specs.Format.{stored}
use Rattle.vt_outside.specs.Expectations.{ExpectedFile}
use Rattle.vt_replay_rows.specs.Pictures.{expected_pictures}
use Rattle.vt_replay_rows.specs.Scenes.{Scene, scene_of}
use Rattle.vt_replay_rows.specs.Trying.{Under}

-- the version that the line of a row names
abbrev pub version_of_row : List RowLine → ℕ → ℕ
version_of_row lines y = unwrap_or (option_map (λ line. line.version) (slice_get lines y)) 0

-- the bytes of the first pixels of a row of a picture under a page table, as a filter shows them
unfoldable pub replayed_row : Under → Source → Scene → Table → ℕ → ℕ → ℕ → List ℕ
replayed_row under src scene m i y columns = flat_map (λ x. under src scene m i x y) (range_with_len 0 columns)

-- the bytes of the first rows of the replay of a pass of a picture: each row under the page table of the version that its line names
unfoldable pub replayed_rows : Under → Source → Scene → List Change → List RowLine → ℕ → ℕ → List ℕ
replayed_rows under src scene changes lines i rows =
    flat_map (λ y. replayed_row under src scene (at changes (version_of_row lines y)) i y scene.path.width) (range_with_len 0 rows)

-- the rows of the last pass of a picture, where these were so far
abbrev pub lines_after : List RowLine → List Pass → ℕ → List RowLine
lines_after lines [] picture = lines
lines_after lines (pass ∷ passes) picture = lines_after (if pass.picture == picture then pass.rows else lines) passes picture

-- the rows of the last pass of a picture
abbrev pub last_lines : List Pass → ℕ → List RowLine
last_lines passes picture = lines_after [] passes picture

-- how many pictures passes have, where so many came before: their numbers go on by one
abbrev pub pictures_after : ℕ → List Pass → ℕ
pictures_after count [] = count
pictures_after count (pass ∷ passes) = pictures_after (pass.picture + 1) passes

-- how many pictures a journal's passes have
abbrev pub pictures_of : List Pass → ℕ
pictures_of passes = pictures_after 0 passes

-- the samples of the replay of a picture: those of its last pass
abbrev pub replay_samples : Under → Source → Scene → List Change → List Pass → ℕ → List ℕ
replay_samples under src scene changes passes i = replayed_rows under src scene changes (last_lines passes i) i scene.path.height

-- the file of the replay of a picture, at the depth of the scene (the Netpbm manual's P6 page)
unfoldable pub replay_file : Under → Source → Scene → List Change → List Pass → ℕ → List ℕ
replay_file under src scene changes passes i =
    picture_bytes scene.depth scene.path.width scene.path.height (replay_samples under src scene changes passes i)

-- the files that the replay of a journal is to leave: each picture of its passes under its name, drawn from a store's bytes
abbrev pub expected_replay : Under → Shape → ℕ → List ℕ → PathView → List ℕ → Content → List ExpectedFile
expected_replay under s d b path prefix content =
    expected_pictures prefix (replay_file under (stored b) (scene_of s d path) (content_changes s content) content.passes) (pictures_of content.passes)
