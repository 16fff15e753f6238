use Rattle.std.proofs.Common.{ℕ, List, ◌++◌, ap₂}
use Rattle.vt_store_commands.proofs.PlainFiles.{file_whole}
use Rattle.vt_store_commands.proofs.plain_files.draw_file.Goals as goal

pub returns : goal.returns
returns g c =
    file_whole c.args.pictures.now c.args.picture _ c.requires.has
    (ap₂ (λ (a b : List ℕ). a ++ b) c.copy_from_slice.ensures.after c.draw_samples.ensures)
