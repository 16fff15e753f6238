-- Names of commands with a store, a path, a journal and pictures, and when two of them clash.
use Rattle.std.specs.Prelude.{Bool, ◌||◌}
use Rattle.std.specs.Str.{bytes_eq}
use Rattle.clap.specs.Words.{Text}
use Rattle.vt_pictures.specs.Names.{is_picture_name}

-- a name is that of some picture under the prefix, or the journal's name is the store's or the path's
abbrev pub names_clash : Text → Text → Text → Text → Bool
names_clash store path journal prefix =
    is_picture_name prefix store || is_picture_name prefix path || is_picture_name prefix journal
    || bytes_eq journal store || bytes_eq journal path
