-- The filters among the words: how pixels are made of texels.
use Rattle.std.specs.Prelude.{List, Option, Some, None, codes, if◌then◌else◌}
use Rattle.std.specs.Str.{bytes_eq}
use Rattle.clap.specs.Words.{Row, Rule, Text, first_of}
use Rattle.vt_command_words.specs.Arguments.{option, given}
use Rattle.vt_command_words.specs.declared.filters.Filtering.{Filtering}
use Rattle.vt_command_words.specs.declared.filters.Filtering.TheVariants.{Nearest, Bilinear}

-- the option that names a filter, which is the nearest where it is not given
abbrev pub filter_option : Rule
filter_option = option (codes "filter") (codes "nearest")

-- the filter of a name; none for any other name
abbrev pub filter_named : Text → Option Filtering
filter_named name =
    if bytes_eq name (codes "nearest") then Some Nearest
    else (if bytes_eq name (codes "bilinear") then Some Bilinear
    else None)

-- the filter that the rows name
abbrev pub filter_of : List Row → Option Filtering
filter_of rows = given (first_of (codes "filter") rows) filter_named
