-- The machines among the words: by which one a walk draws.
use Rattle.std.specs.Prelude.{List, Option, Some, None, codes, if◌then◌else◌}
use Rattle.std.specs.Str.{bytes_eq}
use Rattle.clap.specs.Words.{Row, Rule, Text, first_of}
use Rattle.vt_command_words.specs.Arguments.{option, given}
use Rattle.vt_command_words.specs.Filters.{filter_of}
use Rattle.vt_command_words.specs.declared.filters.Filtering.{Filtering}
use Rattle.vt_command_words.specs.declared.filters.Filtering.TheVariants as filtering
use Rattle.vt_command_words.specs.declared.machines.TableForm.{TableForm}
use Rattle.vt_command_words.specs.declared.machines.TableForm.TheVariants.{Words, Swapped}
use Rattle.vt_command_words.specs.declared.machines.Scheduling.{Scheduling}
use Rattle.vt_command_words.specs.declared.machines.Scheduling.TheVariants.{Dealt, Shared}
use Rattle.vt_command_words.specs.declared.machines.MachineChoice.{MachineChoice}
use Rattle.vt_command_words.specs.declared.machines.MachineChoice.TheVariants.{Standard, SwappedTable, SharedRows, Bilinear}

-- the option that says how the page table and the frames are held: as words where it is not given
abbrev pub table_option : Rule
table_option = option (codes "table") (codes "words")

-- the form of a name; none for any other name
abbrev pub table_named : Text → Option TableForm
table_named name =
    if bytes_eq name (codes "words") then Some Words
    else (if bytes_eq name (codes "swap") then Some Swapped
    else None)

-- the form that is named
abbrev pub table_of : List Row → Option TableForm
table_of rows = given (first_of (codes "table") rows) table_named

-- the option that says how the rows of a picture are given to the samplers: they are dealt where it is not given
abbrev pub rows_option : Rule
rows_option = option (codes "rows") (codes "dealt")

-- the scheduling of a name; none for any other name
abbrev pub scheduling_named : Text → Option Scheduling
scheduling_named name =
    if bytes_eq name (codes "dealt") then Some Dealt
    else (if bytes_eq name (codes "shared") then Some Shared
    else None)

-- the scheduling that is named
abbrev pub scheduling_of : List Row → Option Scheduling
scheduling_of rows = given (first_of (codes "rows") rows) scheduling_named

-- the machine for these values; none where more than one of them is not its option's default
abbrev pub machine_for : TableForm → Scheduling → Filtering → Option MachineChoice
machine_for Words Dealt filtering.Nearest = Some Standard
machine_for Swapped Dealt filtering.Nearest = Some SwappedTable
machine_for Words Shared filtering.Nearest = Some SharedRows
machine_for Words Dealt filtering.Bilinear = Some Bilinear
machine_for Words Shared filtering.Bilinear = None
machine_for Swapped Shared filtering.Nearest = None
machine_for Swapped Dealt filtering.Bilinear = None
machine_for Swapped Shared filtering.Bilinear = None

-- the machine that the values ask for; none where one of them is not lawful, or more than one is not its option's default
abbrev pub machine_of : List Row → Option MachineChoice
machine_of rows =
    given (table_of rows) (λ table.
    given (scheduling_of rows) (λ scheduling.
    given (filter_of rows) (λ filter.
    machine_for table scheduling filter)))
