-- How a command ends: its status, and its line on the error output.
use Rattle.std.specs.Prelude.{◌≡◌, ℕ, List, Result, Ok, Err}
use Rattle.std.specs.declared.io.ErrorKind.{ErrorKind}
use Rattle.std.specs.declared.io.ErrorKind.TheVariants as kinds
use Rattle.vt_outside.specs.declared.answers.OutsideError.{OutsideError}
use Rattle.vt_outside.specs.declared.answers.OutsideError.TheVariants as outside
use Rattle.vt_text.specs.Places.{bad_input_line}
use Rattle.vt_text.specs.Printing.{Prints}
use Rattle.vt_command_words.specs.declared.arguments.WordsError.{WordsError}
use Rattle.vt_command_words.specs.declared.arguments.WordsError.TheVariants as words
use Rattle.vt_outside.specs.Effects.{SinkEffect}
use Rattle.vt_command_inputs.specs.Lines.{memory_line, fault_line, frames_line, unfit_line}
use Rattle.vt_command_inputs.specs.Flaws.{flaw_place}
use Rattle.vt_command_inputs.specs.declared.flaws.Flaw.{Flaw}
use Rattle.vt_command_inputs.specs.declared.refusal.Refusal.{Refusal}
use Rattle.vt_command_inputs.specs.declared.refusal.Refusal.TheVariants.{NoMemory, Usage, Fault, Flawed, TooFewFrames, DoesNotFit}

-- a failed call is a fault, and want of memory is itself
abbrev pub cause_of : OutsideError → Refusal
cause_of outside.Failed = Fault
cause_of outside.NoMemory = NoMemory

-- words that are none of a command's, and want of memory
abbrev pub refusal_of_words : WordsError → Refusal
refusal_of_words words.Usage = Usage
refusal_of_words words.NoMemory = NoMemory

-- the refusal of the input of a name, by its flaw or by the outside
abbrev pub IsRefusalOf : List ℕ → Result Flaw OutsideError → Refusal → Type 0
IsRefusalOf name (Ok flaw) (Flawed named found) = (named.now ≡ name) × (found ≡ flaw)
IsRefusalOf name (Ok flaw) _ = ⊥
IsRefusalOf name (Err error) refusal = refusal ≡ cause_of error

-- the status of a refusal
abbrev pub refusal_status : Refusal → ℕ
refusal_status NoMemory = 1
refusal_status Usage = 2
refusal_status Fault = 3
refusal_status (Flawed name flaw) = 4
refusal_status (TooFewFrames frames needed) = 5
refusal_status (DoesNotFit picture wanted room) = 5

-- the status of the program
abbrev pub status_of : {T : Type 0} → Result T Refusal → ℕ
status_of (Ok value) = 0
status_of (Err refusal) = refusal_status refusal

-- the line of a refusal on the error output, by the line of usage
abbrev pub refusal_line : List ℕ → Refusal → List ℕ
refusal_line usage NoMemory = memory_line
refusal_line usage Usage = usage
refusal_line usage Fault = fault_line
refusal_line usage (Flawed name flaw) = bad_input_line name.now (flaw_place flaw)
refusal_line usage (TooFewFrames frames needed) = frames_line frames needed
refusal_line usage (DoesNotFit picture wanted room) = unfit_line picture wanted room

-- the text was put on the error output, or a prefix of it where a put was refused
abbrev pub Printed : List ℕ → SinkEffect → Type 0
Printed text g = Prints text g.before.held g.after.held g.before.faults g.after.faults g.before.refusals g.after.refusals

-- of a command that is done nothing is printed, and of a refusal its line
abbrev pub EndPrinted : {T : Type 0} → List ℕ → Result T Refusal → SinkEffect → Type 0
EndPrinted usage (Ok _) g = g.after ≡ g.before
EndPrinted usage (Err refusal) g = Printed (refusal_line usage refusal) g

-- the refusal where the words could not be read: a word that is no text is none of a command's
abbrev pub unread_refusal : ErrorKind → Refusal
unread_refusal kinds.OutOfMemory = NoMemory
unread_refusal _ = Usage
