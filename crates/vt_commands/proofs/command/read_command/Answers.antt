use Rattle.std.proofs.Common.{◌≡◌, ◌≤◌, List, [], ◌∷◌, length, get_or, arith, sym, ap, ◌∙◌}
use Rattle.std.specs.Prelude.{String, string_bytes}
use Rattle.std.specs.declared.alloc.Global.{Global}
use Rattle.clap.specs.Words.{Text}
use Rattle.vt_command_words.specs.Arguments.{texts}
use Rattle.vt_command_words.specs.Reading.{IsReadAnswer}
use Rattle.vt_command_words.proofs.Asked.{same_asked, must_refuse}
use Rattle.vt_commands.specs.Words.{named_text, command_text, shown_words, HasLawfulNumbers}
use Rattle.vt_commands.proofs.command.read_command.Goals as goal

-- the first word names the command
first_names : (words : List (String Global)) (name : String Global) (text : Text) → 1 ≤ length words → name ≡ get_or words 0 name
    → text ≡ string_bytes name → command_text (texts words) ≡ named_text text (texts words)
first_names [] name text some is shows = absurd (let no : ⊥ = omega arith in no)
first_names (word ∷ rest) name text some is shows = ap (λ (t : Text). named_text t (texts (word ∷ rest))) (sym (shows ∙ ap string_bytes is))

answered : (c : goal.After-read_named) → IsReadAnswer shown_words HasLawfulNumbers (command_text (texts c.args.words.now)) c.read_named.result
answered c =
    same_asked _ _ shown_words HasLawfulNumbers _ _ _
    (first_names c.args.words.now c.name-item.result c.as_str.result.now c.in-len1-up.len_at_least c.name-item.is c.as_str.ensures.value)
    c.read_named.ensures

pub returns-in-len1-up-clause-read : goal.returns-in-len1-up-clause-read
returns-in-len1-up-clause-read c = (answered c).read

pub returns-in-len1-up-clause-usage : goal.returns-in-len1-up-clause-usage
returns-in-len1-up-clause-usage c = (answered c).usage

pub returns-in-len1-up-clause-lawful : goal.returns-in-len1-up-clause-lawful
returns-in-len1-up-clause-lawful c = (answered c).lawful

pub returns-in-len1-up-clause-refused : goal.returns-in-len1-up-clause-refused
returns-in-len1-up-clause-refused c = must_refuse _ _ shown_words HasLawfulNumbers _ _ (answered c)
