use Rattle.std.proofs.Common.{◌≡◌, ◌∙◌, sym, ap, refl, List, ℕ, Bool, true, false}
use Rattle.std.specs.Prelude.{option_map, if◌then◌else◌}
use Rattle.vt_command_words.specs.Arguments.{texts}
use Rattle.vt_command_words.specs.Commands.{walking_text, shown_walking, IsLawfulWalking}
use Rattle.vt_command_words.specs.declared.command.WalkingCommand.{WalkingCommand}
use Rattle.vt_command_words.specs.declared.command.WalkingCommand.TheVariants as walking
use Rattle.vt_command_words.proofs.Asked.{same_asked, wrapped_ok, wrapped_err}
use Rattle.vt_walk_commands.specs.StoreCommandsCommands.{store_text, shown_store, IsLawfulStore}
use Rattle.vt_commands.specs.Words.{OfStore, OfWalk, is_walking_name, named_text, command_of, shown_words, HasLawfulNumbers}
use Rattle.vt_commands.specs.declared.command.Command.TheVariants.{Store}
use Rattle.vt_commands.proofs.command.read_named.Goals as goal

when_walking : (name : List ℕ) (words : List (List ℕ)) → is_walking_name name ≡ true → named_text name words ≡ option_map OfWalk (walking_text name words)
when_walking name words is =
    ap (λ (b : Bool). if b then option_map OfWalk (walking_text name words) else option_map OfStore (store_text name words)) is

when_not : (name : List ℕ) (words : List (List ℕ)) → is_walking_name name ≡ false → named_text name words ≡ option_map OfStore (store_text name words)
when_not name words is =
    ap (λ (b : Bool). if b then option_map OfWalk (walking_text name words) else option_map OfStore (store_text name words)) is

shown_same : (c : WalkingCommand) → OfWalk (shown_walking c) ≡ shown_words (command_of c)
shown_same (walking.Replay words) = refl
shown_same (walking.Walk words) = refl
shown_same (walking.Trial words) = refl

lawful_same : (c : WalkingCommand) → IsLawfulWalking c → HasLawfulNumbers (command_of c)
lawful_same (walking.Replay words) h = h
lawful_same (walking.Walk words) h = h
lawful_same (walking.Trial words) h = h

pub returns-in_err-walking : goal.returns-in_err-walking
returns-in_err-walking c =
    same_asked _ _ shown_words HasLawfulNumbers _ _ _
    (when_walking c.args.name.now (texts c.args.words.now) (sym c.is_walking_name.ensures ∙ c.if-is_walking_name.true))
    (wrapped_err _ _ _ _ shown_walking IsLawfulWalking shown_words HasLawfulNumbers OfWalk _ _ c.from_residual.result c.from_residual.ensures.1
    c.in_err-walking.ensures)

pub returns-then-is_walking_name : goal.returns-then-is_walking_name
returns-then-is_walking_name c =
    same_asked _ _ shown_words HasLawfulNumbers _ _ _
    (when_walking c.args.name.now (texts c.args.words.now) (sym c.is_walking_name.ensures ∙ c.if-is_walking_name.true))
    (rw c.command_of.ensures (wrapped_ok _ _ _ _ shown_walking IsLawfulWalking shown_words HasLawfulNumbers OfWalk command_of _ c.in_ok-walking.walking shown_same
    lawful_same c.in_ok-walking.ensures))

pub returns-in_err-command : goal.returns-in_err-command
returns-in_err-command c =
    same_asked _ _ shown_words HasLawfulNumbers _ _ _
    (when_not c.args.name.now (texts c.args.words.now) (sym c.is_walking_name.ensures ∙ c.if-is_walking_name.false))
    (wrapped_err _ _ _ _ shown_store IsLawfulStore shown_words HasLawfulNumbers OfStore _ _ c.from_residual-in_err-command.result
    c.from_residual-in_err-command.ensures.1 c.in_err-command.ensures)

pub returns : goal.returns
returns c =
    same_asked _ _ shown_words HasLawfulNumbers _ _ _
    (when_not c.args.name.now (texts c.args.words.now) (sym c.is_walking_name.ensures ∙ c.if-is_walking_name.false))
    (wrapped_ok _ _ _ _ shown_store IsLawfulStore shown_words HasLawfulNumbers OfStore Store _ c.in_ok-command.command (λ it. refl) (λ it h. h)
    c.in_ok-command.ensures)
