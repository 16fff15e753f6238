use Rattle.std.proofs.Common.{Err, sym, subst}
use Rattle.vt_command_words.specs.Trial.{shown_trial}
use Rattle.vt_command_inputs.specs.Effects.{sink_effect}
use Rattle.vt_command_inputs.specs.CommandSpecs.{EndsBy}
use Rattle.vt_walk_commands.specs.commands.Trial.{trial_spec, beside}
use Rattle.vt_command_inputs.specs.declared.refusal.Refusal.{Refusal}
use Rattle.vt_walk_commands.proofs.Trying.{tried, tried_in_part}
use Rattle.vt_walk_commands.proofs.commands.trial.trial.Goals as goal

pub returns-in-Ok-put_trial_line : goal.returns-in-Ok-put_trial_line
returns-in-Ok-put_trial_line g c = λ folder.
    tried (shown_trial c.args.words.now) c.in-Ok.tried.walked c.in-Ok.tried.differ folder (sink_effect g.O.Sink c.args.out.now c.put_trial_line.new.out)
    c.in-Ok.ensures.0 c.in-Ok.ensures.1 c.in-Ok-put_trial_line.ensures

pub returns-in-Err-put_trial_line : goal.returns-in-Err-put_trial_line
returns-in-Err-put_trial_line g c = λ folder.
    let put = sink_effect g.O.Sink c.args.out.now c.put_trial_line.new.out in
    let words = shown_trial c.args.words.now in
    subst (λ (refusal : Refusal). EndsBy {T = Unit {0}} (trial_spec words) (beside folder put) (Err refusal)) (sym c.from.ensures)
    (tried_in_part words c.in-Ok.tried.walked c.in-Ok.tried.differ folder put c.in-Err-put_trial_line.error c.in-Ok.ensures.0 c.in-Ok.ensures.1
    c.in-Err-put_trial_line.ensures)
