-- Why a command was refused, by its specification, where it was an input, or a failed call.
use Rattle.std.proofs.Common.{inl, inr}
use Rattle.vt_outside.specs.Effects.{CallEffect}
use Rattle.vt_command_inputs.specs.Tasks.{HasRisen, IsRefusal}
use Rattle.vt_command_inputs.specs.CommandSpecs.{CommandSpec, IsRefusalBy}
use Rattle.vt_command_inputs.specs.declared.refusal.Refusal.{Refusal}
use Rattle.vt_command_inputs.specs.declared.refusal.Refusal.TheVariants.{NoMemory, Usage, Fault, Flawed, TooFewFrames, DoesNotFit}

pub refused_by : (spec : CommandSpec) (c : CallEffect) (refusal : Refusal) → (HasRisen c → spec.failed c) → IsRefusal spec.inputs c refusal
    → IsRefusalBy spec c refusal
refused_by spec c NoMemory failed h = tt
refused_by spec c Usage failed h = absurd h
refused_by spec c Fault failed (inl rose) = inl (failed rose)
refused_by spec c Fault failed (inr missing) = inr missing
refused_by spec c (Flawed name flaw) failed h = inl h
refused_by spec c (TooFewFrames frames needed) failed h = absurd h
refused_by spec c (DoesNotFit picture wanted room) failed h = absurd h
