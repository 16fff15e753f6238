use Rattle.vt_command_inputs.proofs.refusal.Refusal.print.Goals as goal

pub returns-in-NoMemory : goal.returns-in-NoMemory
returns-in-NoMemory g c = rw c.in-NoMemory.is c.print_words.ensures

pub returns-in-Usage : goal.returns-in-Usage
returns-in-Usage g c = rw c.in-Usage.is c.print_words-in-Usage.ensures

pub returns-in-Fault : goal.returns-in-Fault
returns-in-Fault g c = rw c.in-Fault.is c.print_words-in-Fault.ensures

pub returns-in-Flawed : goal.returns-in-Flawed
returns-in-Flawed g c = rw (c.in-Flawed.is, ← c.place.ensures) c.print_bad_input.ensures

pub returns-in-TooFewFrames : goal.returns-in-TooFewFrames
returns-in-TooFewFrames g c = rw c.in-TooFewFrames.is c.print_frames.ensures

pub returns-in-DoesNotFit : goal.returns-in-DoesNotFit
returns-in-DoesNotFit g c = rw c.in-DoesNotFit.is c.print_unfit.ensures
