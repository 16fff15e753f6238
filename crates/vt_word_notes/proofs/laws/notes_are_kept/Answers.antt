use Rattle.std.proofs.Common.{refl}
use Rattle.vt_streaming.specs.WriterViews.{after_look, after_entry, after_word, after_change}
use Rattle.vt_streaming.specs.Giving.{after_giving}
use Rattle.vt_word_notes.proofs.Handed.{pass_noted, notes_stay, notes_alike, noted_onward}
use Rattle.vt_word_notes.proofs.laws.notes_are_kept.Goals as goal

pub returns-clause-passed : goal.returns-clause-passed
returns-clause-passed c = pass_noted

pub returns-clause-returned : goal.returns-clause-returned
returns-clause-returned c = notes_stay

pub returns-clause-given : goal.returns-clause-given
returns-clause-given c = λ w sampler. notes_alike w (after_giving w sampler) refl refl

pub returns-clause-looked : goal.returns-clause-looked
returns-clause-looked c = λ w sampler word. notes_alike w (after_look w sampler word) refl refl

pub returns-clause-entered : goal.returns-clause-entered
returns-clause-entered c = λ w page entry. notes_alike w (after_entry w page entry) refl refl

pub returns-clause-filled : goal.returns-clause-filled
returns-clause-filled c = λ w frame place word. notes_alike w (after_word w frame place word) refl refl

pub returns-clause-published : goal.returns-clause-published
returns-clause-published c = λ w change. notes_alike w (after_change w change) refl refl

pub returns-clause-alike : goal.returns-clause-alike
returns-clause-alike c = notes_alike

pub returns-clause-onward : goal.returns-clause-onward
returns-clause-onward c = noted_onward
