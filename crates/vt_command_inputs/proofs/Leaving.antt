-- What is left of what is expected, from what was written and put.
use Rattle.std.proofs.Common.{◌⊎◌, ℕ, List, [], Ok, Err, refl, inl, inr, arith}
use Rattle.std.specs.Prelude.{Result}
use Rattle.vt_outside.specs.Counts.{Rose}
use Rattle.vt_outside.specs.declared.answers.OutsideError.{OutsideError}
use Rattle.vt_outside.specs.declared.answers.OutsideError.TheVariants.{Failed, NoMemory}
use Rattle.vt_outside.specs.Effects.{FolderState, SinkState}
use Rattle.vt_outside.specs.Expectations.{Expected, FailsOnly, Writes, PutsText, Leaves}
use Rattle.vt_outside.proofs.Writing.{no_files, part_none, part_whole}

-- nothing of what is expected was left for want of memory
pub unleft : (expected : Expected) (s : FolderState) (out : SinkState)
    → Leaves {T = Unit {0}} expected (record { folder = record { before = s; after = s }; out = record { before = out; after = out } }) (Err NoMemory)
unleft expected s out = (
  record { asked = refl; faults = omega arith },
  record { files = part_none expected.files s.files s.files refl; out = inl refl },
  tt,
)

-- the expected files were not written whole
pub left_writing : (expected : Expected) (before after : FolderState) (out : SinkState) (error : OutsideError)
    → Writes {T = Unit {0}} expected.files (record { before = before; after = after }) (Err error)
    → Leaves {T = Unit {0}} expected (record { folder = record { before = before; after = after }; out = record { before = out; after = out } }) (Err error)
left_writing expected before after out error h = (h.0, record { files = h.1; out = inl refl }, either error h.2)
  where
    either : (e : OutsideError) → FailsOnly (Rose before.faults after.faults) e → FailsOnly (Rose before.faults after.faults ⊎ Rose out.faults out.faults) e
    either Failed rose = inl rose
    either NoMemory rose = tt

-- the expected files were written, and what came of the text
pub left_putting : (expected : Expected) (before after : FolderState) (out shown : SinkState) (r : Result (Unit {0}) OutsideError)
    → Writes {T = Unit {0}} expected.files (record { before = before; after = after }) (Ok tt) → PutsText expected.text (record { before = out; after = shown }) r
    → Leaves expected (record { folder = record { before = before; after = after }; out = record { before = out; after = shown } }) r
left_putting expected before after out shown (Ok u) h put = (h.0, record { files = h.1; out = put })
left_putting expected before after out shown (Err error) h put = (
  h.0,
  record { files = part_whole expected.files before.files after.files h.1; out = inr (h.1, put.0.0, put.0.1) },
  either error put.1,
)
  where
    either : (e : OutsideError) → FailsOnly (Rose out.faults shown.faults) e → FailsOnly (Rose before.faults after.faults ⊎ Rose out.faults shown.faults) e
    either Failed rose = inr rose
    either NoMemory rose = tt

-- a text alone is expected
pub left_text : (text : List ℕ) (s : FolderState) (out shown : SinkState) (r : Result (Unit {0}) OutsideError)
    → PutsText text (record { before = out; after = shown }) r
    → Leaves (record { files = []; text = text }) (record { folder = record { before = s; after = s }; out = record { before = out; after = shown } }) r
left_text text s out shown r put =
    left_putting (record { files = []; text = text }) s s out shown r (record { asked = refl; faults = omega arith }, no_files s.files) put
