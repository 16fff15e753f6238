use Rattle.std.proofs.Common.{◌≡◌, ◌+◌, ◌++◌, map}
use Rattle.std.specs.List.{range_with_len}
use Rattle.vt_journal.specs.declared.lines.Line.TheVariants.{Makes}
use Rattle.vt_journal.specs.JournalText.{lines_text, pinned_change}
use Rattle.vt_journal.proofs.write.add_head.Given as goal

abbrev pub invariant-loop-place : goal.invariant-loop-place
invariant-loop-place l = l.text.items ≡ l.initial.text.items
    ++ lines_text l.geometry (map (λ i. Makes (i + 1) (pinned_change l.geometry l.pinned i)) (range_with_len 0 l.place))
