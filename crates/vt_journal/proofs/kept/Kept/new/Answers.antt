use Rattle.std.proofs.Common.{ap, ◌∙◌, sym}
use Rattle.vt_journal.specs.Changes.{newest}
use Rattle.vt_journal.proofs.Versions.{newest-none}
use Rattle.vt_journal.proofs.kept.Kept.new.Goals as goal

pub invariant_of-result : goal.invariant_of-result
invariant_of-result c = c.in_ok-new.ensures.1 ∙ sym (λ i p. newest-none p i) ∙ ap newest (sym c.new.ensures)
