use Rattle.std.proofs.Common.{◌≡◌, List, None, Some, ap, sym, ◌∙◌, arith, slice_get}
use Rattle.vt_journal.specs.declared.changes.Change.{Change}
use Rattle.vt_journal.specs.declared.changes.Change.TheVariants.{Unmap}
use Rattle.vt_tests_cache.proofs.journal.writing.empty_head.Goals as goal

pub write_head-requires : goal.write_head-requires
write_head-requires c = record {
  few = omega arith;
  first = λ i low. absurd (omega (arith, low));
  kept = λ v p f high is. let both : None ≡ Some (Unmap p f) = ap (λ (js : List Change). slice_get js v) (sym c.new-journal.ensures) ∙ is in cc;
}
