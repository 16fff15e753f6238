use Rattle.std.proofs.Common.{◌≡◌, ℕ, List, [], None, Some, ap, sym, ◌∙◌}
use Rattle.vt_journal.specs.declared.changes.Change.{Change}
use Rattle.vt_journal.specs.Changes.{newest}
use Rattle.vt_journal.proofs.Versions.{newest-none}
use Rattle.vt_tests_cache.proofs.journal.versions.one_map.Goals as goal

nothing : (js : List Change) (p : ℕ) → js ≡ [] → newest js p ≡ None
nothing js p none = ap (λ (js : List Change). newest js p) none ∙ newest-none p

pub push-requires-clause-in_turn : goal.push-requires-clause-in_turn
push-requires-clause-in_turn c =
    let none : c.reserve.new.self.changes ≡ [] = c.in_ok-reserve.ensures.changes ∙ c.new-journal.ensures in
    (nothing c.reserve.new.self.changes 4 none, λ p e. let both : None ≡ Some 0 = sym (nothing c.reserve.new.self.changes p none) ∙ e in cc)
