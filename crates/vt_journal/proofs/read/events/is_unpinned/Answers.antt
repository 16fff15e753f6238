use Rattle.std.proofs.Common.{◌≡◌, ℕ, ◌+◌, ◌-◌, ◌<◌, ◌≤◌, Bool, true, false, ltb, sym, subst, refl, arith, MatchBool}
use Rattle.std.proofs.lemmas.Bool.Decides.{nat_tests}
use Rattle.vt_journal.specs.JournalReading.{IsUnpinned}
use Rattle.vt_journal.specs.declared.changes.Change.{Change}
use Rattle.vt_journal.proofs.read.events.is_unpinned.Goals as goal

below : (page pinned count pages : ℕ) (b : Bool) → ltb page (count - pinned) ≡ b → count ≡ pages → pinned ≤ pages
    → MatchBool b (page + pinned < pages) (page + pinned < pages → ⊥)
below page pinned count pages true e all le = grind (arith, nat_tests)
below page pinned count pages false e all le = λ inside. grind (arith, nat_tests)

pub returns-in-Map : goal.returns-in-Map
returns-in-Map c = subst (λ (x : Change). IsUnpinned c.args.geometry.now c.args.pinned x) (sym c.in-Map.is) tt

pub returns-in-Unmap : goal.returns-in-Unmap
returns-in-Unmap c =
    let M : Change → Type 0 = λ x. MatchBool (ltb c.in-Unmap.page (c.page_count.result - c.args.pinned))
    (IsUnpinned c.args.geometry.now c.args.pinned x) (IsUnpinned c.args.geometry.now c.args.pinned x → ⊥) in
    subst M (sym c.in-Unmap.is) (below c.in-Unmap.page c.args.pinned c.page_count.result _ _ refl c.page_count.ensures.pages c.requires)
