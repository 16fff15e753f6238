use Rattle.std.proofs.Common.{◌≡◌, ℕ, ◌<◌, ◌≤◌, [], ◌∷◌, length, sym, ap, ◌∙◌, subst}
use Rattle.std.specs.Prelude.{IfSome, MatchOption, All}
use Rattle.left_right.specs.Sides.{view}
use Rattle.vt_swap_steps.specs.Caches.{Cache, cache_of}
use Rattle.vt_swap_steps.specs.declared.table.NewestTable.{NewestTable}
use Rattle.vt_swap_steps.specs.declared.rule.Known.{Known}
use Rattle.vt_swap_steps.specs.Logs.{changes_in}
use Rattle.vt_swap_steps.specs.LogWords.{IsEntry}
use Rattle.vt_swap.specs.Readers.{ReaderView, WasEntered}
use Rattle.vt_swap.proofs.Saying.{if_entry}
use Rattle.vt_swap.proofs.Entering.{version_known}
use Rattle.vt_swap.proofs.reader.TableReader.entry.Goals as goal

pub returns-clause-entered : goal.returns-clause-entered
returns-clause-entered g c =
    let e = c.enter-reading.ensures in
    let log = c.enter-reading.new.front.seen.log in
    let old = (view c.self.inside.reader.place).entered in
    let after : ReaderView = record {
      cache = cache_of c.enter-reading.new.front;
      log = log;
      entered = (view c.leave-reader.result.place).entered;
    } in
    subst (λ (r : ReaderView). WasEntered r after c.enter-reading.result.1) c.self.view_is (record {
      before = [];
      more = record {
        cache = e.cache;
        log = e.seen;
        entered = ap (λ (v : Known). v.entered) (c.leave-reader.ensures.1 ∙ e.noted);
      };
      later = subst (λ (n : ℕ). All (λ (u : ℕ). u ≤ n) old) (sym e.version) e.before.not_later;
      known = subst (λ (n : ℕ). n ≤ length (changes_in log)) (sym e.version) (version_known c.enter-reading.result.0.part.value log e.entered.table e.entered.seen);
    })

pub returns-clause-entry : goal.returns-clause-entry
returns-clause-entry g c =
    let found = c.entry_of-entry.result in
    let log = c.enter-reading.new.front.seen.log in
    subst (λ (n : ℕ). IfSome found (IsEntry log n c.args.page)) (sym c.enter-reading.ensures.version)
    (if_entry _ _ _ _ _ c.enter-reading.ensures.entered.seen
    (subst (λ (t : NewestTable). IfSome found (IsEntry t.front.seen.log t.version c.args.page)) c.get.ensures c.entry_of-entry.ensures.entry))

pub returns-clause-inside : goal.returns-clause-inside
returns-clause-inside g c =
    let found = c.entry_of-entry.result in
    let e = c.enter-reading.ensures in
    let mine : cache_of c.enter-reading.result.0.part.value.front ≡ cache_of c.self.inside.front = e.entered.one_log ∙ e.cache in
    let P : Cache → Type 0 = λ k. MatchOption found (k.pages ≤ c.args.page) (λ entry. c.args.page < k.pages) in
    subst (λ (r : ReaderView). P r.cache) c.self.view_is
    (subst P mine (subst (λ (t : NewestTable). P (cache_of t.front)) c.get.ensures c.entry_of-entry.ensures.inside))
