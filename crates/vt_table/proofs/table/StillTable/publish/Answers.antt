use Rattle.std.proofs.Common.{◌∙◌, ap, sym, subst, List, ℕ, length}
use Rattle.std.proofs.lemmas.List.{with_items_is}
use Rattle.vt_journal.specs.Changes.{newest, IsLegalNext, changed}
use Rattle.vt_journal.specs.Kept.{entries_of}
use Rattle.vt_table.specs.Views.{TableView, IsTableChange, IsReady, filled_for, filled_after}
use Rattle.vt_table.proofs.Keeping.{kept_published}
use Rattle.vt_table.proofs.table.StillTable.publish.Goals as goal

pub invariant_of-self : goal.invariant_of-self
invariant_of-self c =
    let t = c.self.inside in
    let back = sym c.self.view_is in
    let entries = with_items_is t.entries c.put_entry.new.entries (c.put_entry.auto.entries ∙ c.as_mut_slice.ensures.len) in
    let owners = with_items_is t.owners c.free_owner.new.owners (c.free_owner.auto.owners ∙ c.as_mut_slice-2.ensures.len) in
    kept_published t.geometry t.journal.changes t.journal.spare c.push.new.self.spare t.room c.args.change t.entries.items t.bytes.items
    t.depths.items t.owners.items _ _ c.push.new.self.changes c.push.ensures.changes
    (subst (λ (u : TableView). IsTableChange u c.args.change) back c.requires.within)
    (subst (λ (u : TableView). IsLegalNext u.shape (newest u.changes) c.args.change) back c.requires.legal)
    (subst (λ (u : TableView). IsReady u c.args.change) back c.requires.ready)
    (ap length entries ∙ c.put_entry.auto.entries ∙ ap length c.as_mut_slice.ensures.value)
    (ap length owners ∙ c.free_owner.auto.owners ∙ ap length c.as_mut_slice-2.ensures.value)
    (ap entries_of entries ∙ c.put_entry.ensures ∙ ap (λ (xs : List ℕ). changed (entries_of xs) c.args.change) c.as_mut_slice.ensures.value)
    (ap entries_of owners ∙ c.free_owner.ensures ∙ ap (λ (xs : List ℕ). filled_after (entries_of xs) c.args.change) c.as_mut_slice-2.ensures.value)
    c.self.invariant

pub returns-clause-table : goal.returns-clause-table
returns-clause-table c = (invariant_of-self c).table

pub returns-clause-version : goal.returns-clause-version
returns-clause-version c = c.version.ensures.version

pub returns-clause-filled : goal.returns-clause-filled
returns-clause-filled c =
    let t = c.self.inside in
    let owners = with_items_is t.owners c.free_owner.new.owners (c.free_owner.auto.owners ∙ c.as_mut_slice-2.ensures.len) in
    ap entries_of owners ∙ c.free_owner.ensures
    ∙ ap (λ (xs : List ℕ). filled_after (entries_of xs) c.args.change) c.as_mut_slice-2.ensures.value
    ∙ ap (λ (u : TableView). filled_after (filled_for u) c.args.change) c.self.view_is
