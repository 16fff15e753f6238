use Rattle.std.proofs.Common.{◌+◌, ℕ, List, length, refl, sym, ap, ◌∙◌, subst}
use Rattle.std.proofs.lemmas.List.{with_items_is}
use Rattle.vt_table.specs.Changes.{newest, changed, IsLegalNext}
use Rattle.vt_table.specs.JournalKept.{entries_of}
use Rattle.vt_table.specs.Views.{IsTableChange, IsReady, filled_after}
use Rattle.vt_streamer.specs.Frees.{since_after}
use Rattle.vt_streamer.specs.Views.{StreamerView, streamer_table}
use Rattle.vt_streamer.proofs.Keeping.{kept_published, asks_all, asks_inside, seat_of, streamer_of}
use Rattle.vt_streamer.proofs.table_writer.TableWriter.publish.Goals as goal

pub put_next-requires-clause-all : goal.put_next-requires-clause-all
put_next-requires-clause-all c =
    asks_all _ _ _ _ _ _ _ _ _ (seat_of _ _ _ _ _ c.self.view_is c.requires.of).sizes c.self.invariant

pub put_next-requires-clause-latest : goal.put_next-requires-clause-latest
put_next-requires-clause-latest c = c.self.invariant.last_three

pub invariant_of-self : goal.invariant_of-self
invariant_of-self c =
    let t = c.self.inside in let k = c.self.invariant in let back = sym c.self.view_is in
    let entries = with_items_is t.entries c.put_entry.new.entries (c.put_entry.auto.entries ∙ c.as_mut_slice.ensures.len) in
    let owners = with_items_is t.owners c.free_owner.new.owners (c.free_owner.auto.owners ∙ c.as_mut_slice-2.ensures.len) in
    let since = with_items_is t.unmapped c.note_unmapped.new.unmapped (c.note_unmapped.auto.unmapped ∙ c.as_mut_slice-3.ensures.len) in
    let within = subst (λ (v : StreamerView). IsTableChange (streamer_table v) c.args.change) back c.requires.within in
    kept_published t.geometry t.seat c.put_next.new.writer t.samplers c.args.change t.latest c.one_more-self-inside.result t.owners.items _ t.entries.items _ t.floors.items
    t.unmapped.items _ c.put_next.ensures.published c.put_next.ensures.sound c.put_next.ensures.rotated c.put_next.ensures.floors c.one_more-self-inside.ensures
    (ap length entries ∙ c.put_entry.auto.entries ∙ ap length c.as_mut_slice.ensures.value)
    (ap length owners ∙ c.free_owner.auto.owners ∙ ap length c.as_mut_slice-2.ensures.value)
    (ap entries_of entries ∙ c.put_entry.ensures ∙ ap (λ (xs : List ℕ). changed (entries_of xs) c.args.change) c.as_mut_slice.ensures.value)
    (ap entries_of owners ∙ c.free_owner.ensures ∙ ap (λ (xs : List ℕ). filled_after (entries_of xs) c.args.change) c.as_mut_slice-2.ensures.value)
    (since ∙ c.note_unmapped.ensures ∙ ap (λ (x : List ℕ × ℕ). since_after x.0 c.args.change (x.1 + 1)) (λ i. (c.as_mut_slice-3.ensures.value i, c.version-version.ensures i)))
    (ap length since ∙ c.note_unmapped.auto.unmapped ∙ ap length c.as_mut_slice-3.ensures.value)
    (asks_inside _ _ _ _ _ _ _ _ _ c.args.change refl k within) within
    (subst (λ (v : StreamerView). IsLegalNext v.shape (newest v.writer.journal) c.args.change) back c.requires.legal)
    (subst (λ (v : StreamerView). IsReady (streamer_table v) c.args.change) back c.requires.ready) k

pub returns-clause-of : goal.returns-clause-of
returns-clause-of c = streamer_of _ _ _ _ _ _ _ _ _ c.put_next.ensures.of (invariant_of-self c)
