-- What is so of an entry of a batch once its victim was unmapped.
use Rattle.std.proofs.Common.{◌≡◌, ℕ, List, ◌++◌, length, Option, Some, None, sym, ap, ◌∙◌, subst, mul_comm, ◌*◌, refl}
use Rattle.std.specs.Prelude.{MatchOption}
use Rattle.std.proofs.lemmas.List.{append-nil}
use Rattle.std.proofs.lemmas.Option.{none-some}
use Rattle.vt_table.specs.Shape.{Shape}
use Rattle.vt_table.specs.JournalTypes.changes.Change.{Change}
use Rattle.vt_table.specs.JournalTypes.changes.Change.TheVariants.{Unmap}
use Rattle.vt_table.specs.JournalTypes.changes.Event.{Event}
use Rattle.vt_table.specs.Changes.{Table, changed, newest, IsFree}
use Rattle.vt_machine.specs.JournalText.{changes_of}
use Rattle.vt_table.proofs.Versions.{newest-more, mapped_after_unmap}
use Rattle.vt_machine.specs.PlanTypes.batches.Planned.{Planned}
use Rattle.vt_table.specs.Depths.{IsDepth, texel_length}
use Rattle.vt_load.specs.Format.{tile_length}
use Rattle.vt_table.specs.Views.{TableView, IsTable, IsTile}
use Rattle.vt_machine.specs.Outcomes.{IsEntryFor, IsVictimOf, victim_events}
use Rattle.vt_requests.specs.Streams.{Publishes}

pub still_unmapped : (u v : TableView) (e : Planned) (es fs : List Event) → IsEntryFor u.shape u.frames (newest u.changes) e
    → Publishes (victim_events e.victim e.frame) u v es fs
    → newest v.changes e.page ≡ None
still_unmapped u v e es fs h p = by_victim e.victim p.changes where
  by_victim : (o : Option ℕ) → v.changes ≡ u.changes ++ changes_of (victim_events o e.frame) → newest v.changes e.page ≡ None
  by_victim None same = ap (λ (js : List Change). newest js e.page) (same ∙ append-nil u.changes) ∙ h.unmapped
  by_victim (Some victim) same = stays (newest v.changes e.page) (ap (λ (js : List Change). newest js e.page) same
      ∙ ap (λ (m : Table). m e.page) (newest-more u.changes (Unmap victim e.frame))) victim where
        stays : (o : Option ℕ) → o ≡ changed (newest u.changes) (Unmap victim e.frame) e.page → ℕ → o ≡ None
        stays None is n = refl
        stays (Some f) is n = absurd (none-some f (sym h.unmapped ∙ (mapped_after_unmap (newest u.changes) victim e.frame e.page f (sym is)).1))

pub then_free : (u v : TableView) (e : Planned) (es fs : List Event) → IsTable u → IsEntryFor u.shape u.frames (newest u.changes) e
    → Publishes (victim_events e.victim e.frame) u v es fs
    → IsFree (newest v.changes) e.frame
then_free u v e es fs table h p = by_victim e.victim h.place p.changes where
  by_victim : (o : Option ℕ) → MatchOption o (IsFree (newest u.changes) e.frame) (IsVictimOf u.shape (newest u.changes) e.frame)
      → v.changes ≡ u.changes ++ changes_of (victim_events o e.frame) → IsFree (newest v.changes) e.frame
  by_victim None free same q held =
      subst (λ (js : List Change). IsFree (newest js) e.frame) (sym (same ∙ append-nil u.changes)) free q held
  by_victim (Some victim) is same q held =
      let now : changed (newest u.changes) (Unmap victim e.frame) q ≡ Some e.frame =
      sym (ap (λ (m : Table). m q) (ap newest same ∙ newest-more u.changes (Unmap victim e.frame))) ∙ held in
      let before = mapped_after_unmap (newest u.changes) victim e.frame q e.frame now in
      before.0 (table.one_to_one q victim e.frame before.1 is.mapped)

pub tile_is : (s : Shape) (d : ℕ) (tile : List ℕ) → IsDepth d → length tile ≡ tile_length s d → IsTile s tile
tile_is s d tile lawful size = record { depth = d; lawful = lawful; full = size ∙ mul_comm (s.tile * s.tile) (texel_length d) }
