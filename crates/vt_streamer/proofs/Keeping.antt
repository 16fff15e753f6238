-- What the writer of a table keeps, after each of its calls.
use Rattle.std.proofs.Common.{◌≡◌, ℕ, ◌+◌, ◌-◌, ◌*◌, ◌<◌, ◌≤◌, List, [], ◌∷◌, ◌++◌, length, get_or, set, replicate, refl, sym, ap, ◌∙◌, subst, arith, Some, None, inl, inr, length-set}
use Rattle.vt_definitions.specs.Limits.{most_frames}
use Rattle.vt_table.specs.Shape.{Shape}
use Rattle.vt_table.specs.Pages.{pages_of, IsWithinLimits}
use Rattle.vt_table.specs.JournalTypes.changes.Change.{Change}
use Rattle.vt_table.specs.Changes.{Table, at, newest, changed, IsFree, IsLegalNext}
use Rattle.vt_table.specs.JournalKept.{entries_of}
use Rattle.vt_table.proofs.Versions.{newest-none, newest-more, slice_get-push}
use Rattle.vt_table.specs.Views.{TableView, IsTable, IsTableChange, IsReady, filled_after}
use Rattle.vt_table.proofs.Lawful.{Follows, table_filled, table_published, table_none}
use Rattle.vt_table.proofs.Keeping.{entries_none}
use Rattle.vt_grace.specs.declared.sizes.Sizes.{Sizes}
use Rattle.vt_grace.specs.declared.views.WriterView.{WriterView}
use Rattle.vt_grace.specs.Values.{WordsValue, WriterValue}
use Rattle.vt_grace.specs.Sizes.{sizes_of}
use Rattle.vt_grace.specs.Places.{entry_place, bank_of}
use Rattle.vt_grace.specs.WriterViews.{first_writer}
use Rattle.vt_grace.specs.Banks.{StandsForTable}
use Rattle.vt_grace.specs.Sound.{IsSound}
use Rattle.vt_grace.specs.Tokens.{IsWriterOf}
use Rattle.vt_grace.proofs.GivingSteps.{zeros, nothing, sound_first}
use Rattle.vt_streamer.specs.Looks.{HasOnlyLooked}
use Rattle.vt_streamer.specs.Banks.{IsChangeInside, AreChangesInside, AreRotated, HasPublished}
use Rattle.vt_streamer.specs.Frees.{IsFreeSince, since_after}
use Rattle.vt_streamer.specs.Views.{StreamerView, streamer_table, IsStreamerOf}
use Rattle.vt_streamer.specs.Kept.{streamer_view_of, IsStreamerKept}
use Rattle.vt_streamer.specs.declared.latest.Latest.{Latest}
use Rattle.vt_streamer.specs.Latests.{AreLatest}
use Rattle.vt_streamer.proofs.Freeing.{free_more}

-- a writer that has published nothing since, and has written no bank
pub record IsAlike (v w : WriterView) : Type 0 where
  pub sizes : w.sizes ≡ v.sizes
  pub journal : w.journal ≡ v.journal
  pub entries : w.entries ≡ v.entries

rotated_alike : (v w : WriterView) → IsAlike v w → AreRotated v → AreRotated w
rotated_alike v w same rotated =
    subst (λ (x : Sizes × List ℕ × List Change). (i : ℕ) → i < 4 → StandsForTable x.0 x.1 (at x.2 (length x.2 - i)) (bank_of (length x.2 + 4 - i)))
    (λ i. (sym same.sizes i, sym same.entries i, sym same.journal i)) rotated

-- after the writer looked, gave a pass or took one back
pub kept_alike : (s : Shape) (seat seat' : WriterValue) (samplers : ℕ) (latest : Latest) (owners entries floors floors' since : List ℕ)
    → IsAlike seat.view seat'.view → IsSound seat'.view → floors' ≡ seat'.view.floors
    → IsStreamerKept (streamer_view_of s seat owners) samplers latest entries floors since
    → IsStreamerKept (streamer_view_of s seat' owners) samplers latest entries floors' since
kept_alike s seat seat' samplers latest owners entries floors floors' since same sound all_floors k = record {
  lawful = subst (λ (js : List Change). IsTable record { shape = s; frames = length owners; changes = js; spare = 0; tiles = []; owners = owners })
      (sym same.journal) k.lawful;
  sound = sound;
  sizes = same.sizes ∙ k.sizes;
  last_three = subst (λ (js : List Change). AreLatest js latest) (sym same.journal) k.last_three;
  inside = subst (λ (x : Sizes × List Change). AreChangesInside x.0 x.1) (λ i. (sym same.sizes i, sym same.journal i)) k.inside;
  rotated = rotated_alike seat.view seat'.view same k.rotated;
  all_floors = all_floors;
  all_entries = k.all_entries;
  agrees = k.agrees ∙ ap newest (sym same.journal);
  all_since = k.all_since;
  free = subst (λ (js : List Change). (f : ℕ) → f < length owners → IsFree (newest js) f → IsFreeSince js f (get_or since f 0)) (sym same.journal) k.free;
}

-- and after a free frame was filled
pub kept_filled : (s : Shape) (seat seat' : WriterValue) (samplers : ℕ) (latest : Latest) (frame page : ℕ) (owners entries floors since : List ℕ)
    → IsAlike seat.view seat'.view → IsSound seat'.view → seat'.view.floors ≡ seat.view.floors → IsFree (newest seat.view.journal) frame
    → IsStreamerKept (streamer_view_of s seat owners) samplers latest entries floors since
    → IsStreamerKept (streamer_view_of s seat' (set owners frame (page + 1))) samplers latest entries floors since
kept_filled s seat seat' samplers latest frame page owners entries floors since same sound floors_are free k =
    let count = length-set owners frame (page + 1) in
    let alike = kept_alike s seat seat' samplers latest owners entries floors floors since same sound (k.all_floors ∙ sym floors_are) k in record {
      lawful = table_filled s seat'.view.journal 0 frame page [] [] owners (subst (λ (js : List Change). IsFree (newest js) frame) (sym same.journal) free) alike.lawful;
      sound = sound;
      sizes = alike.sizes ∙ ap (λ (n : ℕ). sizes_of s n samplers) (sym count);
      last_three = alike.last_three;
      inside = alike.inside;
      rotated = alike.rotated;
      all_floors = alike.all_floors;
      all_entries = alike.all_entries;
      agrees = alike.agrees;
      all_since = alike.all_since ∙ sym count;
      free = λ f low. alike.free f (omega arith);
    }

-- the changes of a journal that grows
inside_more : (z : Sizes) (js : List Change) (c : Change) → AreChangesInside z js → IsChangeInside z c → AreChangesInside z (js ++ c ∷ [])
inside_more z js c all one v change is =
    elim (slice_get-push js c v change is) [ inl (low, before) ↦ all v change before | inr (last, same) ↦ subst (IsChangeInside z) same one ]

-- and after a change was published
pub kept_published : (s : Shape) (seat seat' : WriterValue) (samplers : ℕ) (change : Change) (latest latest' : Latest)
    (owners owners' entries entries' floors since since' : List ℕ)
    → HasPublished seat.view seat'.view change → IsSound seat'.view → AreRotated seat'.view → seat'.view.floors ≡ seat.view.floors
    → ((js : List Change) → AreLatest js latest → AreLatest (js ++ change ∷ []) latest') → length entries' ≡ length entries → length owners' ≡ length owners
    → entries_of entries' ≡ changed (entries_of entries) change → entries_of owners' ≡ filled_after (entries_of owners) change
    → since' ≡ since_after since change (length seat.view.journal + 1) → length since' ≡ length since → IsChangeInside seat.view.sizes change
    → IsTableChange (streamer_table (streamer_view_of s seat owners)) change → IsLegalNext s (newest seat.view.journal) change → IsReady (streamer_table (streamer_view_of s seat owners)) change
    → IsStreamerKept (streamer_view_of s seat owners) samplers latest entries floors since
    → IsStreamerKept (streamer_view_of s seat' owners') samplers latest' entries' floors since'
kept_published s seat seat' samplers change latest latest' owners owners' entries entries' floors since since'
    published sound rotated same_floors grown all_entries all_owners new_entries new_owners new_since all_since inside within legal ready k = record {
      lawful = table_published v w change follows published.journal k.lawful within legal ready;
      sound = sound;
      sizes = sizes ∙ (k.sizes ∙ ap (λ (n : ℕ). sizes_of s n samplers) (sym all_owners));
      last_three = subst (λ (js : List Change). AreLatest js latest') (sym published.journal) (grown seat.view.journal k.last_three);
      inside = subst (λ (x : Sizes × List Change). AreChangesInside x.0 x.1) (λ i. (sym sizes i, sym published.journal i))
          (inside_more seat.view.sizes seat.view.journal change k.inside inside);
      rotated = rotated;
      all_floors = k.all_floors ∙ sym same_floors;
      all_entries = all_entries ∙ k.all_entries;
      agrees = new_entries ∙ (ap (λ (m : Table). changed m change) k.agrees ∙ sym next);
      all_since = all_since ∙ (k.all_since ∙ sym all_owners);
      free = λ f low free. subst (λ (x : List Change × List ℕ). IsFreeSince x.0 f (get_or x.1 f 0))
          (λ i. (sym published.journal i, sym new_since i))
          (free_more seat.view.journal change (length owners) since k.lawful.one_to_one legal.0 k.all_since k.free f (omega arith)
          (subst (λ (js : List Change). IsFree (newest js) f) published.journal free));
    }
  where
    v : TableView
    v = streamer_table (streamer_view_of s seat owners)

    w : TableView
    w = streamer_table (streamer_view_of s seat' owners')

    sizes : seat'.view.sizes ≡ seat.view.sizes
    sizes = ap (λ (x : WriterView). x.sizes) published.rest

    next : newest seat'.view.journal ≡ changed (newest seat.view.journal) change
    next = ap newest published.journal ∙ newest-more seat.view.journal change

    follows : Follows v w change
    follows = record { shape = refl; frames = all_owners; changes = next; owners = new_owners }

-- the banks of a new table are those of version 0
rotated_first : (z : Sizes) → AreRotated (first_writer z)
rotated_first z i low page within = zeros (4 * z.pages) (entry_place z (bank_of (4 - i)) page) ∙ sym (nothing (0 - i) (omega arith) page)

-- a new table
pub kept_first : (s : Shape) (seat : WriterValue) (samplers : ℕ) (latest : Latest) (owners entries floors since : List ℕ)
    → IsWithinLimits s → AreLatest [] latest → 1 ≤ length owners → length owners ≤ most_frames → seat.view ≡ first_writer (sizes_of s (length owners) samplers)
    → floors ≡ replicate samplers 0 → length entries ≡ pages_of s → ((k : ℕ) → get_or entries k 0 ≡ 0) → length since ≡ length owners → ((k : ℕ) → get_or since k 0 ≡ 0)
    → IsStreamerKept (streamer_view_of s seat owners) samplers latest entries floors since
kept_first s seat samplers latest owners entries floors since limits none some few first all_floors all_entries zero_entries all_since zero_since = record {
  lawful = table_none (streamer_table (streamer_view_of s seat owners)) limits journal some few;
  sound = subst IsSound (sym first) (sound_first z);
  sizes = ap (λ (w : WriterView). w.sizes) first;
  last_three = subst (λ (js : List Change). AreLatest js latest) (sym journal) none;
  inside = subst (AreChangesInside seat.view.sizes) (sym journal) (λ v change is. cc);
  rotated = subst AreRotated (sym first) (rotated_first z);
  all_floors = all_floors ∙ sym (ap (λ (w : WriterView). w.floors) first);
  all_entries = all_entries;
  agrees = entries_none entries zero_entries ∙ ((λ i p. sym (newest-none p) i) ∙ ap newest (sym journal));
  all_since = all_since;
  free = λ f low free. subst (λ (x : List Change × ℕ). IsFreeSince x.0 f x.1) (λ i. (sym journal i, sym (zero_since f) i)) (never f);
}
  where
    z : Sizes
    z = sizes_of s (length owners) samplers

    journal : seat.view.journal ≡ []
    journal = ap (λ (w : WriterView). w.journal) first

    empty_at : (v page f : ℕ) → v ≡ 0 → at [] v page ≡ Some f → ⊥
    empty_at v page f none e = let here : at [] v page ≡ None = ap (λ (u : ℕ). at [] u page) none ∙ newest-none page in let s : None ≡ Some f = sym here ∙ e in cc

    never : (f : ℕ) → IsFreeSince [] f 0
    never f v page from to = empty_at v page f (omega arith)

-- the writer of the words' table, by what it keeps and by its seat
pub streamer_of : (words : WordsValue) (s : Shape) (seat : WriterValue) (samplers : ℕ) (latest : Latest) (owners entries floors since : List ℕ)
    → IsWriterOf words seat → IsStreamerKept (streamer_view_of s seat owners) samplers latest entries floors since → IsStreamerOf words (streamer_view_of s seat owners)
streamer_of words s seat samplers latest owners entries floors since of k = record {
  table = of.table;
  seen = of.sizes;
  sizes = let whole = sym of.sizes ∙ k.sizes in whole ∙ ap (λ (n : ℕ). sizes_of s (length owners) n) (sym (ap (λ (z : Sizes). z.samplers) whole));
  limits = of.limits;
  sound = k.sound;
  lawful = k.lawful;
}

-- the writer's seat, by what is seen of it
pub seat_of : (words : WordsValue) (s : Shape) (seat : WriterValue) (owners : List ℕ) (v : StreamerView) → streamer_view_of s seat owners ≡ v
    → IsStreamerOf words v → IsWriterOf words seat
seat_of words s seat owners v is of = let h = subst (IsStreamerOf words) (sym is) of in record { table = h.table; sizes = h.seen; limits = h.limits }

-- looks leave the journal and the banks
pub alike_looked : (v w : WriterView) → HasOnlyLooked v w → IsAlike v w
alike_looked v w h = record { sizes = ap (λ (x : WriterView). x.sizes) h.rest; journal = ap (λ (x : WriterView). x.journal) h.rest; entries = ap (λ (x : WriterView). x.entries) h.rest }

-- what publishing a change asks of the banks, by what is kept
pub asks_all : (z : Sizes) (s : Shape) (seat : WriterValue) (samplers : ℕ) (latest : Latest) (owners entries floors since : List ℕ)
    → seat.view.sizes ≡ z → IsStreamerKept (streamer_view_of s seat owners) samplers latest entries floors since → AreChangesInside z seat.view.journal
asks_all z s seat samplers latest owners entries floors since same k = subst (λ (x : Sizes). AreChangesInside x seat.view.journal) same k.inside

pub asks_inside : (z : Sizes) (s : Shape) (seat : WriterValue) (samplers : ℕ) (latest : Latest) (owners entries floors since : List ℕ) (change : Change)
    → seat.view.sizes ≡ z → IsStreamerKept (streamer_view_of s seat owners) samplers latest entries floors since → IsTableChange (streamer_table (streamer_view_of s seat owners)) change
    → IsChangeInside z change
asks_inside z s seat samplers latest owners entries floors since change same k within =
    let sizes : sizes_of s (length owners) samplers ≡ z = sym k.sizes ∙ same in
    subst (λ (x : Sizes). IsChangeInside x change) sizes record { page_inside = within.page_inside; frame_inside = within.frame_inside }
