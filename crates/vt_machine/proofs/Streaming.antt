-- One more entry of a batch is streamed.
use Rattle.std.proofs.Common.{◌≡◌, ◌≢◌, ℕ, zero, suc, ◌+◌, ◌≤◌, ◌⊎◌, inl, inr, ⊎_elim, Bool, true, false, List, [], ◌∷◌, ◌++◌, length, map, get_or, Option, Some, None, refl, sym, ap, ◌∙◌, subst, append_assoc, zero-add, arith}
use Rattle.std.specs.Prelude.{slice_get, MatchOption}
use Rattle.std.specs.List.{range_with_len}
use Rattle.std.proofs.lemmas.List.{append-nil, get_or_append_left}
use Rattle.std.proofs.lemmas.List.FromFn.{map-range_with_len_more}
use Rattle.std.proofs.lemmas.Grind.{flat_map-append}
use Rattle.std.proofs.lemmas.Option.{none-some, same_Some}
use Rattle.vt_pages.specs.Shape.{Shape}
use Rattle.vt_pictures.specs.JournalTypes.changes.Change.{Change}
use Rattle.vt_pictures.specs.JournalTypes.changes.Change.TheVariants.{Map, Unmap}
use Rattle.vt_pictures.specs.JournalTypes.changes.Event.{Event}
use Rattle.vt_pictures.specs.JournalTypes.changes.Event.TheVariants.{Changed}
use Rattle.vt_pictures.specs.Changes.{Table, changed, newest, IsFree}
use Rattle.vt_pictures.specs.JournalText.{changes_of}
use Rattle.vt_pictures.proofs.Versions.{newest-more, entry-same, entry-other, same_page, mapped_after_map, mapped_after_unmap}
use Rattle.vt_evict.specs.PlanTypes.batches.Planned.{Planned}
use Rattle.vt_machine.specs.Outcomes.{IsEntryFor, IsVictimOf, victim_events, group_of, group_if, group_at, pass_events}

-- an entry stays lawful after a change that is not of its page and not of its frame
after_map : (s : Shape) (frames : ℕ) (m : Table) (f : Planned) (page frame : ℕ) → IsEntryFor s frames m f → m page ≡ None → page ≢ f.page → frame ≢ f.frame
    → IsEntryFor s frames (changed m (Map page frame)) f
after_map s frames m f page frame h none other apart = record {
  page_inside = h.page_inside;
  unmapped = entry-other m page f.page (Some frame) (λ e. other (sym e)) ∙ h.unmapped;
  frame_inside = h.frame_inside;
  place = by_victim f.victim h.place;
} where
  by_victim : (o : Option ℕ) → MatchOption o (IsFree m f.frame) (IsVictimOf s m f.frame)
      → MatchOption o (IsFree (changed m (Map page frame)) f.frame) (IsVictimOf s (changed m (Map page frame)) f.frame)
  by_victim None free = λ q held. ⊎_elim (λ a. apart a.1) (λ a. free q a.1) (mapped_after_map m page frame q f.frame held)
  by_victim (Some w) is = record {
    mapped = entry-other m page w (Some frame) (λ e. none-some f.frame (sym none ∙ ap m (sym e) ∙ is.mapped)) ∙ is.mapped;
    no_root = is.no_root;
  }

after_unmap : (s : Shape) (frames : ℕ) (m : Table) (f : Planned) (v frame : ℕ) → IsEntryFor s frames m f → m v ≡ Some frame → frame ≢ f.frame
    → IsEntryFor s frames (changed m (Unmap v frame)) f
after_unmap s frames m f v frame h mapped apart = record {
  page_inside = h.page_inside;
  unmapped = gone (same_page f.page v);
  frame_inside = h.frame_inside;
  place = by_victim f.victim h.place;
} where
  gone : (f.page ≡ v) ⊎ (f.page ≢ v) → changed m (Unmap v frame) f.page ≡ None
  gone (inl same) = ap (changed m (Unmap v frame)) same ∙ entry-same m v None
  gone (inr other) = entry-other m v f.page None other ∙ h.unmapped

  by_victim : (o : Option ℕ) → MatchOption o (IsFree m f.frame) (IsVictimOf s m f.frame)
      → MatchOption o (IsFree (changed m (Unmap v frame)) f.frame) (IsVictimOf s (changed m (Unmap v frame)) f.frame)
  by_victim None free = λ q held. free q (mapped_after_unmap m v frame q f.frame held).1
  by_victim (Some w) is = record {
    mapped = entry-other m v w None (λ e. apart (same_Some frame f.frame (sym mapped ∙ ap m (sym e) ∙ is.mapped))) ∙ is.mapped;
    no_root = is.no_root;
  }

unmapped_still : (m : Table) (page v frame : ℕ) → m page ≡ None → changed m (Unmap v frame) page ≡ None
unmapped_still m page v frame none = gone (same_page page v) where
  gone : (page ≡ v) ⊎ (page ≢ v) → changed m (Unmap v frame) page ≡ None
  gone (inl same) = ap (changed m (Unmap v frame)) same ∙ entry-same m v None
  gone (inr other) = entry-other m v page None other ∙ none

-- an entry stays lawful after the group of another one
pub entry_stays : (s : Shape) (frames : ℕ) (js : List Change) (e f : Planned) (lost : Bool) → IsEntryFor s frames (newest js) e
    → IsEntryFor s frames (newest js) f
    → (e.page ≢ f.page) × (e.frame ≢ f.frame) → IsEntryFor s frames (newest (js ++ changes_of (group_of e lost))) f
entry_stays s frames js e f true h k apart = subst (λ (l : List Change). IsEntryFor s frames (newest l) f) (sym (append-nil js)) k
entry_stays s frames js e f false h k apart = by_victim e.victim h.place where
  by_victim : (o : Option ℕ) → MatchOption o (IsFree (newest js) e.frame) (IsVictimOf s (newest js) e.frame)
      → IsEntryFor s frames (newest (js ++ changes_of (victim_events o e.frame ++ Changed (Map e.page e.frame) ∷ []))) f
  by_victim None free = subst (λ (m : Table). IsEntryFor s frames m f) (sym (newest-more js (Map e.page e.frame)))
      (after_map s frames (newest js) f e.page e.frame k h.unmapped apart.0 apart.1)
  by_victim (Some v) is =
      let one : newest (js ++ Unmap v e.frame ∷ []) ≡ changed (newest js) (Unmap v e.frame) = newest-more js (Unmap v e.frame) in
      let two : newest (js ++ Unmap v e.frame ∷ Map e.page e.frame ∷ []) ≡ changed (newest (js ++ Unmap v e.frame ∷ [])) (Map e.page e.frame) =
      ap newest (sym (append_assoc js (Unmap v e.frame ∷ []) (Map e.page e.frame ∷ []))) ∙ newest-more (js ++ Unmap v e.frame ∷ []) (Map e.page e.frame) in
      subst (λ (m : Table). IsEntryFor s frames m f) (sym (two ∙ ap (λ (m : Table). changed m (Map e.page e.frame)) one))
      (after_map s frames (changed (newest js) (Unmap v e.frame)) f e.page e.frame
      (after_unmap s frames (newest js) f v e.frame k is.mapped apart.1)
      (unmapped_still (newest js) e.page v e.frame h.unmapped) apart.0 apart.1)

range_more : (n : ℕ) → range_with_len 0 (n + 1) ≡ range_with_len 0 n ++ n ∷ []
range_more n = ap (λ l. l) (sym (map-same (range_with_len 0 (n + 1)))) ∙ map-range_with_len_more (λ k. k) 0 n n (zero-add n)
    ∙ ap (λ l. l ++ n ∷ []) (map-same (range_with_len 0 n)) where
      map-same : (xs : List ℕ) → map (λ k. k) xs ≡ xs
      map-same [] = refl
      map-same (x ∷ xs) = ap (λ l. x ∷ l) (map-same xs)

-- the groups of the first tickets do not depend on what is told of later ones
same_groups : (batch : List Planned) (losses more : List Bool) (n : ℕ) → n ≤ length losses
    → pass_events batch (losses ++ more) (range_with_len 0 n) ≡ pass_events batch losses (range_with_len 0 n)
same_groups batch losses more zero few = refl
same_groups batch losses more (suc n) few =
    let step : range_with_len 0 (suc n) ≡ range_with_len 0 n ++ n ∷ [] = (let e : suc n ≡ n + 1 = omega arith in ap (range_with_len 0) e) ∙ range_more n in
    ap (pass_events batch (losses ++ more)) step
    ∙ flat_map-append (group_at batch (losses ++ more)) (range_with_len 0 n) (n ∷ [])
    ∙ ap (λ (es : List Event). es ++ (group_at batch (losses ++ more) n ++ [])) (same_groups batch losses more n (omega (arith, few)))
    ∙ ap (λ (l : Bool). pass_events batch losses (range_with_len 0 n)
    ++ (group_if (slice_get batch n) l ++ [])) (get_or_append_left losses more true n (omega (arith, few)))
    ∙ sym (flat_map-append (group_at batch losses) (range_with_len 0 n) (n ∷ []))
    ∙ ap (pass_events batch losses) (sym step)

-- the events of one ticket more
pub events_more : (batch : List Planned) (losses : List Bool) (lost : Bool) (n : ℕ) (e : Planned) → length losses ≡ n → slice_get batch n ≡ Some e
    → pass_events batch (losses ++ lost ∷ []) (range_with_len 0 (n + 1)) ≡ pass_events batch losses (range_with_len 0 n) ++ group_of e lost
events_more batch losses lost n e same at =
    ap (pass_events batch (losses ++ lost ∷ [])) (range_more n)
    ∙ flat_map-append (group_at batch (losses ++ lost ∷ [])) (range_with_len 0 n) (n ∷ [])
    ∙ ap (λ (es : List Event). es ++ (group_at batch (losses ++ lost ∷ []) n ++ [])) (same_groups batch losses (lost ∷ []) n (omega (arith, same)))
    ∙ ap (λ (o : Option Planned). pass_events batch losses (range_with_len 0 n) ++ (group_if o (get_or (losses ++ lost ∷ []) n true) ++ [])) at
    ∙ ap (λ (l : Bool). pass_events batch losses (range_with_len 0 n) ++ (group_of e l ++ [])) last
    ∙ ap (λ (es : List Event). pass_events batch losses (range_with_len 0 n) ++ es) (append-nil (group_of e lost)) where
      last : get_or (losses ++ lost ∷ []) n true ≡ lost
      last = ap (λ k. get_or (losses ++ lost ∷ []) k true) (sym same) ∙ at_end losses where
        at_end : (ls : List Bool) → get_or (ls ++ lost ∷ []) (length ls) true ≡ lost
        at_end [] = refl
        at_end (l ∷ ls) = at_end ls
