-- What lasts while the results of a batch are streamed one after another.
use Rattle.std.proofs.Common.{◌≡◌, ◌≢◌, ℕ, ◌+◌, ◌*◌, ◌<◌, ◌≤◌, inl, inr, ◌⊎◌, Bool, true, false, List, [], ◌∷◌, ◌++◌, length, set, get_or, Option, Some, None, refl, sym, ap, ◌∙◌, subst, append_assoc, length-append, arith}
use Rattle.std.specs.Prelude.{slice_get, slice_index_or, All}
use Rattle.std.proofs.lemmas.List.{append-nil, length-set, get_or-set_same, get_or-set_other}
use Rattle.std.proofs.lemmas.List.Elements.{All-push}
use Rattle.std.proofs.lemmas.Bool.{cases_lt, false≢true}
use Rattle.std.proofs.lemmas.Grind.{flat_map-append}
use Rattle.std.proofs.lemmas.Option.{get_or_from_slice_get, slice_get_within, slice_get-get_or}
use Rattle.vt_journal.specs.Shape.{Shape}
use Rattle.vt_journal.specs.declared.changes.Change.{Change}
use Rattle.vt_journal.specs.declared.changes.Event.{Event}
use Rattle.vt_journal.specs.Changes.{newest}
use Rattle.vt_journal.specs.JournalText.{changes_of}
use Rattle.vt_requests.specs.PlanTypes.batches.Planned.{Planned}
use Rattle.vt_queue.specs.declared.items.Loaded.{Loaded}
use Rattle.vt_requests.specs.Readings.{is_lost}
use Rattle.vt_requests.specs.Outcomes.{IsEntryFor, IsBatchFor, group_if}
use Rattle.vt_requests.proofs.Streaming.{entry_stays}
use Rattle.vt_requests.specs.BatchRounds.{result_group, result_events, AreLossesOf}
use Rattle.vt_requests.specs.declared.report.StreamReport.{StreamReport}
use Rattle.vt_requests.specs.BlankReports.{IsBlank}
use Rattle.vt_streaming.specs.declared.target.Target.{Ghosts as TargetMeanings}
use Rattle.vt_streaming.specs.Applied.{IsApplied, AreApplied}
use Rattle.vt_streaming.specs.Reports.{HasChanged, HasNotedResult, IsUnderWay}
use Rattle.vt_streaming.proofs.Applying.{applied_more}
use Rattle.vt_streaming.proofs.Taking.{flag_was, flag_set}

-- two entries at different places do not share a page or a frame
entries_apart : (s : Shape) (frames : ℕ) (m : ℕ → Option ℕ) (batch : List Planned) → IsBatchFor s frames m batch → (i j : ℕ) (e f : Planned) → i ≢ j
    → slice_get batch i ≡ Some e → slice_get batch j ≡ Some f → (e.page ≢ f.page) × (e.frame ≢ f.frame)
entries_apart s frames m batch lawful i j e f other at there = order (cases_lt i j) (cases_lt j i) where
  ahead : (a b : ℕ) (x y : Planned) → a < b → slice_get batch a ≡ Some x → slice_get batch b ≡ Some y → (x.page ≢ y.page) × (x.frame ≢ y.frame)
  ahead a b x y low is_x is_y = subst (λ (z : Planned × Planned). (z.0.page ≢ z.1.page) × (z.0.frame ≢ z.1.frame))
      (λ i. (get_or_from_slice_get batch a x x is_x i, get_or_from_slice_get batch b y x is_y i))
      (lawful.apart a b x low (slice_get_within batch b y is_y))

  order : (i < j) ⊎ (j ≤ i) → (j < i) ⊎ (i ≤ j) → (e.page ≢ f.page) × (e.frame ≢ f.frame)
  order (inl low) any = ahead i j e f low at there
  order (inr least) (inl high) = let h = ahead j i f e high there at in (λ p. h.0 (sym p), λ p. h.1 (sym p))
  order (inr least) (inr most) = absurd (other (omega (arith, least, most)))

module _ {A W : Type 0} (target : TargetMeanings A W) (a : A) (batch : List Planned) (start : W)
    (lawful : IsBatchFor (target.shape start) (target.frame_count start) (newest (target.journal start)) batch) where
  pub begun : (r : StreamReport) → IsBlank (length batch) r → target.has_room start (2 * length batch)
      → IsUnderWay target a batch start start r.events.elements r
  begun r blank room = subst (λ (results : List Loaded). IsUnderWay target a batch start start r.events.elements
      (record r { results = record r.results { elements = results } }))
      (sym blank.no_results) (record {
        applied = refl;
        events = sym (append-nil r.events.elements);
        ahead = λ k e is free. subst (IsEntryFor (target.shape start) (target.frame_count start) (newest (target.journal start)))
            (get_or_from_slice_get batch k e e is) (lawful.each k e (slice_get_within batch k e is));
        room = (let s = blank.events_room in omega (arith, s));
        left = λ n all. subst (λ (m : ℕ). target.has_room start (2 * m)) (omega (arith, all)) room;
      })

  pub under_way : (v w : W) (before : List Event) (r q : StreamReport) (x : Loaded) → IsUnderWay target a batch start v before r
      → get_or r.taken.elements x.request.ticket false ≡ false → x.request.ticket < length batch → length r.taken.elements ≡ length batch
      → HasChanged target (result_group batch x) v w → IsApplied (target.has_put a) batch x v w
      → q.events.elements ≡ r.events.elements ++ result_group batch x → HasNotedResult x r q → IsUnderWay target a batch start w before q
  under_way v w before r q x h new inside flags changed applied noted kept =
      let t : ℕ = x.request.ticket in
      let e : Planned = get_or batch t (record { page = 0; frame = 0; victim = None }) in
      let at : slice_get batch t ≡ Some e = slice_get-get_or batch t (record { page = 0; frame = 0; victim = None }) inside in
      let lost : Bool = is_lost x.outcome in
      let entry = h.ahead t e at new in
      let results : List Loaded = r.results.elements in
      let events : result_events batch (results ++ x ∷ []) ≡ result_events batch results ++ result_group batch x =
      flat_map-append (result_group batch) results (x ∷ []) ∙ ap (λ (l : List Event). result_events batch results ++ l) (append-nil (result_group batch x)) in
      let longer = ap length kept.results ∙ length-append results (x ∷ []) in
      record {
        applied = subst (λ (l : List Loaded). AreApplied (target.has_put a) batch l start w) (sym kept.results)
            (applied_more (target.has_put a) batch results x start v w h.applied applied);
        events = noted ∙ ap (λ (l : List Event). l ++ result_group batch x) h.events
            ∙ append_assoc before (result_events batch results) (result_group batch x)
            ∙ ap (λ (l : List Event). before ++ l) (sym events) ∙ ap (λ (l : List Loaded). before ++ result_events batch l) (sym kept.results);
        ahead = λ k f is free.
            let still : get_or (set r.taken.elements t true) k false ≡ false = ap (λ (l : List Bool). get_or l k false) (sym kept.taken) ∙ free in
            let other : t ≢ k = λ same. false≢true (sym still ∙ ap (λ (n : ℕ). get_or (set r.taken.elements t true) n false) (sym same)
            ∙ flag_set r.taken.elements t (omega (arith, inside, flags))) in
            let was : get_or r.taken.elements k false ≡ false = flag_was r.taken.elements t k still in
            subst (λ (js : List Change). IsEntryFor (target.shape start) (target.frame_count start) (newest js) f)
            (ap (λ (o : List Event). target.journal v ++ changes_of o) (ap (λ o. group_if o lost) (sym at)) ∙ sym changed.journal)
            (entry_stays (target.shape start) (target.frame_count start) (target.journal v) e f lost entry (h.ahead k f is was)
            (entries_apart (target.shape start) (target.frame_count start) (newest (target.journal start)) batch lawful t k e f other at is));
        room = let a = h.room in let b = kept.events_room in omega (arith, a, b, longer);
        left = λ n all. changed.room (2 * n) (subst (target.has_room v) (omega arith) (h.left (n + 1) (omega (arith, all, longer))));
      }

-- the losses that were told, after one more
pub losses_more : (batch : List Planned) (results : List Loaded) (losses taken : List Bool) (x : Loaded) → AreLossesOf batch results losses
    → All (λ y. slice_index_or taken y.request.ticket false ≡ true) results → get_or taken x.request.ticket false ≡ false
    → x.request.ticket < length batch → AreLossesOf batch (results ++ x ∷ []) (set losses x.request.ticket (is_lost x.outcome))
losses_more batch results losses taken x h marked new inside = let t = x.request.ticket in let lost = is_lost x.outcome in let reported = h.reported in record {
  reported = length-set losses t lost ∙ h.reported;
  each = All-push (λ (y : Loaded). get_or (set losses t lost) y.request.ticket true ≡ is_lost y.outcome) results x
      (λ k d low. get_or-set_other losses t (get_or results k d).request.ticket lost true
      (λ same. false≢true (sym new ∙ ap (λ (n : ℕ). get_or taken n false) (sym same) ∙ marked k d low)) ∙ h.each k d low)
      (get_or-set_same losses t lost true (omega (arith, reported, inside)));
}
