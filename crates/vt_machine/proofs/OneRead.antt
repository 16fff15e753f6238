-- One more read of a batch.
use Rattle.std.proofs.Common.{◌≡◌, ℕ, zero, suc, ◌+◌, ◌<◌, ◌≤◌, inl, inr, ⊎_elim, Bool, true, false, cond, not, ◌==◌, ◌&&◌, ◌||◌, List, [], ◌∷◌, ◌++◌, length, map, take, get_or, Option, Some, None, refl, sym, ap, ◌∙◌, subst, arith}
use Rattle.std.specs.Prelude.{slice_set, is_some, unwrap_or, option_map, sum_by, sum, nat_le, IsSome}
use Rattle.std.specs.List.{list_any}
use Rattle.std.proofs.lemmas.Bool.{false≢true, cases_lt}
use Rattle.std.proofs.lemmas.Bool.Decides.{nat_tests}
use Rattle.std.proofs.lemmas.List.{map-set, take_more, length-set, length-map, map-append, length-take-le, get_or-set_same, get_or-map}
use Rattle.std.proofs.lemmas.List.Folds.{list_any_at}
use Rattle.std.proofs.lemmas.List.Sums.{sum_by-append, sum_by_push, sum_by-set}
use Rattle.vt_outside.specs.declared.place.Place.{Place}
use Rattle.vt_outside.specs.Places.{times_asked, times_failed, is_read_of}
use Rattle.vt_outside.specs.Files.{noted}
use Rattle.vt_outside.specs.Counts.{Rose, RoseTogetherBy, count_end}
use Rattle.vt_pages.specs.Shape.{Shape}
use Rattle.vt_tiles.specs.Format.{tile_start, tile_length}
use Rattle.vt_evict.specs.PlanTypes.batches.Planned.{Planned}
use Rattle.vt_evict.specs.Batches.{read_entries}
use Rattle.vt_machine.specs.Outcomes.{lost_count}
use Rattle.vt_machine.specs.Requests.{FileState, AllKnown, is_tile_at, times_planned, lost_entries, counts_of, AreReadFor}

-- a place of a list that a map does not see change
map-kept : {X Y : Type 0} (f : X → Y) (xs : List X) (k : ℕ) (y d : X) → f y ≡ f (get_or xs k d) → map f (slice_set xs k y) ≡ map f xs
map-kept f [] k y d e = refl
map-kept f (x ∷ xs) zero y d e = λ i. e i ∷ map f xs
map-kept f (x ∷ xs) (suc k) y d e = ap (λ l. f x ∷ l) (map-kept f xs k y d e)

known_stays : (o : Option (List Place)) (g : List Place → List Place) → is_some (option_map g o) ≡ is_some o
known_stays None g = refl
known_stays (Some places) g = refl

-- the entries of which each was chosen by a list of the same length, with one more
chosen_more : (batch : List Planned) (chosen : List Bool) (e : Planned) (c : Bool) → length chosen ≡ length batch
    → read_entries (batch ++ e ∷ []) (chosen ++ c ∷ []) ≡ read_entries batch chosen ++ read_entries (e ∷ []) (c ∷ [])
chosen_more [] [] e c same = refl
chosen_more [] (b ∷ chosen) e c same = absurd (omega arith)
chosen_more (x ∷ batch) [] e c same = absurd (omega arith)
chosen_more (x ∷ batch) (true ∷ chosen) e c same = chosen_more batch chosen e c (omega arith)
chosen_more (x ∷ batch) (false ∷ chosen) e c same = ap (λ l. x ∷ l) (chosen_more batch chosen e c (omega arith))

known_at : (before files : List FileState) → AllKnown before → map (λ f. is_some f.asked) files ≡ map (λ f. is_some f.asked) before
    → (k : ℕ) (d : FileState) → k < length files → IsSome (get_or files k d).asked
known_at before files all same k d inside =
    let long : length files ≡ length before = sym (length-map files (λ (f : FileState). is_some f.asked)) ∙ ap length same
    ∙ length-map before (λ (f : FileState). is_some f.asked) in
    sym (get_or-map (λ (f : FileState). is_some f.asked) files k d true inside) ∙ ap (λ l. get_or l k true) same
    ∙ get_or-map (λ (f : FileState). is_some f.asked) before k d true (omega (arith, long, inside)) ∙ all k d (omega (arith, long, inside))

-- how often a read that was noted is one of a place
asked_more : (at len start size : ℕ) (lost : Bool) (o : Option (List Place)) → IsSome o
    → times_asked at len (unwrap_or (option_map (noted start size lost) o) [])
    ≡ times_asked at len (unwrap_or o []) + cond (start == at && size == len) 1 0
asked_more at len start size lost None some = absurd (false≢true some)
asked_more at len start size lost (Some places) some = sum_by_push (λ (p : Place). cond (is_read_of at len p) 1 0) places
    (record { at = start; len = size; failed = lost })

failed_more : (at len start size : ℕ) (lost : Bool) (o : Option (List Place)) → IsSome o
    → times_failed at len (unwrap_or (option_map (noted start size lost) o) [])
    ≡ times_failed at len (unwrap_or o []) + cond ((start == at && size == len) && lost) 1 0
failed_more at len start size lost None some = absurd (false≢true some)
failed_more at len start size lost (Some places) some =
    sum_by_push (λ (p : Place). cond (is_read_of at len p && p.failed) 1 0) places (record { at = start; len = size; failed = lost })

-- the sums of files of which one was read once more
sum_more : (t : FileState → ℕ) (files : List FileState) (k c : ℕ) (now d : FileState) → k < length files → t now ≡ t (get_or files k d) + c
    → sum_by t (slice_set files k now) ≡ sum_by t files + c
sum_more t files k c now d inside e = let s = sum_by-set t files k now d inside in omega (arith, s, e)

planned_more : (s : Shape) (d : ℕ) (batch : List Planned) (e : Planned) (at len : ℕ)
    → times_planned s d (batch ++ e ∷ []) at len ≡ times_planned s d batch at len + cond (is_tile_at s d at len e.page) 1 0
planned_more s d batch e at len = sum_by_push (λ (x : Planned). cond (is_tile_at s d at len x.page) 1 0) batch e

one_lost : (s : Shape) (d : ℕ) (e : Planned) (lost : Bool) (at len : ℕ) → (b : Bool) → is_tile_at s d at len e.page ≡ b
    → times_planned s d (read_entries (e ∷ []) (not lost ∷ [])) at len ≡ cond (b && lost) 1 0
one_lost s d e true at len true is = ap (λ (b : Bool). 0 + cond b 1 0) is
one_lost s d e true at len false is = ap (λ (b : Bool). 0 + cond b 1 0) is
one_lost s d e false at len true is = refl
one_lost s d e false at len false is = refl

lost_more : (s : Shape) (d : ℕ) (batch : List Planned) (losses : List Bool) (e : Planned) (lost : Bool) (at len : ℕ) → length losses ≡ length batch
    → times_planned s d (lost_entries (batch ++ e ∷ []) (losses ++ lost ∷ [])) at len
    ≡ times_planned s d (lost_entries batch losses) at len + cond (is_tile_at s d at len e.page && lost) 1 0
lost_more s d batch losses e lost at len same =
    ap (λ (chosen : List Bool). times_planned s d (read_entries (batch ++ e ∷ []) chosen) at len) (map-append not losses (lost ∷ []))
    ∙ ap (λ (es : List Planned). times_planned s d es at len) (chosen_more batch (map not losses) e (not lost) (length-map losses not ∙ same))
    ∙ sum_by-append (λ (x : Planned). cond (is_tile_at s d at len x.page) 1 0) (read_entries batch (map not losses)) (read_entries (e ∷ []) (not lost ∷ []))
    ∙ ap (λ (n : ℕ). times_planned s d (read_entries batch (map not losses)) at len + n) (one_lost s d e lost at len (is_tile_at s d at len e.page) refl)

any_kept : (counts : List ℕ) (k now d : ℕ) → get_or counts k d ≤ now → list_any (nat_le count_end) counts ≡ true
    → list_any (nat_le count_end) (slice_set counts k now) ≡ true
any_kept [] k now d grows any = any
any_kept (x ∷ counts) zero now d grows any = pick (nat_le count_end x) refl any where
  pick : (b : Bool) → nat_le count_end x ≡ b → (b || list_any (nat_le count_end) counts) ≡ true
      → (nat_le count_end now || list_any (nat_le count_end) counts) ≡ true
  pick true is any = let e : nat_le count_end now ≡ true = grind (arith, nat_tests, is, grows) in ap (λ (b : Bool). b || list_any (nat_le count_end) counts) e
  pick false is any = either (nat_le count_end now) any where
    either : (b : Bool) → list_any (nat_le count_end) counts ≡ true → (b || list_any (nat_le count_end) counts) ≡ true
    either true h = refl
    either false h = h
any_kept (x ∷ counts) (suc k) now d grows any = pick (nat_le count_end x) any (any_kept counts k now d grows) where
  pick : (b : Bool) → (b || list_any (nat_le count_end) counts) ≡ true
      → (list_any (nat_le count_end) counts ≡ true → list_any (nat_le count_end) (slice_set counts k now) ≡ true)
      → (b || list_any (nat_le count_end) (slice_set counts k now)) ≡ true
  pick true any more = refl
  pick false any more = more any

-- counts that rose together, of which one rose once more
rose_more : (n : ℕ) (lost : Bool) (before counts : List ℕ) (k now : ℕ) → k < length counts → get_or counts k now ≤ now
    → (lost ≡ true → Rose (get_or counts k now) now) → RoseTogetherBy n before counts → RoseTogetherBy (n + cond lost 1 0) before (slice_set counts k now)
rose_more n lost before counts k now inside grows rose (inr any) = inr (any_kept counts k now now grows any)
rose_more n lost before counts k now inside grows rose (inl h) = by_loss lost rose where
  sums : sum (slice_set counts k now) + get_or counts k now ≡ sum counts + now
  sums = sum_by-set (λ (x : ℕ). x) counts k now now inside

  by_loss : (l : Bool) → (l ≡ true → Rose (get_or counts k now) now) → RoseTogetherBy (n + cond l 1 0) before (slice_set counts k now)
  by_loss false r = inl (omega (arith, sums, h, grows))
  by_loss true r = ⊎_elim
      (λ (high : count_end < get_or counts k now + 1).
      let end : count_end ≤ now = (let m = r refl in omega (arith, m, high)) in
      inr (list_any_at (nat_le count_end) (slice_set counts k now) k now (let e = length-set counts k now in omega (arith, e, inside))
      (ap (nat_le count_end) (get_or-set_same counts k now now inside) ∙ (let e : nat_le count_end now ≡ true = grind (arith, nat_tests, end) in e))))
      (λ (low : get_or counts k now + 1 ≤ count_end).
      let up : get_or counts k now + 1 ≤ now = (let m = r refl in omega (arith, m, low)) in
      inl (omega (arith, sums, h, up)))
      (cases_lt count_end (get_or counts k now + 1))

pub read_more : (s : Shape) (d n : ℕ) (batch : List Planned) (losses : List Bool) (lost : Bool) (before files : List FileState) (k : ℕ)
    (now : FileState) (e : Planned)
    → AreReadFor s d (take n batch) losses before files → k < length files → n < length batch → get_or batch n e ≡ e → length losses ≡ n
    → now.name ≡ (get_or files k now).name
    → now.asked ≡ option_map (noted (tile_start s d e.page) (tile_length s d) lost) (get_or files k now).asked
    → (get_or files k now).faults ≤ now.faults → (lost ≡ true → Rose (get_or files k now).faults now.faults)
    → AreReadFor s d (take (n + 1) batch) (losses ++ lost ∷ []) before (slice_set files k now)
read_more s d n batch losses lost before files k now e read inside below at same name asked grows rose =
    let more : take (n + 1) batch ≡ take n batch ++ e ∷ [] = take_more batch n e below ∙ ap (λ (x : Planned). take n batch ++ x ∷ []) at in
    let known_too = map-kept (λ (f : FileState). is_some f.asked) files k now now (ap is_some asked
    ∙ known_stays (get_or files k now).asked (noted (tile_start s d e.page) (tile_length s d) lost)) in
    let long : length losses ≡ length (take n batch) = same ∙ sym (length-take-le n batch (omega (arith, below))) in
    subst (λ (b : List Planned). AreReadFor s d b (losses ++ lost ∷ []) before (slice_set files k now)) (sym more) (record {
      same = record {
        names = map-kept (λ (f : FileState). f.name) files k now now name ∙ read.same.names;
        all_known = known_too ∙ read.same.all_known;
      };
      once = λ all. let some : IsSome (get_or files k now).asked = known_at before files all read.same.all_known k now inside in
          let once = read.once all in
          record {
            asked = λ at len. sum_more (λ (f : FileState). times_asked at len (unwrap_or f.asked [])) files k
                (cond (is_tile_at s d at len e.page) 1 0) now now inside
                (ap (λ (o : Option (List Place)). times_asked at len (unwrap_or o [])) asked
                ∙ asked_more at len (tile_start s d e.page) (tile_length s d) lost (get_or files k now).asked some)
                ∙ (let a = once.asked at len in let b = planned_more s d (take n batch) e at len in omega (arith, a, b));
            failed = λ at len. sum_more (λ (f : FileState). times_failed at len (unwrap_or f.asked [])) files k
                (cond (is_tile_at s d at len e.page && lost) 1 0) now now inside
                (ap (λ (o : Option (List Place)). times_failed at len (unwrap_or o [])) asked
                ∙ failed_more at len (tile_start s d e.page) (tile_length s d) lost (get_or files k now).asked some)
                ∙ (let a = once.failed at len in let b = lost_more s d (take n batch) losses e lost at len long in omega (arith, a, b));
          };
      faults = subst (λ (m : ℕ). RoseTogetherBy m (counts_of before) (counts_of (slice_set files k now)))
          (sym (sum_by_push (λ (l : Bool). cond l 1 0) losses lost))
          (subst (RoseTogetherBy (lost_count losses + cond lost 1 0) (counts_of before)) (sym (map-set (λ (f : FileState). f.faults) files k now))
          (rose_more (lost_count losses) lost (counts_of before) (counts_of files) k now.faults
          (let e = length-map files (λ (f : FileState). f.faults) in omega (arith, e, inside))
          (let c = count_at in omega (arith, c, grows)) (λ l. subst (λ (m : ℕ). Rose m now.faults) (sym count_at) (rose l)) read.faults));
    }) where
      count_at : get_or (counts_of files) k now.faults ≡ (get_or files k now).faults
      count_at = get_or-map (λ (f : FileState). f.faults) files k now now.faults inside
