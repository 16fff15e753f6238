-- Placing the pinned pages, one after another.
use Rattle.std.proofs.Common.{◌≡◌, ◌≢◌, ℕ, zero, suc, ◌+◌, ◌-◌, ◌<◌, ◌≤◌, inl, inr, Bool, true, false, ◌&&◌, ◌==◌, cond, List, [], ◌∷◌, ◌++◌, length, map, Option, Some, None, refl, sym, ap, ◌∙◌, subst, append_assoc, arith}
use Rattle.std.specs.Prelude.{option_map, is_some, count_by, sum_by}
use Rattle.std.specs.List.{range_with_len}
use Rattle.std.proofs.lemmas.List.FromFn.{map-range_with_len_more, length-map-range_with_len}
use Rattle.std.proofs.lemmas.List.Sums.{sum_by_push}
use mathlib.Core.Path.{fun_ext}
use Rattle.vt_ppm.specs.Depths.{IsDepth}
use Rattle.vt_outside.specs.Files.{noted}
use Rattle.vt_outside.specs.Places.{times_asked, times_failed, is_read_of}
use Rattle.vt_outside.specs.declared.place.Place.{Place}
use Rattle.vt_outside.specs.declared.outside.File.{Ghosts as FileMeanings}
use Rattle.vt_pages.specs.Shape.{Shape}
use Rattle.vt_pages.specs.Pages.{IsWithinLimits, pages_of}
use Rattle.vt_tiles.specs.Format.{tile_start, tile_length}
use Rattle.vt_tiles.specs.Places.{TileAsked}
use Rattle.vt_tiles.specs.StoreViews.{StoreView}
use Rattle.vt_journal.specs.declared.changes.Change.{Change}
use Rattle.vt_journal.specs.declared.changes.Change.TheVariants.{Map}
use Rattle.vt_journal.specs.Changes.{Table, changed, newest, IsNext}
use Rattle.vt_journal.specs.JournalText.{pinned_change}
use Rattle.vt_journal.proofs.Versions.{newest-none, newest-more, mapped_after_map}
use Rattle.vt_evict.proofs.FirstLemmas.{range-more}
use Rattle.vt_walk_decisions.specs.Machines.{MachineState}
use Rattle.vt_walk_decisions.specs.Passes.{with_placed}
use Rattle.vt_walk_decisions.specs.Requests.{is_tile_at, times_planned}
use Rattle.vt_walk.specs.Reads.{AreAskedFor, AreAskedAtMostFor, OnKnown, lost_reads}
use Rattle.vt_walk.specs.Placing.{KeepsStore, with_changes, first_pinned, tile_place, with_tiles}
use Rattle.vt_walk.proofs.Asking.{count_both}
use Rattle.vt_walk.proofs.LostReads.{some_byte, same_factor}
use Rattle.vt_walk.proofs.Showing.{other_number}

-- what is known is known after it was changed
pub still_known : {X Y : Type 0} (f : X → Y) (before : Option X) (after : Option Y) → after ≡ option_map f before → is_some after ≡ is_some before
still_known f None after is = ap is_some is
still_known f (Some x) after is = ap is_some is

-- what two reads keep is kept
pub store_kept : {F : Type 0} (f : FileMeanings F) (a b c : StoreView F) → KeepsStore f a b → KeepsStore f b c → KeepsStore f a c
store_kept f a b c first then = record {
  same = record { name = then.same.name ∙ first.same.name; all_known = then.same.all_known ∙ first.same.all_known };
  bytes = then.bytes ∙ first.bytes;
  shape = then.shape ∙ first.shape;
  depth = then.depth ∙ first.depth;
  faults = let m = first.faults in let n = then.faults in omega (arith, m, n);
}

-- the first pinned pages, each in its own frame, and no other page are mapped
newest_of_first : (s : Shape) (pinned n q f : ℕ) → newest (first_pinned s pinned n) q ≡ Some f → (f < n) × (q ≡ pages_of s - pinned + f)
newest_of_first s pinned zero q f e = let both : None ≡ Some f = sym (newest-none q) ∙ e in cc
newest_of_first s pinned (suc n) q f e =
    let js = first_pinned s pinned n in
    let next : suc n ≡ n + 1 = omega arith in
    let grown : first_pinned s pinned (suc n) ≡ js ++ pinned_change s pinned n ∷ [] =
    ap (first_pinned s pinned) next ∙ map-range_with_len_more (pinned_change s pinned) 0 n n (omega arith) in
    let was : changed (newest js) (Map (pages_of s - pinned + n) n) q ≡ Some f =
    sym (ap (λ (t : Table). t q) (ap newest grown ∙ newest-more js (pinned_change s pinned n))) ∙ e in
    elim (mapped_after_map (newest js) (pages_of s - pinned + n) n q f was) [
      | inl (page, frame) ↦ (omega (arith, frame), page ∙ ap (λ k. pages_of s - pinned + k) frame)
      | inr (other, before) ↦ let rest = newest_of_first s pinned n q f before in (omega (arith, rest.0), rest.1)
    ]

first_is_next : (s : Shape) (pinned n : ℕ) → IsNext (newest (first_pinned s pinned n)) (pinned_change s pinned n)
first_is_next s pinned n = (
  unmapped (newest (first_pinned s pinned n) (pages_of s - pinned + n)) refl,
  λ q e. let was = newest_of_first s pinned n q n e in omega (arith, was.0),
)
  where
    unmapped : (o : Option ℕ) → newest (first_pinned s pinned n) (pages_of s - pinned + n) ≡ o
        → newest (first_pinned s pinned n) (pages_of s - pinned + n) ≡ None
    unmapped None e = e
    unmapped (Some f) e = let was = newest_of_first s pinned n (pages_of s - pinned + n) f e in absurd (omega (arith, was.0, was.1))

-- the next pinned page may be placed
pub next_pinned : (s : Shape) (pinned n page : ℕ) (m now : MachineState) → now ≡ with_changes (first_pinned s pinned n) m → page ≡ pages_of s - pinned + n
    → IsNext (newest now.journal) (Map page n)
next_pinned s pinned n page m now is at =
    subst (λ (state : MachineState). IsNext (newest state.journal) (Map page n)) (sym is)
    (subst (λ p. IsNext (newest (first_pinned s pinned n)) (Map p n)) (sym at) (first_is_next s pinned n))

pub early_pinned : (s : Shape) (pinned n : ℕ) (m now : MachineState) → now ≡ with_changes (first_pinned s pinned n) m → length now.journal ≡ n
early_pinned s pinned n m now is = ap (λ (state : MachineState). length state.journal) is ∙ length-map-range_with_len (pinned_change s pinned) 0 n

pub next_placed : (s : Shape) (pinned n page : ℕ) (m now new : MachineState) → now ≡ with_changes (first_pinned s pinned n) m → page ≡ pages_of s - pinned + n
    → new ≡ with_placed page n now → new ≡ with_changes (first_pinned s pinned (n + 1)) m
next_placed s pinned n page m now new is at placed =
    placed ∙ ap (with_placed page n) is
    ∙ ap (λ p. with_changes (first_pinned s pinned n ++ Map p n ∷ []) m) at
    ∙ ap (λ (js : List Change). with_changes js m) (sym (map-range_with_len_more (pinned_change s pinned) 0 n n (omega arith)))

count_map : {X Y : Type 0} (t : Y → Bool) (f : X → Y) (xs : List X) → count_by t (map f xs) ≡ count_by (λ x. t (f x)) xs
count_map t f [] = refl
count_map t f (x ∷ xs) =
    count_both t (f x ∷ []) (map f xs) ∙ ap (λ n. count_by t (f x ∷ []) + n) (count_map t f xs) ∙ sym (count_both (λ y. t (f y)) (x ∷ []) xs)

never : {X : Type 0} (xs : List X) → count_by (λ x. false) xs ≡ 0
never [] = refl
never (x ∷ xs) =
    let one : count_by (λ y. false) (x ∷ []) ≡ 0 = refl in
    omega (arith, count_both (λ y. false) (x ∷ []) xs, never xs, one)

and_false : (b : Bool) → (b && false) ≡ false
and_false true = refl
and_false false = refl

pub same_sum : (f g : ℕ → ℕ) (n : ℕ) → ((p : ℕ) → p < n → f p ≡ g p) → sum_by f (range_with_len 0 n) ≡ sum_by g (range_with_len 0 n)
same_sum f g zero same = refl
same_sum f g (suc n) same = omega (arith, last f, last g, same_sum f g n (λ p below. same p (omega (arith, below))), same (0 + n) (omega arith)) where
  last : (h : ℕ → ℕ) → sum_by h (range_with_len 0 (suc n)) ≡ sum_by h (range_with_len 0 n) + h (0 + n)
  last h = let next : suc n ≡ n + 1 = omega arith in
      ap (λ k. sum_by h (range_with_len 0 k)) next ∙ ap (λ (xs : List ℕ). sum_by h xs) (range-more 0 n) ∙ sum_by_push h (range_with_len 0 n) (0 + n)

-- no two tiles begin at one place
tile_apart : (s : Shape) (d p q : ℕ) → IsWithinLimits s → IsDepth d → p < q → tile_start s d q ≢ tile_start s d p
tile_apart s d p q limits depth below same =
    let one : q ≡ p = same_factor q p (tile_length s d) (some_byte s d limits depth) (omega (arith, same)) in
    omega (arith, below, one)

-- what reading a page's tile asks, where its store is known otherwise
pub asked_at : (s t : Shape) (d k p q : ℕ) (failed : Bool) (before after : Option (List Place)) → t ≡ s → k ≡ d → q ≡ p → TileAsked t k q failed before after
    → after ≡ option_map (noted (tile_start s d p) (tile_length s d) failed) before
asked_at s t d k p q failed before after shape depth page asked =
    asked
    ∙ ap (λ z. option_map (noted (tile_start z k q) (tile_length z k) failed) before) shape
    ∙ ap (λ n. option_map (noted (tile_start s n q) (tile_length s n) failed) before) depth
    ∙ ap (λ n. option_map (noted (tile_start s d n) (tile_length s d) failed) before) page

module _ (s : Shape) (d pinned : ℕ) where
  abbrev base : ℕ
  base = pages_of s - pinned

  -- the places of the first so many pinned pages' tiles
  abbrev tiles : ℕ → List Place
  tiles count = map (tile_place s d false) (range_with_len base count)

  asked_of : (at len : ℕ) (failed : Bool) (xs : List ℕ) → times_asked at len (map (tile_place s d failed) xs) ≡ count_by (is_tile_at s d at len) xs
  asked_of at len failed xs = count_map (is_read_of at len) (tile_place s d failed) xs

  asked_by : (at len count : ℕ) (old : List Place)
      → times_asked at len (old ++ tiles count) ≡ times_asked at len old + count_by (is_tile_at s d at len) (range_with_len base count)
  asked_by at len count old =
      count_both (is_read_of at len) old (tiles count) ∙ ap (λ n. times_asked at len old + n) (asked_of at len false (range_with_len base count))

  failed_by : (at len count : ℕ) (old : List Place) → times_failed at len (old ++ tiles count) ≡ times_failed at len old
  failed_by at len count old =
      let both = count_both (λ (place : Place). is_read_of at len place && place.failed) old (tiles count) in
      let none : times_failed at len (tiles count) ≡ 0 =
      count_map (λ (place : Place). is_read_of at len place && place.failed) (tile_place s d false) (range_with_len base count)
      ∙ ap (λ (t : ℕ → Bool). count_by t (range_with_len base count)) (fun_ext (λ p. and_false (is_tile_at s d at len p)))
      ∙ never (range_with_len base count) in
      omega (arith, both, none)

  count_more : (t : ℕ → Bool) (k : ℕ) → count_by t (range_with_len base (k + 1)) ≡ count_by t (range_with_len base k) + count_by t ((base + k) ∷ [])
  count_more t k = ap (λ (xs : List ℕ). count_by t xs) (range-more base k) ∙ count_both t (range_with_len base k) ((base + k) ∷ [])

  count_most : (t : ℕ → Bool) (k m : ℕ) → count_by t (range_with_len base k) ≤ count_by t (range_with_len base (k + m))
  count_most t k zero = let same : k + 0 ≡ k = omega arith in rw same (omega arith)
  count_most t k (suc m) =
      let next : k + suc m ≡ (k + m) + 1 = omega arith in
      let last = ap (λ n. count_by t (range_with_len base n)) next ∙ count_more t (k + m) in
      omega (arith, last, count_most t k m)

  few : (t : ℕ → Bool) (k : ℕ) → k ≤ pinned → count_by t (range_with_len base k) ≤ count_by t (range_with_len base pinned)
  few t k low =
      let whole : k + (pinned - k) ≡ pinned = omega (arith, low) in
      subst (λ n. count_by t (range_with_len base k) ≤ count_by t (range_with_len base n)) whole (count_most t k (pinned - k))

  -- the tiles of all pinned pages were read
  pub all_asked : (known now : Option (List Place)) → now ≡ with_tiles s d pinned pinned known → OnKnown (AreAskedFor s d pinned [] []) known now
  all_asked None now is = subst (λ (o : Option (List Place)). OnKnown (AreAskedFor s d pinned [] []) None o) (sym is) tt
  all_asked (Some old) now is =
      subst (λ (o : Option (List Place)). OnKnown (AreAskedFor s d pinned [] []) (Some old) o) (sym is) (record {
        asked = λ at len. let none : times_planned s d [] at len ≡ 0 = refl in omega (arith, asked_by at len pinned old, none);
        failed = λ at len. let none : times_planned s d [] at len ≡ 0 = refl in omega (arith, failed_by at len pinned old, none);
      })

  -- the tiles of some pinned pages were read, and one more asked
  pub last_asked : (count : ℕ) (failed : Bool) (known mid now : Option (List Place)) → count < pinned → mid ≡ with_tiles s d pinned count known
      → now ≡ option_map (noted (tile_start s d (base + count)) (tile_length s d) failed) mid → OnKnown (AreAskedAtMostFor s d pinned []) known now
  last_asked count failed None mid now low before is =
      subst (λ (o : Option (List Place)). OnKnown (AreAskedAtMostFor s d pinned []) None o)
      (sym (is ∙ ap (option_map (noted (tile_start s d (base + count)) (tile_length s d) failed)) before)) tt
  last_asked count failed (Some old) mid now low before is =
      subst (λ (o : Option (List Place)). OnKnown (AreAskedAtMostFor s d pinned []) (Some old) o)
      (sym (is ∙ ap (option_map (noted (tile_start s d (base + count)) (tile_length s d) failed)) before))
      (λ at len. let none : times_planned s d [] at len ≡ 0 = refl in
      let last = count_both (is_read_of at len) (old ++ tiles count) (tile_place s d failed (base + count) ∷ []) in
      let one = asked_of at len failed ((base + count) ∷ []) in
      omega (
        arith,
        last,
        one,
        asked_by at len count old,
        count_more (is_tile_at s d at len) count,
        few (is_tile_at s d at len) (count + 1) (omega
            (arith, low)),
        none,
      ))

  -- one more tile was read
  pub more_tiles : (count : ℕ) (known mid now : Option (List Place)) → mid ≡ with_tiles s d pinned count known
      → now ≡ option_map (noted (tile_start s d (base + count)) (tile_length s d) false) mid → now ≡ with_tiles s d pinned (count + 1) known
  more_tiles count known mid now before is =
      is ∙ ap (option_map (noted (tile_start s d (base + count)) (tile_length s d) false)) before ∙ joined known where
        joined : (o : Option (List Place)) → option_map (noted (tile_start s d (base + count)) (tile_length s d) false)
            (with_tiles s d pinned count o) ≡ with_tiles s d pinned (count + 1) o
        joined None = refl
        joined (Some old) = ap Some (append_assoc old (tiles count) (tile_place s d false (base + count) ∷ [])
            ∙ ap (λ (places : List Place). old ++ places) (sym (map-range_with_len_more (tile_place s d false) base count (base + count) refl)))

  -- no lost tile was read
  pub none_lost : (count : ℕ) (known now : Option (List Place)) → now ≡ with_tiles s d pinned count known
      → OnKnown (λ old new. lost_reads s d pinned new ≡ lost_reads s d pinned old) known now
  none_lost count None now is = subst (λ (o : Option (List Place)). OnKnown (λ old new. lost_reads s d pinned new ≡ lost_reads s d pinned old) None o)
      (sym is) tt
  none_lost count (Some old) now is =
      subst (λ (o : Option (List Place)). OnKnown (λ old new. lost_reads s d pinned new ≡ lost_reads s d pinned old) (Some old) o) (sym is)
      (same_sum (λ p. times_failed (tile_start s d p) (tile_length s d) (old ++ tiles count)) (λ p. times_failed (tile_start s d p) (tile_length s d) old) base
      (λ p below. failed_by (tile_start s d p) (tile_length s d) count old))

  pub last_lost : (count : ℕ) (failed : Bool) (known mid now : Option (List Place)) → IsWithinLimits s → IsDepth d → mid ≡ with_tiles s d pinned count known
      → now ≡ option_map (noted (tile_start s d (base + count)) (tile_length s d) failed) mid
      → OnKnown (λ old new. lost_reads s d pinned new ≡ lost_reads s d pinned old) known now
  last_lost count failed None mid now limits depth before is =
      subst (λ (o : Option (List Place)). OnKnown (λ old new. lost_reads s d pinned new ≡ lost_reads s d pinned old) None o)
      (sym (is ∙ ap (option_map (noted (tile_start s d (base + count)) (tile_length s d) failed)) before)) tt
  last_lost count failed (Some old) mid now limits depth before is =
      subst (λ (o : Option (List Place)). OnKnown (λ old new. lost_reads s d pinned new ≡ lost_reads s d pinned old) (Some old) o)
      (sym (is ∙ ap (option_map (noted (tile_start s d (base + count)) (tile_length s d) failed)) before))
      (same_sum (λ p. times_failed (tile_start s d p) (tile_length s d) (noted (tile_start s d (base + count)) (tile_length s d) failed (old ++ tiles count)))
      (λ p. times_failed (tile_start s d p) (tile_length s d) old) base (λ p below. same p below)) where
        other : (p : ℕ) → p < base → times_failed (tile_start s d p) (tile_length s d) (tile_place s d failed (base + count) ∷ []) ≡ 0
        other p below =
            let apart : (tile_start s d (base + count) == tile_start s d p) ≡ false =
            other_number (tile_start s d (base + count)) (tile_start s d p) (tile_apart s d p (base + count) limits depth (omega (arith, below))) in
            ap (λ (b : Bool). 0 + cond ((b && (tile_length s d == tile_length s d)) && failed) 1 0) apart

        same : (p : ℕ) → p < base → times_failed (tile_start s d p) (tile_length s d) (noted (tile_start s d (base + count)) (tile_length s d) failed
            (old ++ tiles count))
            ≡ times_failed (tile_start s d p) (tile_length s d) old
        same p below =
            let both = count_both (λ (place : Place). is_read_of (tile_start s d p) (tile_length s d) place && place.failed) (old ++ tiles count)
            (tile_place s d failed (base + count) ∷ []) in
            omega (arith, both, other p below, failed_by (tile_start s d p) (tile_length s d) count old)
