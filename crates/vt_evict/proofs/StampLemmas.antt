-- The order of a table after a pass is by falling stamps.
use Rattle.std.proofs.Common.{◌≡◌, ℕ, ◌+◌, ◌-◌, ◌<◌, ◌≤◌, ◌⊎◌, inl, inr, Bool, true, false, not, ◌&&◌, Some, None, IsSome, List, ◌++◌, length, get_or, slice_index, refl, sym, ap, ◌∙◌, subst, arith}
use Rattle.std.specs.List.{All, AllPairs, filter, list_any}
use Rattle.std.proofs.lemmas.Bool.{false≢true, cases_lt}
use Rattle.std.proofs.lemmas.List.{length-map}
use Rattle.std.proofs.lemmas.List.Elements.{All-append, All-filter, All-map, All-weaker, filter_passes}
use Rattle.std.proofs.lemmas.List.Folds.{list_any_at}
use Rattle.std.proofs.lemmas.List.Kept.{AllPairs-filter}
use Rattle.std.proofs.lemmas.List.Sums.{passes_at_first}
use Rattle.vt_plan.specs.Shape.{Shape}
use Rattle.vt_plan.specs.Pages.{level_of, ancestors_of, pages_of, IsWithinLimits}
use Rattle.vt_plan.specs.Wants.{pages_wanted}
use Rattle.vt_plan.specs.Orders.{line_pages, put_first}
use Rattle.vt_plan.specs.PageLists.{is_in}
use Rattle.vt_plan.specs.Views.{RecencyView, IsRecencyTable, is_loose, touched, touched_pages}
use Rattle.vt_evict.specs.Batches.{IsLawfulBatch, IsSettledByReads, is_victim, read_entries, settled_order}
use Rattle.vt_evict.specs.Stamps.{Stamp, is_less, Stamps, StampedPass, stamp_at, IsReadAt, IsByEntry, IsByWant, IsOwnStamp, IsGreatest, AreAfter, AreBefore, IsAbove, IsByStamps}
use Rattle.vt_plan.proofs.ListLemmas.{is_in-filter}
use Rattle.vt_evict.proofs.SettleLemmas.{order_facts}
use Rattle.vt_evict.proofs.PairLemmas.{pairs_append, all_in, not_true, first_inside, first_before}
use Rattle.vt_evict.proofs.LineOrders.{first_of, IsEarlier, in_lines, lines_ordered}
use Rattle.vt_evict.proofs.StampOrder.{less_pass, less_place, less_level, pass_is, place_is, some_of, value_of}
use Rattle.vt_evict.proofs.ReadPlaces.{IsReadBefore, pages_read, reads_ordered, HasPlace, reads_at}

-- the pages that a pass touches
abbrev pub pages_touched : StampedPass → List ℕ
pages_touched x = touched_pages x.after x.wants

-- the place of the first wanted page whose line has a page
abbrev pub first_place : StampedPass → ℕ → ℕ
first_place x p = first_of x.after.shape (pages_wanted x.wants) p

-- the stamp of a page by the entry at a place, and by the wanted page at a place
abbrev pub by_entry : StampedPass → ℕ → ℕ → Stamp
by_entry x p j = stamp_at x p (length x.batch - 1 - j)

abbrev pub by_want : StampedPass → ℕ → ℕ → Stamp
by_want x p i = stamp_at x p (length x.batch + length x.wants - 1 - i)

-- whether a page is no victim, and whether it is not touched
abbrev is_left : StampedPass → ℕ → Bool
is_left x p = not (is_victim (read_entries x.batch x.lost) p)

abbrev is_behind : StampedPass → ℕ → Bool
is_behind x p = not (is_in (pages_touched x) p)

-- a page that was not read
abbrev IsUnread : StampedPass → ℕ → Type 0
IsUnread x p = (j : ℕ) → IsReadAt x.batch x.lost j p → ⊥

pub and_parts : (b c : Bool) → (b && c) ≡ true → (b ≡ true) × (c ≡ true)
and_parts true true h = (refl, refl)
and_parts true false h = absurd (false≢true h)
and_parts false c h = absurd (false≢true h)

-- the stamp of a page after a pass is its greatest
at_page : (old new : Stamps) (x : StampedPass) (p : ℕ) (a : Stamp) → AreAfter old x new → new p ≡ Some a → IsGreatest (IsOwnStamp old x p) (Some a)
at_page old new x p a h e = subst (IsGreatest (IsOwnStamp old x p)) e (h p)

-- the stamps after a pass are of that pass or of earlier ones
pub still_before : (old new : Stamps) (x : StampedPass) → AreAfter old x new → AreBefore old x.number → AreBefore new (x.number + 1)
still_before old new x h before p a e = cases (at_page old new x p a h e).0 where
  cases : IsOwnStamp old x p a → a.pass < x.number + 1
  cases (inl had) = let b = before p a had in omega (arith, b)
  cases (inr (inl entry)) = let q : a.pass ≡ x.number = pass_is entry.stamp in omega arith
  cases (inr (inr want)) = let q : a.pass ≡ x.number = pass_is want.stamp in omega arith

-- a page that a wanted list stamps is touched
want_touched : (x : StampedPass) (p : ℕ) (t : Stamp) → IsByWant x p t → is_in (pages_touched x) p ≡ true
unfolding touched_pages
want_touched x p t w =
    is_in-filter (is_loose x.after) (line_pages x.after.shape (pages_wanted x.wants)) p
    ∙ rw (
      in_lines x.after.shape (pages_wanted x.wants) p,
      list_any_at (λ q. is_in (ancestors_of x.after.shape q) p) (pages_wanted x.wants) w.at 0 w.in_line.inside w.in_line.in_line,
      w.loose,
    ) refl

-- a touched page is loose, and the first wanted page whose line has it is in the list
record IsTouched (x : StampedPass) (p : ℕ) : Type 0 where
  loose : is_loose x.after p ≡ true
  inside : first_place x p < length (pages_wanted x.wants)
  below : first_place x p < length x.wants

touched_facts : (x : StampedPass) (p : ℕ) → is_in (pages_touched x) p ≡ true → IsTouched x p
unfolding touched_pages
touched_facts x p e =
    let both = and_parts (is_in (line_pages x.after.shape (pages_wanted x.wants)) p) (is_loose x.after p)
    (sym (is_in-filter (is_loose x.after) (line_pages x.after.shape (pages_wanted x.wants)) p) ∙ e) in
    let some : list_any (λ q. is_in (ancestors_of x.after.shape q) p) (pages_wanted x.wants) ≡ true =
    sym (in_lines x.after.shape (pages_wanted x.wants) p) ∙ both.0 in
    let inside = first_inside (λ q. is_in (ancestors_of x.after.shape q) p) (pages_wanted x.wants) some in
    record { loose = both.1; inside = inside; below = subst (λ (n : ℕ). first_place x p < n) (length-map x.wants (λ w. w.page)) inside }

-- a touched page gets the stamp of the first wanted page whose line has it
touched_want : (x : StampedPass) (p : ℕ) → is_in (pages_touched x) p ≡ true
    → IsByWant x p (by_want x p (first_place x p))
touched_want x p e =
    let facts = touched_facts x p e in
    record {
      at = first_place x p;
      in_line = record { inside = facts.inside; in_line = passes_at_first (λ q. is_in (ancestors_of x.after.shape q) p) (pages_wanted x.wants) 0 facts.inside };
      loose = facts.loose;
      stamp = refl;
    }

-- what a pass begins with, and the stamps after it
pub record IsGiven (v : RecencyView) (old new : Stamps) (x : StampedPass) : Type 0 where
  pub table : IsRecencyTable v
  pub order : IsByStamps old v.order
  pub before : AreBefore old x.number
  pub lawful : IsLawfulBatch v x.batch
  pub settled : IsSettledByReads v (read_entries x.batch x.lost) x.after
  pub inside : All (λ w. w.page < pages_of v.shape) x.wants
  pub after : AreAfter old x new

-- the stamp of a touched page
touched_stamp : (v : RecencyView) (old new : Stamps) (x : StampedPass) (p : ℕ) (a : Stamp) → IsGiven v old new x → is_in (pages_touched x) p ≡ true → new p ≡ Some a
    → a ≡ by_want x p (first_place x p)
touched_stamp v old new x p a g there e = cases greatest.0 where
  first : ℕ
  first = first_place x p

  want : IsByWant x p (by_want x p first)
  want = touched_want x p there

  greatest : IsGreatest (IsOwnStamp old x p) (Some a)
  greatest = at_page old new x p a g.after e

  not_less : is_less a (by_want x p first) ≡ true → ⊥
  not_less h = false≢true (sym (greatest.1 (by_want x p first) (inr (inr want))) ∙ h)

  wanted : length (pages_wanted x.wants) ≡ length x.wants
  wanted = length-map x.wants (λ w. w.page)

  first_below : first < length x.wants
  first_below = (touched_facts x p there).below

  cases : IsOwnStamp old x p a → a ≡ by_want x p first
  cases (inl had) = absurd (not_less (less_pass a (by_want x p first) (g.before p a had)))
  cases (inr (inl entry)) =
      let place : a.place ≡ length x.batch - 1 - entry.at = place_is entry.stamp in
      absurd (not_less (less_place a (by_want x p first) (pass_is entry.stamp) (omega (arith, entry.read.inside, first_below))))
  cases (inr (inr other)) = among (cases_lt first other.at) where
    place : a.place ≡ length x.batch + length x.wants - 1 - other.at
    place = place_is other.stamp

    least : first ≤ other.at
    least = first_before (λ q. is_in (ancestors_of x.after.shape q) p) (pages_wanted x.wants) other.at 0 other.in_line.in_line

    among : (first < other.at) ⊎ (other.at ≤ first) → a ≡ by_want x p first
    among (inl less) = absurd (not_less (less_place a (by_want x p first) (pass_is other.stamp) (omega (arith, other.in_line.inside, wanted, place))))
    among (inr same) = let at : other.at ≡ first = omega (arith, least) in other.stamp ∙ ap (λ (i : ℕ). by_want x p i) at

-- an own stamp of a page that is not touched is old, or by an entry
own_untouched : (old : Stamps) (x : StampedPass) (p : ℕ) (a : Stamp) → is_in (pages_touched x) p ≡ false → IsOwnStamp old x p a → (old p ≡ Some a) ⊎ IsByEntry x p a
own_untouched old x p a not_in (inl had) = inl had
own_untouched old x p a not_in (inr (inl entry)) = inr entry
own_untouched old x p a not_in (inr (inr want)) = absurd (false≢true (sym not_in ∙ want_touched x p a want))

-- the stamp of a page that was read and is not touched
read_stamp : (v : RecencyView) (old new : Stamps) (x : StampedPass) (p j : ℕ) (a : Stamp) → IsGiven v old new x → is_in (pages_touched x) p ≡ false
    → IsReadAt x.batch x.lost j p → new p ≡ Some a → IsByEntry x p a
read_stamp v old new x p j a g not_in read e = cases (own_untouched old x p a not_in greatest.0) where
  greatest : IsGreatest (IsOwnStamp old x p) (Some a)
  greatest = at_page old new x p a g.after e

  given : IsByEntry x p (by_entry x p j)
  given = record { at = j; read = read; stamp = refl }

  cases : (old p ≡ Some a) ⊎ IsByEntry x p a → IsByEntry x p a
  cases (inl had) =
      absurd (false≢true (sym (greatest.1 (by_entry x p j) (inr (inl given))) ∙ less_pass a (by_entry x p j) (g.before p a had)))
  cases (inr entry) = entry

-- no entry has a page of the order before
not_read : (v : RecencyView) (old new : Stamps) (x : StampedPass) → IsGiven v old new x → All (IsUnread x) v.order
not_read v old new x g = λ k d inside j read.
    let entry = g.lawful.each j (record { page = 0; frame = 0; victim = None }) read.inside in
    let held = (order_facts v k d g.table inside).mapped in
    let same = read.page (record { page = 0; frame = 0; victim = None }) in
    let unmapped : slice_index v.entries (get_or v.order k d) ≡ 0 = ap (slice_index v.entries) (sym same) ∙ entry.unmapped in
    omega (arith, held, unmapped)

-- the stamp of a page that is neither read nor touched
old_stamp : (v : RecencyView) (old new : Stamps) (x : StampedPass) (p : ℕ) (a : Stamp) → IsGiven v old new x → is_in (pages_touched x) p ≡ false
    → IsUnread x p → new p ≡ Some a → old p ≡ Some a
old_stamp v old new x p a g not_in unread e = cases (own_untouched old x p a not_in (at_page old new x p a g.after e).0) where
  cases : (old p ≡ Some a) ⊎ IsByEntry x p a → old p ≡ Some a
  cases (inl had) = had
  cases (inr entry) = absurd (unread entry.at entry.read)

touched_ordered : (x : StampedPass) → IsWithinLimits x.after.shape → All (λ p. p < pages_of x.after.shape) (pages_wanted x.wants)
    → AllPairs (IsEarlier x.after.shape (first_place x)) (pages_touched x)
unfolding touched_pages
touched_ordered x limits chain =
    AllPairs-filter (IsEarlier x.after.shape (first_place x)) (is_loose x.after)
    (line_pages x.after.shape (pages_wanted x.wants)) (lines_ordered x.after.shape (pages_wanted x.wants) limits chain)

touched_by_stamps : (v : RecencyView) (old new : Stamps) (x : StampedPass) → IsGiven v old new x → AllPairs (IsAbove new) (pages_touched x)
touched_by_stamps v old new x g = λ i j d lt within a b ea eb.
    above (get_or (pages_touched x) i d) (get_or (pages_touched x) j d) a b
    (all_in (pages_touched x) i d (omega arith)) (all_in (pages_touched x) j d within) (earlier i j d lt within) ea eb where
      limits : IsWithinLimits x.after.shape
      limits = subst IsWithinLimits (sym g.settled.shape) g.table.limits

      chain : All (λ p. p < pages_of x.after.shape) (pages_wanted x.wants)
      chain = subst (λ (s : Shape). All (λ p. p < pages_of s) (pages_wanted x.wants)) (sym g.settled.shape)
          (All-map (λ p. p < pages_of v.shape) (λ w. w.page) x.wants g.inside)

      earlier : AllPairs (IsEarlier x.after.shape (first_place x)) (pages_touched x)
      earlier = touched_ordered x limits chain

      above : (p q : ℕ) (a b : Stamp) → is_in (pages_touched x) p ≡ true → is_in (pages_touched x) q ≡ true
          → IsEarlier x.after.shape (first_place x) p q → new p ≡ Some a → new q ≡ Some b → is_less b a ≡ true
      above p q a b hp hq order ea eb =
          rw (touched_stamp v old new x p a g hp ea, touched_stamp v old new x q b g hq eb)
          (by_order (first_place x p) (first_place x q) (touched_facts x q hq).below order) where
            by_order : (f h : ℕ) → h < length x.wants → (f < h) ⊎ ((f ≡ h) × (level_of x.after.shape q < level_of x.after.shape p))
                → is_less (by_want x q h) (by_want x p f) ≡ true
            by_order f h inside (inl less) = less_place (by_want x q h) (by_want x p f) refl (omega arith)
            by_order f h inside (inr same) =
                less_level (by_want x q h) (by_want x p f) refl
                (ap (λ (i : ℕ). length x.batch + length x.wants - 1 - i) (sym same.0)) same.1

-- a page has a greater stamp than another, where neither is touched
abbrev IsAboveUntouched : StampedPass → Stamps → ℕ → ℕ → Type 0
IsAboveUntouched x new p q = is_in (pages_touched x) p ≡ false → is_in (pages_touched x) q ≡ false → IsAbove new p q

read_above_read : (v : RecencyView) (old new : Stamps) (x : StampedPass) (p q : ℕ) → IsGiven v old new x → IsReadBefore x.batch x.lost p q
    → HasPlace x.batch x.lost p → HasPlace x.batch x.lost q → IsAboveUntouched x new p q
read_above_read v old new x p q g before hp hq np nq a b ea eb =
    let one = read_stamp v old new x p hp.0 a g np hp.1 ea in
    let two = read_stamp v old new x q hq.0 b g nq hq.1 eb in
    let less : one.at < two.at = before one.at two.at one.read two.read in
    let pa : a.place ≡ length x.batch - 1 - one.at = place_is one.stamp in
    let pb : b.place ≡ length x.batch - 1 - two.at = place_is two.stamp in
    less_place b a (pass_is two.stamp ∙ sym (pass_is one.stamp)) (omega (arith, two.read.inside))

read_above_old : (v : RecencyView) (old new : Stamps) (x : StampedPass) (p q : ℕ) → IsGiven v old new x → HasPlace x.batch x.lost p
    → IsUnread x q → IsAboveUntouched x new p q
read_above_old v old new x p q g hp unread np nq a b ea eb =
    let one = read_stamp v old new x p hp.0 a g np hp.1 ea in
    let pa : a.pass ≡ x.number = pass_is one.stamp in
    let pb : b.pass < x.number = g.before q b (old_stamp v old new x q b g nq unread eb) in
    less_pass b a (omega arith)

old_above_old : (v : RecencyView) (old new : Stamps) (x : StampedPass) (p q : ℕ) → IsGiven v old new x → IsUnread x p
    → IsUnread x q → IsAbove old p q → IsAboveUntouched x new p q
old_above_old v old new x p q g up uq above np nq a b ea eb = above a b (old_stamp v old new x p a g np up ea) (old_stamp v old new x q b g nq uq eb)

touched_above : (v : RecencyView) (old new : Stamps) (x : StampedPass) (p q : ℕ) → IsGiven v old new x → is_in (pages_touched x) p ≡ true
    → is_in (pages_touched x) q ≡ false → IsAbove new p q
touched_above v old new x p q g hp nq a b ea eb = cases (own_untouched old x q b nq (at_page old new x q b g.after eb).0) where
  is : a ≡ by_want x p (first_place x p)
  is = touched_stamp v old new x p a g hp ea

  inside : first_place x p < length x.wants
  inside = (touched_facts x p hp).below

  cases : (old q ≡ Some b) ⊎ IsByEntry x q b → is_less b a ≡ true
  cases (inl had) =
      let pa : a.pass ≡ x.number = pass_is is in
      let pb : b.pass < x.number = g.before q b had in
      less_pass b a (omega arith)
  cases (inr entry) =
      let pa : a.place ≡ length x.batch + length x.wants - 1 - first_place x p = place_is is in
      let pb : b.place ≡ length x.batch - 1 - entry.at = place_is entry.stamp in
      less_place b a (pass_is entry.stamp ∙ sym (pass_is is)) (omega (arith, entry.read.inside, inside))

-- the pages of the order before that are no victims
abbrev pages_left : RecencyView → StampedPass → List ℕ
pages_left v x = filter (is_left x) v.order

rest_by_stamps : (v : RecencyView) (old new : Stamps) (x : StampedPass) → IsGiven v old new x
    → AllPairs (IsAboveUntouched x new) (pages_read x.batch x.lost ++ pages_left v x)
rest_by_stamps v old new x g = pairs_append (IsAboveUntouched x new) (pages_read x.batch x.lost) (pages_left v x) reads olds between where
  places : All (HasPlace x.batch x.lost) (pages_read x.batch x.lost)
  places = reads_at x.batch x.lost

  unread : All (IsUnread x) v.order
  unread = not_read v old new x g

  reads : AllPairs (IsAboveUntouched x new) (pages_read x.batch x.lost)
  reads = λ i j d lt within.
      read_above_read v old new x (get_or (pages_read x.batch x.lost) i d) (get_or (pages_read x.batch x.lost) j d) g
      (reads_ordered x.batch x.lost g.lawful.apart i j d lt within) (places i d (omega arith)) (places j d within)

  olds : AllPairs (IsAboveUntouched x new) (pages_left v x)
  olds = AllPairs-filter (IsAboveUntouched x new) (is_left x) v.order (λ i j d lt within.
      old_above_old v old new x (get_or v.order i d) (get_or v.order j d) g (unread i d (omega arith)) (unread j d within) (g.order.falling i j d lt within))

  between : All (λ p. All (IsAboveUntouched x new p) (pages_left v x)) (pages_read x.batch x.lost)
  between = λ k d inside. All-filter (is_left x) (IsAboveUntouched x new (get_or (pages_read x.batch x.lost) k d)) v.order
      (λ m e within. read_above_old v old new x (get_or (pages_read x.batch x.lost) k d) (get_or v.order m e) g (places k d inside) (unread m e within))

-- the pages behind the touched ones
abbrev pages_behind : RecencyView → StampedPass → List ℕ
pages_behind v x = filter (is_behind x) (pages_read x.batch x.lost ++ pages_left v x)

order_falls : (v : RecencyView) (old new : Stamps) (x : StampedPass) → IsGiven v old new x → AllPairs (IsAbove new) (pages_touched x ++ pages_behind v x)
order_falls v old new x g = pairs_append (IsAbove new) (pages_touched x) (pages_behind v x) (touched_by_stamps v old new x g) behind between where
  passed : All (λ p. is_behind x p ≡ true) (pages_behind v x)
  passed = filter_passes (is_behind x) (pages_read x.batch x.lost ++ pages_left v x)

  behind : AllPairs (IsAbove new) (pages_behind v x)
  behind = λ i j d lt within.
      AllPairs-filter (IsAboveUntouched x new) (is_behind x) (pages_read x.batch x.lost ++ pages_left v x) (rest_by_stamps v old new x g) i j d lt within
      (not_true _ (passed i d (omega arith))) (not_true _ (passed j d within))

  between : All (λ p. All (IsAbove new p) (pages_behind v x)) (pages_touched x)
  between = λ k d inside m e within.
      touched_above v old new x (get_or (pages_touched x) k d) (get_or (pages_behind v x) m e) g
      (all_in (pages_touched x) k d inside) (not_true _ (passed m e within))

order_stamped : (v : RecencyView) (old new : Stamps) (x : StampedPass) → IsGiven v old new x → All (λ p. IsSome (new p)) (pages_touched x ++ pages_behind v x)
order_stamped v old new x g =
    All-append (λ p. IsSome (new p)) (pages_touched x) (pages_behind v x)
    (λ k d inside. some_of (IsOwnStamp old x (get_or (pages_touched x) k d)) (new (get_or (pages_touched x) k d)) _ (g.after (get_or (pages_touched x) k d))
    (inr (inr (touched_want x (get_or (pages_touched x) k d) (all_in (pages_touched x) k d inside)))))
    (All-filter (is_behind x) (λ p. IsSome (new p)) (pages_read x.batch x.lost ++ pages_left v x)
    (All-append (λ p. IsSome (new p)) (pages_read x.batch x.lost) (pages_left v x)
    (All-weaker (HasPlace x.batch x.lost) (λ p. IsSome (new p)) read (pages_read x.batch x.lost) (reads_at x.batch x.lost))
    (All-filter (is_left x) (λ p. IsSome (new p)) v.order
    (All-weaker (λ p. IsSome (old p)) (λ p. IsSome (new p)) had v.order g.order.stamped)))) where
      read : (p : ℕ) → HasPlace x.batch x.lost p → IsSome (new p)
      read p h = some_of (IsOwnStamp old x p) (new p) (by_entry x p h.0) (g.after p) (inr (inl (record { at = h.0; read = h.1; stamp = refl })))

      had : (p : ℕ) → IsSome (old p) → IsSome (new p)
      had p h = let t = value_of (old p) h in some_of (IsOwnStamp old x p) (new p) t.0 (g.after p) (inl t.1)

-- the order after a pass is by falling stamps
pub order_by_stamps : (v : RecencyView) (old new : Stamps) (x : StampedPass) → IsGiven v old new x → IsByStamps new (touched x.after x.wants).order
unfolding put_first settled_order
order_by_stamps v old new x g =
    subst (λ (l : List ℕ). IsByStamps new (pages_touched x ++ filter (is_behind x) l)) (sym g.settled.order)
    (record { stamped = order_stamped v old new x g; falling = order_falls v old new x g })
