-- Loads that are under way stay lawful.
use Rattle.std.proofs.Common.{◌≡◌, ◌≢◌, ℕ, zero, suc, ◌+◌, ◌-◌, ◌<◌, ◌≤◌, inl, inr, ◌||◌, Bool, true, false, not, cond, nat_eq, Option, None, Some, List, [], ◌∷◌, ◌++◌, map, length, length-append, get_or, take, slice_index, refl, sym, ap, subst, ◌∙◌, arith}
use Rattle.std.specs.Prelude.{Contains, MatchOption}
use Rattle.std.specs.Cmp.{nat_eq_equiv}
use Rattle.std.specs.List.{AllPairs, IsDistinct, filter, range_with_len}
use Rattle.std.proofs.lemmas.Bool.{false≢true, cases_lt}
use Rattle.std.proofs.lemmas.Bool.Decides.{nat_tests}
use Rattle.std.proofs.lemmas.List.{length-map, get_or-map, get_or_append_left, get_or-append-add, get_or_default}
use Rattle.std.proofs.lemmas.List.Elements.{All-append, All-filter}
use Rattle.std.proofs.lemmas.List.Kept.{AllPairs-filter}
use Rattle.std.proofs.lemmas.List.Folds.{list_any_at}
use Rattle.std.proofs.lemmas.List.FromFn.{length-range_with_len}
use Rattle.std.proofs.lemmas.Map.Keys.{IsDistinct-from_apart}
use Rattle.std.proofs.lemmas.Map.Made.{length-le_from_is_member}
use Rattle.vt_pages.specs.Limits.{most_frames}
use Rattle.vt_feedback.specs.declared.Wanted.{Wanted}
use Rattle.vt_evict.specs.PlanTypes.batches.Planned.{Planned}
use Rattle.vt_evict.proofs.PlanListLemmas.{nat_eq_true}
use Rattle.vt_plan.specs.Views.{RecencyView, IsRecencyTable, touched}
use Rattle.vt_evict.specs.Batches.{IsFreePage, IsVictim, IsLawfulBatch, IsLawfulEntry, IsSettledByReads, is_page, is_read, is_victim, read_entries}
use Rattle.vt_evict.proofs.ListLemmas.{below_in}
use Rattle.vt_evict.proofs.SettleLemmas.{contains_head, read_among, eq_false}
use Rattle.vt_residency.specs.Loads.{is_same, is_apart}
use Rattle.vt_residency.specs.Residencies.{has_not_come, is_over}
use Rattle.vt_residency.proofs.Found.{in_found, any_found}

abbrev AreApart : Planned → Planned → Type 0
AreApart a b = (a.page ≢ b.page) × (a.frame ≢ b.frame)

swapped : (a b : Planned) → AreApart a b → AreApart b a
swapped a b h = (λ e. h.0 (sym e), λ e. h.1 (sym e))

-- no more loads are lawful than there are frames
pub few_lawful : (v : RecencyView) (b : List Planned) → IsRecencyTable v → IsLawfulBatch v b → length b ≤ most_frames
few_lawful v b table h =
    let z : Planned = record { page = 0; frame = 0; victim = None } in
    let frame : Planned → ℕ = λ e. e.frame in
    let once : IsDistinct nat_eq (map (λ (e : Planned). e.frame) b) = IsDistinct-from_apart nat_eq (map (λ (e : Planned). e.frame) b) (λ i j d below inside.
    let within : j < length b = rw length-map at inside in
    rw (get_or-map (λ (e : Planned). e.frame) b i z d (omega arith), get_or-map (λ (e : Planned). e.frame) b j z d within)
    (eq_false (get_or b i z).frame (get_or b j z).frame (h.apart i j z below within).1)) in
    let n = length-le_from_is_member nat_eq_equiv (map (λ (e : Planned). e.frame) b) (range_with_len 0 v.frames) once (λ q there.
    let f = in_found (map (λ (e : Planned). e.frame) b) q there in
    let within : f.0 < length b = rw length-map at f.1 in
    let is : (get_or b f.0 z).frame ≡ q = sym (get_or-map (λ (e : Planned). e.frame) b f.0 z 0 within) ∙ f.2 in
    below_in v.frames q (omega (arith, is, (h.each f.0 z within).frame_inside))) in
    omega (arith, n, length-map b (λ (e : Planned). e.frame), length-range_with_len 0 v.frames, table.most_frames)

-- a wanted list that is touched leaves loads lawful
pub lawful_touched : (v : RecencyView) (wants : List Wanted) (b : List Planned) → IsLawfulBatch v b → IsLawfulBatch (touched v wants) b
lawful_touched v wants b h = record {
  each = λ k d inside. let l = h.each k d inside in record {
    unpinned = l.unpinned;
    unmapped = l.unmapped;
    frame_inside = l.frame_inside;
    place = place (get_or b k d).victim (get_or b k d).frame l.place;
  };
  apart = h.apart;
} where
  place : (o : Option ℕ) (f : ℕ) → MatchOption o (IsFreePage v.entries f) (IsVictim v f) → MatchOption o (IsFreePage v.entries f) (IsVictim (touched v wants) f)
  place None f free = free
  place (Some q) f held = record { unpinned = held.unpinned; held = held.held }

pairs_append : {X : Type 0} (R : X → X → Type 0) (xs ys : List X) → AllPairs R xs → AllPairs R ys
    → ((i j : ℕ) (d : X) → i < length xs → j < length ys → R (get_or xs i d) (get_or ys j d)) → AllPairs R (xs ++ ys)
pairs_append R xs ys hx hy cross i j d below inside =
    let long = length-append xs ys in
    elim (cases_lt j (length xs)) [
      | inl first ↦ rw (get_or_append_left xs ys d i (omega (arith, below)), get_or_append_left xs ys d j first) (hx i j d below first)
      | inr past ↦
          let jb : length xs + (j - length xs) ≡ j = omega (arith, past) in
          let right : get_or (xs ++ ys) j d ≡ get_or ys (j - length xs) d =
          ap (λ (k : ℕ). get_or (xs ++ ys) k d) (sym jb) ∙ get_or-append-add xs ys (j - length xs) d in
          elim (cases_lt i (length xs)) [
            | inl left ↦ rw (get_or_append_left xs ys d i left, right) (cross i (j - length xs) d left (omega (arith, long, past, inside)))
            | inr both ↦
                let ib : length xs + (i - length xs) ≡ i = omega (arith, both) in
                let other : get_or (xs ++ ys) i d ≡ get_or ys (i - length xs) d =
                ap (λ (k : ℕ). get_or (xs ++ ys) k d) (sym ib) ∙ get_or-append-add xs ys (i - length xs) d in
                rw (other, right) (hy (i - length xs) (j - length xs) d (omega (arith, below, both)) (omega (arith, long, past, inside)))
          ]
    ]

-- what a filter keeps passes its test
kept_pass : {X : Type 0} (t : X → Bool) (xs : List X) (j : ℕ) (d : X) → j < length (filter t xs) → t (get_or (filter t xs) j d) ≡ true
kept_pass {X = X} t [] j d inside = absurd (omega arith)
kept_pass {X = X} t (x ∷ xs) j d inside = step (t x) refl j inside (kept_pass t xs) where
  step : (b : Bool) → t x ≡ b → (j : ℕ) → j < length (cond b (x ∷ filter t xs) (filter t xs))
      → ((j : ℕ) (d : X) → j < length (filter t xs) → t (get_or (filter t xs) j d) ≡ true) → t (get_or (cond b (x ∷ filter t xs) (filter t xs)) j d) ≡ true
  step true same zero inside rest = same
  step true same (suc j) inside rest = rest j d (omega (arith, inside))
  step false other j inside rest = rest j d inside

apart_at : (loads : List Planned) (e : Planned) (i : ℕ) (d : Planned) → i < length loads → is_apart loads e ≡ true → AreApart (get_or loads i d) e
apart_at loads e i d inside apart = step (is_same e (get_or loads i d)) refl where
  step : (b : Bool) → is_same e (get_or loads i d) ≡ b → AreApart (get_or loads i d) e
  step true same = absurd (false≢true (ap not (sym (list_any_at (is_same e) loads i d inside same)) ∙ apart))
  step false other = parts (get_or loads i d).page e.page (get_or loads i d).frame e.frame other where
    parts : (a b c d : ℕ) → (nat_eq a b || nat_eq c d) ≡ false → (a ≢ b) × (c ≢ d)
    parts a b c d h = (one a b (nat_eq c d) h, two c d (nat_eq a b) h) where
      one : (a b : ℕ) (r : Bool) → (nat_eq a b || r) ≡ false → a ≢ b
      one a b r h e = grind (arith, nat_tests)

      two : (c d : ℕ) (r : Bool) → (r || nat_eq c d) ≡ false → c ≢ d
      two c d true h e = absurd (false≢true (sym h))
      two c d false h e = grind (arith, nat_tests)

-- the entries of a plan that are apart from the loads make lawful ones with them
pub lawful_more : (v : RecencyView) (loads plan : List Planned) → IsLawfulBatch v loads → IsLawfulBatch v plan → IsLawfulBatch v (loads ++ filter (is_apart loads) plan)
lawful_more v loads plan h k = record {
  each = All-append (IsLawfulEntry v) loads (filter (is_apart loads) plan) h.each (All-filter (is_apart loads) (IsLawfulEntry v) plan k.each);
  apart = pairs_append AreApart loads (filter (is_apart loads) plan) h.apart (AllPairs-filter AreApart (is_apart loads) plan k.apart)
      (λ i j d left right. apart_at loads (get_or (filter (is_apart loads) plan) j d) i d left (kept_pass (is_apart loads) plan j d right));
}

-- ---- settling

read_next : (batch : List Planned) (marks : List Bool) (i : ℕ) (d : Planned) (b : Bool) → i < length batch → i < length marks
    → read_entries (take (suc i) batch) (take (suc i) marks)
    ≡ read_entries (take i batch) (take i marks) ++ cond (get_or marks i b) [] (get_or batch i d ∷ [])
read_next [] marks i d b inside there = absurd (omega arith)
read_next (e ∷ batch) [] i d b inside there = absurd (omega arith)
read_next (e ∷ batch) (true ∷ marks) zero d b inside there = refl
read_next (e ∷ batch) (false ∷ marks) zero d b inside there = refl
read_next (e ∷ batch) (true ∷ marks) (suc i) d b inside there = read_next batch marks i d b (omega arith) (omega arith)
read_next (e ∷ batch) (false ∷ marks) (suc i) d b inside there = ap (λ (l : List Planned). e ∷ l) (read_next batch marks i d b (omega arith) (omega arith))

pub read_more : (batch : List Planned) (marks : List Bool) (i : ℕ) (d : Planned) (b : Bool) → i < length batch → i < length marks
    → read_entries (take (i + 1) batch) (take (i + 1) marks)
    ≡ read_entries (take i batch) (take i marks) ++ cond (get_or marks i b) [] (get_or batch i d ∷ [])
read_more batch marks i d b inside there =
    ap (λ (k : ℕ). read_entries (take k batch) (take k marks)) (let e : i + 1 ≡ suc i = omega arith in e) ∙ read_next batch marks i d b inside there

pub few_read : (batch : List Planned) (marks : List Bool) → length (read_entries batch marks) ≤ length batch
few_read [] marks = omega arith
few_read (e ∷ batch) [] = omega arith
few_read (e ∷ batch) (true ∷ marks) = let h = few_read batch marks in omega (arith, h)
few_read (e ∷ batch) (false ∷ marks) = let h = few_read batch marks in omega (arith, h)

head_apart : (d : Planned) (batch : List Planned) (e : Planned) → AllPairs AreApart (d ∷ batch) → Contains batch e → AreApart d e
head_apart d batch e h there = subst (AreApart d) there.2 (h 0 (suc there.0) e (omega arith) (omega (arith, there.1)))

tail_apart : (d : Planned) (batch : List Planned) → AllPairs AreApart (d ∷ batch) → AllPairs AreApart batch
tail_apart d batch h i j x below inside = h (suc i) (suc j) x (omega arith) (omega arith)

pairs_cons : (d : Planned) (batch : List Planned) → ((e : Planned) → Contains batch e → AreApart d e) → AllPairs AreApart batch → AllPairs AreApart (d ∷ batch)
pairs_cons d batch first h i zero x below inside = absurd (omega arith)
pairs_cons d batch first h zero (suc j) x below inside =
    let within : j < length batch = omega arith in
    first (get_or batch j x) (j, within, get_or_default batch j (get_or batch j x) x within)
pairs_cons d batch first h (suc i) (suc j) x below inside = h i j x (omega arith) (omega arith)

pairs_read : (batch : List Planned) (marks : List Bool) → AllPairs AreApart batch → AllPairs AreApart (read_entries batch marks)
pairs_read [] marks h = h
pairs_read (d ∷ batch) [] h = λ i j x below inside. absurd (omega arith)
pairs_read (d ∷ batch) (true ∷ marks) h = pairs_read batch marks (tail_apart d batch h)
pairs_read (d ∷ batch) (false ∷ marks) h =
    pairs_cons d (read_entries batch marks) (λ e there. head_apart d batch e h (read_among batch marks e there)) (pairs_read batch marks (tail_apart d batch h))

-- a load is not both under way and come
never_both : (s : ℕ) → is_over s ≡ false → has_not_come s ≡ true
never_both s h = grind (arith, nat_tests)

abbrev left_of : List Planned → List ℕ → List Planned
left_of batch states = read_entries batch (map is_over states)

abbrev come_of : List Planned → List ℕ → List Planned
come_of batch states = read_entries batch (map has_not_come states)

-- what is under way is apart from what came
left_apart : (batch : List Planned) (states : List ℕ) → AllPairs AreApart batch → (e r : Planned) → Contains (left_of batch states) e
    → Contains (come_of batch states) r → AreApart e r
left_apart [] states h e r here there = absurd (omega (arith, here.1))
left_apart (d ∷ batch) [] h e r here there = absurd (omega (arith, here.1))
left_apart (d ∷ batch) (s ∷ states) h e r here there =
    step (is_over s) (has_not_come s) refl refl here there (left_apart batch states (tail_apart d batch h) e r) where
      among : (f : ℕ → Bool) (x : Planned) → Contains (read_entries batch (map f states)) x → AreApart d x
      among f x inside = head_apart d batch x h (read_among batch (map f states) x inside)

      step : (a b : Bool) → is_over s ≡ a → has_not_come s ≡ b → Contains (read_entries (d ∷ batch) (a ∷ map is_over states)) e
          → Contains (read_entries (d ∷ batch) (b ∷ map has_not_come states)) r
          → (Contains (left_of batch states) e → Contains (come_of batch states) r → AreApart e r) → AreApart e r
      step true true o c here there rest = rest here there
      step true false o c here there rest = elim (contains_head d (come_of batch states) r there) [
        | inl same ↦ swapped r e (subst (λ (x : Planned). AreApart x e) same (among is_over e here))
        | inr more ↦ rest here more
      ]
      step false true o c here there rest = elim (contains_head d (left_of batch states) e here) [
        | inl same ↦ subst (λ (x : Planned). AreApart x r) same (among has_not_come r there)
        | inr more ↦ rest more there
      ]
      step false false o c here there rest = absurd (false≢true (sym c ∙ never_both s o))

-- an entry that was not read stays lawful
module _ (v w : RecencyView) (reads : List Planned) (e : Planned) (settled : IsSettledByReads v reads w) (l : IsLawfulEntry v e)
    (laws : (r : Planned) → Contains reads r → IsLawfulEntry v r) (apart : (r : Planned) → Contains reads r → AreApart e r) where
  not_read : (p : ℕ) → ((r : Planned) → Contains reads r → r.page ≢ p) → is_read reads p ≡ false
  not_read p h = step (is_read reads p) refl where
    step : (b : Bool) → is_read reads p ≡ b → b ≡ false
    step true there = let f = any_found (λ r. nat_eq r.page p) reads there in absurd (h f.0 f.1 (nat_eq_true f.0.page p f.2))
    step false other = refl

  not_victim : (p : ℕ) → ((r : Planned) → Contains reads r → is_page p r.victim ≡ true → ⊥) → is_victim reads p ≡ false
  not_victim p h = step (is_victim reads p) refl where
    step : (b : Bool) → is_victim reads p ≡ b → b ≡ false
    step true there = let f = any_found (λ r. is_page p r.victim) reads there in absurd (h f.0 f.1 f.2)
    step false other = refl

  -- a victim has its entry's frame
  victim_holds : (r : Planned) (p : ℕ) → IsLawfulEntry v r → is_page p r.victim ≡ true → slice_index v.entries p ≡ r.frame + 1
  victim_holds r p k is = by r.victim k.place is where
    by : (o : Option ℕ) → MatchOption o (IsFreePage v.entries r.frame) (IsVictim v r.frame) → is_page p o ≡ true → slice_index v.entries p ≡ r.frame + 1
    by None free is = absurd (false≢true is)
    by (Some q) held is = ap (slice_index v.entries) (sym (nat_eq_true q p is)) ∙ held.held

  page_kept : slice_index w.entries e.page ≡ slice_index v.entries e.page
  page_kept = settled.table.kept e.page (not_read e.page (λ r there same. (apart r there).0 (sym same)))
      (not_victim e.page (λ r there is. let held = victim_holds r e.page (laws r there) is in absurd (omega (arith, held, l.unmapped))))

  still_free : IsFreePage v.entries e.frame → IsFreePage w.entries e.frame
  still_free free p at = step (is_read reads p) refl where
    step : (b : Bool) → is_read reads p ≡ b → ⊥
    step true there =
        let f = any_found (λ r. nat_eq r.page p) reads there in
        let mapped : slice_index w.entries p ≡ f.0.frame + 1 = ap (slice_index w.entries) (sym (nat_eq_true f.0.page p f.2)) ∙ settled.table.mapped f.0 f.1 in
        (apart f.0 f.1).1 (omega (arith, mapped, at))
    step false not_there = other (is_victim reads p) refl where
      other : (b : Bool) → is_victim reads p ≡ b → ⊥
      other true there = let gone = settled.table.unmapped p there in absurd (omega (arith, gone, at))
      other false no_victim = free p (sym (settled.table.kept p not_there no_victim) ∙ at)

  still_victim : (q : ℕ) → IsVictim v e.frame q → IsVictim w e.frame q
  still_victim q held = record {
    unpinned = rw (settled.shape, settled.pinned) held.unpinned;
    held = settled.table.kept q
        (not_read q (λ r there same. let low = (laws r there).unmapped in
        let at : slice_index v.entries r.page ≡ e.frame + 1 = ap (slice_index v.entries) same ∙ held.held in absurd (omega (arith, low, at))))
        (not_victim q (λ r there is. let other = victim_holds r q (laws r there) is in
        (apart r there).1 (let h = held.held in omega (arith, other, h))))
        ∙ held.held;
  }

  pub still_lawful : IsLawfulEntry w e
  still_lawful = record {
    unpinned = rw (settled.shape, settled.pinned) l.unpinned;
    unmapped = page_kept ∙ l.unmapped;
    frame_inside = rw settled.frames l.frame_inside;
    place = by e.victim l.place;
  } where
    by : (o : Option ℕ) → MatchOption o (IsFreePage v.entries e.frame) (IsVictim v e.frame) → MatchOption o (IsFreePage w.entries e.frame) (IsVictim w e.frame)
    by None free = still_free free
    by (Some q) held = still_victim q held

contained : (b : List Planned) (k : ℕ) (d : Planned) → k < length b → Contains b (get_or b k d)
contained b k d inside = (k, inside, get_or_default b k (get_or b k d) d inside)

law_at : (v : RecencyView) (b : List Planned) (r : Planned) → IsLawfulBatch v b → Contains b r → IsLawfulEntry v r
law_at v b r h there = subst (IsLawfulEntry v) there.2 (h.each there.0 r there.1)

-- what is under way stays lawful when what came is settled
pub lawful_left : (v w : RecencyView) (batch : List Planned) (states : List ℕ) → IsLawfulBatch v batch → IsSettledByReads v (read_entries batch (map has_not_come states)) w
    → IsLawfulBatch w (read_entries batch (map is_over states))
lawful_left v w batch states h settled = record {
  each = λ k d inside.
      let here = contained (left_of batch states) k d inside in
      still_lawful v w (come_of batch states) (get_or (left_of batch states) k d) settled
      (law_at v batch (get_or (left_of batch states) k d) h (read_among batch (map is_over states) (get_or (left_of batch states) k d) here))
      (λ r there. law_at v batch r h (read_among batch (map has_not_come states) r there))
      (λ r there. left_apart batch states h.apart (get_or (left_of batch states) k d) r here there);
  apart = pairs_read batch (map is_over states) h.apart;
}
