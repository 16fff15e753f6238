-- A table after an entry of a batch.
use Rattle.std.proofs.Common.{◌≡◌, ◌≢◌, ℕ, zero, suc, ◌+◌, ◌<◌, ◌≤◌, ◌⊎◌, inl, inr, Bool, true, false, not, cond, ◌&&◌, ◌||◌, ◌==◌, nat_eq, nat_lt, nat_le, Option, None, Some, MatchOption, List, [], ◌∷◌, ◌++◌, map, length, drop, drop-cons, length-drop, slice_index, slice_get, slice_set, get_or, Contains, refl, sym, ap, ◌∙◌, subst, arith}
use Rattle.std.specs.List.{IsDistinct, filter}
use Rattle.std.proofs.Math.Seq.{drop-length}
use Rattle.std.proofs.lemmas.Bool.{false≢true, cases_lt}
use Rattle.std.proofs.lemmas.Bool.Decides.{nat_tests}
use Rattle.std.proofs.lemmas.Grind.{get_or-set_at, get_or_default_zero}
use Rattle.std.proofs.lemmas.List.Elements.{filter-append, All-map}
use Rattle.std.proofs.lemmas.List.{get_or-set_other, get_or_past, get_or_default, get_or-drop, length-set}
use Rattle.std.proofs.lemmas.Option.{get_or_from_slice_get}
use Rattle.std.proofs.lemmas.List.Folds.{list_any_at, list_any_none, Any-from_list_any}
use Rattle.vt_plan.specs.Pages.{pages_of}
use Rattle.vt_plan.specs.declared.batches.Planned.{Planned}
use Rattle.vt_plan.specs.PageLists.{is_in}
use Rattle.vt_plan.specs.Views.{RecencyView, IsRecencyTable, is_pinned, is_loose, is_held}
use Rattle.vt_plan.specs.Missing.{has_frame}
use Rattle.vt_evict.specs.Batches.{IsFreePage, IsLawfulBatch, IsVictim, IsLawfulEntry, IsSettledByReads, is_page, is_victim, is_read, read_entries, settled_order}
use Rattle.vt_evict.specs.Kept.{without_victim, order_without, applied}
use Rattle.vt_evict.proofs.ListLemmas.{distinct-cons, distinct-filter, filter_absent, and_true, and_false}
use Rattle.vt_plan.proofs.ListLemmas.{nat_eq_true, all_true, filter_all, filter_twice, filter_same, is_in-filter}
use Rattle.vt_evict.proofs.WalkLemmas.{or_true}

nor : (b c : Bool) → (not c && not b) ≡ not (b || c)
nor true true = refl
nor true false = refl
nor false true = refl
nor false false = refl

get_or_same : {X : Type 0} (xs : List X) (k : ℕ) (d : X) → k < length xs → get_or xs k (get_or xs k d) ≡ get_or xs k d
get_or_same xs k d inside = get_or_default xs k (get_or xs k d) d inside

pub same_bool : (a b : Bool) → (a ≡ true → b ≡ true) → (b ≡ true → a ≡ true) → a ≡ b
same_bool true true h k = refl
same_bool true false h k = sym (h refl)
same_bool false true h k = k refl
same_bool false false h k = refl

pub self_eq : (x : ℕ) → nat_eq x x ≡ true
self_eq x = grind (arith, nat_tests)

pub eq_false : (x y : ℕ) → x ≢ y → nat_eq x y ≡ false
eq_false x y h = grind (arith, nat_tests)

-- what the entries are after a page got a frame and a victim, if any, lost it
pub record IsAfter (old : List ℕ) (o : Option ℕ) (page frame : ℕ) (new : List ℕ) : Type 0 where
  pub same_length : length new ≡ length old
  pub mapped : slice_index new page ≡ frame + 1
  pub unmapped : (p : ℕ) → is_page p o ≡ true → slice_index new p ≡ 0
  pub other : (p : ℕ) → p ≢ page → is_page p o ≡ false → slice_index new p ≡ slice_index old p

-- who has the frame that an entry gives away
pub record IsPlace (v : RecencyView) (o : Option ℕ) (frame : ℕ) : Type 0 where
  pub victim : (p : ℕ) → is_page p o ≡ true → IsVictim v frame p
  pub holder : (p : ℕ) → slice_index v.entries p ≡ frame + 1 → is_page p o ≡ true

pub place_of : (v : RecencyView) (o : Option ℕ) (frame : ℕ) → IsRecencyTable v → MatchOption o (IsFreePage v.entries frame) (IsVictim v frame) → IsPlace v o frame
place_of v None frame h free = record { victim = λ p e. absurd (false≢true e); holder = λ p e. absurd (free p e) }
place_of v (Some q) frame h held = record {
  victim = λ p e. subst (IsVictim v frame) (nat_eq_true q p e) held;
  holder = λ p e.
      let mapped : has_frame v.entries p ≡ true = rw e (grind (arith, nat_tests)) in
      let same : p ≡ q = h.apart p q mapped (e ∙ sym held.held) in
      rw same (self_eq q);
}

pub after_of : (old : List ℕ) (o : Option ℕ) (page frame : ℕ) → page < length old → is_page page o ≡ false
    → IsAfter old o page frame (slice_set (without_victim old o) page (frame + 1))
after_of old None page frame inside new = record {
  same_length = length-set old page (frame + 1);
  mapped = get_or-set_at old page page (frame + 1) 0 refl inside;
  unmapped = λ p e. absurd (false≢true e);
  other = λ p other e. get_or-set_other old page p (frame + 1) 0 other;
}
after_of old (Some q) page frame inside new = record {
  same_length = length-set (slice_set old q 0) page (frame + 1) ∙ length-set old q 0;
  mapped = get_or-set_at (slice_set old q 0) page page (frame + 1) 0 refl (omega (arith, length-set old q 0));
  unmapped = λ p e. let is : q ≡ p = nat_eq_true q p e in
      let apart : p ≢ page = λ same. false≢true (sym new ∙ ap (nat_eq q) (sym same) ∙ e) in
      get_or-set_other (slice_set old q 0) page p (frame + 1) 0 apart ∙ gone p (sym is);
  other = λ p other e.
      get_or-set_other (slice_set old q 0) page p (frame + 1) 0 other
      ∙ get_or-set_other old q p 0 0 (λ same. false≢true (sym e ∙ ap (nat_eq q) same ∙ self_eq q));
} where
  gone : (p : ℕ) → p ≡ q → slice_index (slice_set old q 0) p ≡ 0
  gone p e = elim (cases_lt p (length old)) [
    | inl below ↦ get_or-set_at old q p 0 0 e (subst (λ (n : ℕ). n < length old) e below)
    | inr past ↦ get_or_past (slice_set old q 0) p 0 (omega (arith, length-set old q 0))
  ]

pub page_is_new : (v : RecencyView) (o : Option ℕ) (page frame : ℕ) → IsPlace v o frame → slice_index v.entries page ≡ 0 → is_page page o ≡ false
page_is_new v o page frame place unmapped = test (is_page page o) refl where
  test : (b : Bool) → is_page page o ≡ b → b ≡ false
  test true e = absurd (let held = (place.victim page e).held in omega arith)
  test false e = refl

without_in : (order : List ℕ) (o : Option ℕ) (p : ℕ) → is_in (order_without order o) p ≡ (is_in order p && not (is_page p o))
without_in order None p = sym (and_true (is_in order p))
without_in order (Some q) p = is_in-filter (λ y. not (nat_eq q y)) order p

-- a table after an entry, as the entry's parts say it
abbrev pub after : RecencyView → Option ℕ → ℕ → List ℕ → RecencyView
after v o page new = record v { entries = new; order = page ∷ order_without v.order o }

mapped_from : (n m : ℕ) → n ≡ m + 1 → nat_lt 0 n ≡ true
mapped_from n m e = grind (arith, nat_tests)

mapped_not : (n : ℕ) → n ≡ 0 → nat_lt 0 n ≡ false
mapped_not n e = grind (arith, nat_tests)

pinned_false : (p k n : ℕ) → p + k < n → nat_le n (p + k) ≡ false
pinned_false p k n h = grind (arith, nat_tests)

pinned_below : (p k n : ℕ) → nat_le n (p + k) ≡ true → p + k < n → ⊥
pinned_below p k n e h = grind (arith, nat_tests)

pub after_table : (v : RecencyView) (o : Option ℕ) (page frame : ℕ) (new : List ℕ) → IsRecencyTable v → IsPlace v o frame → page + v.pinned < pages_of v.shape
    → frame < v.frames → slice_index v.entries page ≡ 0 → IsAfter v.entries o page frame new → IsRecencyTable (after v o page new)
after_table v o page frame new h place loose inside unmapped a = record {
  limits = h.limits;
  most_frames = h.most_frames;
  some_pinned = h.some_pinned;
  enough_frames = h.enough_frames;
  enough_pages = h.enough_pages;
  entries_for_all = a.same_length ∙ h.entries_for_all;
  frames_inside = λ p. within p (nat_eq p page) refl (is_page p o) refl;
  pinned_mapped = λ p below pinned. pins p below pinned (nat_eq p page) refl (is_page p o) refl;
  apart = λ p q m e. separate p q m e (nat_eq p page) refl (nat_eq q page) refl;
  in_order = λ p. ordered p (nat_eq p page) refl (is_page p o) refl;
  once = once;
} where
  apart_from : (p : ℕ) → nat_eq p page ≡ false → p ≢ page
  apart_from p e same = false≢true (sym e ∙ ap (nat_eq p) (sym same) ∙ self_eq p)

  within : (p : ℕ) (b : Bool) → nat_eq p page ≡ b → (c : Bool) → is_page p o ≡ c → slice_index new p ≤ v.frames
  within p true e c f = let is : p ≡ page = nat_eq_true p page e in rw is (omega (arith, a.mapped))
  within p false e true f = omega (arith, a.unmapped p f)
  within p false e false f = omega (arith, a.other p (apart_from p e) f, h.frames_inside p)

  pins : (p : ℕ) → p < pages_of v.shape → is_pinned v p ≡ true → (b : Bool) → nat_eq p page ≡ b → (c : Bool) → is_page p o ≡ c → has_frame new p ≡ true
  pins p below pinned true e c f = let is : p ≡ page = nat_eq_true p page e in
      absurd (pinned_below page v.pinned (pages_of v.shape) (subst (λ (q : ℕ). is_pinned v q ≡ true) is pinned) loose)
  pins p below pinned false e true f = absurd (pinned_below p v.pinned (pages_of v.shape) pinned (place.victim p f).unpinned)
  pins p below pinned false e false f = ap (λ (n : ℕ). nat_lt 0 n) (a.other p (apart_from p e) f) ∙ h.pinned_mapped p below pinned

  not_victim : (p : ℕ) → has_frame new p ≡ true → is_page p o ≡ false
  not_victim p m = test (is_page p o) refl where
    test : (b : Bool) → is_page p o ≡ b → b ≡ false
    test true e = absurd (false≢true (sym (mapped_not (slice_index new p) (a.unmapped p e)) ∙ m))
    test false e = refl

  old_at : (p : ℕ) → has_frame new p ≡ true → nat_eq p page ≡ false → slice_index new p ≡ slice_index v.entries p
  old_at p m e = a.other p (apart_from p e) (not_victim p m)

  separate : (p q : ℕ) → has_frame new p ≡ true → slice_index new p ≡ slice_index new q → (b : Bool) → nat_eq p page ≡ b → (c : Bool)
      → nat_eq q page ≡ c → p ≡ q
  separate p q m same true e true f = nat_eq_true p page e ∙ sym (nat_eq_true q page f)
  separate p q m same true e false f =
      let mq : has_frame new q ≡ true = ap (λ (n : ℕ). nat_lt 0 n) (sym same) ∙ m in
      let held : slice_index v.entries q ≡ frame + 1 = sym (old_at q mq f) ∙ sym same ∙ ap (slice_index new) (nat_eq_true p page e) ∙ a.mapped in
      absurd (false≢true (sym (not_victim q mq) ∙ place.holder q held))
  separate p q m same false e true f =
      let held : slice_index v.entries p ≡ frame + 1 = sym (old_at p m e) ∙ same ∙ ap (slice_index new) (nat_eq_true q page f) ∙ a.mapped in
      absurd (false≢true (sym (not_victim p m) ∙ place.holder p held))
  separate p q m same false e false f =
      let mq : has_frame new q ≡ true = ap (λ (n : ℕ). nat_lt 0 n) (sym same) ∙ m in
      h.apart p q (ap (λ (n : ℕ). nat_lt 0 n) (sym (old_at p m e)) ∙ m) (sym (old_at p m e) ∙ same ∙ old_at q mq f)

  ordered : (p : ℕ) (b : Bool) → nat_eq p page ≡ b → (c : Bool) → is_page p o ≡ c
      → (nat_eq p page || is_in (order_without v.order o) p) ≡ (has_frame new p && not (is_pinned v p))
  ordered p true e c f =
      let is : p ≡ page = nat_eq_true p page e in
      ap (λ (b : Bool). b || is_in (order_without v.order o) p) e
      ∙ sym (ap (λ (q : ℕ). has_frame new q && not (is_pinned v q)) is
      ∙ ap (λ (b : Bool). b && not (is_pinned v page)) (mapped_from (slice_index new page) frame a.mapped)
      ∙ ap not (pinned_false page v.pinned (pages_of v.shape) loose))
  ordered p false e true f =
      ap (λ (b : Bool). b || is_in (order_without v.order o) p) e ∙ without_in v.order o p ∙ ap (λ (b : Bool). is_in v.order p && not b) f
      ∙ and_false (is_in v.order p)
      ∙ sym (ap (λ (b : Bool). b && not (is_pinned v p)) (mapped_not (slice_index new p) (a.unmapped p f)))
  ordered p false e false f =
      ap (λ (b : Bool). b || is_in (order_without v.order o) p) e ∙ without_in v.order o p ∙ ap (λ (b : Bool). is_in v.order p && not b) f
      ∙ and_true (is_in v.order p) ∙ h.in_order p
      ∙ sym (ap (λ (n : ℕ). nat_lt 0 n && not (is_pinned v p)) (a.other p (apart_from p e) f))

  absent_page : is_in (order_without v.order o) page ≡ false
  absent_page = without_in v.order o page
      ∙ ap (λ (b : Bool). b && not (is_page page o)) (h.in_order page
      ∙ ap (λ (b : Bool). b && not (is_pinned v page)) (mapped_not (slice_index v.entries page) unmapped))

  without_once : (x : Option ℕ) → IsDistinct nat_eq (order_without v.order x)
  without_once None = h.once
  without_once (Some q) = distinct-filter (λ y. not (nat_eq q y)) v.order h.once

  once : IsDistinct nat_eq (page ∷ order_without v.order o)
  once = distinct-cons page (order_without v.order o) absent_page (without_once o)

-- whether a frame is held, by the pages
pub held_from : (entries : List ℕ) (f p : ℕ) → slice_index entries p ≡ f + 1 → is_held entries f ≡ true
held_from entries f p e = elim (cases_lt p (length entries)) [
  | inl below ↦ list_any_at (λ x. x == f + 1) entries p 0 below (rw e (self_eq (f + 1)))
  | inr past ↦ absurd (let n : slice_index entries p ≡ 0 = get_or_past entries p 0 past in omega arith)
]

pub held_by : (entries : List ℕ) (f : ℕ) → is_held entries f ≡ true → (p : ℕ) × (slice_index entries p ≡ f + 1)
held_by entries f e =
    let found = Any-from_list_any (λ x. x == f + 1) entries e in
    let at : get_or entries found.0 0 ≡ found.1 = sym (get_or_default_zero entries found.0 found.1 found.2) ∙ found.3 in
    (found.0, at ∙ nat_eq_true found.1 (f + 1) found.4)

-- a frame that goes from a victim to a page is held before and after, and another as before
pub held_same : (v : RecencyView) (page q frame : ℕ) (new : List ℕ) → IsPlace v (Some q) frame → slice_index v.entries page ≡ 0
    → IsAfter v.entries (Some q) page frame new → (f : ℕ) → is_held new f ≡ is_held v.entries f
held_same v page q frame new place unmapped a f = same_bool (is_held new f) (is_held v.entries f) before behind where
  before : is_held new f ≡ true → is_held v.entries f ≡ true
  before e = let found = held_by new f e in was found.0 found.1 (nat_eq found.0 page) refl (is_page found.0 (Some q)) refl where
    was : (p : ℕ) → slice_index new p ≡ f + 1 → (b : Bool) → nat_eq p page ≡ b → (c : Bool) → is_page p (Some q) ≡ c → is_held v.entries f ≡ true
    was p at true same c is = held_from v.entries f q (let n : slice_index new page ≡ f + 1 = ap (slice_index new) (sym (nat_eq_true p page same)) ∙ at in
        omega (arith, (place.victim q (self_eq q)).held, a.mapped))
    was p at false other true is = absurd (omega (arith, a.unmapped p is))
    was p at false other false is = held_from v.entries f p (sym (a.other p (λ e. false≢true (sym other ∙ ap (nat_eq p) (sym e) ∙ self_eq p)) is) ∙ at)

  behind : is_held v.entries f ≡ true → is_held new f ≡ true
  behind e = let found = held_by v.entries f e in is found.0 found.1 (is_page found.0 (Some q)) refl where
    is : (p : ℕ) → slice_index v.entries p ≡ f + 1 → (c : Bool) → is_page p (Some q) ≡ c → is_held new f ≡ true
    is p at true same = held_from new f page (omega (arith, (place.victim p same).held, a.mapped))
    is p at false other = held_from new f p (a.other p (λ e. let n : slice_index v.entries p ≡ 0 = ap (slice_index v.entries) e
        ∙ unmapped in omega arith) other ∙ at)

-- a free frame that a page gets is held, and another as before
pub held_more : (v : RecencyView) (page frame : ℕ) (new : List ℕ) → slice_index v.entries page ≡ 0
    → IsAfter v.entries None page frame new → (f : ℕ) → is_held new f ≡ (is_held v.entries f || nat_eq frame f)
held_more v page frame new unmapped a f = same_bool (is_held new f) (is_held v.entries f || nat_eq frame f) before behind where
  before : is_held new f ≡ true → (is_held v.entries f || nat_eq frame f) ≡ true
  before e = let found = held_by new f e in was found.0 found.1 (nat_eq found.0 page) refl where
    was : (p : ℕ) → slice_index new p ≡ f + 1 → (b : Bool) → nat_eq p page ≡ b → (is_held v.entries f || nat_eq frame f) ≡ true
    was p at true same =
        let n : slice_index new page ≡ f + 1 = ap (slice_index new) (sym (nat_eq_true p page same)) ∙ at in
        let is : frame ≡ f = omega (arith, a.mapped) in
        ap (λ (b : Bool). is_held v.entries f || b) (ap (nat_eq frame) (sym is) ∙ self_eq frame) ∙ or_true (is_held v.entries f)
    was p at false other =
        let held : is_held v.entries f ≡ true = held_from v.entries f p
        (sym (a.other p (λ e. false≢true (sym other ∙ ap (nat_eq p) (sym e) ∙ self_eq p)) refl) ∙ at) in
        ap (λ (b : Bool). b || nat_eq frame f) held

  behind : (is_held v.entries f || nat_eq frame f) ≡ true → is_held new f ≡ true
  behind e = split (is_held v.entries f) refl (nat_eq frame f) refl e where
    split : (b : Bool) → is_held v.entries f ≡ b → (c : Bool) → nat_eq frame f ≡ c → (b || c) ≡ true → is_held new f ≡ true
    split true was c is k = let found = held_by v.entries f was in
        held_from new f found.0 (a.other found.0 (λ e. let n : slice_index v.entries found.0 ≡ 0 = ap (slice_index v.entries) e
        ∙ unmapped in omega (arith, found.1)) refl ∙ found.1)
    split false was true is k = held_from new f page (a.mapped ∙ ap (λ (n : ℕ). n + 1) (nat_eq_true frame f is))
    split false was false is k = absurd (false≢true k)

-- what an entry leaves
pub record IsApplied (v : RecencyView) (e : Planned) (new order : List ℕ) : Type 0 where
  pub view : record v { entries = new; order = order } ≡ applied v e
  pub table : IsRecencyTable (record v { entries = new; order = order })

same_view : (v : RecencyView) (new a b : List ℕ) → a ≡ b → ◌≡◌ {A = RecencyView} (record v { entries = new; order = a }) (record v { entries = new; order = b })
same_view v new a b e = ap (λ (l : List ℕ). let u : RecencyView = record v { entries = new; order = l } in u) e

lawful_place : (v : RecencyView) (e : Planned) (o : Option ℕ) → IsRecencyTable v → IsLawfulEntry v e → e.victim ≡ o → IsPlace v o e.frame
lawful_place v e o h l is = place_of v o e.frame h (subst (λ (x : Option ℕ). MatchOption x (IsFreePage v.entries e.frame) (IsVictim v e.frame)) is l.place)

page_inside : (v : RecencyView) (e : Planned) → IsRecencyTable v → IsLawfulEntry v e → e.page < length v.entries
page_inside v e h l = omega (arith, l.unpinned, h.entries_for_all)

lawful_after : (v : RecencyView) (e : Planned) (o : Option ℕ) → IsRecencyTable v → IsLawfulEntry v e → e.victim ≡ o
    → IsAfter v.entries o e.page e.frame (slice_set (without_victim v.entries o) e.page (e.frame + 1))
lawful_after v e o h l is =
    after_of v.entries o e.page e.frame (page_inside v e h l) (page_is_new v o e.page e.frame (lawful_place v e o h l is) l.unmapped)

applied_at : (v : RecencyView) (e : Planned) (o : Option ℕ) → e.victim ≡ o
    → ◌≡◌ {A = RecencyView} (after v o e.page (slice_set (without_victim v.entries o) e.page (e.frame + 1))) (applied v e)
unfolding applied
applied_at v e o is = ap (λ (x : Option ℕ). after v x e.page (slice_set (without_victim v.entries x) e.page (e.frame + 1))) (sym is)

pub lawful_table : (v : RecencyView) (e : Planned) (o : Option ℕ) → IsRecencyTable v → IsLawfulEntry v e → e.victim ≡ o
    → IsRecencyTable (after v o e.page (slice_set (without_victim v.entries o) e.page (e.frame + 1)))
lawful_table v e o h l is = after_table v o e.page e.frame _ h (lawful_place v e o h l is) l.unpinned l.frame_inside l.unmapped (lawful_after v e o h l is)

pub applied_some : (v : RecencyView) (e : Planned) (q : ℕ) (order : List ℕ) → IsRecencyTable v → IsLawfulEntry v e → e.victim ≡ Some q
    → order ≡ filter (λ y. not (nat_eq q y)) (e.page ∷ v.order) → IsApplied v e (slice_set (slice_set v.entries q 0) e.page (e.frame + 1)) order
applied_some v e q order h l is keys =
    let new : List ℕ = slice_set (slice_set v.entries q 0) e.page (e.frame + 1) in
    let other : nat_eq q e.page ≡ false = page_is_new v (Some q) e.page e.frame (lawful_place v e (Some q) h l is) l.unmapped in
    let front : order ≡ e.page ∷ filter (λ y. not (nat_eq q y)) v.order =
    keys ∙ ap (λ (b : Bool). cond (not b) (e.page ∷ filter (λ y. not (nat_eq q y)) v.order) (filter (λ y. not (nat_eq q y)) v.order)) other in
    let view = same_view v (slice_set (slice_set v.entries q 0) e.page (e.frame + 1)) order (e.page ∷ filter (λ y. not (nat_eq q y)) v.order) front in
    record {
      view = view ∙ applied_at v e (Some q) is;
      table = subst IsRecencyTable (sym view) (lawful_table v e (Some q) h l is);
    }

pub applied_none : (v : RecencyView) (e : Planned) (order : List ℕ) → IsRecencyTable v → IsLawfulEntry v e → e.victim ≡ None
    → order ≡ e.page ∷ v.order → IsApplied v e (slice_set v.entries e.page (e.frame + 1)) order
applied_none v e order h l is keys =
    let view = same_view v (slice_set v.entries e.page (e.frame + 1)) order (e.page ∷ v.order) keys in
    record {
      view = view ∙ applied_at v e None is;
      table = subst IsRecencyTable (sym view) (lawful_table v e None h l is);
    }

pub free_some : (v : RecencyView) (e : Planned) (q : ℕ) (free : List ℕ) → IsRecencyTable v → IsLawfulEntry v e → e.victim ≡ Some q
    → ((f : ℕ) → is_in free f ≡ (nat_lt f v.frames && not (is_held v.entries f)))
    → (f : ℕ) → is_in free f ≡ (nat_lt f v.frames && not (is_held (slice_set (slice_set v.entries q 0) e.page (e.frame + 1)) f))
free_some v e q free h l is was f =
    was f ∙ ap (λ (b : Bool). nat_lt f v.frames && not b)
    (sym (held_same v e.page q e.frame _ (lawful_place v e (Some q) h l is) l.unmapped (lawful_after v e (Some q) h l is) f))

moved : (a b c : Bool) → ((a && not b) && not c) ≡ (a && not (b || c))
moved true true c = refl
moved true false c = refl
moved false b c = refl

pub free_none : (v : RecencyView) (e : Planned) (free left : List ℕ) → IsRecencyTable v → IsLawfulEntry v e → e.victim ≡ None
    → ((f : ℕ) → is_in free f ≡ (nat_lt f v.frames && not (is_held v.entries f))) → ((f : ℕ) → is_in left f ≡ (is_in free f && not (nat_eq e.frame f)))
    → (f : ℕ) → is_in left f ≡ (nat_lt f v.frames && not (is_held (slice_set v.entries e.page (e.frame + 1)) f))
free_none v e free left h l is was now f =
    now f ∙ ap (λ (b : Bool). b && not (nat_eq e.frame f)) (was f)
    ∙ moved (nat_lt f v.frames) (is_held v.entries f) (nat_eq e.frame f)
    ∙ ap (λ (b : Bool). nat_lt f v.frames && not b) (sym (held_more v e.page e.frame _ l.unmapped (lawful_after v e None h l is) f))

-- an entry that was lawful still is after another, whose page and frame are not its own
lawful_still : (v : RecencyView) (e d : Planned) (new : List ℕ) → IsAfter v.entries e.victim e.page e.frame new → IsRecencyTable v → IsLawfulEntry v e
    → IsLawfulEntry v d
    → d.page ≢ e.page → d.frame ≢ e.frame → IsLawfulEntry (after v e.victim e.page new) d
lawful_still v e d new is_after h l m pages frames = record {
  unpinned = m.unpinned;
  unmapped = is_after.other d.page pages (not_given (is_page d.page e.victim) refl) ∙ m.unmapped;
  frame_inside = m.frame_inside;
  place = places d.victim m.place;
} where
  not_given : (b : Bool) → is_page d.page e.victim ≡ b → is_page d.page e.victim ≡ false
  not_given true same = absurd (let held = ((lawful_place v e e.victim h l refl).victim d.page same).held in omega (arith, m.unmapped))
  not_given false same = same

  forth : (p : ℕ) → slice_index v.entries p ≡ d.frame + 1 → slice_index new p ≡ d.frame + 1
  forth p at = is_after.other p (λ same. let n : slice_index v.entries p ≡ 0 = ap (slice_index v.entries) same
      ∙ l.unmapped in omega arith) (test (is_page p e.victim) refl) ∙ at where
        test : (b : Bool) → is_page p e.victim ≡ b → b ≡ false
        test true same = absurd (frames (let held = ((lawful_place v e e.victim h l refl).victim p same).held in omega arith))
        test false same = refl

  back : (p : ℕ) → slice_index new p ≡ d.frame + 1 → slice_index v.entries p ≡ d.frame + 1
  back p at = test (nat_eq p e.page) refl (is_page p e.victim) refl where
    test : (b : Bool) → nat_eq p e.page ≡ b → (c : Bool) → is_page p e.victim ≡ c → slice_index v.entries p ≡ d.frame + 1
    test true same c is = absurd (frames (let n : slice_index new e.page ≡ d.frame + 1 = ap (slice_index new) (sym (nat_eq_true p e.page same))
        ∙ at in let m' = is_after.mapped in omega arith))
    test false other true is = absurd (let n = is_after.unmapped p is in omega arith)
    test false other false is = sym (is_after.other p (λ same. false≢true (sym other ∙ ap (nat_eq p) (sym same) ∙ self_eq p)) is) ∙ at

  places : (o : Option ℕ) → MatchOption o (IsFreePage v.entries d.frame) (IsVictim v d.frame)
      → MatchOption o (IsFreePage new d.frame) (IsVictim (after v e.victim e.page new) d.frame)
  places None free = λ p at. free p (back p at)
  places (Some q) held = record { unpinned = held.unpinned; held = forth q held.held }

pub still_lawful : (v : RecencyView) (e d : Planned) → IsRecencyTable v → IsLawfulEntry v e → IsLawfulEntry v d → d.page ≢ e.page → d.frame ≢ e.frame
    → IsLawfulEntry (applied v e) d
unfolding applied
still_lawful v e d h l m pages frames = lawful_still v e d _ (lawful_after v e e.victim h l refl) h l m pages frames

-- ---- the entries of a batch, the last ones first

pub contains_head : {X : Type 0} (x : X) (xs : List X) (y : X) → Contains (x ∷ xs) y → (x ≡ y) ⊎ Contains xs y
contains_head x xs y (zero, inside, is) = inl is
contains_head x xs y (suc k, inside, is) = inr (k, omega arith, is)

pub contains_tail : {X : Type 0} (x : X) (xs : List X) (y : X) → Contains xs y → Contains (x ∷ xs) y
contains_tail x xs y there = (suc there.0, omega (arith, there.1), there.2)

pub read_among : (batch : List Planned) (lost : List Bool) (e : Planned) → Contains (read_entries batch lost) e → Contains batch e
read_among [] lost e there = there
read_among (d ∷ batch) [] e there = absurd (omega (arith, there.1))
read_among (d ∷ batch) (true ∷ lost) e there = contains_tail d batch e (read_among batch lost e there)
read_among (d ∷ batch) (false ∷ lost) e there = step (contains_head d (read_entries batch lost) e there) (read_among batch lost e) where
  step : (d ≡ e) ⊎ Contains (read_entries batch lost) e → (Contains (read_entries batch lost) e → Contains batch e) → Contains (d ∷ batch) e
  step (inl same) rest = (0, omega arith, same)
  step (inr more) rest = contains_tail d batch e (rest more)

-- a page that no entry has, and a page that is no entry's victim
victim_not : (reads : List Planned) (p : ℕ) → ((e : Planned) → Contains reads e → is_page p e.victim ≡ false) → is_victim reads p ≡ false
victim_not reads p h = list_any_none (λ e. is_page p e.victim) reads (λ k d inside. h (get_or reads k d) (k, inside, get_or_same reads k d inside))

settled_after : (old now : RecencyView) (reads : List Planned) (e : Planned) (new : List ℕ) → IsAfter now.entries e.victim e.page e.frame new
    → IsRecencyTable now → IsSettledByReads old reads now → IsLawfulEntry old e → IsLawfulEntry now e
    → ((r : Planned) → Contains reads r → IsLawfulEntry old r) → IsRecencyTable old → ((r : Planned) → Contains reads r → r.frame ≢ e.frame)
    → IsSettledByReads old (e ∷ reads) (after now e.victim e.page new)
unfolding settled_order
settled_after old now reads e new a h s first l laws begun frames = record {
  shape = s.shape;
  frames = s.frames;
  pinned = s.pinned;
  table = record {
    same_length = a.same_length ∙ s.table.same_length;
    mapped = mapped;
    unmapped = unmapped;
    kept = kept;
  };
  order = ordered;
} where
  place : IsPlace now e.victim e.frame
  place = lawful_place now e e.victim h l refl

  -- what a page that was read has
  read_page : (r : Planned) → Contains reads r → slice_index new r.page ≡ r.frame + 1
  read_page r there = a.other r.page (λ same. let n : slice_index now.entries r.page ≡ 0 = ap (slice_index now.entries) same
      ∙ l.unmapped in omega (arith, s.table.mapped r there))
      (test (is_page r.page e.victim) refl) ∙ s.table.mapped r there where
        test : (b : Bool) → is_page r.page e.victim ≡ b → b ≡ false
        test true same = absurd (frames r there (let held = (place.victim r.page same).held in omega (arith, s.table.mapped r there)))
        test false same = refl

  mapped : (r : Planned) → Contains (e ∷ reads) r → slice_index new r.page ≡ r.frame + 1
  mapped r there = step (contains_head e reads r there) where
    step : (e ≡ r) ⊎ Contains reads r → slice_index new r.page ≡ r.frame + 1
    step (inl same) = subst (λ (x : Planned). slice_index new x.page ≡ x.frame + 1) same a.mapped
    step (inr more) = read_page r more

  not_victim : is_victim reads e.page ≡ false
  not_victim = victim_not reads e.page (λ r there. test r there (is_page e.page r.victim) refl) where
    test : (r : Planned) → Contains reads r → (b : Bool) → is_page e.page r.victim ≡ b → b ≡ false
    test r there true same = absurd (let held = ((lawful_place old r r.victim begun (laws r there) refl).victim e.page same).held in omega
        (arith, first.unmapped))
    test r there false same = refl

  unmapped : (p : ℕ) → (is_page p e.victim || is_victim reads p) ≡ true → slice_index new p ≡ 0
  unmapped p gone = test (is_page p e.victim) refl gone where
    test : (b : Bool) → is_page p e.victim ≡ b → (b || is_victim reads p) ≡ true → slice_index new p ≡ 0
    test true same k = a.unmapped p same
    test false same k = a.other p (λ is. false≢true (sym not_victim ∙ ap (is_victim reads) (sym is) ∙ k)) same ∙ s.table.unmapped p k

  kept : (p : ℕ) → (nat_eq e.page p || is_read reads p) ≡ false → (is_page p e.victim || is_victim reads p) ≡ false
      → slice_index new p ≡ slice_index old.entries p
  kept p r k = test (nat_eq e.page p) refl r (is_page p e.victim) refl k where
    test : (b : Bool) → nat_eq e.page p ≡ b → (b || is_read reads p) ≡ false → (c : Bool) → is_page p e.victim ≡ c → (c || is_victim reads p) ≡ false
        → slice_index new p ≡ slice_index old.entries p
    test true same x c is y = absurd (false≢true (sym x))
    test false same x true is y = absurd (false≢true (sym y))
    test false same x false is y = a.other p (λ e'. false≢true (sym same ∙ ap (nat_eq e.page) e' ∙ self_eq e.page)) is ∙ s.table.kept p x y

  page_not_read : (q : ℕ) → e.victim ≡ Some q → is_in (map (λ r. r.page) reads) q ≡ false
  page_not_read q is = list_any_none (nat_eq q) (map (λ r. r.page) reads) (All-map (λ x. nat_eq q x ≡ false) (λ r. r.page) reads
      (λ k d inside. eq_false q (get_or reads k d).page (λ same.
      let there : Contains reads (get_or reads k d) = (k, inside, get_or_same reads k d inside) in
      let given : is_page (get_or reads k d).page e.victim ≡ true = ap (is_page (get_or reads k d).page) is ∙ ap (nat_eq q) (sym same) ∙ self_eq q in
      frames (get_or reads k d) there (let held = (place.victim (get_or reads k d).page given).held in omega
      (arith, s.table.mapped (get_or reads k d) there)))))

  pages_kept : (o : Option ℕ) → e.victim ≡ o → order_without (map (λ r. r.page) reads) o ≡ map (λ r. r.page) reads
  pages_kept None is = refl
  pages_kept (Some q) is = filter_absent q (map (λ r. r.page) reads) (page_not_read q is)

  rest_kept : (o : Option ℕ) → e.victim ≡ o → order_without (filter (λ p. not (is_victim reads p)) old.order) o ≡ filter
      (λ p. not (is_page p o || is_victim reads p)) old.order
  rest_kept None is = refl
  rest_kept (Some q) is = filter_twice (λ y. not (nat_eq q y)) (λ p. not (is_victim reads p)) old.order
      ∙ filter_same _ _ old.order (λ y. nor (nat_eq q y) (is_victim reads y))

  both_kept : (o : Option ℕ) (xs ys : List ℕ) → order_without (xs ++ ys) o ≡ order_without xs o ++ order_without ys o
  both_kept None xs ys = refl
  both_kept (Some q) xs ys = filter-append (λ y. not (nat_eq q y)) xs ys

  ordered : (e.page ∷ order_without now.order e.victim) ≡ (e.page ∷ map (λ r. r.page) reads)
      ++ filter (λ p. not (is_page p e.victim || is_victim reads p)) old.order
  ordered = ap (λ (l : List ℕ). e.page ∷ l) (
      ap (λ (l : List ℕ). order_without l e.victim) s.order
      ∙ both_kept e.victim (map (λ r. r.page) reads) (filter (λ p. not (is_victim reads p)) old.order)
      ∙ ap (λ (l : List ℕ). l ++ order_without (filter (λ p. not (is_victim reads p)) old.order) e.victim) (pages_kept e.victim refl)
      ∙ ap (λ (l : List ℕ). map (λ r. r.page) reads ++ l) (rest_kept e.victim refl))

-- the table so far, and one entry more, which was lawful at first and is now
pub settled_more : (old now : RecencyView) (reads : List Planned) (e : Planned) → IsRecencyTable now → IsSettledByReads old reads now → IsLawfulEntry old e
    → IsLawfulEntry now e
    → ((r : Planned) → Contains reads r → IsLawfulEntry old r) → IsRecencyTable old → ((r : Planned) → Contains reads r → r.frame ≢ e.frame)
    → IsSettledByReads old (e ∷ reads) (applied now e)
unfolding applied
settled_more old now reads e h s first l laws begun frames = settled_after old now reads e _ (lawful_after now e e.victim h l refl) h s first l laws
    begun frames

-- nothing was applied yet
pub settled_none : (old : RecencyView) → IsSettledByReads old [] old
unfolding settled_order
settled_none old = record {
  shape = refl;
  frames = refl;
  pinned = refl;
  table = record { same_length = refl; mapped = λ e there. absurd (omega (arith, there.1)); unmapped = λ p e. absurd (false≢true e); kept = λ p r k. refl };
  order = sym (filter_all (λ (p : ℕ). true) old.order (all_true old.order));
}

pub record IsStep (old new : RecencyView) (batch : List Planned) (lost : List Bool) (j : ℕ) : Type 0 where
  pub settled : IsSettledByReads old (read_entries (drop j batch) (drop j lost)) new
  pub lawful : (i : ℕ) (d : Planned) → i < j → IsLawfulEntry new (get_or batch i d)

after_place : (batch : List Planned) (lost : List Bool) (j : ℕ) (r : Planned) → Contains (read_entries (drop (suc j) batch) (drop (suc j) lost)) r
    → (k : ℕ) × (j < k) × (k < length batch) × (get_or batch k r ≡ r)
after_place batch lost j r there =
    let c = read_among (drop (suc j) batch) (drop (suc j) lost) r there in
    let inside : c.0 < length (drop (suc j) batch) = c.1 in
    (suc j + c.0, omega arith, omega (arith, length-drop (suc j) batch), sym (get_or-drop (suc j) batch c.0 r) ∙ c.2)

pub settle_step : (old now new : RecencyView) (batch : List Planned) (lost : List Bool) (j : ℕ) (d e : Planned) (b : Bool) → j < length batch
    → length lost ≡ length batch
    → b ≡ get_or lost j b → e ≡ get_or batch j e → IsLawfulBatch old batch → IsRecencyTable old → IsRecencyTable now
    → IsSettledByReads old (read_entries (drop (suc j) batch) (drop (suc j) lost)) now → ((i : ℕ) (d : Planned) → i < suc j → IsLawfulEntry now (get_or batch i d))
    → new ≡ cond b now (applied now e) → IsStep old new batch lost j
settle_step old now new batch lost j d e true inside lengths is at laws begun h s l step = record {
  settled =
      let ls : drop j lost ≡ true ∷ drop (suc j) lost = drop-cons lost j true (omega arith) ∙ ap (λ (b : Bool). b ∷ drop (suc j) lost) (sym is) in
      let bs : drop j batch ≡ get_or batch j e ∷ drop (suc j) batch = drop-cons batch j e inside in
      rw (step, bs, ls) s;
  lawful = λ i d below. rw step (l i d (omega arith));
}
settle_step old now new batch lost j d e false inside lengths is at laws begun h s l step = record {
  settled =
      let ls : drop j lost ≡ false ∷ drop (suc j) lost = drop-cons lost j false (omega arith) ∙ ap (λ (b : Bool). b ∷ drop (suc j) lost) (sym is) in
      let bs : drop j batch ≡ e ∷ drop (suc j) batch = drop-cons batch j e inside ∙ ap (λ (x : Planned). x ∷ drop (suc j) batch) (sym at) in
      let first : IsLawfulEntry old e = subst (IsLawfulEntry old) (sym at) (laws.each j e inside) in
      rw (step, bs, ls) (settled_more old now (read_entries (drop (suc j) batch) (drop (suc j) lost)) e h s first mine
      (λ r there. let p = after_place batch lost j r there in subst (IsLawfulEntry old) p.3 (laws.each p.0 r p.2)) begun
      (λ r there same. let p = after_place batch lost j r there in
      (laws.apart j p.0 e p.1 p.2).1 (ap (λ (x : Planned). x.frame) (sym at) ∙ sym same ∙ ap (λ (x : Planned). x.frame) (sym p.3)
      ∙ ap (λ (x : Planned). x.frame) (get_or_default batch p.0 r e p.2))));
  lawful = λ i d below. rw step (still_lawful now e (get_or batch i d) h mine (l i d (omega arith))
      (λ same. (laws.apart i j d below inside).0 (same ∙ ap (λ (x : Planned). x.page) (at ∙ get_or_default batch j e d inside)))
      (λ same. (laws.apart i j d below inside).1 (same ∙ ap (λ (x : Planned). x.frame) (at ∙ get_or_default batch j e d inside))));
} where
  mine : IsLawfulEntry now e
  mine = subst (IsLawfulEntry now) (sym at) (l j e (omega arith))

-- what a place of a list gives
pub read_at : {X : Type 0} (xs : List X) (i : ℕ) (x : X) → slice_get xs i ≡ Some x → x ≡ get_or xs i x
read_at xs i x e = sym (get_or_from_slice_get xs i x x e)

pub nothing_read : (old : RecencyView) (batch : List Planned) (lost : List Bool)
    → IsSettledByReads old (read_entries (drop (length batch) batch) (drop (length batch) lost)) old
nothing_read old batch lost = rw (drop-length batch) (settled_none old)

-- what a page of the order is
pub record IsOrdered (v : RecencyView) (x : ℕ) : Type 0 where
  pub inside : x < pages_of v.shape
  pub mapped : 0 < slice_index v.entries x

pub first_of_and : (b c : Bool) → (b && c) ≡ true → b ≡ true
first_of_and true c h = refl
first_of_and false c h = absurd (false≢true h)

pub positive : (n : ℕ) → nat_lt 0 n ≡ true → 0 < n
positive n h = grind (arith, nat_tests)

pub order_facts : (v : RecencyView) (k d : ℕ) → IsRecencyTable v → k < length v.order → IsOrdered v (get_or v.order k d)
order_facts v k d h below =
    let x : ℕ = get_or v.order k d in
    let there : is_in v.order (get_or v.order k d) ≡ true = list_any_at (nat_eq (get_or v.order k d)) v.order k d below (self_eq (get_or v.order k d)) in
    let loose : is_loose v (get_or v.order k d) ≡ true = sym (h.in_order (get_or v.order k d)) ∙ there in
    let mapped : 0 < slice_index v.entries (get_or v.order k d) = positive (slice_index v.entries (get_or v.order k d))
    (first_of_and (has_frame v.entries (get_or v.order k d)) (not (is_pinned v (get_or v.order k d))) loose) in
    record {
      inside = elim (cases_lt (get_or v.order k d) (pages_of v.shape)) [
        | inl below ↦ below
        | inr past ↦ absurd (let zero : slice_index v.entries (get_or v.order k d) ≡ 0 = get_or_past v.entries (get_or v.order k d) 0
            (omega (arith, h.entries_for_all)) in omega arith)
      ];
      mapped = mapped;
    }
