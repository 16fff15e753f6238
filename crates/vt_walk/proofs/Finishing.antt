-- A settled picture that is finished has all the pages that it needs.
use Rattle.std.proofs.Common.{◌≡◌, ℕ, zero, suc, ◌+◌, ◌-◌, ◌<◌, ◌≤◌, ◌⊎◌, inl, inr, Bool, true, false, not, ◌&&◌, ◌||◌, ◌==◌, nat_eq, nat_lt, nat_le, List, [], ◌∷◌, ◌++◌, length, map, reverse, get_or, refl, sym, ap, ◌∙◌, subst, length-append, arith}
use Rattle.std.specs.Prelude.{slice_index}
use Rattle.std.specs.List.{filter, list_any, IsDistinct, range_with_len}
use Rattle.std.specs.Cmp.{nat_eq_equiv}
use Rattle.std.proofs.lemmas.Bool.{false≢true, cases_lt}
use Rattle.std.proofs.lemmas.Bool.Decides.{nat_tests}
use Rattle.std.proofs.lemmas.List.{length-map}
use Rattle.std.proofs.lemmas.List.FromFn.{length-range_with_len, length-map-range_with_len}
use Rattle.std.proofs.lemmas.List.Sums.{length-filter}
use Rattle.std.proofs.lemmas.Map.Made.{length-le_from_is_member}
use Rattle.vt_pages.specs.Shape.{Shape}
use Rattle.vt_pages.specs.Pages.{pages_of, ancestors_of, level_of}
use Rattle.vt_pages.specs.Lookups.{next_finer_page}
use Rattle.vt_pages.proofs.Parents.{line_begins}
use Rattle.vt_feedback.specs.declared.Wanted.{Wanted}
use Rattle.vt_feedback.specs.Wants.{pages_wanted, IsWants, is_before}
use Rattle.vt_feedback.proofs.OrderedLists.{ordered_are_one}
use Rattle.vt_evict.specs.PlanTypes.batches.Planned.{Planned}
use Rattle.vt_plan.specs.Orders.{line_pages}
use Rattle.vt_evict.specs.PageLists.{is_in, each_once}
use Rattle.vt_plan.specs.Views.{RecencyView, IsRecencyTable, is_pinned, is_held, frame_of, free_frames, pages_needed}
use Rattle.vt_evict.specs.Missing.{has_frame, missing_from}
use Rattle.vt_plan.specs.Plans.{missing_pages, candidates, planned_at, planned_count, plan_of}
use Rattle.vt_evict.proofs.ListLemmas.{is_in-append, is_in-reverse, absent, range_once}
use Rattle.vt_evict.proofs.PlanListLemmas.{nat_eq_true, is_in-filter}
use Rattle.vt_evict.proofs.FreeLemmas.{is_in-range}
use Rattle.vt_evict.proofs.LineOrders.{in_lines}
use Rattle.vt_evict.proofs.SettleLemmas.{self_eq, held_by}

one_way : (lx ly px py ix iy : ℕ) → nat_lt ly lx || (lx == ly && (nat_lt py px || (px == py && nat_lt ix iy))) ≡ true
    → nat_lt lx ly || (ly == lx && (nat_lt px py || (py == px && nat_lt iy ix))) ≡ true → ⊥
one_way lx ly px py ix iy h k = grind (arith, nat_tests)

-- there is one wanted list
pub wants_one : (s : Shape) (pixels : ℕ → ℕ) (a b : List Wanted) → IsWants s pixels a → IsWants s pixels b → a ≡ b
wants_one s pixels a b ha hb =
    ordered_are_one (λ x y. is_before s x y ≡ true) (λ x y. one_way (level_of s x.page) (level_of s y.page) x.pixels y.pixels x.page y.page) a b
    ha.ordered hb.ordered
    (λ w there. (hb.exact w).1 ((ha.exact w).0 there)) (λ w there. (ha.exact w).1 ((hb.exact w).0 there))

in_none : {P : Type 0} (xs : List ℕ) (x : ℕ) → xs ≡ [] → is_in xs x ≡ true → P
in_none xs x none there = absurd (false≢true (sym (ap (λ (l : List ℕ). is_in l x) none) ∙ there))

or_true : (b c : Bool) → c ≡ true → (b || c) ≡ true
or_true true c e = refl
or_true false c e = e

or_false : (b c : Bool) → b ≡ true → (b || c) ≡ true
or_false true c e = refl
or_false false c e = absurd (false≢true e)

both : (b c : Bool) → b ≡ true → c ≡ true → (b && c) ≡ true
both true c e f = f
both false c e f = e

in_map : (g : ℕ → ℕ) (zs : List ℕ) (p : ℕ) → is_in zs p ≡ true → is_in (map g zs) (g p) ≡ true
in_map g [] p there = there
in_map g (z ∷ zs) p there = pick (nat_eq p z) refl there (in_map g zs p) where
  pick : (b : Bool) → nat_eq p z ≡ b → (b || is_in zs p) ≡ true → (is_in zs p ≡ true → is_in (map g zs) (g p) ≡ true)
      → (nat_eq (g p) (g z) || is_in (map g zs) (g p)) ≡ true
  pick true same rest more = or_false (nat_eq (g p) (g z)) (is_in (map g zs) (g p)) (ap (nat_eq (g p)) (ap g (sym (nat_eq_true p z same))) ∙ self_eq (g p))
  pick false other rest more = or_true (nat_eq (g p) (g z)) (is_in (map g zs) (g p)) (more rest)

past : (xs : List ℕ) (k : ℕ) → length xs ≤ k → get_or xs k 0 ≡ 0
past [] k few = refl
past (x ∷ xs) zero few = absurd (omega (arith, few))
past (x ∷ xs) (suc k) few = past xs k (omega (arith, few))

in_range : (p a n : ℕ) → p < a → nat_le a (p + n) ≡ true → n ≤ a → (nat_le (a - n) p && nat_lt p (a - n + n)) ≡ true
in_range p a n below above few = grind (arith, nat_tests)

lt_true : (n : ℕ) → 0 < n → nat_lt 0 n ≡ true
lt_true n h = grind (arith, nat_tests)

-- where no frame is free, the pages that may move are as many as the frames beside the pinned ones
all_held : (v : RecencyView) → IsRecencyTable v → free_frames v ≡ [] → v.frames ≤ v.pinned + length v.order
unfolding free_frames
all_held v table none =
    let pins : List ℕ = range_with_len (pages_of v.shape - v.pinned) v.pinned in
    let few = length-le_from_is_member nat_eq_equiv (range_with_len 0 v.frames) (map (frame_of v.entries) (pins ++ v.order)) (range_once 0 v.frames) held in
    omega (
      arith,
      few,
      length-range_with_len 0 v.frames,
      length-map (pins
          ++ v.order) (frame_of v.entries),
      length-append pins v.order,
      length-range_with_len (pages_of v.shape - v.pinned) v.pinned,
    ) where
      page_in : (p f : ℕ) → slice_index v.entries p ≡ f + 1 → is_in (range_with_len (pages_of v.shape - v.pinned) v.pinned ++ v.order) p ≡ true
      page_in p f at = is_in-append (range_with_len (pages_of v.shape - v.pinned) v.pinned) v.order p ∙ pick (is_pinned v p) refl where
        inside : p < pages_of v.shape
        inside = elim (cases_lt p (pages_of v.shape)) [
          | inl below ↦ below
          | inr beyond ↦ absurd (let e = past v.entries p (omega (arith, table.entries_for_all, beyond)) in omega (arith, e, at))
        ]

        pick : (b : Bool) → is_pinned v p ≡ b → (is_in (range_with_len (pages_of v.shape - v.pinned) v.pinned) p || is_in v.order p) ≡ true
        pick true pinned = or_false (is_in (range_with_len (pages_of v.shape - v.pinned) v.pinned) p) (is_in v.order p)
            (is_in-range (pages_of v.shape - v.pinned) v.pinned p ∙ in_range p (pages_of v.shape) v.pinned inside pinned table.enough_pages)
        pick false loose = or_true (is_in (range_with_len (pages_of v.shape - v.pinned) v.pinned) p) (is_in v.order p)
            (table.in_order p ∙ both (has_frame v.entries p) (not (is_pinned v p)) (lt_true (slice_index v.entries p) (omega (arith, at))) (ap not loose))

      held : (f : ℕ) → is_in (range_with_len 0 v.frames) f ≡ true
          → is_in (map (frame_of v.entries) (range_with_len (pages_of v.shape - v.pinned) v.pinned ++ v.order)) f ≡ true
      held f there = pick (is_held v.entries f) refl where
        pick : (b : Bool) → is_held v.entries f ≡ b → is_in (map (frame_of v.entries) (range_with_len (pages_of v.shape - v.pinned) v.pinned
            ++ v.order)) f ≡ true
        pick false free = in_none _ f none (is_in-filter (λ g. not (is_held v.entries g)) (range_with_len 0 v.frames) f
            ∙ both (is_in (range_with_len 0 v.frames) f) (not (is_held v.entries f)) there (ap not free))
        pick true taken =
            let p = held_by v.entries f taken in
            let same : frame_of v.entries p.0 ≡ f = omega (arith, p.1) in
            subst (λ g. is_in (map (frame_of v.entries) (range_with_len (pages_of v.shape - v.pinned) v.pinned ++ v.order)) g ≡ true) same
            (in_map (frame_of v.entries) (range_with_len (pages_of v.shape - v.pinned) v.pinned ++ v.order) p.0 (page_in p.0 f p.1))

-- where no page may be given up, a missing page of a line is one page more than those that may move
one_more : (v : RecencyView) (wants : List Wanted) (q : ℕ) → IsRecencyTable v → candidates v wants ≡ [] → q < pages_of v.shape
    → is_in (line_pages v.shape (pages_wanted wants)) q ≡ true → has_frame v.entries q ≡ false → length v.order + 1 ≤ pages_needed v wants
unfolding IsDistinct candidates pages_needed line_pages
one_more v wants q table none inside wanted missing =
    let lines : List ℕ = line_pages v.shape (pages_wanted wants) in
    let few = length-le_from_is_member nat_eq_equiv (q ∷ v.order) (filter (λ p. not (is_pinned v p)) (line_pages v.shape (pages_wanted wants)))
    (absent q v.order (table.in_order q ∙ ap (λ b. b && not (is_pinned v q)) missing), table.once) covered in
    omega (arith, few, length-filter (λ p. not (is_pinned v p)) (line_pages v.shape (pages_wanted wants))) where
      unpinned : (b : Bool) → is_pinned v q ≡ b → is_pinned v q ≡ false
      unpinned true pinned = absurd (false≢true (sym missing ∙ table.pinned_mapped q inside pinned))
      unpinned false loose = loose

      needed : (x : ℕ) → is_in (line_pages v.shape (pages_wanted wants)) x ≡ true → is_pinned v x ≡ false
          → is_in (filter (λ p. not (is_pinned v p)) (line_pages v.shape (pages_wanted wants))) x ≡ true
      needed x there loose = is_in-filter (λ p. not (is_pinned v p)) (line_pages v.shape (pages_wanted wants)) x ∙ both _ _ there (ap not loose)

      not_pinned : (a b : Bool) → (a && not b) ≡ true → b ≡ false
      not_pinned true true e = absurd (false≢true e)
      not_pinned true false e = refl
      not_pinned false b e = absurd (false≢true e)

      in_line : (x : ℕ) → is_in v.order x ≡ true → (b : Bool) → is_in (line_pages v.shape (pages_wanted wants)) x ≡ b
          → is_in (line_pages v.shape (pages_wanted wants)) x ≡ true
      in_line x there true is = is
      in_line x there false is = in_none _ x none (is_in-filter (λ p. not (is_in (line_pages v.shape (pages_wanted wants)) p)) (reverse v.order) x
          ∙ both _ _ (is_in-reverse v.order x ∙ there) (ap not is))

      covered : (x : ℕ) → is_in (q ∷ v.order) x ≡ true → is_in (filter (λ p. not (is_pinned v p)) (line_pages v.shape (pages_wanted wants))) x ≡ true
      covered x there = pick (nat_eq x q) refl there where
        pick : (b : Bool) → nat_eq x q ≡ b → (b || is_in v.order x) ≡ true
            → is_in (filter (λ p. not (is_pinned v p)) (line_pages v.shape (pages_wanted wants))) x ≡ true
        pick true same rest = subst (λ y. is_in (filter (λ p. not (is_pinned v p)) (line_pages v.shape (pages_wanted wants))) y ≡ true)
            (sym (nat_eq_true x q same)) (needed q wanted (unpinned (is_pinned v q) refl))
        pick false other rest = needed x (in_line x rest _ refl) (not_pinned (has_frame v.entries x) (is_pinned v x) (sym (table.in_order x) ∙ rest))

-- nothing is planned where nothing is missing, or where no frame is free and no page may be given up
planned_none : (v : RecencyView) (wants : List Wanted) (q : ℕ) → 1 ≤ q → plan_of v wants q ≡ []
    → (missing_pages v wants ≡ []) ⊎ ((free_frames v ≡ []) × (candidates v wants ≡ []))
unfolding plan_of
planned_none v wants q some none = pick (missing_pages v wants) (free_frames v) (candidates v wants) count where
  count : planned_count q (missing_pages v wants) (free_frames v) (candidates v wants) ≡ 0
  count = sym (length-map-range_with_len (planned_at v.entries (missing_pages v wants) (free_frames v) (candidates v wants)) 0
      (planned_count q (missing_pages v wants) (free_frames v) (candidates v wants)))
      ∙ ap (λ (l : List Planned). length l) none

  pick : (a b c : List ℕ) → planned_count q a b c ≡ 0 → (a ≡ []) ⊎ ((b ≡ []) × (c ≡ []))
  pick [] b c e = inl refl
  pick (x ∷ a) [] [] e = inr (refl, refl)
  pick (x ∷ a) (y ∷ b) c e = absurd (omega (arith, e, some))
  pick (x ∷ a) [] (z ∷ c) e = absurd (omega (arith, e, some))

none_before : (f : ℕ → ℕ) (xs : List ℕ) → each_once (map f xs) ≡ [] → xs ≡ []
none_before f [] e = refl
none_before f (x ∷ xs) e = absurd (let n : length (each_once (map f (x ∷ xs))) ≡ 0 = ap (λ (l : List ℕ). length l) e in omega (arith, n))

-- a wanted page is mapped, where nothing is planned though the picture fits
pub mapped_if_none : (v : RecencyView) (wants : List Wanted) (q p : ℕ) → IsRecencyTable v → 1 ≤ q → plan_of v wants q ≡ [] → pages_needed v wants ≤ v.frames - v.pinned
    → p < pages_of v.shape → is_in (pages_wanted wants) p ≡ true → has_frame v.entries p ≡ true
unfolding missing_pages missing_from
mapped_if_none v wants q p table some none fits inside wanted = pick (has_frame v.entries p) refl (planned_none v wants q some none) where
  own : is_in (ancestors_of v.shape p) p ≡ true
  own = let l = line_begins v.shape p table.limits inside in ap (λ (xs : List ℕ). is_in xs p) l.1 ∙ or_false (nat_eq p p) (is_in l.0 p) (self_eq p)

  any : (ps : List ℕ) → is_in ps p ≡ true → list_any (λ r. is_in (ancestors_of v.shape r) p) ps ≡ true
  any [] there = there
  any (r ∷ ps) there = test (nat_eq p r) refl there (any ps) where
    test : (b : Bool) → nat_eq p r ≡ b → (b || is_in ps p) ≡ true → (is_in ps p ≡ true → list_any (λ r. is_in (ancestors_of v.shape r) p) ps ≡ true)
        → (is_in (ancestors_of v.shape r) p || list_any (λ r. is_in (ancestors_of v.shape r) p) ps) ≡ true
    test true same rest more = or_false _ _ (ap (λ k. is_in (ancestors_of v.shape k) p) (sym (nat_eq_true p r same)) ∙ own)
    test false other rest more = or_true _ _ (more rest)

  pick : (b : Bool) → has_frame v.entries p ≡ b → (each_once (map (next_finer_page v.shape (has_frame v.entries))
      (filter (λ p. not (has_frame v.entries p)) (pages_wanted wants))) ≡ [])
      ⊎ ((free_frames v ≡ []) × (candidates v wants ≡ [])) → has_frame v.entries p ≡ true
  pick true is why = is
  pick false is (inl nothing) = in_none _ p (none_before (next_finer_page v.shape (has_frame v.entries)) _ nothing)
      (is_in-filter (λ p. not (has_frame v.entries p)) (pages_wanted wants) p ∙ both _ _ wanted (ap not is))
  pick false is (inr full) = absurd (omega (
    arith,
    fits,
    all_held v table full.0,
    one_more v wants p table full.1 inside (in_lines v.shape (pages_wanted wants) p ∙ any (pages_wanted wants) wanted) is,
  ))
