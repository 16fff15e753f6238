-- A picture that fits has frames for all its missing pages.
use Rattle.std.proofs.Common.{◌≡◌, ℕ, zero, suc, ◌+◌, ◌-◌, ◌<◌, ◌≤◌, inl, inr, Bool, true, false, not, ◌&&◌, ◌||◌, nat_eq, nat_lt, nat_le, List, [], ◌∷◌, ◌++◌, length, map, reverse, get_or, min, refl, sym, ap, ◌∙◌, subst, length-append, arith}
use Rattle.std.specs.Prelude.{slice_index}
use Rattle.std.specs.List.{All, AllByRecursion, filter, list_any, IsDistinct, range_with_len}
use Rattle.std.specs.Cmp.{nat_eq_equiv}
use Rattle.std.proofs.lemmas.Bool.{false≢true, cases_lt}
use Rattle.std.proofs.lemmas.Bool.Decides.{nat_tests}
use Rattle.std.proofs.lemmas.List.{length-map, length-reverse}
use Rattle.std.proofs.lemmas.List.Elements.{recursion_from_All, All-map}
use Rattle.std.proofs.lemmas.List.Filters.{length-filter_both}
use Rattle.std.proofs.lemmas.List.FromFn.{length-range_with_len, length-map-range_with_len}
use Rattle.std.proofs.lemmas.List.Sorted.{IsPermutation-reverse}
use Rattle.std.proofs.lemmas.List.Sums.{length-filter}
use Rattle.std.proofs.lemmas.Map.Keys.{IsDistinct-IsPermutation}
use Rattle.std.proofs.lemmas.Map.Made.{length-le_from_is_member}
use Rattle.vt_machine.specs.Shape.{Shape}
use Rattle.vt_machine.specs.Pages.{levels_of, pages_of, ancestors_of, level_of}
use Rattle.vt_machine.specs.Lookups.{next_finer_page}
use Rattle.vt_machine.proofs.Parents.{level_below}
use Rattle.vt_walk.specs.FeedbackTypes.Wanted.{Wanted}
use Rattle.vt_walk.specs.Wants.{pages_wanted}
use Rattle.vt_machine.specs.Orders.{line_pages}
use Rattle.vt_machine.specs.PageLists.{is_in}
use Rattle.vt_walk.specs.Views.{RecencyView, IsRecencyTable, is_pinned, is_held, frame_of, free_frames, pages_needed}
use Rattle.vt_machine.specs.Missing.{has_frame, missing_from}
use Rattle.vt_walk.specs.Plans.{missing_pages, candidates, planned_at, planned_count, plan_of}
use Rattle.vt_machine.proofs.ListLemmas.{nat_eq_swap, is_in-append, is_in-reverse, each_once_distinct, distinct-filter, distinct-append, range_once}
use Rattle.vt_machine.proofs.PlanListLemmas.{nat_eq_true, is_in-filter, is_in-each_once}
use Rattle.vt_machine.proofs.FreeLemmas.{is_in-range}
use Rattle.vt_machine.proofs.LineOrders.{in_lines}
use Rattle.vt_machine.proofs.SettleLemmas.{self_eq, held_by}
use Rattle.vt_walk_laws.proofs.LineFronts.{IsStep, front_in, step_is}

pub or_right : (b c : Bool) → c ≡ true → (b || c) ≡ true
or_right true c e = refl
or_right false c e = e

pub or_left : (b c : Bool) → b ≡ true → (b || c) ≡ true
or_left true c e = refl
or_left false c e = absurd (false≢true e)

pub both : (b c : Bool) → b ≡ true → c ≡ true → (b && c) ≡ true
both true c e f = f
both false c e f = absurd (false≢true e)

pub first_true : (b c : Bool) → (b && c) ≡ true → b ≡ true
first_true true c e = refl
first_true false c e = e

pub second_true : (b c : Bool) → (b && c) ≡ true → c ≡ true
second_true true c e = e
second_true false c e = absurd (false≢true e)

pub not_true : (b : Bool) → not b ≡ true → b ≡ false
not_true true e = absurd (false≢true e)
not_true false e = refl

pub in_map : (g : ℕ → ℕ) (zs : List ℕ) (p : ℕ) → is_in zs p ≡ true → is_in (map g zs) (g p) ≡ true
in_map g [] p there = there
in_map g (z ∷ zs) p there = pick (nat_eq p z) refl there (in_map g zs p) where
  pick : (b : Bool) → nat_eq p z ≡ b → (b || is_in zs p) ≡ true → (is_in zs p ≡ true → is_in (map g zs) (g p) ≡ true)
      → (nat_eq (g p) (g z) || is_in (map g zs) (g p)) ≡ true
  pick true same rest more = or_left (nat_eq (g p) (g z)) (is_in (map g zs) (g p)) (ap (nat_eq (g p)) (ap g (sym (nat_eq_true p z same))) ∙ self_eq (g p))
  pick false other rest more = or_right (nat_eq (g p) (g z)) (is_in (map g zs) (g p)) (more rest)

pub from_map : (g : ℕ → ℕ) (zs : List ℕ) (x : ℕ) → is_in (map g zs) x ≡ true → (p : ℕ) × (is_in zs p ≡ true) × (g p ≡ x)
from_map g [] x there = absurd (false≢true there)
from_map g (z ∷ zs) x there = pick (nat_eq x (g z)) refl there (from_map g zs x) where
  pick : (b : Bool) → nat_eq x (g z) ≡ b → (b || is_in (map g zs) x) ≡ true → (is_in (map g zs) x ≡ true → (p : ℕ) × (is_in zs p ≡ true) × (g p ≡ x))
      → (p : ℕ) × (is_in (z ∷ zs) p ≡ true) × (g p ≡ x)
  pick true same rest more = (z, or_left (nat_eq z z) (is_in zs z) (self_eq z), sym (nat_eq_true x (g z) same))
  pick false other rest more = let h = more rest in (h.0, or_right (nat_eq h.0 z) (is_in zs h.0) h.1, h.2)

-- a missing page is the next finer page of an unmapped wanted page
pub record IsMissing (v : RecencyView) (wants : List Wanted) (x : ℕ) : Type 0 where
  pub page : ℕ
  pub wanted : is_in (pages_wanted wants) page ≡ true
  pub unmapped : has_frame v.entries page ≡ false
  pub step : IsStep v.shape (has_frame v.entries) page x

-- all wanted pages are pages
abbrev pub ArePages : RecencyView → List Wanted → Type 0
ArePages v wants = (p : ℕ) → is_in (pages_wanted wants) p ≡ true → p < pages_of v.shape

in_all : (ps : List ℕ) (n p : ℕ) → AllByRecursion (λ q. q < n) ps → is_in ps p ≡ true → p < n
in_all [] n p h there = absurd (false≢true there)
in_all (q ∷ ps) n p h there = pick (nat_eq p q) refl there (in_all ps n p h.1) where
  pick : (b : Bool) → nat_eq p q ≡ b → (b || is_in ps p) ≡ true → (is_in ps p ≡ true → p < n) → p < n
  pick true same rest more = subst (λ k. k < n) (sym (nat_eq_true p q same)) h.0
  pick false other rest more = more rest

pub are_pages : (v : RecencyView) (wants : List Wanted) → All (λ w. w.page < pages_of v.shape) wants → ArePages v wants
are_pages v wants inside p there =
    in_all (pages_wanted wants) (pages_of v.shape) p (recursion_from_All (λ q. q < pages_of v.shape) (pages_wanted wants)
    (All-map (λ q. q < pages_of v.shape) (λ w. w.page) wants inside)) there

pub missing_is : (v : RecencyView) (wants : List Wanted) (x : ℕ) → IsRecencyTable v → ArePages v wants → is_in (missing_pages v wants) x ≡ true → IsMissing v wants x
unfolding missing_pages missing_from
missing_is v wants x table inside there =
    let t : ℕ → Bool = λ p. not (has_frame v.entries p) in
    let found = from_map (next_finer_page v.shape (has_frame v.entries)) (filter (λ p. not (has_frame v.entries p)) (pages_wanted wants)) x
    (sym (is_in-each_once (map (next_finer_page v.shape (has_frame v.entries)) (filter (λ p. not (has_frame v.entries p)) (pages_wanted wants))) x) ∙ there) in
    let parts = sym (is_in-filter (λ p. not (has_frame v.entries p)) (pages_wanted wants) found.0) ∙ found.1 in
    let wanted : is_in (pages_wanted wants) found.0 ≡ true = first_true (is_in (pages_wanted wants) found.0) (not (has_frame v.entries found.0)) parts in
    let low : has_frame v.entries found.0 ≡ false = not_true (has_frame v.entries found.0)
    (second_true (is_in (pages_wanted wants) found.0) (not (has_frame v.entries found.0)) parts) in
    let page : found.0 < pages_of v.shape = inside found.0 wanted in
    let below = level_below v.shape found.0 table.limits page in
    record {
      page = found.0;
      wanted = wanted;
      unmapped = low;
      step = subst (IsStep v.shape (has_frame v.entries) found.0) found.2
          (step_is v.shape (has_frame v.entries) (levels_of v.shape - 1 - level_of v.shape found.0) found.0 table.limits (omega (arith, below)) page low);
    }

-- what is in a wanted page's line is in the lines
pub in_wanted_lines : (s : Shape) (ps : List ℕ) (p x : ℕ) → is_in ps p ≡ true → is_in (ancestors_of s p) x ≡ true → is_in (line_pages s ps) x ≡ true
in_wanted_lines s ps p x there line = in_lines s ps x ∙ any ps there where
  any : (qs : List ℕ) → is_in qs p ≡ true → list_any (λ q. is_in (ancestors_of s q) x) qs ≡ true
  any [] h = h
  any (q ∷ qs) h = pick (nat_eq p q) refl h (any qs) where
    pick : (b : Bool) → nat_eq p q ≡ b → (b || is_in qs p) ≡ true → (is_in qs p ≡ true → list_any (λ r. is_in (ancestors_of s r) x) qs ≡ true)
        → (is_in (ancestors_of s q) x || list_any (λ r. is_in (ancestors_of s r) x) qs) ≡ true
    pick true same rest more = or_left _ _ (ap (λ k. is_in (ancestors_of s k) x) (sym (nat_eq_true p q same)) ∙ line)
    pick false other rest more = or_right _ _ (more rest)

past : (xs : List ℕ) (k : ℕ) → length xs ≤ k → get_or xs k 0 ≡ 0
past [] k few = refl
past (x ∷ xs) zero few = absurd (omega (arith, few))
past (x ∷ xs) (suc k) few = past xs k (omega (arith, few))

in_range : (p a n : ℕ) → p < a → nat_le a (p + n) ≡ true → n ≤ a → (nat_le (a - n) p && nat_lt p (a - n + n)) ≡ true
in_range p a n below above few = grind (arith, nat_tests)

lt_true : (n : ℕ) → 0 < n → nat_lt 0 n ≡ true
lt_true n h = grind (arith, nat_tests)

abbrev pins_of : RecencyView → List ℕ
pins_of v = range_with_len (pages_of v.shape - v.pinned) v.pinned

holder_in : (v : RecencyView) (p f : ℕ) → IsRecencyTable v → slice_index v.entries p ≡ f + 1 → is_in (pins_of v ++ v.order) p ≡ true
holder_in v p f table at = is_in-append (pins_of v) v.order p ∙ pick (is_pinned v p) refl where
  inside : p < pages_of v.shape
  inside = elim (cases_lt p (pages_of v.shape)) [
    | inl below ↦ below
    | inr beyond ↦ absurd (let e = past v.entries p (omega (arith, table.entries_for_all, beyond)) in omega (arith, e, at))
  ]

  pick : (b : Bool) → is_pinned v p ≡ b → (is_in (pins_of v) p || is_in v.order p) ≡ true
  pick true pinned = or_left (is_in (pins_of v) p) (is_in v.order p)
      (is_in-range (pages_of v.shape - v.pinned) v.pinned p ∙ in_range p (pages_of v.shape) v.pinned inside pinned table.enough_pages)
  pick false loose = or_right (is_in (pins_of v) p) (is_in v.order p)
      (table.in_order p ∙ both (has_frame v.entries p) (not (is_pinned v p)) (lt_true (slice_index v.entries p) (omega (arith, at))) (ap not loose))

-- each frame is free, or that of a pinned page, or of one that may move
frames_held : (v : RecencyView) → IsRecencyTable v → v.frames ≤ v.pinned + length v.order + length (free_frames v)
unfolding free_frames
frames_held v table =
    let few = length-le_from_is_member nat_eq_equiv (range_with_len 0 v.frames) (free_frames v
    ++ map (frame_of v.entries) (pins_of v ++ v.order)) (range_once 0 v.frames) held in
    omega (
      arith,
      few,
      length-range_with_len 0 v.frames,
      length-append (free_frames v) (map (frame_of v.entries) (pins_of v ++ v.order)),
      length-map (pins_of v ++ v.order) (frame_of v.entries),
      length-append (pins_of v) v.order,
      length-range_with_len (pages_of v.shape - v.pinned) v.pinned,
    ) where
      held : (f : ℕ) → is_in (range_with_len 0 v.frames) f ≡ true → is_in (free_frames v ++ map (frame_of v.entries) (pins_of v ++ v.order)) f ≡ true
      held f there = is_in-append (free_frames v) (map (frame_of v.entries) (pins_of v ++ v.order)) f ∙ pick (is_held v.entries f) refl where
        pick : (b : Bool) → is_held v.entries f ≡ b → (is_in (free_frames v) f || is_in (map (frame_of v.entries) (pins_of v ++ v.order)) f) ≡ true
        pick false free = or_left (is_in (free_frames v) f) (is_in (map (frame_of v.entries) (pins_of v ++ v.order)) f)
            (is_in-filter (λ g. not (is_held v.entries g)) (range_with_len 0 v.frames) f
            ∙ both (is_in (range_with_len 0 v.frames) f) (not (is_held v.entries f)) there (ap not free))
        pick true taken =
            let p = held_by v.entries f taken in
            let same : frame_of v.entries p.0 ≡ f = omega (arith, p.1) in
            or_right (is_in (free_frames v) f) (is_in (map (frame_of v.entries) (pins_of v ++ v.order)) f)
            (subst (λ g. is_in (map (frame_of v.entries) (pins_of v ++ v.order)) g ≡ true) same (in_map (frame_of v.entries) (pins_of v
            ++ v.order) p.0 (holder_in v p.0 f table p.1)))

-- the pages of a list that are in the lines of wanted pages
abbrev in_lines_of : RecencyView → List Wanted → ℕ → Bool
in_lines_of v wants p = is_in (line_pages v.shape (pages_wanted wants)) p

abbrev needed_pages : RecencyView → List Wanted → List ℕ
needed_pages v wants = filter (λ p. not (is_pinned v p)) (line_pages v.shape (pages_wanted wants))

missing_needed : (v : RecencyView) (wants : List Wanted) (x : ℕ) → IsRecencyTable v → IsMissing v wants x → is_in (needed_pages v wants) x ≡ true
missing_needed v wants x table h =
    let line = front_in (has_frame v.entries) (ancestors_of v.shape h.page) x h.step.before in
    is_in-filter (λ p. not (is_pinned v p)) (line_pages v.shape (pages_wanted wants)) x
    ∙ both (in_lines_of v wants x) (not (is_pinned v x)) (in_wanted_lines v.shape (pages_wanted wants) h.page x h.wanted line.in_list)
    (ap not (unpinned (is_pinned v x) refl)) where
      unpinned : (b : Bool) → is_pinned v x ≡ b → is_pinned v x ≡ false
      unpinned true pinned = absurd (false≢true (sym h.step.unmapped ∙ table.pinned_mapped x h.step.inside pinned))
      unpinned false loose = loose

pub missing_distinct : (v : RecencyView) (wants : List Wanted) → IsDistinct nat_eq (missing_pages v wants)
unfolding missing_pages missing_from
missing_distinct v wants = each_once_distinct (map (next_finer_page v.shape (has_frame v.entries)) (filter (λ p. not (has_frame v.entries p)) (pages_wanted wants)))

twice : (b : Bool) → b ≡ not (not b)
twice true = refl
twice false = refl

-- missing pages, and those that are mapped and needed, are needed; the others that may move are candidates
pages_fit : (v : RecencyView) (wants : List Wanted) → IsRecencyTable v → ArePages v wants
    → length (missing_pages v wants) + length v.order ≤ pages_needed v wants + length (candidates v wants)
unfolding candidates pages_needed
pages_fit v wants table inside =
    let kept : List ℕ = filter (in_lines_of v wants) (reverse v.order) in
    let once : IsDistinct nat_eq (reverse v.order) = IsDistinct-IsPermutation nat_eq nat_eq_swap v.order (reverse v.order)
    (IsPermutation-reverse v.order) table.once in
    let few = length-le_from_is_member nat_eq_equiv (missing_pages v wants ++ kept) (needed_pages v wants)
    (distinct-append (missing_pages v wants) kept (missing_distinct v wants) (distinct-filter (in_lines_of v wants) (reverse v.order) once) apart) covered in
    let parts = length-filter_both (λ p. not (in_lines_of v wants p)) (in_lines_of v wants) (λ p. twice (in_lines_of v wants p)) (reverse v.order) in
    omega (
      arith,
      few,
      parts,
      length-reverse v.order,
      length-append (missing_pages v wants) (filter (in_lines_of v wants) (reverse v.order)),
      length-filter (λ p. not (is_pinned v p)) (line_pages v.shape (pages_wanted wants)),
    ) where
      ordered : (x : ℕ) → is_in (filter (in_lines_of v wants) (reverse v.order)) x ≡ true → (is_in v.order x && in_lines_of v wants x) ≡ true
      ordered x there = ap (λ b. b && in_lines_of v wants x) (sym (is_in-reverse v.order x))
          ∙ sym (is_in-filter (in_lines_of v wants) (reverse v.order) x) ∙ there

      loose : (x : ℕ) → is_in v.order x ≡ true → (has_frame v.entries x && not (is_pinned v x)) ≡ true
      loose x there = sym (table.in_order x) ∙ there

      apart : (x : ℕ) → is_in (missing_pages v wants) x ≡ true → is_in (filter (in_lines_of v wants) (reverse v.order)) x ≡ false
      apart x there = pick (is_in (filter (in_lines_of v wants) (reverse v.order)) x) refl where
        pick : (b : Bool) → is_in (filter (in_lines_of v wants) (reverse v.order)) x ≡ b → b ≡ false
        pick true e = absurd (false≢true (sym (missing_is v wants x table inside there).step.unmapped
            ∙ first_true (has_frame v.entries x) (not (is_pinned v x)) (loose x (first_true (is_in v.order x) (in_lines_of v wants x) (ordered x e)))))
        pick false e = refl

      covered : (x : ℕ) → is_in (missing_pages v wants ++ filter (in_lines_of v wants) (reverse v.order)) x ≡ true → is_in (needed_pages v wants) x ≡ true
      covered x there = pick (is_in (missing_pages v wants) x) refl
          (sym (is_in-append (missing_pages v wants) (filter (in_lines_of v wants) (reverse v.order)) x) ∙ there) where
            pick : (b : Bool) → is_in (missing_pages v wants) x ≡ b → (b || is_in (filter (in_lines_of v wants) (reverse v.order)) x) ≡ true
                → is_in (needed_pages v wants) x ≡ true
            pick true e rest = missing_needed v wants x table (missing_is v wants x table inside e)
            pick false e rest =
                is_in-filter (λ p. not (is_pinned v p)) (line_pages v.shape (pages_wanted wants)) x
                ∙ both (in_lines_of v wants x) (not (is_pinned v x)) (second_true (is_in v.order x) (in_lines_of v wants x) (ordered x rest))
                (second_true (has_frame v.entries x) (not (is_pinned v x)) (loose x (first_true (is_in v.order x) (in_lines_of v wants x) (ordered x rest))))

-- a plan for pages that fit has all that are missing, or as many as a batch may have
pub plan_full : (v : RecencyView) (wants : List Wanted) (q : ℕ) → IsRecencyTable v → ArePages v wants → pages_needed v wants ≤ v.frames - v.pinned
    → length (plan_of v wants q) ≡ min q (length (missing_pages v wants))
unfolding plan_of
plan_full v wants q table inside fits =
    let enough : length (missing_pages v wants) ≤ length (free_frames v) + length (candidates v wants) =
    omega (arith, fits, frames_held v table, pages_fit v wants table inside) in
    length-map-range_with_len (planned_at v.entries (missing_pages v wants) (free_frames v) (candidates v wants)) 0
    (planned_count q (missing_pages v wants) (free_frames v) (candidates v wants))
    ∙ omega (arith, enough)
