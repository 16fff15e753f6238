-- The pages of a plan, and what is left to load once they are mapped.
use Rattle.std.proofs.Common.{◌≡◌, ℕ, zero, suc, ◌+◌, ◌-◌, ◌<◌, ◌≤◌, Bool, true, false, not, cond, ◌||◌, nat_eq, nat_lt, None, List, [], ◌∷◌, ◌++◌, length, map, take, max, refl, sym, ap, ◌∙◌, subst, arith}
use Rattle.std.specs.Prelude.{slice_index, slice_get, Contains}
use Rattle.std.specs.List.{AllByRecursion, filter, flat_map, IsDistinct, range_with_len}
use Rattle.std.proofs.Math.Nat.{le-max_left, le-max_right, max-le}
use Rattle.std.proofs.lemmas.Bool.{false≢true}
use Rattle.std.proofs.lemmas.Bool.Decides.{nat_tests}
use Rattle.std.proofs.lemmas.List.{take_more}
use Rattle.std.proofs.lemmas.List.FromFn.{map-range_with_len_more}
use Rattle.vt_machine.specs.Shape.{Shape}
use Rattle.vt_machine.specs.Pages.{levels_of, pages_of, ancestors_of, level_of, IsWithinLimits}
use Rattle.vt_machine.specs.Lookups.{next_finer_page, pages_before}
use Rattle.vt_machine.proofs.Parents.{level_below, line_begins}
use Rattle.vt_walk.specs.FeedbackTypes.Wanted.{Wanted}
use Rattle.vt_walk.specs.Wants.{pages_wanted}
use Rattle.vt_machine.specs.PlanTypes.batches.Planned.{Planned}
use Rattle.vt_machine.specs.Orders.{line_pages}
use Rattle.vt_machine.specs.PageLists.{is_in, each_once}
use Rattle.vt_walk.specs.Views.{RecencyView, IsRecencyTable, free_frames}
use Rattle.vt_machine.specs.Missing.{has_frame, missing_from}
use Rattle.vt_machine.specs.Batches.{IsSettledTable, is_page, is_read, is_victim}
use Rattle.vt_walk.specs.Plans.{missing_pages, candidates, planned_at, planned_count, plan_of}
use Rattle.vt_machine.proofs.ListLemmas.{nat_eq_swap, is_in-append}
use Rattle.vt_machine.proofs.PlanListLemmas.{nat_eq_true, is_in-filter, is_in-each_once}
use Rattle.vt_machine.proofs.SettleLemmas.{self_eq, contains_tail}
use Rattle.vt_walk_laws.specs.PassCounts.{before_lookup, pages_to_load, most_before, batch_pages}
use Rattle.vt_walk_laws.proofs.LineFronts.{front, front_mapped, length-front, front_loaded, step_is, line_steps, each_once-filter, flat_map-filter}
use Rattle.vt_walk_laws.proofs.Frames.{or_left, or_right, both, second_true, not_true, in_map, ArePages, missing_is, missing_distinct, in_wanted_lines}

-- the first so many elements of a list
firsts : (xs : List ℕ) (n : ℕ) → n ≤ length xs → map (slice_index xs) (range_with_len 0 n) ≡ take n xs
firsts xs zero few = refl
firsts xs (suc n) few =
    let next : suc n ≡ n + 1 = omega arith in
    ap (λ k. map (slice_index xs) (range_with_len 0 k)) next ∙ map-range_with_len_more (slice_index xs) 0 n n (omega arith)
    ∙ ap (λ (l : List ℕ). l ++ slice_index xs n ∷ []) (firsts xs n (omega (arith, few)))
    ∙ sym (take_more xs n 0 (omega (arith, few))) ∙ ap (λ k. take k xs) (sym next)

map_twice : (g : ℕ → Planned) (f : ℕ → ℕ) (js : List ℕ) → ((j : ℕ) → (g j).page ≡ f j) → batch_pages (map g js) ≡ map f js
map_twice g f [] same = refl
map_twice g f (j ∷ js) same = ap (λ k. k ∷ batch_pages (map g js)) (same j) ∙ ap (λ (l : List ℕ). f j ∷ l) (map_twice g f js same)

-- a plan has the first of the missing pages
pub plan_pages : (v : RecencyView) (wants : List Wanted) (q : ℕ)
    → batch_pages (plan_of v wants q) ≡ take (planned_count q (missing_pages v wants) (free_frames v) (candidates v wants)) (missing_pages v wants)
unfolding plan_of
plan_pages v wants q =
    map_twice (planned_at v.entries (missing_pages v wants) (free_frames v) (candidates v wants)) (slice_index (missing_pages v wants))
    (range_with_len 0 (planned_count q (missing_pages v wants) (free_frames v) (candidates v wants))) (λ j. refl)
    ∙ firsts (missing_pages v wants) (planned_count q (missing_pages v wants) (free_frames v) (candidates v wants)) (omega arith)

take_in : (n : ℕ) (xs : List ℕ) (x : ℕ) → is_in (take n xs) x ≡ true → is_in xs x ≡ true
take_in zero xs x there = absurd (false≢true there)
take_in (suc n) [] x there = there
take_in (suc n) (y ∷ xs) x there = pick (nat_eq x y) refl there (take_in n xs x) where
  pick : (b : Bool) → nat_eq x y ≡ b → (b || is_in (take n xs) x) ≡ true → (is_in (take n xs) x ≡ true → is_in xs x ≡ true) → (nat_eq x y || is_in xs x) ≡ true
  pick true same rest more = or_left (nat_eq x y) (is_in xs x) same
  pick false other rest more = or_right (nat_eq x y) (is_in xs x) (more rest)

take_each : (P : ℕ → Type 0) (n : ℕ) (xs : List ℕ) → AllByRecursion P xs → AllByRecursion P (take n xs)
take_each P zero xs h = tt
take_each P (suc n) [] h = tt
take_each P (suc n) (y ∷ xs) h = (h.0, take_each P n xs h.1)

take_distinct : (n : ℕ) (xs : List ℕ) → IsDistinct nat_eq xs → IsDistinct nat_eq (take n xs)
unfolding IsDistinct
take_distinct zero xs h = tt
take_distinct (suc n) [] h = tt
take_distinct (suc n) (y ∷ xs) h = (take_each (λ z. nat_eq y z ≡ false) n xs h.0, take_distinct n xs h.1)

take_all : (n : ℕ) (xs : List ℕ) → length xs ≤ n → take n xs ≡ xs
take_all zero [] few = refl
take_all zero (x ∷ xs) few = absurd (omega (arith, few))
take_all (suc n) [] few = refl
take_all (suc n) (x ∷ xs) few = ap (λ (l : List ℕ). x ∷ l) (take_all n xs (omega (arith, few)))

pub plan_missing : (v : RecencyView) (wants : List Wanted) (q x : ℕ) → is_in (batch_pages (plan_of v wants q)) x ≡ true → is_in (missing_pages v wants) x ≡ true
plan_missing v wants q x there =
    take_in (planned_count q (missing_pages v wants) (free_frames v) (candidates v wants)) (missing_pages v wants) x
    (ap (λ (l : List ℕ). is_in l x) (sym (plan_pages v wants q)) ∙ there)

pub plan_distinct : (v : RecencyView) (wants : List Wanted) (q : ℕ) → IsDistinct nat_eq (batch_pages (plan_of v wants q))
plan_distinct v wants q = subst (IsDistinct nat_eq) (sym (plan_pages v wants q))
    (take_distinct (planned_count q (missing_pages v wants) (free_frames v) (candidates v wants)) (missing_pages v wants) (missing_distinct v wants))

pub length-pages : (batch : List Planned) → length (batch_pages batch) ≡ length batch
length-pages [] = refl
length-pages (e ∷ batch) = ap suc (length-pages batch)

-- a plan that has as many pages as are missing has them all
pub plan_all : (v : RecencyView) (wants : List Wanted) (q : ℕ) → length (missing_pages v wants) ≤ length (plan_of v wants q)
    → batch_pages (plan_of v wants q) ≡ missing_pages v wants
plan_all v wants q enough =
    let n : ℕ = planned_count q (missing_pages v wants) (free_frames v) (candidates v wants) in
    plan_pages v wants q ∙ take_all (planned_count q (missing_pages v wants) (free_frames v) (candidates v wants)) (missing_pages v wants)
    (at_least (planned_count q (missing_pages v wants) (free_frames v) (candidates v wants)) (missing_pages v wants)
    (ap (λ (l : List ℕ). length l) (plan_pages v wants q))) where
      few : (n : ℕ) (xs : List ℕ) → length (take n xs) ≤ n
      few zero xs = omega arith
      few (suc n) [] = omega arith
      few (suc n) (x ∷ xs) = omega (arith, few n xs)

      at_least : (n : ℕ) (xs : List ℕ) → length (batch_pages (plan_of v wants q)) ≡ length (take n xs) → length (missing_pages v wants) ≤ n
      at_least n xs e = omega (arith, enough, length-pages (plan_of v wants q), e, few n xs)

-- no victim of a plan is in a line of a wanted page
off_lines : (v : RecencyView) (wants : List Wanted) (x : ℕ) → is_in (line_pages v.shape (pages_wanted wants)) x ≡ true → is_in (candidates v wants) x ≡ false
unfolding candidates
off_lines v wants x line = pick (is_in (candidates v wants) x) refl where
  pick : (b : Bool) → is_in (candidates v wants) x ≡ b → is_in (candidates v wants) x ≡ false
  pick true e = absurd (false≢true (sym (not_true (is_in (line_pages v.shape (pages_wanted wants)) x)
      (second_true _ (not (is_in (line_pages v.shape (pages_wanted wants)) x))
      (sym (is_in-filter (λ p. not (is_in (line_pages v.shape (pages_wanted wants)) p)) _ x) ∙ e))) ∙ line))
  pick false e = e

no_page : (xs : List ℕ) (k x : ℕ) → is_in xs x ≡ false → is_page x (slice_get xs k) ≡ false
no_page [] k x none = refl
no_page (y ∷ xs) k x none = at k (nat_eq x y) refl none (λ j. no_page xs j x) where
  at : (k : ℕ) (b : Bool) → nat_eq x y ≡ b → (b || is_in xs x) ≡ false → ((j : ℕ) → is_in xs x ≡ false → is_page x (slice_get xs j) ≡ false)
      → is_page x (slice_get (y ∷ xs) k) ≡ false
  at k true e h rest = absurd (false≢true (sym h))
  at zero false e h rest = nat_eq_swap y x ∙ e
  at (suc k) false e h rest = rest k h

no_victim : (g : ℕ → Planned) (x : ℕ) (js : List ℕ) → ((j : ℕ) → is_page x (g j).victim ≡ false) → is_victim (map g js) x ≡ false
no_victim g x [] none = refl
no_victim g x (j ∷ js) none = rw (none j) (no_victim g x js none)

pub plan_spares : (v : RecencyView) (wants : List Wanted) (q x : ℕ) → is_in (line_pages v.shape (pages_wanted wants)) x ≡ true
    → is_victim (plan_of v wants q) x ≡ false
unfolding plan_of
plan_spares v wants q x line =
    no_victim (planned_at v.entries (missing_pages v wants) (free_frames v) (candidates v wants)) x
    (range_with_len 0 (planned_count q (missing_pages v wants) (free_frames v) (candidates v wants)))
    (λ j. at (nat_lt j (length (free_frames v))) (j - length (free_frames v))) where
      at : (b : Bool) (k : ℕ) → is_page x (cond b None (slice_get (candidates v wants) k)) ≡ false
      at true k = refl
      at false k = no_page (candidates v wants) k x (off_lines v wants x line)

pub read_is : (batch : List Planned) (x : ℕ) → is_read batch x ≡ is_in (batch_pages batch) x
read_is [] x = refl
read_is (e ∷ batch) x = ap (λ b. b || is_read batch x) (nat_eq_swap e.page x) ∙ ap (λ b. nat_eq x e.page || b) (read_is batch x)

read_entry : (batch : List Planned) (x : ℕ) → is_read batch x ≡ true → (e : Planned) × Contains batch e × (e.page ≡ x)
read_entry [] x is = absurd (false≢true is)
read_entry (e ∷ batch) x is = pick (nat_eq e.page x) refl is (read_entry batch x) where
  pick : (b : Bool) → nat_eq e.page x ≡ b → (b || is_read batch x) ≡ true → (is_read batch x ≡ true → (f : Planned) × Contains batch f × (f.page ≡ x))
      → (f : Planned) × Contains (e ∷ batch) f × (f.page ≡ x)
  pick true same rest more = (e, (zero, omega arith, refl), nat_eq_true e.page x same)
  pick false other rest more = let f = more rest in (f.0, contains_tail e batch f.0 f.1, f.2)

above_zero : (n m : ℕ) → n ≡ m + 1 → nat_lt 0 n ≡ true
above_zero n m e = grind (arith, nat_tests)

-- of the pages of lines those stay mapped that were, and those of the plan become so
pub mapped_by : (v u : RecencyView) (wants : List Wanted) (q x : ℕ) → IsSettledTable v.entries (plan_of v wants q) u.entries
    → is_in (line_pages v.shape (pages_wanted wants)) x ≡ true
    → has_frame u.entries x ≡ (has_frame v.entries x || is_in (batch_pages (plan_of v wants q)) x)
mapped_by v u wants q x settled line = pick (is_read (plan_of v wants q) x) refl where
  any : (b c : Bool) → c ≡ true → true ≡ (b || c)
  any b c e = sym (or_right b c e)

  none : (b c : Bool) → c ≡ false → b ≡ (b || c)
  none true c e = refl
  none false c e = sym e

  pick : (b : Bool) → is_read (plan_of v wants q) x ≡ b → has_frame u.entries x ≡ (has_frame v.entries x || is_in (batch_pages (plan_of v wants q)) x)
  pick true is = let e = read_entry (plan_of v wants q) x is in
      above_zero (slice_index u.entries x) e.0.frame (ap (slice_index u.entries) (sym e.2) ∙ settled.mapped e.0 e.1)
      ∙ any (has_frame v.entries x) (is_in (batch_pages (plan_of v wants q)) x) (sym (read_is (plan_of v wants q) x) ∙ is)
  pick false is = ap (nat_lt 0) (settled.kept x is (plan_spares v wants q x line))
      ∙ none (has_frame v.entries x) (is_in (batch_pages (plan_of v wants q)) x) (sym (read_is (plan_of v wants q) x) ∙ is)

-- the front of a wanted page's line, once a plan is loaded
pub front_after : (v u : RecencyView) (wants : List Wanted) (q p : ℕ) → IsRecencyTable v → ArePages v wants → IsSettledTable v.entries (plan_of v wants q) u.entries
    → is_in (pages_wanted wants) p ≡ true
    → before_lookup v.shape (has_frame u.entries) p ≡ filter (λ x. not (is_in (batch_pages (plan_of v wants q)) x))
    (before_lookup v.shape (has_frame v.entries) p)
front_after v u wants q p table inside settled wanted =
    let below = level_below v.shape p table.limits (inside p wanted) in
    front_loaded (has_frame v.entries) (has_frame u.entries) (is_in (batch_pages (plan_of v wants q))) (ancestors_of v.shape p)
    (λ x there. mapped_by v u wants q x settled (in_wanted_lines v.shape (pages_wanted wants) p x wanted there))
    (line_steps v.shape (has_frame v.entries) (is_in (batch_pages (plan_of v wants q))) (levels_of v.shape - 1 - level_of v.shape p) p table.limits
    (omega (arith, below)) (inside p wanted)
    (λ x r is. (missing_is v wants x table inside (plan_missing v wants q x is)).step.parent r))

pub left_after : (v u : RecencyView) (wants : List Wanted) (q : ℕ) → IsRecencyTable v → ArePages v wants → IsSettledTable v.entries (plan_of v wants q) u.entries
    → pages_to_load v.shape (has_frame u.entries) (pages_wanted wants)
    ≡ filter (λ x. not (is_in (batch_pages (plan_of v wants q)) x)) (pages_to_load v.shape (has_frame v.entries) (pages_wanted wants))
unfolding pages_to_load
left_after v u wants q table inside settled =
    ap each_once (flat_map-filter (λ x. not (is_in (batch_pages (plan_of v wants q)) x)) (before_lookup v.shape (has_frame v.entries))
    (before_lookup v.shape (has_frame u.entries)) (pages_wanted wants)
    (λ p wanted. front_after v u wants q p table inside settled wanted))
    ∙ each_once-filter (λ x. not (is_in (batch_pages (plan_of v wants q)) x)) (flat_map (before_lookup v.shape (has_frame v.entries)) (pages_wanted wants))

in_flat_map : (f : ℕ → List ℕ) (ps : List ℕ) (p x : ℕ) → is_in ps p ≡ true → is_in (f p) x ≡ true → is_in (flat_map f ps) x ≡ true
in_flat_map f [] p x there h = absurd (false≢true there)
in_flat_map f (r ∷ ps) p x there h = is_in-append (f r) (flat_map f ps) x ∙ pick (nat_eq p r) refl there (λ later. in_flat_map f ps p x later h) where
  pick : (b : Bool) → nat_eq p r ≡ b → (b || is_in ps p) ≡ true → (is_in ps p ≡ true → is_in (flat_map f ps) x ≡ true)
      → (is_in (f r) x || is_in (flat_map f ps) x) ≡ true
  pick true same rest more = or_left (is_in (f r) x) (is_in (flat_map f ps) x) (ap (λ k. is_in (f k) x) (sym (nat_eq_true p r same)) ∙ h)
  pick false other rest more = or_right (is_in (f r) x) (is_in (flat_map f ps) x) (more rest)

-- the pages of a plan are among those that are to be loaded
pub plan_to_load : (v : RecencyView) (wants : List Wanted) (q x : ℕ) → IsRecencyTable v → ArePages v wants → is_in (batch_pages (plan_of v wants q)) x ≡ true
    → is_in (pages_to_load v.shape (has_frame v.entries) (pages_wanted wants)) x ≡ true
unfolding pages_to_load
plan_to_load v wants q x table inside there =
    let h = missing_is v wants x table inside (plan_missing v wants q x there) in
    is_in-each_once (flat_map (before_lookup v.shape (has_frame v.entries)) (pages_wanted wants)) x
    ∙ in_flat_map (before_lookup v.shape (has_frame v.entries)) (pages_wanted wants) h.page x h.wanted h.step.before

-- an unmapped wanted page has a step, which is missing
pub step_missing : (v : RecencyView) (wants : List Wanted) (p : ℕ) → is_in (pages_wanted wants) p ≡ true → has_frame v.entries p ≡ false
    → is_in (missing_pages v wants) (next_finer_page v.shape (has_frame v.entries) p) ≡ true
unfolding missing_pages missing_from
step_missing v wants p wanted low =
    is_in-each_once (map (next_finer_page v.shape (has_frame v.entries)) (filter (λ p. not (has_frame v.entries p)) (pages_wanted wants)))
    (next_finer_page v.shape (has_frame v.entries) p)
    ∙ in_map (next_finer_page v.shape (has_frame v.entries)) (filter (λ p. not (has_frame v.entries p)) (pages_wanted wants)) p
    (is_in-filter (λ p. not (has_frame v.entries p)) (pages_wanted wants) p
    ∙ both (is_in (pages_wanted wants) p) (not (has_frame v.entries p)) wanted (ap not low))

-- a mapped page has nothing before its look-up
pub front_none : (s : Shape) (m : ℕ → Bool) (p : ℕ) → IsWithinLimits s → p < pages_of s → m p ≡ true → before_lookup s m p ≡ []
front_none s m p limits inside high = let l = line_begins s p limits inside in ap (front m) l.1 ∙ front_mapped m p l.0 high

no_lists : (f : ℕ → List ℕ) (ps : List ℕ) → ((p : ℕ) → is_in ps p ≡ true → f p ≡ []) → flat_map f ps ≡ []
no_lists f [] none = refl
no_lists f (p ∷ ps) none = ap (λ (l : List ℕ). l ++ flat_map f ps) (none p (or_left (nat_eq p p) (is_in ps p) (self_eq p)))
    ∙ no_lists f ps (λ q there. none q (or_right (nat_eq q p) (is_in ps q) there))

-- where all wanted pages are mapped, nothing is to be loaded
pub mapped_done : (s : Shape) (m : ℕ → Bool) (ps : List ℕ) → IsWithinLimits s → ((p : ℕ) → is_in ps p ≡ true → (p < pages_of s) × (m p ≡ true))
    → pages_to_load s m ps ≡ []
unfolding pages_to_load
mapped_done s m ps limits all = ap each_once (no_lists (before_lookup s m) ps (λ p there. front_none s m p limits (all p there).0 (all p there).1))

pub none_missing : (v : RecencyView) (wants : List Wanted) (p : ℕ) → missing_pages v wants ≡ [] → is_in (pages_wanted wants) p ≡ true
    → has_frame v.entries p ≡ true
none_missing v wants p none wanted = pick (has_frame v.entries p) refl where
  pick : (b : Bool) → has_frame v.entries p ≡ b → has_frame v.entries p ≡ true
  pick true e = e
  pick false e = absurd (false≢true (sym (ap (λ (l : List ℕ). is_in l (next_finer_page v.shape (has_frame v.entries) p)) none) ∙ step_missing v wants p wanted e))

-- where nothing is missing, nothing is to be loaded
pub missing_done : (v : RecencyView) (wants : List Wanted) → IsRecencyTable v → ArePages v wants → missing_pages v wants ≡ []
    → pages_to_load v.shape (has_frame v.entries) (pages_wanted wants) ≡ []
missing_done v wants table inside none =
    mapped_done v.shape (has_frame v.entries) (pages_wanted wants) table.limits (λ p there. (inside p there, none_missing v wants p none there))

filter_fewer : (t : ℕ → Bool) (xs : List ℕ) → length (filter t xs) ≤ length xs
filter_fewer t [] = omega arith
filter_fewer t (x ∷ xs) = pick (t x) (filter_fewer t xs) where
  pick : (b : Bool) → length (filter t xs) ≤ length xs → length (cond b (x ∷ filter t xs) (filter t xs)) ≤ suc (length xs)
  pick true h = omega (arith, h)
  pick false h = omega (arith, h)

filter_less : (t : ℕ → Bool) (xs : List ℕ) (x : ℕ) → is_in xs x ≡ true → t x ≡ false → length (filter t xs) + 1 ≤ length xs
filter_less t [] x there out = absurd (false≢true there)
filter_less t (y ∷ xs) x there out = pick (t y) refl (nat_eq x y) refl there (λ later. filter_less t xs x later out) where
  pick : (b : Bool) → t y ≡ b → (c : Bool) → nat_eq x y ≡ c → (c || is_in xs x) ≡ true → (is_in xs x ≡ true → length (filter t xs) + 1 ≤ length xs)
      → length (cond (t y) (y ∷ filter t xs) (filter t xs)) + 1 ≤ suc (length xs)
  pick true e true same h rest = absurd (false≢true (sym out ∙ ap t (nat_eq_true x y same) ∙ e))
  pick true e false other h rest = ap_le e (let r = rest h in omega (arith, r)) where
    ap_le : t y ≡ true → suc (length (filter t xs)) + 1 ≤ suc (length xs) → length (cond (t y) (y ∷ filter t xs) (filter t xs)) + 1 ≤ suc (length xs)
    ap_le e h = subst (λ b. length (cond b (y ∷ filter t xs) (filter t xs)) + 1 ≤ suc (length xs)) (sym e) h
  pick false e c same h rest = subst (λ b. length (cond b (y ∷ filter t xs) (filter t xs)) + 1 ≤ suc (length xs)) (sym e)
      (let r = filter_fewer t xs in omega (arith, r))

-- the greatest number before a look-up
pub most_each : (s : Shape) (m : ℕ → Bool) (ps : List ℕ) (p : ℕ) → is_in ps p ≡ true → pages_before s m p ≤ most_before s m ps
most_each s m [] p there = absurd (false≢true there)
most_each s m (r ∷ ps) p there = pick (nat_eq p r) refl there (most_each s m ps p) where
  pick : (b : Bool) → nat_eq p r ≡ b → (b || is_in ps p) ≡ true → (is_in ps p ≡ true → pages_before s m p ≤ most_before s m ps)
      → pages_before s m p ≤ max (pages_before s m r) (most_before s m ps)
  pick true same rest more = subst (λ k. pages_before s m k ≤ max (pages_before s m r) (most_before s m ps)) (sym (nat_eq_true p r same))
      (le-max_left (pages_before s m r) (most_before s m ps))
  pick false other rest more = let a = more rest in let b = le-max_right (pages_before s m r) (most_before s m ps) in omega (arith, a, b)

pub most_least : (s : Shape) (m : ℕ → Bool) (ps : List ℕ) (n : ℕ) → ((p : ℕ) → is_in ps p ≡ true → pages_before s m p ≤ n) → most_before s m ps ≤ n
most_least s m [] n each = omega arith
most_least s m (r ∷ ps) n each = max-le (each r (or_left (nat_eq r r) (is_in ps r) (self_eq r)))
    (most_least s m ps n (λ p there. each p (or_right (nat_eq p r) (is_in ps p) there)))

-- no line's front grows
pub most_falls : (v u : RecencyView) (wants : List Wanted) (q : ℕ) → IsRecencyTable v → ArePages v wants → IsSettledTable v.entries (plan_of v wants q) u.entries
    → most_before v.shape (has_frame u.entries) (pages_wanted wants) ≤ most_before v.shape (has_frame v.entries) (pages_wanted wants)
most_falls v u wants q table inside settled = most_least v.shape (has_frame u.entries) (pages_wanted wants)
    (most_before v.shape (has_frame v.entries) (pages_wanted wants)) (λ p wanted.
    let a = ap (λ (l : List ℕ). length l) (front_after v u wants q p table inside settled wanted) in
    let b = filter_fewer (λ x. not (is_in (batch_pages (plan_of v wants q)) x)) (before_lookup v.shape (has_frame v.entries) p) in
    let c = most_each v.shape (has_frame v.entries) (pages_wanted wants) p wanted in
    omega (arith, a, b, c, length-front (has_frame u.entries) (ancestors_of v.shape p), length-front (has_frame v.entries) (ancestors_of v.shape p)))

-- where all missing pages are loaded, each front that is not empty has one page fewer
pub most_less : (v u : RecencyView) (wants : List Wanted) (q : ℕ) → IsRecencyTable v → ArePages v wants → IsSettledTable v.entries (plan_of v wants q) u.entries
    → length (missing_pages v wants) ≤ length (plan_of v wants q) → 1 ≤ length (plan_of v wants q)
    → most_before v.shape (has_frame u.entries) (pages_wanted wants) + 1 ≤ most_before v.shape (has_frame v.entries) (pages_wanted wants)
most_less v u wants q table inside settled all some =
    let n : ℕ = most_before v.shape (has_frame v.entries) (pages_wanted wants) in
    let least = most_least v.shape (has_frame u.entries) (pages_wanted wants) (most_before v.shape (has_frame v.entries) (pages_wanted wants) - 1) each in
    omega (arith, least, at_least_one) where
      first_in : (xs : List ℕ) → 1 ≤ length xs → (x : ℕ) × (is_in xs x ≡ true)
      first_in [] h = absurd (omega (arith, h))
      first_in (x ∷ xs) h = (x, or_left (nat_eq x x) (is_in xs x) (self_eq x))

      some_in : (xs : List ℕ) (x : ℕ) → is_in xs x ≡ true → 1 ≤ length xs
      some_in [] x there = absurd (false≢true there)
      some_in (y ∷ xs) x there = omega arith

      at_least_one : 1 ≤ most_before v.shape (has_frame v.entries) (pages_wanted wants)
      at_least_one =
          let x = first_in (batch_pages (plan_of v wants q)) (omega (arith, some, length-pages (plan_of v wants q))) in
          let h = missing_is v wants x.0 table inside (plan_missing v wants q x.0 x.1) in
          let a = some_in (before_lookup v.shape (has_frame v.entries) h.page) x.0 h.step.before in
          let c = most_each v.shape (has_frame v.entries) (pages_wanted wants) h.page h.wanted in
          omega (arith, a, c, length-front (has_frame v.entries) (ancestors_of v.shape h.page))

      loaded : (p : ℕ) → is_in (pages_wanted wants) p ≡ true → has_frame v.entries p ≡ false
          → length (filter (λ x. not (is_in (batch_pages (plan_of v wants q)) x)) (before_lookup v.shape (has_frame v.entries) p)) + 1 ≤ length
          (before_lookup v.shape (has_frame v.entries) p)
      loaded p wanted low =
          let below = level_below v.shape p table.limits (inside p wanted) in
          let h = step_is v.shape (has_frame v.entries) (levels_of v.shape - 1 - level_of v.shape p) p table.limits (omega (arith, below))
          (inside p wanted) low in
          filter_less (λ x. not (is_in (batch_pages (plan_of v wants q)) x)) (before_lookup v.shape (has_frame v.entries) p)
          (next_finer_page v.shape (has_frame v.entries) p) h.before
          (ap not (ap (λ (l : List ℕ). is_in l (next_finer_page v.shape (has_frame v.entries) p)) (plan_all v wants q all) ∙ step_missing v wants p wanted low))

      each : (p : ℕ) → is_in (pages_wanted wants) p ≡ true
          → pages_before v.shape (has_frame u.entries) p ≤ most_before v.shape (has_frame v.entries) (pages_wanted wants) - 1
      each p wanted = pick (has_frame v.entries p) refl where
        a : length (before_lookup v.shape (has_frame u.entries) p) ≡ length
            (filter (λ x. not (is_in (batch_pages (plan_of v wants q)) x)) (before_lookup v.shape (has_frame v.entries) p))
        a = ap (λ (l : List ℕ). length l) (front_after v u wants q p table inside settled wanted)

        pick : (b : Bool) → has_frame v.entries p ≡ b
            → pages_before v.shape (has_frame u.entries) p ≤ most_before v.shape (has_frame v.entries) (pages_wanted wants) - 1
        pick true high =
            let none = ap (λ (l : List ℕ). length l) (front_none v.shape (has_frame v.entries) p table.limits (inside p wanted) high) in
            let b = filter_fewer (λ x. not (is_in (batch_pages (plan_of v wants q)) x)) (before_lookup v.shape (has_frame v.entries) p) in
            omega (arith, a, none, b, length-front (has_frame u.entries) (ancestors_of v.shape p))
        pick false low =
            let b = loaded p wanted low in
            let c = most_each v.shape (has_frame v.entries) (pages_wanted wants) p wanted in
            omega (arith, a, b, c, length-front (has_frame u.entries) (ancestors_of v.shape p), length-front (has_frame v.entries) (ancestors_of v.shape p))
