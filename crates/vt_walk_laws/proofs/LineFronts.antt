-- The pages of a line before the first that is mapped, and what they are once some steps are mapped.
use Rattle.std.proofs.Common.{◌≡◌, ℕ, zero, suc, ◌+◌, ◌<◌, Bool, true, false, not, cond, ◌&&◌, ◌||◌, nat_eq, None, Some, List, [], ◌∷◌, ◌++◌, length, take, refl, sym, ap, ◌∙◌, subst, arith}
use Rattle.std.specs.List.{filter, flat_map, position_or_len}
use Rattle.std.proofs.lemmas.Bool.{false≢true}
use Rattle.std.proofs.lemmas.List.Elements.{filter-append}
use Rattle.vt_machine.specs.Shape.{Shape}
use Rattle.vt_machine.specs.Pages.{levels_of, pages_of, index_of, IsWithinLimits, level_of, name_at, parent_name, parent_of, ancestors_of}
use Rattle.vt_machine.specs.Lookups.{next_finer_page}
use Rattle.vt_machine.proofs.Lines.{parent_is, parent_none}
use Rattle.vt_machine.proofs.Parents.{parent_facts, root_facts, line_begins}
use Rattle.vt_machine.proofs.Steps.{step_root, step_below, step_up}
use Rattle.vt_machine.specs.PageLists.{is_in, each_once}
use Rattle.vt_machine.proofs.PlanListLemmas.{nat_eq_true, filter_twice, filter_same}
use Rattle.vt_machine.proofs.SettleLemmas.{self_eq}

-- the part of a list before the first page that is mapped
abbrev pub front : (ℕ → Bool) → List ℕ → List ℕ
front m l = take (position_or_len m l) l

pub front_mapped : (m : ℕ → Bool) (x : ℕ) (l : List ℕ) → m x ≡ true → front m (x ∷ l) ≡ []
front_mapped m x l e = rw e refl

pub front_more : (m : ℕ → Bool) (x : ℕ) (l : List ℕ) → m x ≡ false → front m (x ∷ l) ≡ x ∷ front m l
front_more m x l e = rw e (more (position_or_len m l)) where
  more : (n : ℕ) → take (1 + n) (x ∷ l) ≡ x ∷ take n l
  more n = let one : 1 + n ≡ suc n = omega arith in ap (λ (k : ℕ). take k (x ∷ l)) one

-- how many they are
pub length-front : (m : ℕ → Bool) (l : List ℕ) → length (front m l) ≡ position_or_len m l
length-front m [] = refl
length-front m (x ∷ l) = pick (m x) refl (length-front m l) where
  one : (n : ℕ) → suc n ≡ 1 + n
  one n = omega arith

  pick : (b : Bool) → m x ≡ b → length (front m l) ≡ position_or_len m l → length (front m (x ∷ l)) ≡ position_or_len m (x ∷ l)
  pick true e rest = rw e refl
  pick false e rest = ap (λ (k : List ℕ). length k) (front_more m x l e) ∙ ap suc rest ∙ rw e (one (position_or_len m l))

head_or : (x y : ℕ) (l : List ℕ) → is_in (y ∷ l) x ≡ true → (b : Bool) → nat_eq x y ≡ b → (b || is_in l x) ≡ true
head_or x y l there b e = ap (λ (c : Bool). c || is_in l x) (sym e) ∙ there

in_head : (x : ℕ) (l : List ℕ) → is_in (x ∷ l) x ≡ true
in_head x l = rw (self_eq x) refl

in_tail : (x y : ℕ) (l : List ℕ) → is_in l x ≡ true → is_in (y ∷ l) x ≡ true
in_tail x y l there = rw there (either (nat_eq x y)) where
  either : (b : Bool) → (b || true) ≡ true
  either true = refl
  either false = refl

-- a page of the front is of the list, and unmapped
pub record IsInFront (m : ℕ → Bool) (l : List ℕ) (x : ℕ) : Type 0 where
  pub in_list : is_in l x ≡ true
  pub unmapped : m x ≡ false

pub front_in : (m : ℕ → Bool) (l : List ℕ) (x : ℕ) → is_in (front m l) x ≡ true → IsInFront m l x
front_in m [] x there = absurd (false≢true there)
front_in m (y ∷ l) x there = pick (m y) refl (front_in m l x) where
  deeper : IsInFront m l x → IsInFront m (y ∷ l) x
  deeper h = record { in_list = in_tail x y l h.in_list; unmapped = h.unmapped }

  at : (is_in (front m l) x ≡ true → IsInFront m l x) → m y ≡ false → (b : Bool) → nat_eq x y ≡ b → (b || is_in (front m l) x) ≡ true → IsInFront m (y ∷ l) x
  at rest e true same h = let is : y ≡ x = sym (nat_eq_true x y same) in
      record { in_list = subst (λ z. is_in (z ∷ l) x ≡ true) (sym is) (in_head x l); unmapped = ap m (sym is) ∙ e }
  at rest e false other h = deeper (rest h)

  pick : (b : Bool) → m y ≡ b → (is_in (front m l) x ≡ true → IsInFront m l x) → IsInFront m (y ∷ l) x
  pick true e rest = absurd (false≢true (sym (ap (λ (k : List ℕ). is_in k x) (front_mapped m y l e)) ∙ there))
  pick false e rest = at rest e (nat_eq x y) refl (head_or x y (front m l) (ap (λ (k : List ℕ). is_in k x) (sym (front_more m y l e))
      ∙ there) (nat_eq x y) refl)

-- the page after this one in a list is mapped
abbrev IsNextMapped : (ℕ → Bool) → List ℕ → Type 0
IsNextMapped m [] = Unit {0}
IsNextMapped m (y ∷ l) = m y ≡ true

-- each page of a list that is to be loaded is just before a mapped one, or at the end
abbrev pub AreSteps : (ℕ → Bool) → (ℕ → Bool) → List ℕ → Type 0
AreSteps b m [] = Unit {0}
AreSteps b m (x ∷ l) = (b x ≡ true → IsNextMapped m l) × AreSteps b m l

-- once steps are mapped, the front has no more of them
pub front_loaded : (m n b : ℕ → Bool) (l : List ℕ) → ((x : ℕ) → is_in l x ≡ true → n x ≡ (m x || b x)) → AreSteps b m l
    → front n l ≡ filter (λ x. not (b x)) (front m l)
front_loaded m n b [] same steps = refl
front_loaded m n b (x ∷ l) same steps = pick (m x) refl (b x) refl (front_loaded m n b l (λ y there. same y (in_tail y x l there)) steps.1) where
  here : n x ≡ (m x || b x)
  here = same x (in_head x l)

  none : (k : List ℕ) → IsNextMapped m k → front m k ≡ []
  none [] h = refl
  none (y ∷ k) h = front_mapped m y k h

  pick : (c : Bool) → m x ≡ c → (d : Bool) → b x ≡ d → front n l ≡ filter (λ y. not (b y)) (front m l)
      → front n (x ∷ l) ≡ filter (λ y. not (b y)) (front m (x ∷ l))
  pick true e d f rest = front_mapped n x l (here ∙ ap (λ (c : Bool). c || b x) e) ∙ sym (ap (filter (λ y. not (b y))) (front_mapped m x l e))
  pick false e true f rest =
      front_mapped n x l (here ∙ ap (λ (c : Bool). c || b x) e ∙ f)
      ∙ sym (ap (filter (λ y. not (b y))) (front_more m x l e ∙ ap (λ (k : List ℕ). x ∷ k) (none l (steps.0 f)))
      ∙ ap (λ (c : Bool). cond (not c) (x ∷ []) []) f)
  pick false e false f rest =
      front_more n x l (here ∙ ap (λ (c : Bool). c || b x) e ∙ f)
      ∙ ap (λ (k : List ℕ). x ∷ k) rest
      ∙ sym (ap (filter (λ y. not (b y))) (front_more m x l e)
      ∙ ap (λ (c : Bool). cond (not c) (x ∷ filter (λ y. not (b y)) (front m l)) (filter (λ y. not (b y)) (front m l))) f)

-- a step: an unmapped page of the front of a page's line, whose parent is mapped
pub record IsStep (s : Shape) (m : ℕ → Bool) (p x : ℕ) : Type 0 where
  pub inside : x < pages_of s
  pub unmapped : m x ≡ false
  pub parent : (q : ℕ) → parent_of s x ≡ Some q → m q ≡ true
  pub before : is_in (front m (ancestors_of s p)) x ≡ true

own : (s : Shape) (m : ℕ → Bool) (p : ℕ) → IsWithinLimits s → p < pages_of s → m p ≡ false → is_in (front m (ancestors_of s p)) p ≡ true
own s m p limits inside low =
    let l = line_begins s p limits inside in
    ap (λ (k : List ℕ). is_in (front m k) p) l.1 ∙ ap (λ (k : List ℕ). is_in k p) (front_more m p l.0 low) ∙ in_head p (front m l.0)

step_from : (s : Shape) (m : ℕ → Bool) (p q : ℕ) → IsWithinLimits s → p < pages_of s → m p ≡ false → parent_of s p ≡ Some q → ancestors_of s p ≡ p ∷ ancestors_of s q
    → (b : Bool) → m q ≡ b → (m q ≡ false → IsStep s m q (next_finer_page s m q)) → IsStep s m p (next_finer_page s m p)
step_from s m p q limits inside low parent line true high rest = subst (IsStep s m p) (step_below s m p q limits inside parent low high) (record {
  inside = inside;
  unmapped = low;
  parent = λ r e. let both : Some q ≡ Some r = sym parent ∙ e in let same : q ≡ r = (cc) in ap m (sym same) ∙ high;
  before = own s m p limits inside low;
})
step_from s m p q limits inside low parent line false high rest =
    let r = rest high in
    subst (IsStep s m p) (step_up s m p q limits inside parent low high) (record {
      inside = r.inside;
      unmapped = r.unmapped;
      parent = r.parent;
      before = ap (λ (k : List ℕ). is_in (front m k) (next_finer_page s m q)) line
          ∙ ap (λ (k : List ℕ). is_in k (next_finer_page s m q)) (front_more m p (ancestors_of s q) low)
          ∙ in_tail (next_finer_page s m q) p (front m (ancestors_of s q)) r.before;
    })

pub step_is : (s : Shape) (m : ℕ → Bool) (up p : ℕ) → IsWithinLimits s → level_of s p + up + 1 ≡ levels_of s → p < pages_of s → m p ≡ false
    → IsStep s m p (next_finer_page s m p)
step_is s m zero p limits level inside low =
    let none : parent_of s p ≡ None = parent_none s p (omega arith) in
    subst (IsStep s m p) (step_root s m p limits inside none) (record {
      inside = inside;
      unmapped = low;
      parent = λ q e. absurd (let bad : None ≡ Some q = sym none ∙ e in (cc));
      before = own s m p limits inside low;
    })
step_is s m (suc up) p limits level inside low =
    let q : ℕ = index_of s (parent_name (name_at s p)) in
    let parent : parent_of s p ≡ Some (index_of s (parent_name (name_at s p))) = parent_is s p (omega arith) in
    let h = parent_facts s p q limits inside parent in
    step_from s m p q limits inside low parent h.line (m q) refl (λ high. step_is s m up q limits (omega (arith, h.level, level)) h.inside high)

-- pages whose parents are mapped are steps of each line
pub line_steps : (s : Shape) (m b : ℕ → Bool) (up p : ℕ) → IsWithinLimits s → level_of s p + up + 1 ≡ levels_of s → p < pages_of s
    → ((x q : ℕ) → b x ≡ true → parent_of s x ≡ Some q → m q ≡ true) → AreSteps b m (ancestors_of s p)
line_steps s m b zero p limits level inside high = subst (AreSteps b m) (sym (root_facts s p limits inside (parent_none s p (omega arith)))) (λ is. tt, tt)
line_steps s m b (suc up) p limits level inside high =
    let q : ℕ = index_of s (parent_name (name_at s p)) in
    let parent : parent_of s p ≡ Some (index_of s (parent_name (name_at s p))) = parent_is s p (omega arith) in
    let h = parent_facts s p q limits inside parent in
    let l = line_begins s q limits h.inside in
    let rest = line_steps s m b up q limits (omega (arith, h.level, level)) h.inside high in
    subst (AreSteps b m) (sym (h.line ∙ ap (λ (k : List ℕ). p ∷ k) l.1)) (λ is. high p q is parent, subst (AreSteps b m) l.1 rest)

-- the pages of some lists, each once, without some of them
commuted : (b c : Bool) → (b && c) ≡ (c && b)
commuted true true = refl
commuted true false = refl
commuted false true = refl
commuted false false = refl

pub each_once-filter : (t : ℕ → Bool) (xs : List ℕ) → each_once (filter t xs) ≡ filter t (each_once xs)
each_once-filter t [] = refl
each_once-filter t (x ∷ xs) = pick (t x) refl (each_once-filter t xs) where
  swap : filter (λ y. not (nat_eq x y)) (filter t (each_once xs)) ≡ filter t (filter (λ y. not (nat_eq x y)) (each_once xs))
  swap = filter_twice (λ y. not (nat_eq x y)) t (each_once xs) ∙ filter_same _ _ (each_once xs) (λ y. commuted (t y) (not (nat_eq x y)))
      ∙ sym (filter_twice t (λ y. not (nat_eq x y)) (each_once xs))

  skip : t x ≡ false → (y : ℕ) → t y ≡ (not (nat_eq x y) && t y)
  skip e y = at (nat_eq x y) refl where
    at : (b : Bool) → nat_eq x y ≡ b → t y ≡ (not b && t y)
    at true same = ap t (sym (nat_eq_true x y same)) ∙ e
    at false other = refl

  pick : (b : Bool) → t x ≡ b → each_once (filter t xs) ≡ filter t (each_once xs)
      → each_once (cond (t x) (x ∷ filter t xs) (filter t xs)) ≡ cond (t x) (x ∷ filter t (filter (λ y. not (nat_eq x y)) (each_once xs)))
      (filter t (filter (λ y. not (nat_eq x y)) (each_once xs)))
  pick true e rest = ap (λ (b : Bool). each_once (cond b (x ∷ filter t xs) (filter t xs))) e
      ∙ ap (λ (k : List ℕ). x ∷ k) (ap (filter (λ y. not (nat_eq x y))) rest ∙ swap)
      ∙ sym (ap (λ (b : Bool). cond b (x ∷ filter t (filter (λ y. not (nat_eq x y)) (each_once xs)))
      (filter t (filter (λ y. not (nat_eq x y)) (each_once xs)))) e)
  pick false e rest = ap (λ (b : Bool). each_once (cond b (x ∷ filter t xs) (filter t xs))) e
      ∙ rest
      ∙ filter_same t (λ y. not (nat_eq x y) && t y) (each_once xs) (skip e)
      ∙ sym (filter_twice t (λ y. not (nat_eq x y)) (each_once xs))
      ∙ sym (ap (λ (b : Bool). cond b (x ∷ filter t (filter (λ y. not (nat_eq x y)) (each_once xs)))
      (filter t (filter (λ y. not (nat_eq x y)) (each_once xs)))) e)

pub flat_map-filter : (t : ℕ → Bool) (f g : ℕ → List ℕ) (ps : List ℕ) → ((p : ℕ) → is_in ps p ≡ true → g p ≡ filter t (f p))
    → flat_map g ps ≡ filter t (flat_map f ps)
flat_map-filter t f g [] same = refl
flat_map-filter t f g (p ∷ ps) same =
    ap (λ (k : List ℕ). k ++ flat_map g ps) (same p (in_head p ps))
    ∙ ap (λ (k : List ℕ). filter t (f p) ++ k) (flat_map-filter t f g ps (λ q there. same q (in_tail q p ps there)))
    ∙ sym (filter-append t (f p) (flat_map f ps))
