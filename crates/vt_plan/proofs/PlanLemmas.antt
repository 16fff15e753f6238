-- The parts of a plan.
use Rattle.std.proofs.Common.{◌≡◌, ℕ, suc, ◌+◌, ◌-◌, ◌<◌, ◌≤◌, Bool, true, false, not, cond, None, List, [], ◌∷◌, ◌++◌, map, length, length-append, drop, drop-cons, length-drop, slice_index, get_or, reverse, refl, sym, ap, ◌∙◌, append-nil, append_assoc, add-one, arith}
use Rattle.std.specs.List.{filter, range_with_len}
use Rattle.std.proofs.Math.Seq.{drop-append_seam}
use Rattle.std.proofs.lemmas.List.{map-append, get_or-drop, reverse-append}
use Rattle.std.proofs.lemmas.List.Elements.{filter-append}
use Rattle.std.proofs.lemmas.List.FromFn.{map-range_with_len_more}
use Rattle.vt_feedback.specs.Shape.{Shape}
use Rattle.vt_plan.specs.declared.batches.Planned.{Planned}
use Rattle.vt_feedback.specs.Lookups.{next_finer_page}
use Rattle.vt_plan.specs.PageLists.{is_in, each_once, with_page}
use Rattle.vt_plan.specs.Missing.{has_frame, missing_from}
use Rattle.vt_plan.specs.Entries.{freed_at, taken_at, taken_with}
use Rattle.vt_plan.proofs.ListLemmas.{each_once-append, is_in-each_once}

pub missing-none : (s : Shape) (entries : List ℕ) → missing_from s entries [] ≡ []
unfolding missing_from
missing-none s entries = refl

once_more : (xs : List ℕ) (p : ℕ) → each_once (xs ++ p ∷ []) ≡ with_page (each_once xs) p
once_more xs p = each_once-append xs (p ∷ []) ∙ test (is_in xs p) refl where
  test : (b : Bool) → is_in xs p ≡ b → each_once xs ++ cond (not (is_in xs p)) (p ∷ []) [] ≡ with_page (each_once xs) p
  test true e = ap (λ (b : Bool). each_once xs ++ cond (not b) (p ∷ []) []) e ∙ append-nil (each_once xs)
      ∙ sym (ap (λ (b : Bool). cond b (each_once xs) (each_once xs ++ p ∷ [])) (is_in-each_once xs p ∙ e))
  test false e = ap (λ (b : Bool). each_once xs ++ cond (not b) (p ∷ []) []) e
      ∙ sym (ap (λ (b : Bool). cond b (each_once xs) (each_once xs ++ p ∷ [])) (is_in-each_once xs p ∙ e))

pub missing-more : (s : Shape) (entries ps : List ℕ) (p : ℕ) → missing_from s entries (ps ++ p ∷ [])
    ≡ cond (has_frame entries p) (missing_from s entries ps) (with_page (missing_from s entries ps) (next_finer_page s (has_frame entries) p))
unfolding missing_from
missing-more s entries ps p =
    let f : ℕ → ℕ = next_finer_page s (has_frame entries) in
    let kept : List ℕ = filter (λ q. not (has_frame entries q)) ps in
    ap (λ (l : List ℕ). each_once (map (next_finer_page s (has_frame entries)) l)) (filter-append (λ q. not (has_frame entries q)) ps (p ∷ []))
    ∙ test (has_frame entries p) where
      test : (b : Bool) → each_once (map (next_finer_page s (has_frame entries)) (filter (λ q. not (has_frame entries q)) ps ++ cond (not b) (p ∷ []) []))
          ≡ cond b (each_once (map (next_finer_page s (has_frame entries)) (filter (λ q. not (has_frame entries q)) ps)))
          (with_page (each_once (map (next_finer_page s (has_frame entries)) (filter (λ q. not (has_frame entries q)) ps))) (next_finer_page s (has_frame entries) p))
      test true = ap (λ (l : List ℕ). each_once (map (next_finer_page s (has_frame entries)) l)) (append-nil (filter (λ q. not (has_frame entries q)) ps))
      test false = ap each_once (map-append (next_finer_page s (has_frame entries)) (filter (λ q. not (has_frame entries q)) ps) (p ∷ []))
          ∙ once_more (map (next_finer_page s (has_frame entries)) (filter (λ q. not (has_frame entries q)) ps)) (next_finer_page s (has_frame entries) p)

-- what is at a place of a list whose rest is known
pub rest_at : (all : List ℕ) (k x : ℕ) (rest : List ℕ) → drop k all ≡ x ∷ rest → (k < length all) × (slice_index all k ≡ x) × (drop (k + 1) all ≡ rest)
rest_at all k x rest e = (
  inside,
  sym (ap (λ (n : ℕ). get_or all n 0) (zero_more k)) ∙ sym (get_or-drop k all 0 0)
      ∙ ap (λ (l : List ℕ). get_or l 0 0) e,
  after,
) where
  zero_more : (n : ℕ) → n + 0 ≡ n
  zero_more n = omega arith

  inside : k < length all
  inside = let l : length (drop k all) ≡ suc (length rest) = ap length e in omega (arith, length-drop k all)

  after : drop (k + 1) all ≡ rest
  after = rw add-one (ap (drop 1) (sym (drop-cons all k 0 inside) ∙ e))

pub none_left : (all : List ℕ) (k : ℕ) → drop k all ≡ [] → length all ≤ k
none_left all k e = let l : length (drop k all) ≡ 0 = ap length e in omega (arith, length-drop k all)

pub freed_more : (missing free : List ℕ) (k page frame : ℕ) (rest : List ℕ) → drop k free ≡ frame ∷ rest → page ≡ slice_index missing k
    → map (freed_at missing free) (range_with_len 0 k) ++ (record { page = page; frame = frame; victim = None }) ∷ [] ≡ map (freed_at missing free)
    (range_with_len 0 (k + 1))
freed_more missing free k page frame rest e same =
    let at = rest_at free k frame rest e in
    let entry : freed_at missing free k ≡ record { page = page; frame = frame; victim = None } =
    λ i. record { page = sym same i; frame = at.1 i; victim = None } in
    ap (λ (x : Planned). map (freed_at missing free) (range_with_len 0 k) ++ x ∷ []) (sym entry)
    ∙ sym (map-range_with_len_more (freed_at missing free) 0 k k (omega arith))

-- one page more of those that may be given up
pub record IsOffer (entries missing victims : List ℕ) (before : ℕ) (start now next : List Planned) (k : ℕ) (rest : List ℕ) : Type 0 where
  pub grown : ℕ
  pub put : next ≡ start ++ map (taken_at entries missing victims before) (range_with_len 0 grown)
  pub left : drop grown victims ≡ rest
  pub least : k ≤ grown
  pub most : grown ≤ k + 1
  pub inside : grown ≤ length victims
  pub count : length next ≡ before + grown

pub offer : (entries missing victims : List ℕ) (before : ℕ) (start now next : List Planned) (k x : ℕ) (marked : Bool) (rest : List ℕ)
    → length start ≡ before → k ≤ length victims
    → now ≡ start ++ map (taken_at entries missing victims before) (range_with_len 0 k) → length now ≡ before + k
    → drop k victims ≡ cond (not marked) (x ∷ rest) rest
    → next ≡ cond marked now (now ++ taken_with entries missing (length now) x ∷ []) → IsOffer entries missing victims before start now next k rest
offer entries missing victims before start now next k x true rest begun inside put count left e = record {
  grown = k;
  put = e ∙ put;
  left = left;
  least = omega arith;
  most = omega arith;
  inside = inside;
  count = ap length e ∙ count;
}
offer entries missing victims before start now next k x false rest begun inside put count left e =
    let at = rest_at victims k x rest left in
    let entry : taken_with entries missing (length now) x ≡ taken_at entries missing victims before k =
    λ i. taken_with entries missing (count i) (sym at.1 i) in
    record {
      grown = k + 1;
      put = e ∙ ap (λ (l : List Planned). l ++ taken_with entries missing (length now) x ∷ []) put
          ∙ append_assoc start _ _
          ∙ ap (λ (y : Planned). start ++ (map (taken_at entries missing victims before) (range_with_len 0 k) ++ y ∷ [])) entry
          ∙ ap (λ (l : List Planned). start ++ l) (sym (map-range_with_len_more (taken_at entries missing victims before) 0 k k (omega arith)));
      left = at.2;
      least = omega arith;
      most = omega arith;
      inside = omega (arith, at.0);
      count = ap length e ∙ length-append now (taken_with entries missing (length now) x ∷ []) ∙ omega arith;
    }

pub last_at : (xs : List ℕ) (x : ℕ) → slice_index (xs ++ x ∷ []) (length xs) ≡ x
last_at xs x = (rest_at (xs ++ x ∷ []) (length xs) x [] (drop-append_seam xs (x ∷ []))).1

pub kept_last : (ok : ℕ → Bool) (all xs : List ℕ) (x : ℕ) → all ≡ xs ++ x ∷ []
    → filter ok (reverse all) ≡ cond (ok x) (x ∷ filter ok (reverse xs)) (filter ok (reverse xs))
kept_last ok all xs x e = ap (λ (l : List ℕ). filter ok (reverse l)) e ∙ ap (filter ok) (reverse-append xs (x ∷ []))
