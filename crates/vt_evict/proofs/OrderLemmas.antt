-- The order of pages in a cache of the `lru` crate, and how a walk puts pages first.
use Rattle.std.proofs.Common.{◌≡◌, ℕ, ◌-◌, ◌≤◌, Bool, true, false, not, cond, ◌&&◌, ◌||◌, nat_eq, None, Some, List, [], ◌∷◌, ◌++◌, length, take, drop, refl, sym, ap, ◌∙◌, subst, append_assoc, append-nil, take_all}
use Rattle.std.specs.List.{filter, IsDistinct}
use Rattle.std.specs.Map.{keys_of, lookup_entry, remove_entry}
use Rattle.std.specs.Option.{option_map_or}
use Rattle.std.proofs.Math.Seq.{drop-append_seam, drop-length}
use Rattle.std.proofs.lemmas.Bool.{false≢true}
use Rattle.std.proofs.lemmas.List.Sorted.{IsPermutation-middle}
use Rattle.std.proofs.lemmas.Map.Keys.{IsDistinct-head, IsDistinct-tail, IsDistinct-IsPermutation}
use Rattle.lru.specs.LruCache.{LruCache, promoted, put_entries}
use Rattle.lru.proofs.CallerLemmas.{Contains-lookup_entry}
use Rattle.vt_plan.specs.Orders.{put_first, promoted_if}
use Rattle.vt_plan.specs.PageLists.{is_in}
use Rattle.vt_evict.proofs.ListLemmas.{nat_eq_swap, present, filter_absent, is_in-append, put_first-more}
use Rattle.vt_plan.proofs.ListLemmas.{nat_eq_true, is_in-filter}

-- without the entry of a page the keys are without it
pub keys-remove : {X : Type 0} (page : ℕ) (es : List (ℕ × X)) → IsDistinct nat_eq (keys_of es)
    → keys_of (remove_entry (nat_eq page) es) ≡ filter (λ y. not (nat_eq page y)) (keys_of es)
keys-remove {X = X} page [] h = refl
keys-remove {X = X} page (e ∷ es) h = step (keys-remove page es (IsDistinct-tail nat_eq e.0 (keys_of es) h)) (nat_eq page e.0) refl where
  step : keys_of (remove_entry (nat_eq page) es) ≡ filter (λ y. not (nat_eq page y)) (keys_of es) → (b : Bool) → nat_eq page e.0 ≡ b
      → keys_of (cond b es (e ∷ remove_entry (nat_eq page) es)) ≡ cond (not b) (e.0 ∷ filter (λ y. not (nat_eq page y)) (keys_of es))
      (filter (λ y. not (nat_eq page y)) (keys_of es))
  step rest true same =
      let is : page ≡ e.0 = nat_eq_true page e.0 same in
      let gone : is_in (keys_of es) page ≡ false = ap (is_in (keys_of es)) is ∙ present e.0 (keys_of es) (IsDistinct-head nat_eq e.0 (keys_of es) h) in
      sym (filter_absent page (keys_of es) gone)
  step rest false other = ap (λ (l : List ℕ). e.0 ∷ l) rest

entry_of : {X : Type 0} (page : ℕ) (es : List (ℕ × X)) → is_in (keys_of es) page ≡ true → (e : ℕ × X) × (lookup_entry (nat_eq page) es ≡ Some e)
entry_of {X = X} page [] h = absurd (false≢true h)
entry_of {X = X} page (e ∷ es) h = step (entry_of page es) (nat_eq page e.0) refl h where
  step : (is_in (keys_of es) page ≡ true → (e : ℕ × X) × (lookup_entry (nat_eq page) es ≡ Some e)) → (b : Bool) → nat_eq page e.0 ≡ b
      → (b || is_in (keys_of es) page) ≡ true
      → (f : ℕ × X) × (cond b (Some e) (lookup_entry (nat_eq page) es) ≡ Some f)
  step rest true same k = (e, refl)
  step rest false other k = rest k

pub keys-promoted : {X : Type 0} (page : ℕ) (es : List (ℕ × X)) → IsDistinct nat_eq (keys_of es) → is_in (keys_of es) page ≡ true
    → keys_of (promoted (nat_eq page) es) ≡ page ∷ filter (λ y. not (nat_eq page y)) (keys_of es)
keys-promoted page es h there =
    let found = entry_of page es there in
    let key : nat_eq page found.0.0 ≡ true = (Contains-lookup_entry (nat_eq page) es found.0 found.1).1 in
    let is : found.0.0 ≡ page = sym (nat_eq_true page found.0.0 key) in
    ap (λ o. keys_of (option_map_or (λ e. e ∷ remove_entry (nat_eq page) es) o es)) found.1
    ∙ ap (λ (k : ℕ). k ∷ keys_of (remove_entry (nat_eq page) es)) is
    ∙ ap (λ (l : List ℕ). page ∷ l) (keys-remove page es h)

-- what is before and after a place of a list
pub record IsBack (all before : List ℕ) (page : ℕ) (rest : List ℕ) : Type 0 where
  pub now : before ++ drop (length before) all ≡ all
  pub next : drop (length before) all ≡ page ∷ rest
  pub new : is_in rest page ≡ false

pub step_back : (all w before : List ℕ) (page : ℕ) → IsDistinct nat_eq all → w ++ drop (length w) all ≡ all → w ≡ before ++ page ∷ []
    → IsBack all before page (drop (length w) all)
step_back all w before page once e f =
    let rest : List ℕ = drop (length w) all in
    let whole : before ++ page ∷ rest ≡ all = sym (append_assoc before (page ∷ []) rest) ∙ ap (λ (l : List ℕ). l ++ rest) (sym f) ∙ e in
    let next : drop (length before) all ≡ page ∷ rest = ap (drop (length before)) (sym whole) ∙ drop-append_seam before (page ∷ rest) in
    let moved : IsDistinct nat_eq (page ∷ (before ++ rest)) =
    IsDistinct-IsPermutation nat_eq nat_eq_swap (before ++ page ∷ rest) (page ∷ (before
    ++ rest)) (IsPermutation-middle before page rest) (subst (IsDistinct nat_eq) (sym whole) once) in
    let gone : is_in (before ++ rest) page ≡ false = present page (before ++ rest) (IsDistinct-head nat_eq page (before ++ rest) moved) in
    record {
      now = ap (λ (l : List ℕ). before ++ l) next ∙ whole;
      next = next;
      new = second (is_in before page) (is_in rest page) (sym (is_in-append before rest page) ∙ gone);
    } where
      second : (b c : Bool) → (b || c) ≡ false → c ≡ false
      second true c h = absurd (false≢true (sym h))
      second false c h = h

pub back_start : (all : List ℕ) → all ++ drop (length all) all ≡ all
back_start all = ap (λ (l : List ℕ). all ++ l) (drop-length all) ∙ append-nil all

pub put_back : (ok : ℕ → Bool) (page : ℕ) (rest order : List ℕ) → is_in rest page ≡ false
    → promoted_if (ok page) page (put_first (filter ok rest) order) ≡ put_first (filter ok (page ∷ rest)) order
put_back ok page rest order new = step (ok page) refl where
  absent : is_in (filter ok rest) page ≡ false
  absent = is_in-filter ok rest page ∙ ap (λ (b : Bool). b && ok page) new

  step : (b : Bool) → ok page ≡ b → promoted_if b page (put_first (filter ok rest) order) ≡ put_first (cond b (page ∷ filter ok rest) (filter ok rest)) order
  step true e = sym (put_first-more page (filter ok rest) order absent)
  step false e = refl

-- a page of the order that is not put first is behind those that are
pub still_in : (xs order : List ℕ) (page : ℕ) → is_in xs page ≡ false → is_in order page ≡ true → is_in (put_first xs order) page ≡ true
unfolding put_first
still_in xs order page new there =
    is_in-append xs (filter (λ p. not (is_in xs p)) order) page
    ∙ ap (λ (b : Bool). is_in xs page || b) (is_in-filter (λ p. not (is_in xs p)) order page)
    ∙ rw (new, there) refl

no_entry : {X : Type 0} (page : ℕ) (es : List (ℕ × X)) → is_in (keys_of es) page ≡ false → lookup_entry (nat_eq page) es ≡ None
no_entry {X = X} page [] h = refl
no_entry {X = X} page (e ∷ es) h = step (no_entry page es) (nat_eq page e.0) refl h where
  step : (is_in (keys_of es) page ≡ false → lookup_entry (nat_eq page) es ≡ None) → (b : Bool) → nat_eq page e.0 ≡ b → (b || is_in (keys_of es) page) ≡ false
      → cond b (Some e) (lookup_entry (nat_eq page) es) ≡ None
  step rest true same k = absurd (false≢true (sym k))
  step rest false other k = rest k

pub keys-put : {X : Type 0} (page : ℕ) (x : X) (c : LruCache ℕ X) → is_in (keys_of c.entries) page ≡ false → length c.entries ≤ c.cap - 1
    → keys_of (put_entries nat_eq c page x) ≡ page ∷ keys_of c.entries
keys-put {X = X} page x c new room =
    ap (λ o. keys_of (option_map_or (λ e. (e.0, x) ∷ remove_entry (nat_eq page) c.entries) o ((page, x) ∷ take (c.cap - 1) c.entries)))
    (no_entry page c.entries new)
    ∙ ap (λ (l : List (ℕ × X)). page ∷ keys_of l) (take_all (c.cap - 1) c.entries room)
