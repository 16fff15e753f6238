-- What the first bytes of a store tell of it.
use Rattle.std.proofs.Common.{◌≡◌, ℕ, ◌+◌, ◌*◌, ◌<◌, ◌≤◌, inl, min, Option, Some, None, Ok, Err, List, length, take, bytes_eq, refl, sym, ap, ◌∙◌, subst, arith}
use Rattle.std.proofs.lemmas.List.{take_min, take-take, get_or-take}
use Rattle.std.proofs.lemmas.Nat.{mul-le}
use Rattle.std.specs.Result.{IsErrAnd, result_err}
use Rattle.std.specs.Prelude.{Result, IfOk, IfErr, IfSome, OnOk, IsErrOf, ◌||◌, if◌then◌else◌}
use Rattle.vt_outside.specs.Counts.{Rose}
use Rattle.vt_outside.specs.Files.{IsPiece}
use Rattle.vt_outside.specs.declared.place.Place.{Place}
use Rattle.vt_pages.specs.Numbers.{number_from}
use Rattle.vt_pages.specs.Shape.{Shape}
use Rattle.vt_pages.specs.Pages.{pages_of}
use Rattle.vt_tiles.specs.Format.{flaw_of, has_magic, magic, header_shape, store_depth, store_flaw, store_length, tile_start, tile_length}
use Rattle.vt_tiles.specs.Places.{OpenerAsks}
use Rattle.vt_tiles.specs.StoreViews.{IsStore, IsStoreIfKnown}
use Rattle.vt_tiles.specs.Refusals.{IsOutsideRefusal}
use Rattle.vt_tiles.specs.declared.error.StoreError.{StoreError}
use Rattle.vt_tiles.specs.declared.error.StoreError.TheVariants.{Failed, NoMemory}
use Rattle.vt_tiles.proofs.Flaws.{whole_length, spelled_shape}
use Rattle.vt_tiles.proofs.Headers.{number_same}

front_number : (b : List ℕ) (i : ℕ) → i + 3 < 16 → number_from (take 16 b) i 4 ≡ number_from b i 4
front_number b i h = number_same (take 16 b) b i i 4 (λ c q. get_or-take 16 b (i + c) 0 (omega arith))

pub front_shape : (b : List ℕ) → header_shape (take 16 b) ≡ header_shape b
unfolding header_shape
front_shape b = spelled_shape (take 16 b) (number_from b 4 4) (number_from b 8 4) (number_from b 12 4)
    (sym (front_number b 4 (omega arith))) (sym (front_number b 8 (omega arith))) (sym (front_number b 12 (omega arith)))

pub front_depth : (b : List ℕ) → store_depth (take 16 b) ≡ store_depth b
unfolding store_depth
front_depth b = ap (λ l. if bytes_eq l (magic 2) then 2 else 1) (take-take 4 16 b (omega arith))

pub front_magic : (b : List ℕ) → has_magic (take 16 b) ≡ has_magic b
unfolding has_magic
front_magic b = ap (λ l. bytes_eq l (magic 1) || bytes_eq l (magic 2)) (take-take 4 16 b (omega arith))

pub front_flaw : (b : List ℕ) (n : ℕ) → flaw_of (take 16 b) n ≡ flaw_of b n
unfolding flaw_of
front_flaw b n = rw (front_shape b, front_depth b, front_magic b) refl

-- what was read is the front of the bytes
read_front : (b head : List ℕ) (n : ℕ) → n ≡ length b → length head ≡ min n 16 → IsPiece b 0 head → head ≡ take 16 b
read_front b head n len short piece =
    let e : length head ≡ min 16 (length b) = omega arith in
    piece.same ∙ ap (λ m. take m b) e ∙ take_min 16 b

pub opened_store : (r : Result (Shape × ℕ) StoreError) (known after : Option (List ℕ)) (head : List ℕ) (n : ℕ) → after ≡ known
    → IfSome known (λ b. n ≡ length b) → IfSome after (λ b. IsPiece b 0 head) → length head ≡ min n 16
    → IfOk r (λ h. h.0 ≡ header_shape head) → IfOk r (λ h. h.1 ≡ store_depth head) → OnOk r (flaw_of head n ≡ None)
    → IfOk r (λ h. IsStoreIfKnown known h.0 h.1)
opened_store (Err e) known after head n same len piece short shape depth none = tt
opened_store (Ok h) None after head n same len piece short shape depth none = record { each = λ c e. let no : ⊥ = cc in absurd no }
opened_store (Ok h) (Some b) None head n same len piece short shape depth none = let no : ⊥ = cc in absurd no
opened_store (Ok h) (Some b) (Some a) head n same len piece short shape depth none =
    let ab : a ≡ b = cc in
    let piece_b : IsPiece b 0 head = let P : List ℕ → Type 0 = λ l. IsPiece l 0 head in subst P ab piece in
    let front : head ≡ take 16 b = read_front b head n len short piece_b in
    let flaw : flaw_of b (length b) ≡ None = ap (λ m. flaw_of b m) (sym len) ∙ sym (front_flaw b n) ∙ ap (λ l. flaw_of l n) (sym front) ∙ none in
    let spelled : header_shape b ≡ h.0 = sym (front_shape b) ∙ ap header_shape (sym front) ∙ sym shape in
    let deep : store_depth b ≡ h.1 = sym (front_depth b) ∙ ap store_depth (sym front) ∙ sym depth in
    record {
      each = λ c e. let bc : b ≡ c = cc in let P : List ℕ
          → Type 0 = λ l. IsStore l h.0 h.1 in subst P bc (record { no_flaw = flaw; shape_is = spelled; depth_is = deep });
    }

pub refused_store : (r : Result (Shape × ℕ) StoreError) (known after : Option (List ℕ)) (head : List ℕ) (n : ℕ) → after ≡ known
    → IfSome known (λ b. n ≡ length b) → IfSome after (λ b. IsPiece b 0 head) → length head ≡ min n 16
    → IfErr r (λ e. flaw_of head n ≡ Some e) → IfErr r (λ e. (IsOutsideRefusal e → ⊥) → IfSome known (λ b. store_flaw b ≡ Some e))
refused_store (Ok h) known after head n same len piece short flaw = tt
refused_store (Err e) None after head n same len piece short flaw = λ _. tt
refused_store (Err e) (Some b) None head n same len piece short flaw = let no : ⊥ = cc in absurd no
refused_store (Err e) (Some b) (Some a) head n same len piece short flaw = λ _.
    let ab : a ≡ b = cc in
    let piece_b : IsPiece b 0 head = let P : List ℕ → Type 0 = λ l. IsPiece l 0 head in subst P ab piece in
    let front : head ≡ take 16 b = read_front b head n len short piece_b in
    ap (λ m. flaw_of b m) (sym len) ∙ sym (front_flaw b n) ∙ ap (λ l. flaw_of l n) (sym front) ∙ flaw

-- a flaw of the bytes is no fault
pub no_failure : {T : Type 0} (r : Result T StoreError) (a b : ℕ) → IfErr r (λ e. IsOutsideRefusal e → ⊥) → IsErrOf r Failed → Rose a b
no_failure (Ok x) a b real failed = let never : ⊥ = cc in absurd never
no_failure (Err e) a b real failed = let is : e ≡ Failed = cc in absurd (real (subst IsOutsideRefusal (sym is) tt))

-- an opening that was refused before it read
pub asks_failed : {T : Type 0} (known : Option (List ℕ)) (r : Result T StoreError) (a0 a1 : Option (List Place)) → IsErrAnd r (λ x. x ≡ Failed)
    → a1 ≡ a0 → OpenerAsks known (result_err r) a0 a1
asks_failed known (Ok x) a0 a1 is same = absurd is
asks_failed known (Err x) a0 a1 is same = subst (λ (e : StoreError). OpenerAsks known (Some e) a0 a1) (sym is) (inl same)

pub asks_nothing : {T : Type 0} (known : Option (List ℕ)) (r : Result T StoreError) (a0 a1 : Option (List Place)) → IsErrAnd r (λ x. x ≡ NoMemory)
    → a1 ≡ a0 → OpenerAsks known (result_err r) a0 a1
asks_nothing known (Ok x) a0 a1 is same = absurd is
asks_nothing known (Err x) a0 a1 is same = subst (λ (e : StoreError). OpenerAsks known (Some e) a0 a1) (sym is) same

tiles_below : (p count n t : ℕ) → p + count ≤ n → p * t + count * t ≤ n * t
tiles_below p count n t h = let e : p * t + count * t ≡ (p + count) * t = omega arith in rw e (mul-le (p + count) t n t h (omega arith))

-- the tiles of some pages are inside a store
pub tiles_inside : (known : Option (List ℕ)) (s : Shape) (d p count n : ℕ) → IsStoreIfKnown known s d → p + count ≤ pages_of s
    → n ≡ count * tile_length s d → IfSome known (λ b. tile_start s d p + n ≤ length b)
tiles_inside None s d p count n store h e = tt
tiles_inside (Some b) s d p count n store h e =
    let is : IsStore b s d = store.each b refl in
    let whole : length b ≡ store_length s d = whole_length b (length b) is.no_flaw
    ∙ ap (λ m. store_length (header_shape b) m) is.depth_is ∙ ap (λ z. store_length z d) is.shape_is in
    omega (arith, whole, e, tiles_below p count (pages_of s) (tile_length s d) h)
