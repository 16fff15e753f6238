-- Stores that get room to note reads, one after another.
use Rattle.std.proofs.Common.{◌≡◌, ◌≢◌, ℕ, suc, ◌+◌, ◌<◌, ◌≤◌, ⊎_elim, List, [], ◌∷◌, length, get_or, refl, sym, ap, ◌∙◌, subst, arith}
use Rattle.std.specs.Prelude.{slice_set, All, Result, Ok, Err, OnOk, OnErr}
use Rattle.std.proofs.lemmas.List.{length-set, get_or-set_same, get_or-set_other, get_or_default}
use Rattle.std.proofs.lemmas.Bool.{cases_eq}
use Rattle.std.specs.List.{refill}
use Rattle.vt_outside.specs.declared.outside.File.{Ghosts as FileMeanings}
use Rattle.vt_tiles.specs.Shape.{Shape}
use Rattle.vt_tiles.specs.StoreViews.{StoreView}
use Rattle.vt_requests.proofs.Refilled.{refilled}
use Rattle.vt_requests.specs.Machines.{file_state, files_of, known_bytes, AreStoresFor}
use Rattle.vt_loading.specs.SameStores.{IsSameStore, AreSameStores}

module _ {F : Type 0} (g : FileMeanings F) where
  -- the first of some stores have room to note so many reads
  pub record HaveRoom (reads n : ℕ) (stores : List (StoreView F)) : Type 0 where
    pub each : (k : ℕ) (d : StoreView F) → k < n → k < length stores → reads ≤ g.spare (get_or stores k d).file

  pub same_one : (before after : StoreView F) → after.shape ≡ before.shape → after.depth ≡ before.depth → g.bytes after.file ≡ g.bytes before.file
      → g.name after.file ≡ g.name before.file → g.asked after.file ≡ g.asked before.file → g.faults after.file ≡ g.faults before.file
      → IsSameStore g before after
  same_one before after shape depth bytes name asked faults = record {
    shape = shape;
    depth = depth;
    bytes = bytes;
    file = λ i. record { name = name i; asked = asked i; faults = faults i };
  }

  pub same_none : (stores : List (StoreView F)) → AreSameStores g stores stores
  same_none stores = record { number = refl; each = λ k d inside. record { shape = refl; depth = refl; bytes = refl; file = refl } }

  pub same_more : (first stores : List (StoreView F)) (k : ℕ) (now : StoreView F) → AreSameStores g first stores → k < length stores
      → IsSameStore g (get_or stores k now) now
      → AreSameStores g first (slice_set stores k now)
  same_more first stores k now h inside one = record {
    number = length-set stores k now ∙ h.number;
    each = λ j d below. ⊎_elim
        (λ (same : j ≡ k).
        let was = subst (λ i. IsSameStore g (get_or first i d) (get_or stores i d)) same (h.each j d below) in
        let here : get_or stores k d ≡ get_or stores k now = get_or_default stores k d now inside in
        let joined : IsSameStore g (get_or first k d) now = record {
          shape = one.shape ∙ sym (ap (λ (s : StoreView F). s.shape) here) ∙ was.shape;
          depth = one.depth ∙ sym (ap (λ (s : StoreView F). s.depth) here) ∙ was.depth;
          bytes = one.bytes ∙ sym (ap (λ (s : StoreView F). g.bytes s.file) here) ∙ was.bytes;
          file = one.file ∙ sym (ap (λ (s : StoreView F). file_state g s.file) here) ∙ was.file;
        } in
        subst (λ i. IsSameStore g (get_or first i d) (get_or (slice_set stores k now) i d)) (sym same)
        (subst (IsSameStore g (get_or first k d)) (sym (get_or-set_same stores k now d inside)) joined))
        (λ (other : j ≢ k). subst (IsSameStore g (get_or first j d)) (sym (get_or-set_other stores k j now d other)) (h.each j d below))
        (cases_eq j k);
  }

  -- stores that were lent are back
  pub stores_back : (xs lent ws : List (StoreView F)) → lent ≡ xs → AreSameStores g lent ws → refill (length xs) xs ws ≡ ws
  stores_back xs lent ws e h = refilled xs ws (h.number ∙ ap length e)

  pub same_back : (xs lent ws : List (StoreView F)) → lent ≡ xs → AreSameStores g lent ws → AreSameStores g xs (refill (length xs) xs ws)
  same_back xs lent ws e h = subst (AreSameStores g xs) (sym (stores_back xs lent ws e h)) (subst (λ l. AreSameStores g l ws) e h)

  pub room_none : (reads : ℕ) (stores : List (StoreView F)) → HaveRoom reads 0 stores
  room_none reads stores = record { each = λ k d low inside. absurd (omega (arith, low)) }

  pub room_more : (reads n : ℕ) (stores : List (StoreView F)) (now : StoreView F) → HaveRoom reads n stores → n < length stores → reads ≤ g.spare now.file
      → HaveRoom reads (n + 1) (slice_set stores n now)
  room_more reads n stores now h inside room = record {
    each = λ k d low below. ⊎_elim
        (λ (same : k ≡ n). subst (λ (s : StoreView F). reads ≤ g.spare s.file) (sym (ap (λ i. get_or (slice_set stores n now) i d) same
        ∙ get_or-set_same stores n now d inside)) room)
        (λ (other : k ≢ n). subst (λ (s : StoreView F). reads ≤ g.spare s.file) (sym (get_or-set_other stores n k now d other))
        (h.each k d (omega (arith, low, other)) (let l = length-set stores n now in omega (arith, l, below))))
        (cases_eq k n);
  }

  pub room_all : (reads n : ℕ) (stores : List (StoreView F)) → HaveRoom reads n stores → length stores ≤ n → All (λ store. reads ≤ g.spare store.file) stores
  room_all reads n stores h all k d inside = h.each k d (omega (arith, all, inside)) inside

  pub known_same : (before after : List (StoreView F)) → AreSameStores g before after → known_bytes g after ≡ known_bytes g before
  known_same [] [] h = refl
  known_same [] (y ∷ ys) h = absurd (let n = h.number in omega (arith, n))
  known_same (x ∷ xs) [] h = absurd (let n = h.number in omega (arith, n))
  known_same (x ∷ xs) (y ∷ ys) h = (h.each 0 x (omega arith)).bytes

  pub files_same : (before after : List (StoreView F)) → AreSameStores g before after → files_of g after ≡ files_of g before
  files_same before after h = same_by before after h.number (λ k d inside. (h.each k d inside).file) where
    same_by : (xs ys : List (StoreView F)) → length ys ≡ length xs
        → ((k : ℕ) (d : StoreView F) → k < length xs → file_state g (get_or ys k d).file ≡ file_state g (get_or xs k d).file) → files_of g ys ≡ files_of g xs
    same_by [] [] n h = refl
    same_by [] (y ∷ ys) n h = absurd (omega (arith, n))
    same_by (x ∷ xs) [] n h = absurd (omega (arith, n))
    same_by (x ∷ xs) (y ∷ ys) n h =
        let rest = same_by xs ys (omega (arith, n)) (λ k d inside. h (suc k) d (omega (arith, inside))) in
        let first = h 0 x (omega arith) in
        λ i. first i ∷ rest i

  pub stores_for : (s : Shape) (d loaders : ℕ) (before after : List (StoreView F)) → AreSameStores g before after → AreStoresFor g s d loaders before
      → AreStoresFor g s d loaders after
  stores_for s d loaders before after h are = record {
    count = h.number ∙ are.count;
    shapes = λ k x inside. let low = below k inside in (h.each k x low).shape ∙ are.shapes k x low;
    depths = λ k x inside. let low = below k inside in (h.each k x low).depth ∙ are.depths k x low;
    known = λ k x inside. let low = below k inside in (h.each k x low).bytes ∙ are.known k x low ∙ sym (known_same before after h);
  } where
    below : (k : ℕ) → k < length after → k < length before
    below k inside = let n = h.number in omega (arith, n, inside)

pub on_ok : {T E A B : Type 0} (r : Result T E) → OnOk r A → (A → B) → OnOk r B
on_ok (Ok x) a f = f a
on_ok (Err e) n f = n

pub always_ok : {T E B : Type 0} (r : Result T E) → B → OnOk r B
always_ok (Ok x) b = b
always_ok (Err e) b = tt

pub always_err : {T E B : Type 0} (r : Result T E) → B → OnErr r B
always_err (Ok x) b = tt
always_err (Err e) b = b
