-- Readers that are made, one after the other.
use Rattle.std.proofs.Common.{◌≡◌, ℕ, ◌+◌, List, [], ◌∷◌, ◌++◌, length, get_or, refl, sym, ap, subst, arith, length-append}
use Rattle.std.specs.Prelude.{All, Contains}
use Rattle.std.proofs.lemmas.List.Elements.{All-contains, Contains-append_left, Contains-append_right, Contains-get_or}
use Rattle.std.proofs.lemmas.Option.{get_or_from_slice_get, slice_get_within}
use Rattle.vt_page_table.specs.Readers.{AreHome}
use Rattle.vt_swap.specs.Caches.{Cache}
use Rattle.vt_swap_table.specs.declared.table.SwapReader.{SwapReader}
use Rattle.vt_swap_table.specs.SwapReaders.{IsReaderFor}

-- of a list that was longer by its last element
pub front_of : {X : Type 0} (P : X → Type 0) (xs ys : List X) (x : X) → ys ≡ xs ++ x ∷ [] → All P ys → All P xs
front_of P xs ys x is all k d inside = All-contains P ys (get_or xs k d) all
    (subst (λ l. Contains l (get_or xs k d)) (sym is) (Contains-append_left xs (x ∷ []) (get_or xs k d) (Contains-get_or xs k d inside)))

pub last_of : {X : Type 0} (P : X → Type 0) (xs ys : List X) (x : X) → ys ≡ xs ++ x ∷ [] → All P ys → P x
last_of P xs ys x is all = All-contains P ys x all
    (subst (λ l. Contains l x) (sym is) (Contains-append_right xs (x ∷ []) x (0, omega arith, refl)))

pub one_less : {X : Type 0} (xs ys : List X) (x : X) (n count : ℕ) → ys ≡ xs ++ x ∷ [] → length ys + n ≡ count → length xs + (n + 1) ≡ count
one_less xs ys x n count is same = omega (arith, same, ap length is, length-append xs (x ∷ []))

-- each reader is that of the sampler at its place
pub each_home : (cache : Cache) (pages count : ℕ) (readers : List SwapReader) → length readers ≡ count → All (IsReaderFor cache pages) readers
    → AreHome (λ k r. IsReaderFor cache pages r) count readers
each_home cache pages count readers number all = record {
  number = number;
  each = λ k r is. subst (IsReaderFor cache pages) (get_or_from_slice_get readers k r r is) (all k r (slice_get_within readers k r is));
}
