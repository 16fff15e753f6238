-- What the first bytes of a store are, and what they tell.
use Rattle.std.proofs.Common.{◌≡◌, ℕ, zero, suc, ◌+◌, ◌/◌, ◌%◌, ◌<◌, Bool, true, false, inl, inr, List, [], ◌∷◌, ◌++◌, length, take, bytes_eq, refl, sym, ap, arith}
use Rattle.std.specs.Prelude.{◌||◌, if◌then◌else◌, slice_index}
use Rattle.vt_pages.specs.Depths.{IsDepth}
use Rattle.vt_pages.specs.Numbers.{number_from, number_bytes}
use Rattle.vt_pages.specs.Shape.{Shape}
use Rattle.vt_tiles.specs.Format.{magic, has_magic, store_depth, header_bytes}
use Rattle.vt_tiles.specs.StoreViews.{SpellsDepth}

or_true : (a : Bool) → (a || true) ≡ true
or_true true = refl
or_true false = refl

pub spells_wide : (b : List ℕ) → bytes_eq (take 4 b) (magic 2) ≡ true → SpellsDepth b 2
unfolding has_magic store_depth
spells_wide b is = record { has = rw is (or_true (bytes_eq (take 4 b) (magic 1))); is = rw is refl; lawful = inr refl }

pub spells_narrow : (b : List ℕ) → bytes_eq (take 4 b) (magic 2) ≡ false → bytes_eq (take 4 b) (magic 1) ≡ true → SpellsDepth b 1
unfolding has_magic store_depth
spells_narrow b other is = record { has = rw is refl; is = rw other refl; lawful = inl refl }

pub spells_none : (b : List ℕ) → bytes_eq (take 4 b) (magic 2) ≡ false → bytes_eq (take 4 b) (magic 1) ≡ false → has_magic b ≡ false
unfolding has_magic
spells_none b wide narrow = rw (narrow, wide) refl

either_depth : (t : Bool) → IsDepth (if t then 2 else 1)
either_depth true = inr refl
either_depth false = inl refl

-- bytes tell a lawful depth, whatever they are
pub spelled_depth : (b : List ℕ) → IsDepth (store_depth b)
unfolding store_depth
spelled_depth b = either_depth (bytes_eq (take 4 b) (magic 2))

pub header_sixteen : (s : Shape) (d : ℕ) → IsDepth d → length (header_bytes s d) ≡ 16
unfolding header_bytes
header_sixteen s d (inl one) = rw one refl
header_sixteen s d (inr two) = rw two refl

-- numbers of the same bytes are the same
pub number_same : (xs ys : List ℕ) (a b n : ℕ) → ((c : ℕ) → c < n → slice_index xs (a + c) ≡ slice_index ys (b + c))
    → number_from xs a n ≡ number_from ys b n
number_same xs ys a b zero each = refl
number_same xs ys a b (suc n) each =
    let first : number_from xs a n ≡ number_from ys b n = number_same xs ys a b n (λ c h. each c (omega arith)) in
    let last : slice_index xs (a + n) ≡ slice_index ys (b + n) = each n (omega arith) in
    omega (arith, first, last)

-- the four bytes of a list that begins so
abbrev four : List ℕ → List ℕ
four xs = slice_index xs 0 ∷ slice_index xs 1 ∷ slice_index xs 2 ∷ slice_index xs 3 ∷ []

magic_four : (d : ℕ) → IsDepth d → magic d ≡ four (magic d)
magic_four d (inl one) = rw one refl
magic_four d (inr two) = rw two refl

-- a header from its sixteen bytes
pub header_is : (s : Shape) (d : ℕ) (m w h t : List ℕ) → IsDepth d → m ≡ magic d → w ≡ number_bytes 4 s.width
    → h ≡ number_bytes 4 s.height → t ≡ number_bytes 4 s.tile → four m ++ four w ++ four h ++ four t ≡ header_bytes s d
unfolding header_bytes
header_is s d m w h t depth em ew eh et =
    rw (em, ew, eh, et)
    (ap (λ l. l ++ (number_bytes 4 s.width ++ (number_bytes 4 s.height ++ number_bytes 4 s.tile))) (sym (magic_four d depth)))

pub number_of_bytes : (n : ℕ) → (n / 16777216 % 256) ∷ (n / 65536 % 256) ∷ (n / 256 % 256) ∷ (n % 256) ∷ [] ≡ number_bytes 4 n
number_of_bytes n = let e : n / 1 ≡ n = omega arith in rw e refl
