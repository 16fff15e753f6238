-- When a store has which flaw.
use Rattle.std.proofs.Common.{◌≡◌, ℕ, ◌<◌, ◌≤◌, Bool, true, false, Option, Some, None, List, refl, sym, ap, ◌∙◌, arith}
use Rattle.std.specs.Prelude.{not, nat_lt, ◌==◌, is_some, if◌then◌else◌}
use Rattle.std.proofs.lemmas.Bool.Decides.{nat_tests}
use Rattle.vt_pages.specs.Shape.{Shape, shape_of}
use Rattle.vt_pages.specs.Pages.{refusal_of}
use Rattle.vt_pages.specs.declared.PagesError.{PagesError}
use Rattle.vt_pages.specs.Numbers.{number_from}
use Rattle.vt_tiles.specs.Format.{flaw_of, has_magic, header_shape, store_depth, store_length, header_length}
use Rattle.vt_tiles.specs.declared.error.StoreError.{StoreError}
use Rattle.vt_tiles.specs.declared.error.StoreError.TheVariants.{BadMagic, BadGeometry, WrongLength}

short_test : (n m : ℕ) → n < m → nat_lt n m ≡ true
short_test n m h = grind (arith, nat_tests)

long_test : (n m : ℕ) → m ≤ n → nat_lt n m ≡ false
long_test n m h = grind (arith, nat_tests)

same_test : (n m : ℕ) → n ≡ m → (n == m) ≡ true
same_test n m h = grind (arith, nat_tests)

other_test : (n m : ℕ) → (n ≡ m → ⊥) → (n == m) ≡ false
other_test n m h = grind (arith, nat_tests)

test_same : (n m : ℕ) → (n == m) ≡ true → n ≡ m
test_same n m h = grind (arith, nat_tests)

pub magic_flaw : (head : List ℕ) (n : ℕ) → has_magic head ≡ false → flaw_of head n ≡ Some BadMagic
unfolding flaw_of
magic_flaw head n other = rw other refl

pub short_flaw : (head : List ℕ) (n : ℕ) → has_magic head ≡ true → n < header_length
    → flaw_of head n ≡ Some (WrongLength header_length n)
unfolding flaw_of
short_flaw head n is short = rw (is, short_test n header_length short) refl

pub geometry_flaw : (head : List ℕ) (n : ℕ) (e : PagesError) → has_magic head ≡ true → header_length ≤ n
    → refusal_of (header_shape head) ≡ Some e → flaw_of head n ≡ Some BadGeometry
unfolding flaw_of
geometry_flaw head n e is long refused = rw (is, long_test n header_length long, refused) refl

pub length_flaw : (head : List ℕ) (n : ℕ) → has_magic head ≡ true → header_length ≤ n
    → refusal_of (header_shape head) ≡ None → (n ≡ store_length (header_shape head) (store_depth head) → ⊥)
    → flaw_of head n ≡ Some (WrongLength (store_length (header_shape head) (store_depth head)) n)
unfolding flaw_of
length_flaw head n is long accepted other =
    rw (is, long_test n header_length long, accepted, other_test n (store_length (header_shape head) (store_depth head)) other) refl

pub no_flaw : (head : List ℕ) (n : ℕ) → has_magic head ≡ true → header_length ≤ n
    → refusal_of (header_shape head) ≡ None → n ≡ store_length (header_shape head) (store_depth head) → flaw_of head n ≡ None
unfolding flaw_of
no_flaw head n is long accepted same =
    rw (is, long_test n header_length long, accepted, same_test n (store_length (header_shape head) (store_depth head)) same) refl

-- the tests that a choice of no flaw has passed
chosen : (a b c d : Bool) (x y z w : StoreError)
    → (if not a then Some x else (if b then Some y else (if c then Some z else (if d then None else Some w)))) ≡ None
    → (c ≡ false) × (d ≡ true)
chosen false b c d x y z w h = let no : ⊥ = cc in absurd no
chosen true true c d x y z w h = let no : ⊥ = cc in absurd no
chosen true false true d x y z w h = let no : ⊥ = cc in absurd no
chosen true false false false x y z w h = let no : ⊥ = cc in absurd no
chosen true false false true x y z w h = (refl, refl)

-- a store without a flaw has the length of its shape
pub whole_length : (head : List ℕ) (n : ℕ) → flaw_of head n ≡ None → n ≡ store_length (header_shape head) (store_depth head)
unfolding flaw_of
whole_length head n none = test_same n (store_length (header_shape head) (store_depth head))
    (chosen (has_magic head) (nat_lt n header_length) (is_some (refusal_of (header_shape head)))
    (n == store_length (header_shape head) (store_depth head)) BadMagic (WrongLength header_length n) BadGeometry
    (WrongLength (store_length (header_shape head) (store_depth head)) n) none).1

not_some : (o : Option PagesError) → is_some o ≡ false → o ≡ None
not_some None h = refl
not_some (Some e) h = let no : ⊥ = cc in absurd no

-- and a shape that is accepted
pub whole_shape : (head : List ℕ) (n : ℕ) → flaw_of head n ≡ None → refusal_of (header_shape head) ≡ None
unfolding flaw_of
whole_shape head n none = not_some (refusal_of (header_shape head))
    (chosen (has_magic head) (nat_lt n header_length) (is_some (refusal_of (header_shape head)))
    (n == store_length (header_shape head) (store_depth head)) BadMagic (WrongLength header_length n) BadGeometry
    (WrongLength (store_length (header_shape head) (store_depth head)) n) none).0

-- the shape of a header, by its three numbers
pub spelled_shape : (head : List ℕ) (w h t : ℕ) → w ≡ number_from head 4 4 → h ≡ number_from head 8 4 → t ≡ number_from head 12 4
    → header_shape head ≡ shape_of w h t
unfolding header_shape
spelled_shape head w h t ew eh et = rw (ew, eh, et) refl

-- the length of a store, by the geometry that was made of its header and the depth
pub spelled_length : (head : List ℕ) (g s : Shape) (d want : ℕ) → g ≡ s → header_shape head ≡ s → d ≡ store_depth head → want ≡ store_length g d
    → want ≡ store_length (header_shape head) (store_depth head)
spelled_length head g s d want gs hs ds is = is ∙ ap (λ n. store_length g n) ds ∙ ap (λ z. store_length z (store_depth head)) (gs ∙ sym hs)
