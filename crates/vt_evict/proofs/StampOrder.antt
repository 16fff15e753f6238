-- Stamps are in one order.
use Rattle.std.proofs.Common.{◌≡◌, ℕ, ◌<◌, true, false, ◌&&◌, ◌||◌, ◌==◌, nat_lt, Option, Some, None, IsSome, refl, ap, ◌∙◌, arith}
use Rattle.std.proofs.lemmas.Bool.{false≢true}
use Rattle.std.proofs.lemmas.Bool.Decides.{nat_tests}
use Rattle.vt_evict.specs.Stamps.{Stamp, is_less, IsGreatest}

by_pass : (p q x y k l : ℕ) → p < q → (nat_lt p q || (p == q && (nat_lt x y || (x == y && nat_lt k l)))) ≡ true
by_pass p q x y k l h = grind (arith, nat_tests)

by_place : (p q x y k l : ℕ) → p ≡ q → x < y → (nat_lt p q || (p == q && (nat_lt x y || (x == y && nat_lt k l)))) ≡ true
by_place p q x y k l e h = grind (arith, nat_tests)

by_level : (p q x y k l : ℕ) → p ≡ q → x ≡ y → k < l → (nat_lt p q || (p == q && (nat_lt x y || (x == y && nat_lt k l)))) ≡ true
by_level p q x y k l e f h = grind (arith, nat_tests)

pub less_pass : (a b : Stamp) → a.pass < b.pass → is_less a b ≡ true
less_pass a b h = by_pass a.pass b.pass a.place b.place a.level b.level h

pub less_place : (a b : Stamp) → a.pass ≡ b.pass → a.place < b.place → is_less a b ≡ true
less_place a b e h = by_place a.pass b.pass a.place b.place a.level b.level e h

pub less_level : (a b : Stamp) → a.pass ≡ b.pass → a.place ≡ b.place → a.level < b.level → is_less a b ≡ true
less_level a b e f h = by_level a.pass b.pass a.place b.place a.level b.level e f h

pub pass_is : {a b : Stamp} → a ≡ b → a.pass ≡ b.pass
pass_is e = ap (λ (t : Stamp). t.pass) e

pub place_is : {a b : Stamp} → a ≡ b → a.place ≡ b.place
place_is e = ap (λ (t : Stamp). t.place) e

-- a greatest stamp is there where there is one
pub some_of : (Own : Stamp → Type 0) (o : Option Stamp) (t : Stamp) → IsGreatest Own o → Own t → IsSome o
some_of Own None t none own = absurd (none t own)
some_of Own (Some a) t g own = refl

pub value_of : (o : Option Stamp) → IsSome o → (t : Stamp) × (o ≡ Some t)
value_of None h = absurd (false≢true h)
value_of (Some t) h = (t, refl)

same_pass : (p q x y k l : ℕ) → (nat_lt p q || (p == q && (nat_lt x y || (x == y && nat_lt k l)))) ≡ false
    → (nat_lt q p || (q == p && (nat_lt y x || (y == x && nat_lt l k)))) ≡ false → p ≡ q
same_pass p q x y k l h back = grind (arith, nat_tests)

same_place : (p q x y k l : ℕ) → (nat_lt p q || (p == q && (nat_lt x y || (x == y && nat_lt k l)))) ≡ false
    → (nat_lt q p || (q == p && (nat_lt y x || (y == x && nat_lt l k)))) ≡ false → x ≡ y
same_place p q x y k l h back = grind (arith, nat_tests)

same_level : (p q x y k l : ℕ) → (nat_lt p q || (p == q && (nat_lt x y || (x == y && nat_lt k l)))) ≡ false
    → (nat_lt q p || (q == p && (nat_lt y x || (y == x && nat_lt l k)))) ≡ false → k ≡ l
same_level p q x y k l h back = grind (arith, nat_tests)

not_less_itself : (p x k : ℕ) → (nat_lt p p || (p == p && (nat_lt x x || (x == x && nat_lt k k)))) ≡ false
not_less_itself p x k = grind (arith, nat_tests)

less_through : (p q r x y z k l m : ℕ) → (nat_lt p r || (p == r && (nat_lt x z || (x == z && nat_lt k m)))) ≡ false
    → (nat_lt p q || (p == q && (nat_lt x y || (x == y && nat_lt k l)))) ≡ true
    → (nat_lt q r || (q == r && (nat_lt y z || (y == z && nat_lt l m)))) ≡ false
less_through p q r x y z k l m h less = grind (arith, nat_tests)

less_one_way : (p q x y k l : ℕ) → (nat_lt p q || (p == q && (nat_lt x y || (x == y && nat_lt k l)))) ≡ true
    → (nat_lt q p || (q == p && (nat_lt y x || (y == x && nat_lt l k)))) ≡ true → ⊥
less_one_way p q x y k l h back = grind (arith, nat_tests)

-- two stamps of which neither is less are one
pub neither_less : (a b : Stamp) → is_less a b ≡ false → is_less b a ≡ false → a ≡ b
neither_less a b h back =
    let pass : a.pass ≡ b.pass = same_pass a.pass b.pass a.place b.place a.level b.level h back in
    let place : a.place ≡ b.place = same_place a.pass b.pass a.place b.place a.level b.level h back in
    let level : a.level ≡ b.level = same_level a.pass b.pass a.place b.place a.level b.level h back in
    λ i. record { pass = pass i; place = place i; level = level i }

pub irreflexive : (a : Stamp) → is_less a a ≡ false
irreflexive a = not_less_itself a.pass a.place a.level

pub not_less_same : (a u : Stamp) → u ≡ a → is_less a u ≡ false
not_less_same a u e = ap (is_less a) e ∙ irreflexive a

pub less_after : (a b u : Stamp) → is_less a u ≡ false → is_less a b ≡ true → is_less b u ≡ false
less_after a b u h less = less_through a.pass b.pass u.pass a.place b.place u.place a.level b.level u.level h less

pub not_both : (a b : Stamp) → is_less a b ≡ true → is_less b a ≡ true → ⊥
not_both a b h back = less_one_way a.pass b.pass a.place b.place a.level b.level h back
