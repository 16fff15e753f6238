-- No more reads of unpinned pages have failed than entries were lost.
use Rattle.std.proofs.Common.{◌≡◌, ℕ, zero, suc, ◌+◌, ◌-◌, ◌*◌, ◌/◌, ◌<◌, ◌≤◌, ◌⊎◌, inl, inr, Bool, true, false, cond, ◌&&◌, nat_eq, List, [], ◌∷◌, length, refl, sym, ap, ◌∙◌, arith}
use Rattle.std.specs.Prelude.{sum_by, count_by}
use Rattle.std.specs.List.{range_with_len}
use Rattle.std.proofs.Math.Nat.{mul-div_cancel}
use Rattle.std.proofs.lemmas.Bool.Decides.{nat_tests}
use Rattle.std.proofs.lemmas.List.Sums.{sum_by-cons}
use Rattle.std.proofs.lemmas.Nat.{mul-le}
use Rattle.vt_ppm.specs.Depths.{IsDepth, texel_length}
use Rattle.vt_outside.specs.Places.{times_failed}
use Rattle.vt_outside.specs.declared.place.Place.{Place}
use Rattle.vt_pages.specs.Shape.{Shape}
use Rattle.vt_pages.specs.Pages.{IsWithinLimits, pages_of}
use Rattle.vt_tiles.specs.Format.{tile_area, tile_length, tile_start}
use Rattle.vt_evict.specs.PlanTypes.batches.Planned.{Planned}
use Rattle.vt_walk_decisions.specs.Requests.{is_tile_at, times_planned}
use Rattle.vt_walk.specs.Reads.{lost_reads}

-- a tile has bytes
pub some_byte : (s : Shape) (d : ℕ) → IsWithinLimits s → IsDepth d → 1 ≤ tile_length s d
some_byte s d limits depth = mul-le 1 1 (tile_area s) (texel_length d)
    (mul-le 1 1 s.tile s.tile (omega (arith, limits.least_tile)) (omega (arith, limits.least_tile))) (by depth) where
      by : (d ≡ 1) ⊎ (d ≡ 2) → 1 ≤ texel_length d
      by (inl one) = omega (arith, one)
      by (inr two) = omega (arith, two)

pub same_factor : (p q t : ℕ) → 1 ≤ t → p * t ≡ q * t → p ≡ q
same_factor p q t some e =
    let positive : 0 < t = omega (arith, some) in
    sym (mul-div_cancel p positive) ∙ ap (λ n. n / t) e ∙ mul-div_cancel q positive

both_true : (b c : Bool) → (b && c) ≡ true → b ≡ true
both_true true c e = refl
both_true false c e = e

same_number : (x y : ℕ) → nat_eq x y ≡ true → x ≡ y
same_number x y e = grind (arith, nat_tests)

-- a place is that of one page's tile at most
same_page : (s : Shape) (d p page : ℕ) → 1 ≤ tile_length s d → is_tile_at s d (tile_start s d p) (tile_length s d) page ≡ true → p ≡ page
same_page s d p page some is =
    let starts : tile_start s d page ≡ tile_start s d p = same_number (tile_start s d page) (tile_start s d p)
    (both_true (nat_eq (tile_start s d page) (tile_start s d p)) (nat_eq (tile_length s d) (tile_length s d)) is) in
    same_factor p page (tile_length s d) some (omega (arith, starts))

none_later : (t : ℕ → Bool) (page a n : ℕ) → ((p : ℕ) → t p ≡ true → p ≡ page) → page < a → count_by t (range_with_len a n) ≡ 0
none_later t page a zero one past = omega arith
none_later t page a (suc n) one past = pick (t a) (λ i. t a) (none_later t page (a + 1) n one (omega (arith, past))) where
  pick : (b : Bool) → t a ≡ b → count_by t (range_with_len (a + 1) n) ≡ 0 → count_by t (range_with_len a (suc n)) ≡ 0
  pick true is rest = absurd (let same = one a is in omega (arith, same, past))
  pick false is rest = omega (arith, sum_by-cons (λ p. cond (t p) 1 0) a (range_with_len (a + 1) n), ap {B = ℕ} (λ b. cond b 1 0) is, rest)

once_most : (t : ℕ → Bool) (page a n : ℕ) → ((p : ℕ) → t p ≡ true → p ≡ page) → count_by t (range_with_len a n) ≤ 1
once_most t page a zero one = omega arith
once_most t page a (suc n) one = pick (t a) (λ i. t a) (once_most t page (a + 1) n one) where
  pick : (b : Bool) → t a ≡ b → count_by t (range_with_len (a + 1) n) ≤ 1 → count_by t (range_with_len a (suc n)) ≤ 1
  pick true is rest = let same = one a is in
      omega (
        arith,
        sum_by-cons (λ p. cond (t p) 1 0) a (range_with_len (a + 1) n),
        ap {B = ℕ} (λ b. cond b 1 0) is,
        none_later t page (a + 1) n one
            (omega (arith, same)),
      )
  pick false is rest = omega (arith, sum_by-cons (λ p. cond (t p) 1 0) a (range_with_len (a + 1) n), ap {B = ℕ} (λ b. cond b 1 0) is, rest)

sums : (f g h : ℕ → ℕ) (xs : List ℕ) → ((x : ℕ) → f x ≤ g x + h x) → sum_by f xs ≤ sum_by g xs + sum_by h xs
sums f g h [] each = omega arith
sums f g h (x ∷ xs) each = omega (arith, sum_by-cons f x xs, sum_by-cons g x xs, sum_by-cons h x xs, each x, sums f g h xs each)

zeros : (xs : List ℕ) → sum_by (λ x. 0) xs ≡ 0
zeros [] = omega arith
zeros (x ∷ xs) = omega (arith, sum_by-cons (λ y. 0) x xs, zeros xs)

-- how often the places of so many pages are those of entries
planned_most : (s : Shape) (d : ℕ) (lost : List Planned) (n : ℕ) → 1 ≤ tile_length s d
    → sum_by (λ p. times_planned s d lost (tile_start s d p) (tile_length s d)) (range_with_len 0 n) ≤ length lost
planned_most s d [] n some = omega (arith, zeros (range_with_len 0 n))
planned_most s d (e ∷ lost) n some =
    omega (
      arith,
      sums (λ p. times_planned s d (e ∷ lost) (tile_start s d p) (tile_length s d)) (λ p. cond (is_tile_at s d (tile_start s d p) (tile_length s d) e.page) 1 0)
          (λ p. times_planned s d lost (tile_start s d p) (tile_length s d)) (range_with_len 0 n)
          (λ p. omega (arith, sum_by-cons (λ (x : Planned). cond (is_tile_at s d (tile_start s d p) (tile_length s d) x.page) 1 0) e lost)),
      once_most (λ p. is_tile_at s d (tile_start s d p) (tile_length s d) e.page) e.page 0 n (λ p is. same_page s d p e.page some is),
      planned_most s d lost n some,
    )

-- a read failed at most as often more as it is that of one of these entries
abbrev pub FailsAtMostFor : Shape → ℕ → List Planned → List Place → List Place → Type 0
FailsAtMostFor s d lost before after = (at len : ℕ) → times_failed at len after ≤ times_failed at len before + times_planned s d lost at len

pub lost_reads_most : (s : Shape) (d pinned : ℕ) (lost : List Planned) (old new : List Place) → IsWithinLimits s → IsDepth d
    → FailsAtMostFor s d lost old new → lost_reads s d pinned new ≤ lost_reads s d pinned old + length lost
lost_reads_most s d pinned lost old new limits depth fails =
    omega (
      arith,
      sums (λ p. times_failed (tile_start s d p) (tile_length s d) new) (λ p. times_failed (tile_start s d p) (tile_length s d) old)
          (λ p. times_planned s d lost (tile_start s d p) (tile_length s d)) (range_with_len 0 (pages_of s - pinned))
          (λ p. fails (tile_start s d p) (tile_length s d)),
      planned_most s d lost (pages_of s - pinned) (some_byte s d limits depth),
    )
