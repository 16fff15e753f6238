-- Runs of texels, and four pages that are one.
use Rattle.std.proofs.Common.{◌≡◌, ℕ, ◌+◌, ◌≤◌, Bool, true, false, refl, ap, arith}
use Rattle.std.specs.Prelude.{◌==◌, if◌then◌else◌}
use Rattle.vt_draw.specs.Shots.{run_of}
use Rattle.vt_blend.specs.declared.counting.Pages.{Pages}
use Rattle.vt_blend.specs.Counting.{times_among}

-- a run has no more for any page than it has
pub run-most : (page run p : ℕ) → run_of page run p ≤ run
unfolding run_of
run-most page run p = step (page == p) where
  step : (b : Bool) → (if b then run else 0) ≤ run
  step true = omega arith
  step false = omega arith

-- runs of the same page are one
pub run-sum : (page a b p : ℕ) → run_of page (a + b) p ≡ run_of page a p + run_of page b p
unfolding run_of
run-sum page a b p = step (page == p) where
  step : (c : Bool) → (if c then a + b else 0) ≡ (if c then a else 0) + (if c then b else 0)
  step true = refl
  step false = refl

pub times-are : (pages : Pages) (p : ℕ) → times_among pages p ≡ run_of pages.first 1 p + run_of pages.second 1 p + run_of pages.third 1 p + run_of pages.fourth 1 p
unfolding times_among
times-are pages p = refl

-- four pages that are one
pub times-one : (pages : Pages) (page p : ℕ) → pages.first ≡ page → pages.second ≡ page → pages.third ≡ page → pages.fourth ≡ page
    → times_among pages p ≡ run_of page 4 p
unfolding times_among
times-one pages page p a b c e =
    let first : run_of pages.first 1 p ≡ run_of page 1 p = ap (λ (q : ℕ). run_of q 1 p) a in
    let second : run_of pages.second 1 p ≡ run_of page 1 p = ap (λ (q : ℕ). run_of q 1 p) b in
    let third : run_of pages.third 1 p ≡ run_of page 1 p = ap (λ (q : ℕ). run_of q 1 p) c in
    let fourth : run_of pages.fourth 1 p ≡ run_of page 1 p = ap (λ (q : ℕ). run_of q 1 p) e in
    omega (arith, first, second, third, fourth, run-sum page 1 3 p, run-sum page 1 2 p, run-sum page 1 1 p)
