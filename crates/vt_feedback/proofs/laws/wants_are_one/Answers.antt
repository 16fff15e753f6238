use Rattle.std.proofs.Common.{◌≡◌, ℕ, ◌==◌, nat_lt, ◌||◌, ◌&&◌, true, arith}
use Rattle.std.proofs.lemmas.Bool.Decides.{nat_tests}
use Rattle.vt_pages.specs.Pages.{level_of}
use Rattle.vt_feedback.specs.Wants.{is_before}
use Rattle.vt_feedback.proofs.OrderedLists.{ordered_are_one}
use Rattle.vt_feedback.proofs.laws.wants_are_one.Goals as goal

one_way : (lx ly px py ix iy : ℕ) → nat_lt ly lx || (lx == ly && (nat_lt py px || (px == py && nat_lt ix iy))) ≡ true
    → nat_lt lx ly || (ly == lx && (nat_lt px py || (py == px && nat_lt iy ix))) ≡ true → ⊥
one_way lx ly px py ix iy h k = grind (arith, nat_tests)

pub returns : goal.returns
returns c s pixels a b ha hb =
    ordered_are_one (λ x y. is_before s x y ≡ true) (λ x y. one_way (level_of s x.page) (level_of s y.page) x.pixels y.pixels x.page y.page) a b
    ha.ordered hb.ordered
    (λ w there. (hb.exact w).1 ((ha.exact w).0 there)) (λ w there. (ha.exact w).1 ((hb.exact w).0 there))
