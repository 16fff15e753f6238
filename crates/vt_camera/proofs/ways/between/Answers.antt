use Rattle.std.proofs.Common.{ℕ, ◌≡◌, ◌+ℤ◌, ◌-ℤ◌, ◌*ℤ◌, ◌≤ℤ◌, pos, negsuc, ℤ, to_z, of_z, w64, arith, ap, sym, ◌∙◌, subst}
use Rattle.std.proofs.lemmas.Int.{ints}
use Rattle.vt_text.specs.Numbers.{IsWithin}
use Rattle.vt_camera.specs.Rows.{floor_div}
use Rattle.vt_camera.specs.Ways.{place_between}
use Rattle.vt_camera.proofs.WayLemmas.{gone_limits, between_limits}
use Rattle.vt_camera.proofs.ways.between.Goals as goal

-- what is returned, without the words of the machine
sum : (a b g : ℤ) (i n : ℕ) → IsWithin (negsuc 2147483647) (pos 2147483648) a → IsWithin (negsuc 2147483647) (pos 2147483648) b
    → g ≡ floor_div (to_z w64 (of_z w64 (to_z w64 (of_z w64 b) -ℤ to_z w64 (of_z w64 a))) *ℤ pos i) n
    → IsWithin (negsuc 2147483647) (pos 2147483648) (place_between a b i n)
    → to_z w64 (of_z w64 (to_z w64 (of_z w64 a) +ℤ to_z w64 (of_z w64 g))) ≡ place_between a b i n
sum a b g i n wa wb e within =
    let distance : to_z w64 (of_z w64 (to_z w64 (of_z w64 b) -ℤ to_z w64 (of_z w64 a))) ≡ b -ℤ a = omega (arith, ints) in
    let is : g ≡ floor_div ((b -ℤ a) *ℤ pos i) n = e ∙ ap (λ (z : ℤ). floor_div (z *ℤ pos i) n) distance in
    let whole : a +ℤ g ≡ place_between a b i n = ap (λ (z : ℤ). a +ℤ z) is in
    let low : negsuc 2147483647 ≤ℤ (a +ℤ g) = subst (λ (z : ℤ). negsuc 2147483647 ≤ℤ z) (sym whole) within.0 in
    let high : (a +ℤ g) ≤ℤ pos 2147483648 = subst (λ (z : ℤ). z ≤ℤ pos 2147483648) (sym whole) within.1 in
    let plain : to_z w64 (of_z w64 (to_z w64 (of_z w64 a) +ℤ to_z w64 (of_z w64 g))) ≡ a +ℤ g = omega (arith, ints, wa, wb, low, high) in
    plain ∙ whole

pub returns-clause-value : goal.returns-clause-value
returns-clause-value c =
    sum c.args.a c.args.b c.gone.result c.args.i c.args.n c.requires.a_limits c.requires.b_limits c.gone.ensures
    (between_limits c.args.a c.args.b c.args.i c.args.n c.requires.within (negsuc 2147483647) (pos 2147483648) c.requires.a_limits c.requires.b_limits)

pub returns-clause-limits : goal.returns-clause-limits
returns-clause-limits c = λ low high x y.
    subst (λ (z : ℤ). IsWithin low high z) (sym (sum c.args.a c.args.b c.gone.result c.args.i c.args.n c.requires.a_limits c.requires.b_limits c.gone.ensures
    (between_limits c.args.a c.args.b c.args.i c.args.n c.requires.within (negsuc 2147483647) (pos 2147483648) c.requires.a_limits c.requires.b_limits)))
    (between_limits c.args.a c.args.b c.args.i c.args.n c.requires.within low high x y)

pub overflow_add-result : goal.overflow_add-result
overflow_add-result c =
    let distance : to_z w64 (of_z w64 (to_z w64 (of_z w64 c.args.b) -ℤ to_z w64 (of_z w64 c.args.a))) ≡ c.args.b -ℤ c.args.a = omega (arith, ints) in
    let is : c.gone.result ≡ floor_div ((c.args.b -ℤ c.args.a) *ℤ pos c.args.i) c.args.n =
    c.gone.ensures ∙ ap (λ (z : ℤ). floor_div (z *ℤ pos c.args.i) c.args.n) distance in
    let limits =
    gone_limits (c.args.b -ℤ c.args.a) c.args.i c.args.n c.requires.within (negsuc 4294967295) (pos 4294967296)
    (omega (arith, ints)) (omega (arith, ints)) (omega (arith, ints), omega (arith, ints)) in
    let low : negsuc 4294967295 ≤ℤ c.gone.result = subst (λ (z : ℤ). negsuc 4294967295 ≤ℤ z) (sym is) limits.0 in
    let high : c.gone.result ≤ℤ pos 4294967296 = subst (λ (z : ℤ). z ≤ℤ pos 4294967296) (sym is) limits.1 in
    omega (arith, ints)
