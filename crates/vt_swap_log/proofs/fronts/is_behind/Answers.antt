use Rattle.std.proofs.Common.{◌≡◌, ℕ, ◌≤◌, Bool, true, false, ap, subst, arith, length, List, refl, leb}
use Rattle.std.specs.Prelude.{MatchBool}
use Rattle.std.proofs.lemmas.Bool.Decides.{nat_tests}
use mathlib.Core.List.{IsPrefix}
use Rattle.vt_swap_log.specs.declared.records.LogRecord.{LogRecord}
use Rattle.vt_swap_log.proofs.Prefixes.{prefix_shorter}
use Rattle.vt_swap_log.proofs.fronts.is_behind.Goals as goal

by_count : (xs ys zs : List LogRecord) (m n : ℕ) → m ≡ length xs → n ≡ length ys → IsPrefix xs zs → IsPrefix ys zs → (b : Bool) → leb m n ≡ b
    → MatchBool b (IsPrefix xs ys) (IsPrefix ys xs)
by_count xs ys zs m n is js p q true e = prefix_shorter xs ys zs p q (let h : m ≤ n = grind (arith, nat_tests) in omega (arith, h, is, js))
by_count xs ys zs m n is js p q false e = prefix_shorter ys xs zs q p (let h : n ≤ m = grind (arith, nat_tests) in omega (arith, h, is, js))

pub returns : goal.returns
returns c =
    let both = c.learn.new.self.log in
    let mine : IsPrefix c.args.one.now.seen.log both = subst (λ (l : List LogRecord). IsPrefix l both) (ap (λ s. s.log) c.again-both.ensures) c.learn.ensures.2 in
    by_count c.args.one.now.seen.log c.args.other.now.seen.log both c.args.one.now.count c.args.other.now.count
    c.args.one.now.counted c.args.other.now.counted mine c.learn.ensures.3 _ refl
