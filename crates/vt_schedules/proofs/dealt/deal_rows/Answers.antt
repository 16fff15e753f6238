use Rattle.std.proofs.Common.{◌≡◌, ℕ, ◌+◌, ◌-◌, ◌*◌, ◌<◌, List, [], ◌∷◌, ◌++◌, length, get_or, refl, sym, ap, ◌∙◌, subst, arith}
use Rattle.std.proofs.lemmas.List.{length-set, get_or-set_other}
use Rattle.std.proofs.lemmas.Option.{slice_get-get_or}
use Rattle.vt_definitions.specs.Dealing.{sampler_of, own_count}
use Rattle.vt_definitions.proofs.Dealt.{sampler_is, turns_end}
use Rattle.vt_schedules.specs.declared.bag.RowJob.{RowJob}
use Rattle.vt_schedules.proofs.Dealing.{HasRest, rest_none, rest_more, rest_all}
use Rattle.vt_schedules.proofs.dealt.deal_rows.Goals as goal

pub loop-i-init : goal.loop-i-init
loop-i-init c =
    let n : ℕ = c.args.samplers in
    let k : ℕ = c.args.number in
    let room = c.in_ok-reserve.ensures.room in
    record {
      number = refl;
      others = λ y d other. refl;
      front = λ y d low. refl;
      room = omega (arith, room);
      rest = λ height line same are.
          let count : c.count_own-rows.result - 0 ≡ own_count k n height =
          (let e = c.count_own-rows.ensures ∙ ap (λ (m : ℕ). own_count k n m) same in omega (arith, e)) in
          let none : c.reserve.new.self.elements ≡ [] = c.in_ok-reserve.ensures.elements ∙ c.new-own.ensures in
          subst (λ (z : ℕ × List RowJob). HasRest height line n k z.0 z.1) (λ j. (sym count j, sym none j)) (rest_none height line n k c.requires.one_of);
    }

pub loop-i-preserved : goal.loop-i-preserved
loop-i-preserved c =
    let n : ℕ = c.args.samplers in
    let k : ℕ = c.args.number in
    let one = c.requires.one_of in
    let jobs = c.args.jobs.now in
    let own = c.loop-i.own.elements in
    let inv = c.loop-i.invariant in
    let test = c.loop-i-test.true in
    let rows : ℕ = c.count_own-rows.result in
    let i : ℕ = c.loop-i.i in
    let turn : ℕ = rows - 1 - i in
    let y : ℕ = turn * n + k in
    let old = c.index-jobs-y.result in
    let own_is : sampler_of y n ≡ k = sampler_is k turn n one in
    let next : rows - i ≡ turn + 1 = omega (arith, test) in
    let here : rows - (i + 1) ≡ turn = omega (arith, test) in
    let above : (rows - i) * n + k ≡ turn * n + k + n = ap (λ (m : ℕ). m * n + k) next ∙ omega arith in
    let low : turn < own_count k n (length jobs) = (let e = c.count_own-rows.ensures in omega (arith, e, test)) in
    let inside : y < length jobs = (turns_end k turn n (length jobs) one).1 low in
    let job = get_or jobs y old in
    let taken : c.replace.result ≡ job = c.replace.ensures.value ∙ inv.front y old (omega (arith, above, one)) in
    record {
      number = length-set c.loop-i.jobs y c.replace.new.dest ∙ inv.number;
      others = λ z d other.
          get_or-set_other c.loop-i.jobs y z c.replace.new.dest d (λ same. other (ap (λ (m : ℕ). sampler_of m n) same ∙ own_is)) ∙ inv.others z d other;
      front = λ z d below.
          let before : z < y = subst (λ (m : ℕ). z < m * n + k) here below in
          get_or-set_other c.loop-i.jobs y z c.replace.new.dest d (λ same. absurd (omega (arith, same, before)))
          ∙ inv.front z d (omega (arith, before, above));
      room = (let a = inv.room in let b = c.push.ensures.spare in omega (arith, a, b));
      rest = λ height line same are.
          let all : c.push.new.self.elements ≡ own ++ job ∷ [] = c.push.ensures.elements ∙ ap (λ (x : RowJob). own ++ x ∷ []) taken in
          subst (λ (z : ℕ × List RowJob). HasRest height line n k z.0 z.1) (λ j. (sym here j, sym all j))
          (rest_more height line n k turn y own job one refl (omega (arith, inside, same))
          (subst (λ (m : ℕ). HasRest height line n k m own) next (inv.rest height line same are))
          (are y job own_is (slice_get-get_or jobs y old inside)));
    }

pub returns-clause-rows : goal.returns-clause-rows
returns-clause-rows c height line same are =
    let n : ℕ = c.args.samplers in
    let k : ℕ = c.args.number in
    let own = c.loop-i.own.elements in
    let test = c.loop-i-test.false in
    let none : c.count_own-rows.result - c.loop-i.i ≡ 0 = omega (arith, test) in
    let rest = subst (λ (m : ℕ). HasRest height line n k m own) none (c.loop-i.invariant.rest height line same are) in
    (rest_all height line n k own c.requires.one_of rest, rest.fits)
