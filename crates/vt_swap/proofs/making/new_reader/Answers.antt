use Rattle.std.proofs.Common.{rules, sym, ap, ◌∙◌}
use Rattle.vt_swap_steps.specs.Caches.{cache_of}
use Rattle.vt_swap_steps.specs.LogTypes.log.Front.{Front}
use Rattle.vt_swap_steps.specs.declared.rule.Known.{Known}
use Rattle.vt_swap_steps.proofs.Turning.{forks, merges}
use Rattle.vt_swap.proofs.making.new_reader.Goals as goal

pub tell-requires : goal.tell-requires
tell-requires g c = forks _ _

pub learn-requires : goal.learn-requires
learn-requires g c = record { own = search rules; rule = merges _ _ _ _ }

pub invariant_of-result : goal.invariant_of-result
invariant_of-result g c =
    let k = c.requires.knows in
    record {
      other = k.other;
      has = ap (λ (v : Known). v.front) c.learn.ensures.1 ∙ (ap (λ (v : Known). v.front) c.tell.ensures.given.1 ∙ k.has);
      one_log = k.one_log ∙ sym (ap (λ (f : Front). cache_of f) c.again.ensures);
    }
