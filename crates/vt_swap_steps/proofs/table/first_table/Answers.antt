use Rattle.std.proofs.Common.{rules, ◌≡◌, replicate, refl, sym, ap, ◌∙◌}
use Rattle.vt_swap_log.specs.declared.log.Front.{Front}
use Rattle.vt_swap_steps.proofs.Turning.{kept_first}
use Rattle.vt_swap_steps.proofs.table.first_table.Goals as goal

pub returns-clause-kept : goal.returns-clause-kept
returns-clause-kept c =
    let zeros : c.in_ok-entries.entries.items ≡ replicate c.args.front.now.pages 0 = search rules in
    kept_first (record { version = 0; entries = c.in_ok-entries.entries; front = c.again.result }) refl
    (zeros ∙ ap (λ (f : Front). replicate f.pages 0) (sym c.again.ensures))
    (ap (λ (f : Front). f.seen.log) c.again.ensures ∙ c.requires.empty)
