use Rattle.std.proofs.Common.{rules, ◌≡◌, ℕ, ◌-◌, List, ◌++◌, replicate, ap, ◌∙◌}
use Rattle.std.specs.List.{range_with_len}
use Rattle.vt_evict.proofs.recency.first_entries.Goals as goal

pub returns : goal.returns
returns c =
    let same : c.in_ok-entries.entries.items ≡ replicate (c.args.pages - c.args.pinned) 0 = search rules in
    c.in_ok-put_frames.ensures ∙ ap (λ (l : List ℕ). l ++ range_with_len 1 c.args.pinned) same
