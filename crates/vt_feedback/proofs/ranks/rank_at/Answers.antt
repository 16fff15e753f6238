use Rattle.std.proofs.Common.{◌≡◌, ℕ, ◌-◌, slice_index, ap, ◌∙◌}
use Rattle.vt_pages.specs.Pages.{level_of, levels_of}
use Rattle.vt_feedback.specs.declared.ranks.Rank.{Rank}
use Rattle.vt_feedback.specs.Ranks.{most_pixels}
use Rattle.vt_feedback.proofs.ranks.rank_at.Goals as goal

pub returns : goal.returns
returns c =
    let s = c.args.geometry.now in
    let fineness : c.levels.result - 1 - c.page_at.result.level ≡ levels_of s - 1 - level_of s c.args.page =
    ap (λ n. n - 1 - c.page_at.result.level) c.levels.ensures.levels ∙ ap (λ n. levels_of s - 1 - n) c.page_at.ensures.level in
    ap (λ (n : ℕ). let r : Rank = record { fineness = n; rarity = most_pixels - slice_index c.args.counts.now c.args.page; page = c.args.page } in r)
    fineness
