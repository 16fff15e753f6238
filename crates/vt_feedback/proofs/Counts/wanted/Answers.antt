use Rattle.std.proofs.Common.{◌≡◌, ℕ, ◌≤◌, List, length, subst, map, slice_index}
use Rattle.std.proofs.lemmas.Result.{IfOk-weaker}
use Rattle.vt_feedback.specs.contracts.ranks.RankOrd.TheImpl.Laws.{total-law}
use Rattle.vt_pages.specs.Shape.{Shape}
use Rattle.vt_feedback.specs.Ranks.{most_pixels, ranks_below, wanted_by}
use Rattle.vt_feedback.specs.Wants.{IsWants}
use Rattle.vt_feedback.proofs.RankLemmas.{wants_from_ranks}
use Rattle.vt_feedback.proofs.Counts.wanted.Goals as goal

pub returns : goal.returns
returns c =
    let s : Shape = c.args.geometry.now in
    let counts : List ℕ = c.args.self.now in
    let same : c.as_slice.result.now ≡ counts = cc in
    let most : (p : ℕ) → slice_index counts p ≤ most_pixels =
    subst (λ (l : List ℕ). (p : ℕ) → slice_index l p ≤ most_pixels) same c.in_ok-ranks.ensures.most in
    let ranks : c.in_ok-ranks.ranks.items ≡ ranks_below s counts (length counts) =
    subst (λ (l : List ℕ). c.in_ok-ranks.ranks.items ≡ ranks_below s l (length l)) same c.in_ok-ranks.ensures.ranks in
    IfOk-weaker c.wants_of.result (λ w. w.elements ≡ map wanted_by c.as_slice-3.result.now) (λ w. IsWants s (slice_index counts) w.elements)
    (λ w e. rw (e, c.as_slice-3.ensures.value)
    (wants_from_ranks s counts c.sort_unstable.new.self.items c.requires most (rw (← ranks) c.sort_unstable.ensures.permutation)
    c.sort_unstable.ensures.sorted total-law))
    c.wants_of.ensures
