use Rattle.std.proofs.Common.{◌≡◌, ℕ, ◌<◌, List, map, slice_index, subst, sym, ap, ◌∙◌}
use Rattle.std.specs.List.{All}
use Rattle.std.proofs.lemmas.Result.{IfOk-weaker}
use Rattle.vt_feedback.specs.contracts.ranks.RankOrd.TheImpl.Laws.{total-law}
use Rattle.vt_pages.specs.Shape.{Shape}
use Rattle.vt_pages.specs.Pages.{pages_of}
use Rattle.vt_feedback.specs.Ranks.{rank_of, wanted_by}
use Rattle.vt_feedback.specs.Wants.{IsWants}
use Rattle.vt_residency.proofs.Tallying.{listed_below}
use Rattle.vt_residency.proofs.Ranking.{wants_of_listed}
use Rattle.vt_residency.proofs.tally.Tally.wanted.Goals as goal

pub ranks_at-requires-clause-inside : goal.ranks_at-requires-clause-inside
ranks_at-requires-clause-inside c =
    subst (λ (l : List ℕ). All (λ p. p < pages_of c.args.geometry.now) l) (sym c.slice.ensures)
    (listed_below (pages_of c.args.geometry.now) c.args.self.now.counts.items c.args.self.now.pages c.requires)

pub returns : goal.returns
returns c =
    let s : Shape = c.args.geometry.now in
    let counts : List ℕ = c.args.self.now.counts.items in
    let ranks : c.in_ok-ranks.ranks.items ≡ map (rank_of s counts) c.args.self.now.pages.elements =
    c.in_ok-ranks.ensures ∙ ap (λ (l : List ℕ). map (rank_of s c.as_slice.result.now) l) c.slice.ensures
    ∙ ap (λ (l : List ℕ). map (rank_of s l) c.args.self.now.pages.elements) c.as_slice.ensures.value in
    IfOk-weaker c.wants_of.result (λ w. w.elements ≡ map wanted_by c.as_slice-2.result.now) (λ w. IsWants s (slice_index counts) w.elements)
    (λ w e. rw (e, c.as_slice-2.ensures.value)
    (wants_of_listed s counts c.args.self.now.pages c.sort_unstable.new.self.items c.requires (rw (← ranks) c.sort_unstable.ensures.permutation)
    c.sort_unstable.ensures.sorted total-law))
    c.wants_of.ensures
