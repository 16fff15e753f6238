-- What a pass makes of a residency.
use Rattle.std.proofs.Common.{◌≡◌, ℕ, ◌<◌, ◌≤◌, Bool, not, List, [], map, length, get_or, refl, sym, subst, arith}
use Rattle.std.specs.Prelude.{slice_index_or, Contains}
use Rattle.std.specs.List.{All, range_with_len}
use Rattle.std.proofs.lemmas.List.{get_or_default}
use Rattle.std.proofs.lemmas.List.Filters.{length-filter_both}
use Rattle.std.proofs.lemmas.List.FromFn.{length-range_with_len, length-map-range_with_len}
use Rattle.vt_pages.specs.Limits.{most_frames}
use Rattle.vt_pages.specs.Shape.{Shape}
use Rattle.vt_pages.specs.Pages.{pages_of}
use Rattle.vt_feedback.specs.declared.Wanted.{Wanted}
use Rattle.vt_feedback.specs.Wants.{IsWants}
use Rattle.vt_evict.specs.PlanTypes.batches.Planned.{Planned}
use Rattle.vt_plan.specs.Views.{RecencyView, IsRecencyTable, is_held, free_frames}
use Rattle.vt_evict.specs.Batches.{IsLawfulBatch}
use Rattle.vt_residency.specs.Residencies.{ResidencyView, IsPlanned, IsPassed, pinned_at}
use Rattle.vt_residency.proofs.Ranking.{wants_same}

contained : (wants : List Wanted) (k : ℕ) (d : Wanted) → k < length wants → Contains wants (slice_index_or wants k d)
contained wants k d inside = (k, inside, sym (get_or_default wants k d (get_or wants k d) inside))

-- the pages of a wanted list are those of the chain
pub wants_inside : (s t : Shape) (pixels : ℕ → ℕ) (wants : List Wanted) → s ≡ t → IsWants t pixels wants → All (λ w. w.page < pages_of s) wants
wants_inside s t pixels wants same wanted k d inside =
    let here = (wanted.exact (slice_index_or wants k d)).0 (contained wants k d inside) in
    subst (λ x. (slice_index_or wants k d).page < pages_of x) (sym same) here.inside

pub passed : (old : ResidencyView) (s : Shape) (v : RecencyView) (loads came : List Planned) (f g : ℕ → ℕ) (q : ℕ) (w : RecencyView) (more : List Planned)
    → (let seen : ResidencyView = record { table = v; loads = loads; came = came } in seen) ≡ old → v.shape ≡ s → ((p : ℕ) → p < pages_of s → f p ≡ g p)
    → IsPlanned s v loads f q w more → IsPassed old g q (record { table = w; loads = more; came = came })
passed old s v loads came f g q w more is shape same h =
    subst (λ (x : ResidencyView). IsPassed x g q (record { table = w; loads = more; came = came })) is (record {
      planned = record {
        wants = h.wants;
        wanted = subst (λ (x : Shape). IsWants x g h.wants) (sym shape) (wants_same s f g h.wants same h.wanted);
        table = h.table;
        loads = h.loads;
      };
      came = refl;
    })

pub no_loads : (v : RecencyView) (b : List Planned) → b ≡ [] → IsLawfulBatch v b
no_loads v b none = rw none (record {
  each = λ k d inside. absurd (omega (arith, inside));
  apart = λ i j d below inside. absurd (omega (arith, inside));
})

-- no more frames are free than there are
pub few_free : (v : RecencyView) → IsRecencyTable v → length (free_frames v) ≤ most_frames
unfolding free_frames
few_free v h =
    let test : ℕ → Bool = λ f. not (is_held v.entries f) in
    let n = length-filter_both (λ f. not (is_held v.entries f)) (λ f. not (not (is_held v.entries f))) (λ x. refl) (range_with_len 0 v.frames) in
    omega (arith, n, length-range_with_len 0 v.frames, h.most_frames)

pub few_pinned : (s : Shape) (pinned frames : ℕ) → pinned ≤ frames → frames ≤ most_frames → length (map (pinned_at s pinned) (range_with_len 0 pinned)) ≤ most_frames
few_pinned s pinned frames enough most = omega (arith, length-map-range_with_len (pinned_at s pinned) 0 pinned, enough, most)
