use Rattle.std.proofs.Common.{◌≡◌, ℕ, List, map, min, length, ap, ◌∙◌, arith}
use Rattle.std.specs.List.{range_with_len}
use Rattle.std.specs.Map.{keys_of}
use Rattle.vt_plan.specs.FeedbackTypes.Wanted.{Wanted}
use Rattle.vt_plan.specs.Views.{RecencyView, free_frames}
use Rattle.vt_plan.specs.Plans.{plan_by, candidates, planned_at, planned_count}
use Rattle.vt_evict.proofs.PlanLemmas.{any_taken}
use Rattle.vt_evict.proofs.FreeLemmas.{free_is}
use Rattle.vt_evict.proofs.Seen.{view_of}
use Rattle.vt_evict.proofs.recency.Recency.plan_by.Goals as goal

by_free : (v : RecencyView) (wants : List Wanted) (q : ℕ) (missing free : List ℕ) → free ≡ free_frames v
    → map (planned_at v.entries missing free (candidates v wants)) (range_with_len 0 (planned_count q missing free (candidates v wants)))
    ≡ plan_by v wants missing q
unfolding plan_by
by_free v wants q missing free f =
    ap (λ (l : List ℕ). map (planned_at v.entries missing l (candidates v wants)) (range_with_len 0 (planned_count q missing l (candidates v wants)))) f

pub returns : goal.returns
returns c =
    let v : RecencyView =
    view_of c.self.inside.geometry c.self.inside.frames c.self.inside.pinned c.self.inside.entries.items (keys_of c.self.inside.order.entries) in
    let seen : RecencyView = c.args.self.now in
    let wants : List Wanted = c.args.wants.now.elements in
    let missing : List ℕ = c.args.missing.now in
    let free : List ℕ = c.self.inside.free.keys in
    let f : free ≡ free_frames seen = free_is v free c.len-ordered.ensures.ordered c.self.invariant.free_frames ∙ ap free_frames c.self.view_is in
    let n : c.min-most.result ≡ min (length missing) c.args.q = omega (arith, c.min-most.ensures) in
    any_taken seen.entries missing free (candidates seen wants) c.args.q c.min-most.result c.in_ok-batch.batch.elements c.put_taken.new.batch.elements n
    c.in_ok-batch.ensures.put c.in_ok-batch.ensures.count c.in_ok-put_taken.ensures
    ∙ by_free seen wants c.args.q missing free f
