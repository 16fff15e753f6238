use Rattle.std.proofs.Common.{◌≡◌, ℕ, ◌+◌, ◌++◌, None, List, [], length, length-append, get_or, take, drop, sym, ap, ◌∙◌, arith}
use Rattle.std.specs.List.{flat_map}
use Rattle.std.proofs.lemmas.List.{take_more, flat_map_more}
use Rattle.std.proofs.lemmas.List.Folds.{length-flat_map-take}
use Rattle.vt_evict.specs.PlanTypes.batches.Planned.{Planned}
use Rattle.vt_residency.specs.declared.changes.Change.{Change}
use Rattle.vt_residency.specs.Changes.{load_changes}
use Rattle.vt_residency.proofs.Listing.{drop_same}
use Rattle.vt_residency.proofs.changes.fill.Goals as goal

pub put-requires : goal.put-requires
put-requires c =
    let h = length-flat_map-take load_changes c.args.loads.now c.loop-load.load-index (record { page = 0; frame = 0; victim = None }) c.loop-load-test.true in
    omega (arith, h, c.loop-load.invariant.count, c.loop-load.invariant.long, c.requires)

pub loop-load-preserved : goal.loop-load-preserved
loop-load-preserved c =
    let loads : List Planned = c.args.loads.now in
    let i : ℕ = c.loop-load.load-index in
    let n : ℕ = c.loop-load.count in
    let d : Planned = record { page = 0; frame = 0; victim = None } in
    let own : List Change = load_changes (get_or loads i d) in
    let k : c.count_of-count.result ≡ length own = c.count_of-count.ensures in
    let more : flat_map load_changes (take (i + 1) loads) ≡ flat_map load_changes (take i loads) ++ load_changes (get_or loads i d) =
    ap (flat_map load_changes) (take_more loads i d c.loop-load-test.true) ∙ sym (flat_map_more load_changes [] (take i loads) (get_or loads i d)) in
    record {
      count = omega (arith, c.loop-load.invariant.count, k, ap length more, length-append (flat_map load_changes (take i loads)) own);
      written = ap (λ (m : ℕ). take (n + m) c.put.new.out) k ∙ c.put.ensures.changes
          ∙ ap (λ (l : List Change). l ++ own) c.loop-load.invariant.written ∙ sym more;
      rest = ap (λ (m : ℕ). drop (n + m) c.put.new.out) k ∙ c.put.ensures.rest
          ∙ drop_same n (length own) c.loop-load.out c.args.out.now c.loop-load.invariant.rest ∙ sym (ap (λ (m : ℕ). drop (n + m) c.args.out.now) k);
      long = c.put.ensures.long ∙ c.loop-load.invariant.long;
    }
