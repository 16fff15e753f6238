use Rattle.std.proofs.Common.{◌≡◌, ◌<◌, ◌≤◌, ◌+◌, ◌-◌, ◌++◌, ℕ, not, map, reverse, drop, length, slice_index}
use Rattle.std.specs.List.{filter, range_with_len}
use Rattle.std.specs.Map.{keys_of}
use Rattle.vt_plan.specs.PageLists.{is_in}
use Rattle.vt_plan.specs.Entries.{taken_at}
use Rattle.vt_plan.proofs.plans.put_victims.Given as goal

abbrev pub invariant-loop : goal.invariant-loop
invariant-loop l =
    let victims = filter (λ p. not (is_in l.kept.keys p)) (reverse (keys_of l.order.entries)) in
    let before = length l.fn.batch.elements in
    let k = length l.batch.elements - before in
    record {
      grown : before ≤ length l.batch.elements;
      most : k ≤ l.most - before;
      least : k ≤ length victims;
      put : l.batch.elements ≡ l.fn.batch.elements ++ map (taken_at l.entries l.missing victims before) (range_with_len 0 k);
      rest : drop k victims ≡ filter (λ p. not (is_in l.kept.keys p)) (reverse (keys_of l.rest));
      count : length l.rest + l.counter ≡ length l.order.entries;
      room : l.most ≤ l.batch.spare + length l.batch.elements;
      inside : (i : ℕ) → i < length (keys_of l.rest) → slice_index (keys_of l.rest) i < length l.entries;
      mapped : (i : ℕ) → i < length (keys_of l.rest) → 0 < slice_index l.entries (slice_index (keys_of l.rest) i);
    }
