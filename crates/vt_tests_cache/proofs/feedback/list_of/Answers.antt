use Rattle.std.proofs.Common.{rules, ◌≡◌, ◌<◌, length, arith}
use Rattle.std.specs.Prelude.{slice_index, replicate}
use Rattle.vt_pages.specs.Pages.{pages_of}
use Rattle.vt_tests_cache.proofs.Blank.{none_before}
use Rattle.vt_tests_cache.proofs.feedback.list_of.Goals as goal

pub merge-requires-clause-room : goal.merge-requires-clause-room
merge-requires-clause-room c = λ p inside.
    let blank : c.in_ok-counts.counts ≡ replicate (pages_of c.in_ok-geometry.geometry) 0 = search rules in
    let low = c.counted.ensures p in
    none_before c.in_ok-counts.counts (pages_of c.in_ok-geometry.geometry) p (slice_index c.counted.result p) 4294967296 blank inside (omega (arith, low))

pub merge-requires-2-clause-room : goal.merge-requires-2-clause-room
merge-requires-2-clause-room c = λ p inside.
    let blank : c.in_ok-counts.counts ≡ replicate (pages_of c.in_ok-geometry.geometry) 0 = search rules in
    let same = c.merge.ensures.length in
    let there : p < length c.in_ok-counts.counts = omega (arith, same, inside) in
    let sum = c.merge.ensures.sums p in
    let first = none_before c.in_ok-counts.counts (pages_of c.in_ok-geometry.geometry) p (slice_index c.counted.result p) 1000 blank there (c.counted.ensures p) in
    let second = c.counted-2.ensures p in
    omega (arith, sum, first, second)
