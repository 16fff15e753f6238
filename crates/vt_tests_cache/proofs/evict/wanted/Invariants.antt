use Rattle.std.proofs.Common.{◌<◌}
use Rattle.std.specs.List.{All}
use Rattle.vt_pages.specs.Pages.{pages_of}
use Rattle.vt_tests_cache.proofs.evict.wanted.Given as goal

abbrev pub invariant-loop-page : goal.invariant-loop-page
invariant-loop-page l = All (λ w. w.page < pages_of l.geometry) l.wants.elements
