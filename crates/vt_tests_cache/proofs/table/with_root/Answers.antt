use Rattle.std.proofs.Common.{◌≡◌, ◌+◌, [], ◌∙◌, ap, arith}
use Rattle.vt_pages.specs.Pages.{pages_of, root_of}
use Rattle.vt_table.specs.Views.{TableView}
use Rattle.vt_table.proofs.FewChanges.{none_at_first, no_frame_at_first, last_page}
use Rattle.vt_tests_cache.proofs.table.with_root.Goals as goal

pub fill-requires-clause-free : goal.fill-requires-clause-free
fill-requires-clause-free c p e =
    no_frame_at_first c.reserve.new.self.changes p 0 (ap (λ (v : TableView). v.changes) c.in_ok-reserve.ensures.rest ∙ c.in_ok-table.ensures.changes) e

pub publish-requires-clause-legal : goal.publish-requires-clause-legal
publish-requires-clause-legal c =
    let empty : c.fill.new.self.changes ≡ [] =
    c.fill.ensures.changes ∙ ap (λ (v : TableView). v.changes) c.in_ok-reserve.ensures.rest ∙ c.in_ok-table.ensures.changes in
    ((none_at_first c.fill.new.self.changes 4 empty, λ p e. no_frame_at_first c.fill.new.self.changes p 0 empty e), tt)

pub returns-clause-root : goal.returns-clause-root
returns-clause-root c =
    let last : root_of c.publish.new.self.shape + 1 ≡ pages_of c.publish.new.self.shape = last_page c.publish.new.self.shape c.publish.ensures.table.limits in
    let shape = c.publish.ensures.shape ∙ c.fill.ensures.shape ∙ ap (λ (v : TableView). v.shape) c.in_ok-reserve.ensures.rest ∙ c.in_ok-table.ensures.shape in
    let pages : pages_of c.publish.new.self.shape ≡ 5 = ap pages_of shape ∙ c.requires.pages in
    omega arith
