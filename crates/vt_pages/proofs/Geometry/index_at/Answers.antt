use Rattle.std.proofs.Common.{◌≡◌, ℕ, ◌+◌, ◌*◌, ◌<◌, slice_index, subst, refl, sym, arith}
use Rattle.vt_definitions.specs.Limits.{most_pages, most_levels}
use Rattle.vt_pages.specs.declared.tables.Tables.{Tables}
use Rattle.vt_pages.specs.Shape.{Shape}
use Rattle.vt_pages.specs.Tables.{IsGeometry}
use Rattle.vt_pages.specs.Pages.{columns_at, rows_at, levels_of, index_at, IsPageAt}
use Rattle.vt_pages.proofs.Names.{index_at_is_page}
use Rattle.vt_pages.proofs.Seen.{seen}
use Rattle.vt_pages.proofs.Geometry.index_at.Goals as goal

record IsIndexCode (s : Shape) (t : Tables) (k c r : ℕ) : Type 0 where
  same : slice_index t.first k + (r * slice_index t.columns k + c) ≡ index_at s k c r
  most : index_at s k c r < most_pages
  page : IsPageAt s k (index_at s k c r)

index_code : {s : Shape} {shift levels pages : ℕ} {t : Tables} (k c r : ℕ) → IsGeometry s shift levels pages t
    → k < levels_of s → c < columns_at s k → r < rows_at s k → IsIndexCode s t k c r
unfolding index_at
index_code {s} k c r g within wide high =
    let inside : k < most_levels = omega (arith, g.limits.most_levels) in
    let page = index_at_is_page s k c r within wide high in
    record {
      same = rw (g.tabled.first k inside, g.tabled.columns k inside) refl;
      most = omega (arith, page.inside, g.limits.most_pages);
      page = page;
    }

pub overflow_mul-result : goal.overflow_mul-result
overflow_mul-result c =
    let g = seen c.self.view_is c.self.invariant in
    let asked = c.requires in
    let code = index_code c.args.level c.args.col c.args.row g asked.level_inside asked.col_inside asked.row_inside in
    omega (arith, code.same, code.most)

pub overflow_add-result : goal.overflow_add-result
overflow_add-result c =
    let g = seen c.self.view_is c.self.invariant in
    let asked = c.requires in
    let code = index_code c.args.level c.args.col c.args.row g asked.level_inside asked.col_inside asked.row_inside in
    omega (arith, code.same, code.most)

pub overflow_add-result-2 : goal.overflow_add-result-2
overflow_add-result-2 c =
    let g = seen c.self.view_is c.self.invariant in
    let asked = c.requires in
    let code = index_code c.args.level c.args.col c.args.row g asked.level_inside asked.col_inside asked.row_inside in
    omega (arith, code.same, code.most)

pub returns : goal.returns
returns c =
    let g = seen c.self.view_is c.self.invariant in
    let asked = c.requires in
    let code = index_code c.args.level c.args.col c.args.row g asked.level_inside asked.col_inside asked.row_inside in
    record {
      index = code.same;
      page = subst (IsPageAt c.args.self.now c.args.level) (sym code.same) code.page;
      limits = g.limits;
    }
