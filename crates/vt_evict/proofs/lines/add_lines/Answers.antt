use Rattle.std.proofs.Common.{ℕ, ◌<◌, List, length, get_or, ◌∙◌, sym, ap, take, arith}
use Rattle.std.proofs.lemmas.List.{map_more}
use Rattle.vt_plan.specs.Shape.{Shape}
use Rattle.vt_plan.specs.Pages.{pages_of}
use Rattle.vt_plan.specs.FeedbackTypes.Wanted.{Wanted}
use Rattle.vt_plan.specs.Wants.{pages_wanted}
use Rattle.vt_plan.specs.Orders.{line_pages}
use Rattle.vt_evict.proofs.LineLemmas.{line_pages-none, line_pages-more, walked_over, closed_none}
use Rattle.vt_evict.proofs.lines.add_lines.Goals as goal

pub loop-want-init : goal.loop-want-init
loop-want-init c = record {
  closed = rw c.requires.none (closed_none c.args.geometry.now);
  walked = c.requires.none ∙ sym (line_pages-none c.args.geometry.now);
}

pub loop-want-preserved : goal.loop-want-preserved
loop-want-preserved c =
    let s : Shape = c.args.geometry.now in
    let list : List Wanted = c.slice-list.result.now in
    let i : ℕ = c.loop-want.want-index in
    let d : Wanted = record { page = 0; pixels = 0 } in
    let p : ℕ = (get_or list i d).page in
    let within : i < length list = omega arith in
    let inside : p < pages_of s = rw c.slice-list.ensures (c.requires.inside i d (omega (arith, ap length c.slice-list.ensures))) in
    record {
      closed = c.in_ok-add_line.ensures.closed;
      walked = c.in_ok-add_line.ensures.added ∙ ap (λ (l : List ℕ). walked_over s l p) c.loop-want.invariant.walked
          ∙ sym (line_pages-more s (pages_wanted (take i list)) p c.page_count-limits.ensures.limits inside)
          ∙ ap (line_pages s) (sym (map_more (λ w. w.page) list i d within));
    }
