-- The laws of passes that take rows from a bag.
use Rattle.std.proofs.Common.{ℕ, ◌≤◌, inl, inr, Option, None, Some, List, [], length, refl, sym, ap, subst, arith}
use Rattle.vt_queue.specs.declared.views.PassView.{PassView}
use Rattle.vt_queue.specs.PassViews.{pass_view}
use Rattle.vt_queue.proofs.Gathered.{append_nil}
use Rattle.vt_schedules.specs.declared.bag.RowJob.{RowJob}
use Rattle.vt_schedules.specs.declared.bag.RowBag.{RowBag}
use Rattle.vt_schedules.specs.declared.bag.BagPass.{BagPass}
use Rattle.vt_schedules.specs.Bags.{view_of}
use Rattle.vt_schedules.specs.SharedRows.{Rise}
use Rattle.vt_schedules.specs.declared.shared.BagWay.{BagWay}
use Rattle.vt_schedules.specs.Sharing.{HasBagPass, TookRows, TookWay, EndedWay, AreSplit, AreBack}

pub none_back : (height line : ℕ) (firsts : List BagWay) (home : BagPass) → AreSplit height line firsts home → AreBack height line firsts [] home
none_back height line firsts home split = record { left = view_of home; shared = split; joined_are = refl }

rise_none : Rise []
rise_none i j d low inside = absurd (omega (arith, inside))

pub took_rows_none : (height line : ℕ) (v : PassView RowJob) → TookRows height line v v []
took_rows_none height line v = record {
  got = [];
  is = ap (λ (l : List (ℕ × RowJob)). pass_view v.shares v.known v.put l) (sym (append_nil v.took));
  rise = rise_none;
  exact = λ fit. refl;
}

pub took_way_none : (bag : RowBag) (height line : ℕ) (o : Option BagPass) → HasBagPass bag o → TookWay height line o o []
took_way_none bag height line o own = subst (λ (x : Option BagPass). TookWay height line x x []) (sym own.has) (took_rows_none height line (view_of own.pass))

pub all_taken_way : (height line : ℕ) (o q : Option BagPass) (rows : List ℕ) → TookWay height line o q rows → height ≤ length rows
    → EndedWay height line o q rows
all_taken_way height line None q rows took all = absurd took
all_taken_way height line (Some p) None rows took all = absurd took
all_taken_way height line (Some p) (Some q) rows took all = record { got = took.got; is = took.is; so = inr (inl all) }
