-- Ways by which rows are taken.
use Rattle.std.proofs.Common.{◌≡◌, ℕ, false, Some, List, [], ◌∷◌, ◌++◌, sym, ap, ◌∙◌, subst}
use Rattle.std.specs.Prelude.{Result, Ok, Err, OnOk}
use Rattle.vt_queue.specs.declared.views.PassView.{PassView}
use Rattle.vt_queue.specs.Steps.{IsAtStep}
use Rattle.vt_schedules.specs.declared.bag.RowJob.{RowJob}
use Rattle.vt_schedules.specs.declared.bag.BagPass.{BagPass}
use Rattle.vt_schedules.specs.Bags.{view_of}
use Rattle.vt_schedules.specs.declared.shared.BagWay.{BagWay}
use Rattle.vt_schedules.specs.Rows.{AreTaken, AreAllRows}
use Rattle.vt_schedules.specs.Sharing.{TookWay, AreBack, joined_if}
use Rattle.vt_schedules.proofs.AllShared.{all_shared}
use Rattle.vt_schedules.proofs.Taking.{back_more}

pub on_ok : {V E A B : Type 0} (r : Result V E) → (A → B) → OnOk r A → OnOk r B
on_ok (Ok v) f a = f a
on_ok (Err e) f a = tt

-- a pass is back
pub way_back : (height line : ℕ) (firsts owns : List BagWay) (home now p : BagPass) (a : BagWay) → AreBack height line firsts owns home → a.pass ≡ Some p
    → view_of now ≡ joined_if (view_of home) (Some p) → AreBack height line firsts (owns ++ a ∷ []) now
way_back height line firsts owns home now p a was has is =
    back_more height line firsts owns home now a was (is ∙ ap (joined_if (view_of home)) (sym has))

-- all are back, and none is left in the bag
pub all_back : (height line n : ℕ) (firsts owns : List BagWay) (rows : List (List ℕ)) (home now : BagPass) → AreBack height line firsts owns home
    → AreTaken (λ (a b : BagWay) (l : List ℕ). TookWay height line a.pass b.pass l) n firsts owns rows
    → view_of now ≡ view_of home → IsAtStep (view_of now) [] → AreAllRows false height n rows
all_back height line n firsts owns rows home now back are same empty =
    all_shared height line n firsts owns rows back.left back.shared are
    (subst (λ (v : PassView RowJob). IsAtStep v []) (same ∙ back.joined_are) empty)
