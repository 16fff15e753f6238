-- The rule by which the page table is published and entered.
use Rattle.std.specs.Prelude.{◌≡◌, ℕ, ◌≤◌, Some, None, List, [], ◌∷◌, All}
use mathlib.Core.List.{IsPrefix}
use mathlib.Core.Option.{some}
use lib.ListN.{get_elem?}
use Rattle.vt_swap_log.specs.declared.log.Front.{Front}
use Rattle.vt_swap_steps.specs.declared.table.NewestTable.{NewestTable}
use Rattle.vt_swap_steps.specs.declared.rule.Known.{Known}
use Rattle.vt_swap_log.specs.Caches.{AreOfOneLog}
use Rattle.vt_swap_steps.specs.Tables.{IsNewestTable}

abbrev pub nothing_known : Known
nothing_known = record { front = None; entered = [] }

-- what somebody knows is so at a table: it is of the log that is known, and no later version was entered
pub record Knows (t : NewestTable) (k : Known) : Type 0 where
  pub one_log : (f : Front) → k.front ≡ Some f → AreOfOneLog t.front f
  pub not_later : All (λ version. version ≤ t.version) k.entered

pub record IsNewestKept (t : NewestTable) (views : List Known) : Type 0 where
  pub table : IsNewestTable t
  pub knows : (seat : ℕ) (k : Known) → get_elem? views seat ≡ some k → Knows t k

-- a version was entered, and it is noted which
pub record HasEnteredVersion (v : Known) (x y : NewestTable) (w : Known) : Type 0 where
  pub table : IsNewestTable x
  pub before : Knows x v
  pub after : w ≡ record v { entered = x.version ∷ v.entered }

-- it is known which log it is
abbrev pub KnowsItsLog : Known → NewestTable → NewestTable → Known → Type 0
KnowsItsLog v x y w = w ≡ record v { front = Some y.front }

-- somebody knows which log a beginning is of
pub record KnowsLog (k : Known) (front : Front) : Type 0 where
  pub other : Front
  pub has : k.front ≡ Some other
  pub one_log : AreOfOneLog other front

-- a version is being read: it is that of its journal, which was seen
pub record IsEntered (k : Known) (t : NewestTable) (front : Front) : Type 0 where
  pub knows : KnowsLog k front
  pub one_log : AreOfOneLog t.front front
  pub table : IsNewestTable t
  pub seen : IsPrefix t.front.seen.log front.seen.log
