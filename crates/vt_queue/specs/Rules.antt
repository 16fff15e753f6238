-- The rule that each step of a queue keeps.
use Rattle.std.specs.Prelude.{◌≡◌, List, [], ◌++◌, All, Contains}
use Rattle.vt_queue.specs.declared.views.PassView.{PassView}
use Rattle.vt_queue.specs.PassViews.{all_shares, shares_of}
use Rattle.vt_queue.specs.Orders.{placed, gathered, IsFirstInFirstOut}

-- A pass without shares has nothing.
pub record IsIdle {I : Type 0} (v : PassView I) : Type 0 where
  pub puts : v.shares ≡ 0 → v.put ≡ []
  pub takes : v.shares ≡ 0 → v.took ≡ []

-- What it knows is in the order.
abbrev pub KnowsRight : {I : Type 0} → List I → PassView I → Type 0
KnowsRight order v = All (Contains (placed 0 order)) v.known

-- What all passes put and took is first in, first out, they have all shares, and what they know is so.
pub record IsQueueKept {I : Type 0} (items : List I) (views : List (PassView I)) : Type 0 where
  pub order : IsFirstInFirstOut (gathered (λ v. v.put) views) (gathered (λ v. v.took) views) items
  pub whole : shares_of views ≡ all_shares
  pub idle : All IsIdle views
  pub knows : All (KnowsRight (order.gone ++ items)) views
