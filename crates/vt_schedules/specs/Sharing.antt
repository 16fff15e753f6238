-- Rows that samplers take from a bag.
use Rattle.std.specs.Prelude.{◌≡◌, ℕ, ◌+◌, ◌≤◌, ◌⊎◌, Option, None, Some, List, [], ◌∷◌, length, slice_get, All}
use Rattle.vt_queue.specs.declared.views.PassView.{PassView}
use Rattle.vt_queue.specs.PassViews.{all_shares, joined}
use Rattle.vt_queue.specs.Orders.{items_of}
use Rattle.vt_queue.specs.Steps.{IsAtStep}
use Rattle.vt_schedules.specs.declared.bag.RowJob.{RowJob}
use Rattle.vt_schedules.specs.declared.bag.RowBag.{RowBag}
use Rattle.vt_schedules.specs.declared.bag.BagPass.{BagPass}
use Rattle.vt_schedules.specs.Bags.{view_of, IsPassOfBag}
use Rattle.vt_schedules.specs.SharedRows.{FitsRow, AreRowsPut, Took, Rise, rows_of}
use Rattle.vt_schedules.specs.declared.shared.BagWay.{BagWay}

-- a sampler has its pass of a bag
pub record HasBagPass (bag : RowBag) (o : Option BagPass) : Type 0 where
  pub pass : BagPass
  pub has : o ≡ Some pass
  pub of : IsPassOfBag bag pass

-- a pass took rows, in the order of their places; where each of them is a row of the picture, they are these
pub record TookRows (height line : ℕ) (v w : PassView RowJob) (rows : List ℕ) : Type 0 where
  pub got : List (ℕ × RowJob)
  pub is : Took v got w
  pub rise : Rise got
  pub exact : All (FitsRow height line) (items_of got) → rows ≡ rows_of (items_of got)

-- a pass went on until nothing was left, or until it took as many rows as the picture has, or what is no row of it
pub record EndedRows (height line : ℕ) (v w : PassView RowJob) (rows : List ℕ) : Type 0 where
  pub got : List (ℕ × RowJob)
  pub is : Took v got w
  pub so : IsAtStep w [] ⊎ (height ≤ length rows) ⊎ (All (FitsRow height line) (items_of got) → ⊥)

-- there are both passes, and this holds of what they know
abbrev pub OfWays : (PassView RowJob → PassView RowJob → Type 0) → Option BagPass → Option BagPass → Type 0
OfWays P None o = ⊥
OfWays P (Some p) None = ⊥
OfWays P (Some p) (Some q) = P (view_of p) (view_of q)

abbrev pub TookWay : ℕ → ℕ → Option BagPass → Option BagPass → List ℕ → Type 0
TookWay height line o q rows = OfWays (λ v w. TookRows height line v w rows) o q

abbrev pub EndedWay : ℕ → ℕ → Option BagPass → Option BagPass → List ℕ → Type 0
EndedWay height line o q rows = OfWays (λ v w. EndedRows height line v w rows) o q

-- the shares of a pass, what it put and what it took, if there is one
abbrev pub shares_if : Option BagPass → ℕ
shares_if None = 0
shares_if (Some pass) = (view_of pass).shares

abbrev pub put_if : Option BagPass → List (ℕ × RowJob)
put_if None = []
put_if (Some pass) = (view_of pass).put

abbrev pub took_if : Option BagPass → List (ℕ × RowJob)
took_if None = []
took_if (Some pass) = (view_of pass).took

abbrev pub bag_shares : List BagWay → ℕ
bag_shares [] = 0
bag_shares (a ∷ others) = shares_if a.pass + bag_shares others

-- a pass to which another was joined, if there is one
abbrev pub joined_if : PassView RowJob → Option BagPass → PassView RowJob
joined_if v None = v
joined_if v (Some pass) = joined v (view_of pass)

-- and to which those of samplers were joined, the first one first
abbrev pub all_ways_joined : PassView RowJob → List BagWay → PassView RowJob
all_ways_joined v [] = v
all_ways_joined v (a ∷ others) = all_ways_joined (joined_if v a.pass) others

-- a sampler has a new pass of a bag
pub record IsNewWay (a : BagWay) : Type 0 where
  pub pass : BagPass
  pub has : a.pass ≡ Some pass
  pub no_puts : (view_of pass).put ≡ []
  pub no_takes : (view_of pass).took ≡ []

-- all rows of a picture lie in a bag, of which each of these samplers has a pass: with the one that is left they are all
pub record AreShared (height line : ℕ) (owns : List BagWay) (left : PassView RowJob) : Type 0 where
  pub whole : left.shares + bag_shares owns ≡ all_shares
  pub puts : AreRowsPut height line left.put
  pub no_takes : left.took ≡ []
  pub each : (k : ℕ) (a : BagWay) → slice_get owns k ≡ Some a → IsNewWay a

abbrev pub AreSplit : ℕ → ℕ → List BagWay → BagPass → Type 0
AreSplit height line owns home = AreShared height line owns (view_of home)

-- and some of these are back
pub record AreBack (height line : ℕ) (firsts owns : List BagWay) (home : BagPass) : Type 0 where
  pub left : PassView RowJob
  pub shared : AreShared height line firsts left
  pub joined_are : view_of home ≡ all_ways_joined left owns
