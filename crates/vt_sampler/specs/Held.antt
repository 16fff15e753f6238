-- What a sampler leaves that drew its rows under holds.
use Rattle.std.specs.Prelude.{◌≡◌, ℕ, ◌≤◌, ◌++◌, List, Contains}
use Rattle.vt_lookup.specs.GraceTypes.views.PassView.{PassView}
use Rattle.vt_lookup.specs.PassViews.{NoneAbove}

-- a version was held between two views of a pass, and is not below the one at which the pass was given, nor any that it held before
pub record WasHeld (p q : PassView) (version : ℕ) : Type 0 where
  pub more : List ℕ
  pub held : q.held ≡ more ++ p.held
  pub among : Contains more version
  pub since : p.given ≤ version
  pub later : NoneAbove version p.held
