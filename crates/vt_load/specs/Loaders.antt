-- A loader, as callers see it.
use Rattle.std.specs.Prelude.{ℕ}
use Rattle.vt_tiles.specs.StoreViews.{StoreView}

-- a loader: the store that it reads, and its number
pub record LoaderView (F : Type 0) : Type 0 where
  pub store : StoreView F
  pub loader : ℕ

-- a loader whose file is another
abbrev pub with_file : {F : Type 0} → LoaderView F → F → LoaderView F
with_file l file = record l { store = record l.store { file = file } }
