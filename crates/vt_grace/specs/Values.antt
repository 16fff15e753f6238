-- What callers see of the tokens.
use Rattle.std.specs.Prelude.{ℕ}
use Rattle.atomic_table.specs.Seated.{TableId}
use Rattle.vt_grace.specs.declared.sizes.Sizes.{Sizes}
use Rattle.vt_grace.specs.declared.views.PassView.{PassView}
use Rattle.vt_grace.specs.declared.views.WriterView.{WriterView}

-- a pass: of which table it is, and what it knows
pub record PassValue : Type 0 where
  pub table : TableId
  pub view : PassView

-- a held version: of which table it is, the version, and what its pass knows
pub record HeldValue : Type 0 where
  pub table : TableId
  pub version : ℕ
  pub view : PassView

-- the writer: of which table it is, and what it knows
pub record WriterValue : Type 0 where
  pub table : TableId
  pub view : WriterView

-- the words: which table they are, and its sizes
pub record WordsValue : Type 0 where
  pub table : TableId
  pub sizes : Sizes
