-- What callers say of the words and of their tokens.
use Rattle.std.specs.Prelude.{◌≡◌}
use Rattle.vt_grace.specs.Sizes.{AreWithinLimits}
use Rattle.vt_grace.specs.Values.{WordsValue, PassValue, HeldValue, WriterValue}

-- a pass is one of these words
pub record IsPassOf (words : WordsValue) (p : PassValue) : Type 0 where
  pub table : p.table ≡ words.table
  pub sizes : p.view.sizes ≡ words.sizes
  pub limits : AreWithinLimits words.sizes

-- a held version is one of these words
pub record IsHeldOf (words : WordsValue) (h : HeldValue) : Type 0 where
  pub table : h.table ≡ words.table
  pub sizes : h.view.sizes ≡ words.sizes
  pub limits : AreWithinLimits words.sizes

-- the writer is that of these words
pub record IsWriterOf (words : WordsValue) (w : WriterValue) : Type 0 where
  pub table : w.table ≡ words.table
  pub sizes : w.view.sizes ≡ words.sizes
  pub limits : AreWithinLimits words.sizes
