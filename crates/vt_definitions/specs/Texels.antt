-- A texel source: a word for each level, column and row.
use Rattle.std.specs.Prelude.{ℕ}

-- a texel source gives a word for a level, a column and a row
abbrev pub Source : Type 0
Source = ℕ → ℕ → ℕ → ℕ
