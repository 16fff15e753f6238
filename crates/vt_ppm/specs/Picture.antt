-- The bytes of a picture as it is written: `P6`, the sides, the greatest sample of the depth, the samples.
use Rattle.std.specs.Prelude.{ℕ, List, ◌++◌, codes, decimal}
use Rattle.vt_definitions.specs.Depths.{greatest_sample}

-- what is before the samples: `P6`, the sides and the greatest sample with single blanks and line feeds between (the Netpbm
-- manual's P6 page)
abbrev pub picture_header : ℕ → ℕ → ℕ → List ℕ
picture_header depth width height =
    codes "P6\n" ++ decimal width ++ codes " " ++ decimal height ++ codes "\n" ++ decimal (greatest_sample depth) ++ codes "\n"

-- a header, and the bytes of the samples
abbrev pub picture_bytes : ℕ → ℕ → ℕ → List ℕ → List ℕ
picture_bytes depth width height samples =
    codes "P6\n" ++ decimal width ++ codes " " ++ decimal height ++ codes "\n" ++ decimal (greatest_sample depth) ++ codes "\n" ++ samples
