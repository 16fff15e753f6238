-- How the machines draw by which the program walks.
use Rattle.std.specs.Prelude.{◌≡◌, false}
use Rattle.vt_machine.specs.Drawings.{Drawing, drawing_of}
use Rattle.vt_machine.specs.Nearest.{nearest}
use Rattle.vt_pictures.specs.declared.filters.Filter.{Ghosts as FilterMeanings}

-- how the machines of a run draw: each pixel is the nearest texel, with the rows dealt to the samplers, but shared where the words ask for that,
-- and the blend of four texels where they ask for it
pub record DrawsHere {P Q : Type 0} (one : FilterMeanings P) (four : FilterMeanings Q) (standard swapped_table shared_rows bilinear : Drawing) : Type 0 where
  pub standard_is : standard ≡ nearest
  pub swapped_table_is : swapped_table ≡ nearest
  pub shared_rows_are : shared_rows ≡ record (drawing_of one) { dealt = false }
  pub bilinear_is : bilinear ≡ drawing_of four
