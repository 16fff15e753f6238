-- How a machine draws whose pixels are each one texel, the nearest.
use Rattle.vt_pictures.specs.Shots.{pixels_wanting}
use Rattle.vt_pictures.specs.Replays.{pixel_under, plain_pixel}
use Rattle.vt_machine.specs.Drawings.{Drawing, drawing_by}

-- rows are dealt to the samplers, and each pixel is the texel that serves it
abbrev pub nearest : Drawing
nearest = drawing_by pixels_wanting (λ src scene m i x y. pixel_under src scene m i x y) (λ src scene i x y. plain_pixel src scene i x y)
