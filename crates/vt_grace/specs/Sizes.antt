-- How large a table of words is.
use Rattle.std.specs.Prelude.{ℕ, ◌*◌, ◌<◌, ◌≤◌}
use Rattle.vt_journal.specs.Limits.{most_samplers, most_pages, most_frames, most_frame_texels, most_tile_side}
use Rattle.vt_journal.specs.Shape.{Shape}
use Rattle.vt_journal.specs.Pages.{pages_of, root_of}
use Rattle.vt_grace.specs.declared.sizes.Sizes.{Sizes}

-- the sizes of a table for a texture's pages, with so many frames and samplers
abbrev pub sizes_of : Shape → ℕ → ℕ → Sizes
sizes_of s frames samplers = record {
  samplers = samplers;
  pages = pages_of s;
  frames = frames;
  texels = s.tile * s.tile;
  root = root_of s;
}

-- the limits of a table
pub record AreWithinLimits (z : Sizes) : Type 0 where
  pub some_samplers : 0 < z.samplers
  pub samplers : z.samplers ≤ most_samplers
  pub pages : z.pages ≤ most_pages
  pub frames : z.frames ≤ most_frames
  pub texels : z.frames * z.texels ≤ most_frame_texels
  pub frame_texels : z.texels ≤ most_tile_side * most_tile_side

-- the sizes of no table
abbrev pub no_sizes : Sizes
no_sizes = record { samplers = 0; pages = 0; frames = 0; texels = 0; root = 0 }
