-- The rows of a sampler, and what contracts see of it.
use Rattle.std.specs.Prelude.{◌≡◌, ℕ, ◌+◌, ◌*◌, ◌<◌, ◌≤◌, ◌==◌, List, length, filter, slice_index, slice_range}
use Rattle.std.specs.List.{range_with_len}
use Rattle.vt_definitions.specs.Limits.{most_samplers}
use Rattle.vt_definitions.specs.Dealing.{sampler_of, turn_of, own_count}
use Rattle.vt_definitions.specs.Depths.{texel_length}
use Rattle.vt_pages.specs.Shape.{Shape}
use Rattle.vt_pages.specs.Pages.{pages_of}
use Rattle.vt_lookup.specs.Paths.{PathView, ArePictureSides}

-- the rows that a sampler of a picture of so many is dealt, from the top
unfoldable pub own_rows : ℕ → ℕ → ℕ → List ℕ
own_rows sampler samplers height = filter (λ y. sampler_of y samplers == sampler) (range_with_len 0 height)

-- its number among so many samplers, the sides and the depth of its pictures, the version at which each of its rows was drawn, their bytes
-- one row after the other, and for each page how many of their pixels want it
pub record SamplerView : Type 0 where
  pub sampler : ℕ
  pub samplers : ℕ
  pub width : ℕ
  pub height : ℕ
  pub depth : ℕ
  pub versions : List ℕ
  pub bytes : List ℕ
  pub counts : List ℕ

-- a row is one of the sampler's
pub record IsOwn (v : SamplerView) (y : ℕ) : Type 0 where
  pub inside : y < v.height
  pub own : sampler_of y v.samplers ≡ v.sampler

-- how many bytes a row has
abbrev pub row_length : ℕ → ℕ → ℕ
row_length depth width = texel_length depth * width

-- the bytes of one of its rows, of which there are one of so many behind each other
abbrev pub row_in : ℕ → ℕ → List ℕ → ℕ → List ℕ
row_in samplers line bytes y = slice_range bytes (turn_of y samplers * line) (turn_of y samplers * line + line)

-- the bytes of a row of a sampler
abbrev pub row_at : SamplerView → ℕ → List ℕ
row_at v y = row_in v.samplers (row_length v.depth v.width) v.bytes y

-- the version at which a row of a sampler was drawn
abbrev pub version_at : SamplerView → ℕ → ℕ
version_at v y = slice_index v.versions (turn_of y v.samplers)

-- the sampler draws pictures of a path, of a texture that is cut into pages, at a depth
pub record IsFor (v : SamplerView) (s : Shape) (path : PathView) (d : ℕ) : Type 0 where
  pub width : v.width ≡ path.width
  pub height : v.height ≡ path.height
  pub depth : v.depth ≡ d
  pub pages : length v.counts ≡ pages_of s

-- what holds of every sampler
pub record IsSampler (v : SamplerView) : Type 0 where
  pub one_of : v.sampler < v.samplers
  pub few : v.samplers ≤ most_samplers
  pub sides : ArePictureSides v.width v.height
  pub low_depth : 1 ≤ v.depth
  pub high_depth : v.depth ≤ 2
  pub rows : length v.versions ≡ own_count v.sampler v.samplers v.height
  pub room : length v.bytes ≡ own_count v.sampler v.samplers v.height * row_length v.depth v.width
