-- The limits of what the program takes, each a number once, and the bytes that have a meaning in every format.
use Rattle.std.specs.Prelude.{ℕ}

-- the largest side of a texture that is cut into tiles
abbrev pub most_tiled_side : ℕ
most_tiled_side = 16384

-- the largest side of a texture that is read whole
abbrev pub most_read_side : ℕ
most_read_side = 8192

-- the largest side of a tile
abbrev pub most_tile_side : ℕ
most_tile_side = 128

-- how many pages a chain may have
abbrev pub most_pages : ℕ
most_pages = 262144

-- how many levels a chain that is cut into tiles may have
abbrev pub most_levels : ℕ
most_levels = 14

-- the largest number of frames of a cache
abbrev pub most_frames : ℕ
most_frames = 65535

-- how many texels the frames of a cache have together at most
abbrev pub most_frame_texels : ℕ
most_frame_texels = 8388608

-- the largest number of samplers
abbrev pub most_samplers : ℕ
most_samplers = 64

-- the largest number of loaders
abbrev pub most_loaders : ℕ
most_loaders = 16

-- the largest number of entries of a batch
abbrev pub most_entries : ℕ
most_entries = 4096

-- the greatest version of a page table
abbrev pub most_versions : ℕ
most_versions = 4611686018427387904

-- within how many bytes the header of a texture ends
abbrev pub header_limit : ℕ
header_limit = 65536

-- the largest side of a picture
abbrev pub most_picture_side : ℕ
most_picture_side = 2048

-- the largest focal number
abbrev pub most_focal : ℕ
most_focal = 4096

-- how many pictures a path may have
abbrev pub most_pictures : ℕ
most_pictures = 9999

-- the byte that ends a line
abbrev pub line_feed : ℕ
line_feed = 10

-- the byte that separates the fields of a line
abbrev pub blank : ℕ
blank = 32
