-- The cameras on the way from one key of a path to the next.
use Rattle.std.specs.Prelude.{ℕ, ℤ, pos, ◌+ℤ◌, ◌-ℤ◌, ◌*ℤ◌, List, map}
use Rattle.std.specs.List.{range_with_len}
use Rattle.vt_camera.specs.declared.paths.Camera.{Camera}
use Rattle.vt_camera.specs.Rows.{floor_div}

-- the number i of n steps on the way from a to b, rounded down
abbrev pub place_between : ℤ → ℤ → ℕ → ℕ → ℤ
place_between a b i n = a +ℤ floor_div ((b -ℤ a) *ℤ pos i) n

-- the camera i of n steps on the way from one to another, each of its numbers by itself
unfoldable pub camera_on_way : Camera → Camera → ℕ → ℕ → Camera
camera_on_way a b n i = record {
  u = place_between a.u b.u i n;
  v = place_between a.v b.v i n;
  h = place_between a.h b.h i n;
  c = place_between a.c b.c i n;
  s = place_between a.s b.s i n;
}

-- the cameras after each of the n steps from one to another
abbrev pub way : Camera → Camera → ℕ → List Camera
way a b n = map (camera_on_way a b n) (range_with_len 1 n)
