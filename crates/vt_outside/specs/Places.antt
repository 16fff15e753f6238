-- How often a place, by its start and length, was asked, and how often that read failed.
use Rattle.std.specs.Prelude.{◌==◌, ◌&&◌, ℕ, Bool, List, count_by}
use Rattle.vt_outside.specs.declared.place.Place.{Place}

-- the two places are the same: so many bytes from that byte on, whether the read failed or not
abbrev pub is_read_of : ℕ → ℕ → Place → Bool
is_read_of at len place = place.at == at && place.len == len

-- how often a place was asked
abbrev pub times_asked : ℕ → ℕ → List Place → ℕ
times_asked at len places = count_by (is_read_of at len) places

-- how often a place was asked and the read failed
abbrev pub times_failed : ℕ → ℕ → List Place → ℕ
times_failed at len places = count_by (λ place. is_read_of at len place && place.failed) places
