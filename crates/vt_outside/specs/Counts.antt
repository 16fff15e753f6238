-- The words for what a count of faults, or of refused puts, did in a call. A count has 64 bits; at the end of its type it stands still.
use Rattle.std.specs.Prelude.{ℕ, ◌+◌, ◌-◌, ◌^◌, ◌≤◌, ◌⊎◌, IsTrue, nat_le, List, min, sum}
use Rattle.std.specs.List.{list_any}

-- where a count stands still
abbrev pub count_end : ℕ
count_end = 2 ^ 64 - 1

-- a count after some more, up to the end of its type
abbrev pub added : ℕ → ℕ → ℕ
added count more = min (count + more) count_end

-- the count rose by at least so many, or has reached the end of its type
abbrev pub RoseBy : ℕ → ℕ → ℕ → Type 0
RoseBy n before after = added before n ≤ after

-- the count rose
abbrev pub Rose : ℕ → ℕ → Type 0
Rose = RoseBy 1

-- several counts rose together by at least so many: their sum is so much greater, or one of them has reached the end of its type
abbrev pub RoseTogetherBy : ℕ → List ℕ → List ℕ → Type 0
RoseTogetherBy n before after = (sum before + n ≤ sum after) ⊎ IsTrue (list_any (nat_le count_end) after)
