-- The words of a tile.
use Rattle.std.proofs.Common.{◌≡◌, ℕ, ◌+◌, ◌*◌, ◌/◌, ◌≤◌, List, length, ap, ◌∙◌, arith}
use Rattle.std.proofs.lemmas.Nat.{div-mul-add, mul-le}
use Rattle.vt_journal.specs.Depths.{texel_length, word_at}
use Rattle.vt_journal.specs.Shape.{Shape}
use Rattle.vt_table.specs.Views.{tile_depth, tile_word}

some_texel : (t : ℕ) → 1 ≤ t → 1 ≤ t * t
some_texel t some = mul-le 1 1 t t some some

pub depth_is : (s : Shape) (d : ℕ) (tile : List ℕ) → 1 ≤ s.tile → length tile ≡ texel_length d * (s.tile * s.tile) → tile_depth s tile ≡ d
unfolding tile_depth
depth_is s d tile some full =
    let e : length tile ≡ d * (3 * (s.tile * s.tile)) + 0 = omega (arith, full) in
    ap (λ n. n / (3 * (s.tile * s.tile))) e ∙ div-mul-add d (3 * (s.tile * s.tile)) 0 (omega (arith, some_texel s.tile some))

pub word_is : (s : Shape) (d : ℕ) (tile : List ℕ) (place : ℕ) → 1 ≤ s.tile → length tile ≡ texel_length d * (s.tile * s.tile)
    → tile_word s tile place ≡ word_at d tile place
unfolding tile_word
word_is s d tile place some full = ap (λ n. word_at n tile place) (depth_is s d tile some full)
