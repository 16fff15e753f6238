-- The words of a chain are small.
use Rattle.std.proofs.Common.{ℕ, zero, suc, inl, inr, ◌+◌, ◌*◌, ◌%◌, ◌^◌, ◌<◌, arith}
use Rattle.vt_ppm.specs.Depths.{IsDepth, sample_base, red_of, green_of, blue_of}
use Rattle.vt_ppm.specs.Sides.{side}
use Rattle.vt_ppm.proofs.Words.{word_small}
use Rattle.vt_ppm.proofs.TexelWords.{words_small}
use Rattle.vt_ppm.specs.Image.{texel_of}
use Rattle.vt_mip.specs.Chains.{halved, halved_word, chain}
use Rattle.vt_mip.specs.Laws.{ChainWordsAreSmall}
use Rattle.vt_box_filter.proofs.PartSamples.{box_small}

-- what is left of a number by the number of samples is one
rest_small : (d n : ℕ) → IsDepth d → n % sample_base d < sample_base d
rest_small d n (inl one) = rw one (omega arith)
rest_small d n (inr two) = rw two (omega arith)

halved_small : (d : ℕ) (s : ℕ → ℕ → ℕ) (w h x y : ℕ) → IsDepth d → ((i j : ℕ) → s i j < sample_base d) → halved s w h x y < sample_base d
halved_small d s w h x y depth few = box_small d _ _ _ _ depth (few _ _) (few _ _) (few _ _) (few _ _)

halved_word_small : (d : ℕ) (t : ℕ → ℕ → ℕ) (w h x y : ℕ) → IsDepth d → halved_word d t w h x y < 2 ^ (24 * d)
unfolding halved_word
halved_word_small d t w h x y depth = word_small d _ _ _ depth
    (halved_small d (λ i j. red_of d (t i j)) w h x y depth (λ i j. rest_small d _ depth))
    (halved_small d (λ i j. green_of d (t i j)) w h x y depth (λ i j. rest_small d _ depth))
    (halved_small d (λ i j. blue_of d (t i j)) w h x y depth (λ i j. rest_small d _ depth))

pub chain_words_are_small : ChainWordsAreSmall
unfolding chain
chain_words_are_small p zero x y depth bytes = words_small p.depth p.samples (y * p.width + x) depth bytes
chain_words_are_small p (suc k) x y depth bytes =
    halved_word_small p.depth (chain p.depth (texel_of p) p.width p.height k) (side p.width k) (side p.height k) x y depth
