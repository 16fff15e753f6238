-- The words of frames, as one of them is filled.
use Rattle.std.proofs.Common.{◌≡◌, ◌≢◌, ℕ, suc, ◌+◌, ◌*◌, ◌<◌, ◌≤◌, List, length, get_or, set, drop, map, refl, sym, ap, ◌∙◌, subst, arith, get_or-set_same, get_or-set_other, mul-le-mul_right, suc-mul}
use mathlib.Core.Logic.{dite}
use native.Mathlib.Decide.{ℕ_discrete}
use Rattle.std.specs.List.{range_with_len}
use Rattle.std.proofs.lemmas.List.{get_or-take, get_or-drop, length-take-le, length-drop, ext_get_or}
use Rattle.std.proofs.lemmas.List.FromFn.{fill_by_all}
use Rattle.vt_grace.specs.declared.sizes.Sizes.{Sizes}
use Rattle.vt_grace.specs.declared.views.WriterView.{WriterView}
use Rattle.vt_grace.specs.Places.{texel_place, frame_words}
use Rattle.vt_grace.specs.WriterViews.{after_word}
use Rattle.vt_grace.specs.Banks.{MayFill}
use Rattle.vt_grace.proofs.Rows.{before_row, banks_apart}
use Rattle.vt_streamer.specs.Fills.{HasFilled}

-- no word was written yet
pub filled_none : (v : WriterView) (frame : ℕ) (words : ℕ → ℕ) → HasFilled v v frame words 0
filled_none v frame words = record { rest = refl; written = λ place low. absurd (omega arith); others = λ i apart. refl }

-- one word more was written
pub filled_more : (v w w' : WriterView) (frame place word : ℕ) (words : ℕ → ℕ) → HasFilled v w frame words place → w' ≡ after_word w frame place word → word ≡ words place
    → length w.texels ≡ w.sizes.frames * w.sizes.texels → frame < w.sizes.frames → place < w.sizes.texels → HasFilled v w' frame words (place + 1)
filled_more v w w' frame place word words before after word_is long low inside =
    let sizes : w.sizes ≡ v.sizes = ap (λ x. x.sizes) before.rest in
    let here : ℕ = texel_place w.sizes frame place in let spot : here ≡ texel_place v.sizes frame place = ap (λ (z : Sizes). texel_place z frame place) sizes in
    let there : here < length w.texels = let room = before_row frame w.sizes.frames w.sizes.texels place low inside in omega arith in
    let made : HasFilled v (after_word w frame place word) frame words (place + 1) = record {
      rest = ap (λ (x : WriterView). record x { texels = set w.texels here word }) before.rest;
      written = λ p under. dite (ℕ_discrete p place)
          (λ same. ap (λ (x : ℕ). get_or (set w.texels here word) (texel_place v.sizes frame x) 0) same
          ∙ (ap (λ (x : ℕ). get_or (set w.texels here word) x 0) (sym spot) ∙ (get_or-set_same w.texels here word 0 there ∙ (word_is ∙ ap words (sym same)))))
          (λ other. get_or-set_other w.texels here (texel_place v.sizes frame p) word 0 (λ e. other (omega arith)) ∙ before.written p (omega arith));
      others = λ i apart. get_or-set_other w.texels here i word 0 (λ e. apart place (omega arith) (e ∙ spot)) ∙ before.others i (λ p under. apart p (omega arith));
    } in
    subst (λ (x : WriterView). HasFilled v x frame words (place + 1)) (sym after) made

-- a frame that may be filled still may be, after a word was written
pub still_may : (w w' : WriterView) (frame place word : ℕ) → w' ≡ after_word w frame place word → MayFill w frame → MayFill w' frame
still_may w w' frame place word after may = subst (λ (x : WriterView). MayFill x frame) (sym after) may

-- the words of a frame by their places
frame_at : (z : Sizes) (texels : List ℕ) (f p : ℕ) → p < z.texels → get_or (frame_words z texels f) p 0 ≡ get_or texels (texel_place z f p) 0
frame_at z texels f p low = get_or-take z.texels (drop (f * z.texels) texels) p 0 low ∙ get_or-drop (f * z.texels) texels p 0

frame_long : (z : Sizes) (texels : List ℕ) (f : ℕ) → f < z.frames → length texels ≡ z.frames * z.texels → length (frame_words z texels f) ≡ z.texels
frame_long z texels f low long =
    let room : suc f * z.texels ≤ z.frames * z.texels = mul-le-mul_right z.texels low in
    length-take-le z.texels (drop (f * z.texels) texels) (omega (arith, suc-mul f z.texels, length-drop (f * z.texels) texels))

-- a frame of which all words were written
pub content_filled : (z : Sizes) (v w : WriterView) (frame : ℕ) (words : ℕ → ℕ) → v.sizes ≡ z → frame < z.frames → length w.texels ≡ z.frames * z.texels
    → HasFilled v w frame words z.texels → frame_words z w.texels frame ≡ map words (range_with_len 0 z.texels)
content_filled z v w frame words sizes low long h = fill_by_all words (frame_words z w.texels frame) z.texels 0 (frame_long z w.texels frame low long)
    (λ p inside. frame_at z w.texels frame p inside
    ∙ (ap (λ (x : Sizes). get_or w.texels (texel_place x frame p) 0) (sym sizes) ∙ h.written p inside))

-- and another one
pub content_kept : (z : Sizes) (v w : WriterView) (frame f : ℕ) (words : ℕ → ℕ) → v.sizes ≡ z → f < z.frames → length v.texels ≡ z.frames * z.texels
    → length w.texels ≡ z.frames * z.texels → f ≢ frame → HasFilled v w frame words z.texels → frame_words z w.texels f ≡ frame_words z v.texels f
content_kept z v w frame f words sizes low long longer other h = ext_get_or 0 (frame_words z w.texels f) (frame_words z v.texels f)
    (frame_long z w.texels f low longer ∙ sym (frame_long z v.texels f low long))
    (λ p inside. let under : p < z.texels = let size = frame_long z w.texels f low longer in omega arith in
    frame_at z w.texels f p under
    ∙ (h.others (texel_place z f p) (λ q low_q e. banks_apart f frame z.texels p q other under low_q (e ∙ ap (λ (x : Sizes). texel_place x frame q) sizes))
    ∙ sym (frame_at z v.texels f p under)))

-- the same words by another function
pub filled_alike : (v w : WriterView) (frame count : ℕ) (f g : ℕ → ℕ) → ((p : ℕ) → f p ≡ g p) → HasFilled v w frame f count → HasFilled v w frame g count
filled_alike v w frame count f g same h = record { rest = h.rest; written = λ p low. h.written p low ∙ same p; others = h.others }
