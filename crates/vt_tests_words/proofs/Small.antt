-- What is known of a small streamer.
use Rattle.std.proofs.Common.{◌≡◌, ◌*◌, ℕ, List, length, refl, ap, ◌∙◌, sym, subst, arith, inl}
use Rattle.vt_pages.specs.Pages.{pages_of, root_of}
use Rattle.vt_streamer.specs.TableViews.{IsTile}
use Rattle.vt_streamer.proofs.Lawful.{table_spared}
use Rattle.vt_streamer.proofs.FewChanges.{last_page}
use Rattle.vt_grace.specs.declared.sizes.Sizes.{Sizes}
use Rattle.vt_grace.specs.Values.{WordsValue}
use Rattle.vt_streamer.specs.Views.{StreamerView, streamer_table, IsStreamerOf}
use Rattle.vt_tests_words.specs.SmallStreams.{IsSmallStreamer}

pub five_pages : (words : WordsValue) (n : ℕ) (v : StreamerView) → IsSmallStreamer words n v → pages_of v.shape ≡ 5
five_pages words n v h = sym (ap (λ (z : Sizes). z.pages) h.of.sizes) ∙ h.pages

pub all_frames : (words : WordsValue) (n : ℕ) (v : StreamerView) → IsSmallStreamer words n v → length v.owners ≡ n
all_frames words n v h = sym (ap (λ (z : Sizes). z.frames) h.of.sizes) ∙ h.frames

pub four_texels : (words : WordsValue) (n : ℕ) (v : StreamerView) → IsSmallStreamer words n v → v.shape.tile * v.shape.tile ≡ 4
four_texels words n v h = sym (ap (λ (z : Sizes). z.texels) h.of.sizes) ∙ h.texels

pub root_is_4 : (words : WordsValue) (n : ℕ) (v : StreamerView) → IsSmallStreamer words n v → root_of v.shape ≡ 4
root_is_4 words n v h = let last = last_page v.shape h.of.lawful.limits in let all = five_pages words n v h in omega arith

pub still_small : (words : WordsValue) (n : ℕ) (v w : StreamerView) → IsSmallStreamer words n v → IsStreamerOf words w → IsSmallStreamer words n w
still_small words n v w h of = record { of = of; pages = h.pages; texels = h.texels; frames = h.frames }

pub small_tile : (words : WordsValue) (n : ℕ) (v : StreamerView) (tile : List ℕ) → IsSmallStreamer words n v → length tile ≡ 12 → IsTile v.shape tile
small_tile words n v tile h long = let four = four_texels words n v h in record { depth = 1; lawful = inl refl; full = omega arith }

pub small_spared : (words : WordsValue) (n : ℕ) (v w : StreamerView) → IsSmallStreamer words n v → w ≡ record v { spare = w.spare } → IsSmallStreamer words n w
small_spared words n v w h same = still_small words n v w h (subst (IsStreamerOf words) (sym same) record {
  table = h.of.table;
  seen = h.of.seen;
  sizes = h.of.sizes;
  limits = h.of.limits;
  sound = h.of.sound;
  lawful = table_spared (streamer_table v) w.spare h.of.lawful;
})
