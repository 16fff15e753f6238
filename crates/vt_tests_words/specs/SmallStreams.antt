-- A streamer over a texture of five pages in tiles of four texels, and a sampler beside it.
use Rattle.std.specs.Prelude.{◌≡◌, ◌≢◌, ℕ, true}
use Rattle.vt_pages.specs.Shape.{Shape}
use Rattle.vt_camera.specs.Paths.{PathView}
use Rattle.vt_evict.specs.PlanTypes.batches.Planned.{Planned}
use Rattle.vt_grace.specs.Values.{WordsValue, PassValue}
use Rattle.vt_grace.specs.Tokens.{IsPassOf}
use Rattle.vt_sampler.specs.LookupNotes.{FitsShape}
use Rattle.vt_sampler.specs.Samplers.{SamplerView, IsFor}
use Rattle.vt_streamer.specs.Views.{StreamerView, IsStreamerOf}

-- it is the streamer of these words, with so many frames
pub record IsSmallStreamer (words : WordsValue) (n : ℕ) (v : StreamerView) : Type 0 where
  pub of : IsStreamerOf words v
  pub pages : words.sizes.pages ≡ 5
  pub texels : words.sizes.texels ≡ 4
  pub frames : words.sizes.frames ≡ n

-- two entries of a batch have other pages and other frames
abbrev pub AreOther : Planned → Planned → Type 0
AreOther a b = (a.page ≢ b.page) × (a.frame ≢ b.frame)

-- a sampler of its own may draw the pictures of a path over these words with a pass
pub record MayDrawSmall (words : WordsValue) (s : Shape) (path : PathView) (v : SamplerView) (p : PassValue) : Type 0 where
  pub fits : FitsShape s words.sizes
  pub for_it : IsFor v s path 1
  pub sampler : v.sampler ≡ 0
  pub samplers : v.samplers ≡ 1
  pub of : IsPassOf words p
  pub rooted : p.view.rooted ≡ true
  pub own : p.view.sampler ≡ 0
