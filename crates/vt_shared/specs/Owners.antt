-- What is seen of the owner of a table of shared words, and what its calls change.
use Rattle.std.specs.Prelude.{◌≡◌, ◌≢◌, ◌⊎◌, ℕ, ◌+◌, ◌-◌, ◌<◌, ◌≤◌, Bool, List, [], ◌∷◌, ◌++◌, length}
use Rattle.vt_definitions.specs.Depths.{IsDepth}
use Rattle.vt_journal.specs.declared.changes.Change.TheVariants.{Map, Unmap}
use Rattle.vt_grace.specs.declared.views.Look.{Look}
use Rattle.vt_grace.specs.declared.views.WriterView.{WriterView}
use Rattle.vt_grace.specs.Banks.{MayFill}
use Rattle.vt_grace.specs.Places.{frame_words}
use Rattle.vt_grace.specs.Values.{WordsValue}
use Rattle.vt_grace.specs.WriterViews.{version_of, floor_of}
use Rattle.vt_streamer.specs.Fills.{words_in}
use Rattle.vt_streamer.specs.Frees.{IsUnmappedBy}
use Rattle.vt_streamer.specs.Looks.{HasOnlyLooked}
use Rattle.vt_streamer.specs.Views.{StreamerView, IsStreamerOf}
use Rattle.vt_shared.specs.Given.{AreOfTiles}

-- the words, what their streamer knows, and how many bytes a sample has
pub record OwnerView : Type 0 where
  pub words : WordsValue
  pub streamer : StreamerView
  pub depth : ℕ

-- what always holds of it: it notes which samplers are out, and each page was mapped with the words of a tile
pub record IsOwning (words : WordsValue) (v : StreamerView) (out : List Bool) (depth : ℕ) : Type 0 where
  pub of : IsStreamerOf words v
  pub noted : out ≡ v.writer.out
  pub depth_is : IsDepth depth
  pub given : AreOfTiles v.shape depth v.writer.journal v.writer.contents

-- the shape, the frames, the passes that are out, and all that was taken back are as they were, and no floor rose without a look
pub record HasKeptOwner (v w : StreamerView) : Type 0 where
  pub table : w.table ≡ v.table
  pub shape : w.shape ≡ v.shape
  pub sizes : w.writer.sizes ≡ v.writer.sizes
  pub out : w.writer.out ≡ v.writer.out
  pub returned : w.writer.returned ≡ v.writer.returned
  pub notes : w.writer.notes ≡ v.writer.notes
  pub word_notes : w.writer.word_notes ≡ v.writer.word_notes
  pub looked : HasOnlyLooked v.writer (record v.writer { floors = w.writer.floors; looks = w.writer.looks })

-- by the floors that the writer has after the call, no sampler may still hold a version that maps the frame
abbrev pub WasLeft : WriterView → WriterView → ℕ → Type 0
WasLeft v w frame = MayFill (record v { floors = w.floors }) frame

-- no frame was written but this one, and this one only where no sampler may still hold a version that maps it
pub record HasWrittenFrame (v : StreamerView) (frame : ℕ) (w : StreamerView) : Type 0 where
  pub others : (f : ℕ) → f < length v.owners → f ≢ frame → frame_words v.writer.sizes w.writer.texels f ≡ frame_words v.writer.sizes v.writer.texels f
  pub own : (w.writer.texels ≡ v.writer.texels) ⊎ WasLeft v.writer w.writer frame

-- the next version maps a page to a frame, with the words of a tile; the frame was filled when no sampler could hold a version that maps it
pub record HasMappedNext (v : StreamerView) (page frame : ℕ) (tile : List ℕ) (w : StreamerView) : Type 0 where
  pub left : WasLeft v.writer w.writer frame
  pub journal : w.writer.journal ≡ v.writer.journal ++ Map page frame ∷ []
  pub contents : w.writer.contents ≡ v.writer.contents ++ words_in v.shape tile ∷ []

-- the next version takes a page out of its frame
pub record HasUnmappedNext (v : StreamerView) (page frame : ℕ) (w : StreamerView) : Type 0 where
  pub journal : w.writer.journal ≡ v.writer.journal ++ Unmap page frame ∷ []
  pub contents : w.writer.contents ≡ v.writer.contents ++ [] ∷ []

-- a sampler is waited for, the least that may hold a version below one: by the last look, which was made since, it announced one of them
pub record IsSamplerAwaited (v w : WriterView) (least sampler holds : ℕ) : Type 0 where
  pub inside : sampler < w.sizes.samplers
  pub below : holds < least
  pub low : floor_of w sampler < least
  pub before : List Look
  pub looked : w.looks ≡ record { sampler = sampler; word = holds + 1 } ∷ (before ++ v.looks)
  pub others : (k : ℕ) → k < sampler → least ≤ floor_of w k

-- the next version waits for a sampler that may hold one more than two before the newest
abbrev pub AwaitsBank : StreamerView → StreamerView → ℕ → ℕ → Type 0
AwaitsBank v w sampler holds = IsSamplerAwaited v.writer w.writer (version_of v.writer - 2) sampler holds

-- or a frame waits for a sampler that may hold a version before the one that unmapped it
pub record AwaitsFrame (v : StreamerView) (frame : ℕ) (w : StreamerView) (sampler holds : ℕ) : Type 0 where
  pub version : ℕ
  pub unmapped : IsUnmappedBy v.writer.journal frame version
  pub awaited : IsSamplerAwaited v.writer w.writer version sampler holds

-- a map waits for either
abbrev pub AwaitsEither : StreamerView → ℕ → StreamerView → ℕ → ℕ → Type 0
AwaitsEither v frame w sampler holds = AwaitsFrame v frame w sampler holds ⊎ AwaitsBank v w sampler holds
