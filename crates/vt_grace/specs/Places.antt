-- Where the words of a table are: the newest version, an announcement for each sampler, four banks of entries, the texels of the frames.
use Rattle.std.specs.Prelude.{◌≡◌, ℕ, ◌+◌, ◌*◌, ◌%◌, List, [], take, drop}
use Rattle.vt_journal.specs.declared.changes.Change.{Change}
use Rattle.vt_journal.specs.declared.changes.Change.TheVariants.{Map, Unmap}
use Rattle.vt_grace.specs.declared.sizes.Sizes.{Sizes}

-- how many words a table has
abbrev pub words_of : Sizes → ℕ
words_of z = 1 + z.samplers + 4 * z.pages + z.frames * z.texels

-- the bank of a version
abbrev pub bank_of : ℕ → ℕ
bank_of version = version % 4

-- the place of a page's entry in a bank, among the entries
abbrev pub entry_place : Sizes → ℕ → ℕ → ℕ
entry_place z bank page = bank * z.pages + page

-- the place of a page's entry in a bank, among the words
abbrev pub entry_word : Sizes → ℕ → ℕ → ℕ
entry_word z bank page = 1 + z.samplers + entry_place z bank page

-- the place of a texel of a frame, among the texels
abbrev pub texel_place : Sizes → ℕ → ℕ → ℕ
texel_place z frame place = frame * z.texels + place

-- the place of a texel of a frame, among the words
abbrev pub texel_word : Sizes → ℕ → ℕ → ℕ
texel_word z frame place = 1 + z.samplers + 4 * z.pages + texel_place z frame place

-- the words of the first entry of a bank and of the first texel, and how many texels a frame has
pub record AreStarts (z : Sizes) (bank entry texel count : ℕ) : Type 0 where
  pub entries : entry ≡ entry_word z bank 0
  pub texels : texel ≡ texel_word z 0 0
  pub counted : count ≡ z.texels

-- the words of a frame, among those of all frames
abbrev pub frame_words : Sizes → List ℕ → ℕ → List ℕ
frame_words z texels frame = take z.texels (drop (frame * z.texels) texels)

-- the content that a change is published with: the words of the frame that it maps a page to
abbrev pub content_of : Sizes → List ℕ → Change → List ℕ
content_of z texels (Map page frame) = frame_words z texels frame
content_of z texels (Unmap page frame) = []
