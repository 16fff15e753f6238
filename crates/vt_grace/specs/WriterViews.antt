-- What the writer knows, and how its steps change it.
use Rattle.std.specs.Prelude.{ℕ, zero, suc, ◌+◌, ◌*◌, max, Bool, false, [], ◌∷◌, ◌++◌, length, replicate, slice_index, slice_index_or, slice_set}
use Rattle.vt_journal.specs.declared.changes.Change.{Change}
use Rattle.vt_grace.specs.declared.sizes.Sizes.{Sizes}
use Rattle.vt_grace.specs.declared.views.WriterView.{WriterView}
use Rattle.vt_grace.specs.Places.{entry_place, texel_place, content_of, bank_of}

-- the newest version
abbrev pub version_of : WriterView → ℕ
version_of w = length w.journal

-- the version below which a sampler can hold nothing
abbrev pub floor_of : WriterView → ℕ → ℕ
floor_of w sampler = slice_index w.floors sampler

-- whether a pass is given to a sampler
abbrev pub is_out : WriterView → ℕ → Bool
is_out w sampler = slice_index_or w.out sampler false

-- the writer of a new table, whose words are all 0
abbrev pub first_writer : Sizes → WriterView
first_writer z = record {
  sizes = z;
  journal = [];
  contents = [];
  floors = replicate z.samplers 0;
  out = replicate z.samplers false;
  looks = [];
  returned = [];
  entries = replicate (4 * z.pages) 0;
  notes = [];
  word_notes = [];
  texels = replicate (z.frames * z.texels) 0;
}

-- a floor after a look at a version: 0 raises it to the version, k + 1 to k
abbrev pub raised : ℕ → ℕ → ℕ → ℕ
raised version floor zero = version
raised version floor (suc k) = max floor k

-- the writer looked at a sampler and found this word
abbrev pub after_look : WriterView → ℕ → ℕ → WriterView
after_look w sampler word = record w {
  floors = slice_set w.floors sampler (raised (version_of w) (floor_of w sampler) word);
  looks = record { sampler = sampler; word = word } ∷ w.looks;
}

-- the writer wrote an entry into the bank of the next version
abbrev pub after_entry : WriterView → ℕ → ℕ → WriterView
after_entry w page entry = record w { entries = slice_set w.entries (entry_place w.sizes (bank_of (version_of w + 1)) page) entry }

-- the writer wrote a word of a frame
abbrev pub after_word : WriterView → ℕ → ℕ → ℕ → WriterView
after_word w frame place word = record w { texels = slice_set w.texels (texel_place w.sizes frame place) word }

-- the writer published a change
abbrev pub after_change : WriterView → Change → WriterView
after_change w change = record w {
  journal = w.journal ++ change ∷ [];
  contents = w.contents ++ content_of w.sizes w.texels change ∷ [];
}
