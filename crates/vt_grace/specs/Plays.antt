-- What each step shows its caller.
use Rattle.std.specs.Prelude.{◌≡◌, ◌≢◌, ℕ, ◌+◌, ◌-◌, ◌<◌, ◌≤◌, true, false}
use Rattle.atomic_table.specs.Table.{Step}
use Rattle.vt_journal.specs.declared.changes.Change.{Change}
use Rattle.vt_grace.specs.declared.views.Stage.TheVariants.{Hinted, Announced}
use Rattle.vt_grace.specs.declared.views.PassView.{PassView}
use Rattle.vt_grace.specs.declared.views.WriterView.{WriterView}
use Rattle.vt_grace.specs.Seats.{Sat, passing, writing, pass_in, writer_in}
use Rattle.vt_journal.specs.Limits.{most_versions}
use Rattle.vt_grace.specs.Stages.{hint_of, held_of}
use Rattle.vt_grace.specs.PassViews.{at_stage, idle, holding, noting, wording, NoneAbove}
use Rattle.vt_grace.specs.WriterViews.{is_out, version_of, after_look, after_change, after_entry, after_word}
use Rattle.vt_grace.specs.Places.{entry_word, bank_of, texel_word}
use Rattle.vt_grace.specs.Sound.{IsSound}
use Rattle.vt_grace.specs.Banks.{MayPublishBank}

-- the newest version was read as a hint
abbrev pub hinted : Step (Unit {0}) → Sat → ℕ → Sat → Type 0
hinted st m n m' = (n ≤ most_versions) × (m' ≡ passing (at_stage (Hinted n) (pass_in m.0)))

-- the hint was announced
abbrev pub announced : Step (Unit {0}) → Sat → ℕ → Sat → Type 0
announced st m n m' = m' ≡ passing (at_stage (Announced (hint_of (pass_in m.0).stage)) (pass_in m.0))

-- what is held is not below the announcement, nor below what the pass held and the version at which it was given
pub record HoldsNow (p : PassView) (u : ℕ) (m' : Sat) : Type 0 where
  pub now : m' ≡ passing (holding u p)
  pub above : hint_of p.stage ≤ u
  pub given : p.given ≤ u
  pub held : NoneAbove u p.held

-- the newest version was read, and is held
abbrev pub held : Step (Unit {0}) → Sat → ℕ → Sat → Type 0
held st m u m' = HoldsNow (pass_in m.0) u m'

-- the announcement was taken back
abbrev pub unpinned : Step (Unit {0}) → Sat → ℕ → Sat → Type 0
unpinned st m n m' = m' ≡ passing (idle (pass_in m.0))

-- the writer looked at a sampler, which has a word of 0 where no pass is given to it
pub record HasLooked (w : WriterView) (sampler n : ℕ) (m' : Sat) : Type 0 where
  pub now : m' ≡ writing (after_look w sampler n)
  pub sound : IsSound (after_look w sampler n)
  pub absent : is_out w sampler ≡ false → n ≡ 0
  pub most : n ≤ version_of w + 1

-- a look at an announcement
abbrev pub looked : Step (Unit {0}) → Sat → ℕ → Sat → Type 0
looked st m n m' = HasLooked (writer_in m.0) (st.word - 1) n m'

-- a store of the next version: the next bank tells which change it is, and there is only one
abbrev pub published : Step (Unit {0}) → Sat → ℕ → Sat → Type 0
published st m n m' = (change : Change) → MayPublishBank (writer_in m.0) change → (m' ≡ writing (after_change (writer_in m.0) change)) × IsSound (after_change (writer_in m.0) change)

-- the writer learns what is true of its own view
abbrev pub learnt : Step (Unit {0}) → Sat → ℕ → Sat → Type 0
learnt st m n m' = (m' ≡ writing (writer_in m.0)) × IsSound (writer_in m.0)

-- an entry that was read under a hold
pub record HasRead (p : PassView) (page entry : ℕ) (m' : Sat) : Type 0 where
  pub now : m' ≡ passing (noting (held_of p.stage) page entry p)
  pub most : entry ≤ p.sizes.frames
  pub root : page ≡ p.sizes.root → p.rooted ≡ true → entry ≢ 0

-- a load of an entry in the bank of the held version
abbrev pub read : Step (Unit {0}) → Sat → ℕ → Sat → Type 0
read st m n m' = (page : ℕ) → st.word ≡ entry_word (pass_in m.0).sizes (bank_of (held_of (pass_in m.0).stage)) page → HasRead (pass_in m.0) page n m'

-- a store of an entry in the bank of the next version
abbrev pub entered : Step (Unit {0}) → Sat → ℕ → Sat → Type 0
entered st m n m' = (page : ℕ) → st.word ≡ entry_word (writer_in m.0).sizes (bank_of (version_of (writer_in m.0) + 1)) page
    → (m' ≡ writing (after_entry (writer_in m.0) page n)) × IsSound (after_entry (writer_in m.0) page n)

-- a texel word that was read under a hold
abbrev pub worded : Step (Unit {0}) → Sat → ℕ → Sat → Type 0
worded st m n m' = (frame place : ℕ) → place < (pass_in m.0).sizes.texels → st.word ≡ texel_word (pass_in m.0).sizes frame place → m' ≡ passing (wording (held_of (pass_in m.0).stage) frame place n (pass_in m.0))

-- a store of a word of a frame
abbrev pub filled : Step (Unit {0}) → Sat → ℕ → Sat → Type 0
filled st m n m' = (frame place : ℕ) → place < (writer_in m.0).sizes.texels → st.word ≡ texel_word (writer_in m.0).sizes frame place
    → (m' ≡ writing (after_word (writer_in m.0) frame place n)) × IsSound (after_word (writer_in m.0) frame place n)
