-- Readers of the swapped table.
use Rattle.std.specs.Prelude.{◌≡◌, ℕ, ◌≤◌, Option, None, Some, List, length, Contains}
use Rattle.vt_journal.specs.Shape.{Shape}
use Rattle.vt_journal.specs.Pages.{pages_of}
use Rattle.vt_page_table.specs.DrawLookups.{Note}
use Rattle.vt_swap.specs.LogTypes.frame.FrameKey.{FrameKey}
use Rattle.vt_swap.specs.Caches.{Cache}
use Rattle.vt_swap.specs.Slots.{AreSlotsOf}
use Rattle.vt_swap.specs.Notes.{IsSaidBy}
use Rattle.vt_swap.specs.Readers.{ReaderView, WasEntered}
use Rattle.vt_swap_table.specs.declared.table.SwapReader.{SwapReader}
use Rattle.vt_swap_table.specs.Entered.{WasEnteredBetween, HasEnteredRows}

-- a reader is one of this cache, with counts for so many pages
pub record IsReaderFor (cache : Cache) (pages : ℕ) (a : SwapReader) : Type 0 where
  pub reader : ReaderView
  pub has : a.reader ≡ Some reader
  pub of : reader.cache ≡ cache
  pub spares : length a.spare.items ≡ pages

abbrev pub IsReaderAtHome : Cache → Shape → SwapReader → Type 0
IsReaderAtHome cache s a = IsReaderFor cache (pages_of s) a

-- it is one of the cache of these slots, for pictures of a texture that is cut in this way
pub record IsReaderOpen (slots : List FrameKey) (s : Shape) (a : SwapReader) : Type 0 where
  pub reader : ReaderView
  pub has : a.reader ≡ Some reader
  pub of : AreSlotsOf reader.cache slots
  pub spares : length a.spare.items ≡ pages_of s

-- and it entered a version that is not before the start
pub record MayReaderDraw (slots : List FrameKey) (s : Shape) (a : SwapReader) : Type 0 where
  pub opened : IsReaderOpen slots s a
  pub version : ℕ
  pub entered : Contains opened.reader.entered version
  pub late : a.start ≤ version

-- a reader has seen a version: it entered this one or a later one, the last of all
pub record HasSeen (start : ℕ) (r q : ReaderView) : Type 0 where
  pub version : ℕ
  pub late : start ≤ version
  pub entered : WasEntered r q version

-- there are both readers, and this holds of them
abbrev pub OfReaders : (ReaderView → ReaderView → Type 0) → Option ReaderView → Option ReaderView → Type 0
OfReaders P None o = ⊥
OfReaders P (Some r) None = ⊥
OfReaders P (Some r) (Some q) = P r q

-- a reader saw the version at which its pass starts
abbrev pub HasSeenStart : SwapReader → SwapReader → Type 0
HasSeenStart a b = OfReaders (λ r q. HasSeen a.start r q) a.reader b.reader

-- it entered a version for a row, which is not before the start
pub record EnteredRow (a b : SwapReader) (version : ℕ) : Type 0 where
  pub by : OfReaders (λ r q. WasEntered r q version) a.reader b.reader
  pub since : a.start ≤ version
  pub same : b.start ≡ a.start

-- it entered versions for rows, and no others
abbrev pub EnteredRows : SwapReader → SwapReader → List ℕ → Type 0
EnteredRows a b versions = OfReaders (λ r q. HasEnteredRows r q versions) a.reader b.reader

abbrev pub EnteredAt : SwapReader → SwapReader → ℕ → Type 0
EnteredAt a b version = OfReaders (λ r q. WasEnteredBetween r q version) a.reader b.reader

-- what a reader has seen of the log
abbrev pub IsSaidIf : Option ReaderView → Note → Type 0
IsSaidIf None note = ⊥
IsSaidIf (Some r) note = IsSaidBy r.log note
