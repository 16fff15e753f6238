-- Which page cache something is of: its log, and how many pages and frames it has.
use Rattle.std.specs.Prelude.{◌≡◌, ℕ}
use Rattle.logbook.specs.Pages.{Book}
use Rattle.vt_swap_log.specs.declared.log.Front.{Front}

-- a page cache: its log, and how many pages and frames it has
pub record Cache : Type 0 where
  pub book : Book
  pub pages : ℕ
  pub frames : ℕ

-- the cache of whose log a beginning was seen
abbrev pub cache_of : Front → Cache
cache_of f = record { book = f.seen.book; pages = f.pages; frames = f.frames }

-- two beginnings are of one log
abbrev pub AreOfOneLog : Front → Front → Type 0
AreOfOneLog f g = cache_of f ≡ cache_of g
