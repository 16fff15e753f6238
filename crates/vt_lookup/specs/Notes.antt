-- What a pass noted, and a look-up over a hold.
use Rattle.std.specs.Prelude.{◌≡◌, ℕ, ◌*◌, ◌++◌, List, [], Contains}
use Rattle.vt_pages.specs.Shape.{Shape}
use Rattle.vt_pages.specs.Pages.{pages_of, root_of}
use Rattle.vt_pictures.specs.DrawLookups.{Note, EntryNote, WordNote}
use Rattle.vt_grace.specs.declared.sizes.Sizes.{Sizes}
use Rattle.vt_grace.specs.declared.views.PassView.{PassView}
use Rattle.vt_grace.specs.Values.{WordsValue, HeldValue}

-- the table of words is as large as the shape of its pages asks
pub record FitsShape (s : Shape) (z : Sizes) : Type 0 where
  pub pages : z.pages ≡ pages_of s
  pub texels : z.texels ≡ s.tile * s.tile
  pub root : z.root ≡ root_of s

-- a pass noted what a look-up says
abbrev pub IsNotedIn : PassView → Note → Type 0
IsNotedIn p (EntryNote version page entry) = Contains p.notes (record { version = version; page = page; entry = entry })
IsNotedIn p (WordNote version frame place word) =
    Contains p.word_notes (record { version = version; frame = frame; place = place; word = word })

-- a pass noted more, and is else as it was
pub record HasNotedMore (p q : PassView) : Type 0 where
  pub rest : q ≡ record p { notes = q.notes; word_notes = q.word_notes }
  pub notes : (note : Note) → IsNotedIn p note → IsNotedIn q note

-- a pass held versions besides, the newest first, and noted more: its sizes, its sampler and how it was given are as they were
pub record HasHeldMore (p q : PassView) (more : List ℕ) : Type 0 where
  pub rest : q ≡ record p { stage = q.stage; held = more ++ p.held; notes = q.notes; word_notes = q.word_notes }
  pub notes : (note : Note) → IsNotedIn p note → IsNotedIn q note

-- a look-up over a hold: the shape of the pages, the words, and the hold
pub record LookupValue : Type 0 where
  pub shape : Shape
  pub words : WordsValue
  pub held : HeldValue

-- what a look-up rests on: the words, and the hold without its notes
pub record LookupBase : Type 0 where
  pub words : WordsValue
  pub held : HeldValue

-- a hold without its notes
abbrev pub without_notes : HeldValue → HeldValue
without_notes h = record h { view = record h.view { notes = []; word_notes = [] } }

-- what this look-up rests on
abbrev pub base_of : LookupValue → LookupBase
base_of v = record { words = v.words; held = without_notes v.held }
