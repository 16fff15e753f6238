-- What a pass knows, and how the steps of its sampler change it.
use Rattle.std.specs.Prelude.{◌≡◌, ℕ, ◌+◌, ◌≤◌, false, List, [], ◌∷◌, All, Contains}
use Rattle.vt_grace.specs.declared.views.Stage.{Stage}
use Rattle.vt_grace.specs.declared.views.Stage.TheVariants.{Idle, Holding}
use Rattle.vt_grace.specs.declared.views.EntryNote.{EntryNote}
use Rattle.vt_grace.specs.declared.views.PassView.{PassView}
use Rattle.vt_grace.specs.Sizes.{no_sizes}
use Rattle.vt_grace.specs.Stages.{hint_of}

-- the view of no pass
abbrev pub no_pass : PassView
no_pass = record { sizes = no_sizes; sampler = 0; given = 0; rooted = false; stage = Idle; held = []; notes = []; word_notes = [] }

-- a pass at another stage
abbrev pub at_stage : Stage → PassView → PassView
at_stage stage p = record p { stage = stage }

-- a pass that holds nothing
abbrev pub idle : PassView → PassView
idle p = at_stage Idle p

-- a pass that has taken hold of a version
abbrev pub holding : ℕ → PassView → PassView
holding u p = record p { stage = Holding (hint_of p.stage) u; held = u ∷ p.held }

-- a pass that read an entry under a version
abbrev pub noting : ℕ → ℕ → ℕ → PassView → PassView
noting u page entry p = record p { notes = record { version = u; page = page; entry = entry } ∷ p.notes }

-- a pass that read a texel word under a version
abbrev pub wording : ℕ → ℕ → ℕ → ℕ → PassView → PassView
wording u frame place word p = record p { word_notes = record { version = u; frame = frame; place = place; word = word } ∷ p.word_notes }

-- under a version an entry of the frame was noted
abbrev pub HasEntry : ℕ → PassView → ℕ → Type 0
HasEntry u p frame = (n : EntryNote) × Contains p.notes n × (n.version ≡ u) × (n.entry ≡ frame + 1)

-- no version of these is above one
abbrev pub NoneAbove : ℕ → List ℕ → Type 0
NoneAbove version held = All (λ v. v ≤ version) held

-- the versions, the newest first, never fell, and none is below the first one
abbrev pub NeverFell : ℕ → List ℕ → Type 0
NeverFell given [] = Unit {0}
NeverFell given (u ∷ us) = (given ≤ u) × NoneAbove u us × NeverFell given us
