-- How a pass is given and taken back: the writer's view is split in two, and a pass's view is put back into it.
use Rattle.std.specs.Prelude.{ℕ, true, false, List, [], ◌∷◌, ◌++◌, slice_set}
use Rattle.vt_journal.specs.Changes.{newest}
use Rattle.vt_journal.specs.Lookups.{is_mapped}
use Rattle.vt_grace.specs.declared.sizes.Sizes.{Sizes}
use Rattle.vt_grace.specs.declared.views.Stage.TheVariants.{Idle}
use Rattle.vt_grace.specs.declared.views.Look.{Look}
use Rattle.vt_grace.specs.declared.views.PassView.{PassView}
use Rattle.vt_grace.specs.declared.views.WriterView.{WriterView}
use Rattle.vt_grace.specs.declared.views.View.{View}
use Rattle.vt_grace.specs.declared.views.View.TheVariants.{Writing, Passing, Spent}
use Rattle.vt_grace.specs.WriterViews.{version_of, first_writer}

-- the first view of a table is the writer's
abbrev pub writers_first_view : Sizes → View
writers_first_view z = Writing (first_writer z)

-- the sampler at which the writer looked last
abbrev pub aimed : List Look → ℕ
aimed [] = 0
aimed (l ∷ ls) = l.sampler

-- the writer gave a pass to a sampler
abbrev pub after_giving : WriterView → ℕ → WriterView
after_giving w sampler = record w { out = slice_set w.out sampler true }

-- a pass that was just given to a sampler
abbrev pub new_pass : WriterView → ℕ → PassView
new_pass w sampler = record {
  sizes = w.sizes;
  sampler = sampler;
  given = version_of w;
  rooted = is_mapped (newest w.journal) w.sizes.root;
  stage = Idle;
  held = [];
  notes = [];
  word_notes = [];
}

-- what is left to the writer where a pass is given to the sampler at which it looked last
abbrev pub giving : View → View
giving (Writing w) = Writing (after_giving w (aimed w.looks))
giving v = v

-- and what that sampler's pass begins with
abbrev pub fresh_pass : View → View
fresh_pass (Writing w) = Passing (new_pass w (aimed w.looks))
fresh_pass v = Spent

-- the writer took a pass back, with its notes and the versions that it held
abbrev pub after_return : WriterView → PassView → WriterView
after_return w p = record w {
  out = slice_set w.out p.sampler false;
  returned = record { sampler = p.sampler; given = p.given; held = p.held } ∷ w.returned;
  notes = p.notes ++ w.notes;
  word_notes = p.word_notes ++ w.word_notes;
}

-- the view of a writer that took back what another seat knows
abbrev pub taken_in : WriterView → View → View
taken_in w (Passing p) = Writing (after_return w p)
taken_in w v = Writing w

-- and of any seat
abbrev pub taken : View → View → View
taken (Writing w) v = taken_in w v
taken v x = v
