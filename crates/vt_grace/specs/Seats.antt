-- What is in a seat at the table: the view of the writer or of a pass.
use Rattle.std.specs.Prelude.{◌≡◌, []}
use Rattle.atomic_table.specs.Table.{Me}
use Rattle.atomic_table.specs.declared.shared.Seat.{Seat}
use Rattle.vt_grace.specs.declared.views.PassView.{PassView}
use Rattle.vt_grace.specs.declared.views.WriterView.{WriterView}
use Rattle.vt_grace.specs.declared.views.View.{View}
use Rattle.vt_grace.specs.declared.views.View.TheVariants.{Writing, Passing}
use Rattle.vt_grace.specs.Sizes.{no_sizes}
use Rattle.vt_grace.specs.PassViews.{no_pass}
use Rattle.vt_grace.specs.WriterViews.{first_writer}

-- what a seat knows and has in hand
abbrev pub Sat : Type 0
Sat = Me (Unit {0}) View

-- the seat of the writer, with nothing in hand
abbrev pub writing : WriterView → Sat
writing w = (Writing w, [])

-- and that of a pass
abbrev pub passing : PassView → Sat
passing p = (Passing p, [])

-- the pass that a view is of
abbrev pub pass_in : View → PassView
pass_in (Passing p) = p
pass_in v = no_pass

-- the writer that a view is of
abbrev pub writer_in : View → WriterView
writer_in (Writing w) = w
writer_in v = first_writer no_sizes

-- the pass of a seat
abbrev pub pass_at : Seat (Unit {0}) View → PassView
pass_at s = pass_in s.me.0

-- the writer of a seat
abbrev pub writer_at : Seat (Unit {0}) View → WriterView
writer_at s = writer_in s.me.0

-- the seat is one of a pass, with nothing in hand
abbrev pub IsPassing : Seat (Unit {0}) View → Type 0
IsPassing s = s.me ≡ passing (pass_at s)

-- the seat is the writer's, with nothing in hand
abbrev pub IsWriting : Seat (Unit {0}) View → Type 0
IsWriting s = s.me ≡ writing (writer_at s)
