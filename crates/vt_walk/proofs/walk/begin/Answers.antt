use Rattle.std.proofs.Common.{None, refl, subst, ap, Err, inl, arith}
use Rattle.std.proofs.lemmas.Result.{err_from_is_err_and}
use Rattle.vt_outside.specs.declared.answers.OutsideError.TheVariants.{NoMemory}
use Rattle.vt_tiles.specs.StoreViews.{IsStoreIfKnown}
use Rattle.vt_walk_decisions.specs.Machines.{file_state}
use Rattle.vt_walk.specs.DrawnBy.{IsDrawnBySome}
use Rattle.vt_walk.proofs.Beginning.{pinned_broke, head_broke, head_stands, pages_pinned}
use Rattle.vt_walk.proofs.walk.begin.Goals as goal

pub returns-in_err-place_pinned-clause-begun : goal.returns-in_err-place_pinned-clause-begun
returns-in_err-place_pinned-clause-begun g c =
    let p = err_from_is_err_and c.from_residual.result c.from_residual.ensures.1 in
    λ held out_faults. rw p.1 (pinned_broke g.M.PassMachine.drawing
    (IsDrawnBySome g.M.PassMachine) c.args.input.now
    (g.D.File.File.bytes c.args.store.now.file) c.args.store.now.depth c.args.input.now.names.store.now
    (file_state g.D.File.File c.args.store.now.file) (file_state g.D.File.File c.place_pinned.new.store.file)
    (g.D.Folder.files c.args.folder.now) (g.D.Folder.asked c.args.folder.now) (g.D.Folder.faults c.args.folder.now)
    (g.M.PassMachine.state c.args.machine.now) (g.M.PassMachine.state c.place_pinned.new.machine)
    held out_faults c.requires.input c.requires.enough_frames (subst
    (λ s. IsStoreIfKnown (g.D.File.File.bytes c.args.store.now.file) s c.args.store.now.depth) c.requires.shape c.requires.store) c.requires.depth
    c.requires.begins c.requires.all_known
    c.in_err-place_pinned.ensures.files c.in_err-place_pinned.ensures.part c.in_err-place_pinned.ensures.lost
    c.in_err-place_pinned.ensures.kept.faults
    _ p.0 (λ is. c.in_err-place_pinned.ensures.failed (ap Err is)) p.2)

pub returns-in_err-recency-clause-begun : goal.returns-in_err-recency-clause-begun
returns-in_err-recency-clause-begun g c =
    let p = err_from_is_err_and c.from_residual-in_err-recency.result c.from_residual-in_err-recency.ensures.1 in
    λ held out_faults. rw p.1 (head_broke g.M.PassMachine.drawing
    (IsDrawnBySome g.M.PassMachine) c.args.input.now
    (g.D.File.File.bytes c.args.store.now.file) c.args.store.now.depth c.args.input.now.names.store.now
    (file_state g.D.File.File c.args.store.now.file) (file_state g.D.File.File c.place_pinned.new.store.file)
    (g.D.Folder.files c.args.folder.now) (g.D.Folder.asked c.args.folder.now) (g.D.Folder.faults c.args.folder.now)
    (g.M.PassMachine.state c.args.machine.now) (g.M.PassMachine.state c.place_pinned.new.machine)
    held out_faults c.requires.input c.requires.enough_frames (subst
    (λ s. IsStoreIfKnown (g.D.File.File.bytes c.args.store.now.file) s c.args.store.now.depth) c.requires.shape c.requires.store) c.requires.depth
    c.requires.begins c.requires.all_known
    (g.D.Folder.files c.args.folder.now) (g.D.Folder.asked c.args.folder.now) (g.D.Folder.faults c.args.folder.now)
    c.in_ok-place_pinned.ensures.files c.in_ok-place_pinned.ensures.asked c.in_ok-place_pinned.ensures.kept.faults (inl refl) refl (omega arith)
    NoMemory p.0 (λ is. absurd (cc is)) p.2)

pub begin_journal-requires-after_bounds : goal.begin_journal-requires-after_bounds
begin_journal-requires-after_bounds g c κs within =
    pages_pinned g.M.PassMachine.drawing (IsDrawnBySome g.M.PassMachine) c.args.input.now
    (g.D.File.File.bytes c.args.store.now.file) c.args.store.now.depth c.args.input.now.names.store.now
    (file_state g.D.File.File c.args.store.now.file) (file_state g.D.File.File c.place_pinned.new.store.file)
    (g.D.Folder.files c.args.folder.now) (g.D.Folder.asked c.args.folder.now) (g.D.Folder.faults c.args.folder.now)
    (g.M.PassMachine.state c.args.machine.now) (g.M.PassMachine.state c.place_pinned.new.machine)
    None 0 c.requires.input c.requires.enough_frames (subst (λ s. IsStoreIfKnown (g.D.File.File.bytes c.args.store.now.file) s c.args.store.now.depth)
    c.requires.shape c.requires.store) c.requires.depth c.requires.begins c.requires.all_known c.journal.result.now.changes
    c.in_ok-place_pinned.ensures.placed c.journal.ensures

pub returns-in_err-begin_journal-clause-begun : goal.returns-in_err-begin_journal-clause-begun
returns-in_err-begin_journal-clause-begun g c =
    let p = err_from_is_err_and c.from_residual-in_err-begin_journal.result c.from_residual-in_err-begin_journal.ensures.1 in
    λ held out_faults. rw p.1 (head_broke g.M.PassMachine.drawing
    (IsDrawnBySome g.M.PassMachine) c.args.input.now
    (g.D.File.File.bytes c.args.store.now.file) c.args.store.now.depth c.args.input.now.names.store.now
    (file_state g.D.File.File c.args.store.now.file) (file_state g.D.File.File c.place_pinned.new.store.file)
    (g.D.Folder.files c.args.folder.now) (g.D.Folder.asked c.args.folder.now) (g.D.Folder.faults c.args.folder.now)
    (g.M.PassMachine.state c.args.machine.now) (g.M.PassMachine.state c.place_pinned.new.machine)
    held out_faults c.requires.input c.requires.enough_frames (subst
    (λ s. IsStoreIfKnown (g.D.File.File.bytes c.args.store.now.file) s c.args.store.now.depth) c.requires.shape c.requires.store) c.requires.depth
    c.requires.begins c.requires.all_known
    (g.D.Folder.files c.begin_journal.new.folder) (g.D.Folder.asked c.begin_journal.new.folder) (g.D.Folder.faults c.begin_journal.new.folder)
    c.in_ok-place_pinned.ensures.files c.in_ok-place_pinned.ensures.asked c.in_ok-place_pinned.ensures.kept.faults
    c.in_err-begin_journal.ensures.written.part
    c.in_err-begin_journal.ensures.written.asked c.in_err-begin_journal.ensures.written.faults _ p.0 (λ is. c.in_err-begin_journal.ensures.written.failed (ap Err is)) p.2)

pub returns-clause-begun : goal.returns-clause-begun
returns-clause-begun g c = λ held out_faults. head_stands g.M.PassMachine.drawing
    (IsDrawnBySome g.M.PassMachine) c.args.input.now
    (g.D.File.File.bytes c.args.store.now.file) c.args.store.now.depth c.args.input.now.names.store.now
    (file_state g.D.File.File c.args.store.now.file) (file_state g.D.File.File c.place_pinned.new.store.file)
    (g.D.Folder.files c.args.folder.now) (g.D.Folder.asked c.args.folder.now) (g.D.Folder.faults c.args.folder.now)
    (g.M.PassMachine.state c.args.machine.now) (g.M.PassMachine.state c.place_pinned.new.machine)
    held out_faults c.requires.input c.requires.enough_frames (subst
    (λ s. IsStoreIfKnown (g.D.File.File.bytes c.args.store.now.file) s c.args.store.now.depth) c.requires.shape c.requires.store) c.requires.depth
    c.requires.begins c.requires.all_known
    (g.D.Folder.files c.begin_journal.new.folder) (g.D.Folder.asked c.begin_journal.new.folder) (g.D.Folder.faults c.begin_journal.new.folder)
    c.in_ok-recency.recency
    c.in_ok-place_pinned.ensures.placed c.in_ok-place_pinned.ensures.asked c.in_ok-place_pinned.ensures.kept.faults
    c.in_ok-begin_journal.ensures.written.whole
    c.in_ok-begin_journal.ensures.there c.in_ok-begin_journal.ensures.written.asked c.in_ok-begin_journal.ensures.written.faults c.in_ok-recency.ensures.first

pub returns-clause-idle : goal.returns-clause-idle
returns-clause-idle g c = c.in_ok-place_pinned.ensures.idle

pub returns-in_err-place_pinned-clause-kept : goal.returns-in_err-place_pinned-clause-kept
returns-in_err-place_pinned-clause-kept g c = record {
  asked = refl;
  faults = omega arith;
  store = c.place_pinned.ensures.kept.same;
  files = c.place_pinned.ensures.files;
}

pub returns-in_err-recency-clause-kept : goal.returns-in_err-recency-clause-kept
returns-in_err-recency-clause-kept g c = record {
  asked = refl;
  faults = omega arith;
  store = c.place_pinned.ensures.kept.same;
  files = c.place_pinned.ensures.files;
}

pub returns-in_err-begin_journal-clause-kept : goal.returns-in_err-begin_journal-clause-kept
returns-in_err-begin_journal-clause-kept g c = record {
  asked = c.begin_journal.ensures.written.asked;
  faults = c.begin_journal.ensures.written.faults;
  store = c.place_pinned.ensures.kept.same;
  files = c.place_pinned.ensures.files;
}

pub returns-clause-kept : goal.returns-clause-kept
returns-clause-kept g c = record {
  asked = c.begin_journal.ensures.written.asked;
  faults = c.begin_journal.ensures.written.faults;
  store = c.place_pinned.ensures.kept.same;
  files = c.place_pinned.ensures.files;
}
