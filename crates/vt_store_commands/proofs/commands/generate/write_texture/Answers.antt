use Rattle.std.proofs.Common.{◌<◌, [], Err, ap, ◌∙◌, inr, arith}
use Rattle.std.proofs.lemmas.Result.{err_from_is_err_and}
use Rattle.vt_outside.proofs.Refusing.{rose_later}
use Rattle.vt_outside.specs.Effects.{folder_state}
use Rattle.vt_store_commands.specs.commands.Gen.{made_file}
use Rattle.vt_outside.proofs.Writing.{unwritten, file_stopped, is_there}
use Rattle.vt_store_commands.proofs.Making.{made_front, header_is, header_whole, header_part, row_whole, row_part}
use Rattle.vt_store_commands.proofs.commands.generate.write_texture.Goals as goal

pub returns-in_err-header : goal.returns-in_err-header
returns-in_err-header g c =
    let p = err_from_is_err_and c.from_residual.result c.from_residual.ensures.1 in
    rw (p.1, p.2) (unwritten _ (folder_state g.D.Folder c.args.folder.now))

pub returns-in_err-room : goal.returns-in_err-room
returns-in_err-room g c =
    let p = err_from_is_err_and c.from_residual-in_err-room.result c.from_residual-in_err-room.ensures.1 in
    rw (p.1, p.2) (unwritten _ (folder_state g.D.Folder c.args.folder.now))

pub returns-in_err-append : goal.returns-in_err-append
returns-in_err-append g c =
    let p = err_from_is_err_and c.from_residual-in_err-append.result c.from_residual-in_err-append.ensures.1 in
    let words = c.args.words.now in
    let f0 = g.D.Folder.files c.args.folder.now in
    let f1 = g.D.Folder.files c.create.new.self in
    let create = c.in_ok-create.ensures in
    let e = c.in_err-append.ensures in
    rw (p.1, p.2) (file_stopped words.name.now (made_file words.number words.width words.height) (folder_state g.D.Folder c.args.folder.now)
    (folder_state g.D.Folder c.append.new.self) c.in_err-append.field-0.0
    (inr (header_part f0 f1 (g.D.Folder.files c.append.new.self) words.name.now c.deref.result.now words.number words.width words.height
    (header_is words.width words.height c.deref.result.now (c.deref.ensures.value ∙ c.in_ok-header.ensures)) create.files e.part))
    (e.asked ∙ create.asked) (omega (arith, create.faults, e.faults))
    (λ failed. rose_later (g.D.Folder.faults c.args.folder.now) (g.D.Folder.faults c.create.new.self) (g.D.Folder.faults c.append.new.self) create.faults
    (e.failed (ap Err failed) (is_there words.name.now [] f0 f1 create.files))))

pub loop-y-init : goal.loop-y-init
loop-y-init g c =
    let words = c.args.words.now in
    let create = c.in_ok-create.ensures in
    let append = c.in_ok-append.ensures in
    record {
      held = header_whole (g.D.Folder.files c.args.folder.now) (g.D.Folder.files c.create.new.self) (g.D.Folder.files c.append.new.self)
          words.name.now c.deref.result.now words.number words.width words.height
          (header_is words.width words.height c.deref.result.now (c.deref.ensures.value ∙ c.in_ok-header.ensures)) create.files append.files;
      asked = append.asked ∙ create.asked;
      faults = omega (arith, create.faults, append.faults);
    }

pub returns-in_err-append-2 : goal.returns-in_err-append-2
returns-in_err-append-2 g c =
    let p = err_from_is_err_and c.from_residual-in_err-append-2.result c.from_residual-in_err-append-2.ensures.1 in
    let words = c.args.words.now in
    let f0 = g.D.Folder.files c.args.folder.now in
    let f1 = g.D.Folder.files c.loop-y.folder in
    let kept = c.loop-y.invariant in
    let e = c.in_err-append-2.ensures in
    let less : c.loop-y.y < words.height = omega (arith, c.loop-y-test.true, c.loop-y.auto.y-end) in
    rw (p.1, p.2) (file_stopped words.name.now (made_file words.number words.width words.height) (folder_state g.D.Folder c.args.folder.now)
    (folder_state g.D.Folder c.append-in-loop-y.new.self) c.in_err-append-2.field-0.0
    (inr (row_part f0 f1 (g.D.Folder.files c.append-in-loop-y.new.self) words.name.now c.make_row.new.row words.number words.width words.height
    c.loop-y.y less c.make_row.ensures kept.held e.part))
    (e.asked ∙ kept.asked) (omega (arith, kept.faults, e.faults))
    (λ failed. rose_later (g.D.Folder.faults c.args.folder.now) (g.D.Folder.faults c.loop-y.folder) (g.D.Folder.faults c.append-in-loop-y.new.self)
    kept.faults
    (e.failed (ap Err failed)
    (is_there words.name.now (made_front words.number words.width words.height c.loop-y.y) f0 f1 kept.held))))

pub loop-y-preserved : goal.loop-y-preserved
loop-y-preserved g c =
    let words = c.args.words.now in
    let kept = c.loop-y.invariant in
    let append = c.in_ok-append-2.ensures in
    record {
      held = row_whole (g.D.Folder.files c.args.folder.now) (g.D.Folder.files c.loop-y.folder) (g.D.Folder.files c.append-in-loop-y.new.self)
          words.name.now c.make_row.new.row words.number words.width words.height c.loop-y.y c.make_row.ensures kept.held append.files;
      asked = append.asked ∙ kept.asked;
      faults = omega (arith, kept.faults, append.faults);
    }
