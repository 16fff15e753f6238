use Rattle.std.proofs.Common.{ℕ, ◌+◌, ◌-◌, ◌*◌, List, ◌++◌, length, ap, ap₂, sym, ◌∙◌, arith}
use Rattle.vt_store_commands.specs.PlainFiles.{picture_file_of}
use Rattle.vt_store_commands.proofs.PlainFiles.{between_split, upper_room, lower_room}
use Rattle.vt_store_commands.proofs.plain_files.+files.Goals as goal

pub draw_files-draw_both-requires-clause-front : goal.draw_files-draw_both-requires-clause-front
draw_files-draw_both-requires-clause-front g t c κs within =
    let first = c.args.first in
    let middle = c.args.first + c.files_for.result in
    upper_room c.args.pictures.now first middle c.args.end (length c.args.out.now) c.requires (omega arith)
    (omega (arith, c.files_for.ensures, c.requires.order)) _
    (c.split_at_mut-front.ensures.front_len ∙ ap (λ (n : ℕ). n * (middle - first)) c.file_size-size.ensures.value)

pub draw_files-draw_both-requires-clause-back : goal.draw_files-draw_both-requires-clause-back
draw_files-draw_both-requires-clause-back g t c κs within =
    let first = c.args.first in
    let middle = c.args.first + c.files_for.result in
    lower_room c.args.pictures.now first middle c.args.end (length c.args.out.now) c.requires (omega arith)
    (omega (arith, c.files_for.ensures, c.requires.order)) _ _
    (ap (λ (n : ℕ). n * (middle - first)) c.file_size-size.ensures.value) c.split_at_mut-front.ensures.back_len

pub draw_files-returns : goal.draw_files-returns
draw_files-returns g t c =
    let first = c.args.first in
    let middle = c.args.first + c.files_for.result in
    ap₂ (λ (a b : List ℕ). a ++ b) c.draw_both.ensures.front c.draw_both.ensures.back
    ∙ sym (between_split (picture_file_of c.args.pictures.now) first middle c.args.end (omega arith) (omega (arith, c.files_for.ensures, c.requires.order)))
