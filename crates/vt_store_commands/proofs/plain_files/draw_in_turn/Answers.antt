use Rattle.std.proofs.Common.{◌≡◌, ℕ, ◌-◌, ◌*◌, length, take, ap, sym, subst, ◌∙◌, arith}
use Rattle.std.proofs.lemmas.List.{take_all}
use Rattle.vt_store_commands.specs.PlainFiles.{picture_file_of, files_between, file_size}
use Rattle.vt_store_commands.proofs.PlainFiles.{none_put, file_put, file_within, length-file}
use Rattle.vt_store_commands.proofs.plain_files.draw_in_turn.Goals as goal

pub loop-picture-init : goal.loop-picture-init
loop-picture-init g c = none_put (picture_file_of c.args.pictures.now) c.file_size-size.result c.args.first c.args.out.now

pub loop-picture-preserved : goal.loop-picture-preserved
loop-picture-preserved g c =
    let p = c.args.pictures.now in
    let size = c.file_size-size.result in
    let each : (i : ℕ) → length (picture_file_of p i) ≡ size = λ i. length-file p c.requires.has i ∙ sym c.file_size-size.ensures.value in
    let whole : size * (c.args.end - c.args.first) ≡ file_size p * (c.args.end - c.args.first) =
    ap (λ (n : ℕ). n * (c.args.end - c.args.first)) c.file_size-size.ensures.value in
    let fits = file_within size c.args.first c.loop-picture.picture c.args.end (length c.args.out.now) (omega (arith, whole, c.requires.full)) (omega arith) (omega arith) in
    file_put (picture_file_of p) size each c.args.first c.loop-picture.picture _ c.loop-picture.out c.draw_file.new.out (omega arith)
    (omega (arith, fits, c.loop-picture.auto.out)) c.draw_file.ensures c.loop-picture.invariant

pub slice_bounds-draw_file-end : goal.slice_bounds-draw_file-end
slice_bounds-draw_file-end g c =
    let p = c.args.pictures.now in
    let size = c.file_size-size.result in
    let whole : size * (c.args.end - c.args.first) ≡ file_size p * (c.args.end - c.args.first) =
    ap (λ (n : ℕ). n * (c.args.end - c.args.first)) c.file_size-size.ensures.value in
    let fits = file_within size c.args.first c.loop-picture.picture c.args.end (length c.args.out.now) (omega (arith, whole, c.requires.full)) (omega arith) (omega arith) in
    omega (arith, fits, c.loop-picture.auto.out)

pub returns : goal.returns
returns g c =
    let p = c.args.pictures.now in
    let first = c.args.first in
    let end = c.args.end in
    let size = c.file_size-size.result in
    let whole : size * (end - first) ≡ file_size p * (end - first) = ap (λ (n : ℕ). n * (end - first)) c.file_size-size.ensures.value in
    let last : c.loop-picture.picture ≡ end = omega arith in
    sym (take_all (size * (end - first)) c.loop-picture.out (omega (arith, whole, c.requires.full, c.loop-picture.auto.out)))
    ∙ subst (λ (y : ℕ). take (size * (y - first)) c.loop-picture.out ≡ files_between (picture_file_of p) first y) last c.loop-picture.invariant
