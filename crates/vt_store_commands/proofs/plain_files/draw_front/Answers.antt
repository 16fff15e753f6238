use Rattle.std.proofs.Common.{◌≡◌, ℕ, ◌-◌, ◌*◌, length, refl, ap, ◌∙◌, rules, arith}
use Rattle.vt_store_commands.specs.PlainFiles.{file_size}
use Rattle.vt_store_commands.proofs.PlainFiles.{holds_front}
use Rattle.vt_store_commands.proofs.plain_files.draw_front.Goals as goal

pub split_at_mut-front-requires : goal.split_at_mut-front-requires
split_at_mut-front-requires g c =
    let whole : c.file_size-size.result * (c.args.end - c.args.first) ≡ file_size c.args.pictures.now * (c.args.end - c.args.first) =
    ap (λ (n : ℕ). n * (c.args.end - c.args.first)) c.file_size-size.ensures.value in
    omega (arith, whole, c.requires.fits)

pub draw_files-requires-after_bounds : goal.draw_files-requires-after_bounds
draw_files-requires-after_bounds g c κs within = record {
  has = c.requires.has;
  order = c.requires.order;
  few = c.requires.few;
  full = c.split_at_mut-front.ensures.front_len ∙ ap (λ (n : ℕ). n * (c.args.end - c.args.first)) c.file_size-size.ensures.value;
}

pub returns : goal.returns
returns g c =
    holds_front c.args.pictures.now c.args.first c.args.end (length c.args.room.now) c.draw_files.new.out _ _ c.requires
    (search rules) c.draw_files.ensures refl
