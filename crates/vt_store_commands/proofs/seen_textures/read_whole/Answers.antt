use Rattle.std.proofs.Common.{refl, sym, inl, arith}
use Rattle.vt_definitions.proofs.Levels.{level_count_least}
use Rattle.vt_store_commands.proofs.SeenTextures.{tile_some, whole_file}
use Rattle.vt_store_commands.specs.declared.seen_textures.Seen.{Seen}
use Rattle.vt_store_commands.proofs.seen_textures.read_whole.Goals as goal

pub returns-clause-sees : goal.returns-clause-sees
returns-clause-sees g c =
    let s : Seen = record { image = c.in_ok-image.image; width = c.width-width.result; height = c.height-height.result; skipped = 0 } in
    record {
      texture = c.in_ok-image.image;
      took = c.in_ok-image.ensures;
      enough = record {
        limits = record {
          width_low = omega (arith, c.width-width.ensures.value, c.width-width.ensures.limits.some_columns);
          width_high = omega (arith, c.width-width.ensures.value, c.width-width.ensures.limits.few_columns);
          height_low = omega (arith, c.height-height.ensures.value, c.width-width.ensures.limits.some_rows);
          height_high = omega (arith, c.height-height.ensures.value, c.width-width.ensures.limits.few_rows);
          some_level = (level_count_least s.width s.height c.args.tile (tile_some c.args.tile c.requires.tile)).some;
        };
        sides = inl (refl, sym c.width-width.ensures.value, sym c.height-height.ensures.value);
        none = λ picture y inside low. omega arith;
      };
      files = λ known picture inside. whole_file c.args.filter s c.args.tile c.args.path.now picture refl (sym c.width-width.ensures.value)
          (sym c.height-height.ensures.value);
    }
