-- Writers that make no change, one after another.
use Rattle.std.proofs.Common.{refl, ◌∙◌}
use Rattle.vt_pass_rows.specs.PageTableTypes.table.PageTable.{Ghosts as TableMeanings}
use Rattle.vt_pass_pool.specs.Stills.{IsStill}

module _ {T H R W : Type 0} (table : TableMeanings T H R W) (shared : H) where
  pub still_none : (later_none : (w : W) → table.later w w) (w : W) → table.is_of shared w → IsStill table shared w w
  still_none later_none w of = record {
    of = of;
    shape = refl;
    frames = refl;
    journal = refl;
    fills = λ page words was. was;
    later = later_none w;
  }

  pub still_more : (later_twice : (u v w : W) → table.later u v → table.later v w → table.later u w) (u v w : W) → IsStill table shared u v
      → IsStill table shared v w → IsStill table shared u w
  still_more later_twice u v w first second = record {
    of = second.of;
    shape = second.shape ∙ first.shape;
    frames = second.frames ∙ first.frames;
    journal = second.journal ∙ first.journal;
    fills = λ page words was. first.fills page words (second.fills page words was);
    later = later_twice u v w first.later second.later;
  }
