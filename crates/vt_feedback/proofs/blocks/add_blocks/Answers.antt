use Rattle.std.proofs.Common.{false, sym, ◌∙◌, rules, arith}
use Rattle.std.specs.Prelude.{slice_index_or}
use Rattle.std.proofs.lemmas.List.{get_or-set_same, get_or-set_other}
use Rattle.vt_feedback.proofs.Marks.{added_more, kept_more, low_more, both_false}
use Rattle.vt_feedback.proofs.blocks.add_blocks.Goals as goal

pub add_block-is_wanted-requires-clause-room : goal.add_block-is_wanted-requires-clause-room
add_block-is_wanted-requires-clause-room c p low below =
    let kept = c.loop-block.invariant.kept p low in
    let room = c.requires.room p (let a = c.block_end.ensures.inside in let b = c.requires.lengths in omega (arith, a, b)) in
    omega (arith, kept, room)

pub loop-block-preserved : goal.loop-block-preserved
loop-block-preserved c =
    let start = c.args.sums.now in
    let sums = c.loop-block.sums in
    let new = c.add_block-is_wanted.new.sums in
    let counts = c.args.counts.now in
    let n = c.loop-block.block in
    let end = c.block_end.result in
    let i = c.loop-block.invariant in
    let short = c.block_end.ensures.few in
    let all = c.block_end.ensures.all in
    let d = c.add_block-is_wanted.ensures in
    record {
      added = added_more start sums new counts n end short all d.below d.above i.kept d.added i.added;
      kept = kept_more start sums new counts n end short all d.below d.above i.kept;
      low = low_more start sums new counts n end short all d.below d.above i.kept c.loop-block.marks _ c.add_block-is_wanted.result
          (search rules)
          (λ b apart. get_or-set_other c.loop-block.marks n b _ false apart)
          (λ e. both_false (slice_index_or c.loop-block.marks n false) c.add_block-is_wanted.result
          (sym (get_or-set_same c.loop-block.marks n _ false (let at = c.loop-block-test.true in let long = c.loop-block.auto.marks in omega (arith, at, long))) ∙ e))
          (λ e p low below. d.none e p low below) d.added i.low;
    }
