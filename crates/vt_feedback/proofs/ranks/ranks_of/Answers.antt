use Rattle.std.proofs.Common.{◌≡◌, length, Vec, Global, sym, ap, ◌∙◌, arith}
use Rattle.std.specs.Prelude.{min}
use Rattle.vt_feedback.specs.declared.ranks.Rank.{Rank}
use Rattle.vt_feedback.specs.Ranks.{ranks_below}
use Rattle.vt_feedback.proofs.RankLemmas.{ranks-none}
use Rattle.vt_feedback.proofs.Marks.{first_inside, end_is, ranks_kept}
use Rattle.vt_feedback.proofs.ranks.ranks_of.Goals.{then-marks-block+in_ok-add_ranks, else-marks-block}
use Rattle.vt_feedback.proofs.ranks.ranks_of.Goals as goal

pub loop-block-init : goal.loop-block-init
loop-block-init c =
    let e : 0 ≡ min 0 (length c.args.counts.now) = omega arith in
    c.new-ranks.ensures.items ∙ sym (ranks-none c.args.geometry.now c.args.counts.now) ∙ ap (ranks_below c.args.geometry.now c.args.counts.now) e

pub loop-block-preserved : goal.loop-block-preserved
loop-block-preserved c =
    let s = c.args.geometry.now in
    let counts = c.args.counts.now in
    let marks = c.args.marks.now in
    let n = c.loop-block.block in
    elim c.if-marks-block.branch [
      | then-marks-block+in_ok-add_ranks w ↦
          let d = w.block_end-end.ensures in
          ap (λ (v : Vec Rank Global). v.items) w.ranks-is ∙ w.in_ok-add_ranks.ensures
          ∙ ap (ranks_below s counts) (end_is n w.block_end-end.result (length counts)
          (first_inside counts marks n c.requires.marked c.loop-block-test.true) d.inside d.few d.all)
      | else-marks-block w ↦
          ap (λ (v : Vec Rank Global). v.items) w.ranks-is ∙ c.loop-block.invariant
          ∙ ranks_kept s counts marks n c.requires.marked c.loop-block-test.true w.if-marks-block.false
    ]
