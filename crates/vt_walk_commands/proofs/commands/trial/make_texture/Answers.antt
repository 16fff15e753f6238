use Rattle.std.proofs.Common.{◌≡◌, ℕ, List, ◌++◌, length, ap, ◌∙◌, length-append, arith}
use Rattle.vt_store_commands.specs.commands.Gen.{made_row, made_rows}
use Rattle.vt_walk_commands.specs.commands.Trial.{trial_image}
use Rattle.vt_store_commands.proofs.Making.{rows_none, rows_more, row_length}
use Rattle.vt_walk_commands.proofs.commands.trial.make_texture.Goals as goal

pub loop-y-init : goal.loop-y-init
loop-y-init c = record {
  rows = c.in_ok-samples.ensures.items ∙ rows_none c.args.number 2048;
  size = ap (λ (l : List ℕ). length l) c.in_ok-samples.ensures.items;
}

pub loop-y-preserved : goal.loop-y-preserved
loop-y-preserved c =
    let number = c.args.number in
    let y = c.loop-y.y in
    let before : List ℕ = c.loop-y.samples.items in
    let all : c.extend_from_slice.new.self.items ≡ before ++ made_row number y 2048 =
    c.in_ok-extend_from_slice.ensures.items ∙ ap (λ (row : List ℕ). before ++ row) c.make_row.ensures in
    record {
      rows = all ∙ ap (λ (rows : List ℕ). rows ++ made_row number y 2048) c.loop-y.invariant.rows ∙ rows_more number 2048 y;
      size = let n : length c.extend_from_slice.new.self.items ≡ length (before ++ made_row number y 2048) = ap (λ (l : List ℕ). length l) all in
          let m = c.loop-y.invariant.size in
          omega (arith, n, m, length-append before (made_row number y 2048), row_length number y 2048);
    }

pub returns : goal.returns
returns c =
    let test = c.loop-y-test.false in
    let end = c.loop-y.auto.y-end in
    let last : c.loop-y.y ≡ 2048 = omega (arith, test, end) in
    c.new.ensures ∙ ap (λ (samples : List ℕ). trial_image samples) (c.loop-y.invariant.rows ∙ ap (λ n. made_rows c.args.number 2048 n) last)
