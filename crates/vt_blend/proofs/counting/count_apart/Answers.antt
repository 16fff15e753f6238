use Rattle.std.proofs.Common.{arith}
use Rattle.vt_blend.proofs.CountedRuns.{run-most}
use Rattle.vt_blend.proofs.CountedRuns.{times-are}
use Rattle.vt_blend.proofs.counting.count_apart.Goals as goal

pub add_texels-requires-2-clause-room : goal.add_texels-requires-2-clause-room
add_texels-requires-2-clause-room c =
    let p = c.args.pages.now.second in
    omega (arith, c.add_texels.ensures.added p, run-most c.args.pages.now.first 1 p, c.requires.room p c.requires.second)

pub add_texels-requires-3-clause-room : goal.add_texels-requires-3-clause-room
add_texels-requires-3-clause-room c =
    let p = c.args.pages.now.third in
    omega (
      arith,
      c.add_texels.ensures.added p,
      c.add_texels-2.ensures.added p,
      run-most c.args.pages.now.first 1 p,
      run-most c.args.pages.now.second 1 p,
      c.requires.room p c.requires.third,
    )

pub add_texels-requires-4-clause-room : goal.add_texels-requires-4-clause-room
add_texels-requires-4-clause-room c =
    let p = c.args.pages.now.fourth in
    omega (
      arith,
      c.add_texels.ensures.added p,
      c.add_texels-2.ensures.added p,
      c.add_texels-3.ensures.added p,
      run-most c.args.pages.now.first 1 p,
      run-most c.args.pages.now.second 1 p,
      run-most c.args.pages.now.third 1 p,
      c.requires.room p c.requires.fourth,
    )

pub returns : goal.returns
returns c = record {
  counted = λ p. omega (
    arith,
    c.add_texels.ensures.added p,
    c.add_texels-2.ensures.added p,
    c.add_texels-3.ensures.added p,
    c.add_texels-4.ensures.added p,
    times-are c.args.pages.now p,
  );
}
