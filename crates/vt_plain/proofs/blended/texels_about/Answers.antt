use Rattle.std.proofs.Common.{refl}
use Rattle.vt_plain.proofs.Inside.{texel_inside}
use Rattle.vt_plain.proofs.blended.texels_about.Goals as goal

pub word_at-requires-clause-inside : goal.word_at-requires-clause-inside
word_at-requires-clause-inside g c =
    texel_inside g.row.DEPTH g.row.DEPTH c.args.columns c.args.rows c.args.columns c.args.at.now.line c.args.at.now.column _ refl refl
    c.requires.inside.column c.requires.inside.line c.requires.full

pub word_at-requires-2-clause-inside : goal.word_at-requires-2-clause-inside
word_at-requires-2-clause-inside g c =
    texel_inside g.row.DEPTH g.row.DEPTH c.args.columns c.args.rows c.args.columns c.args.at.now.line c.args.at.now.next_column _ refl refl
    c.requires.inside.next_column c.requires.inside.line c.requires.full

pub word_at-requires-3-clause-inside : goal.word_at-requires-3-clause-inside
word_at-requires-3-clause-inside g c =
    texel_inside g.row.DEPTH g.row.DEPTH c.args.columns c.args.rows c.args.columns c.args.at.now.next_line c.args.at.now.column _ refl refl
    c.requires.inside.column c.requires.inside.next_line c.requires.full

pub word_at-requires-4-clause-inside : goal.word_at-requires-4-clause-inside
word_at-requires-4-clause-inside g c =
    texel_inside g.row.DEPTH g.row.DEPTH c.args.columns c.args.rows c.args.columns c.args.at.now.next_line c.args.at.now.next_column _ refl refl
    c.requires.inside.next_column c.requires.inside.next_line c.requires.full
