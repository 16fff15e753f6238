use Rattle.std.proofs.lemmas.List.Splits.{join_with_byte-slice_split}
use Rattle.vt_text.proofs.lines.fields_join.Goals as goal

pub returns : goal.returns
returns c = join_with_byte-slice_split 32 c.args.line.now
