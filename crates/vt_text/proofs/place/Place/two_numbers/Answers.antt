use Rattle.std.proofs.Common.{rules}
use Rattle.vt_text.proofs.place.Place.two_numbers.Goals as goal

pub returns : goal.returns
returns c = search rules
