use Rattle.vt_draw.proofs.Places.{wanted_in_chain}
use Rattle.vt_draw.proofs.laws.wanted_page_in_chain.Goals as goal

pub returns : goal.returns
returns c = wanted_in_chain
