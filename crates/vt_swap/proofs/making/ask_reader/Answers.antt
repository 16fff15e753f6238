use Rattle.vt_swap_steps.proofs.Turning.{admits}
use Rattle.vt_swap.proofs.making.ask_reader.Goals as goal

pub reader-requires : goal.reader-requires
reader-requires g c = admits
