use Rattle.std.proofs.Common.{ℕ, List, ◌∙◌, subst}
use Rattle.vt_camera.specs.PathText.{IsPathText}
use Rattle.vt_walk_commands.proofs.commands.trial.make_path.Goals as goal

pub returns-in-Ok : goal.returns-in-Ok
returns-in-Ok c = subst (λ (t : List ℕ). IsPathText t c.in-Ok.path) (c.bytes.ensures ∙ c.path_text-text.ensures) c.in-Ok.ensures.ok
