use Rattle.vt_camera.proofs.PathFlawLemmas.{formed, flawed}
use Rattle.vt_camera.proofs.parse.parse_path.Goals as goal

pub returns-clause-formed : goal.returns-clause-formed
returns-clause-formed c = formed c.args.text.now c.read_path.result c.read_path.ensures

pub returns-clause-flawed : goal.returns-clause-flawed
returns-clause-flawed c = flawed c.args.text.now c.read_path.result c.read_path.ensures
