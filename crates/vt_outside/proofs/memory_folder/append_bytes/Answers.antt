use Rattle.std.proofs.Common.{arith, rules}
use Rattle.std.proofs.lemmas.Map.Text.{text_keys}
use Rattle.vt_outside.proofs.memory_folder.append_bytes.Goals as goal

pub returns-in_err-extend_from_slice-clause-added : goal.returns-in_err-extend_from_slice-clause-added
returns-in_err-extend_from_slice-clause-added c = λ q. grind (arith, text_keys)

pub returns-clause-added : goal.returns-clause-added
returns-clause-added c = λ q. grind (arith, text_keys)

pub returns-in_default-clause-found : goal.returns-in_default-clause-found
returns-in_default-clause-found c = search rules
