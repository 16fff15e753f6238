-- What a folder holds of an input: its content, its flaw, or no such name.
use Rattle.std.specs.Prelude.{◌≡◌, ℕ, List, Option, Some, IsNone, IsSome}
use Rattle.vt_outside.specs.Files.{Files, bytes_at}
use Rattle.vt_command_inputs.specs.Inputs.{Input, InputContent, name_of, IsContent, IsFlawOf}
use Rattle.vt_command_inputs.specs.declared.flaws.Flaw.{Flaw}

-- the input's name holds this content
pub record Holds (files : Option Files) (input : Input) (content : InputContent) : Type 0 where
  pub bytes : List ℕ
  pub there : bytes_at files (name_of input) ≡ Some bytes
  pub is : IsContent input bytes content

-- the input's name holds bytes with this flaw
pub record HasFlaw (files : Option Files) (input : Input) (flaw : Flaw) : Type 0 where
  pub bytes : List ℕ
  pub there : bytes_at files (name_of input) ≡ Some bytes
  pub is : IsFlawOf input bytes flaw

-- the folder tells that the input's name is missing
pub record IsMissing (files : Option Files) (input : Input) : Type 0 where
  pub known : IsSome files
  pub none : IsNone (bytes_at files (name_of input))
