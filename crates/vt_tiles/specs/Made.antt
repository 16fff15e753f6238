-- What a name holds, or gains, of bytes that other bytes make.
use Rattle.std.specs.Prelude.{◌≡◌, ℕ, List, take, Option, Some, option_map}
use Rattle.vt_outside.specs.Files.{Files, with_bytes, with_appended}

-- the name holds bytes that other bytes make, where those are known, and every other name what it held
pub record HoldsMade (known : Option (List ℕ)) (made : List ℕ → List ℕ) (name : List ℕ) (before after : Option Files) : Type 0 where
  pub written : List ℕ
  pub held : after ≡ option_map (with_bytes name written) before
  pub same : (b : List ℕ) → known ≡ Some b → written ≡ made b

-- the name holds a prefix of them
pub record HoldsMadeFront (known : Option (List ℕ)) (made : List ℕ → List ℕ) (name : List ℕ) (before after : Option Files) : Type 0 where
  pub written : List ℕ
  pub held : after ≡ option_map (with_bytes name written) before
  pub part : (b : List ℕ) → known ≡ Some b → (k : ℕ) × (written ≡ take k (made b))

-- the name gained bytes that other bytes make, or a prefix of them
pub record GainsMade (known : Option (List ℕ)) (made : List ℕ → List ℕ) (name : List ℕ) (before after : Option Files) : Type 0 where
  pub more : List ℕ
  pub held : after ≡ option_map (with_appended name more) before
  pub same : (b : List ℕ) → known ≡ Some b → more ≡ made b

pub record GainsMadeFront (known : Option (List ℕ)) (made : List ℕ → List ℕ) (name : List ℕ) (before after : Option Files) : Type 0 where
  pub more : List ℕ
  pub part : ℕ
  pub held : after ≡ option_map (with_appended name (take part more)) before
  pub same : (b : List ℕ) → known ≡ Some b → more ≡ made b
