-- What a sink that may refuse puts has gained: a text, or a prefix of it where one of its counts rose.
use Rattle.std.specs.Prelude.{◌≡◌, ◌⊎◌, ℕ, List, take, Option, option_map}
use Rattle.vt_outside.specs.Counts.{Rose}
use Rattle.vt_outside.specs.Files.{gained}

-- a sink gained the text, or a prefix of it where one of its counts rose
abbrev pub Prints : List ℕ → Option (List ℕ) → Option (List ℕ) → ℕ → ℕ → ℕ → ℕ → Type 0
Prints text before after faults_before faults_after refusals_before refusals_after =
    (after ≡ option_map (gained text) before)
    ⊎ ((k : ℕ) × (after ≡ option_map (gained (take k text)) before) × (Rose faults_before faults_after ⊎ Rose refusals_before refusals_after))
