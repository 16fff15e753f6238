-- The buffers of requests.
use Rattle.std.specs.Prelude.{◌≡◌, ℕ, List, length, All}
use Rattle.vt_outside.specs.Lists.{ListView}

-- all of these buffers have one size
abbrev pub AreSized : ℕ → List (ListView ℕ) → Type 0
AreSized size buffers = All (λ b. length b.elements ≡ size) buffers
