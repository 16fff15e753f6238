-- A text, from the pieces in which it was put.
use Rattle.std.proofs.Common.{◌≡◌, ℕ, List, [], ◌++◌, take, Ok, Err, refl, ap, ◌∙◌}
use Rattle.std.specs.Prelude.{Result, OnOk, OnErr}
use Rattle.std.specs.Option.{option_map}
use Rattle.std.proofs.lemmas.List.{append-nil}
use Rattle.vt_outside.specs.Counts.{Rose}
use Rattle.vt_outside.specs.Files.{gained}
use Rattle.vt_outside.specs.declared.answers.OutsideError.{OutsideError}
use Rattle.vt_outside.specs.declared.answers.OutsideError.TheVariants.{Failed}
use Rattle.vt_outside.specs.Effects.{SinkEffect}
use Rattle.vt_outside.specs.Expectations.{PutsText}
use Rattle.vt_outside.proofs.Writing.{fails_as}

-- the text of three pieces, of which each is known
pub three_pieces : (a b c x y z : List ℕ) → a ≡ x → b ≡ y → c ≡ z → a ++ (b ++ (c ++ [])) ≡ x ++ (y ++ z)
three_pieces a b c x y z p q r =
    ap (λ (t : List ℕ). a ++ (b ++ t)) (append-nil c)
    ∙ ap (λ (t : List ℕ). t ++ (b ++ c)) p
    ∙ ap (λ (t : List ℕ). x ++ (t ++ c)) q
    ∙ ap (λ (t : List ℕ). x ++ (y ++ t)) r

-- a text that was put
pub pieces_put : (given text : List ℕ) (g : SinkEffect) (r : Result (Unit {0}) OutsideError) → given ≡ text
    → OnOk r (g.after.held ≡ option_map (gained given) g.before.held)
    → OnErr r ((k : ℕ) × (g.after.held ≡ option_map (gained (take k given)) g.before.held))
    → (r ≡ Err Failed → Rose g.before.faults g.after.faults)
    → PutsText text g r
pieces_put given text g (Ok t) same whole part failed = whole ∙ ap (λ (t : List ℕ). option_map (gained t) g.before.held) same
pieces_put given text g (Err error) same whole part failed = (
  (part.0, part.1 ∙ ap (λ (t : List ℕ). option_map (gained (take part.0 t)) g.before.held) same),
  fails_as error (Err error) (Rose g.before.faults g.after.faults) refl failed,
)
