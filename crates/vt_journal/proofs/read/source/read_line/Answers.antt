use Rattle.std.proofs.Common.{◌≡◌, ℕ, ◌-◌, List, [], ◌∷◌, length, take, drop, get_or, Option, None, sym, subst, refl, ap, ◌∙◌, arith, MatchOption}
use Rattle.vt_text.specs.Lines.{lines_of}
use Rattle.vt_pages.specs.Shape.{Shape}
use Rattle.vt_journal.specs.declared.lines.Line.{Line}
use Rattle.vt_journal.specs.JournalReading.{Says, IsNoLine}
use Rattle.vt_journal.proofs.read.source.read_line.Goals as goal

last_line : (s : Shape) (text : List ℕ) (at : ℕ) (part : List ℕ) → lines_of (drop at text) ≡ part ∷ [] → IsNoLine s text at
last_line s text at part cut line bytes next rest e says = absurd (let h = ap length (sym cut ∙ e) in omega (arith, h))

unsaid : (s : Shape) (text : List ℕ) (at : ℕ) (part : List ℕ) (others : List (List ℕ)) → lines_of (drop at text) ≡ part ∷ others
    → ((l : Line) → Says s part l → ⊥) → IsNoLine s text at
unsaid s text at part others cut none line bytes next rest e says =
    none line (subst (λ (b : List ℕ). Says s b line) (ap (λ (l : List (List ℕ)). get_or l 0 []) (sym e ∙ cut)) says)

none_spelled : {X : Type 0} (A : Type 0) (B : X → Type 0) (o : Option X) → o ≡ None → A → MatchOption o A B
none_spelled A B o e a = subst (λ r. MatchOption r A B) (sym e) a

pub returns : goal.returns
returns c = let place = c.in_ok-end.ensures.place in let q = c.requires.few in record {
  bytes = take (c.in_ok-end.end - c.args.cursor.at) (drop c.args.cursor.at c.args.source.now.text.now);
  says = c.in_ok-line.ensures;
  cut = c.in_ok-end.ensures.line;
  number_is = refl;
  forward = (let a = place.0 in omega (arith, a));
  cursor = record { within = (let b = place.1 in omega (arith, b)); few = (let a = place.0 in omega (arith, a, q)) };
}

pub returns-in_err-end : goal.returns-in_err-end
returns-in_err-end c = none_spelled _ _ _ c.from_residual.ensures
    (last_line c.args.source.now.geometry.now c.args.source.now.text.now c.args.cursor.at _ c.in_err-end.ensures.line)

pub returns-in_err-line : goal.returns-in_err-line
returns-in_err-line c = none_spelled _ _ _ c.from_residual-in_err-line.ensures
    (unsaid c.args.source.now.geometry.now c.args.source.now.text.now c.args.cursor.at _ _ c.in_ok-end.ensures.line c.in_err-line.ensures)
