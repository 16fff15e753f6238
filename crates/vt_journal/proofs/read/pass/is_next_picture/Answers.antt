use Rattle.std.proofs.Common.{◌≡◌, ℕ, ◌+◌, Bool, true, false, eqb, inl, inr, refl, arith, MatchBool}
use borrow.Author.Tests.{eqb-true, eqb-false}
use Rattle.vt_journal.specs.JournalFlaws.{IsNextPicture}
use Rattle.vt_journal.proofs.read.pass.is_next_picture.Goals as goal

at_first : (passes before picture : ℕ) (b : Bool) → eqb picture 0 ≡ b → passes ≡ 0
    → MatchBool b (IsNextPicture passes before picture) (IsNextPicture passes before picture → ⊥)
at_first passes before picture true e none = record { first = λ _. eqb-true picture 0 e; later = λ some. absurd (omega (arith, none, some)) }
at_first passes before picture false e none = λ h. eqb-false picture 0 e (h.first none)

at_same : (passes before picture : ℕ) (b : Bool) → eqb picture before ≡ b → picture ≡ before → (passes ≡ 0 → ⊥)
    → MatchBool b (IsNextPicture passes before picture) (IsNextPicture passes before picture → ⊥)
at_same passes before picture true e same some = record { first = λ none. absurd (some none); later = λ _. inl same }
at_same passes before picture false e same some = λ h. eqb-false picture before e same

at_other : (passes before picture x y : ℕ) (b : Bool) → eqb x (y + 1) ≡ b → x ≡ picture → y ≡ before → (passes ≡ 0 → ⊥) → (picture ≡ before → ⊥)
    → MatchBool b (IsNextPicture passes before picture) (IsNextPicture passes before picture → ⊥)
at_other passes before picture x y true e p q some other = record {
  first = λ none. absurd (some none);
  later = λ _. inr (let h = eqb-true x (y + 1) e in omega (arith, h, p, q));
}
at_other passes before picture x y false e p q some other = λ h. elim (h.later (omega (arith, some))) [
  | inl same ↦ other same
  | inr next ↦ eqb-false x (y + 1) e (omega (arith, next, p, q))
]

pub returns-then-passes-eq0 : goal.returns-then-passes-eq0
returns-then-passes-eq0 c = at_first c.args.passes c.args.before c.args.picture _ refl c.if-passes-eq0.true

pub returns-then-picture-before : goal.returns-then-picture-before
returns-then-picture-before c = at_same c.args.passes c.args.before c.args.picture _ refl c.if-picture-before.true c.if-passes-eq0.false

pub returns-else-picture-before : goal.returns-else-picture-before
returns-else-picture-before c = at_other c.args.passes c.args.before c.args.picture c.from.result c.from-else-picture-before.result _ refl
    c.from.ensures c.from-else-picture-before.ensures c.if-passes-eq0.false c.if-picture-before.false
