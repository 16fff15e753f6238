-- Lists that begin with one another.
use Rattle.std.proofs.Common.{◌≡◌, ◌++◌, ◌∷◌, [], ℕ, List, ap, ◌∙◌, append_assoc}
use Rattle.std.proofs.lemmas.List.{append-nil}
use Rattle.vt_text.specs.Limits.{blank}
use Rattle.vt_journal.specs.JournalText.{behind_blanks}
use Rattle.vt_journal.specs.Fronts.{IsFrontOf}

-- a front of a front
pub front_of_front : (front middle whole : List ℕ) → IsFrontOf front middle → IsFrontOf middle whole → IsFrontOf front whole
front_of_front front middle whole first then = record {
  rest = first.rest ++ then.rest;
  is = then.is ∙ ap (λ l. l ++ then.rest) first.is ∙ append_assoc front first.rest then.rest;
}

-- three steps
pub front_of_three : (first second third last : List ℕ) → IsFrontOf first second → IsFrontOf second third → IsFrontOf third last → IsFrontOf first last
front_of_three first second third last a b c = front_of_front first second last a (front_of_front second third last b c)

-- three fields, one after the other
pub three_fields : (old one two a b c : List ℕ) → one ≡ old ++ blank ∷ a → two ≡ one ++ blank ∷ b
    → two ++ blank ∷ c ≡ old ++ behind_blanks (a ∷ b ∷ c ∷ [])
three_fields old one two a b c first second = ap (λ t. t ++ blank ∷ c) (second ∙ ap (λ t. t ++ blank ∷ b) first) ∙ simp (append_assoc, append-nil)

five_parts : (old a b c d e : List ℕ) → ((old ++ a) ++ (b ++ (c ++ (d ++ [])))) ++ e ≡ old ++ (a ++ (b ++ (c ++ (d ++ (e ++ [])))))
five_parts old a b c d e = simp (append_assoc, append-nil)

-- a field, three others and one more
pub five_fields : (old one two a b c d e : List ℕ) → one ≡ old ++ blank ∷ a → two ≡ one ++ behind_blanks (b ∷ c ∷ d ∷ [])
    → two ++ blank ∷ e ≡ old ++ behind_blanks (a ∷ b ∷ c ∷ d ∷ e ∷ [])
five_fields old one two a b c d e first second =
    ap (λ t. t ++ blank ∷ e) (second ∙ ap (λ t. t ++ behind_blanks (b ∷ c ∷ d ∷ [])) first)
    ∙ five_parts old (blank ∷ a) (blank ∷ b) (blank ∷ c) (blank ∷ d) (blank ∷ e)
