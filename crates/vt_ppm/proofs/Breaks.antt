-- A header is found field by field, and where a field breaks the header does.
use Rattle.std.proofs.Common.{◌≡◌, ◌⊎◌, inl, inr, ℕ, suc, ◌+◌, ◌<◌, ◌≤◌, Bool, true, false, List, [], ◌∷◌, ◌++◌, length, get_or, take, drop, refl, sym, ap, ◌∙◌, subst, arith, append_assoc, length-append, length-drop, codes}
use Rattle.std.specs.List.{list_all, prefix_len}
use Rattle.std.specs.Char.{is_ascii_digit}
use Rattle.std.proofs.Math.Seq.{take-add}
use Rattle.std.proofs.lemmas.List.{append_cancel_left, take-append-drop}
use Rattle.vt_ppm.specs.Format.{is_white, IsField}
use Rattle.vt_ppm.specs.Header.{IsFirstField, IsFieldAhead, IsBrokenField}
use Rattle.vt_ppm.proofs.Gaps.{AreSame, run_is_one, never_both}
use Rattle.vt_ppm.proofs.Headers.{IsWhiteFront, field_front, gap_of_field, digits_of_field, field_parts, white_is_no_digit, test_of_digits}
use Rattle.vt_ppm.proofs.Runs.{no_run}

-- a field, and then bytes of a kind
pub record IsFieldThen (K : List ℕ → Type 0) (b : List ℕ) : Type 0 where
  pub text : List ℕ
  pub rest : List ℕ
  pub value : ℕ
  pub spelt : b ≡ text ++ rest
  pub field : IsField text value
  pub next : K rest

-- the white space byte that ends a header
pub record IsSpace (b : List ℕ) : Type 0 where
  pub space : ℕ
  pub spelt : b ≡ space ∷ []
  pub white : is_white space ≡ true

-- bytes of a kind, and then others
pub record Begins (K : List ℕ → Type 0) (b : List ℕ) : Type 0 where
  pub text : List ℕ
  pub rest : List ℕ
  pub spelt : b ≡ text ++ rest
  pub next : K text

-- the bytes begin with none of a kind, and one byte is the first with which they begin none
pub record Breaks (K : List ℕ → Type 0) (b : List ℕ) (at : ℕ) : Type 0 where
  pub within : at ≤ length b
  pub none : Begins K b → ⊥
  pub rest : List ℕ
  pub front : K (take at b ++ rest)
  pub breaks : (at ≡ length b) ⊎ ((at < length b) × ((rest : List ℕ) → K (take (at + 1) b ++ rest) → ⊥))

-- a kind of which each begins with white space
abbrev pub AreSpaced : (List ℕ → Type 0) → Type 0
AreSpaced K = (xs : List ℕ) → K xs → IsWhiteFront xs

pub space_is_spaced : AreSpaced IsSpace
space_is_spaced xs s = record { first = s.space; rest = []; spelt = s.spelt; white = s.white }

pub then_is_spaced : (K : List ℕ → Type 0) → AreSpaced (IsFieldThen K)
then_is_spaced K xs t =
    let w : IsWhiteFront (t.text ++ t.rest) = field_front t.text t.rest t.value t.field in
    record { first = w.first; rest = w.rest; spelt = t.spelt ∙ w.spelt; white = w.white }

begins_is_spaced : (K : List ℕ → Type 0) → AreSpaced K → AreSpaced (Begins K)
begins_is_spaced K spaced xs g =
    let w : IsWhiteFront g.text = spaced g.text g.next in
    record { first = w.first; rest = w.rest ++ g.rest; spelt = g.spelt ∙ ap (λ ys. ys ++ g.rest) w.spelt; white = w.white }

-- a field before one of a spaced kind is before white space
then_is_ahead : (K : List ℕ → Type 0) (xs : List ℕ) → AreSpaced K → IsFieldThen K xs → IsFieldAhead xs
then_is_ahead K xs spaced t =
    let w : IsWhiteFront t.rest = spaced t.rest t.next in
    record {
      text = t.text;
      space = w.first;
      rest = w.rest;
      value = t.value;
      spelt = t.spelt ∙ ap (λ ys. t.text ++ ys) w.spelt;
      field = t.field;
      white = w.white;
    }

then_begins : (K : List ℕ → Type 0) (b : List ℕ) → Begins (IsFieldThen K) b → IsFieldThen (Begins K) b
then_begins K b g = record {
  text = g.next.text;
  rest = g.next.rest ++ g.rest;
  value = g.next.value;
  spelt = g.spelt ∙ ap (λ ys. ys ++ g.rest) g.next.spelt ∙ append_assoc g.next.text g.next.rest g.rest;
  field = g.next.field;
  next = record { text = g.next.rest; rest = g.rest; spelt = refl; next = g.next.next };
}

-- where no field and white space can be, no field and one of a spaced kind can
pub field_breaks : (K : List ℕ → Type 0) (b : List ℕ) (at : ℕ) (sample : List ℕ) → AreSpaced K → K sample → IsBrokenField b at → Breaks (IsFieldThen K) b at
field_breaks K b at sample spaced some broken = record {
  within = broken.within;
  none = λ g. broken.none (then_is_ahead (Begins K) b (begins_is_spaced K spaced) (then_begins K b g));
  rest = broken.front.rest ++ sample;
  front = record {
    text = take at b ++ broken.front.rest;
    rest = sample;
    value = broken.front.value;
    spelt = sym (append_assoc (take at b) broken.front.rest sample);
    field = broken.front.field;
    next = some;
  };
  breaks = elim broken.breaks [ inl end ↦ inl end | inr short ↦ inr (short.0, λ rest t. short.1 rest (then_is_ahead K (take (at + 1) b ++ rest) spaced t)) ];
}

-- fields before bytes that are no digits are one
field_before : (f g r s : List ℕ) (v u c d : ℕ) → IsField f v → IsField g u → is_ascii_digit c ≡ false → is_ascii_digit d ≡ false
    → f ++ (c ∷ r) ≡ g ++ (d ∷ s) → f ≡ g
field_before f g r s v u c d i j hc hd e =
    let digits : list_all is_ascii_digit j.digits ≡ true = test_of_digits j.digits j.is_number.numeral.1 in
    let parts : f ++ (c ∷ r) ≡ j.gap ++ (j.digits ++ (d ∷ s)) = e ∙ field_parts g (d ∷ s) u j in
    let gaps : i.gap ≡ j.gap = gap_of_field f (c ∷ r) j.gap j.digits (d ∷ s) v i j.is_gap j.is_number.numeral.0 digits parts in
    let rests : i.digits ++ (c ∷ r) ≡ j.digits ++ (d ∷ s) = digits_of_field f (c ∷ r) j.gap j.digits (d ∷ s) v i j.is_gap j.is_number.numeral.0 digits parts in
    let same : AreSame i.digits j.digits c d r s = run_is_one is_ascii_digit i.digits j.digits r s c d
    (test_of_digits i.digits i.is_number.numeral.1) digits hc hd rests in
    i.spelt ∙ ap (λ xs. xs ++ i.digits) gaps ∙ ap (λ xs. j.gap ++ xs) same.front ∙ sym j.spelt

-- bytes that do not begin with a digit, with a line end behind them
pub record IsDigitless (b : List ℕ) : Type 0 where
  pub first : ℕ
  pub rest : List ℕ
  pub spelt : b ++ (10 ∷ []) ≡ first ∷ rest
  pub no_digit : is_ascii_digit first ≡ false

digitless : (b : List ℕ) → prefix_len is_ascii_digit b ≡ 0 → IsDigitless b
digitless [] none = record { first = 10; rest = []; spelt = refl; no_digit = refl }
digitless (c ∷ cs) none = record { first = c; rest = cs ++ (10 ∷ []); spelt = refl; no_digit = step (is_ascii_digit c) refl }
  where
    step : (v : Bool) → is_ascii_digit c ≡ v → is_ascii_digit c ≡ false
    step true e = let f : prefix_len is_ascii_digit (c ∷ cs) ≡ 1 + prefix_len is_ascii_digit cs = rw e refl in absurd (omega arith)
    step false e = e

-- behind a field that no digit follows stands what follows the field in front
behind_field : (K : List ℕ → Type 0) (f xs : List ℕ) (v : ℕ) → AreSpaced K → IsField f v → prefix_len is_ascii_digit xs ≡ 0 → IsFieldThen K (f ++ xs) → K xs
behind_field K f xs v spaced i none t =
    let w : IsWhiteFront t.rest = spaced t.rest t.next in
    let d : IsDigitless xs = digitless xs none in
    let left : (f ++ xs) ++ (10 ∷ []) ≡ f ++ (d.first ∷ d.rest) = append_assoc f xs (10 ∷ []) ∙ ap (λ ys. f ++ ys) d.spelt in
    let right : (t.text ++ t.rest) ++ (10 ∷ []) ≡ t.text ++ (w.first ∷ (w.rest ++ (10 ∷ []))) = append_assoc t.text t.rest (10 ∷ [])
    ∙ ap (λ ys. t.text ++ (ys ++ (10 ∷ []))) w.spelt in
    let all : f ++ (d.first ∷ d.rest) ≡ t.text ++ (w.first ∷ (w.rest ++ (10 ∷ []))) = sym left ∙ ap (λ ys. ys ++ (10 ∷ [])) t.spelt ∙ right in
    let texts : f ≡ t.text = field_before f t.text d.rest (w.rest ++ (10 ∷ [])) v t.value d.first w.first i t.field d.no_digit
    (white_is_no_digit w.first w.white) all in
    let rests : xs ≡ t.rest = append_cancel_left f xs t.rest (t.spelt ∙ ap (λ ys. ys ++ t.rest) (sym texts)) in
    subst K (sym rests) t.next

no_digit_in_front : (xs ys : List ℕ) (at : ℕ) → at < length xs → prefix_len is_ascii_digit xs ≡ 0 → prefix_len is_ascii_digit (take (at + 1) xs ++ ys) ≡ 0
no_digit_in_front [] ys at within none = absurd (omega (arith, within))
no_digit_in_front (c ∷ cs) ys at within none =
    let d : IsDigitless (c ∷ cs) = digitless (c ∷ cs) none in
    let same : c ≡ d.first = cc d.spelt in
    let one : at + 1 ≡ suc at = omega arith in
    rw one (no_run is_ascii_digit c (take at cs ++ ys) (ap is_ascii_digit same ∙ d.no_digit))

-- where the bytes behind a field break, the whole does
pub rest_breaks : (K : List ℕ → Type 0) (b : List ℕ) (len value at : ℕ) → AreSpaced K → IsFirstField b len value → Breaks K (drop len b) at
    → Breaks (IsFieldThen K) b (len + at)
rest_breaks K b len value at spaced f broken = record {
  within = omega (arith, length-drop len b, f.within, broken.within);
  none = λ g. broken.none (behind_field (Begins K) (take len b) (drop len b) value (begins_is_spaced K spaced) f.field f.ended
      (subst (IsFieldThen (Begins K)) (sym (take-append-drop len b)) (then_begins K b g)));
  rest = broken.rest;
  front = record {
    text = take len b;
    rest = take at (drop len b) ++ broken.rest;
    value = value;
    spelt = parts at broken.rest;
    field = f.field;
    next = broken.front;
  };
  breaks = elim broken.breaks [
    | inl end ↦ inl (omega (arith, length-drop len b, f.within, end))
    | inr short ↦ inr (omega (arith, length-drop len b, f.within, short.0), λ rest t. short.1 rest (behind rest short.0 t))
  ];
}
  where
    parts : (n : ℕ) (rest : List ℕ) → take (len + n) b ++ rest ≡ take len b ++ (take n (drop len b) ++ rest)
    parts n rest = ap (λ ys. ys ++ rest) (take-add len n b) ∙ append_assoc (take len b) (take n (drop len b)) rest

    behind : (rest : List ℕ) → at < length (drop len b) → IsFieldThen K (take (len + at + 1) b ++ rest) → K (take (at + 1) (drop len b) ++ rest)
    behind rest within t =
        let plus : len + at + 1 ≡ len + (at + 1) = omega arith in
        behind_field K (take len b) (take (at + 1) (drop len b) ++ rest) value spaced f.field (no_digit_in_front (drop len b) rest at within f.ended)
        (subst (IsFieldThen K) (ap (λ n. take n b ++ rest) plus ∙ parts (at + 1) rest) t)

-- where no white space byte stands
pub space_breaks : (b : List ℕ) → (1 ≤ length b → is_white (get_or b 0 0) ≡ false) → Breaks IsSpace b 0
space_breaks [] black = record {
  within = omega arith;
  none = λ g. absurd (omega (arith, ap length g.spelt, length-append g.text g.rest, ap length g.next.spelt));
  rest = codes " ";
  front = record { space = 32; spelt = refl; white = refl };
  breaks = inl refl;
}
space_breaks (c ∷ cs) black = record {
  within = omega arith;
  none = λ g. clashes g.next.space cs g.rest (g.spelt ∙ ap (λ ys. ys ++ g.rest) g.next.spelt) g.next.white;
  rest = codes " ";
  front = record { space = 32; spelt = refl; white = refl };
  breaks = inr (omega arith, λ rest s. clashes s.space rest [] s.spelt s.white);
}
  where
    clashes : (d : ℕ) (xs ys : List ℕ) → c ∷ xs ≡ d ∷ ys → is_white d ≡ true → ⊥
    clashes d xs ys e white = let same : c ≡ d = cc in never_both (is_white c) (ap is_white same ∙ white) (black (omega arith))
