-- The field in front, and where none can be.
use Rattle.std.proofs.Common.{◌≡◌, ◌≢◌, ◌⊎◌, inl, inr, ℕ, zero, suc, ◌+◌, ◌<◌, ◌≤◌, true, false, List, [], ◌∷◌, ◌++◌, length, get_or, take, drop, refl, sym, ap, ◌∙◌, subst, arith, append_assoc, length-append, length-drop, codes}
use Rattle.std.specs.List.{list_all, prefix_len}
use Rattle.std.specs.Char.{is_ascii_digit}
use Rattle.std.specs.Str.Parse.{digits_value, AllDigits}
use Rattle.std.proofs.Math.Seq.{take-add}
use Rattle.std.proofs.lemmas.List.{append-nil, append_cancel_left, take-append-drop, take_all, take-take, take_more, drop-drop, get_or_at, get_or_append_left, length-take-le}
use Rattle.std.proofs.lemmas.Bool.{cases_lt}
use Rattle.std.proofs.lemmas.List.Sums.{prefix_len-le-length}
use Rattle.vt_ppm.specs.Format.{is_white, IsGap, IsField}
use Rattle.vt_ppm.specs.Header.{IsGapRun, IsFirstField, IsFieldFront, IsFieldAhead, IsBrokenField, IsFieldAt, IsBrokenFieldAt}
use Rattle.vt_ppm.proofs.Gaps.{gap_is_one, white_is_gap, passes_first, passes_rest, never_both}
use Rattle.vt_ppm.proofs.Headers.{IsWhiteFront, field_front, gap_of_field, digits_of_field, field_parts, digit_is_no_white, digit_is_no_hash, white_is_no_digit, digits_of_test, test_of_digits}
use Rattle.vt_ppm.proofs.Runs.{AllDigits-take, run_ended, run_stops, run_is_digits}

-- a byte in front
pub first_of_more : (b rest : List ℕ) (at : ℕ) → at < length b → take (at + 1) b ++ rest ≡ take at b ++ (get_or b at 0 ∷ rest)
first_of_more b rest at within = ap (λ xs. xs ++ rest) (take_more b at 0 within) ∙ append_assoc (take at b) (get_or b at 0 ∷ []) rest

-- a field of a gap and digits
pub field_of : (g ds : List ℕ) → IsGap g → 1 ≤ length ds → length ds ≤ 10 → list_all is_ascii_digit ds ≡ true → IsField (g ++ ds) (digits_value 10 ds)
field_of g ds gap some few all = record {
  gap = g;
  digits = ds;
  spelt = refl;
  is_gap = gap;
  is_number = record { numeral = (some, digits_of_test ds all); few = few; value_is = refl };
}

-- a gap begins a field
gap_begins : (g : List ℕ) → IsGap g → IsFieldFront g
gap_begins g gap = record { rest = codes "1"; value = digits_value 10 (codes "1"); field = field_of g (codes "1") gap (omega arith) (omega arith) refl }

-- where the bytes go on, no field and white space are in front only if they can be behind one byte more
broken_by : (b : List ℕ) (at : ℕ) → at < length b → IsFieldFront (take at b) → ((rest : List ℕ) → IsFieldAhead (take (at + 1) b ++ rest) → ⊥)
    → IsBrokenField b at
broken_by b at within front never = record {
  within = omega arith;
  none = λ ahead. never (drop (at + 1) b) (subst IsFieldAhead (sym (take-append-drop (at + 1) b)) ahead);
  front = front;
  breaks = inr (within, never);
}

-- what begins with a field begins with white space
ahead_is_white : (b : List ℕ) (c : ℕ) (rest : List ℕ) → IsFieldAhead b → b ≡ c ∷ rest → is_white c ≡ true
ahead_is_white b c rest ahead e =
    let w : IsWhiteFront (ahead.text ++ (ahead.space ∷ ahead.rest)) = field_front ahead.text (ahead.space ∷ ahead.rest) ahead.value ahead.field in
    let same : c ∷ rest ≡ w.first ∷ w.rest = sym e ∙ ahead.spelt ∙ w.spelt in
    let first : c ≡ w.first = cc same in
    ap is_white first ∙ w.white

-- no bytes begin a field
nothing_begins : IsFieldFront []
nothing_begins = record {
  rest = codes " 1";
  value = digits_value 10 (codes "1");
  field = field_of (codes " ") (codes "1") (white_is_gap 32 refl) (omega arith) (omega arith) refl;
}

-- no white space in front
no_gap : (b : List ℕ) → prefix_len is_white b ≡ 0 → IsBrokenField b 0
no_gap [] none = record {
  within = omega arith;
  none = λ ahead. absurd (omega (arith, ap length ahead.spelt, length-append ahead.text (ahead.space ∷ ahead.rest)));
  front = nothing_begins;
  breaks = inl refl;
}
no_gap (c ∷ cs) none = broken_by (c ∷ cs) 0 (omega arith) nothing_begins
    (λ rest ahead. black none (ahead_is_white (c ∷ rest) c rest ahead refl))
  where
    black : prefix_len is_white (c ∷ cs) ≡ 0 → is_white c ≡ true → ⊥
    black e white = let f : prefix_len is_white (c ∷ cs) ≡ 1 + prefix_len is_white cs = rw white refl in omega arith

-- the bytes end in a gap
gap_to_end : (b : List ℕ) → IsGap (b ++ (10 ∷ [])) → IsBrokenField b (length b)
gap_to_end b gap = record {
  within = omega arith;
  none = λ ahead. never ahead;
  front = subst IsFieldFront (sym (take_all (length b) b (omega arith))) (record {
    rest = 10 ∷ codes "1";
    value = digits_value 10 (codes "1");
    field = subst (λ xs. IsField xs (digits_value 10 (codes "1"))) (append_assoc b (10 ∷ []) (codes "1"))
        (field_of (b ++ (10 ∷ [])) (codes "1") gap (omega arith) (omega arith) refl);
  });
  breaks = inl refl;
}
  where
    never : IsFieldAhead b → ⊥
    never ahead =
        let x : List ℕ = (ahead.space ∷ ahead.rest) ++ (10 ∷ codes "1") in
        let e : ahead.text ++ x ≡ (b ++ (10 ∷ [])) ++ (codes "1" ++ []) =
        sym (append_assoc ahead.text (ahead.space ∷ ahead.rest) (10 ∷ codes "1")) ∙ ap (λ xs. xs ++ (10 ∷ codes "1")) (sym ahead.spelt)
        ∙ sym (append_assoc b (10 ∷ []) (codes "1")) in
        let same : ahead.field.gap ≡ b ++ (10 ∷ []) = gap_of_field ahead.text x (b ++ (10 ∷ [])) (codes "1") [] ahead.value ahead.field gap
        (omega arith) refl e in
        let long : length b ≡ length ahead.text + suc (length ahead.rest) = ap length ahead.spelt ∙ length-append ahead.text (ahead.space ∷ ahead.rest) in
        let text : length ahead.text ≡ length ahead.field.gap + length ahead.field.digits = ap length ahead.field.spelt
        ∙ length-append ahead.field.gap ahead.field.digits in
        let more : length ahead.field.gap ≡ length b + 1 = ap length same ∙ length-append b (10 ∷ []) in
        omega arith

-- a byte after a gap that neither goes on with it nor is a digit
no_digit : (b : List ℕ) (at : ℕ) → at < length b → IsGap (take at b) → is_white (get_or b at 0) ≡ false → (get_or b at 0 ≡ 35 → ⊥)
    → is_ascii_digit (get_or b at 0) ≡ false → IsBrokenField b at
no_digit b at within gap no_white no_hash black = broken_by b at within (gap_begins (take at b) gap) never
  where
    apart : (f : List ℕ) (v : ℕ) (x rest : List ℕ) (i : IsField f v) (ds : List ℕ) → ds ≡ i.digits → f ++ x ≡ take at b ++ (get_or b at 0 ∷ rest) → ⊥
    apart f v x rest i [] eds e = omega (arith, ap length eds, i.is_number.numeral.0)
    apart f v x rest i (d ∷ ds) eds e =
        let digits : list_all is_ascii_digit (d ∷ ds) ≡ true = ap (list_all is_ascii_digit) eds ∙ test_of_digits i.digits i.is_number.numeral.1 in
        let digit : is_ascii_digit d ≡ true = passes_first is_ascii_digit d ds digits in
        let parts : i.gap ++ (d ∷ (ds ++ x)) ≡ take at b ++ (get_or b at 0 ∷ rest) = ap (λ xs. i.gap ++ (xs ++ x)) eds ∙ sym (field_parts f x v i) ∙ e in
        let gaps : i.gap ≡ take at b = gap_is_one i.gap (take at b) (ds ++ x) rest d (get_or b at 0) i.is_gap gap (digit_is_no_white d digit)
        (digit_is_no_hash d digit) no_white no_hash parts in
        let tails : d ∷ (ds ++ x) ≡ get_or b at 0 ∷ rest = append_cancel_left (take at b) (d ∷ (ds ++ x)) (get_or b at 0 ∷ rest)
        (ap (λ xs. xs ++ (d ∷ (ds ++ x))) (sym gaps) ∙ parts) in
        let same : d ≡ get_or b at 0 = cc tails in
        never_both (is_ascii_digit d) digit (ap is_ascii_digit same ∙ black)

    never : (rest : List ℕ) → IsFieldAhead (take (at + 1) b ++ rest) → ⊥
    never rest ahead = apart ahead.text ahead.value (ahead.space ∷ ahead.rest) rest ahead.field ahead.field.digits refl
        (sym ahead.spelt ∙ first_of_more b rest at within)

-- an element of elements that pass
passes_at : (ds : List ℕ) (k : ℕ) → k < length ds → list_all is_ascii_digit ds ≡ true → is_ascii_digit (get_or ds k 0) ≡ true
passes_at [] k within all = absurd (omega (arith, within))
passes_at (d ∷ ds) zero within all = passes_first is_ascii_digit d ds all
passes_at (d ∷ ds) (suc k) within all = passes_at ds k (omega (arith, within)) (passes_rest is_ascii_digit d ds all)

-- the first digits of a run
passes_take : (n : ℕ) (xs : List ℕ) (count : ℕ) → count ≡ prefix_len is_ascii_digit xs → n ≤ count → list_all is_ascii_digit (take n xs) ≡ true
passes_take n xs count ec few =
    let all : AllDigits 10 (take count xs) = run_is_digits xs count ec in
    ap (list_all is_ascii_digit) (sym (take-take n count xs few)) ∙ test_of_digits (take n (take count xs)) (AllDigits-take (take count xs) n all)

-- a digit too many
eleven : (g ds rest : List ℕ) → IsGap g → length ds ≡ 11 → list_all is_ascii_digit ds ≡ true → IsFieldAhead (g ++ (ds ++ rest)) → ⊥
eleven g ds rest gap len all ahead =
    let e : ahead.field.digits ++ (ahead.space ∷ ahead.rest) ≡ ds ++ rest =
    digits_of_field ahead.text (ahead.space ∷ ahead.rest) g ds rest ahead.value ahead.field gap (omega arith) all (sym ahead.spelt) in
    let k : ℕ = length ahead.field.digits in
    let few : k ≤ 10 = ahead.field.is_number.few in
    let left : get_or (ahead.field.digits ++ (ahead.space ∷ ahead.rest)) k 0 ≡ ahead.space = get_or_at ahead.field.digits ahead.space ahead.rest 0 k refl in
    let right : get_or (ds ++ rest) k 0 ≡ get_or ds k 0 = get_or_append_left ds rest 0 k (omega arith) in
    let same : ahead.space ≡ get_or ds k 0 = sym left ∙ ap (λ xs. get_or xs k 0) e ∙ right in
    never_both (is_ascii_digit ahead.space) (ap is_ascii_digit same ∙ passes_at ds k (omega arith) all) (white_is_no_digit ahead.space ahead.white)

many_digits : (b : List ℕ) (g count : ℕ) → IsGap (take g b) → count ≡ prefix_len is_ascii_digit (drop g b) → 10 < count → IsBrokenField b (g + 10)
many_digits b g count gap ec many =
    let x : List ℕ = drop g b in
    let within : count ≤ length x = omega (arith, ec, prefix_len-le-length is_ascii_digit x) in
    let long : g + 10 < length b = omega (arith, length-drop g b) in
    let ten : length (take 10 x) ≡ 10 = length-take-le 10 x (omega arith) in
    let last : length (take 11 x) ≡ 11 = length-take-le 11 x (omega arith) in
    let front : IsFieldFront (take (g + 10) b) = subst IsFieldFront (sym (take-add g 10 b)) (record {
      rest = [];
      value = digits_value 10 (take 10 x);
      field = subst (λ xs. IsField xs (digits_value 10 (take 10 x))) (sym (append-nil (take g b ++ take 10 x)))
          (field_of (take g b) (take 10 x) gap (omega arith) (omega arith) (passes_take 10 x count ec (omega arith)));
    }) in
    let plus : g + 10 + 1 ≡ g + 11 = omega arith in
    let parts : take (g + 10 + 1) b ≡ take g b ++ take 11 x = ap (λ n. take n b) plus ∙ take-add g 11 b in
    broken_by b (g + 10) long front
    (λ rest ahead. eleven (take g b) (take 11 x) rest gap last (passes_take 11 x count ec (omega arith))
    (subst IsFieldAhead (ap (λ xs. xs ++ rest) parts ∙ append_assoc (take g b) (take 11 x) rest) ahead))

-- the field that a gap and digits make
made_field : (b : List ℕ) (g count value : ℕ) → IsGap (take g b) → g ≤ length b → count ≡ prefix_len is_ascii_digit (drop g b) → 1 ≤ count
    → count ≤ 10 → value ≡ digits_value 10 (take count (drop g b)) → IsFirstField b (g + count) value
made_field b g count value gap inside ec some few ev =
    let within : count ≤ length (drop g b) = omega (arith, ec, prefix_len-le-length is_ascii_digit (drop g b)) in
    let len : length (take count (drop g b)) ≡ count = length-take-le count (drop g b) within in
    let field : IsField (take g b ++ take count (drop g b)) (digits_value 10 (take count (drop g b))) =
    field_of (take g b) (take count (drop g b)) gap (omega arith) (omega arith) (passes_take count (drop g b) count ec (omega arith)) in
    record {
      within = omega (arith, length-drop g b);
      field = subst (λ v. IsField (take (g + count) b) v) (sym ev) (subst (λ xs. IsField xs (digits_value 10 (take count (drop g b))))
          (sym (take-add g count b)) field);
      ended = ap (prefix_len is_ascii_digit) (sym (drop-drop count g b)) ∙ ap (λ n. prefix_len is_ascii_digit (drop n (drop g b))) ec
          ∙ run_ended is_ascii_digit (drop g b);
    }

-- where the gap or the digits are missing
no_field_after : (b : List ℕ) (g count : ℕ) → 1 ≤ g → IsGapRun b g → count ≡ prefix_len is_ascii_digit (drop g b) → count ≡ 0
    → (g < length b) ⊎ (length b ≤ g) → IsBrokenField b g
no_field_after b g count some run ec none (inl within) =
    no_digit b g within (run.front.gap some within) (run.front.no_white some within) (λ e. run.no_remark some (within, e))
    (ap (λ i. is_ascii_digit (get_or b i 0)) (omega arith) ∙ run_stops is_ascii_digit b g 0 (sym none ∙ ec) (omega arith))
no_field_after b g count some run ec none (inr past) =
    let end : length b ≡ g = omega (arith, run.front.within) in
    subst (IsBrokenField b) end (gap_to_end b (run.front.whole some (sym end)))

no_field : (b : List ℕ) (g count : ℕ) → IsGapRun b g → count ≡ prefix_len is_ascii_digit (drop g b) → (g ≡ 0) ⊎ (count ≡ 0) → IsBrokenField b g
no_field b zero count run ec bad = no_gap b (run.front.none refl)
no_field b (suc g) count run ec (inl none) = absurd (omega (arith, none))
no_field b (suc g) count run ec (inr none) = no_field_after b (suc g) count (omega arith) run ec none (cases_lt (suc g) (length b))

-- the same from a place on, where the rests are known by equations
module _ (b rest after : List ℕ) (from gap count : ℕ) (inside : from ≤ length b) (er : rest ≡ drop from b) (run : IsGapRun rest gap)
    (ea : after ≡ drop gap rest) (ec : count ≡ prefix_len is_ascii_digit after) where
  digits_run : count ≡ prefix_len is_ascii_digit (drop gap rest)
  digits_run = ec ∙ ap (prefix_len is_ascii_digit) ea

  rest_len : length rest + from ≡ length b
  rest_len = omega (arith, ap length er, length-drop from b)

  digits_within : 1 ≤ count → gap < length rest
  digits_within some = omega (arith, digits_run, prefix_len-le-length is_ascii_digit (drop gap rest), length-drop gap rest)

  broken_from : (k : ℕ) → IsBrokenField rest k → IsBrokenFieldAt b from (from + k)
  broken_from k broken = record { len = k; at_is = refl; within = omega (arith, rest_len, broken.within); broken = subst (λ xs. IsBrokenField xs k) er broken }

  pub no_field_at : (gap ≡ 0) ⊎ (count ≡ 0) → IsBrokenFieldAt b from (from + gap)
  no_field_at bad = broken_from gap (no_field rest gap count run digits_run bad)

  pub many_digits_at : gap ≢ 0 → 10 < count → IsBrokenFieldAt b from (from + gap + 10)
  many_digits_at some many =
      let front : IsGap (take gap rest) = run.front.gap (omega arith) (digits_within (omega arith)) in
      subst (IsBrokenFieldAt b from) (omega arith) (broken_from (gap + 10) (many_digits rest gap count front digits_run many))

  pub field_made_at : (value : ℕ) → gap ≢ 0 → count ≢ 0 → count ≤ 10 → value ≡ digits_value 10 (take count after) → IsFieldAt b from (from + gap + count) value
  field_made_at value some digits few ev =
      let within : gap < length rest = digits_within (omega arith) in
      let front : IsGap (take gap rest) = run.front.gap (omega arith) within in
      let field : IsFirstField rest (gap + count) value = made_field rest gap count value front (omega arith) digits_run (omega arith) few
      (ev ∙ ap (λ xs. digits_value 10 (take count xs)) ea) in
      record {
        len = gap + count;
        end_is = omega arith;
        within = omega (arith, rest_len, field.within);
        field = subst (λ xs. IsFirstField xs (gap + count) value) er field;
      }
