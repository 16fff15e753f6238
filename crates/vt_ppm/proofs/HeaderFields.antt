-- A header is three fields and a white space byte behind `P6`.
use Rattle.std.proofs.Common.{◌≡◌, ◌⊎◌, inl, inr, ℕ, ◌+◌, ◌<◌, ◌≤◌, true, false, List, [], ◌∷◌, ◌++◌, length, get_or, take, drop, refl, sym, ap, ◌∙◌, subst, arith, length-drop, length-take, codes}
use Rattle.std.specs.Str.Parse.{digits_value}
use Rattle.std.proofs.Math.Seq.{take-add}
use Rattle.std.proofs.lemmas.List.{append_cancel_left, take-append-drop, drop-drop, drop_more, get_or-drop}
use Rattle.vt_ppm.specs.Format.{is_white, IsHeader, HasHeader}
use Rattle.vt_ppm.specs.Flaws.{IsHeaderFront, IsBrokenAt}
use Rattle.vt_ppm.specs.Header.{IsFieldAt, IsBrokenFieldAt, IsFirstHeader}
use Rattle.vt_ppm.proofs.Gaps.{white_is_gap}
use Rattle.vt_ppm.proofs.Fields.{field_of}
use Rattle.vt_ppm.proofs.Breaks.{IsFieldThen, IsSpace, Begins, Breaks, AreSpaced, space_is_spaced, then_is_spaced, field_breaks, rest_breaks, space_breaks}

-- what is behind the second field, behind the first one, and behind `P6`
abbrev pub IsLast : List ℕ → Type 0
IsLast = IsFieldThen IsSpace

abbrev pub AreTwo : List ℕ → Type 0
AreTwo = IsFieldThen IsLast

abbrev pub AreThree : List ℕ → Type 0
AreThree = IsFieldThen AreTwo

-- one more field in front
and_field : (K : List ℕ → Type 0) (rest : List ℕ) → K rest → IsFieldThen K (codes " 1" ++ rest)
and_field K rest next = record {
  text = codes " 1";
  rest = rest;
  value = digits_value 10 (codes "1");
  spelt = refl;
  field = field_of (codes " ") (codes "1") (white_is_gap 32 refl) (omega arith) (omega arith) refl;
  next = next;
}

one_space : IsSpace (codes " ")
one_space = record { space = 32; spelt = refl; white = refl }

-- three fields and a space behind `P6` are a header
header_of : (xs : List ℕ) (t : AreThree xs) → IsHeader (codes "P6" ++ xs) t.value t.next.value t.next.next.value
header_of xs t = record {
  first = t.text;
  second = t.next.text;
  third = t.next.next.text;
  space = t.next.next.next.space;
  spelt = ap (λ ys. codes "P6" ++ ys) (t.spelt ∙ ap (λ ys. t.text ++ ys)
      (t.next.spelt ∙ ap (λ ys. t.next.text ++ ys) (t.next.next.spelt ∙ ap (λ ys. t.next.next.text ++ ys) t.next.next.next.spelt)));
  width_field = t.field;
  height_field = t.next.field;
  maximum_field = t.next.next.field;
  white = t.next.next.next.white;
}

-- and the other way
fields_of : (xs text : List ℕ) (w h m : ℕ) (i : IsHeader text w h m) → xs ≡ i.first ++ (i.second ++ (i.third ++ (i.space ∷ []))) → AreThree xs
fields_of xs text w h m i e = record {
  text = i.first;
  rest = i.second ++ (i.third ++ (i.space ∷ []));
  value = w;
  spelt = e;
  field = i.width_field;
  next = record {
    text = i.second;
    rest = i.third ++ (i.space ∷ []);
    value = h;
    spelt = refl;
    field = i.height_field;
    next = record {
      text = i.third;
      rest = i.space ∷ [];
      value = m;
      spelt = refl;
      field = i.maximum_field;
      next = record { space = i.space; spelt = refl; white = i.white };
    };
  };
}

-- from a place on the bytes begin with none of a kind, and one byte is the first with which they begin none
pub record BreaksFrom (K : List ℕ → Type 0) (b : List ℕ) (from at : ℕ) : Type 0 where
  pub len : ℕ
  pub at_is : at ≡ from + len
  pub breaks : Breaks K (drop from b) len

field_breaks_from : (K : List ℕ → Type 0) (b : List ℕ) (from at : ℕ) (sample : List ℕ) → AreSpaced K → K sample → IsBrokenFieldAt b from at
    → BreaksFrom (IsFieldThen K) b from at
field_breaks_from K b from at sample spaced some broken = record {
  len = broken.len;
  at_is = broken.at_is;
  breaks = field_breaks K (drop from b) broken.len sample spaced some broken.broken;
}

rest_breaks_from : (K : List ℕ → Type 0) (b : List ℕ) (from end value at : ℕ) → AreSpaced K → IsFieldAt b from end value → BreaksFrom K b end at
    → BreaksFrom (IsFieldThen K) b from at
rest_breaks_from K b from end value at spaced f broken =
    let rests : drop end b ≡ drop f.len (drop from b) = ap (λ n. drop n b) f.end_is ∙ sym (drop-drop f.len from b) in
    record {
      len = f.len + broken.len;
      at_is = omega (arith, f.end_is, broken.at_is);
      breaks = rest_breaks K (drop from b) f.len value broken.len spaced f.field (subst (λ xs. Breaks K xs broken.len) rests broken.breaks);
    }

space_breaks_from : (b : List ℕ) (end : ℕ) → end ≤ length b → (end ≡ length b) ⊎ (is_white (get_or b end 0) ≡ false) → BreaksFrom IsSpace b end end
space_breaks_from b end within bad = record {
  len = 0;
  at_is = omega arith;
  breaks = space_breaks (drop end b) (λ some. elim bad [
    | inl past ↦ absurd (omega (arith, length-drop end b, some, past))
    | inr black ↦ ap is_white (get_or-drop end b 0 0 ∙ ap (λ n. get_or b n 0) (omega arith)) ∙ black
  ]);
}

-- where the fields behind `P6` break, the header does
module _ (b : List ℕ) (few : length b ≤ 65536) (magic : take 2 b ≡ codes "P6") where
  split : (n : ℕ) → take (2 + n) b ≡ codes "P6" ++ take n (drop 2 b)
  split n = take-add 2 n b ∙ ap (λ xs. xs ++ take n (drop 2 b)) magic

  two : 2 ≤ length b
  two = omega (arith, length-take 2 b, ap length magic)

  no_header : (Begins AreThree (drop 2 b) → ⊥) → (raster w h m : ℕ) → HasHeader b raster w h m → ⊥
  no_header never raster w h m has =
      let text : List ℕ = has.header.first ++ (has.header.second ++ (has.header.third ++ (has.header.space ∷ []))) in
      let whole : codes "P6" ++ drop 2 b ≡ codes "P6" ++ (text ++ drop raster b) =
      ap (λ xs. xs ++ drop 2 b) (sym magic) ∙ take-append-drop 2 b ∙ sym (take-append-drop raster b) ∙ ap (λ xs. xs ++ drop raster b) has.header.spelt in
      never (record {
        text = text;
        rest = drop raster b;
        spelt = append_cancel_left (codes "P6") (drop 2 b) (text ++ drop raster b) whole;
        next = fields_of text (take raster b) w h m has.header refl;
      })

  front_of : (n : ℕ) (rest : List ℕ) → AreThree (take n (drop 2 b) ++ rest) → IsHeaderFront (take (2 + n) b)
  front_of n rest t = record {
    rest = rest;
    width = t.value;
    height = t.next.value;
    maximum = t.next.next.value;
    header = subst (λ xs. IsHeader xs t.value t.next.value t.next.next.value) (ap (λ xs. xs ++ rest) (sym (split n))) (header_of (take n (drop 2 b) ++ rest) t);
  }

  no_front : (n : ℕ) → ((rest : List ℕ) → AreThree (take n (drop 2 b) ++ rest) → ⊥) → IsHeaderFront (take (2 + n) b) → ⊥
  no_front n never f =
      let whole : codes "P6" ++ (take n (drop 2 b) ++ f.rest) ≡ codes "P6" ++
      (f.header.first ++ (f.header.second ++ (f.header.third ++ (f.header.space ∷ [])))) =
      ap (λ xs. xs ++ f.rest) (sym (split n)) ∙ f.header.spelt in
      never f.rest (fields_of (take n (drop 2 b) ++ f.rest) (take (2 + n) b ++ f.rest) f.width f.height f.maximum f.header
      (append_cancel_left (codes "P6") (take n (drop 2 b) ++ f.rest) (f.header.first ++ (f.header.second ++ (f.header.third ++ (f.header.space ∷ [])))) whole))

  header_breaks : (at : ℕ) → BreaksFrom AreThree b 2 at → IsBrokenAt b at
  header_breaks at broken = subst (IsBrokenAt b) (sym broken.at_is) (record {
    none = no_header broken.breaks.none;
    front = front_of broken.len broken.breaks.rest broken.breaks.front;
    breaks = elim broken.breaks.breaks [
      | inl end ↦ inl (omega (arith, end, length-drop 2 b, two, few))
      | inr short ↦ inr (
        omega (arith, short.0, length-drop 2 b, two, few),
        λ f. no_front (broken.len + 1) short.1
            (subst (λ n. IsHeaderFront (take n b)) (omega arith) f),
      )
    ];
  })

  pub width_breaks : (at : ℕ) → IsBrokenFieldAt b 2 at → IsBrokenAt b at
  width_breaks at broken = header_breaks at (field_breaks_from AreTwo b 2 at (codes " 1" ++ (codes " 1" ++ codes " ")) (then_is_spaced IsLast)
      (and_field IsLast (codes " 1" ++ codes " ") (and_field IsSpace (codes " ") one_space)) broken)

  module _ (e1 w : ℕ) (f1 : IsFieldAt b 2 e1 w) where
    pub height_breaks : (at : ℕ) → IsBrokenFieldAt b e1 at → IsBrokenAt b at
    height_breaks at broken = header_breaks at (rest_breaks_from AreTwo b 2 e1 w at (then_is_spaced IsLast) f1
        (field_breaks_from IsLast b e1 at (codes " 1" ++ codes " ") (then_is_spaced IsSpace) (and_field IsSpace (codes " ") one_space) broken))

    module _ (e2 h : ℕ) (f2 : IsFieldAt b e1 e2 h) where
      pub maximum_breaks : (at : ℕ) → IsBrokenFieldAt b e2 at → IsBrokenAt b at
      maximum_breaks at broken = header_breaks at (rest_breaks_from AreTwo b 2 e1 w at (then_is_spaced IsLast) f1
          (rest_breaks_from IsLast b e1 e2 h at (then_is_spaced IsSpace) f2 (field_breaks_from IsSpace b e2 at (codes " ") space_is_spaced one_space broken)))

      module _ (e3 m : ℕ) (f3 : IsFieldAt b e2 e3 m) where
        pub end_breaks : (e3 ≡ length b) ⊎ (is_white (get_or b e3 0) ≡ false) → IsBrokenAt b e3
        end_breaks bad = header_breaks e3 (rest_breaks_from AreTwo b 2 e1 w e3 (then_is_spaced IsLast) f1
            (rest_breaks_from IsLast b e1 e2 h e3 (then_is_spaced IsSpace) f2
            (rest_breaks_from IsSpace b e2 e3 m e3 space_is_spaced f3 (space_breaks_from b e3 f3.within bad))))

        behind : (from end v n : ℕ) (f : IsFieldAt b from end v) → take (f.len + n) (drop from b) ≡ take f.len (drop from b) ++ take n (drop end b)
        behind from end v n f = take-add f.len n (drop from b) ∙ ap (λ xs. take f.len (drop from b) ++ take n xs)
            (drop-drop f.len from b ∙ ap (λ k. drop k b) (sym f.end_is))

        pub header_found : e3 < length b → is_white (get_or b e3 0) ≡ true → IsFirstHeader b (e3 + 1) w h m
        header_found within white =
            let last : take 1 (drop e3 b) ≡ get_or b e3 0 ∷ [] = ap (take 1) (drop_more b e3 0 within) in
            let third : take (f3.len + 1) (drop e2 b) ≡ take f3.len (drop e2 b) ++ (get_or b e3 0 ∷ []) = behind e2 e3 m 1 f3
            ∙ ap (λ xs. take f3.len (drop e2 b) ++ xs) last in
            let second : take (f2.len + (f3.len + 1)) (drop e1 b) ≡ take f2.len (drop e1 b) ++ (take f3.len (drop e2 b) ++ (get_or b e3 0 ∷ [])) =
            behind e1 e2 h (f3.len + 1) f2 ∙ ap (λ xs. take f2.len (drop e1 b) ++ xs) third in
            let first : take (f1.len + (f2.len + (f3.len + 1))) (drop 2 b) ≡ take f1.len (drop 2 b) ++
            (take f2.len (drop e1 b) ++ (take f3.len (drop e2 b) ++ (get_or b e3 0 ∷ []))) = behind 2 e1 w (f2.len + (f3.len + 1)) f1
            ∙ ap (λ xs. take f1.len (drop 2 b) ++ xs) second in
            let end : e3 + 1 ≡ 2 + (f1.len + (f2.len + (f3.len + 1))) = omega (arith, f1.end_is, f2.end_is, f3.end_is) in
            record {
              within = omega arith;
              header = record {
                first = take f1.len (drop 2 b);
                second = take f2.len (drop e1 b);
                third = take f3.len (drop e2 b);
                space = get_or b e3 0;
                spelt = ap (λ n. take n b) end ∙ split (f1.len + (f2.len + (f3.len + 1))) ∙ ap (λ xs. codes "P6" ++ xs) first;
                width_field = f1.field.field;
                height_field = f2.field.field;
                maximum_field = f3.field.field;
                white = white;
              };
            }
