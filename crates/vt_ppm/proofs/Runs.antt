-- The longest runs in front, and what they make of the bytes of a gap.
use Rattle.std.proofs.Common.{◌≡◌, ℕ, zero, suc, ◌+◌, ◌<◌, ◌≤◌, ◌^◌, Bool, true, false, not, cond, List, [], ◌∷◌, ◌++◌, length, get_or, take, drop, refl, sym, ap, ◌∙◌, subst, arith, append_assoc, length-take, length-drop, IsTrue}
use Rattle.std.specs.List.{list_all, prefix_len, take_while}
use Rattle.std.specs.Char.{is_ascii_digit}
use Rattle.std.specs.Str.Parse.{digits_value, AllDigits}
use Rattle.std.proofs.Math.Nat.{pow-le-pow_right}
use Rattle.std.proofs.Math.Seq.{take-add}
use Rattle.std.proofs.lemmas.Bool.Decides.{nat_tests}
use Rattle.std.proofs.lemmas.List.{take-append-drop, take_all, drop-drop, drop_more, get_or-drop}
use Rattle.std.proofs.lemmas.List.Sums.{take_while-cons, prefix_len-le-length, prefix_len_stops}
use Rattle.std.proofs.lemmas.Int.Digits.{digits_value-lt}
use Rattle.vt_ppm.specs.Format.{is_white, is_line_end, IsComment, IsGap}
use Rattle.vt_ppm.specs.Header.{BeginsComment, IsGapFront}
use Rattle.vt_ppm.proofs.Gaps.{gap_and_white, gap_and_comment, whites_are_gap, passes_first, passes_rest}
use Rattle.vt_ppm.proofs.Headers.{digits_of_test}

-- the run in front passes
pub run_passes : {X : Type 0} (p : X → Bool) (xs : List X) → list_all p (take_while p xs) ≡ true
run_passes p [] = refl
run_passes p (x ∷ xs) = rw take_while-cons (step (p x) refl (run_passes p xs))
  where
    step : (v : Bool) → p x ≡ v → list_all p (take_while p xs) ≡ true → list_all p (cond v (x ∷ take_while p xs) []) ≡ true
    step true e all = rw (e, all) refl
    step false e all = refl

pub no_run : {X : Type 0} (p : X → Bool) (x : X) (xs : List X) → p x ≡ false → prefix_len p (x ∷ xs) ≡ 0
no_run p x xs e = rw e refl

-- after the run no element follows that passes
pub run_ended : {X : Type 0} (p : X → Bool) (xs : List X) → prefix_len p (drop (prefix_len p xs) xs) ≡ 0
run_ended p [] = refl
run_ended p (x ∷ xs) = step (p x) refl (run_ended p xs)
  where
    step : (v : Bool) → p x ≡ v → prefix_len p (drop (prefix_len p xs) xs) ≡ 0 → prefix_len p (drop (cond v (1 + prefix_len p xs) 0) (x ∷ xs)) ≡ 0
    step true e all = let one : 1 + prefix_len p xs ≡ suc (prefix_len p xs) = omega arith in rw one all
    step false e all = no_run p x xs e

-- the byte after a run that begins at a place
pub run_stops : (p : ℕ → Bool) (b : List ℕ) (at k : ℕ) → k ≡ prefix_len p (drop at b) → at + k < length b → p (get_or b (at + k) 0) ≡ false
run_stops p b at k e within =
    let short : prefix_len p (drop at b) < length (drop at b) = omega (arith, length-drop at b, e) in
    ap (λ n. p (get_or b (at + n) 0)) e ∙ ap p (sym (get_or-drop at b (prefix_len p (drop at b)) 0)) ∙ prefix_len_stops p (drop at b) 0 short

-- the run of digits in front is digits
pub run_is_digits : (xs : List ℕ) (count : ℕ) → count ≡ prefix_len is_ascii_digit xs → AllDigits 10 (take count xs)
run_is_digits xs count e = digits_of_test (take count xs) (ap (λ n. list_all is_ascii_digit (take n xs)) e ∙ run_passes is_ascii_digit xs)

pub AllDigits-take : (ds : List ℕ) (i : ℕ) → AllDigits 10 ds → AllDigits 10 (take i ds)
AllDigits-take [] zero all = tt
AllDigits-take [] (suc i) all = tt
AllDigits-take (c ∷ cs) zero all = tt
AllDigits-take (c ∷ cs) (suc i) all = (all.0, AllDigits-take cs i all.1)

-- the number of fewer than ten digits
pub value_is_small : (ds : List ℕ) (i : ℕ) → AllDigits 10 ds → length ds ≤ 10 → i < length ds → digits_value 10 (take i ds) < 10 ^ 9
value_is_small ds i all few within =
    let lt : digits_value 10 (take i ds) < 10 ^ length (take i ds) = digits_value-lt 10 (take i ds) (AllDigits-take ds i all) in
    let len : length (take i ds) ≤ 9 = simp length-take (omega arith) in
    let some : 0 < 10 = omega arith in
    let top : 10 ^ length (take i ds) ≤ 10 ^ 9 = pow-le-pow_right some len in
    omega arith

-- white space alone is a gap
white_gap : (xs : List ℕ) → 1 ≤ length xs → list_all is_white xs ≡ true → IsGap xs
white_gap [] some all = absurd (omega (arith, some))
white_gap (c ∷ xs) some all = whites_are_gap c xs (passes_first is_white c xs all) (passes_rest is_white c xs all)

-- a gap in front, after which no white space stands
front_of_gap : (b : List ℕ) (len : ℕ) → 1 ≤ len → len ≤ length b → IsGap (take len b) → (len < length b → is_white (get_or b len 0) ≡ false) → IsGapFront b len
front_of_gap b len some within gap stops = record {
  within = within;
  none = λ e. absurd (omega (arith, some, e));
  whole = λ _ e. subst (λ xs. IsGap (xs ++ (10 ∷ []))) (take_all len b (omega (arith, e))) (gap_and_white (take len b) (10 ∷ []) gap refl);
  gap = λ _ _. gap;
  no_white = λ _ h. stops h;
}

-- the white space in front
pub white_front_is : (b : List ℕ) (len : ℕ) → len ≡ prefix_len is_white b → IsGapFront b len
white_front_is b len e = subst (IsGapFront b) (sym e) (record {
  within = prefix_len-le-length is_white b;
  none = λ h. h;
  whole = λ some h. subst (λ xs. IsGap (xs ++ (10 ∷ []))) (take_all (prefix_len is_white b) b (omega (arith, h)))
      (gap_and_white (take (prefix_len is_white b) b) (10 ∷ []) (gap some) refl);
  gap = λ some h. gap some;
  no_white = λ some h. prefix_len_stops is_white b 0 h;
})
  where
    gap : 1 ≤ prefix_len is_white b → IsGap (take (prefix_len is_white b) b)
    gap some = white_gap (take (prefix_len is_white b) b) (omega (
      arith,
      length-take
          (prefix_len is_white b) b,
      prefix_len-le-length is_white b,
      some,
    )) (run_passes is_white b)

-- a byte that ends a line is white space
line_end_is_white : (c : ℕ) → is_line_end c ≡ true → is_white c ≡ true
line_end_is_white c e = grind (arith, nat_tests)

-- a byte that ends no line
abbrev in_line : ℕ → Bool
in_line c = not (is_line_end c)

-- a line and the byte that ends it are a comment behind `#`
comment_of_line : (ys : List ℕ) (c : ℕ) → is_line_end c ≡ true → IsComment (35 ∷ (take_while in_line ys ++ (c ∷ [])))
comment_of_line ys c ends = record {
  remark = take_while in_line ys;
  ending = c;
  spelt = refl;
  one_line = run_passes in_line ys;
  ended = ends;
}

-- a comment that is not ended
unended_gap : (g ys : List ℕ) (m : ℕ) → m ≡ prefix_len in_line ys → drop m ys ≡ [] → IsGap g → IsGap ((g ++ (35 ∷ ys)) ++ (10 ∷ []))
unended_gap g ys m em none gap =
    let all : take_while in_line ys ≡ ys = take_all (prefix_len in_line ys) ys (omega (arith, ap length none, length-drop m ys, em)) in
    let text : IsComment (35 ∷ (ys ++ (10 ∷ []))) = subst (λ xs. IsComment (35 ∷ (xs ++ (10 ∷ [])))) all (comment_of_line ys 10 refl) in
    subst IsGap (sym (append_assoc g (35 ∷ ys) (10 ∷ []))) (gap_and_comment g (35 ∷ (ys ++ (10 ∷ []))) gap text)

-- a comment, and the white space that ends it and follows it
ended_gap : (g ys zs : List ℕ) (c k : ℕ) → is_line_end c ≡ true → k ≡ prefix_len is_white (c ∷ zs) → IsGap g
    → IsGap (g ++ ((35 ∷ take_while in_line ys) ++ take k (c ∷ zs)))
ended_gap g ys zs c k ends ek gap =
    let line : List ℕ = take_while in_line ys in
    let whites : IsTrue (list_all is_white (take_while is_white zs)) = run_passes is_white zs in
    let run : take k (c ∷ zs) ≡ c ∷ take_while is_white zs = ap (λ n. take n (c ∷ zs)) ek ∙ take_while-cons is_white c zs
    ∙ ap (λ v. cond v (c ∷ take_while is_white zs) []) (line_end_is_white c ends) in
    let parts : g ++ ((35 ∷ line) ++ take k (c ∷ zs)) ≡ (g ++ (35 ∷ (line ++ (c ∷ [])))) ++ take_while is_white zs =
    ap (λ xs. g ++ ((35 ∷ line) ++ xs)) run
    ∙ ap (λ xs. g ++ (35 ∷ xs)) (sym (append_assoc (line) (c ∷ []) (take_while is_white zs)))
    ∙ sym (append_assoc g (35 ∷ (line ++ (c ∷ []))) (take_while is_white zs)) in
    subst IsGap (sym parts) (gap_and_white (g ++ (35 ∷ (line ++ (c ∷ [])))) (take_while is_white zs)
    (gap_and_comment g (35 ∷ (line ++ (c ∷ []))) gap (comment_of_line ys c ends)) whites)

-- what does not fail a test's opposite
passes_back : (v : Bool) → not v ≡ false → v ≡ true
passes_back true e = refl
passes_back false e = absurd cc

-- a gap goes on with a comment and the white space behind it
goes_on : (b ys z : List ℕ) (at n m k : ℕ) → IsGap (take at b) → 1 ≤ at → at < length b → drop at b ≡ 35 ∷ ys → n ≡ suc m → m ≡ prefix_len in_line ys
    → drop m ys ≡ z → k ≡ prefix_len is_white z → IsGapFront b (at + (n + k))
goes_on b ys [] at n m k gap some within e en em ez ek =
    let long : length b ≡ at + suc (length ys) = omega (arith, length-drop at b, ap length e) in
    let end : at + (n + k) ≡ length b = omega (arith, ap length ez, length-drop m ys, em, prefix_len-le-length in_line ys) in
    let parts : take at b ++ (35 ∷ ys) ≡ b = ap (λ xs. take at b ++ xs) (sym e) ∙ take-append-drop at b in
    record {
      within = omega arith;
      none = λ h. absurd (omega (arith, h));
      whole = λ _ _. subst (λ xs. IsGap (xs ++ (10 ∷ []))) parts (unended_gap (take at b) ys m em ez gap);
      gap = λ _ h. absurd (omega (arith, h));
      no_white = λ _ h. absurd (omega (arith, h));
    }
goes_on b ys (c ∷ zs) at n m k gap some within e en em ez ek =
    let run : m < length ys = omega (arith, length-drop m ys, ap length ez) in
    let here : prefix_len in_line ys < length ys = omega (arith, em) in
    let first : get_or ys (prefix_len in_line ys) 0 ≡ c = ap (λ i. get_or ys i 0) (omega (arith, em)) ∙ sym (get_or-drop m ys 0 0)
    ∙ ap (λ xs. get_or xs 0 0) ez in
    let ends : is_line_end c ≡ true = ap is_line_end (sym first) ∙ passes_back (is_line_end (get_or ys (prefix_len in_line ys) 0))
    (prefix_len_stops in_line ys 0 here) in
    let line : take n (drop at b) ≡ 35 ∷ take_while in_line ys = ap (λ i. take i (drop at b)) en ∙ ap (take (suc m)) e ∙ ap (λ i. 35 ∷ take i ys) em in
    let behind : drop n (drop at b) ≡ c ∷ zs = ap (λ i. drop i (drop at b)) en ∙ ap (drop (suc m)) e ∙ ez in
    let both : take (n + k) (drop at b) ≡ (35 ∷ take_while in_line ys) ++ take k (c ∷ zs) = take-add n k (drop at b)
    ∙ ap (λ xs. xs ++ take k (drop n (drop at b))) line ∙ ap (λ xs. (35 ∷ take_while in_line ys) ++ take k xs) behind in
    let whole : take (at + (n + k)) b ≡ take at b ++ ((35 ∷ take_while in_line ys) ++ take k (c ∷ zs)) = take-add at (n + k) b
    ∙ ap (λ xs. take at b ++ xs) both in
    let longer : IsGap (take (at + (n + k)) b) = subst IsGap (sym whole) (ended_gap (take at b) ys zs c k ends ek gap) in
    let few : k ≤ length (c ∷ zs) = omega (arith, ek, prefix_len-le-length is_white (c ∷ zs)) in
    let rest : k ≡ prefix_len is_white (drop (at + n) b) = ek ∙ ap (prefix_len is_white) (sym behind ∙ drop-drop n at b) in
    front_of_gap b (at + (n + k)) (omega arith) (omega (arith, few, length-drop m ys, ap length ez, length-drop at b, ap length e)) longer
    (λ h. ap (λ i. is_white (get_or b i 0)) (omega arith) ∙ run_stops is_white b (at + n) k rest (omega (arith, h)))

pub gap_goes_on : (b comment : List ℕ) (at more : ℕ) → IsGapFront b at → 1 ≤ at → BeginsComment b at → comment ≡ drop at b
    → more ≡ prefix_len in_line comment + prefix_len is_white (drop (prefix_len in_line comment) comment) → IsGapFront b (at + more)
gap_goes_on b comment at more front some here ec em =
    let ys : List ℕ = drop (at + 1) b in
    let m : ℕ = prefix_len in_line ys in
    let n : ℕ = prefix_len in_line comment in
    let e : drop at b ≡ 35 ∷ ys = drop_more b at 0 here.0 ∙ ap (λ c. c ∷ ys) here.1 in
    let len : n ≡ suc m = ap (prefix_len in_line) (ec ∙ e) ∙ omega arith in
    let behind : drop n comment ≡ drop m ys =
    ap (λ i. drop i comment) len ∙ ap (drop (suc m)) (ec ∙ e) in
    let gap : IsGap (take at b) = front.gap some here.0 in
    subst (λ i. IsGapFront b (at + i)) (sym em)
    (goes_on b ys (drop m ys) at n m
    (prefix_len is_white (drop n comment)) gap some here.0 e len refl refl (ap (prefix_len is_white) behind))
