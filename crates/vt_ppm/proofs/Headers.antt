-- Fields and headers: bytes begin with one at most.
use Rattle.std.proofs.Common.{◌≡◌, ℕ, ◌<◌, ◌≤◌, true, false, List, [], ◌∷◌, ◌++◌, length, refl, sym, ap, ◌∙◌, arith, append_assoc, IsTrue, codes}
use Rattle.std.specs.List.{list_all}
use Rattle.std.specs.Char.{is_ascii_digit, digit_value}
use Rattle.std.specs.Int.{IsInRange}
use Rattle.std.specs.Str.Parse.{digits_value, AllDigits}
use Rattle.std.proofs.lemmas.Bool.Decides.{nat_tests}
use Rattle.std.proofs.lemmas.List.{append_cancel_left}
use Rattle.std.proofs.lemmas.Str.Parse.{digit_from_value}
use Rattle.vt_ppm.specs.Format.{is_white, IsGap, IsField, IsHeader}
use Rattle.vt_ppm.proofs.Gaps.{joined, AreSame, AreSameFronts, run_is_one, passes_first, passes_rest, gap_is_one}

-- a byte that is a digit, as a test and as a fact
pub digit_of_test : (c : ℕ) → is_ascii_digit c ≡ true → digit_value c < 10
digit_of_test c e = grind (arith, nat_tests)

pub test_of_digit : (c : ℕ) → digit_value c < 10 → is_ascii_digit c ≡ true
test_of_digit c small = let r : IsInRange 48 57 c = digit_from_value c small in grind (arith, nat_tests)

pub digit_is_no_white : (c : ℕ) → is_ascii_digit c ≡ true → is_white c ≡ false
digit_is_no_white c e = grind (arith, nat_tests)

pub digit_is_no_hash : (c : ℕ) → is_ascii_digit c ≡ true → c ≡ 35 → ⊥
digit_is_no_hash c e same = grind (arith, nat_tests)

pub white_is_no_digit : (c : ℕ) → is_white c ≡ true → is_ascii_digit c ≡ false
white_is_no_digit c e = grind (arith, nat_tests)

-- digits, as a test and as a fact
pub digits_of_test : (ds : List ℕ) → list_all is_ascii_digit ds ≡ true → AllDigits 10 ds
digits_of_test [] h = tt
digits_of_test (c ∷ cs) h = (digit_of_test c (passes_first is_ascii_digit c cs h), digits_of_test cs (passes_rest is_ascii_digit c cs h))

pub test_of_digits : (ds : List ℕ) → AllDigits 10 ds → list_all is_ascii_digit ds ≡ true
test_of_digits [] all = refl
test_of_digits (c ∷ cs) all = rw (test_of_digit c all.0, test_of_digits cs all.1) refl

-- a gap ends where digits begin
pub gap_before_digits : (g h ds es s t : List ℕ) → IsGap g → IsGap h → 1 ≤ length ds → 1 ≤ length es → IsTrue (list_all is_ascii_digit ds)
    → IsTrue (list_all is_ascii_digit es) → g ++ (ds ++ s) ≡ h ++ (es ++ t) → g ≡ h
gap_before_digits g h [] es s t i j some many hd he e = absurd (omega (arith, some))
gap_before_digits g h (d ∷ ds) [] s t i j some many hd he e = absurd (omega (arith, many))
gap_before_digits g h (d ∷ ds) (f ∷ es) s t i j some many hd he e =
    let a : is_ascii_digit d ≡ true = passes_first is_ascii_digit d ds hd in
    let b : is_ascii_digit f ≡ true = passes_first is_ascii_digit f es he in
    gap_is_one g h (ds ++ s) (es ++ t) d f i j (digit_is_no_white d a) (digit_is_no_hash d a) (digit_is_no_white f b) (digit_is_no_hash f b) e

-- a field's bytes before others are its gap and its digits before them
pub field_parts : (f x : List ℕ) (v : ℕ) (i : IsField f v) → f ++ x ≡ i.gap ++ (i.digits ++ x)
field_parts f x v i = ap (λ xs. xs ++ x) i.spelt ∙ append_assoc i.gap i.digits x

-- the gap of a field is the gap before any digits that are there
pub gap_of_field : (f x g ds s : List ℕ) (v : ℕ) (i : IsField f v) → IsGap g → 1 ≤ length ds → IsTrue (list_all is_ascii_digit ds)
    → f ++ x ≡ g ++ (ds ++ s) → i.gap ≡ g
gap_of_field f x g ds s v i j some all e =
    gap_before_digits i.gap g i.digits ds x s i.is_gap j i.is_number.numeral.0 some (test_of_digits i.digits i.is_number.numeral.1) all
    (sym (field_parts f x v i) ∙ e)

-- and the field's digits and what follows them are those digits and what follows them
pub digits_of_field : (f x g ds s : List ℕ) (v : ℕ) (i : IsField f v) → IsGap g → 1 ≤ length ds → IsTrue (list_all is_ascii_digit ds)
    → f ++ x ≡ g ++ (ds ++ s) → i.digits ++ x ≡ ds ++ s
digits_of_field f x g ds s v i j some all e =
    append_cancel_left g (i.digits ++ x) (ds ++ s) (ap (λ xs. xs ++ (i.digits ++ x)) (sym (gap_of_field f x g ds s v i j some all e))
    ∙ sym (field_parts f x v i) ∙ e)

-- bytes that begin with white space
pub record IsWhiteFront (x : List ℕ) : Type 0 where
  pub first : ℕ
  pub rest : List ℕ
  pub spelt : x ≡ first ∷ rest
  pub white : is_white first ≡ true

pub white_front : (c : ℕ) (r : List ℕ) → is_white c ≡ true → IsWhiteFront (c ∷ r)
white_front c r white = record { first = c; rest = r; spelt = refl; white = white }

pub field_front : (f x : List ℕ) (v : ℕ) → IsField f v → IsWhiteFront (f ++ x)
field_front f x v i = record {
  first = i.is_gap.first;
  rest = joined i.is_gap.parts ++ (i.digits ++ x);
  spelt = field_parts f x v i ∙ ap (λ xs. xs ++ (i.digits ++ x)) i.is_gap.spelt;
  white = i.is_gap.white;
}

-- two fields in front of two equal lists
pub record AreSameFields (f g x y : List ℕ) (v u : ℕ) : Type 0 where
  pub text : f ≡ g
  pub value : v ≡ u
  pub rest : x ≡ y

-- digits are cut off by white space
digits_are_one : (ds es x y : List ℕ) → AllDigits 10 ds → AllDigits 10 es → IsWhiteFront x → IsWhiteFront y → ds ++ x ≡ es ++ y → AreSameFronts ds es x y
digits_are_one ds es x y hd he wx wy e =
    let all : ds ++ (wx.first ∷ wx.rest) ≡ es ++ (wy.first ∷ wy.rest) = ap (λ xs. ds ++ xs) (sym wx.spelt) ∙ e ∙ ap (λ xs. es ++ xs) wy.spelt in
    let same : AreSame ds es wx.first wy.first wx.rest wy.rest = run_is_one is_ascii_digit ds es wx.rest wy.rest wx.first wy.first
    (test_of_digits ds hd) (test_of_digits es he) (white_is_no_digit wx.first wx.white) (white_is_no_digit wy.first wy.white) all in
    record { front = same.front; rest = wx.spelt ∙ ap (λ c. c ∷ wx.rest) same.stop ∙ ap (λ r. wy.first ∷ r) same.rest ∙ sym wy.spelt }

-- bytes begin with one field at most, of those that white space follows
pub field_before_white : (f g x y : List ℕ) (v u : ℕ) → IsField f v → IsField g u → IsWhiteFront x → IsWhiteFront y → f ++ x ≡ g ++ y
    → AreSameFields f g x y v u
field_before_white f g x y v u i j wx wy e =
    let digits : list_all is_ascii_digit j.digits ≡ true = test_of_digits j.digits j.is_number.numeral.1 in
    let parts : f ++ x ≡ j.gap ++ (j.digits ++ y) = e ∙ field_parts g y u j in
    let gaps : i.gap ≡ j.gap = gap_of_field f x j.gap j.digits y v i j.is_gap j.is_number.numeral.0 digits parts in
    let rests : i.digits ++ x ≡ j.digits ++ y = digits_of_field f x j.gap j.digits y v i j.is_gap j.is_number.numeral.0 digits parts in
    let same : AreSameFronts i.digits j.digits x y = digits_are_one i.digits j.digits x y i.is_number.numeral.1 j.is_number.numeral.1 wx wy rests in
    record {
      text = i.spelt ∙ ap (λ xs. xs ++ i.digits) gaps ∙ ap (λ xs. j.gap ++ xs) same.front ∙ sym j.spelt;
      value = i.is_number.value_is ∙ ap (digits_value 10) same.front ∙ sym j.is_number.value_is;
      rest = same.rest;
    }

-- two headers in front of two equal lists
pub record AreSameTexts (s t r q : List ℕ) (w h m u v n : ℕ) : Type 0 where
  pub text : s ≡ t
  pub width : w ≡ u
  pub height : h ≡ v
  pub maximum : m ≡ n
  pub rest : r ≡ q

-- a header's bytes before others are its parts before them
pub header_parts : (s r : List ℕ) (w h m : ℕ) (i : IsHeader s w h m) → s ++ r ≡ codes "P6" ++ (i.first ++ (i.second ++ (i.third ++ (i.space ∷ r))))
header_parts s r w h m i = ap (λ xs. xs ++ r) i.spelt ∙ simp append_assoc

-- bytes begin with one header at most
pub header_is_one : (s t r q : List ℕ) (w h m u v n : ℕ) → IsHeader s w h m → IsHeader t u v n → s ++ r ≡ t ++ q → AreSameTexts s t r q w h m u v n
header_is_one s t r q w h m u v n i j e =
    let x3 : List ℕ = i.space ∷ r in
    let y3 : List ℕ = j.space ∷ q in
    let x2 : List ℕ = i.third ++ (i.space ∷ r) in
    let y2 : List ℕ = j.third ++ (j.space ∷ q) in
    let x1 : List ℕ = i.second ++ (i.third ++ (i.space ∷ r)) in
    let y1 : List ℕ = j.second ++ (j.third ++ (j.space ∷ q)) in
    let all : codes "P6" ++ (i.first ++ x1) ≡ codes "P6" ++ (j.first ++ y1) = sym (header_parts s r w h m i) ∙ e ∙ header_parts t q u v n j in
    let after : i.first ++ x1 ≡ j.first ++ y1 = append_cancel_left (codes "P6") (i.first ++ x1) (j.first ++ y1) all in
    let one : AreSameFields i.first j.first x1 y1 w u = field_before_white i.first j.first x1 y1 w u i.width_field j.width_field
    (field_front i.second x2 h i.height_field) (field_front j.second y2 v j.height_field) after in
    let two : AreSameFields i.second j.second x2 y2 h v = field_before_white i.second j.second x2 y2 h v i.height_field j.height_field
    (field_front i.third x3 m i.maximum_field) (field_front j.third y3 n j.maximum_field) one.rest in
    let three : AreSameFields i.third j.third x3 y3 m n = field_before_white i.third j.third x3 y3 m n i.maximum_field j.maximum_field
    (white_front i.space r i.white) (white_front j.space q j.white) two.rest in
    let space : i.space ≡ j.space = cc three.rest in
    let texts : i.first ++ (i.second ++ (i.third ++ (i.space ∷ []))) ≡ j.first ++ (j.second ++ (j.third ++ (j.space ∷ []))) =
    cc (one.text, two.text, three.text, space) in
    record {
      text = i.spelt ∙ ap (λ xs. codes "P6" ++ xs) texts ∙ sym j.spelt;
      width = one.value;
      height = two.value;
      maximum = three.value;
      rest = cc three.rest;
    }
