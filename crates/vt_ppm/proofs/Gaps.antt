-- Gaps: where one ends, and what makes one.
use Rattle.std.proofs.Common.{◌≡◌, inl, inr, ℕ, Bool, true, false, not, ◌&&◌, List, [], ◌∷◌, ◌++◌, refl, sym, ap, ◌∙◌, subst, append_assoc, IsTrue, All}
use Rattle.std.specs.List.{list_all, flat_map}
use Rattle.std.proofs.lemmas.Grind.{flat_map-append}
use Rattle.std.proofs.lemmas.List.{append-nil}
use Rattle.std.proofs.lemmas.List.Elements.{All-nil, All-cons, All-head, All-tail, All-append}
use Rattle.vt_ppm.specs.Format.{is_white, is_line_end, IsComment, IsGapPart, IsGap}

-- the parts of a gap, end to end
abbrev pub joined : List (List ℕ) → List ℕ
joined parts = flat_map (λ part. part) parts

-- a test that both passes and fails
pub never_both : (b : Bool) → b ≡ true → b ≡ false → ⊥
never_both b e f = cc

both_pass : (a b : Bool) → (a && b) ≡ true → (a ≡ true) × (b ≡ true)
both_pass true true e = (refl, refl)
both_pass true false e = absurd cc
both_pass false b e = absurd cc

pub passes_first : (p : ℕ → Bool) (x : ℕ) (xs : List ℕ) → list_all p (x ∷ xs) ≡ true → p x ≡ true
passes_first p x xs e = (both_pass (p x) (list_all p xs) e).0

pub passes_rest : (p : ℕ → Bool) (x : ℕ) (xs : List ℕ) → list_all p (x ∷ xs) ≡ true → list_all p xs ≡ true
passes_rest p x xs e = (both_pass (p x) (list_all p xs) e).1

-- one element passes and another does not, so they are two
passes_apart : (p : ℕ → Bool) (x y : ℕ) → p x ≡ true → p y ≡ false → x ≡ y → ⊥
passes_apart p x y e f same = never_both (p y) (ap p (sym same) ∙ e) f

-- two lists that begin alike, up to one element and after it
pub record AreSame (xs ys : List ℕ) (c d : ℕ) (r s : List ℕ) : Type 0 where
  pub front : xs ≡ ys
  pub stop : c ≡ d
  pub rest : r ≡ s

-- a run of elements that pass is cut off by the first that does not
pub run_is_one : (p : ℕ → Bool) (xs ys r s : List ℕ) (c d : ℕ) → list_all p xs ≡ true → list_all p ys ≡ true → p c ≡ false → p d ≡ false
    → xs ++ (c ∷ r) ≡ ys ++ (d ∷ s) → AreSame xs ys c d r s
run_is_one p [] [] r s c d hx hy hc hd e = record { front = refl; stop = cc; rest = cc }
run_is_one p [] (y ∷ ys) r s c d hx hy hc hd e = absurd (passes_apart p y c (passes_first p y ys hy) hc cc)
run_is_one p (x ∷ xs) [] r s c d hx hy hc hd e = absurd (passes_apart p x d (passes_first p x xs hx) hd cc)
run_is_one p (x ∷ xs) (y ∷ ys) r s c d hx hy hc hd e =
    let tails : xs ++ (c ∷ r) ≡ ys ++ (d ∷ s) = cc in
    let same : AreSame xs ys c d r s = run_is_one p xs ys r s c d (passes_rest p x xs hx) (passes_rest p y ys hy) hc hd tails in
    let heads : x ≡ y = cc in
    record { front = ap (λ a. a ∷ xs) heads ∙ ap (λ zs. y ∷ zs) same.front; stop = same.stop; rest = same.rest }

-- a byte with which no part of a gap begins
pub record IsBlack (c : ℕ) : Type 0 where
  pub no_white : is_white c ≡ false
  pub no_hash : c ≡ 35 → ⊥

-- a part begins with white space or `#`
part_begins : (q x r : List ℕ) (c : ℕ) → IsGapPart q → IsBlack c → q ++ x ≡ c ∷ r → ⊥
part_begins q x r c (inl w) black e =
    let spelt : w.0 ∷ x ≡ c ∷ r = ap (λ xs. xs ++ x) (sym w.1) ∙ e in
    passes_apart is_white w.0 c w.2 black.no_white cc
part_begins q x r c (inr k) black e =
    let spelt : 35 ∷ ((k.remark ++ (k.ending ∷ [])) ++ x) ≡ c ∷ r = ap (λ xs. xs ++ x) (sym k.spelt) ∙ e in
    black.no_hash cc

-- two parts in front of two equal lists
pub record AreSameFronts (p q x y : List ℕ) : Type 0 where
  pub front : p ≡ q
  pub rest : x ≡ y

comment_is_one : (p q x y : List ℕ) → IsComment p → IsComment q → p ++ x ≡ q ++ y → AreSameFronts p q x y
comment_is_one p q x y j k e =
    let ej : p ++ x ≡ 35 ∷ (j.remark ++ (j.ending ∷ x)) = ap (λ xs. xs ++ x) j.spelt ∙ ap (λ xs. 35 ∷ xs) (append_assoc j.remark (j.ending ∷ []) x) in
    let ek : q ++ y ≡ 35 ∷ (k.remark ++ (k.ending ∷ y)) = ap (λ xs. xs ++ y) k.spelt ∙ ap (λ xs. 35 ∷ xs) (append_assoc k.remark (k.ending ∷ []) y) in
    let all : 35 ∷ (j.remark ++ (j.ending ∷ x)) ≡ 35 ∷ (k.remark ++ (k.ending ∷ y)) = sym ej ∙ e ∙ ek in
    let tails : j.remark ++ (j.ending ∷ x) ≡ k.remark ++ (k.ending ∷ y) = cc all in
    let same : AreSame j.remark k.remark j.ending k.ending x y = run_is_one
    (λ c. not (is_line_end c)) j.remark k.remark x y j.ending k.ending j.one_line k.one_line (ap not j.ended) (ap not k.ended) tails in
    record {
      front = j.spelt ∙ ap (λ xs. 35 ∷ (xs ++ (j.ending ∷ []))) same.front ∙ ap (λ c. 35 ∷ (k.remark ++ (c ∷ []))) same.stop ∙ sym k.spelt;
      rest = same.rest;
    }

-- white space is no `#`
pub white_is_no_hash : (c : ℕ) → is_white c ≡ true → c ≡ 35 → ⊥
white_is_no_hash c white e = never_both (is_white 35) (ap is_white (sym e) ∙ white) refl

part_is_one : (p q x y : List ℕ) → IsGapPart p → IsGapPart q → p ++ x ≡ q ++ y → AreSameFronts p q x y
part_is_one p q x y (inl v) (inl w) e =
    let all : v.0 ∷ x ≡ w.0 ∷ y = ap (λ xs. xs ++ x) (sym v.1) ∙ e ∙ ap (λ xs. xs ++ y) w.1 in
    let same : v.0 ≡ w.0 = cc all in
    record { front = v.1 ∙ ap (λ c. c ∷ []) same ∙ sym w.1; rest = cc all }
part_is_one p q x y (inl v) (inr k) e =
    let all : v.0 ∷ x ≡ 35 ∷ ((k.remark ++ (k.ending ∷ [])) ++ y) = ap (λ xs. xs ++ x) (sym v.1) ∙ e ∙ ap (λ xs. xs ++ y) k.spelt in
    absurd (white_is_no_hash v.0 v.2 (cc all))
part_is_one p q x y (inr j) (inl w) e =
    let all : 35 ∷ ((j.remark ++ (j.ending ∷ [])) ++ x) ≡ w.0 ∷ y = ap (λ xs. xs ++ x) (sym j.spelt) ∙ e ∙ ap (λ xs. xs ++ y) w.1 in
    absurd (white_is_no_hash w.0 w.2 (cc all))
part_is_one p q x y (inr j) (inr k) e = comment_is_one p q x y j k e

-- parts are cut off by the first byte with which none begins
pub parts_are_one : (ps qs : List (List ℕ)) (r s : List ℕ) (c d : ℕ) → All IsGapPart ps → All IsGapPart qs → IsBlack c → IsBlack d
    → joined ps ++ (c ∷ r) ≡ joined qs ++ (d ∷ s) → joined ps ≡ joined qs
parts_are_one [] [] r s c d hp hq hc hd e = refl
parts_are_one [] (q ∷ qs) r s c d hp hq hc hd e =
    absurd (part_begins q (joined qs ++ (d ∷ s)) r c (All-head IsGapPart q qs hq) hc (sym (append_assoc q (joined qs) (d ∷ s)) ∙ sym e))
parts_are_one (p ∷ ps) [] r s c d hp hq hc hd e =
    absurd (part_begins p (joined ps ++ (c ∷ r)) s d (All-head IsGapPart p ps hp) hd (sym (append_assoc p (joined ps) (c ∷ r)) ∙ e))
parts_are_one (p ∷ ps) (q ∷ qs) r s c d hp hq hc hd e =
    let all : p ++ (joined ps ++ (c ∷ r)) ≡ q ++ (joined qs ++ (d ∷ s)) = sym (append_assoc p (joined ps) (c ∷ r)) ∙ e ∙ append_assoc q (joined qs) (d ∷ s) in
    let same : AreSameFronts p q (joined ps ++ (c ∷ r)) (joined qs ++ (d ∷ s)) =
    part_is_one p q (joined ps ++ (c ∷ r)) (joined qs ++ (d ∷ s)) (All-head IsGapPart p ps hp) (All-head IsGapPart q qs hq) all in
    let after : joined ps ≡ joined qs = parts_are_one ps qs r s c d (All-tail IsGapPart p ps hp) (All-tail IsGapPart q qs hq) hc hd same.rest in
    ap (λ xs. xs ++ joined ps) same.front ∙ ap (λ xs. q ++ xs) after

-- a gap is cut off by the first byte that is neither white space nor `#`
pub gap_is_one : (g h r s : List ℕ) (c d : ℕ) → IsGap g → IsGap h → is_white c ≡ false → (c ≡ 35 → ⊥) → is_white d ≡ false → (d ≡ 35 → ⊥)
    → g ++ (c ∷ r) ≡ h ++ (d ∷ s) → g ≡ h
gap_is_one g h r s c d i j wc kc wd kd e =
    let all : i.first ∷ (joined i.parts ++ (c ∷ r)) ≡ j.first ∷ (joined j.parts ++ (d ∷ s)) = ap (λ xs. xs ++ (c ∷ r)) (sym i.spelt) ∙ e
    ∙ ap (λ xs. xs ++ (d ∷ s)) j.spelt in
    let first : i.first ≡ j.first = cc all in
    let tails : joined i.parts ++ (c ∷ r) ≡ joined j.parts ++ (d ∷ s) = cc all in
    let same : joined i.parts ≡ joined j.parts = parts_are_one i.parts j.parts r s c d i.each j.each record { no_white = wc; no_hash = kc } record
    { no_white = wd; no_hash = kd } tails in
    i.spelt ∙ ap (λ a. a ∷ joined i.parts) first ∙ ap (λ xs. j.first ∷ xs) same ∙ sym j.spelt

-- one white space byte is a gap
pub white_is_gap : (c : ℕ) → is_white c ≡ true → IsGap (c ∷ [])
white_is_gap c white = record { first = c; parts = []; spelt = refl; white = white; each = All-nil IsGapPart }

-- a gap and one more part is a gap
pub gap_and_part : (g part : List ℕ) → IsGap g → IsGapPart part → IsGap (g ++ part)
gap_and_part g part i is =
    let one : joined (part ∷ []) ≡ part = append-nil part in
    record {
      first = i.first;
      parts = i.parts ++ (part ∷ []);
      spelt = ap (λ xs. xs ++ part) i.spelt ∙ ap (λ xs. i.first ∷ xs) (ap (λ xs. joined i.parts ++ xs) (sym one)
          ∙ sym (flat_map-append (λ xs. xs) i.parts (part ∷ [])));
      white = i.white;
      each = All-append IsGapPart i.parts (part ∷ []) i.each (All-cons IsGapPart part [] is (All-nil IsGapPart));
    }

-- a gap and one more white space byte is a gap
pub gap_and_byte : (g : List ℕ) (c : ℕ) → IsGap g → is_white c ≡ true → IsGap (g ++ (c ∷ []))
gap_and_byte g c i white = gap_and_part g (c ∷ []) i (inl (c, refl, white))

-- a gap and more white space is a gap
pub gap_and_white : (g w : List ℕ) → IsGap g → IsTrue (list_all is_white w) → IsGap (g ++ w)
gap_and_white g [] i white = subst IsGap (sym (append-nil g)) i
gap_and_white g (c ∷ w) i white =
    subst IsGap (append_assoc g (c ∷ []) w) (gap_and_white (g ++ (c ∷ [])) w (gap_and_byte g c i (passes_first is_white c w white))
    (passes_rest is_white c w white))

-- a gap and a whole comment is a gap
pub gap_and_comment : (g text : List ℕ) → IsGap g → IsComment text → IsGap (g ++ text)
gap_and_comment g text i comment = gap_and_part g text i (inr comment)

-- white space is a gap
pub whites_are_gap : (c : ℕ) (w : List ℕ) → is_white c ≡ true → IsTrue (list_all is_white w) → IsGap (c ∷ w)
whites_are_gap c w first white = gap_and_white (c ∷ []) w (white_is_gap c first) white
