-- What a sink holds after several puts, as one put.
use Rattle.std.proofs.Common.{◌≡◌, ℕ, ◌+◌, ◌<◌, ◌≤◌, suc, List, [], ◌++◌, length, take, drop, get_or, Option, Some, None}
use Rattle.std.proofs.Common.{refl, sym, ap, ◌∙◌, append_assoc, arith}
use Rattle.std.specs.Option.{option_map}
use Rattle.std.specs.Borrow.{Bor}
use Rattle.std.proofs.lemmas.List.{append-nil, take-append-drop, take-append-le, take_min}
use Rattle.std.specs.Prelude.{min}
use Rattle.std.proofs.lemmas.List.Concat.{flat_map-append}
use Rattle.std.proofs.Math.Seq.{take-append-add, drop-cons}
use Rattle.vt_outside.specs.Files.{gained}
use Rattle.vt_text.specs.Pieces.{joined_pieces}

pub gained_more : (a b : List ℕ) (held : Option (List ℕ))
    → option_map (gained b) (option_map (gained a) held) ≡ option_map (gained (a ++ b)) held
gained_more a b None = refl
gained_more a b (Some c) = ap Some (append_assoc c a b)

-- all text is that of the first pieces, then the next one, and the rest
whole : (pieces : List (Bor (List ℕ))) (i : ℕ) (d : Bor (List ℕ)) → i < length pieces
    → (rest : List ℕ) × (joined_pieces pieces ≡ joined_pieces (take i pieces) ++ ((get_or pieces i d).now ++ rest))
whole pieces i d inside = (
  joined_pieces (drop (suc i) pieces),
  ap joined_pieces (sym (take-append-drop i pieces))
      ∙ flat_map-append (λ (p : Bor (List ℕ)). p.now) (take i pieces) (drop i pieces)
      ∙ ap (λ (ps : List (Bor (List ℕ))). joined_pieces (take i pieces) ++ joined_pieces ps) (drop-cons pieces i d inside),
)

-- a prefix of the next piece after the first ones is a prefix of the whole
pub part_of_joined : (pieces : List (Bor (List ℕ))) (i : ℕ) (d : Bor (List ℕ)) (k : ℕ) → i < length pieces
    → (j : ℕ) × (joined_pieces (take i pieces) ++ take k (get_or pieces i d).now ≡ take j (joined_pieces pieces))
part_of_joined pieces i d k inside =
    let a = joined_pieces (take i pieces) in
    let x = (get_or pieces i d).now in
    let w = whole pieces i d inside in
    let m = min k (length x) in
    let short : m ≤ length x = omega arith in (
      length a + m,
      ap (λ (t : List ℕ). a ++ t) (sym (take_min k x) ∙ sym (take-append-le m x w.0 short))
          ∙ sym (take-append-add a (x ++ w.0) m)
          ∙ ap (take (length a + m)) (sym w.1),
    )

-- the pieces of a place's line as its text, where each number's piece is its text
pub place_pieces : (front name colon w b a n m l x y z f feed : List ℕ) → n ≡ x → m ≡ y → l ≡ z → f ≡ feed
    → front ++ (name ++ (colon ++ (w ++ (n ++ (b ++ (m ++ (a ++ (l ++ (f ++ [])))))))))
    ≡ front ++ (name ++ (colon ++ ((w ++ (x ++ (b ++ (y ++ (a ++ z))))) ++ feed)))
place_pieces front name colon w b a n m l x y z f feed p q r s = cc (
  append-nil f,
  append_assoc w (x ++ (b ++ (y ++ (a ++ z)))) feed,
  append_assoc x (b ++ (y ++ (a ++ z))) feed,
  append_assoc b (y ++ (a ++ z)) feed,
  append_assoc y (a ++ z) feed,
  append_assoc a z feed,
)
