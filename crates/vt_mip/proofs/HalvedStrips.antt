-- A texture that is halved strip by strip: what is so after some strips, and where a read failed.
use Rattle.std.proofs.Common.{◌≡◌, ℕ, ◌+◌, ◌-◌, ◌*◌, ◌<◌, ◌≤◌, inr, true, false, Option, Some, List, length, take, drop, refl, sym, ap, ◌∙◌, subst, arith}
use Rattle.std.specs.Prelude.{IfSome}
use Rattle.std.proofs.lemmas.List.{length-take-le, length-drop}
use Rattle.std.proofs.lemmas.Nat.{mul-le}
use Rattle.vt_ppm.specs.Depths.{texel_length}
use Rattle.vt_ppm.specs.Files.{IsPiece}
use Rattle.vt_ppm.specs.declared.header.Header.{Header}
use Rattle.vt_ppm.specs.Format.{depth_of}
use Rattle.vt_ppm.specs.Image.{ImageView}
use Rattle.vt_ppm.specs.Strips.{IsTextureIfKnown, RowsAsked, row_length, texture_of}
use Rattle.vt_ppm.specs.StripPlaces.{StripsTried, strip_rows, strips_of}
use Rattle.vt_ppm.proofs.StripPlaces.{more_strips, no_strips, strip_tried}
use Rattle.vt_mip.specs.TakenRows.{HalvingView, HalvesFront}
use Rattle.vt_mip.specs.HalvedStrips.{ReaderState, KeepsReader, IsHalvedTo, HoldsStrip, IsAtStrip, strip_height, strip_length}

if_known : (known : Option (List ℕ)) (P : List ℕ → Type 0) (b : List ℕ) → known ≡ Some b → IfSome known P → P b
if_known known P b e all = subst (λ (t : Option (List ℕ)). IfSome t P) e all

pub keeps_on : (a b c : ReaderState) → KeepsReader a b → KeepsReader b c → KeepsReader a c
keeps_on a b c p q = record {
  known = q.known ∙ p.known;
  called = q.called ∙ p.called;
  header = q.header ∙ p.header;
  checked = q.checked ∙ p.checked;
  faults = omega (arith, p.faults, q.faults);
}

-- the place of a strip in an image whose rows above it were halved
pub piece_moved : (p : ImageView) (v : HalvingView) (h : Header) (i : ℕ) (rows room : List ℕ) → HalvesFront p v → IsHalvedTo h i v
    → rows ≡ take (strip_length h i) room → IsPiece p.samples (i * strip_height * row_length h) (take (strip_length h i) room)
    → IsPiece p.samples (texel_length p.depth * (p.width * v.taken)) rows
piece_moved p v h i rows room front to is piece =
    let d : ℕ = texel_length (depth_of h.maximum) in
    let place : i * strip_height * row_length h ≡ texel_length p.depth * (p.width * v.taken) =
    (let s : i * 128 * (d * h.width) ≡ d * (h.width * (i * 128)) = grind arith in s)
    ∙ ap (λ (n : ℕ). d * (h.width * n)) (sym to.taken)
    ∙ ap (λ (n : ℕ). d * (n * v.taken)) (sym to.width ∙ front.columns)
    ∙ ap (λ (n : ℕ). texel_length n * (p.width * v.taken)) (sym to.depth ∙ front.depth) in
    subst (λ (l : List ℕ). IsPiece p.samples (texel_length p.depth * (p.width * v.taken)) l) (sym is)
    (subst (λ (n : ℕ). IsPiece p.samples n (take (strip_length h i) room)) place piece)

-- a strip that a room begins with is a piece of the texture
strip_is_piece : (h : Header) (i : ℕ) (b room : List ℕ) → i < strips_of h strip_height
    → length (texture_of h b).samples ≡ texel_length (depth_of h.maximum) * (h.width * h.height) → HoldsStrip h i b room
    → IsPiece (texture_of h b).samples (i * strip_height * row_length h) (take (strip_length h i) room)
strip_is_piece h i b room inside full holds =
    let samples : List ℕ = (texture_of h b).samples in
    let z : ℕ = row_length h in
    let count : ℕ = strip_rows h strip_height i in
    let ends : i * 128 + count ≤ h.height = omega (arith, inside) in
    let more : (i * 128 + count) * z ≤ h.height * z = mul-le (i * 128 + count) z h.height z ends (omega arith) in
    let whole : h.height * z ≡ texel_length (depth_of h.maximum) * (h.width * h.height) = grind arith in
    let room_is : i * 128 * z + count * z ≤ length samples = omega (arith, more, whole, full) in
    let long : length (take (strip_length h i) room) ≡ count * z =
    ap length holds ∙ length-take-le (count * z) (drop (i * 128 * z) samples) (omega (arith, length-drop (i * 128 * z) samples, room_is)) in
    record {
      within = omega (arith, long, room_is);
      same = holds ∙ ap (λ (n : ℕ). take n (drop (i * 128 * z) samples)) (sym long);
    }

module _ (a b : ReaderState) where
  -- the first strip was not read
  pub first_lost : 1 ≤ strips_of a.header strip_height
      → RowsAsked a.header (0 * strip_height) (strip_rows a.header strip_height 0) true a.places b.places
      → StripsTried a.header strip_height a.places b.places
  first_lost some asked =
      strip_tried a.header a.header strip_height 0 (0 * strip_height) (strip_rows a.header strip_height 0) a.places a.places b.places some
      (no_strips a.header strip_height a.places a.places refl) refl refl refl (inr asked)

  -- it was
  pub at_first : (half : HalvingView) (room : List ℕ) → strips_of a.header strip_height ≤ a.spare → a.spare ≤ b.spare + 1 → KeepsReader a b
      → RowsAsked a.header (0 * strip_height) (strip_rows a.header strip_height 0) false a.places b.places → IsHalvedTo a.header 0 half
      → ((p : ImageView) → p.depth ≡ half.depth → p.width ≡ half.width → p.height ≡ half.height → HalvesFront p half)
      → IfSome a.known (λ bytes. HoldsStrip a.header 0 bytes room) → IsAtStrip 0 a b half room
  at_first half room enough spare kept asked to begun holds = record {
    kept = kept;
    read = more_strips a.header a.header strip_height 0 (0 * strip_height) (strip_rows a.header strip_height 0) a.places a.places b.places
        (no_strips a.header strip_height a.places a.places refl) refl refl refl asked;
    spare = omega (arith, enough, spare);
    to = to;
    holds = λ bytes is. if_known a.known (λ bytes. HoldsStrip a.header 0 bytes room) bytes is holds;
    halves = λ bytes is. begun (texture_of a.header bytes) (sym to.depth) (sym to.width) (sym to.height);
  }

  module _ (i : ℕ) (half : HalvingView) (front : List ℕ) (at : IsAtStrip i a b half front) where
    -- the next one was not read
    pub next_lost : (c : ReaderState) → i + 1 < strips_of a.header strip_height
        → RowsAsked b.header ((i + 1) * strip_height) (strip_rows b.header strip_height (i + 1)) true b.places c.places
        → StripsTried a.header strip_height a.places c.places
    next_lost c few asked =
        strip_tried a.header b.header strip_height (i + 1) ((i + 1) * strip_height) (strip_rows b.header strip_height (i + 1)) a.places b.places c.places
        few at.read at.kept.header refl (ap (λ (z : Header). strip_rows z strip_height (i + 1)) at.kept.header) (inr asked)

    -- the strip is halved
    pub halves_strip : (half' : HalvingView) → i < strips_of a.header strip_height → IsTextureIfKnown a.known a.header
        → ((p : ImageView) → HalvesFront p half → IsPiece p.samples (i * strip_height * row_length b.header) (take (strip_length b.header i) front)
        → HalvesFront p half')
        → (bytes : List ℕ) → a.known ≡ Some bytes → HalvesFront (texture_of a.header bytes) half'
    halves_strip half' inside texture halve bytes is =
        halve (texture_of a.header bytes) (at.halves bytes is)
        (subst (λ (z : Header). IsPiece (texture_of a.header bytes).samples (i * strip_height * row_length z) (take (strip_length z i) front)) (sym at.kept.header)
        (strip_is_piece a.header i bytes front inside (texture.each bytes is).image.full (at.holds bytes is)))

    -- one strip more
    pub at_next : (c : ReaderState) (half' : HalvingView) (back : List ℕ) → i + 1 < strips_of a.header strip_height → IsTextureIfKnown a.known a.header
        → KeepsReader b c → b.spare ≤ c.spare + 1
        → RowsAsked b.header ((i + 1) * strip_height) (strip_rows b.header strip_height (i + 1)) false b.places c.places
        → IsHalvedTo b.header (i + 1) half'
        → ((p : ImageView) → HalvesFront p half → IsPiece p.samples (i * strip_height * row_length b.header) (take (strip_length b.header i) front)
        → HalvesFront p half')
        → IfSome b.known (λ bytes. HoldsStrip b.header (i + 1) bytes back) → IsAtStrip (i + 1) a c half' back
    at_next c half' back few texture kept spare asked to halve holds = record {
      kept = keeps_on a b c at.kept kept;
      read = more_strips a.header b.header strip_height (i + 1) ((i + 1) * strip_height) (strip_rows b.header strip_height (i + 1)) a.places b.places
          c.places at.read at.kept.header refl (ap (λ (z : Header). strip_rows z strip_height (i + 1)) at.kept.header) asked;
      spare = omega (arith, at.spare, spare);
      to = subst (λ (z : Header). IsHalvedTo z (i + 1) half') at.kept.header to;
      holds = λ bytes is. subst (λ (z : Header). HoldsStrip z (i + 1) bytes back) at.kept.header
          (if_known b.known (λ bytes. HoldsStrip b.header (i + 1) bytes back) bytes (at.kept.known ∙ is) holds);
      halves = halves_strip half' (omega arith) texture halve;
    }

-- after the last strip all rows were taken
pub last_rows : (h : Header) (i : ℕ) → i + 1 ≡ strips_of h strip_height → i * strip_height + strip_rows h strip_height i ≡ h.height
last_rows h i all = omega (arith, all)
