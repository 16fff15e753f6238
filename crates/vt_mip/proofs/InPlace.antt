-- Rows that are halved in the memory of their raster.
use Rattle.std.proofs.Common.{◌≡◌, ℕ, ◌+◌, ◌-◌, ◌*◌, ◌/◌, ◌%◌, ◌<◌, ◌≤◌, List, length, take, drop, min, sym, ap, ◌∙◌, subst, arith}
use Rattle.std.proofs.lemmas.List.{drop-drop, length-drop, length-take-le}
use Rattle.std.proofs.lemmas.Nat.{mul-add-lt, mul-le}
use Rattle.std.proofs.Math.Nat.{mul-le-mul_left}
use borrow.Rule.Slice.PartMut.{put_mid, drop_put}
use Rattle.vt_ppm.specs.Depths.{texel_length}
use Rattle.vt_ppm.specs.Files.{IsPiece}
use Rattle.vt_ppm.specs.Image.{ImageView}
use Rattle.vt_mip.specs.Chains.{halved}
use Rattle.vt_box_filter.specs.HalvedRows.{IsHalvedRow}
use Rattle.vt_mip.specs.Halves.{IsHalf, IsHalvedRaster, raster_sample}
use Rattle.vt_mip.specs.InPlace.{IsShrunk, ShrinksFront}
use Rattle.vt_mip.specs.TakenRows.{HalvingView}
use Rattle.vt_box_filter.proofs.PartSamples.{cut_sample}
use Rattle.vt_mip.proofs.Rasters.{next_row}

-- what is the same from a place on is the same from a later one on
further : (a b : ℕ) (l m : List ℕ) → a ≤ b → drop a l ≡ drop a m → drop b l ≡ drop b m
further a b l m later same =
    let on : a + (b - a) ≡ b = omega arith in
    sym (drop-drop (b - a) a l ∙ ap (λ (n : ℕ). drop n l) on) ∙ ap (drop (b - a)) same ∙ drop-drop (b - a) a m ∙ ap (λ (n : ℕ). drop n m) on

-- one pair of rows more
pub next_pair : (d w h n at below j j' to end : ℕ) (source old row : List ℕ) → 1 ≤ w → 1 ≤ h → n < (h + 1) / 2 → at ≡ d * (3 * w * (2 * n))
    → below ≡ d * (3 * w * min (2 * n + 1) (h - 1)) → j ≡ d * (3 * w) → j' ≡ d * (3 * w) → to ≡ d * (3 * ((w + 1) / 2) * n)
    → end ≡ to + d * (3 * ((w + 1) / 2)) → end ≤ length old → length row ≡ d * (3 * ((w + 1) / 2))
    → IsHalvedRow d (take j (drop at old)) (take j' (drop below old)) w ((w + 1) / 2) row
    → IsShrunk d source w h n old → IsShrunk d source w h (n + 1) (put_mid to (end - to) old row)
next_pair d w h n at below j j' to end source old row wide high some e f g g' put ends fits full halved before =
    let v : ℕ = (w + 1) / 2 in
    let from : drop at old ≡ drop at source =
    ap (λ (q : ℕ). drop q old) e ∙ before.rest ∙ ap (λ (q : ℕ). drop q source) (sym e) in
    let lower : at ≤ below =
    (let more : d * (3 * w) * (2 * n) ≤ d * (3 * w) * min (2 * n + 1) (h - 1) = mul-le-mul_left (d * (3 * w)) (omega arith) in omega (arith, more, e, f)) in
    let under : drop below old ≡ drop below source = further at below old source lower from in
    let last : ℕ = d * (3 * w * (2 * (n + 1))) in
    let past : end ≤ last =
    (let more : v * (n + 1) ≤ w * (2 * (n + 1)) = mul-le v (n + 1) w (2 * (n + 1)) (omega arith) (omega arith) in
    let all : 3 * d * (v * (n + 1)) ≤ 3 * d * (w * (2 * (n + 1))) = mul-le-mul_left (3 * d) more in omega (arith, all, put, ends)) in
    let later : at ≤ last = (let more : d * (3 * w) * (2 * n) ≤ d * (3 * w) * (2 * (n + 1)) = mul-le-mul_left (d * (3 * w)) (omega arith) in omega
    (arith, more, e)) in
    record {
      halved = next_row d source old row w h n at below j j' to (end - to) wide high some e f g g' put (omega (arith, ends, fits)) full before.halved
          (subst (λ l. IsHalvedRow d (take j l) (take j' (drop below source)) w v row) from
          (subst (λ l. IsHalvedRow d (take j (drop at old)) (take j' l) w v row) under halved));
      rest = further end last (put_mid to (end - to) old row) old past
          (drop_put to end old row (omega (arith, ends)) fits (omega (arith, full, ends)))
          ∙ further at last old source later from;
    }

-- rows lie within their raster
pub rows_inside : (z d w h t c m : ℕ) → z ≡ texel_length d → m ≡ texel_length d * (w * h) → t + c ≤ h → z * w * t + z * w * c ≤ m
rows_inside z d w h t c m e full inside =
    let more : z * w * (t + c) ≤ z * w * h = mul-le-mul_left (z * w) inside in
    let whole : m ≡ z * (w * h) = full ∙ ap (λ (n : ℕ). n * (w * h)) (sym e) in omega (arith, more, whole)

-- the rows behind those that were taken are the image's
pub shrunk_piece : (p : ImageView) (v : HalvingView) (from m : ℕ) (samples : List ℕ) → samples ≡ v.samples → v.taken % 2 ≡ 0
    → from ≡ texel_length v.depth * (v.width * v.taken) → from + m ≤ length samples → ShrinksFront p v
    → IsPiece p.samples (texel_length p.depth * (p.width * v.taken)) (take m (drop from samples))
shrunk_piece p v from m samples same even begins inside front =
    let d : ℕ = v.depth in
    let w : ℕ = v.width in
    let twice : v.taken ≡ 2 * ((v.taken + 1) / 2) = omega arith in
    let place : from ≡ d * (3 * w * (2 * ((v.taken + 1) / 2))) =
    begins ∙ ap (λ (n : ℕ). texel_length d * (w * n)) twice ∙ omega arith in
    let at : from ≡ texel_length p.depth * (p.width * v.taken) =
    begins ∙ ap (λ (n : ℕ). texel_length n * (w * v.taken)) front.depth ∙ ap (λ (n : ℕ). texel_length p.depth * (n * v.taken)) front.columns in
    let rest : drop from samples ≡ drop from p.samples =
    ap (drop from) same ∙ ap (λ (n : ℕ). drop n v.samples) place ∙ front.shrunk.rest ∙ ap (λ (n : ℕ). drop n p.samples) (sym place) in
    let long : length (take m (drop from samples)) ≡ m = length-take-le m (drop from samples) (omega (arith, length-drop from samples, inside)) in
    let full : length samples ≡ length p.samples = ap length same ∙ front.full in
    record {
      within = omega (arith, at, long, inside, full);
      same = ap (take m) rest ∙ ap (λ (n : ℕ). take n (drop from p.samples)) (sym long)
          ∙ ap (λ (n : ℕ). take (length (take m (drop from samples))) (drop n p.samples)) at;
    }

-- the front of a raster whose pairs of rows are all halved is its half
pub shrunk_half : (p q : ImageView) (v : HalvingView) (n : ℕ) → v.taken ≡ v.height
    → n ≡ texel_length v.depth * ((v.width + 1) / 2 * ((v.height + 1) / 2))
    → q ≡ record { depth = v.depth; width = (v.width + 1) / 2; height = (v.height + 1) / 2; samples = take n v.samples } → ShrinksFront p v → IsHalf p q
shrunk_half p q v n all size made front = rw made (record {
  depth = front.depth;
  columns = ap (λ (m : ℕ). (m + 1) / 2) front.columns;
  rows = ap (λ (m : ℕ). (m + 1) / 2) front.rows;
  raster = rw (← front.depth, ← front.columns, ← front.rows) (record { each = each });
}) where
  each : (x y c : ℕ) → x < (v.width + 1) / 2 → y < (v.height + 1) / 2 → c < 3
      → raster_sample v.depth (take n v.samples) ((v.width + 1) / 2) x y c
      ≡ halved (λ i j. raster_sample v.depth p.samples v.width i j c) v.width v.height x y
  each x y c a b r =
      let half : ℕ = (v.width + 1) / 2 in
      let high : ℕ = (v.height + 1) / 2 in
      let low : y * half + x < half * high = mul-add-lt y half x high b a in
      cut_sample v.depth v.samples 0 (3 * half * high) 0 n (3 * (y * half + x) + c) (3 * (y * half + x) + c) (omega arith)
      (size ∙ omega arith) (omega (arith, low)) (omega arith)
      ∙ front.shrunk.halved.each x y c a (omega (arith, all, b)) r

-- the image of a raster that is halved is the half
pub half_made : (p q : ImageView) (d w h : ℕ) (source out made : List ℕ) → q ≡ record { depth = d; width = (w + 1) / 2; height = (h + 1) / 2; samples = made }
    → made ≡ out → d ≡ p.depth → w ≡ p.width → h ≡ p.height → source ≡ p.samples → IsHalvedRaster d source w h ((h + 1) / 2) out → IsHalf p q
half_made p q d w h source out made e em ed ew eh es raster = rw e (record {
  depth = ed;
  columns = ap (λ (n : ℕ). (n + 1) / 2) ew;
  rows = ap (λ (n : ℕ). (n + 1) / 2) eh;
  raster = rw (← ed, ← ew, ← eh, ← es, em) raster;
})

-- what callers see of it, where more pairs of rows are halved
pub shrinks_on : (p : ImageView) (v u : HalvingView) (a b : ℕ) → u.depth ≡ v.depth → u.width ≡ v.width → u.height ≡ v.height
    → length u.samples ≡ length v.samples → (v.taken + 1) / 2 ≡ a → (u.taken + 1) / 2 ≡ b
    → ((source : List ℕ) → IsShrunk v.depth source v.width v.height a v.samples → IsShrunk v.depth source v.width v.height b u.samples)
    → ShrinksFront p v → ShrinksFront p u
shrinks_on p v u a b ed ew eh full ea eb more before = record {
  depth = ed ∙ before.depth;
  columns = ew ∙ before.columns;
  rows = eh ∙ before.rows;
  full = full ∙ before.full;
  shrunk = rw (ed, ew, eh) (subst (λ (n : ℕ). IsShrunk v.depth p.samples v.width v.height n u.samples) (sym eb)
      (more p.samples (subst (λ (n : ℕ). IsShrunk v.depth p.samples v.width v.height n v.samples) ea before.shrunk)));
}

-- the half of an image's samples is as long as the half of the image wants
pub half_full : (d w h n : ℕ) (samples : List ℕ) → 1 ≤ w → 1 ≤ h → n ≡ texel_length d * ((w + 1) / 2 * ((h + 1) / 2))
    → length samples ≡ texel_length d * (w * h) → length (take n samples) ≡ texel_length d * ((w + 1) / 2 * ((h + 1) / 2))
half_full d w h n samples wide high size full =
    let less : (w + 1) / 2 * ((h + 1) / 2) ≤ w * h = mul-le ((w + 1) / 2) ((h + 1) / 2) w h (omega (arith, wide)) (omega (arith, high)) in
    let all : texel_length d * ((w + 1) / 2 * ((h + 1) / 2)) ≤ texel_length d * (w * h) = mul-le-mul_left (texel_length d) less in
    length-take-le n samples (omega (arith, size, full, all)) ∙ size
