-- The strips of a texture that were read and halved, from the first one on.
use Rattle.std.proofs.Common.{◌≡◌, ℕ, ◌+◌, ◌*◌, ◌<◌, ◌≤◌, inl, inr, Some, List, refl, sym, ap, ◌∙◌, subst, arith}
use Rattle.vt_ppm.specs.declared.header.Header.{Header}
use Rattle.vt_ppm.specs.Format.{depth_of}
use Rattle.vt_ppm.specs.StripPlaces.{strip_rows, strips_of, StripsTried}
use Rattle.vt_ppm.specs.Strips.{texture_of}
use Rattle.vt_ppm.proofs.StripPlaces.{more_strips, no_strips, strips_front, strip_tried}
use Rattle.vt_mip.specs.TakenRows.{HalvingView, HalvesFront}
use Rattle.vt_pages.specs.Shape.{Shape, shape_of}
use Rattle.vt_pages.specs.Pages.{IsWithinLimits, rows_at}
use Rattle.vt_store.specs.Rounds.{StripsRead}
use Rattle.vt_store.specs.StripStores.{strip_tiles}
use Rattle.vt_store.specs.StripSteps.{StripsState, KeepsStrips, IsNextStrip, StripMade, StripTried}
use Rattle.vt_store.proofs.StripLevels.{strips_are, strip_low, next_taken}

-- nothing is lost where nothing was done
pub keeps_none : (a : StripsState) → KeepsStrips a a
keeps_none a = record { known = refl; called = refl; header = refl; tile = refl; faults = omega arith }

pub keeps_on : (a b c : StripsState) → KeepsStrips a b → KeepsStrips b c → KeepsStrips a c
keeps_on a b c p q = record {
  known = q.known ∙ p.known;
  called = q.called ∙ p.called;
  header = q.header ∙ p.header;
  tile = q.tile ∙ p.tile;
  faults = omega (arith, p.faults, q.faults);
}

module _ (s : Shape) (a : StripsState) (first : IsNextStrip s 0 a) (limits : IsWithinLimits s) where
  pub high : a.header.height ≡ s.height
  high = ap (λ (z : Shape). z.height) first.shape

  pub some_tile : 1 ≤ s.tile
  some_tile = omega (arith, limits.least_tile)

  pub all_strips : strips_of a.header s.tile ≡ rows_at s 0
  all_strips = strips_are s a.header.height s.tile high refl

  -- none was read
  pub read_none : rows_at s 0 ≤ a.spare → StripsRead s 0 a a
  read_none enough = record {
    few = omega arith;
    read = no_strips a.header s.tile a.places a.places refl;
    spare = omega (arith, enough);
    kept = keeps_none a;
    taken = omega (arith, first.taken);
    depth = refl;
    width = refl;
    height = refl;
    halves = λ bytes is half. half;
  }

  module _ (i : ℕ) (b : StripsState) (was : StripsRead s i a b) where
    -- the next one may be made
    pub read_next : i < rows_at s 0 → IsNextStrip s i b
    read_next inside =
        let low = strip_low s i some_tile inside in
        record {
          shape = ap (λ (h : Header). shape_of h.width h.height b.tile) was.kept.header
              ∙ ap (λ (t : ℕ). shape_of a.header.width a.header.height t) was.kept.tile ∙ first.shape;
          inside = inside;
          spare = omega (arith, inside, was.spare);
          depth = was.depth ∙ first.depth ∙ ap (λ (h : Header). depth_of h.maximum) (sym was.kept.header);
          width = was.width ∙ first.width ∙ ap (λ (h : Header). h.width) (sym was.kept.header);
          height = was.height ∙ first.height ∙ ap (λ (h : Header). h.height) (sym was.kept.header);
          taken = omega (arith, low, high, was.taken);
        }

    -- its tiles are those of the texture that was there at first
    pub row_known : (c : StripsState) (row : List ℕ) → StripMade s i b c row → (bytes : List ℕ) → a.known ≡ Some bytes
        → row ≡ strip_tiles s a.header i bytes
    row_known c row made bytes is = made.tiles bytes (was.kept.known ∙ is) ∙ ap (λ (z : Header). strip_tiles s z i bytes) was.kept.header

    -- and with it the first ones were read
    pub read_more : (c : StripsState) (row : List ℕ) → i < rows_at s 0 → StripMade s i b c row → KeepsStrips b c → b.spare ≤ c.spare + 1
        → StripsRead s (i + 1) a c
    read_more c row inside made kept spare =
        let e = was.kept.header in
        record {
          few = omega (arith, inside);
          read = more_strips a.header b.header s.tile i (i * s.tile) (strip_rows b.header s.tile i) a.places b.places c.places
              was.read e refl (ap (λ (z : Header). strip_rows z s.tile i) e) made.read;
          spare = omega (arith, was.spare, spare);
          kept = keeps_on a b c was.kept kept;
          depth = made.depth ∙ was.depth;
          width = made.width ∙ was.width;
          height = made.height ∙ was.height;
          taken = made.taken ∙ ap (λ (x : ℕ). x + strip_rows b.header s.tile i) (read_next inside).taken
              ∙ ap (λ (z : Header). i * s.tile + strip_rows z s.tile i) e
              ∙ next_taken s a.header i high some_tile inside;
          halves = λ bytes is half.
              let Half : Header → HalvingView → Type 0 = λ z v. HalvesFront (texture_of z bytes) v in
              subst (λ (z : Header). Half z c.half) e
              (made.halves bytes (was.kept.known ∙ is) (subst (λ (z : Header). Half z b.half) (sym e) (was.halves bytes is half)));
        }

    -- they are a prefix of all
    pub read_front : StripsTried a.header s.tile a.places b.places
    read_front = strips_front a.header s.tile i a.places b.places (omega (arith, all_strips, was.few)) was.read

    -- also where the next one was tried
    pub read_tried : (c : StripsState) → i < rows_at s 0 → StripTried s i b c → StripsTried a.header s.tile a.places c.places
    read_tried c inside (inl same) =
        strips_front a.header s.tile i a.places c.places (omega (arith, all_strips, was.few)) (same ∙ was.read)
    read_tried c inside (inr one) =
        strip_tried a.header b.header s.tile i (i * s.tile) (strip_rows b.header s.tile i) a.places b.places c.places
        (omega (arith, all_strips, inside)) was.read was.kept.header refl (ap (λ (z : Header). strip_rows z s.tile i) was.kept.header) one
