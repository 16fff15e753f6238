-- Textures as inputs whose sides are bounded: why they are refused, and what is asked of them.
use Rattle.std.proofs.Common.{◌≡◌, ℕ, List, Option, Some, None, Ok, refl, sym, ap, subst, ◌∙◌, inl, inr}
use Rattle.std.specs.Prelude.{IfSome}
use Rattle.vt_outside.specs.Counts.{Rose}
use Rattle.vt_ppm.specs.declared.error.PpmError.{PpmError}
use Rattle.vt_ppm.specs.declared.error.PpmError.TheVariants as ppm
use Rattle.vt_ppm.specs.declared.header.Header.{Header}
use Rattle.vt_ppm.specs.Flaws.{AreImageSides, IsFlawUpTo, IsHeaderFlaw}
use Rattle.vt_ppm.specs.Reads.{AreImagePlaces}
use Rattle.vt_ppm.specs.Refusals.{IsPpmOutsideRefusal, IsSampleRefusal, IsCheckRefusal}
use Rattle.vt_ppm.specs.Strips.{HasRasterIfKnown}
use Rattle.vt_ppm.proofs.ImageLaws.{sample_flaw_within_sides}
use Rattle.vt_command_inputs.specs.Flaws.{flaw_of_texture}
use Rattle.vt_command_inputs.specs.Inputs.{Input, PathInput, TextureInput, TiledTexture, StoreInput, NarrowStore, PagedStore, JournalInput, IsFlawOf, FlawFits, MayAsk, AsksStrips, IsTextureUpTo, name_of}
use Rattle.vt_command_inputs.specs.Reads.{Visit, Visits, IsCausedIn}
use Rattle.vt_command_inputs.specs.Refusals.{IsRefusalOf}
use Rattle.vt_command_inputs.specs.declared.flaws.Flaw.{Flaw}
use Rattle.vt_command_inputs.specs.declared.flaws.Flaw.TheVariants as flaws
use Rattle.vt_command_inputs.specs.declared.refusal.Refusal.{Refusal}
use Rattle.vt_command_inputs.specs.declared.refusal.Refusal.TheVariants.{NoMemory, Usage, Fault, Flawed, TooFewFrames, DoesNotFit}

-- what is so of bytes that are known
each_known : (P Q : List ℕ → Type 0) (known : Option (List ℕ)) → ((b : List ℕ) → P b → Q b) → IfSome known P → IfSome known Q
each_known P Q None all so = tt
each_known P Q (Some b) all so = all b so

-- a flaw of a texture is one of the input
input_flaw : (input : Input) (most : ℕ) (name : List ℕ) (known : Option (List ℕ)) (e : PpmError) (flaw : Flaw) → IsTextureUpTo name most input
    → flaw_of_texture e ≡ Ok flaw → IfSome known (λ b. IsFlawUpTo most b e)
    → (name ≡ name_of input) × FlawFits input flaw × IfSome known (λ b. IsFlawOf input b flaw)
input_flaw (TextureInput named) most name known e flaw up is so = (
  sym up.0,
  (e, is),
  each_known (λ b. IsFlawUpTo most b e) (λ b. IsFlawOf (TextureInput named) b flaw) known
      (λ b h. (e, subst (λ (n : ℕ). IsFlawUpTo n b e) up.1 h, is)) so,
)
input_flaw (TiledTexture named tile) most name known e flaw up is so = (
  sym up.0,
  inl (e, is),
  each_known (λ b. IsFlawUpTo most b e) (λ b. IsFlawOf (TiledTexture named tile) b flaw) known
      (λ b h. inl (e, subst (λ (n : ℕ). IsFlawUpTo n b e) up.1 h, is)) so,
)
input_flaw (PathInput named) most name known e flaw up is so = absurd up
input_flaw (StoreInput named) most name known e flaw up is so = absurd up
input_flaw (NarrowStore named) most name known e flaw up is so = absurd up
input_flaw (PagedStore named) most name known e flaw up is so = absurd up
input_flaw (JournalInput named) most name known e flaw up is so = absurd up

flawed : (input : Input) (most : ℕ) (name : List ℕ) (v : Visit) (e : PpmError) (flaw : Flaw) (refusal : Refusal) → IsTextureUpTo name most input
    → flaw_of_texture e ≡ Ok flaw → IsRefusalOf name (Ok flaw) refusal → IfSome v.before.bytes (λ b. IsFlawUpTo most b e) → IsCausedIn input v refusal
flawed input most name v e flaw NoMemory up is h so = absurd h
flawed input most name v e flaw Usage up is h so = absurd h
flawed input most name v e flaw Fault up is h so = absurd h
flawed input most name v e flaw (TooFewFrames frames needed) up is h so = absurd h
flawed input most name v e flaw (DoesNotFit picture wanted room) up is h so = absurd h
flawed input most name v e flaw (Flawed named found) up is h so =
    let all = input_flaw input most name v.before.bytes e found up (is ∙ ap Ok (sym h.1)) so in
    (h.0 ∙ all.0, all.1, all.2)

-- why a texture in an open file was refused
pub texture_caused : (input : Input) (most : ℕ) (name : List ℕ) (v : Visit) (e : PpmError) (refusal : Refusal) → IsTextureUpTo name most input
    → IsRefusalOf name (flaw_of_texture e) refusal → ((IsPpmOutsideRefusal e → ⊥) → IfSome v.before.bytes (λ b. IsFlawUpTo most b e))
    → (e ≡ ppm.Failed → Rose v.before.faults v.after.faults) → IsCausedIn input v refusal
texture_caused input most name v ppm.BadMagic refusal up is so failed =
    flawed input most name v ppm.BadMagic flaws.BadMagic refusal up refl is (so (λ (no : ⊥). no))
texture_caused input most name v (ppm.BadHeader at) refusal up is so failed =
    flawed input most name v (ppm.BadHeader at) (flaws.BadHeader at) refusal up refl is (so (λ (no : ⊥). no))
texture_caused input most name v ppm.BadSize refusal up is so failed =
    flawed input most name v ppm.BadSize flaws.BadSize refusal up refl is (so (λ (no : ⊥). no))
texture_caused input most name v ppm.BadMaximum refusal up is so failed =
    flawed input most name v ppm.BadMaximum flaws.BadMaximum refusal up refl is (so (λ (no : ⊥). no))
texture_caused input most name v (ppm.Truncated want have) refusal up is so failed =
    flawed input most name v (ppm.Truncated want have) (flaws.Truncated want have) refusal up refl is (so (λ (no : ⊥). no))
texture_caused input most name v (ppm.SampleOver at) refusal up is so failed =
    flawed input most name v (ppm.SampleOver at) (flaws.SampleOver at) refusal up refl is (so (λ (no : ⊥). no))
texture_caused input most name v ppm.Failed refusal up is so failed = subst (λ (r : Refusal). IsCausedIn input v r) (sym is) (failed refl)
texture_caused input most name v ppm.NoMemory refusal up is so failed = subst (λ (r : Refusal). IsCausedIn input v r) (sym is) tt

sample_within : (most : ℕ) (known : Option (List ℕ)) (h : Header) (at : ℕ) → HasRasterIfKnown known h → AreImageSides most h.width h.height
    → IfSome known (λ b. IsHeaderFlaw b (ppm.SampleOver at)) → IfSome known (λ b. IsFlawUpTo most b (ppm.SampleOver at))
sample_within most None h at has sides so = tt
sample_within most (Some b) h at has sides so = sample_flaw_within_sides most b h at (has.each b refl) sides so

-- a flaw of the samples, where the sides of the header are within a number
pub check_flaw : (most : ℕ) (known : Option (List ℕ)) (h : Header) (e : PpmError) → HasRasterIfKnown known h → AreImageSides most h.width h.height
    → IsCheckRefusal e → (IsSampleRefusal e → IfSome known (λ b. IsHeaderFlaw b e)) → (IsPpmOutsideRefusal e → ⊥) → IfSome known (λ b. IsFlawUpTo most b e)
check_flaw most known h (ppm.SampleOver at) has sides check so inside = sample_within most known h at has sides (so tt)
check_flaw most known h ppm.Failed has sides check so inside = absurd (inside tt)
check_flaw most known h ppm.BadMagic has sides check so inside = absurd check
check_flaw most known h (ppm.BadHeader at) has sides check so inside = absurd check
check_flaw most known h ppm.BadSize has sides check so inside = absurd check
check_flaw most known h ppm.BadMaximum has sides check so inside = absurd check
check_flaw most known h (ppm.Truncated want have) has sides check so inside = absurd check
check_flaw most known h ppm.NoMemory has sides check so inside = absurd check

-- places of strips may be asked of a texture, whatever its sides
pub strips_visited : (input : Input) (most : ℕ) (name : List ℕ) (v : Visit) → IsTextureUpTo name most input
    → ((tile : ℕ) → Visits (AsksStrips tile) v) → Visits (MayAsk input) v
strips_visited (TextureInput named) most name v up h =
    let one = h 128 in
    record { places = one.places; may = inr one.may; asked = one.asked; bytes = one.bytes; name = one.name; faults = one.faults }
strips_visited (TiledTexture named tile) most name v up h = h tile
strips_visited (PathInput named) most name v up h = absurd up
strips_visited (StoreInput named) most name v up h = absurd up
strips_visited (NarrowStore named) most name v up h = absurd up
strips_visited (PagedStore named) most name v up h = absurd up
strips_visited (JournalInput named) most name v up h = absurd up

-- and so may the raster at once
pub image_visited : (named : List ℕ) (v : Visit) → Visits AreImagePlaces v → Visits (MayAsk (TextureInput named)) v
image_visited named v h =
    record { places = h.places; may = inl h.may; asked = h.asked; bytes = h.bytes; name = h.name; faults = h.faults }

-- the name of a texture
pub texture_named : (input : Input) (most : ℕ) (name : List ℕ) → IsTextureUpTo name most input → name_of input ≡ name
texture_named (TextureInput named) most name up = up.0
texture_named (TiledTexture named tile) most name up = up.0
texture_named (PathInput named) most name up = absurd up
texture_named (StoreInput named) most name up = absurd up
texture_named (NarrowStore named) most name up = absurd up
texture_named (PagedStore named) most name up = absurd up
texture_named (JournalInput named) most name up = absurd up
