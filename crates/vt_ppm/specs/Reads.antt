-- What the readers ask of a file: a prefix that holds the header, and then the raster.
use Rattle.std.specs.Prelude.{◌≡◌, ℕ, ◌+◌, ◌*◌, ◌≤◌, true, false, List, [], ◌∷◌, ◌++◌, length, take, Option, option_map, IfSome, Result, Ok, Err}
use Rattle.vt_definitions.specs.Depths.{texel_length}
use Rattle.vt_definitions.specs.Limits.{header_limit, most_read_side}
use Rattle.vt_outside.specs.declared.place.Place.{Place}
use Rattle.vt_outside.specs.Files.{noted}
use Rattle.vt_ppm.specs.declared.error.PpmError.{PpmError}
use Rattle.vt_ppm.specs.declared.error.PpmError.TheVariants.{SampleOver, Failed, NoMemory}
use Rattle.vt_ppm.specs.Format.{depth_of}
use Rattle.vt_ppm.specs.Flaws.{IsLawfulHeader}

-- where a header is looked for: from byte 0 on, no more bytes than a header may have, and no more than there are
pub record IsFrontPlace (known : Option (List ℕ)) (place : Place) : Type 0 where
  pub from : place.at ≡ 0
  pub few : place.len ≤ header_limit
  pub within : IfSome known (λ b. place.len ≤ length b)

-- where the raster is: behind the header, so many bytes as it has, all of which are there
pub record IsRasterPlace (known : Option (List ℕ)) (place : Place) : Type 0 where
  pub width : ℕ
  pub height : ℕ
  pub maximum : ℕ
  pub behind : IfSome known (λ b. IsLawfulHeader most_read_side b place.at width height maximum)
  pub whole : place.len ≡ texel_length (depth_of maximum) * (width * height)
  pub within : IfSome known (λ b. place.at + place.len ≤ length b)

-- the places that are asked for a header: none, or one
abbrev pub AreHeaderPlaces : Option (List ℕ) → List Place → Type 0
AreHeaderPlaces known [] = Unit {0}
AreHeaderPlaces known (front ∷ []) = IsFrontPlace known front
AreHeaderPlaces known (front ∷ _ ∷ _) = ⊥

-- the places that are asked for an image: those for its header, and once that was read, that of the raster
abbrev pub AreImagePlaces : Option (List ℕ) → List Place → Type 0
AreImagePlaces known [] = Unit {0}
AreImagePlaces known (front ∷ []) = IsFrontPlace known front
AreImagePlaces known (front ∷ raster ∷ []) = IsFrontPlace known front × (front.failed ≡ false) × IsRasterPlace known raster
AreImagePlaces known (front ∷ raster ∷ _ ∷ _) = ⊥

-- the places after are those before and then these
abbrev pub Gains : Option (List Place) → Option (List Place) → List Place → Type 0
Gains before after places = after ≡ option_map (λ held. held ++ places) before

-- a reader of headers asked for its places and no other
pub record AsksPpmHeader (known : Option (List ℕ)) (before after : Option (List Place)) : Type 0 where
  pub places : List Place
  pub gained : Gains before after places
  pub each : AreHeaderPlaces known places

-- a reader of images asked for its places and no other
pub record AsksImage (known : Option (List ℕ)) (before after : Option (List Place)) : Type 0 where
  pub places : List Place
  pub gained : Gains before after places
  pub each : AreImagePlaces known places

-- the front was asked for, alone, and that did not fail
pub record ReadsFront (known : Option (List ℕ)) (before after : Option (List Place)) : Type 0 where
  pub front : Place
  pub gained : Gains before after (front ∷ [])
  pub is_front : IsFrontPlace known front
  pub read : front.failed ≡ false

-- the front and then the raster were asked for, and neither failed
pub record ReadsRaster (known : Option (List ℕ)) (before after : Option (List Place)) : Type 0 where
  pub front : Place
  pub raster : Place
  pub gained : Gains before after (front ∷ raster ∷ [])
  pub is_front : IsFrontPlace known front
  pub front_read : front.failed ≡ false
  pub is_raster : IsRasterPlace known raster
  pub raster_read : raster.failed ≡ false

-- an answer about a header comes once the front was read
abbrev pub AnswersOfHeader : {T : Type 0} → Result T PpmError → Option (List ℕ) → Option (List Place) → Option (List Place) → Type 0
AnswersOfHeader (Err Failed) known before after = Unit {0}
AnswersOfHeader (Err NoMemory) known before after = Unit {0}
AnswersOfHeader _ known before after = ReadsFront known before after

-- an answer about samples comes once the raster was read, and one about the header or the length once the front was
abbrev pub AnswersOfImage : {T : Type 0} → Result T PpmError → Option (List ℕ) → Option (List Place) → Option (List Place) → Type 0
AnswersOfImage (Ok _) known before after = ReadsRaster known before after
AnswersOfImage (Err (SampleOver at)) known before after = ReadsRaster known before after
AnswersOfImage (Err Failed) known before after = Unit {0}
AnswersOfImage (Err NoMemory) known before after = Unit {0}
AnswersOfImage (Err _) known before after = ReadsFront known before after

-- a read is noted with whether it failed, and none is made where the memory for it was refused
abbrev pub NotesRead : {T : Type 0} → Result T PpmError → ℕ → ℕ → Option (List Place) → Option (List Place) → Type 0
NotesRead (Ok _) at len before after = after ≡ option_map (noted at len false) before
NotesRead (Err NoMemory) at len before after = after ≡ before
NotesRead (Err _) at len before after = after ≡ option_map (noted at len true) before

-- the number of the bytes, and as many of the first ones as a header may have
pub record IsImagePrefix (b : List ℕ) (len : ℕ) (front : List ℕ) : Type 0 where
  pub len_is : len ≡ length b
  pub front_is : front ≡ take header_limit b
