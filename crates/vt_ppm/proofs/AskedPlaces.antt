-- The places that a file was asked for, from one call to the next.
use Rattle.std.proofs.Common.{◌≡◌, ℕ, ◌+◌, ◌-◌, ◌*◌, ◌≤◌, true, false, List, [], ◌∷◌, ◌++◌, length, min, Option, Some, None, option_map, IfSome, Result, Ok, Err, refl, sym, ap, ◌∙◌, subst, arith, append_assoc}
use Rattle.std.proofs.lemmas.List.{append-nil}
use Rattle.vt_definitions.specs.Depths.{texel_length}
use Rattle.vt_definitions.specs.Limits.{header_limit, most_read_side}
use Rattle.vt_outside.specs.declared.place.Place.{Place}
use Rattle.vt_outside.specs.Files.{noted}
use Rattle.vt_ppm.specs.declared.error.PpmError.{PpmError}
use Rattle.vt_ppm.specs.declared.error.PpmError.TheVariants.{NoMemory}
use Rattle.vt_ppm.specs.Format.{depth_of}
use Rattle.vt_ppm.specs.Flaws.{IsLawfulHeader}
use Rattle.vt_ppm.specs.Reads.{IsFrontPlace, IsRasterPlace, Gains, AreHeaderPlaces, AreImagePlaces, AsksPpmHeader, AsksImage, ReadsFront, ReadsRaster, NotesRead, IsImagePrefix}
use Rattle.vt_ppm.proofs.KnownFiles.{header_known}

gains_nothing : (o n : Option (List Place)) → n ≡ o → Gains o n []
gains_nothing None n e = e
gains_nothing (Some held) n e = e ∙ ap Some (sym (append-nil held))

gains_both : (o p n : Option (List Place)) (front raster : Place) → Gains o p (front ∷ []) → Gains p n (raster ∷ []) → Gains o n (front ∷ raster ∷ [])
gains_both None p n front raster e f = f ∙ ap (option_map (λ held. held ++ (raster ∷ []))) e
gains_both (Some held) p n front raster e f =
    f ∙ ap (option_map (λ held. held ++ (raster ∷ []))) e ∙ ap Some (append_assoc held (front ∷ []) (raster ∷ []))

-- the front is asked for
module _ (t : Option (List ℕ)) (o p n : Option (List Place)) (len count : ℕ) (same : p ≡ o) (known : IfSome t (λ b. len ≡ length b))
    (is : count ≡ min len header_limit) where
  front_place : (place : Place) → place.at ≡ 0 → place.len ≡ count → IsFrontPlace t place
  front_place place from e = record { from = from; few = omega (arith, e, is); within = inside t known }
    where
      inside : (t : Option (List ℕ)) → IfSome t (λ b. len ≡ length b) → IfSome t (λ b. place.len ≤ length b)
      inside None h = tt
      inside (Some b) h = omega (arith, h, e, is)

  pub asks_front : {T : Type 0} (r : Result T PpmError) → NotesRead r 0 count p n → AsksPpmHeader t o n
  asks_front (Ok v) e = record {
    places = record { at = 0; len = count; failed = false } ∷ [];
    gained = e ∙ ap (option_map (noted 0 count false)) same;
    each = front_place (record { at = 0; len = count; failed = false }) refl refl;
  }
  asks_front (Err NoMemory) e = record { places = []; gained = gains_nothing o n (e ∙ same); each = tt }
  asks_front (Err _) e = record {
    places = record { at = 0; len = count; failed = true } ∷ [];
    gained = e ∙ ap (option_map (noted 0 count true)) same;
    each = front_place (record { at = 0; len = count; failed = true }) refl refl;
  }

  pub reads_front : n ≡ option_map (noted 0 count false) p → ReadsFront t o n
  reads_front e = record {
    front = record { at = 0; len = count; failed = false };
    gained = e ∙ ap (option_map (noted 0 count false)) same;
    is_front = front_place (record { at = 0; len = count; failed = false }) refl refl;
    read = refl;
  }

-- the raster is asked for once the front was read
module _ (t : Option (List ℕ)) (o p n : Option (List Place)) (len r w h m want : ℕ) (bytes : List ℕ) (front : ReadsFront t o p)
    (is : IfSome t (λ b. IsImagePrefix b len bytes)) (few : length bytes ≡ min len header_limit) (header : IsLawfulHeader most_read_side bytes r w h m)
    (whole : want ≡ texel_length (depth_of m) * (w * h)) (enough : want ≤ len - r) where
  raster_place : (place : Place) → place.at ≡ r → place.len ≡ want → IsRasterPlace t place
  raster_place place ea el = record {
    width = w;
    height = h;
    maximum = m;
    behind = subst (λ k. IfSome t (λ b. IsLawfulHeader most_read_side b k w h m)) (sym ea) (header_known most_read_side t len bytes is r w h m header);
    whole = el ∙ whole;
    within = ends t is;
  }
    where
      ends : (t : Option (List ℕ)) → IfSome t (λ b. IsImagePrefix b len bytes) → IfSome t (λ b. place.at + place.len ≤ length b)
      ends None f = tt
      ends (Some b) f = omega (arith, f.len_is, ea, el, few, header.sized.header.within, enough)

  pub asks_raster : {T : Type 0} (result : Result T PpmError) → NotesRead result r want p n → AsksImage t o n
  asks_raster (Ok v) e = record {
    places = front.front ∷ record { at = r; len = want; failed = false } ∷ [];
    gained = gains_both o p n front.front (record { at = r; len = want; failed = false }) front.gained e;
    each = (front.is_front, front.read, raster_place (record { at = r; len = want; failed = false }) refl refl);
  }
  asks_raster (Err NoMemory) e = record { places = front.front ∷ []; gained = e ∙ front.gained; each = front.is_front }
  asks_raster (Err _) e = record {
    places = front.front ∷ record { at = r; len = want; failed = true } ∷ [];
    gained = gains_both o p n front.front (record { at = r; len = want; failed = true }) front.gained e;
    each = (front.is_front, front.read, raster_place (record { at = r; len = want; failed = true }) refl refl);
  }

  pub raster_inside : IfSome t (λ b. r + want ≤ length b)
  raster_inside = (raster_place (record { at = r; len = want; failed = true }) refl refl).within

  pub reads_raster : n ≡ option_map (noted r want false) p → ReadsRaster t o n
  reads_raster e = record {
    front = front.front;
    raster = record { at = r; len = want; failed = false };
    gained = gains_both o p n front.front (record { at = r; len = want; failed = false }) front.gained e;
    is_front = front.is_front;
    front_read = front.read;
    is_raster = raster_place (record { at = r; len = want; failed = false }) refl refl;
    raster_read = refl;
  }

-- nothing is asked for
pub asks_nothing : (t : Option (List ℕ)) (o n : Option (List Place)) → n ≡ o → AsksPpmHeader t o n
asks_nothing t o n same = record { places = []; gained = gains_nothing o n same; each = tt }

-- the front lies in the file
pub front_inside : (t u : Option (List ℕ)) (len count : ℕ) → u ≡ t → IfSome t (λ b. len ≡ length b) → count ≡ min len header_limit
    → IfSome u (λ b. 0 + count ≤ length b)
front_inside t u len count same known is = subst (λ o. IfSome o (λ b. 0 + count ≤ length b)) (sym same) (inside t known)
  where
    inside : (o : Option (List ℕ)) → IfSome o (λ b. len ≡ length b) → IfSome o (λ b. 0 + count ≤ length b)
    inside None h = tt
    inside (Some b) h = omega (arith, h, is)

-- what is asked for a header is so for an image
pub asks_header_only : (t : Option (List ℕ)) (o n : Option (List Place)) → AsksPpmHeader t o n → AsksImage t o n
asks_header_only t o n asks = record { places = asks.places; gained = asks.gained; each = of asks.places asks.each }
  where
    of : (places : List Place) → AreHeaderPlaces t places → AreImagePlaces t places
    of [] are = tt
    of (front ∷ []) are = are
    of (front ∷ raster ∷ rest) are = absurd are
