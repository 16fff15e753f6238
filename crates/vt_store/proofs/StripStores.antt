-- What a name holds, and which strips were asked, while the store of a texture is written strip by strip.
use Rattle.std.proofs.Common.{◌≡◌, ℕ, ◌+◌, ◌-◌, ◌*◌, ◌≤◌, ◌⊎◌, inl, inr, Option, Some, List, ◌++◌, length, take, sym, ap, ◌∙◌, subst, arith}
use Rattle.std.proofs.Math.Seq.{take-length}
use Rattle.std.specs.Prelude.{option_map}
use Rattle.vt_outside.specs.Files.{Files, IsThere, with_bytes, with_appended}
use Rattle.vt_outside.proofs.Changes.{known-bytes-appended, front_of_two, front_of_first}
use Rattle.vt_ppm.specs.declared.header.Header.{Header}
use Rattle.vt_ppm.specs.Format.{depth_of}
use Rattle.vt_definitions.specs.Texels.{Source}
use Rattle.vt_mip.specs.StripChains.{StripChainView, texture_texel}
use Rattle.vt_pages.specs.Shape.{Shape}
use Rattle.vt_pages.specs.Pages.{pages_of, columns_at}
use Rattle.vt_tiles.specs.Format.{header_bytes, tiles_bytes, store_bytes}
use Rattle.vt_tiles.specs.Made.{HoldsMade, HoldsMadeFront, GainsMade, GainsMadeFront}
use Rattle.vt_store.specs.StripStores.{strip_front, strip_shape, strip_store, strip_tiles}
use Rattle.vt_store.specs.ChainStores.{AddsPages, AddsPart}
use Rattle.vt_store.proofs.Writing.{front_bytes, front_grown, front_none, front_all, store_split}
use Rattle.vt_store.proofs.AddedPages.{there_bytes}

-- the bytes of the whole store
abbrev pub store_made : Shape → Header → List ℕ → List ℕ
store_made s h b = store_bytes s (depth_of h.maximum) (texture_texel h b)

pub made_begun : (known : Option (List ℕ)) (s : Shape) (h : Header) (d : ℕ) (n : List ℕ) (f0 f1 : Option Files) → d ≡ depth_of h.maximum
    → f1 ≡ option_map (with_bytes n (header_bytes s d)) f0 → HoldsMade known (strip_front s h 0) n f0 f1
made_begun known s h d n f0 f1 ed held = record {
  written = header_bytes s d;
  held = held;
  same = λ b e. ap (header_bytes s) ed ∙ front_none s (depth_of h.maximum) (texture_texel h b);
}

pub made_moved : (known : Option (List ℕ)) (s : Shape) (h : Header) (n : List ℕ) (f0 f1 : Option Files) (p q : ℕ) → p ≡ q
    → HoldsMade known (strip_front s h p) n f0 f1 → HoldsMade known (strip_front s h q) n f0 f1
made_moved known s h n f0 f1 p q e holds = subst (λ (m : ℕ). HoldsMade known (strip_front s h m) n f0 f1) e holds

-- what is said of a chain that was only given room is said of it before
pub seen_at : {A : Type 0} (P : A → Header → ℕ → Type 0) {a a' : A} {h h' : Header} {t t' : ℕ} → a' ≡ a → h' ≡ h → t' ≡ t → P a' h' t' → P a h t
seen_at P {a} {a'} {h} {h'} {t} {t'} ea eh et is =
    subst (λ (m : ℕ). P a h m) et (subst (λ (z : Header). P a z t') eh (subst (λ (x : _). P x h' t') ea is))

made_next : (known : Option (List ℕ)) (s : Shape) (h : Header) (i : ℕ) (n : List ℕ) (f0 f1 f2 : Option Files)
    → HoldsMade known (strip_front s h (i * columns_at s 0)) n f0 f1 → GainsMade known (strip_tiles s h i) n f1 f2
    → HoldsMade known (strip_front s h ((i + 1) * columns_at s 0)) n f0 f2
made_next known s h i n f0 f1 f2 holds gains =
    let p : ℕ = i * columns_at s 0 in
    let q : ℕ = (i + 1) * columns_at s 0 in
    let more : columns_at s 0 ≡ q - p = omega arith in
    record {
      written = holds.written ++ gains.more;
      held = gains.held ∙ ap (option_map (with_appended n gains.more)) holds.held ∙ known-bytes-appended n holds.written gains.more f0;
      same = λ b e.
          let d = depth_of h.maximum in
          let src = texture_texel h b in
          ap (λ l. l ++ gains.more) (holds.same b e) ∙ ap (λ l. front_bytes s d src p ++ l) (gains.same b e)
          ∙ ap (λ m. front_bytes s d src p ++ tiles_bytes s d src p m) more ∙ front_grown s d src p q (omega arith);
    }

-- a strip more
pub made_more : (known known' : Option (List ℕ)) (s : Shape) (h h' : Header) (i : ℕ) (n : List ℕ) (f0 f1 f2 : Option Files) → known' ≡ known → h' ≡ h
    → HoldsMade known (strip_front s h (i * columns_at s 0)) n f0 f1 → GainsMade known' (strip_tiles s h' i) n f1 f2
    → HoldsMade known (strip_front s h ((i + 1) * columns_at s 0)) n f0 f2
made_more known known' s h h' i n f0 f1 f2 et eh holds gains =
    made_next known s h i n f0 f1 f2 holds (subst (λ (z : Header). GainsMade known (strip_tiles s z i) n f1 f2) eh
    (subst (λ (t : Option (List ℕ)). GainsMade t (strip_tiles s h' i) n f1 f2) et gains))

pub made_kept : (known : Option (List ℕ)) (s : Shape) (h : Header) (p : ℕ) (n : List ℕ) (f0 f1 f2 : Option Files) → p ≤ pages_of s
    → HoldsMade known (strip_front s h p) n f0 f1 → f2 ≡ f1 → HoldsMadeFront known (store_made s h) n f0 f2
made_kept known s h p n f0 f1 f2 inside holds same = record {
  written = holds.written;
  held = same ∙ holds.held;
  part = λ b e.
      let d = depth_of h.maximum in
      let src = texture_texel h b in
      let front = front_of_first (front_bytes s d src p) (tiles_bytes s d src p (pages_of s - p)) (length (front_bytes s d src p)) in (
        front.0,
        holds.same b e ∙ sym (take_all (front_bytes s d src p)) ∙ front.1 ∙ ap (take front.0) (sym (store_split s d src p inside)),
      );
} where
  take_all : (l : List ℕ) → take (length l) l ≡ l
  take_all l = take-length l

made_front : (known : Option (List ℕ)) (s : Shape) (h : Header) (i : ℕ) (n : List ℕ) (f0 f1 f2 : Option Files) → (i + 1) * columns_at s 0 ≤ pages_of s
    → HoldsMade known (strip_front s h (i * columns_at s 0)) n f0 f1 → GainsMadeFront known (strip_tiles s h i) n f1 f2
    → HoldsMadeFront known (store_made s h) n f0 f2
made_front known s h i n f0 f1 f2 inside holds gains = record {
  written = holds.written ++ take gains.part gains.more;
  held = gains.held ∙ ap (option_map (with_appended n (take gains.part gains.more))) holds.held
      ∙ known-bytes-appended n holds.written (take gains.part gains.more) f0;
  part = λ b e.
      let d = depth_of h.maximum in
      let src = texture_texel h b in
      let p : ℕ = i * columns_at s 0 in
      let q : ℕ = (i + 1) * columns_at s 0 in
      let more : columns_at s 0 ≡ q - p = omega arith in
      let front = front_bytes s d src p in
      let tiles = tiles_bytes s d src p (q - p) in
      let first = front_of_first (front ++ tiles) (tiles_bytes s d src q (pages_of s - q)) (length front + gains.part) in (
        first.0,
        ap (λ l. l ++ take gains.part gains.more) (holds.same b e)
            ∙ ap (λ l. front ++ take gains.part l) (gains.same b e ∙ ap (λ m. tiles_bytes s d src p m) more)
            ∙ front_of_two front tiles gains.part ∙ first.1
            ∙ ap (take first.0) (ap (λ l. l ++ tiles_bytes s d src q (pages_of s - q)) (front_grown s d src p q (omega arith))
            ∙ sym (store_split s d src q inside)),
      );
}

-- a strip that was not added, or a part of it that was
pub made_part : (known known' : Option (List ℕ)) (s : Shape) (h h' : Header) (i : ℕ) (n : List ℕ) (f0 f1 f2 : Option Files) → known' ≡ known → h' ≡ h
    → (i + 1) * columns_at s 0 ≤ pages_of s
    → HoldsMade known (strip_front s h (i * columns_at s 0)) n f0 f1 → (f2 ≡ f1) ⊎ GainsMadeFront known' (strip_tiles s h' i) n f1 f2
    → HoldsMadeFront known (store_made s h) n f0 f2
made_part known known' s h h' i n f0 f1 f2 et eh inside holds (inl same) = made_kept known s h (i * columns_at s 0) n f0 f1 f2 (omega arith) holds same
made_part known known' s h h' i n f0 f1 f2 et eh inside holds (inr gains) =
    made_front known s h i n f0 f1 f2 inside holds (subst (λ (z : Header). GainsMadeFront known (strip_tiles s z i) n f1 f2) eh
    (subst (λ (t : Option (List ℕ)). GainsMadeFront t (strip_tiles s h' i) n f1 f2) et gains))

-- a prefix of the header
pub made_header : (known : Option (List ℕ)) (s : Shape) (h : Header) (d : ℕ) (n : List ℕ) (f0 f1 : Option Files) → d ≡ depth_of h.maximum
    → (f1 ≡ f0) ⊎ ((k : ℕ) × (f1 ≡ option_map (with_bytes n (take k (header_bytes s d))) f0))
    → (f1 ≡ f0) ⊎ HoldsMadeFront known (store_made s h) n f0 f1
unfolding store_bytes
made_header known s h d n f0 f1 ed (inl same) = inl same
made_header known s h d n f0 f1 ed (inr part) = inr (record {
  written = take part.0 (header_bytes s (depth_of h.maximum));
  held = part.1 ∙ ap (λ (m : ℕ). option_map (with_bytes n (take part.0 (header_bytes s m))) f0) ed;
  part = λ b e. front_of_first (header_bytes s (depth_of h.maximum))
      (tiles_bytes s (depth_of h.maximum) (texture_texel h b) 0 (pages_of s)) part.0;
})

-- the tiles of the other levels behind those of the first
pub made_whole : (known : Option (List ℕ)) (s : Shape) (h : Header) (d p : ℕ) (src : Source) (n : List ℕ) (f0 f1 f2 : Option Files) → p ≤ pages_of s
    → HoldsMade known (strip_front s h p) n f0 f1 → AddsPages s d src p (pages_of s) n f1 f2
    → ((b : List ℕ) → known ≡ Some b → tiles_bytes s d src p (pages_of s - p) ≡ tiles_bytes s (depth_of h.maximum) (texture_texel h b) p (pages_of s - p))
    → HoldsMade known (store_made s h) n f0 f2
made_whole known s h d p src n f0 f1 f2 inside holds adds same = record {
  written = holds.written ++ tiles_bytes s d src p (pages_of s - p);
  held = adds.held f0 holds.written holds.held;
  same = λ b e.
      let e' = depth_of h.maximum in
      let t = texture_texel h b in
      ap (λ l. l ++ tiles_bytes s d src p (pages_of s - p)) (holds.same b e) ∙ ap (λ l. front_bytes s e' t p ++ l) (same b e)
      ∙ front_grown s e' t p (pages_of s) inside ∙ front_all s e' t;
}

made_rest : (known : Option (List ℕ)) (s : Shape) (h : Header) (d p : ℕ) (src : Source) (n : List ℕ) (f0 f1 f2 : Option Files) → p ≤ pages_of s
    → HoldsMade known (strip_front s h p) n f0 f1 → AddsPart s d src p n f1 f2
    → ((b : List ℕ) → known ≡ Some b → tiles_bytes s d src p (pages_of s - p) ≡ tiles_bytes s (depth_of h.maximum) (texture_texel h b) p (pages_of s - p))
    → HoldsMadeFront known (store_made s h) n f0 f2
made_rest known s h d p src n f0 f1 f2 inside holds adds same = record {
  written = holds.written ++ take adds.part (tiles_bytes s d src p (pages_of s - p));
  held = adds.held f0 holds.written holds.held;
  part = λ b e.
      let e' = depth_of h.maximum in
      let t = texture_texel h b in
      let front = front_bytes s e' t p in (
        length front + adds.part,
        ap (λ l. l ++ take adds.part (tiles_bytes s d src p (pages_of s - p))) (holds.same b e)
            ∙ ap (λ l. front ++ take adds.part l) (same b e)
            ∙ front_of_two front (tiles_bytes s e' t p (pages_of s - p)) adds.part
            ∙ ap (take (length front + adds.part)) (sym (store_split s e' t p inside)),
      );
}

pub made_rest_part : (known : Option (List ℕ)) (s : Shape) (h : Header) (d p : ℕ) (src : Source) (n : List ℕ) (f0 f1 f2 : Option Files) → p ≤ pages_of s
    → HoldsMade known (strip_front s h p) n f0 f1
    → ((b : List ℕ) → known ≡ Some b → tiles_bytes s d src p (pages_of s - p) ≡ tiles_bytes s (depth_of h.maximum) (texture_texel h b) p (pages_of s - p))
    → (f2 ≡ f1) ⊎ AddsPart s d src p n f1 f2 → HoldsMadeFront known (store_made s h) n f0 f2
made_rest_part known s h d p src n f0 f1 f2 inside holds same (inl kept) = made_kept known s h p n f0 f1 f2 inside holds kept
made_rest_part known s h d p src n f0 f1 f2 inside holds same (inr adds) = made_rest known s h d p src n f0 f1 f2 inside holds adds same

-- what callers see
pub store_seen : {F : Type 0} (known : Option (List ℕ)) (v : StripChainView F) (s : Shape) (n : List ℕ) (f0 f1 : Option Files) → strip_shape v ≡ s
    → HoldsMade known (store_made s v.header) n f0 f1 → HoldsMade known (strip_store v) n f0 f1
store_seen known v s n f0 f1 shape holds = subst (λ (z : Shape). HoldsMade known (store_made z v.header) n f0 f1) (sym shape) holds

pub front_seen : {F : Type 0} (known : Option (List ℕ)) (v : StripChainView F) (s : Shape) (n : List ℕ) (f0 f1 : Option Files) → strip_shape v ≡ s
    → HoldsMadeFront known (store_made s v.header) n f0 f1 → HoldsMadeFront known (strip_store v) n f0 f1
front_seen known v s n f0 f1 shape holds = subst (λ (z : Shape). HoldsMadeFront known (store_made z v.header) n f0 f1) (sym shape) holds

pub there_made : (known : Option (List ℕ)) (made : List ℕ → List ℕ) (n : List ℕ) (f0 f1 : Option Files) → HoldsMade known made n f0 f1 → IsThere f1 n
there_made known made n f0 f1 holds = there_bytes n holds.written f0 f1 holds.held

pub header_seen : {F : Type 0} (known : Option (List ℕ)) (v : StripChainView F) (s : Shape) (n : List ℕ) (f0 f1 : Option Files) → strip_shape v ≡ s
    → (f1 ≡ f0) ⊎ HoldsMadeFront known (store_made s v.header) n f0 f1 → (f1 ≡ f0) ⊎ HoldsMadeFront known (strip_store v) n f0 f1
header_seen known v s n f0 f1 shape (inl same) = inl same
header_seen known v s n f0 f1 shape (inr part) = inr (front_seen known v s n f0 f1 shape part)
