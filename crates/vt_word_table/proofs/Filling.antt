-- Pages that were mapped with words.
use Rattle.std.proofs.Common.{◌≡◌, ℕ, zero, suc, ◌*◌, ◌≤◌, ◌<◌, inl, inr, ◌⊎◌, false, Option, None, Some, List, [], ◌∷◌, ◌++◌, length, get_or, refl, sym, ap, ◌∙◌, subst, mul_comm, arith}
use Rattle.std.specs.Prelude.{slice_get}
use Rattle.std.specs.List.{range_with_len}
use Rattle.std.proofs.lemmas.List.{length-map}
use Rattle.std.proofs.lemmas.List.FromFn.{length-range_with_len, get_or-map-range_with_len}
use Rattle.std.proofs.lemmas.Option.{none-some}
use Rattle.vt_journal.specs.declared.changes.Change.{Change}
use Rattle.vt_journal.specs.declared.changes.Change.TheVariants.{Map, Unmap}
use Rattle.vt_journal.specs.JournalText.{changes_of}
use Rattle.vt_journal.specs.Shape.{Shape}
use Rattle.vt_journal.specs.Depths.{texel_length}
use Rattle.vt_page_table.specs.Format.{tile_length}
use Rattle.vt_page_table.specs.Outcomes.{group_of}
use Rattle.vt_page_table.specs.Fills.{AreTexelWords, FillsOne, IsStoredPage, AreStoredPages}
use Rattle.vt_table.specs.Views.{tile_word}
use Rattle.vt_word_notes.specs.Fills.{words_in}
use Rattle.vt_grace.specs.declared.views.WriterView.{WriterView}
use Rattle.vt_table.proofs.TileWords.{word_is}
use Rattle.vt_word_notes.specs.Made.{HasMade, victim_contents, group_contents}
use Rattle.vt_word_notes.specs.Stored.{AreStored}
use Rattle.vt_word_table.specs.WordWriters.{IsMappedWith, HasTakenMore}

-- lists with the same numbers
same_by_places : (xs ys : List ℕ) → length xs ≡ length ys → ((i : ℕ) → i < length xs → get_or xs i 0 ≡ get_or ys i 0) → xs ≡ ys
same_by_places [] [] number each = refl
same_by_places [] (y ∷ ys) number each = absurd (omega (arith, number))
same_by_places (x ∷ xs) [] number each = absurd (omega (arith, number))
same_by_places (x ∷ xs) (y ∷ ys) number each =
    let head : x ≡ y = each 0 (omega arith) in
    let tail = same_by_places xs ys (omega (arith, number)) (λ i low. each (suc i) (omega (arith, low))) in
    λ i. head i ∷ tail i

-- a map of a longer journal is one of its front or of the rest
mapped_parts : (journal added : List Change) (contents more : List (List ℕ)) (page : ℕ) (words : List ℕ) → length contents ≡ length journal
    → IsMappedWith (journal ++ added) (contents ++ more) page words → IsMappedWith journal contents page words ⊎ IsMappedWith added more page words
mapped_parts journal added contents more page words even is = split journal contents even is.by is.change is.content where
  split : (js : List Change) (cs : List (List ℕ)) → length cs ≡ length js → (k : ℕ) → slice_get (js ++ added) k ≡ Some (Map page is.frame)
      → get_or (cs ++ more) k [] ≡ words → IsMappedWith js cs page words ⊎ IsMappedWith added more page words
  split [] [] same k there content = inr (record { by = k; frame = is.frame; change = there; content = content })
  split [] (c ∷ cs) same k there content = absurd (omega (arith, same))
  split (j ∷ js) [] same k there content = absurd (omega (arith, same))
  split (j ∷ js) (c ∷ cs) same zero there content = inl (record { by = 0; frame = is.frame; change = there; content = content })
  split (j ∷ js) (c ∷ cs) same (suc k) there content = lift (split js cs (omega (arith, same)) k there content) where
    lift : IsMappedWith js cs page words ⊎ IsMappedWith added more page words → IsMappedWith (j ∷ js) (c ∷ cs) page words ⊎ IsMappedWith added more page words
    lift (inl old) = inl (record { by = suc old.by; frame = old.frame; change = old.change; content = old.content })
    lift (inr new) = inr new

-- the words of a tile
texel_words : (s : Shape) (d : ℕ) (tile : List ℕ) → 1 ≤ s.tile → length tile ≡ texel_length d * (s.tile * s.tile)
    → AreTexelWords d (s.tile * s.tile) tile (words_in s tile)
texel_words s d tile some full = record {
  count = length-map (range_with_len 0 (s.tile * s.tile)) (tile_word s tile) ∙ length-range_with_len 0 (s.tile * s.tile);
  each = λ i low. get_or-map-range_with_len (tile_word s tile) 0 (s.tile * s.tile) i i 0 low (omega arith) ∙ word_is s d tile i some full;
}

-- so words that are those of a tile's texels are these
words_are : (s : Shape) (d : ℕ) (tile words : List ℕ) → 1 ≤ s.tile → length tile ≡ texel_length d * (s.tile * s.tile)
    → AreTexelWords d (s.tile * s.tile) tile words → words ≡ words_in s tile
words_are s d tile words some full are =
    let made = texel_words s d tile some full in
    same_by_places words (words_in s tile) (are.count ∙ sym made.count) (λ i low.
    let inside : i < s.tile * s.tile = (let n = are.count in omega (arith, low, n)) in
    are.each i inside ∙ sym (made.each i inside))

module _ (s : Shape) (d page : ℕ) (tile : List ℕ) (some : 1 ≤ s.tile) (full : length tile ≡ tile_length s d) where
  bytes : length tile ≡ texel_length d * (s.tile * s.tile)
  bytes = full ∙ mul_comm (s.tile * s.tile) (texel_length d)

  -- one map alone
  of_map : (frame p : ℕ) (words : List ℕ) → IsMappedWith (Map page frame ∷ []) (words_in s tile ∷ []) p words
      → (p ≡ page) × AreTexelWords d (s.tile * s.tile) tile words
  of_map frame p words is = at is.by is.change is.content where
    at : (k : ℕ) → slice_get (Map page frame ∷ []) k ≡ Some (Map p is.frame) → get_or (words_in s tile ∷ []) k [] ≡ words
        → (p ≡ page) × AreTexelWords d (s.tile * s.tile) tile words
    at zero there content = (
      sym (cc there),
      subst (AreTexelWords d (s.tile * s.tile) tile) content (texel_words s d tile some bytes),
    )
    at (suc k) there content = absurd (none-some _ there)

  -- and one after the unmap of a victim, if there is one
  of_group : (o : Option ℕ) (frame p : ℕ) (words : List ℕ)
      → IsMappedWith (changes_of (group_of (record { page = page; frame = frame; victim = o }) false)) (victim_contents o ++ words_in s tile ∷ []) p words
      → (p ≡ page) × AreTexelWords d (s.tile * s.tile) tile words
  of_group None frame p words is = of_map frame p words is
  of_group (Some v) frame p words is = at is.by is.change is.content where
    at : (k : ℕ) → slice_get (Unmap v frame ∷ Map page frame ∷ []) k ≡ Some (Map p is.frame) → get_or ([] ∷ words_in s tile ∷ []) k [] ≡ words
        → (p ≡ page) × AreTexelWords d (s.tile * s.tile) tile words
    at zero there content = absurd (cc there)
    at (suc k) there content = of_map frame p words (record { by = k; frame = is.frame; change = there; content = content })

  -- what a writer that mapped the page is filled with
  pub one_filled : (frame : ℕ) (v w : WriterView) → length v.contents ≡ length v.journal
      → w.journal ≡ v.journal ++ Map page frame ∷ [] → w.contents ≡ v.contents ++ words_in s tile ∷ []
      → FillsOne d (s.tile * s.tile) page tile (IsMappedWith v.journal v.contents) (IsMappedWith w.journal w.contents)
  one_filled frame v w even journal contents p words is =
      on (mapped_parts v.journal (Map page frame ∷ []) v.contents (words_in s tile ∷ []) p words even
      (subst (λ (z : List Change × List (List ℕ)). IsMappedWith z.0 z.1 p words) (λ i. (journal i, contents i)) is)) where
        on : IsMappedWith v.journal v.contents p words ⊎ IsMappedWith (Map page frame ∷ []) (words_in s tile ∷ []) p words
            → IsMappedWith v.journal v.contents p words ⊎ ((p ≡ page) × AreTexelWords d (s.tile * s.tile) tile words)
        on (inl old) = inl old
        on (inr new) = inr (of_map frame p words new)

  pub group_filled : (o : Option ℕ) (frame : ℕ) (v w : WriterView) → length v.contents ≡ length v.journal
      → HasMade (group_of (record { page = page; frame = frame; victim = o }) false)
      (group_contents s (record { page = page; frame = frame; victim = o }) false tile) v w
      → FillsOne d (s.tile * s.tile) page tile (IsMappedWith v.journal v.contents) (IsMappedWith w.journal w.contents)
  group_filled o frame v w even made p words is =
      let added = changes_of (group_of (record { page = page; frame = frame; victim = o }) false) in
      let more = victim_contents o ++ words_in s tile ∷ [] in
      on (mapped_parts v.journal added v.contents more p words even
      (subst (λ (z : List Change × List (List ℕ)). IsMappedWith z.0 z.1 p words) (λ i. (made.journal i, made.contents i)) is)) where
        on : IsMappedWith v.journal v.contents p words
            ⊎ IsMappedWith (changes_of (group_of (record { page = page; frame = frame; victim = o }) false)) (victim_contents o ++ words_in s tile ∷ []) p words
            → IsMappedWith v.journal v.contents p words ⊎ ((p ≡ page) × AreTexelWords d (s.tile * s.tile) tile words)
        on (inl old) = inl old
        on (inr new) = inr (of_group o frame p words new)

-- a writer that made changes took no pass back
pub made_taken : (v w : WriterView) → w ≡ record v {
  journal = w.journal;
  contents = w.contents;
  entries = w.entries;
  floors = w.floors;
  looks = w.looks;
  texels = w.texels;
} → HasTakenMore v w
made_taken v w rest = record {
  returned = [];
  returned_are = ap (λ (x : WriterView). x.returned) rest;
  entries = [];
  noted = ap (λ (x : WriterView). x.notes) rest;
  words = [];
  worded = ap (λ (x : WriterView). x.word_notes) rest;
}

-- pages that were filled with words of their tiles, as contents of a journal
pub stored_contents : (s : Shape) (d : ℕ) (known : Option (List ℕ)) (journal : List Change) (contents : List (List ℕ)) → 1 ≤ s.tile
    → AreStoredPages s d known (IsMappedWith journal contents) → AreStored s d known journal contents
stored_contents s d known journal contents some are k page frame there =
    let is : IsStoredPage s d known page (get_or contents k []) = are page (get_or contents k []) (record { by = k; frame = frame; change = there; content = refl }) in
    record {
      tile = is.tile;
      size = is.size;
      of_store = is.of_store;
      words = words_are s d is.tile (get_or contents k []) some (is.size ∙ mul_comm (s.tile * s.tile) (texel_length d)) is.words_of;
    }

-- and contents of a journal, as pages that were filled
pub contents_stored : (s : Shape) (d : ℕ) (known : Option (List ℕ)) (journal : List Change) (contents : List (List ℕ)) → 1 ≤ s.tile
    → AreStored s d known journal contents → AreStoredPages s d known (IsMappedWith journal contents)
contents_stored s d known journal contents some are page words is =
    let its = are is.by page is.frame is.change in
    record {
      tile = its.tile;
      size = its.size;
      of_store = its.of_store;
      words_of = subst (AreTexelWords d (s.tile * s.tile) its.tile) (sym its.words ∙ is.content)
          (texel_words s d its.tile some (its.size ∙ mul_comm (s.tile * s.tile) (texel_length d)));
    }
