-- Files that lie one behind the other in a room.
use Rattle.std.proofs.Common.{◌≡◌, ℕ, ◌+◌, ◌-◌, ◌*◌, ◌<◌, ◌≤◌, List, [], ◌++◌, length, take, drop, refl, sym, ap, subst, ◌∙◌, append_assoc, length-append, take-append-drop, inl, inr, arith, codes, decimal}
use Rattle.std.specs.List.{flat_map, range_with_len}
use Rattle.std.proofs.lemmas.List.{append-nil, take_at, drop_at}
use Rattle.std.proofs.lemmas.Nat.{column_fits}
use Rattle.std.proofs.lemmas.Fmt.{length-decimal-le}
use borrow.Rule.Slice.PartMut.{put_mid}
use Rattle.vt_definitions.specs.Depths.{IsDepth, texel_length, greatest_sample}
use Rattle.vt_camera.specs.Paths.{PathView, camera_at}
use Rattle.vt_ppm.specs.Picture.{picture_header}
use Rattle.vt_plain.specs.declared.plain.Levels.{Levels}
use Rattle.vt_plain.specs.Plain.{chain_of, surface_of}
use Rattle.vt_plain.specs.Views.{source_of}
use Rattle.vt_plain.proofs.Drawn.{length-first_rows}
use Rattle.vt_plain.proofs.PartsDrawn.{row_put}
use Rattle.vt_plain.specs.BlendedPlain.{plain_blends}
use Rattle.vt_plain.proofs.PlainBlends.{length-rows}
use Rattle.vt_command_words.specs.declared.filters.Filtering.{Filtering}
use Rattle.vt_command_words.specs.declared.filters.Filtering.TheVariants.{Nearest, Bilinear}
use Rattle.vt_tiles.proofs.Spans.{span_add, span_length}
use Rattle.vt_store_commands.specs.declared.plain_files.PlainPictures.{PlainPictures}
use Rattle.vt_store_commands.specs.PlainFiles.{AreLevelsWanted, samples_with, picture_file_of, files_between, file_size, ArePlainHeaders, IsRoomForFiles, HaveRoomFor, HoldsFiles}
use Rattle.vt_store_commands.proofs.Drawing.{file_is}

parts_length : (a b c d e f g : List ℕ) → length (a ++ b ++ c ++ d ++ e ++ f ++ g)
    ≡ length a + length b + length c + length d + length e + length f + length g
parts_length a b c d e f g = omega (
  arith,
  length-append (a ++ b ++ c ++ d ++ e ++ f) g,
  length-append (a ++ b ++ c ++ d ++ e) f,
  length-append (a ++ b ++ c ++ d) e,
  length-append (a ++ b ++ c) d,
  length-append (a ++ b) c,
  length-append a b,
)

-- a header is short
pub header_short : (d w h : ℕ) → IsDepth d → w ≤ 2048 → h ≤ 2048 → length (picture_header d w h) ≤ 64
header_short d w h depth wide high =
    let whole = parts_length (codes "P6\n") (decimal w) (codes " ") (decimal h) (codes "\n") (decimal (greatest_sample d)) (codes "\n") in
    omega (arith, whole, digits w wide, digits h high, greatest d depth)
  where
    digits : (n : ℕ) → n ≤ 2048 → length (decimal n) ≤ 10
    digits n small = length-decimal-le 10 n (omega arith) (omega (arith, small)) (omega (arith, small))

    greatest : (d : ℕ) → IsDepth d → length (decimal (greatest_sample d)) ≤ 10
    greatest d (inl one) = rw one (let few : length (decimal 255) ≤ 10 = length-decimal-le 10 255 (omega arith) (omega arith) (omega arith) in few)
    greatest d (inr two) = rw two (let few : length (decimal 65535) ≤ 10 = length-decimal-le 10 65535 (omega arith) (omega arith) (omega arith) in few)

-- the header of a path's pictures
pub has_header : (p : PlainPictures) (d w h : ℕ) → AreLevelsWanted p.levels p.path.now → p.header.now ≡ picture_header d w h → d ≡ p.levels.chain.now.base.depth
    → w ≡ p.path.now.width → h ≡ p.path.now.height → IsDepth d → w ≤ 2048 → h ≤ 2048 → ArePlainHeaders p
has_header p d w h wanted is depth columns rows lawful wide high = record {
  wanted = wanted;
  header = is
      ∙ ap (λ (n : ℕ). picture_header n w h) depth
      ∙ ap (λ (n : ℕ). picture_header p.levels.chain.now.base.depth n h) columns
      ∙ ap (λ (n : ℕ). picture_header p.levels.chain.now.base.depth p.path.now.width n) rows;
  short = let same : length p.header.now ≡ length (picture_header d w h) = ap length is in omega (arith, same, header_short d w h lawful wide high);
}

-- the samples of a picture by a filter
pub length-samples_with : (filter : Filtering) (l : Levels) (path : PathView) (picture : ℕ)
    → length (samples_with filter l path picture) ≡ texel_length l.chain.now.base.depth * (path.width * path.height)
unfolding plain_blends
length-samples_with Nearest l path picture =
    length-first_rows l.chain.now.base.depth (source_of l) l.surface path (camera_at path picture) path.height
length-samples_with Bilinear l path picture =
    length-rows l.chain.now.base.depth (chain_of l.chain.now.base) (surface_of l.chain.now.base l.chain.now.tile) path (camera_at path picture) path.height

-- a header and samples behind it are the file
pub file_whole : (p : PlainPictures) (picture : ℕ) (bytes : List ℕ) → ArePlainHeaders p
    → bytes ≡ p.header.now ++ samples_with p.filter p.levels p.path.now picture → bytes ≡ picture_file_of p picture
file_whole p picture bytes has is =
    file_is p.levels.chain.now.base.depth p.path.now.width p.path.now.height bytes p.header.now (samples_with p.filter p.levels p.path.now picture) is has.header

pub length-file : (p : PlainPictures) → ArePlainHeaders p → (picture : ℕ) → length (picture_file_of p picture) ≡ file_size p
length-file p has picture =
    let samples = samples_with p.filter p.levels p.path.now picture in
    ap length (sym (file_whole p picture (p.header.now ++ samples) has refl))
    ∙ length-append p.header.now samples
    ∙ ap (λ (n : ℕ). length p.header.now + n) (length-samples_with p.filter p.levels p.path.now picture)

module _ (file : ℕ → List ℕ) where
  -- no files
  pub between_none : (first : ℕ) → files_between file first first ≡ []
  unfolding files_between
  between_none first = ap (λ (n : ℕ). flat_map file (range_with_len first n)) (let s : first - first ≡ 0 = omega arith in s)

  pub between_split : (first middle end : ℕ) → first ≤ middle → middle ≤ end
      → files_between file first end ≡ files_between file first middle ++ files_between file middle end
  unfolding files_between
  between_split first middle end p q =
      ap (λ (n : ℕ). flat_map file (range_with_len first n)) (let s : end - first ≡ middle - first + (end - middle) = omega (arith, p, q) in s)
      ∙ span_add file first (middle - first) (end - middle)
      ∙ ap (λ (n : ℕ). flat_map file (range_with_len first (middle - first)) ++ flat_map file (range_with_len n (end - middle)))
      (let s : first + (middle - first) ≡ middle = omega (arith, p) in s)

  between_one : (picture : ℕ) → files_between file picture (picture + 1) ≡ file picture
  unfolding files_between
  between_one picture =
      ap (λ (n : ℕ). flat_map file (range_with_len picture n)) (let s : picture + 1 - picture ≡ 1 = omega arith in s) ∙ append-nil (file picture)

  -- one file more
  between_more : (first picture : ℕ) → first ≤ picture → files_between file first (picture + 1) ≡ files_between file first picture ++ file picture
  between_more first picture order =
      between_split first picture (picture + 1) order (omega arith)
      ∙ ap (λ (t : List ℕ). files_between file first picture ++ t) (between_one picture)

  module _ (size : ℕ) (each : (i : ℕ) → length (file i) ≡ size) where
    pub between_length : (first end : ℕ) → length (files_between file first end) ≡ size * (end - first)
    unfolding files_between
    between_length first end = span_length file first (end - first) size each ∙ other (end - first) size
      where
        other : (m n : ℕ) → m * n ≡ n * m
        other m n = omega arith

    -- a file of a room that begins with files
    pub piece_is : (first picture end m : ℕ) (room rest : List ℕ) → first ≤ picture → picture < end → m ≡ size
        → room ≡ files_between file first end ++ rest → take m (drop (size * (picture - first)) room) ≡ file picture
    piece_is first picture end m room rest order inside is holds =
        let before = files_between file first picture in
        let after = files_between file (picture + 1) end in
        let parts : room ≡ before ++ (file picture ++ (after ++ rest)) =
        holds
        ∙ ap (λ (t : List ℕ). t ++ rest) (between_split first picture end order (omega (arith, inside))
        ∙ ap (λ (t : List ℕ). before ++ t) (between_split picture (picture + 1) end (omega arith) (omega (arith, inside))
        ∙ ap (λ (t : List ℕ). t ++ after) (between_one picture)))
        ∙ append_assoc before (file picture ++ after) rest
        ∙ ap (λ (t : List ℕ). before ++ t) (append_assoc (file picture) after rest) in
        ap (λ (t : List ℕ). take m (drop (size * (picture - first)) t)) parts
        ∙ ap (take m) (drop_at before (file picture ++ (after ++ rest)) (size * (picture - first)) (between_length first picture))
        ∙ take_at (file picture) (after ++ rest) m (each picture ∙ sym is)

    -- one file more is in a room
    pub file_put : (first picture k : ℕ) (out drawn : List ℕ) → first ≤ picture → size * (picture - first) ≤ length out → drawn ≡ file picture
        → take (size * (picture - first)) out ≡ files_between file first picture
        → take (size * (picture + 1 - first)) (put_mid (size * (picture - first)) k out drawn) ≡ files_between file first (picture + 1)
    file_put first picture k out drawn order fits is so_far =
        let at = size * (picture - first) in
        ap (λ (n : ℕ). take n (put_mid at k out drawn))
        (ap (λ (n : ℕ). size * n) (let s : picture + 1 - first ≡ picture - first + 1 = omega (arith, order) in s) ∙ next_place (picture - first))
        ∙ row_put out drawn at k size (ap length is ∙ each picture) fits
        ∙ ap (λ (t : List ℕ). t ++ drawn) so_far
        ∙ ap (λ (t : List ℕ). files_between file first picture ++ t) is
        ∙ sym (between_more first picture order)
      where
        next_place : (n : ℕ) → size * (n + 1) ≡ size * n + size
        next_place n = omega arith

-- no files yet
pub none_put : (file : ℕ → List ℕ) (size first : ℕ) (out : List ℕ) → take (size * (first - first)) out ≡ files_between file first first
none_put file size first out =
    ap (λ (n : ℕ). take (size * n) out) (let s : first - first ≡ 0 = omega arith in s)
    ∙ ap (λ (n : ℕ). take n out) (let s : size * 0 ≡ 0 = omega arith in s)
    ∙ sym (between_none file first)

-- room in two parts
room_apart : (size first middle end : ℕ) → first ≤ middle → middle ≤ end → size * (end - first) ≡ size * (middle - first) + size * (end - middle)
room_apart size first middle end p q =
    ap (λ (n : ℕ). size * n) (let s : end - first ≡ middle - first + (end - middle) = omega (arith, p, q) in s) ∙ apart size (middle - first) (end - middle)
  where
    apart : (size m n : ℕ) → size * (m + n) ≡ size * m + size * n
    apart size m n = omega arith

module _ (p : PlainPictures) (first middle end room : ℕ) (all : IsRoomForFiles p first end room) (low : first ≤ middle) (high : middle ≤ end) where
  pub upper_room : (a : ℕ) → a ≡ file_size p * (middle - first) → IsRoomForFiles p first middle a
  upper_room a full = record { has = all.has; order = low; few = omega (arith, all.few, high); full = full }

  pub lower_room : (a b : ℕ) → a ≡ file_size p * (middle - first) → b + a ≡ room → IsRoomForFiles p middle end b
  lower_room a b full rest = record {
    has = all.has;
    order = high;
    few = all.few;
    full = let whole = room_apart (file_size p) first middle end low high in omega (arith, whole, all.full, full, rest);
  }

-- a file's place lies in the room
pub file_within : (size first picture end room : ℕ) → size * (end - first) ≤ room → first ≤ picture → picture < end → size * (picture - first) + size ≤ room
file_within size first picture end room fits low high =
    let inside : size * (picture - first) + size ≤ size * (end - first) =
    column_fits size (picture - first) size (end - first) (omega (arith, low, high)) (omega arith) in
    omega (arith, inside, fits)

-- files that were made in the front of a room
pub holds_front : (p : PlainPictures) (first end n : ℕ) (front rest room : List ℕ) → HaveRoomFor p first end n → length room ≡ n
    → front ≡ files_between (picture_file_of p) first end → room ≡ front ++ rest → HoldsFiles p first end room
holds_front p first end n front rest room space same made is = record {
  space = subst (λ (m : ℕ). HaveRoomFor p first end m) (sym same) space;
  files = ap (take (file_size p * (end - first))) (is ∙ ap (λ (t : List ℕ). t ++ rest) made)
      ∙ take_at (files_between (picture_file_of p) first end) rest (file_size p * (end - first)) (between_length (picture_file_of p) (file_size p) (length-file p space.has) first end);
}

-- a room that holds files, as the files and what is behind them
pub held_parts : (p : PlainPictures) (first end : ℕ) (room : List ℕ) → HoldsFiles p first end room
    → room ≡ files_between (picture_file_of p) first end ++ drop (file_size p * (end - first)) room
held_parts p first end room holds =
    sym (take-append-drop (file_size p * (end - first)) room)
    ∙ ap (λ (t : List ℕ). t ++ drop (file_size p * (end - first)) room) holds.files
