-- The samples of a picture, from its rows.
use Rattle.std.proofs.Common.{◌≡◌, ℕ, zero, suc, ◌+◌, ◌-◌, ◌*◌, ◌<◌, ◌≤◌, List, [], ◌∷◌, ◌++◌, length, take, drop, Some, get_or, refl, sym, ap, ◌∙◌, length-drop, length-take, drop-cons, arith}
use Rattle.std.specs.Prelude.{slice_get, slice_index, slice_index_or, option_map, unwrap_or}
use Rattle.std.specs.List.{concat, flat_map, range_with_len}
use Rattle.std.proofs.lemmas.List.{take-append-drop, drop-drop}
use Rattle.std.proofs.lemmas.Nat.{mul-le}
use Rattle.std.proofs.lemmas.Option.{slice_get-get_or}
use Rattle.vt_definitions.specs.Depths.{texel_length, bytes_from}
use Rattle.vt_definitions.specs.Texels.{Source}
use Rattle.vt_journal.specs.declared.changes.Change.{Change}
use Rattle.vt_journal.specs.declared.changes.RowLine.{RowLine}
use Rattle.vt_journal.specs.Changes.{at}
use Rattle.vt_replay_rows.specs.Scenes.{Scene}
use Rattle.vt_replay_rows.specs.Replays.{HasPixels, IsReplayOf}
use Rattle.vt_replay_rows.specs.ReplayLookups.{bytes_row}
use Rattle.vt_replay_rows.specs.Trying.{Under}
use Rattle.vt_replay.specs.Replayed.{version_of_row, replayed_row, replayed_rows}

-- bytes are their pieces of so many bytes each, one after another
pieces_joined : (z n a : ℕ) (f : ℕ → List ℕ) (bytes : List ℕ) → length bytes ≡ n * z → ((x : ℕ) → x < n → take z (drop (x * z) bytes) ≡ f (a + x))
    → bytes ≡ flat_map f (range_with_len a n)
pieces_joined z zero a f [] size each = refl
pieces_joined z zero a f (b ∷ bs) size each = absurd (omega (arith, size))
pieces_joined z (suc n) a f bytes size each =
    let here : take z bytes ≡ f a = ap (λ (k : ℕ). take z (drop k bytes)) (let e : 0 ≡ 0 * z = omega arith in e) ∙ each 0 (omega arith)
    ∙ ap f (let e : a + 0 ≡ a = omega arith in e) in
    let room : length (drop z bytes) ≡ n * z = omega (arith, size, length-drop z bytes) in
    let later = λ (x : ℕ) (low : x < n).
    (let moved : take z (drop (x * z) (drop z bytes)) ≡ f ((a + 1) + x) =
    ap (take z) (drop-drop (x * z) z bytes) ∙ ap (λ (k : ℕ). take z (drop k bytes)) (let e : z + x * z ≡ (x + 1) * z = omega arith in e)
    ∙ each (x + 1) (omega (arith, low)) ∙ ap f (let e : a + (x + 1) ≡ (a + 1) + x = omega arith in e) in moved) in
    sym (take-append-drop z bytes) ∙ ap (λ (bs : List ℕ). bs ++ drop z bytes) here
    ∙ ap (λ (bs : List ℕ). f a ++ bs) (pieces_joined z n (a + 1) f (drop z bytes) room later)

cut_bytes : (bytes : List ℕ) (at n : ℕ) → at + n ≤ length bytes → take n (drop at bytes) ≡ bytes_from bytes at n
cut_bytes bytes at zero room = refl
cut_bytes bytes at (suc n) room =
    ap (take (suc n)) (drop-cons bytes at 0 (omega arith))
    ∙ ap (λ (m : ℕ). slice_index bytes at ∷ take n (drop m bytes)) (let e : suc at ≡ at + 1 = omega arith in e)
    ∙ ap (λ (t : List ℕ). slice_index bytes at ∷ t) (cut_bytes bytes (at + 1) n (omega arith))

-- a row with these pixels has their bytes
row_joined : (d width : ℕ) (pixel : ℕ → List ℕ) (bytes : List ℕ) → length bytes ≡ texel_length d * width → HasPixels d width pixel bytes
    → bytes ≡ flat_map pixel (range_with_len 0 width)
row_joined d width pixel bytes size has =
    pieces_joined (texel_length d) width 0 pixel bytes (omega (arith, size)) (λ x low.
    (let room : texel_length d * x + texel_length d ≤ length bytes = (let m = mul-le (x + 1) (texel_length d) width (texel_length d) (omega
    (arith, low)) (omega arith) in omega (arith, size, m)) in
    ap (λ (k : ℕ). take (texel_length d) (drop k bytes)) (let e : x * texel_length d ≡ texel_length d * x = omega arith in e)
    ∙ cut_bytes bytes (texel_length d * x) (texel_length d) room ∙ has x low ∙ ap pixel (let e : x ≡ 0 + x = omega arith in e)))

-- the rows of a pass, each with the pixels of its version's page table, are its replay
pub rows_are_replayed : (under : Under) (src : Source) (scene : Scene) (changes : List Change) (lines : List RowLine) (i height line : ℕ) (samples : List ℕ)
    → line ≡ texel_length scene.depth * scene.path.width → length samples ≡ height * line → length lines ≡ height
    → ((y : ℕ) (row : RowLine) → slice_get lines y ≡ Some row
    → HasPixels scene.depth scene.path.width (λ x. under src scene (at changes row.version) i x y) (bytes_row line samples y))
    → ((y : ℕ) → y < height → (row : RowLine) × (slice_get lines y ≡ Some row))
    → samples ≡ replayed_rows under src scene changes lines i height
unfolding replayed_rows replayed_row
rows_are_replayed under src scene changes lines i height line samples line_is size count has some =
    pieces_joined line height 0 (λ y. flat_map (λ x. under src scene (at changes (version_of_row lines y)) i x y)
    (range_with_len 0 scene.path.width)) samples size
    (λ y low.
    (let found = some y low in
    let row = found.0 in
    let cut : y * line + line - y * line ≡ line = omega arith in
    let piece : take line (drop (y * line) samples) ≡ bytes_row line samples y = ap (λ (k : ℕ). take k (drop (y * line) samples)) (sym cut) in
    let room : y * line + line ≤ length samples = (let m = mul-le (y + 1) line height line (omega (arith, low)) (omega arith) in omega (arith, size, m)) in
    let full : length (bytes_row line samples y) ≡ texel_length scene.depth * scene.path.width =
    ap length (sym piece) ∙ (let e : length (take line (drop (y * line) samples)) ≡ line = omega (
      arith,
      length-take line (drop
          (y * line) samples),
      length-drop (y * line) samples,
      room,
    ) in e) ∙ line_is in
    let version : row.version ≡ version_of_row lines y = sym (ap (λ o. unwrap_or (option_map (λ (l : RowLine). l.version) o) 0) found.1) in
    piece ∙ row_joined scene.depth scene.path.width (λ x. under src scene (at changes row.version) i x y) (bytes_row line samples y) full (has y row found.1)
    ∙ ap (λ (v : ℕ). flat_map (λ x. under src scene (at changes v) i x y) (range_with_len 0 scene.path.width)) version
    ∙ ap (λ (k : ℕ). flat_map (λ x. under src scene (at changes (version_of_row lines k)) i x k) (range_with_len 0 scene.path.width))
    (let e : y ≡ 0 + y = omega arith in e)))

rows_joined : (f : ℕ → List ℕ) (rows : List (List ℕ)) (a : ℕ) → ((y : ℕ) → y < length rows → slice_index_or rows y [] ≡ f (a + y))
    → concat rows ≡ flat_map f (range_with_len a (length rows))
rows_joined f [] a each = refl
rows_joined f (r ∷ rs) a each =
    let here : r ≡ f a = each 0 (omega arith) ∙ ap f (let e : a + 0 ≡ a = omega arith in e) in
    ap (λ (bs : List ℕ). bs ++ concat rs) here
    ∙ ap (λ (bs : List ℕ). f a ++ bs)
    (rows_joined f rs (a + 1) (λ y low. each (suc y) (omega (arith, low)) ∙ ap f (let e : a + suc y ≡ (a + 1) + y = omega arith in e)))

-- a picture that is the replay of a pass has these bytes, and no others
pub replay_is_one : (under : Under) (src : Source) (scene : Scene) (changes : List Change) (lines : List RowLine) (i : ℕ) (samples : List ℕ)
    → length lines ≡ scene.path.height
    → IsReplayOf scene.depth scene.path.width scene.path.height (λ m x y. under src scene m i x y) changes lines samples
    → samples ≡ replayed_rows under src scene changes lines i scene.path.height
unfolding replayed_rows replayed_row
replay_is_one under src scene changes lines i samples count is =
    let first : RowLine = record { row = 0; sampler = 0; version = 0 } in
    let row : ℕ → List ℕ = λ (y : ℕ). flat_map (λ x. under src scene (at changes (version_of_row lines y)) i x y)
    (range_with_len 0 scene.path.width) in
    let number = is.count in
    is.joined ∙ rows_joined row is.rows 0 (λ y low.
    (let found = slice_get-get_or lines y first (omega (arith, low, number, count)) in
    let line = get_or lines y first in
    let version : line.version ≡ version_of_row lines y = sym (ap (λ o. unwrap_or (option_map (λ (l : RowLine). l.version) o) 0) found) in
    row_joined scene.depth scene.path.width (λ x. under src scene (at changes line.version) i x y) (slice_index_or is.rows y [])
    (is.full y [] low) (is.replayed y line found)
    ∙ ap (λ (v : ℕ). flat_map (λ x. under src scene (at changes v) i x y) (range_with_len 0 scene.path.width)) version
    ∙ ap row (let e : y ≡ 0 + y = omega arith in e)))
    ∙ ap (λ (n : ℕ). flat_map row (range_with_len 0 n)) number
