-- The reading of a path's keys, line by line.
use Rattle.std.proofs.Common.{◌≡◌, ◌≢◌, ℕ, ◌+◌, ◌<◌, ◌≤◌, List, [], ◌∷◌, ◌++◌, length, map, drop, refl, sym, ap, ◌∙◌, subst, arith, Option, Some, None, length-append, append_assoc, eqb}
use Rattle.std.specs.List.{All, join_with_byte, range_with_len}
use Rattle.std.proofs.lemmas.List.{append-nil, drop_all}
use Rattle.std.proofs.lemmas.List.Elements.{All-nil, All-cons, All-append, All-map}
use Rattle.std.proofs.lemmas.List.FromFn.{length-range_with_len, get_or-range_with_len}
use Rattle.std.proofs.lemmas.List.Splits.{length-slice_split}
use Rattle.vt_text.specs.Limits.{most_pictures, line_feed, blank}
use Rattle.vt_text.specs.Lines.{lines_of, parts_of}
use Rattle.vt_camera.specs.declared.paths.Camera.{Camera}
use Rattle.vt_camera.specs.declared.parse.PathError.{PathError}
use Rattle.vt_camera.specs.Paths.{PathView, IsCamera}
use Rattle.vt_camera.specs.Ways.{way, camera_on_way}
use Rattle.vt_camera.specs.PathText.{Key, At, To, IsKey, key_fields, key_camera, key_pictures, key_cameras, cameras_after, size_fields, focal_fields, path_lines, IsPathText}
use Rattle.vt_camera.specs.PathFlaws.{IsLineFlaw, IsPathFlawFrom}
use Rattle.vt_camera.specs.PathReading.{IsHead, IsLast, AddsKey, GiveCameras, GivesPictures}
use Rattle.vt_text.proofs.Words.{join-fields_of, text_of-lines_of}
use Rattle.vt_camera.proofs.PathFlawLemmas.{room_of, begins_of, pictures_of, some_picture, camera_within, flaw_here, flaw_later, lines_of_keys}
use Rattle.vt_camera.proofs.WayLemmas.{between_camera}

-- a text has a line
pub some_parts : (bs : List ℕ) → parts_of line_feed bs ≢ []
some_parts bs e = absurd (omega (arith, length-slice_split (λ b. eqb b line_feed) bs, ap length e))

-- the cameras of a key are within their limits
way_within : (a b : Camera) (n : ℕ) → IsCamera a → IsCamera b → All IsCamera (way a b n)
way_within a b n x y =
    All-map IsCamera (camera_on_way a b n) (range_with_len 1 n)
    (λ k d h. let small : k < n = omega (arith, length-range_with_len 1 n) in
    subst (λ i. IsCamera (camera_on_way a b n i)) (sym (get_or-range_with_len 1 n k d small)) (between_camera a b (1 + k) n (omega arith) x y))

cameras_within : (last : Option Camera) (before : ℕ) (key : Key) → IsKey key → IsLast last before → All IsCamera (key_cameras last key)
cameras_within last before (At camera) one is = All-cons IsCamera camera [] one (All-nil IsCamera)
cameras_within (Some a) before (To n camera) one is = way_within a camera n is.0 one.2
cameras_within None before (To n camera) one is = All-nil IsCamera

-- what was read of the lines from a place on
pub record ReadSoFar (text : List ℕ) (start at number : ℕ) (last : Option Camera) (cameras : List Camera) : Type 0 where
  pub within : at ≤ length text
  pub count : number ≤ length cameras + 3
  pub few : length cameras ≤ most_pictures
  pub each : All IsCamera cameras
  pub is_last : IsLast last (length cameras)
  pub given : (cs : List Camera) → GiveCameras last (length cameras) (lines_of (drop at text)) cs
      → GiveCameras None 0 (lines_of (drop start text)) (cameras ++ cs)
  pub flaws : (e : PathError) → IsPathFlawFrom number (length cameras) (lines_of (drop at text)) e → IsPathFlawFrom 3 0 (lines_of (drop start text)) e

-- a line more
module _ (text : List ℕ) (start at end number : ℕ) (last : Option Camera) (before after : List Camera) (camera : Camera) (line : List ℕ)
    (so_far : ReadSoFar text start at number last before)
    (cut : lines_of (drop at text) ≡ line ∷ lines_of (drop (end + 1) text)) (below : end < length text)
    (added : AddsKey number line last before after camera) where
  count_is : length after ≡ length before + key_pictures added.key
  count_is =
      let pictures : length (key_cameras last added.key) ≡ key_pictures added.key =
      pictures_of (length before) last added.key [] so_far.is_last (begins_of number (length before) added.key [] added.accepted) in
      ap length added.given ∙ length-append before (key_cameras last added.key) ∙ ap (λ n. length before + n) pictures

  given_more : (cs : List Camera) → GiveCameras (Some camera) (length after) (lines_of (drop (end + 1) text)) cs
      → GiveCameras None 0 (lines_of (drop start text)) (after ++ cs)
  given_more cs g =
      let line_is : line ≡ join_with_byte blank (key_fields added.key) = join-fields_of line (key_fields added.key) added.said.1 in
      let spelled : lines_of (drop at text) ≡ lines_of_keys (added.key ∷ g.keys) =
      cut ∙ ap (λ l. l ∷ lines_of (drop (end + 1) text)) line_is
      ∙ ap (λ ls. join_with_byte blank (key_fields added.key) ∷ ls) g.spelled in
      let same : cs ≡ cameras_after (Some (key_camera added.key)) g.keys = g.given ∙ ap (λ c. cameras_after (Some c) g.keys) added.ends in
      let all : GiveCameras last (length before) (lines_of (drop at text)) (key_cameras last added.key ++ cs) = record {
        keys = added.key ∷ g.keys;
        spelled = spelled;
        each = All-cons IsKey added.key g.keys added.said.0 g.each;
        first = begins_of number (length before) added.key g.keys added.accepted;
        given = ap (λ xs. key_cameras last added.key ++ xs) same;
      } in
      subst (λ xs. GiveCameras None 0 (lines_of (drop start text)) xs)
      (sym (ap (λ xs. xs ++ cs) added.given ∙ append_assoc before (key_cameras last added.key) cs))
      (so_far.given (key_cameras last added.key ++ cs) all)

  flaws_more : (e : PathError) → IsPathFlawFrom (number + 1) (length after) (lines_of (drop (end + 1) text)) e → IsPathFlawFrom 3 0 (lines_of (drop start text)) e
  flaws_more e f =
      so_far.flaws e (subst (λ ls. IsPathFlawFrom number (length before) ls e) (sym cut)
      (flaw_later number (length before) line (lines_of (drop (end + 1) text)) e added.key (some_parts (drop (end + 1) text)) added.said added.accepted
      (subst (λ n. IsPathFlawFrom (number + 1) n (lines_of (drop (end + 1) text)) e) count_is f)))

  pub line_read : ReadSoFar text start (end + 1) (number + 1) (Some camera) after
  line_read =
      let more : 1 ≤ key_pictures added.key = some_picture added.key added.said.0 in
      let room : length before + key_pictures added.key ≤ most_pictures = room_of number (length before) added.key added.accepted in
      let count = count_is in
      record {
        within = omega arith;
        count = omega (arith, so_far.count);
        few = omega arith;
        each =
            subst (All IsCamera) (sym added.given)
            (All-append IsCamera before (key_cameras last added.key) so_far.each (cameras_within last (length before) added.key added.said.0 so_far.is_last));
        is_last = (subst IsCamera (sym added.ends) (camera_within added.key added.said.0), omega arith);
        given = given_more;
        flaws = flaws_more;
      }

-- a line that is refused
pub line_refused : (text : List ℕ) (start at end number : ℕ) (last : Option Camera) (before : List Camera) (line : List ℕ) (e : PathError)
    → ReadSoFar text start at number last before
    → lines_of (drop at text) ≡ line ∷ lines_of (drop (end + 1) text) → IsLineFlaw number (length before) line e → IsPathFlawFrom 3 0 (lines_of (drop start text)) e
line_refused text start at end number last before line e so_far cut flaw =
    so_far.flaws e
    (subst (λ ls. IsPathFlawFrom number (length before) ls e) (sym cut)
    (flaw_here number (length before) line (lines_of (drop (end + 1) text)) e (some_parts (drop (end + 1) text)) flaw))

-- the end of the text
pub all_read : (text : List ℕ) (start at number : ℕ) (last : Option Camera) (cameras : List Camera)
    → ReadSoFar text start at number last cameras → length text ≤ at
    → GivesPictures (lines_of (drop start text)) cameras
all_read text start at number last cameras so_far end =
    let none : lines_of (drop at text) ≡ [] ∷ [] = ap lines_of (drop_all at text end) in
    let nothing : GiveCameras last (length cameras) (lines_of (drop at text)) [] =
    record { keys = []; spelled = none; each = All-nil IsKey; first = λ _. tt; given = refl } in
    record {
      by_keys = subst (λ xs. GiveCameras None 0 (lines_of (drop start text)) xs) (append-nil cameras) (so_far.given [] nothing);
      few = so_far.few;
      each = so_far.each;
    }

-- the path of a text
pub path_read : (text : List ℕ) (w h f end : ℕ) (cameras : List Camera) (path : PathView)
    → path ≡ record { width = w; height = h; focal = f; cameras = cameras } → IsHead text w h f end
    → GivesPictures (lines_of (drop end text)) cameras → IsPathText text path
path_read text w h f end cameras path e head gives =
    let g = gives.by_keys in
    let lines : lines_of text ≡ map (join_with_byte blank) (path_lines w h f g.keys) ++ ([] ∷ []) =
    head.cut ∙ ap (λ l. l ∷ head.second ∷ lines_of (drop end text)) (join-fields_of head.first (size_fields w h) head.sides.1)
    ∙ ap (λ l. join_with_byte blank (size_fields w h) ∷ l ∷ lines_of (drop end text)) (join-fields_of head.second (focal_fields f) head.focus.1)
    ∙ ap (λ ls. join_with_byte blank (size_fields w h) ∷ join_with_byte blank (focal_fields f) ∷ ls) g.spelled in
    subst (IsPathText text) (sym e) (
      g.keys,
      record {
        spelled = text_of-lines_of text (path_lines w h f g.keys) lines;
        within = record { sides = head.sides.0; focus = head.focus.0; few = gives.few; each = gives.each };
        each = g.each;
        first = g.first refl;
        cameras = g.given;
      },
    )
