-- The first flaw of a text: there is one at most, and none in the text of a path.
use Rattle.std.proofs.Common.{◌≡◌, ◌≢◌, ℕ, zero, suc, ◌+◌, ◌<◌, ◌≤◌, ◌⊎◌, inl, inr, List, [], ◌∷◌, ◌++◌, length, map, refl, sym, ap, ◌∙◌, subst, arith, Option, Some, None, Result, Ok, Err, MatchResult, length-append}
use Rattle.std.specs.List.{All, join_with_byte}
use Rattle.std.proofs.lemmas.Bool.{le-leb, lt-leb, cases_lt}
use Rattle.std.proofs.lemmas.List.Elements.{All-head, All-tail}
use Rattle.std.proofs.lemmas.List.FromFn.{length-map-range_with_len}
use Rattle.vt_text.specs.Limits.{most_pictures, blank}
use Rattle.vt_text.specs.Lines.{lines_of}
use Rattle.vt_camera.specs.declared.paths.Camera.{Camera}
use Rattle.vt_camera.specs.declared.parse.PathError.{PathError}
use Rattle.vt_camera.specs.declared.parse.PathError.TheVariants.{TooManyPictures, NoMemory}
use Rattle.vt_camera.specs.Paths.{PathView, IsCamera}
use Rattle.vt_camera.specs.Ways.{camera_on_way}
use Rattle.vt_camera.specs.PathText.{Key, At, To, IsKey, key_fields, key_camera, key_pictures, key_cameras, cameras_after, BeginsAnew, size_fields, focal_fields, path_lines, IsPathText}
use Rattle.vt_camera.specs.PathFlaws.{IsSizeLine, IsFocalLine, IsKeyLine, count_flaw, key_flaw, IsLineFlaw, IsPathFlawFrom, IsFlawFromSecond, IsFlawFromFirst, IsPathFlaw}
use Rattle.vt_camera.specs.PathReading.{IsLast}
use Rattle.vt_text.proofs.Words.{fields_of-join, lines_of-text_of}
use Rattle.vt_camera.proofs.PathFields.{words-size, words-focal, words-key, words-path, key_fields_injective, path_unique}

none_some : (a : Option PathError) (e : PathError) → a ≡ None → a ≡ Some e → ⊥
none_some a e p q = cc

-- the refusal by the number of pictures, and when there is none
pub count_none : (n : ℕ) → n ≤ most_pictures → count_flaw n ≡ None
count_none n h = rw (le-leb n most_pictures h) refl

pub count_some : (n : ℕ) → most_pictures < n → count_flaw n ≡ Some TooManyPictures
count_some n h = rw (lt-leb n most_pictures h) refl

pub count_room : (n : ℕ) → count_flaw n ≡ None → n ≤ most_pictures
count_room n h = elim (cases_lt most_pictures n) [ inl high ↦ absurd (none_some (count_flaw n) TooManyPictures h (count_some n high)) | inr low ↦ low ]

-- a key that is accepted: its pictures have room
pub room_of : (number before : ℕ) (key : Key) → key_flaw number before key ≡ None → before + key_pictures key ≤ most_pictures
room_of number before (At camera) none = count_room (before + 1) none
room_of number zero (To n camera) none = cc
room_of number (suc before) (To n camera) none = count_room (suc before + n) none

-- and it has a key to go on from
pub begins_of : (number before : ℕ) (key : Key) (keys : List Key) → key_flaw number before key ≡ None → before ≡ 0 → BeginsAnew (key ∷ keys)
begins_of number before (At camera) keys none e = tt
begins_of number zero (To n camera) keys none e = cc
begins_of number (suc before) (To n camera) keys none e = omega (arith, e)

-- a key with both is accepted
pub accepted : (number before : ℕ) (key : Key) (keys : List Key) → (before ≡ 0 → BeginsAnew (key ∷ keys))
    → before + key_pictures key ≤ most_pictures → key_flaw number before key ≡ None
accepted number before (At camera) keys begins room = count_none (before + 1) room
accepted number zero (To n camera) keys begins room = absurd (begins refl)
accepted number (suc before) (To n camera) keys begins room = count_none (suc before + n) room

-- how many cameras a key gives
pub pictures_of : (before : ℕ) (last : Option Camera) (key : Key) (keys : List Key) → IsLast last before
    → (before ≡ 0 → BeginsAnew (key ∷ keys)) → length (key_cameras last key) ≡ key_pictures key
pictures_of before last (At camera) keys is begins = omega arith
pictures_of before (Some a) (To n camera) keys is begins = length-map-range_with_len (camera_on_way a camera n) 1 n
pictures_of before None (To n camera) keys is begins = absurd (begins is)

pub some_picture : (key : Key) → IsKey key → 1 ≤ key_pictures key
some_picture (At camera) is = omega arith
some_picture (To n camera) is = is.0

pub camera_within : (key : Key) → IsKey key → IsCamera (key_camera key)
camera_within (At camera) is = is
camera_within (To n camera) is = is.2

-- a line gives one key
pub key_of_line : (line : List ℕ) (k l : Key) → IsKeyLine line k → IsKeyLine line l → k ≡ l
key_of_line line k l a b = key_fields_injective k l (sym a.1 ∙ b.1)

-- a line is not both refused and accepted
pub not_both : (number before : ℕ) (line : List ℕ) (e : PathError) (k : Key) → IsLineFlaw number before line e
    → IsKeyLine line k → key_flaw number before k ≡ None → ⊥
not_both number before line e k (inl (none, p)) is accepts = none k is
not_both number before line e k (inr (l, it, q)) is accepts =
    none_some (key_flaw number before l) e (ap (key_flaw number before) (key_of_line line l k it is) ∙ accepts) q

-- a line has one refusal
some_same : (a : Option PathError) (e f : PathError) → a ≡ Some e → a ≡ Some f → e ≡ f
some_same a e f p q = let s : Some e ≡ Some f = sym p ∙ q in cc

line_flaw_unique : (number before : ℕ) (line : List ℕ) (e f : PathError) → IsLineFlaw number before line e → IsLineFlaw number before line f → e ≡ f
line_flaw_unique number before line e f (inl (none, p)) (inl (none', q)) = p ∙ sym q
line_flaw_unique number before line e f (inl (none, p)) (inr (l, it, q)) = absurd (none l it)
line_flaw_unique number before line e f (inr (k, is, p)) (inl (none, q)) = absurd (none k is)
line_flaw_unique number before line e f (inr (k, is, p)) (inr (l, it, q)) =
    some_same (key_flaw number before k) e f p (ap (key_flaw number before) (key_of_line line k l is it) ∙ q)

-- the lines from one on have one first refusal
flaw_from_unique : (number before : ℕ) (lines : List (List ℕ)) (e f : PathError) → IsPathFlawFrom number before lines e → IsPathFlawFrom number before lines f → e ≡ f
flaw_from_unique number before [] e f a b = absurd a
flaw_from_unique number before (rest ∷ []) e f a b = a.1 ∙ sym b.1
flaw_from_unique number before (line ∷ next ∷ lines) e f (inl a) (inl b) = line_flaw_unique number before line e f a b
flaw_from_unique number before (line ∷ next ∷ lines) e f (inl a) (inr (l, it, none, later)) = absurd (not_both number before line e l a it none)
flaw_from_unique number before (line ∷ next ∷ lines) e f (inr (k, is, none, later)) (inl b) = absurd (not_both number before line f k b is none)
flaw_from_unique number before (line ∷ next ∷ lines) e f (inr (k, is, none, later)) (inr (l, it, none', later')) =
    flaw_from_unique (number + 1) (before + key_pictures k) (next ∷ lines) e f later
    (subst (λ z. IsPathFlawFrom (number + 1) (before + key_pictures z) (next ∷ lines) f) (key_of_line line l k it is) later')

flaw_second_unique : (lines : List (List ℕ)) (e f : PathError) → IsFlawFromSecond lines e → IsFlawFromSecond lines f → e ≡ f
flaw_second_unique [] e f a b = absurd a
flaw_second_unique (rest ∷ []) e f a b = a ∙ sym b
flaw_second_unique (line ∷ next ∷ lines) e f (inl (none, p)) (inl (none', q)) = p ∙ sym q
flaw_second_unique (line ∷ next ∷ lines) e f (inl (none, p)) (inr (l, it, later)) = absurd (none l it)
flaw_second_unique (line ∷ next ∷ lines) e f (inr (k, is, later)) (inl (none, q)) = absurd (none k is)
flaw_second_unique (line ∷ next ∷ lines) e f (inr (k, is, later)) (inr (l, it, later')) = flaw_from_unique 3 0 (next ∷ lines) e f later later'

flaw_first_unique : (lines : List (List ℕ)) (e f : PathError) → IsFlawFromFirst lines e → IsFlawFromFirst lines f → e ≡ f
flaw_first_unique [] e f a b = absurd a
flaw_first_unique (rest ∷ []) e f a b = a ∙ sym b
flaw_first_unique (line ∷ next ∷ lines) e f (inl (none, p)) (inl (none', q)) = p ∙ sym q
flaw_first_unique (line ∷ next ∷ lines) e f (inl (none, p)) (inr (w, h, it, later)) = absurd (none w h it)
flaw_first_unique (line ∷ next ∷ lines) e f (inr (w, h, is, later)) (inl (none, q)) = absurd (none w h is)
flaw_first_unique (line ∷ next ∷ lines) e f (inr (w, h, is, later)) (inr (w', h', it, later')) = flaw_second_unique (next ∷ lines) e f later later'

pub path_flaw_unique : (text : List ℕ) (e f : PathError) → IsPathFlaw text e → IsPathFlaw text f → e ≡ f
path_flaw_unique text e f a b = flaw_first_unique (lines_of text) e f a b

-- a line before others: its own flaw, or a later one
pub flaw_here : (number before : ℕ) (line : List ℕ) (rest : List (List ℕ)) (e : PathError) → rest ≢ []
    → IsLineFlaw number before line e → IsPathFlawFrom number before (line ∷ rest) e
flaw_here number before line [] e some flaw = absurd (some refl)
flaw_here number before line (next ∷ lines) e some flaw = inl flaw

pub flaw_later : (number before : ℕ) (line : List ℕ) (rest : List (List ℕ)) (e : PathError) (key : Key) → rest ≢ []
    → IsKeyLine line key → key_flaw number before key ≡ None
    → IsPathFlawFrom (number + 1) (before + key_pictures key) rest e → IsPathFlawFrom number before (line ∷ rest) e
flaw_later number before line [] e key some is accepts flaw = absurd (some refl)
flaw_later number before line (next ∷ lines) e key some is accepts flaw = inr (key, is, accepts, flaw)

-- the rest of a flaw after a key's line
flaw_after : (number before : ℕ) (line : List ℕ) (rest : List (List ℕ)) (e : PathError) (key : Key) → rest ≢ []
    → IsKeyLine line key → key_flaw number before key ≡ None
    → IsPathFlawFrom number before (line ∷ rest) e → IsPathFlawFrom (number + 1) (before + key_pictures key) rest e
flaw_after number before line [] e key some is accepts flaw = absurd (some refl)
flaw_after number before line (next ∷ lines) e key some is accepts (inl a) = absurd (not_both number before line e key a is accepts)
flaw_after number before line (next ∷ lines) e key some is accepts (inr (l, it, none, later)) =
    subst (λ z. IsPathFlawFrom (number + 1) (before + key_pictures z) (next ∷ lines) e) (key_of_line line l key it is) later

-- the lines of keys, with the empty rest
abbrev pub lines_of_keys : List Key → List (List ℕ)
lines_of_keys keys = map (join_with_byte blank) (map key_fields keys) ++ ([] ∷ [])

some_lines : (keys : List Key) → lines_of_keys keys ≢ []
some_lines [] e = cc
some_lines (key ∷ keys) e = cc

-- the lines of accepted keys have no flaw
no_flaw_from : (number before : ℕ) (last : Option Camera) (keys : List Key) (e : PathError) → All IsKey keys
    → (before ≡ 0 → BeginsAnew keys) → IsLast last before
    → before + length (cameras_after last keys) ≤ most_pictures → IsPathFlawFrom number before (lines_of_keys keys) e → ⊥
no_flaw_from number before last [] e each begins is room flaw = flaw.0 refl
no_flaw_from number before last (key ∷ keys) e each begins is room flaw =
    let one : IsKey key = All-head IsKey key keys each in
    let count : length (key_cameras last key) ≡ key_pictures key = pictures_of before last key keys is begins in
    let more : 1 ≤ key_pictures key = some_picture key one in
    let whole = length-append (key_cameras last key) (cameras_after (Some (key_camera key)) keys) in
    let accepts : key_flaw number before key ≡ None = accepted number before key keys begins (omega arith) in
    let said : IsKeyLine (join_with_byte blank (key_fields key)) key = (one, fields_of-join (key_fields key) (words-key key)) in
    no_flaw_from (number + 1) (before + key_pictures key) (Some (key_camera key)) keys e
    (All-tail IsKey key keys each) (λ z. absurd (omega arith)) (camera_within key one, omega arith) (omega arith)
    (flaw_after number before (join_with_byte blank (key_fields key)) (lines_of_keys keys) e key (some_lines keys) said accepts flaw)

flaw_third : (line : List ℕ) (rest : List (List ℕ)) (e : PathError) (f : ℕ) → rest ≢ [] → IsFocalLine line f
    → IsFlawFromSecond (line ∷ rest) e → IsPathFlawFrom 3 0 rest e
flaw_third line [] e f some is flaw = absurd (some refl)
flaw_third line (next ∷ lines) e f some is (inl (none, p)) = absurd (none f is)
flaw_third line (next ∷ lines) e f some is (inr (g, it, later)) = later

flaw_second : (line next : List ℕ) (lines : List (List ℕ)) (e : PathError) (w h : ℕ) → IsSizeLine line w h
    → IsFlawFromFirst (line ∷ next ∷ lines) e → IsFlawFromSecond (next ∷ lines) e
flaw_second line next lines e w h is (inl (none, p)) = absurd (none w h is)
flaw_second line next lines e w h is (inr (w', h', it, later)) = later

-- the text of a path has no flaw
pub no_path_flaw : (text : List ℕ) (path : PathView) (e : PathError) → IsPathText text path → IsPathFlaw text e → ⊥
no_path_flaw text path e (keys, by) flaw =
    let p = by.within in
    let lines : lines_of text ≡ join_with_byte blank (size_fields path.width
    path.height) ∷ join_with_byte blank (focal_fields path.focal) ∷ lines_of_keys keys =
    ap lines_of by.spelled ∙ lines_of-text_of (path_lines path.width path.height path.focal keys) (words-path path.width path.height path.focal keys) in
    let size : IsSizeLine (join_with_byte blank (size_fields path.width path.height)) path.width path.height =
    (p.sides, fields_of-join (size_fields path.width path.height) (words-size path.width path.height)) in
    let focal : IsFocalLine (join_with_byte blank (focal_fields path.focal)) path.focal =
    (p.focus, fields_of-join (focal_fields path.focal) (words-focal path.focal)) in
    let first : IsFlawFromFirst (join_with_byte blank (size_fields path.width path.height) ∷ join_with_byte blank
    (focal_fields path.focal) ∷ lines_of_keys keys) e =
    subst (λ ls. IsFlawFromFirst ls e) lines flaw in
    let second : IsFlawFromSecond (join_with_byte blank (focal_fields path.focal) ∷ lines_of_keys keys) e =
    flaw_second (join_with_byte blank (size_fields path.width path.height))
    (join_with_byte blank (focal_fields path.focal)) (lines_of_keys keys) e path.width path.height size first in
    let third : IsPathFlawFrom 3 0 (lines_of_keys keys) e =
    flaw_third (join_with_byte blank (focal_fields path.focal)) (lines_of_keys keys) e path.focal (some_lines keys) focal second in
    let count : length (cameras_after None keys) ≤ most_pictures = omega (arith, p.few, ap length by.cameras) in
    no_flaw_from 3 0 None keys e by.each (λ z. by.first) refl (omega arith) third

-- what the reading finds decides its answer
pub formed : (text : List ℕ) (result : Result PathView PathError) → MatchResult result (IsPathText text) (λ e. (e ≡ NoMemory) ⊎ IsPathFlaw text e)
    → (path : PathView) → IsPathText text path → (result ≡ Ok path) ⊎ (result ≡ Err NoMemory)
formed text (Ok p) found path is = inl (ap Ok (path_unique text p path found is))
formed text (Err e) (inl memory) path is = inr (ap Err memory)
formed text (Err e) (inr flaw) path is = absurd (no_path_flaw text path e is flaw)

pub flawed : (text : List ℕ) (result : Result PathView PathError) → MatchResult result (IsPathText text) (λ e. (e ≡ NoMemory) ⊎ IsPathFlaw text e)
    → (f : PathError) → IsPathFlaw text f → (result ≡ Err f) ⊎ (result ≡ Err NoMemory)
flawed text (Ok p) found f flaw = absurd (no_path_flaw text p f found flaw)
flawed text (Err e) (inl memory) f flaw = inr (ap Err memory)
flawed text (Err e) (inr other) f flaw = inl (ap Err (path_flaw_unique text e f other flaw))
