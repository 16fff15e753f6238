-- The lines of a path: their fields are words, and tell the numbers.
use Rattle.std.proofs.Common.{codes, ◌≡◌, ℕ, List, [], ◌∷◌, map, refl, sym, ap, ◌∙◌, arith, ℤ}
use Rattle.vt_text.proofs.Spelling.{number_spelling_injective, spelling_injective}
use Rattle.vt_camera.specs.declared.paths.Camera.{Camera}
use Rattle.vt_camera.specs.Paths.{PathView}
use Rattle.vt_camera.specs.PathText.{Key, At, To, number_fields, way_fields, size_fields, focal_fields, camera_fields, key_fields, cameras_of, path_lines, path_text, IsPathText}
use Rattle.vt_text.proofs.Words.{HasWords, AllHaveWords, word-number_spelling, word-spelling, text_of_injective}

pub words-size : (w h : ℕ) → HasWords (size_fields w h)
words-size w h = (omega arith, ((omega arith, (omega arith, (omega arith, (omega arith, tt)))), (word-number_spelling w, (word-number_spelling h, tt))))

pub words-focal : (f : ℕ) → HasWords (focal_fields f)
words-focal f = (omega arith, ((omega arith, (omega arith, (omega arith, (omega arith, (omega arith, tt))))), (word-number_spelling f, tt)))

pub words-camera : (camera : Camera) → HasWords (camera_fields camera)
words-camera camera = (
  omega arith,
  (
    (omega arith, (omega arith, tt)),
    (word-spelling camera.u, (word-spelling camera.v, (word-spelling camera.h, (word-spelling camera.c, (word-spelling camera.s, tt))))),
  ),
)

words-way : (n : ℕ) (camera : Camera) → HasWords (way_fields n camera)
words-way n camera = (
  omega arith,
  (
    (omega arith, (omega arith, tt)),
    (
      word-number_spelling n,
      (word-spelling camera.u, (word-spelling camera.v, (word-spelling camera.h, (word-spelling camera.c, (word-spelling camera.s, tt))))),
    ),
  ),
)

pub words-key : (key : Key) → HasWords (key_fields key)
words-key (At camera) = words-camera camera
words-key (To n camera) = words-way n camera

words-keys : (keys : List Key) → AllHaveWords (map key_fields keys)
words-keys [] = tt
words-keys (key ∷ keys) = (words-key key, words-keys keys)

pub words-path : (w h f : ℕ) (keys : List Key) → AllHaveWords (path_lines w h f keys)
words-path w h f keys = (words-size w h, (words-focal f, words-keys keys))

-- a camera's fields tell the camera
pub camera_fields_injective : (a b : Camera) → camera_fields a ≡ camera_fields b → a ≡ b
camera_fields_injective a b e =
    let u : a.u ≡ b.u = spelling_injective a.u b.u (cc) in
    let v : a.v ≡ b.v = spelling_injective a.v b.v (cc) in
    let h : a.h ≡ b.h = spelling_injective a.h b.h (cc) in
    let c : a.c ≡ b.c = spelling_injective a.c b.c (cc) in
    let s : a.s ≡ b.s = spelling_injective a.s b.s (cc) in
    let made : ℤ → ℤ → ℤ → ℤ → ℤ → Camera = λ u v h c s. record { u = u; v = v; h = h; c = c; s = s } in
    ap (λ x. made x a.v a.h a.c a.s) u ∙ ap (λ x. made b.u x a.h a.c a.s) v ∙ ap (λ x. made b.u b.v x a.c a.s) h
    ∙ ap (λ x. made b.u b.v b.h x a.s) c ∙ ap (λ x. made b.u b.v b.h b.c x) s

way_fields_injective : (m n : ℕ) (a b : Camera) → way_fields m a ≡ way_fields n b → To m a ≡ To n b
way_fields_injective m n a b e =
    let pictures : m ≡ n = number_spelling_injective m n (cc) in
    let numbers : number_fields a ≡ number_fields b = cc in
    let camera : a ≡ b = camera_fields_injective a b (ap (λ xs. codes "at" ∷ xs) numbers) in
    ap (λ k. To k a) pictures ∙ ap (λ x. To n x) camera

-- a key's fields tell the key
pub key_fields_injective : (k l : Key) → key_fields k ≡ key_fields l → k ≡ l
key_fields_injective (At a) (At b) e = ap At (camera_fields_injective a b e)
key_fields_injective (At a) (To n b) e = cc
key_fields_injective (To m a) (At b) e = cc
key_fields_injective (To m a) (To n b) e = way_fields_injective m n a b e

keys_injective : (ks ls : List Key) → map key_fields ks ≡ map key_fields ls → ks ≡ ls
keys_injective [] [] e = refl
keys_injective [] (l ∷ ls) e = cc
keys_injective (k ∷ ks) [] e = cc
keys_injective (k ∷ ks) (l ∷ ls) e =
    let heads : key_fields k ≡ key_fields l = cc in
    let tails : map key_fields ks ≡ map key_fields ls = cc in
    ap (λ x. x ∷ ks) (key_fields_injective k l heads) ∙ ap (λ xs. l ∷ xs) (keys_injective ks ls tails)

-- the numbers of a path's text
record SameNumbers (w w' h h' f f' : ℕ) (ks ks' : List Key) : Type 0 where
  width : w ≡ w'
  height : h ≡ h'
  focal : f ≡ f'
  keys : ks ≡ ks'

same_numbers : (w w' h h' f f' : ℕ) (ks ks' : List Key) → path_text w h f ks ≡ path_text w' h' f' ks' → SameNumbers w w' h h' f f' ks ks'
same_numbers w w' h h' f f' ks ks' e =
    let lines : path_lines w h f ks ≡ path_lines w' h' f' ks' =
    text_of_injective (path_lines w h f ks) (path_lines w' h' f' ks') (words-path w h f ks) (words-path w' h' f' ks') e in
    record {
      width = number_spelling_injective w w' (cc);
      height = number_spelling_injective h h' (cc);
      focal = number_spelling_injective f f' (cc);
      keys = keys_injective ks ks' (cc);
    }

-- one text is that of one path
pub path_unique : (text : List ℕ) (p q : PathView) → IsPathText text p → IsPathText text q → p ≡ q
path_unique text p q (ks, a) (ls, b) =
    let same = same_numbers p.width q.width p.height q.height p.focal q.focal ks ls (sym a.spelled ∙ b.spelled) in
    let cameras : p.cameras ≡ q.cameras = a.cameras ∙ ap cameras_of same.keys ∙ sym b.cameras in
    let made : ℕ → ℕ → ℕ → List Camera → PathView = λ w h f cs. record { width = w; height = h; focal = f; cameras = cs } in
    ap (λ x. made x p.height p.focal p.cameras) same.width ∙ ap (λ x. made q.width x p.focal p.cameras) same.height
    ∙ ap (λ x. made q.width q.height x p.cameras) same.focal ∙ ap (λ x. made q.width q.height q.focal x) cameras
