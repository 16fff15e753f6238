-- An input has one content, and what a folder holds of some inputs is one list of contents.
use Rattle.std.proofs.Common.{◌≡◌, ℕ, List, [], ◌∷◌, length, Option, refl, sym, ap, ap₂, subst, ◌∙◌}
use Rattle.std.specs.Option.{IsSome}
use Rattle.vt_outside.specs.Files.{Files}
use Rattle.vt_camera.specs.Paths.{PathView}
use Rattle.vt_camera.proofs.PathFields.{path_unique}
use Rattle.vt_pages.specs.Shape.{Shape}
use Rattle.vt_ppm.specs.Image.{ImageView}
use Rattle.vt_pages.specs.Limits.{most_read_side, most_tiled_side}
use Rattle.vt_ppm.proofs.ImageLaws.{one_image}
use Rattle.vt_command_inputs.specs.Inputs
use Rattle.vt_command_inputs.specs.Inputs.{Input, InputContent, name_of, IsContent}
use Rattle.vt_command_inputs.specs.HeldInputs.{Holds}
use Rattle.vt_command_inputs.specs.Causes.{AreHeld}
use Rattle.vt_command_inputs.proofs.Excluded.{same_bytes, there_known}

is_path : (name bytes : List ℕ) (p : PathView) (b : InputContent) → IsContent (Inputs.PathInput name) bytes (Inputs.PathContent p)
    → IsContent (Inputs.PathInput name) bytes b → Inputs.PathContent p ≡ b
is_path name bytes p (Inputs.PathContent q) x y = ap Inputs.PathContent (path_unique bytes p q x y)
is_path name bytes p _ x y = absurd y

is_texture : (name bytes : List ℕ) (p : ImageView) (b : InputContent) → IsContent (Inputs.TextureInput name) bytes (Inputs.TextureContent p)
    → IsContent (Inputs.TextureInput name) bytes b → Inputs.TextureContent p ≡ b
is_texture name bytes p (Inputs.TextureContent q) x y = ap Inputs.TextureContent (one_image most_read_side bytes p q x y)
is_texture name bytes p _ x y = absurd y

is_tiled : (name : List ℕ) (tile : ℕ) (bytes : List ℕ) (p : ImageView) (b : InputContent)
    → IsContent (Inputs.TiledTexture name tile) bytes (Inputs.TextureContent p)
    → IsContent (Inputs.TiledTexture name tile) bytes b → Inputs.TextureContent p ≡ b
is_tiled name tile bytes p (Inputs.TextureContent q) x y = ap Inputs.TextureContent (one_image most_tiled_side bytes p q x.0 y.0)
is_tiled name tile bytes p _ x y = absurd y

is_store : (name bytes : List ℕ) (s : Shape) (d : ℕ) (b : InputContent) → IsContent (Inputs.StoreInput name) bytes (Inputs.StoreContent s d)
    → IsContent (Inputs.StoreInput name) bytes b → Inputs.StoreContent s d ≡ b
is_store name bytes s d (Inputs.StoreContent t e) x y = ap₂ Inputs.StoreContent (sym x.shape_is ∙ y.shape_is) (sym x.depth_is ∙ y.depth_is)
is_store name bytes s d _ x y = absurd y

is_narrow : (name bytes : List ℕ) (s : Shape) (held : List ℕ) (b : InputContent)
    → IsContent (Inputs.NarrowStore name) bytes (Inputs.NarrowContent s held)
    → IsContent (Inputs.NarrowStore name) bytes b → Inputs.NarrowContent s held ≡ b
is_narrow name bytes s held (Inputs.NarrowContent t other) x y = ap₂ Inputs.NarrowContent (sym x.0.shape_is ∙ y.0.shape_is) (x.1 ∙ sym y.1)
is_narrow name bytes s held _ x y = absurd y

is_paged : (name bytes : List ℕ) (s : Shape) (d : ℕ) (held : List ℕ) (b : InputContent)
    → IsContent (Inputs.PagedStore name) bytes (Inputs.PagedContent s d held)
    → IsContent (Inputs.PagedStore name) bytes b → Inputs.PagedContent s d held ≡ b
is_paged name bytes s d held (Inputs.PagedContent t e other) x y =
    let shape : s ≡ t = sym x.0.shape_is ∙ y.0.shape_is in
    let depth : d ≡ e = sym x.0.depth_is ∙ y.0.depth_is in
    let same : held ≡ other = x.1 ∙ sym y.1 in
    cc
is_paged name bytes s d held _ x y = absurd y

is_text : (name bytes held : List ℕ) (b : InputContent) → IsContent (Inputs.JournalInput name) bytes (Inputs.TextContent held)
    → IsContent (Inputs.JournalInput name) bytes b → Inputs.TextContent held ≡ b
is_text name bytes held (Inputs.TextContent other) x y = ap Inputs.TextContent (x ∙ sym y)
is_text name bytes held _ x y = absurd y

-- bytes have one content as an input
one_content : (input : Input) (bytes : List ℕ) (a b : InputContent) → IsContent input bytes a → IsContent input bytes b → a ≡ b
one_content (Inputs.PathInput name) bytes (Inputs.PathContent p) b x y = is_path name bytes p b x y
one_content (Inputs.PathInput name) bytes _ b x y = absurd x
one_content (Inputs.TextureInput name) bytes (Inputs.TextureContent p) b x y = is_texture name bytes p b x y
one_content (Inputs.TextureInput name) bytes _ b x y = absurd x
one_content (Inputs.TiledTexture name tile) bytes (Inputs.TextureContent p) b x y = is_tiled name tile bytes p b x y
one_content (Inputs.TiledTexture name tile) bytes _ b x y = absurd x
one_content (Inputs.StoreInput name) bytes (Inputs.StoreContent s d) b x y = is_store name bytes s d b x y
one_content (Inputs.StoreInput name) bytes _ b x y = absurd x
one_content (Inputs.NarrowStore name) bytes (Inputs.NarrowContent s held) b x y = is_narrow name bytes s held b x y
one_content (Inputs.NarrowStore name) bytes _ b x y = absurd x
one_content (Inputs.PagedStore name) bytes (Inputs.PagedContent s d held) b x y = is_paged name bytes s d held b x y
one_content (Inputs.PagedStore name) bytes _ b x y = absurd x
one_content (Inputs.JournalInput name) bytes (Inputs.TextContent held) b x y = is_text name bytes held b x y
one_content (Inputs.JournalInput name) bytes _ b x y = absurd x

-- a folder has one content of an input
one_held : (files : Option Files) (input : Input) (a b : InputContent) → Holds files input a → Holds files input b → a ≡ b
one_held files input a b x y =
    one_content input x.bytes a b x.is
    (subst (λ (bytes : List ℕ). IsContent input bytes b) (same_bytes files (name_of input) y.bytes x.bytes y.there x.there) y.is)

known_bytes : (files : Option Files) (input : Input) (content : InputContent) → Holds files input content → IsSome files
known_bytes files input content h = there_known files (name_of input) h.bytes h.there

all_held : (files : Option Files) (inputs : List Input) (contents others : List InputContent) → AreHeld files inputs contents → AreHeld files inputs others
    → contents ≡ others
all_held files [] [] [] h more = refl
all_held files [] (x ∷ xs) others h more = absurd h
all_held files [] [] (y ∷ ys) h more = absurd more
all_held files (input ∷ inputs) [] others h more = absurd h
all_held files (input ∷ inputs) (x ∷ xs) [] h more = absurd more
all_held files (input ∷ inputs) (x ∷ xs) (y ∷ ys) h more =
    ap₂ (λ (c : InputContent) (cs : List InputContent). c ∷ cs) (one_held files input x y h.0 more.0) (all_held files inputs xs ys h.1 more.1)

-- what a folder holds of some inputs is what a command knows of them, as far as the folder tells
pub same_held : (files : Option Files) (inputs : List Input) (contents others : List InputContent) → AreHeld files inputs contents
    → length others ≡ length inputs → (IsSome files → AreHeld files inputs others) → contents ≡ others
same_held files [] [] [] h count more = refl
same_held files [] (x ∷ xs) others h count more = absurd h
same_held files [] [] (y ∷ ys) h count more = absurd (let wrong = count in cc)
same_held files (input ∷ inputs) [] others h count more = absurd h
same_held files (input ∷ inputs) (x ∷ xs) others h count more =
    all_held files (input ∷ inputs) (x ∷ xs) others h (more (known_bytes files input x h.0))
