-- A store that was opened, as callers see it.
use Rattle.std.specs.Prelude.{◌≡◌, ℕ, true, List, Option, Some, None, Result, Ok, Err}
use Rattle.vt_pages.specs.Depths.{IsDepth}
use Rattle.vt_pages.specs.Shape.{Shape}
use Rattle.vt_tiles.specs.Format.{store_flaw, has_magic, header_shape, store_depth}
use Rattle.vt_tiles.specs.declared.error.StoreError.{StoreError}

-- a reader of a store: its file, the shape of its pages, and how many bytes a sample has
pub record StoreView (F : Type 0) : Type 0 where
  pub file : F
  pub shape : Shape
  pub depth : ℕ

-- the bytes begin as a store of this depth does
pub record SpellsDepth (bytes : List ℕ) (depth : ℕ) : Type 0 where
  pub has : has_magic bytes ≡ true
  pub is : depth ≡ store_depth bytes
  pub lawful : IsDepth depth

-- the bytes are a store of this shape and this depth
pub record IsStore (bytes : List ℕ) (shape : Shape) (depth : ℕ) : Type 0 where
  pub no_flaw : store_flaw bytes ≡ None
  pub shape_is : header_shape bytes ≡ shape
  pub depth_is : store_depth bytes ≡ depth

-- the bytes, where they are known, are a store of this shape and this depth
pub record IsStoreIfKnown (known : Option (List ℕ)) (shape : Shape) (depth : ℕ) : Type 0 where
  pub each : (bytes : List ℕ) → known ≡ Some bytes → IsStore bytes shape depth

-- what a reader knows of its file: it is a store where its bytes are known, and its depth is one that a store may have
pub record IsOpened (known : Option (List ℕ)) (shape : Shape) (depth : ℕ) : Type 0 where
  pub store : IsStoreIfKnown known shape depth
  pub lawful : IsDepth depth

-- the file that an opening hands back, in the store or beside the refusal
abbrev pub file_after : {F : Type 0} → Result (StoreView F) (F × StoreError) → F
file_after (Ok store) = store.file
file_after (Err refusal) = refusal.0

-- the refusal of an opening, if it is one
abbrev pub refusal_in : {F : Type 0} → Result (StoreView F) (F × StoreError) → Option StoreError
refusal_in (Ok store) = None
refusal_in (Err refusal) = Some refusal.1
