-- The bytes that all stores of a texture tell.
use Rattle.std.proofs.Common.{◌≡◌, ℕ, List, [], ◌∷◌, Some, sym, subst, arith}
use Rattle.std.specs.Prelude.{slice_get}
use Rattle.std.proofs.lemmas.Option.{none-some, same_Some}
use Rattle.vt_outside.specs.declared.outside.File.{Ghosts as FileMeanings}
use Rattle.vt_tiles.specs.Shape.{Shape}
use Rattle.vt_tiles.specs.StoreViews.{StoreView, IsStoreIfKnown}
use Rattle.vt_requests.specs.Machines.{known_bytes, AreStoresFor}

-- what the first of some stores knows of its bytes
pub known_first : {F : Type 0} (g : FileMeanings F) (s : Shape) (d loaders : ℕ) (stores : List (StoreView F)) (store : StoreView F)
    → AreStoresFor g s d loaders stores
    → slice_get stores 0 ≡ Some store → IsStoreIfKnown (g.bytes store.file) store.shape store.depth → IsStoreIfKnown (known_bytes g stores) s d
known_first g s d loaders [] store are is known = absurd (none-some store is)
known_first g s d loaders (x ∷ xs) store are is known =
    let same : x ≡ store = same_Some x store is in
    let mine = subst (λ (y : StoreView _). IsStoreIfKnown (g.bytes y.file) y.shape y.depth) (sym same) known in
    subst (λ (z : Shape × ℕ). IsStoreIfKnown (g.bytes x.file) z.0 z.1) (λ i. (are.shapes 0 x (omega arith) i, are.depths 0 x (omega arith) i)) mine
