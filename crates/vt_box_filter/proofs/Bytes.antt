-- Bytes, as what a slice is known to hold.
use Rattle.std.proofs.Common.{ℕ, List, get_or, Fits, w8, ◌<◌, subst, sym}
use Rattle.std.proofs.lemmas.List.{get_or_default}
use Rattle.vt_definitions.specs.Depths.{AreBytes}

pub are_bytes : (l : List ℕ) → ((i : ℕ) → Fits w8 (get_or l i 0)) → AreBytes l
are_bytes l each = λ k d inside. subst (λ (n : ℕ). n < 256) (sym (get_or_default l k d 0 inside)) (each k).fits
