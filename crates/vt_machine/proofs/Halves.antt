-- Workers of a list, and those of two parts of it.
use Rattle.std.proofs.Common.{◌≡◌, ◌+◌, ◌-◌, List, ◌++◌, length, refl, sym, ap, ◌∙◌, subst, arith, inl, inr}
use Rattle.std.specs.Prelude.{slice_index_or}
use Rattle.std.proofs.lemmas.Bool.{cases_lt}
use Rattle.std.proofs.lemmas.List.{length-append, get_or_append_left, get_or-append_right, get_or-append-add}
use Rattle.vt_machine.specs.All.{AllReady, AllDid}

module _ {W : Type 0} (ready : W → Type 0) (xs a b : List W) (parts : xs ≡ a ++ b) (each : AllReady ready xs) where
  count : length xs ≡ length a + length b
  count = ap length parts ∙ length-append a b

  pub low_ready : AllReady ready a
  low_ready k d inside =
      subst ready (ap (λ l. slice_index_or l k d) parts ∙ get_or_append_left a b d k inside) (each k d (omega (arith, inside, count)))

  pub high_ready : AllReady ready b
  high_ready k d inside =
      subst ready (ap (λ l. slice_index_or l (length a + k) d) parts ∙ get_or-append-add a b k d) (each (length a + k) d (omega (arith, inside, count)))

-- what the parts did is what the whole list did
pub both_did : {W : Type 0} (did : W → W → Type 0) (xs a b c e : List W) → xs ≡ a ++ b → length c ≡ length a → AllDid did a c → AllDid did b e
    → AllDid did xs (c ++ e)
both_did did xs a b c e parts same low high k d inside = elim (cases_lt k (length a)) [
  | inl below ↦
      subst (did (slice_index_or xs k d)) (sym (get_or_append_left c e d k (omega (arith, below, same))))
      (subst (λ w. did w (slice_index_or c k d)) (sym (ap (λ l. slice_index_or l k d) parts ∙ get_or_append_left a b d k below)) (low k d below))
  | inr past ↦
      subst (did (slice_index_or xs k d)) (sym (get_or-append_right c e (length a) k d same past))
      (subst (λ w. did w (slice_index_or e (k - length a) d))
      (sym (ap (λ l. slice_index_or l k d) parts ∙ get_or-append_right a b (length a) k d refl past))
      (high (k - length a) d (omega (arith, inside, past, ap length parts ∙ length-append a b))))
]
