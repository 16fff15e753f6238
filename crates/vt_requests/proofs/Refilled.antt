-- Workers that were lent as a slice, and are back in their list.
use Rattle.std.proofs.Common.{◌≡◌, ℕ, List, ◌++◌, length, take, drop, sym, ap, ◌∙◌, subst}
use Rattle.std.specs.List.{refill}
use Rattle.std.proofs.Math.Seq.{take-append_seam}
use Rattle.vt_machine.specs.Jobs.{Job}
use Rattle.vt_machine.specs.All.{AllDid}

-- a list whose lent elements are all back
pub refilled : {W : Type 0} (xs ws : List W) → length ws ≡ length xs → refill (length xs) xs ws ≡ ws
refilled xs ws e = ap (λ (n : ℕ). take n (ws ++ drop (length ws) xs)) (sym e) ∙ take-append_seam ws (drop (length ws) xs)

pub same_number : {W : Type 0} (xs lent ws : List W) → lent ≡ xs → length ws ≡ length lent → length (refill (length xs) xs ws) ≡ length xs
same_number xs lent ws same number =
    let e : length ws ≡ length xs = number ∙ ap length same in
    ap length (refilled xs ws e) ∙ e

-- what was done to what was lent, said of the list
module _ {S W : Type 0} (did : S → Job → W → W → Type 0) (s t : S) (i j : Job) (shared : s ≡ t) (job : i ≡ j) where
  pub all_did : (xs lent ws : List W) → lent ≡ xs → length ws ≡ length lent → AllDid (did s i) lent ws → AllDid (did t j) xs (refill (length xs) xs ws)
  all_did xs lent ws same number h =
      let e : length ws ≡ length xs = number ∙ ap length same in
      subst (λ l. AllDid (did t j) xs l) (sym (refilled xs ws e))
      (subst (λ l. AllDid (did t j) l ws) same (subst (λ x. AllDid (did x j) lent ws) shared (subst (λ k. AllDid (did s k) lent ws) job h)))
