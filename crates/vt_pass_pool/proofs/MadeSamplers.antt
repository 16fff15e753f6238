-- Samplers that are made, one after another.
use Rattle.std.proofs.Common.{◌≡◌, ℕ, ◌+◌, List, [], ◌∷◌, ◌++◌, length, map, reverse, refl, sym, ap, ◌∙◌, subst, arith}
use Rattle.std.specs.Prelude.{slice_get}
use Rattle.std.proofs.lemmas.List.{length-append, map-append, reverse-append, append_assoc, append-nil}
use Rattle.std.proofs.lemmas.Option.{none-some}
use Rattle.vt_journal.specs.Shape.{Shape}
use Rattle.vt_pass_rows.specs.PageTableTypes.table.PageTable.{Ghosts as TableMeanings}
use Rattle.vt_pass_rows.specs.Readers.{AreHome}
use Rattle.vt_pass_rows.specs.SchedulesTypes.bag.RowJob.{RowJob}
use Rattle.vt_pass_rows.specs.SchedulesRows.{AreRowsInPlace}
use Rattle.vt_pass_rows.specs.declared.sampler.PassSampler.{PassSampler}
use Rattle.vt_pass_pool.specs.Pools.{IsSampler, AreSamplers, AreAtHome}
use Rattle.vt_pass_pool.proofs.Listed.{made_at, pushed_at}

-- the last of a list is the first of the turned one
pub turned_more : {X : Type 0} (made list rest whole : List X) (x : X) → made ++ reverse list ≡ whole → list ≡ rest ++ x ∷ []
    → (made ++ x ∷ []) ++ reverse rest ≡ whole
turned_more made list rest whole x are is =
    append_assoc made (x ∷ []) (reverse rest) ∙ ap (λ l. made ++ l) (sym (ap reverse is ∙ reverse-append rest (x ∷ []))) ∙ are

module _ (line : ℕ) where
  pub rows_more : (n : ℕ) (jobs : List RowJob) (job : RowJob) → AreRowsInPlace n line jobs → job.row ≡ n → length job.samples.elements ≡ line
      → AreRowsInPlace (n + 1) line (jobs ++ job ∷ [])
  rows_more n jobs job h row full = record {
    number = length-append jobs (job ∷ []) ∙ ap (λ k. k + 1) h.number;
    each = pushed_at (λ y j. (j.row ≡ y) × (length j.samples.elements ≡ line)) jobs job h.each (row ∙ sym h.number, full);
  }

module _ {T S H R W B O M : Type 0} where
  pub samplers_none : (s : Shape) → AreSamplers s 0 (let l : List (PassSampler T S H R W B O M) = [] in l)
  samplers_none s = record { number = refl; each = λ k a is. absurd (none-some a is) }

  pub samplers_more : (s : Shape) (n : ℕ) (samplers : List (PassSampler T S H R W B O M)) (a : PassSampler T S H R W B O M) → AreSamplers s n samplers
      → IsSampler s n a → AreSamplers s (n + 1) (samplers ++ a ∷ [])
  samplers_more s n samplers a are new = record {
    number = length-append samplers (a ∷ []) ∙ ap (λ k. k + 1) are.number;
    each = pushed_at (λ k b. IsSampler s k b) samplers a are.each (subst (λ k. IsSampler s k a) (sym are.number) new);
  }

  -- their readers are those of a list
  pub readers_more : (samplers : List (PassSampler T S H R W B O M)) (a : PassSampler T S H R W B O M) (list rest all : List R)
      → all ≡ map (λ (x : PassSampler T S H R W B O M). x.reader) samplers ++ reverse list → list ≡ rest ++ a.reader ∷ []
      → all ≡ map (λ (x : PassSampler T S H R W B O M). x.reader) (samplers ++ a ∷ []) ++ reverse rest
  readers_more samplers a list rest all are is =
      are ∙ ap (λ l. map (λ (x : PassSampler T S H R W B O M). x.reader) samplers ++ l) (ap reverse is ∙ reverse-append rest (a.reader ∷ []))
      ∙ sym (append_assoc (map (λ (x : PassSampler T S H R W B O M). x.reader) samplers) (a.reader ∷ []) (reverse rest))
      ∙ ap (λ l. l ++ reverse rest) (sym (map-append (λ (x : PassSampler T S H R W B O M). x.reader) samplers (a ∷ [])))

  pub all_home : (table : TableMeanings T H R W) (w : W) (count : ℕ) (samplers : List (PassSampler T S H R W B O M)) (readers : List R)
      → readers ≡ map (λ (x : PassSampler T S H R W B O M). x.reader) samplers → AreHome (table.is_home w) count readers → AreAtHome table w samplers
  all_home table w count samplers readers are home k a is =
      home.each k a.reader (ap (λ l. slice_get l k) are ∙ made_at (λ (x : PassSampler T S H R W B O M). x.reader) samplers k a is)

-- the readers of all samplers, once none is left
pub all_read : {X : Type 0} (all made left : List X) → all ≡ made ++ reverse left → length left ≡ 0 → all ≡ made
all_read all made [] are none = are ∙ append-nil made
all_read all made (x ∷ left) are none = absurd (omega (arith, none))
