-- Rows that are moved to their samplers.
use Rattle.std.proofs.Common.{◌≡◌, ◌≢◌, ℕ, zero, suc, ◌+◌, ◌*◌, ◌%◌, ◌≤◌, ◌<◌, List, [], ◌∷◌, ◌++◌, length, get_or, reverse, Some, refl, sym, ap, ◌∙◌, subst, append_assoc, arith}
use Rattle.std.specs.Prelude.{All, slice_get}
use Rattle.std.proofs.lemmas.List.{append-nil, reverse-append, reverse-reverse}
use Rattle.std.proofs.lemmas.List.Elements.{All-nil, All-push}
use Rattle.std.proofs.lemmas.Option.{same_Some, none-some, slice_get_within, slice_get-get_or, get_or_from_slice_get}
use Rattle.vt_definitions.specs.Dealing.{sampler_of, own_count}
use Rattle.vt_definitions.proofs.Dealt.{sampler_is, turns_over, turns_within}
use Rattle.vt_sampler.specs.Samplers.{own_rows}
use Rattle.vt_sampler.proofs.Sharing.{own_rows-same, own_rows-next, own_rows-first}
use Rattle.vt_schedules.specs.declared.bag.RowJob.{RowJob}
use Rattle.vt_schedules.specs.SharedRows.{FitsRow, rows_of}
use Rattle.vt_schedules.proofs.Taken.{rows_push}
use Rattle.vt_schedules.specs.declared.dealt.DealtWay.{DealtWay}
use Rattle.vt_schedules.specs.Rows.{AreRowsInPlace}
use Rattle.vt_schedules.specs.Dealt.{AreOwnInPlace, AreDealt}

-- a sampler has its rows from a turn on, the last one first
pub record HasRest (height line n k turn : ℕ) (own : List RowJob) : Type 0 where
  pub rows : own_rows k n height ≡ own_rows k n (turn * n + k) ++ reverse (rows_of own)
  pub fits : All (FitsRow height line) own

-- none, from the first turn on that it does not have
pub rest_none : (height line n k : ℕ) → k < n → HasRest height line n k (own_count k n height) []
rest_none height line n k one = record {
  rows = sym (own_rows-same k n height (own_count k n height * n + k) (turns_over k (own_count k n height) n height one (omega arith))
      (λ z below own. turns_within k (own_count k n height) n height z one (omega arith) below own))
      ∙ sym (append-nil (own_rows k n (own_count k n height * n + k)));
  fits = All-nil (FitsRow height line);
}

-- and the row of the turn before
pub rest_more : (height line n k turn y : ℕ) (own : List RowJob) (job : RowJob) → k < n → y ≡ turn * n + k → y < height
    → HasRest height line n k (turn + 1) own → (job.row ≡ y) × (length job.samples.elements ≡ line) → HasRest height line n k turn (own ++ job ∷ [])
rest_more height line n k turn y own job one is inside rest place =
    let next : (turn + 1) * n + k ≡ y + n = omega (arith, is) in
    let own_is : y % n ≡ k = ap (λ (m : ℕ). m % n) is ∙ sampler_is k turn n one in
    record {
      rows = rest.rows ∙ ap (λ (m : ℕ). own_rows k n m ++ reverse (rows_of own)) next
          ∙ ap (λ (l : List ℕ). l ++ reverse (rows_of own)) (own_rows-next k n y (omega (arith, one)) own_is)
          ∙ append_assoc (own_rows k n y) (y ∷ []) (reverse (rows_of own))
          ∙ (λ i. own_rows k n (is i) ++ (sym place.0 i ∷ reverse (rows_of own)))
          ∙ ap (λ (l : List ℕ). own_rows k n (turn * n + k) ++ l) (sym (reverse-append (rows_of own) (job.row ∷ [])) ∙ ap reverse (sym (rows_push own job)));
      fits = All-push (FitsRow height line) own job rest.fits (record { inside = (let e = place.0 in omega (arith, e, inside)); full = place.1 });
    }

-- all, from turn 0 on
pub rest_all : (height line n k : ℕ) (own : List RowJob) → k < n → HasRest height line n k 0 own → rows_of own ≡ reverse (own_rows k n height)
rest_all height line n k own one rest =
    let first : 0 * n + k ≡ k = omega arith in
    let all : own_rows k n height ≡ reverse (rows_of own) =
    rest.rows ∙ ap (λ (m : ℕ). own_rows k n m ++ reverse (rows_of own)) first ∙ ap (λ (l : List ℕ). l ++ reverse (rows_of own)) (own_rows-first k n one) in
    sym (reverse-reverse (rows_of own)) ∙ ap reverse (sym all)

-- all rows are in their places
pub first_dealt : (height line n : ℕ) (jobs : List RowJob) → 1 ≤ n → AreRowsInPlace height line jobs → AreDealt height line n [] jobs
first_dealt height line n jobs some are = record {
  some = some;
  number = are.number;
  left = λ k low y job own is. are.each y job is;
  each = λ k own is. absurd (none-some own is);
}

-- the rows of one sampler more were dealt
module _ (height line n k : ℕ) (owns : List DealtWay) (old new : List RowJob) (was : AreDealt height line n owns old) (number : length owns ≡ k)
    (same : length new ≡ length old) (others : (y : ℕ) (d : RowJob) → sampler_of y n ≢ k → get_or new y d ≡ get_or old y d) where
  still : (j : ℕ) → k < j → AreOwnInPlace height line n j new
  still j past y job own is =
      let other : sampler_of y n ≢ k = λ e. absurd (omega (arith, e, own, past)) in
      let low : y < length old = (let a = slice_get_within new y job is in omega (arith, a, same)) in
      let there : get_or old y job ≡ job = sym (others y job other) ∙ get_or_from_slice_get new y job job is in
      was.left j (omega (arith, past, number)) y job own (slice_get-get_or old y job low ∙ ap Some there)

  pub dealt_more : (own : DealtWay) → rows_of own.jobs.elements ≡ reverse (own_rows k n height) → AreDealt height line n (owns ++ own ∷ []) new
  dealt_more own rows = record {
    some = was.some;
    number = same ∙ was.number;
    left = λ j low. still j (let e = pushed owns own in omega (arith, low, e, number));
    each = λ j b is.
        let same_place : (m : ℕ) → 0 + m ≡ m = λ m. omega arith in
        each_push owns 0 (omega (arith, number)) (λ m x at. was.each m x at ∙ ap (λ (z : ℕ). reverse (own_rows z n height)) (sym (same_place m))) j b is
        ∙ ap (λ (z : ℕ). reverse (own_rows z n height)) (same_place j);
  } where
    pushed : (l : List DealtWay) (x : DealtWay) → length (l ++ x ∷ []) ≡ length l + 1
    pushed [] x = refl
    pushed (z ∷ l) x = let e = pushed l x in omega (arith, e)

    each_push : (l : List DealtWay) (from : ℕ) → from + length l ≡ k
        → ((j : ℕ) (b : DealtWay) → slice_get l j ≡ Some b → rows_of b.jobs.elements ≡ reverse (own_rows (from + j) n height))
        → (j : ℕ) (b : DealtWay) → slice_get (l ++ own ∷ []) j ≡ Some b → rows_of b.jobs.elements ≡ reverse (own_rows (from + j) n height)
    each_push [] from last each zero b is =
        subst (λ (x : DealtWay). rows_of x.jobs.elements ≡ reverse (own_rows (from + 0) n height)) (same_Some own b is)
        (rows ∙ ap (λ (m : ℕ). reverse (own_rows m n height)) (omega (arith, last)))
    each_push [] from last each (suc j) b is = absurd (none-some b is)
    each_push (c ∷ l) from last each zero b is = each 0 b is
    each_push (c ∷ l) from last each (suc j) b is =
        let shift : (m : ℕ) → from + suc m ≡ (from + 1) + m = λ m. omega arith in
        each_push l (from + 1) (omega (arith, last))
        (λ m d at. each (suc m) d at ∙ ap (λ (z : ℕ). reverse (own_rows z n height)) (shift m)) j b is
        ∙ ap (λ (z : ℕ). reverse (own_rows z n height)) (sym (shift j))
