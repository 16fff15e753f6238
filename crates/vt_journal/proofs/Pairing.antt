-- The numbers of pages and frames give each other.
use Rattle.std.proofs.Common.{◌≡◌, ◌≢◌, ℕ, zero, suc, ◌+◌, ◌<◌, ◌≤◌, inl, inr, Bool, true, false, eqb, List, length, get_or, set, refl, sym, ap, ◌∙◌, arith, Some, None, MatchBool, get_or-set_other, get_or-set_same, length-set}
use Rattle.std.proofs.lemmas.Bool.{eqb-true, eqb-false}
use Rattle.vt_text.specs.Limits.{most_pages, most_frames}
use Rattle.vt_journal.specs.Changes.{IsFree, nothing_mapped}
use Rattle.vt_journal.specs.Kept.{entry_of, entries_of, ArePaired}
use Rattle.vt_journal.proofs.Versions.{same_page}

number_some : (n f : ℕ) → entry_of n ≡ Some f → n ≡ suc f
number_some zero f e = cc
number_some (suc n) f e = let same : Some n ≡ Some f = e in cc

number_none : (n : ℕ) → entry_of n ≡ None → n ≡ 0
number_none zero e = refl
number_none (suc n) e = cc

some_number : (n f : ℕ) → n ≡ suc f → entry_of n ≡ Some f
some_number n f e = ap entry_of e

-- no page has a frame with the number 0
free_zero : (frames pages : List ℕ) (f : ℕ) → ArePaired frames pages → get_or pages f 0 ≡ 0 → IsFree (entries_of frames) f
free_zero frames pages f pair none p e =
    let back : get_or pages f 0 ≡ suc p = (pair.by_page p f (number_some (get_or frames p 0) f e)).1 in
    omega (arith, none, back)

taken : (frames pages : List ℕ) (f n : ℕ) → ArePaired frames pages → get_or pages f 0 ≡ n → n ≢ 0 → IsFree (entries_of frames) f
    → ⊥
taken frames pages f zero pair is some free = some refl
taken frames pages f (suc p) pair is some free = free p (some_number (get_or frames p 0) f (pair.by_frame f p is))

pub free_by_number : (frames pages : List ℕ) (f n : ℕ) (b : Bool) → ArePaired frames pages → get_or pages f 0 ≡ n → eqb n 0 ≡ b
    → MatchBool b (IsFree (entries_of frames) f) (IsFree (entries_of frames) f → ⊥)
free_by_number frames pages f n true pair is e = free_zero frames pages f pair (is ∙ eqb-true n 0 e)
free_by_number frames pages f n false pair is e = taken frames pages f n pair is (eqb-false n 0 e)

-- where all numbers are 0
pub paired-none : (frames pages : List ℕ) → length frames ≤ most_pages → length pages ≡ most_frames
    → ((k : ℕ) → get_or frames k 0 ≡ 0) → ((k : ℕ) → get_or pages k 0 ≡ 0) → ArePaired frames pages
paired-none frames pages few all none_f none_p = record {
  few_pages = few;
  all_frames = all;
  by_page = λ p f e. absurd (omega (arith, none_f p, e));
  by_frame = λ f p e. absurd (omega (arith, none_p f, e));
}

pub entries-none : (frames : List ℕ) → ((k : ℕ) → get_or frames k 0 ≡ 0) → entries_of frames ≡ nothing_mapped
entries-none frames none = λ i p. ap entry_of (none p) i

-- an element of a list that was written at a place
set_there : (xs : List ℕ) (i v k : ℕ) → i < length xs → k ≡ i → get_or (set xs i v) k 0 ≡ v
set_there xs i v k within same = ap (λ j. get_or (set xs i v) j 0) same ∙ get_or-set_same xs i v 0 within

set_elsewhere : (xs : List ℕ) (i v k : ℕ) → k ≢ i → get_or (set xs i v) k 0 ≡ get_or xs k 0
set_elsewhere xs i v k other = get_or-set_other xs i k v 0 other

-- after a map
pub paired-map : (frames pages : List ℕ) (page frame : ℕ) → ArePaired frames pages → page < length frames → frame < most_frames
    → entries_of frames page ≡ None → IsFree (entries_of frames) frame
    → ArePaired (set frames page (frame + 1)) (set pages frame (page + 1))
paired-map frames pages page frame pair inside below none free = record {
  few_pages = omega (arith, pair.few_pages, length-set frames page (frame + 1));
  all_frames = length-set pages frame (page + 1) ∙ pair.all_frames;
  by_page = by_page;
  by_frame = by_frame;
}
  where
    within : frame < length pages
    within = omega (arith, pair.all_frames)

    by_page : (p f : ℕ) → get_or (set frames page (frame + 1)) p 0 ≡ suc f → (f < most_frames) × (get_or (set pages frame (page + 1)) f 0 ≡ suc p)
    by_page p f e =
        elim (same_page p page) [
          | inl same ↦
              let f_is : f ≡ frame = omega (arith, e, set_there frames page (frame + 1) p inside same) in
              let p_is : page + 1 ≡ suc p = omega (arith, same) in
              (omega arith, set_there pages frame (page + 1) f within f_is ∙ p_is)
          | inr other ↦
              let was : get_or frames p 0 ≡ suc f = sym (set_elsewhere frames page (frame + 1) p other) ∙ e in
              let back = pair.by_page p f was in
              let away : f ≢ frame = λ same. free p (some_number (get_or frames p 0) frame (was ∙ ap suc same)) in
              (back.0, set_elsewhere pages frame (page + 1) f away ∙ back.1)
        ]

    by_frame : (f p : ℕ) → get_or (set pages frame (page + 1)) f 0 ≡ suc p → get_or (set frames page (frame + 1)) p 0 ≡ suc f
    by_frame f p e =
        elim (same_page f frame) [
          | inl same ↦
              let p_is : p ≡ page = omega (arith, e, set_there pages frame (page + 1) f within same) in
              let f_is : frame + 1 ≡ suc f = omega (arith, same) in
              set_there frames page (frame + 1) p inside p_is ∙ f_is
          | inr other ↦
              let was : get_or pages f 0 ≡ suc p = sym (set_elsewhere pages frame (page + 1) f other) ∙ e in
              let back = pair.by_frame f p was in
              let away : p ≢ page = λ same. let zero_there : get_or frames p 0 ≡ 0 = ap (λ q. get_or frames q 0) same
              ∙ number_none (get_or frames page 0) none in absurd (omega (arith, zero_there, back)) in
              set_elsewhere frames page (frame + 1) p away ∙ back
        ]

-- after an unmap
pub paired-unmap : (frames pages : List ℕ) (page frame : ℕ) → ArePaired frames pages → page < length frames → frame < most_frames
    → entries_of frames page ≡ Some frame
    → ArePaired (set frames page 0) (set pages frame 0)
paired-unmap frames pages page frame pair inside below mapped = record {
  few_pages = omega (arith, pair.few_pages, length-set frames page 0);
  all_frames = length-set pages frame 0 ∙ pair.all_frames;
  by_page = by_page;
  by_frame = by_frame;
}
  where
    within : frame < length pages
    within = omega (arith, pair.all_frames)

    there : get_or frames page 0 ≡ suc frame
    there = number_some (get_or frames page 0) frame mapped

    by_page : (p f : ℕ) → get_or (set frames page 0) p 0 ≡ suc f → (f < most_frames) × (get_or (set pages frame 0) f 0 ≡ suc p)
    by_page p f e =
        elim (same_page p page) [
          | inl same ↦ absurd (omega (arith, e, set_there frames page 0 p inside same))
          | inr other ↦
              let was : get_or frames p 0 ≡ suc f = sym (set_elsewhere frames page 0 p other) ∙ e in
              let back = pair.by_page p f was in
              let away : f ≢ frame = λ same. let q : get_or pages f 0 ≡ suc page = ap (λ g. get_or pages g 0) same
              ∙ (pair.by_page page frame there).1 in other (omega (arith, q, back.1)) in
              (back.0, set_elsewhere pages frame 0 f away ∙ back.1)
        ]

    by_frame : (f p : ℕ) → get_or (set pages frame 0) f 0 ≡ suc p → get_or (set frames page 0) p 0 ≡ suc f
    by_frame f p e =
        elim (same_page f frame) [
          | inl same ↦ absurd (omega (arith, e, set_there pages frame 0 f within same))
          | inr other ↦
              let was : get_or pages f 0 ≡ suc p = sym (set_elsewhere pages frame 0 f other) ∙ e in
              let back = pair.by_frame f p was in
              let away : p ≢ page = λ same. let q : get_or frames p 0 ≡ suc frame = ap (λ q. get_or frames q 0) same
              ∙ there in other (omega (arith, q, back)) in
              set_elsewhere frames page 0 p away ∙ back
        ]
