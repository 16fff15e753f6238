-- What was shown and printed of earlier pictures stays as a run grows.
use Rattle.std.proofs.Common.{◌≡◌, ◌≢◌, ℕ, zero, suc, ◌+◌, ◌≤◌, ◌==◌, Bool, true, false, T, eqb→eq, List, [], ◌∷◌, ◌++◌, length, Option, Some, None, refl, sym, ap, ◌∙◌, subst, length-append, arith}
use Rattle.std.specs.Prelude.{slice_get, slice_index_or, if◌then◌else◌, flat_map, IfSome}
use Rattle.std.specs.List.{concat, range_with_len}
use Rattle.vt_journal.specs.declared.changes.Change.{Change}
use Rattle.vt_journal.specs.declared.changes.RowLine.{RowLine}
use Rattle.vt_journal.specs.Changes.{Table, at}
use Rattle.vt_journal.specs.JournalText.{changes_of}
use Rattle.vt_journal.proofs.Versions.{at-front}
use Rattle.vt_walk_decisions.specs.Jobs.{Job}
use Rattle.vt_walk_decisions.specs.Drawings.{Drawing, RowRelation}
use Rattle.vt_walk_decisions.specs.Machines.{MachineState}
use Rattle.vt_walk_decisions.specs.Passes.{IsPictured}
use Rattle.vt_walk_decisions.specs.Replays.{HasPixels}
use Rattle.vt_walk.specs.Fits.{WalkSetup}
use Rattle.vt_walk.specs.Runs.{WalkPass, journal_after, IsWalkRun}
use Rattle.vt_walk.specs.Shown.{last_rows, run_through, IsRunPicture}
use Rattle.vt_walk.specs.Logs.{passes_of, picture_line, picture_lines}

same_number : (p q : ℕ) → (p == q) ≡ true → p ≡ q
same_number p q e = eqb→eq p q (subst T (sym e) tt)

pub other_number : (p q : ℕ) → p ≢ q → (p == q) ≡ false
other_number p q other = pick (p == q) refl where
  pick : (b : Bool) → (p == q) ≡ b → (p == q) ≡ false
  pick true same = absurd (other (same_number p q same))
  pick false is = is

pub self_number : (p : ℕ) → (p == p) ≡ true
self_number p = pick (p == p) refl where
  pick : (b : Bool) → (p == p) ≡ b → b ≡ true
  pick true is = refl
  pick false is = grind arith

pub rows_after : (b : Bool) (p : WalkPass) (passes : List WalkPass) (picture : ℕ) → (p.picture == picture) ≡ b
    → last_rows (p ∷ passes) picture ≡ (if b then p.rows else last_rows passes picture)
rows_after b p passes picture is = ap (λ (t : Bool). if t then p.rows else last_rows passes picture) is

pub through_after : (b : Bool) (p : WalkPass) (passes : List WalkPass) (picture : ℕ) → (p.picture == picture) ≡ b
    → run_through (p ∷ passes) picture ≡ (if b then p ∷ passes else run_through passes picture)
through_after b p passes picture is = ap (λ (t : Bool). if t then p ∷ passes else run_through passes picture) is

-- a row names a version that the journal has
rows_known : (w : WalkSetup) (passes : List WalkPass) (picture y : ℕ) (row : RowLine) → IsWalkRun w passes
    → slice_get (last_rows passes picture) y ≡ Some row → row.version ≤ length (journal_after w passes)
rows_known w [] picture y row run is = absurd (none_some row is) where
  none_some : (row : RowLine) → None ≡ Some row → ⊥
  none_some row e = cc
rows_known w (p ∷ passes) picture y row run is = pick (p.picture == picture) refl (rows_known w passes picture y row run.0) where
  pick : (b : Bool) → (p.picture == picture) ≡ b → (slice_get (last_rows passes picture) y ≡ Some row → row.version ≤ length (journal_after w passes))
      → row.version ≤ length (journal_after w (p ∷ passes))
  pick true same before = (run.1.in_order.of_picture.each y row
      (ap (λ (rows : List RowLine). slice_get rows y) (sym (rows_after true p passes picture same)) ∙ is)).to
  pick false other before =
      let few = before (ap (λ (rows : List RowLine). slice_get rows y) (sym (rows_after false p passes picture other)) ∙ is) in
      omega (arith, few, length-append (journal_after w passes) (changes_of p.events))

pub picture_stays : (w : WalkSetup) (p : WalkPass) (passes : List WalkPass) (d width : ℕ) (pixel : Table → ℕ → ℕ → ℕ → List ℕ) (picture : ℕ) (samples : List ℕ)
    → IsWalkRun w passes → p.picture ≢ picture → IsRunPicture w passes d width pixel picture samples → IsRunPicture w (p ∷ passes) d width pixel picture samples
picture_stays w p passes d width pixel picture samples run other shown =
    let same : last_rows (p ∷ passes) picture ≡ last_rows passes picture = rows_after false p passes picture (other_number p.picture picture other) in
    record {
      rows = shown.rows;
      count = shown.count;
      full = shown.full;
      replayed = λ y line is.
          let was = ap (λ (rows : List RowLine). slice_get rows y) (sym same) ∙ is in
          let table : at (journal_after w passes) line.version ≡ at (journal_after w (p ∷ passes)) line.version =
          sym (at-front (journal_after w passes) (changes_of p.events) line.version (rows_known w passes picture y line run was)) in
          subst (λ (m : Table). HasPixels d width (λ x. pixel m picture x y) (slice_index_or shown.rows y [])) table (shown.replayed y line was);
      joined = shown.joined;
    }

if_some : {X : Type 0} (o : Option X) (x : X) (P : X → Type 0) → o ≡ Some x → IfSome o P → P x
if_some o x P e h = subst (λ p. IfSome p P) e h

pub picture_drawn : (w : WalkSetup) (p : WalkPass) (passes : List WalkPass) (draws : Drawing)
    (drawn : RowRelation) (job : Job) (s : MachineState) (b : List ℕ) → IsPictured draws drawn job p.rows s
    → s.setup.bytes ≡ Some b
    → s.setup.height ≡ w.height → s.journal ≡ journal_after w (p ∷ passes) → job.picture ≡ p.picture
    → IsRunPicture w (p ∷ passes) s.setup.depth s.setup.width (draws.shows job.scene b) p.picture (concat s.rows)
picture_drawn w p passes draws drawn job s b pictured known height journal picture =
    let own : last_rows (p ∷ passes) p.picture ≡ p.rows = rows_after true p passes p.picture (self_number p.picture) in
    let replayed = if_some s.setup.bytes b _ known pictured.replayed in
    record {
      rows = s.rows;
      count = pictured.count ∙ height;
      full = pictured.full;
      replayed = λ y line is.
          let pixels = replayed y line (ap (λ (rows : List RowLine). slice_get rows y) (sym own) ∙ is) in
          subst (λ k. HasPixels s.setup.depth s.setup.width (λ x. draws.shows job.scene b (at (journal_after w (p ∷ passes)) line.version) k x y)
          (slice_index_or s.rows y [])) picture
          (subst (λ (js : List Change). HasPixels s.setup.depth s.setup.width (λ x. draws.shows job.scene b (at js line.version) job.picture x y)
          (slice_index_or s.rows y [])) journal pixels);
      joined = refl;
    }

line_stays : (p : WalkPass) (passes : List WalkPass) (picture : ℕ) → p.picture ≢ picture → picture_line (p ∷ passes) picture ≡ picture_line passes picture
unfolding picture_line
line_stays p passes picture other =
    let same : passes_of picture (p ∷ passes) ≡ passes_of picture passes =
    ap (λ (b : Bool). if b then p ∷ passes_of picture passes else passes_of picture passes) (other_number p.picture picture other) in
    rw same refl

range_stays : (p : WalkPass) (passes : List WalkPass) (a n : ℕ) → a + n ≤ p.picture
    → flat_map (picture_line (p ∷ passes)) (range_with_len a n) ≡ flat_map (picture_line passes) (range_with_len a n)
range_stays p passes a zero few = refl
range_stays p passes a (suc n) few =
    let other : p.picture ≢ a = λ same. absurd (omega (arith, same, few)) in
    ap (λ (bs : List ℕ). bs ++ flat_map (picture_line (p ∷ passes)) (range_with_len (a + 1) n)) (line_stays p passes a other)
    ∙ ap (λ (bs : List ℕ). picture_line passes a ++ bs) (range_stays p passes (a + 1) n (omega (arith, few)))

pub lines_stay : (p : WalkPass) (passes : List WalkPass) (pictures : ℕ) → pictures ≤ p.picture
    → picture_lines (p ∷ passes) pictures ≡ picture_lines passes pictures
lines_stay p passes pictures few = range_stays p passes 0 pictures (omega (arith, few))
