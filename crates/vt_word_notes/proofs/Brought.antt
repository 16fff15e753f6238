-- How the content came that a version has for a page.
use Rattle.std.proofs.Common.{◌≡◌, ℕ, zero, suc, ◌∙◌, Bool, true, false, eqb, List, [], get_or, Option, Some, None, slice_get, refl, sym, ap}
use Rattle.std.specs.Prelude.{if◌then◌else◌}
use Rattle.std.proofs.lemmas.Bool.{eqb-true}
use Rattle.vt_journal.specs.declared.changes.Change.{Change}
use Rattle.vt_journal.specs.declared.changes.Change.TheVariants.{Map, Unmap}
use Rattle.vt_journal.specs.Changes.{Table, at, changed_by}
use Rattle.vt_streaming.specs.Contents.{Backing, backed, backed_by}

-- a version's entry for a page is the frame, and a change mapped the page to it with the content
pub record IsBrought (js : List Change) (cs : List (List ℕ)) (page frame : ℕ) (content : List ℕ) (entry : Option ℕ) : Type 0 where
  pub mapped : entry ≡ Some frame
  pub by : ℕ
  pub change : slice_get js by ≡ Some (Map page frame)
  pub content_is : get_or cs by [] ≡ content

abbrev frame_or : Option (ℕ × List ℕ) → ℕ
frame_or None = 0
frame_or (Some b) = b.0

abbrev content_or : Option (ℕ × List ℕ) → List ℕ
content_or None = []
content_or (Some b) = b.1

-- one change more
step : (js : List Change) (cs : List (List ℕ)) (v p g : ℕ) (c : List ℕ) (m : Backing) (t : Table) (o : Option Change) → slice_get js v ≡ o
    → (m p ≡ Some (g, c) → IsBrought js cs p g c (t p)) → backed_by m o (get_or cs v []) p ≡ Some (g, c) → IsBrought js cs p g c (changed_by t o p)
step js cs v p g c m t None is before e = before e
step js cs v p g c m t (Some (Map page frame)) is before e = go (eqb p page) refl e
  where
    go : (b : Bool) → eqb p page ≡ b → (if b then Some (frame, get_or cs v []) else m p) ≡ Some (g, c)
        → IsBrought js cs p g c (if b then Some frame else t p)
    go true same e = let f : frame ≡ g = ap frame_or e in record {
      mapped = ap (λ (x : ℕ). Some x) f;
      by = v;
      change = is ∙ ap (λ (x : ℕ × ℕ). let y : Option Change = Some (Map x.0 x.1) in y) (λ i. (sym (eqb-true p page same) i, f i));
      content_is = ap content_or e;
    }
    go false other e = before e
step js cs v p g c m t (Some (Unmap page frame)) is before e = go (eqb p page) e
  where
    go : (b : Bool) → (if b then None else m p) ≡ Some (g, c) → IsBrought js cs p g c (if b then None else t p)
    go true e = cc
    go false e = before e

pub brought : (js : List Change) (cs : List (List ℕ)) (v p g : ℕ) (c : List ℕ) → backed js cs v p ≡ Some (g, c) → IsBrought js cs p g c (at js v p)
unfolding at backed
brought js cs zero p g c e = cc
brought js cs (suc v) p g c e = step js cs v p g c (backed js cs v) (at js v) (slice_get js v) refl (brought js cs v p g c) e
