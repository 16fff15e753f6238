-- What a walk keeps, step after step.
use Rattle.std.proofs.Common.{ℕ, List, ◌∙◌, refl, ap, arith}
use Rattle.std.specs.Prelude.{map, is_some}
use Rattle.vt_outside.specs.declared.outside.Folder.{Ghosts as FolderMeanings}
use Rattle.vt_walk_decisions.specs.Requests.{FileState}
use Rattle.vt_walk.specs.Moments.{Traces, KeepsTraces}
use Rattle.vt_walk.specs.Beginnings.{KeepsFiles}

-- nothing was done
pub kept_here : (a : Traces) → KeepsTraces a a
kept_here a = record { same = record { names = refl; all_known = refl }; asked = refl; faults = omega arith; out_faults = omega arith }

-- what is kept twice is kept
pub kept_on : (a b c : Traces) → KeepsTraces a b → KeepsTraces b c → KeepsTraces a c
kept_on a b c first then = record {
  same = record { names = then.same.names ∙ first.same.names; all_known = then.same.all_known ∙ first.same.all_known };
  asked = then.asked ∙ first.asked;
  faults = let m = first.faults in let n = then.faults in omega (arith, m, n);
  out_faults = let m = first.out_faults in let n = then.out_faults in omega (arith, m, n);
}

-- placing the pinned pages and beginning the journal keep it
pub begun_keeps : {D F : Type 0} (d : FolderMeanings D F) (before after : D) (kept now : FileState) (old new : List FileState) (out_faults : ℕ)
    → KeepsFiles d before after kept now old new
    → KeepsTraces (record { opened = old; asked = d.asked before; faults = d.faults before; out_faults = out_faults })
    (record { opened = new; asked = d.asked after; faults = d.faults after; out_faults = out_faults })
begun_keeps d before after kept now old new out_faults k = record {
  same = record {
    names = ap (λ (fs : List FileState). map (λ f. f.name) fs) k.files;
    all_known = ap (λ (fs : List FileState). map (λ f. is_some f.asked) fs) k.files;
  };
  asked = k.asked;
  faults = k.faults;
  out_faults = omega arith;
}
