-- The last three changes, as one more is made.
use Rattle.std.proofs.Common.{◌≡◌, ◌+◌, ◌-◌, List, [], ◌∷◌, ◌++◌, length, sym, ap, ◌∙◌, arith, Some, slice_get, length-append}
use Rattle.vt_table.specs.JournalTypes.changes.Change.{Change}
use Rattle.vt_table.proofs.Versions.{slice_get-front, slice_get-seam}
use Rattle.vt_streamer.specs.declared.latest.Latest.{Latest}
use Rattle.vt_streamer.specs.Latests.{AreLatest}

pub latest_none : (l : Latest) → AreLatest [] l
latest_none l = record {
  last = λ some. absurd (omega (arith, some));
  second = λ some. absurd (omega (arith, some));
  third = λ some. absurd (omega (arith, some));
}

pub latest_more : (js : List Change) (c : Change) (l m : Latest) → m.last ≡ c → m.second ≡ l.last → m.third ≡ l.second → AreLatest js l
    → AreLatest (js ++ c ∷ []) m
latest_more js c l m last second third h =
    let count : length (js ++ c ∷ []) ≡ length js + 1 = length-append js (c ∷ []) in record {
      last = λ some. let here : length js ≡ length (js ++ c ∷ []) - 1 = omega (arith, count) in
          ap (slice_get (js ++ c ∷ [])) (sym here) ∙ slice_get-seam js c [] ∙ ap Some (sym last);
      second = λ some. let here : length js - 1 ≡ length (js ++ c ∷ []) - 2 = omega (arith, count) in
          ap (slice_get (js ++ c ∷ [])) (sym here)
          ∙ slice_get-front js (c ∷ []) (length js - 1) (omega (arith, count, some))
          ∙ h.last (omega (arith, count, some))
          ∙ ap Some (sym second);
      third = λ some. let here : length js - 2 ≡ length (js ++ c ∷ []) - 3 = omega (arith, count) in
          ap (slice_get (js ++ c ∷ [])) (sym here)
          ∙ slice_get-front js (c ∷ []) (length js - 2) (omega (arith, count, some))
          ∙ h.second (omega (arith, count, some))
          ∙ ap Some (sym third);
    }
