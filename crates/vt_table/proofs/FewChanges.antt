-- The tables of a few changes, and the last page.
use Rattle.std.proofs.Common.{◌≡◌, ◌≢◌, ℕ, ◌+◌, ◌≤◌, Bool, true, false, cond, Some, None, List, [], ◌∷◌, sym, ap, ◌∙◌, arith}
use Rattle.vt_journal.specs.Shape.{Shape}
use Rattle.vt_journal.specs.Pages.{pages_of, root_of, IsWithinLimits}
use Rattle.vt_journal.proofs.Lines.{reaches_root}
use Rattle.vt_journal.specs.declared.changes.Change.{Change}
use Rattle.vt_journal.specs.declared.changes.Change.TheVariants.{Map, Unmap}
use Rattle.vt_journal.specs.Changes.{newest, at}
use Rattle.vt_journal.proofs.Versions.{newest-none}

pub none_at_first : (js : List Change) (p : ℕ) → js ≡ [] → newest js p ≡ None
none_at_first js p empty = ap (λ (l : List Change). newest l p) empty ∙ newest-none p

pub no_frame_at_first : (js : List Change) (p f : ℕ) → js ≡ [] → newest js p ≡ Some f → ⊥
no_frame_at_first js p f empty e = let both : None ≡ Some f = sym (none_at_first js p empty) ∙ e in cc

-- the entries after one change, and after two
other_frame : (b : Bool) (f g : ℕ) → f ≢ g → cond b (Some f) None ≡ Some g → ⊥
other_frame true f g other e = let same : f ≡ g = cc in other same
other_frame false f g other e = cc

pub after_one : (js : List Change) (page f p g : ℕ) → js ≡ Map page f ∷ [] → f ≢ g → newest js p ≡ Some g → ⊥
unfolding at
after_one js page f p g is other e = other_frame _ f g other (sym (ap (λ (l : List Change). newest l p) is) ∙ e)

pub none_after_root : (js : List Change) → js ≡ Map 4 0 ∷ [] → newest js 0 ≡ None
unfolding at
none_after_root js is = ap (λ (l : List Change). newest l 0) is

pub root_after_two : (js : List Change) → js ≡ Map 4 0 ∷ Map 0 1 ∷ [] → newest js 4 ≡ Some 0
unfolding at
root_after_two js is = ap (λ (l : List Change). newest l 4) is

pub page_after_two : (js : List Change) → js ≡ Map 4 0 ∷ Map 0 1 ∷ [] → newest js 0 ≡ Some 1
unfolding at
page_after_two js is = ap (λ (l : List Change). newest l 0) is

pub root_after_three : (js : List Change) → js ≡ Map 4 0 ∷ Map 0 1 ∷ Unmap 0 1 ∷ [] → newest js 4 ≡ Some 0
unfolding at
root_after_three js is = ap (λ (l : List Change). newest l 4) is

pub last_page : (s : Shape) → IsWithinLimits s → root_of s + 1 ≡ pages_of s
last_page s limits =
    let some : 2 ≤ s.tile = limits.least_tile in
    (reaches_root s 0 (omega arith) limits.least_width limits.least_height (omega (arith, limits.some_page))).root_is_last
