-- What a look-up served stays served: it goes on to say what it says.
use Rattle.std.proofs.Common.{◌≡◌, ℕ, ◌∙◌, subst}
use Rattle.vt_pages.specs.Shape.{Shape}
use Rattle.vt_draw.specs.declared.lookups.Found.{Found}
use Rattle.vt_pages.specs.Pages.{texel_page}
use Rattle.vt_draw.specs.Lookups.{Note, WordNote, IsFinestFound}
use Rattle.vt_draw.proofs.DrawnPixels.{finest_kept}
use Rattle.vt_plain_bilinear.specs.declared.served.Memo.{Memo}
use Rattle.vt_blend.specs.declared.corners.Corners.{Corners}
use Rattle.vt_blend.specs.declared.blends.Texels.{Texels}
use Rattle.vt_plain_bilinear.specs.Served.{LookupGoesOn, coarser_place, IsServed, AreCornersServed, IsMemo}

-- one call after the other
pub goes_on : {A : Type 0} {s t u : Shape} {v w z : ℕ} {says says_more adds : Note → Type 0} {a b c : A} → LookupGoesOn s v says a t w says_more b
    → LookupGoesOn t w says_more b u z adds c → LookupGoesOn s v says a u z adds c
goes_on first then = record {
  shape = then.shape ∙ first.shape;
  version = then.version ∙ first.version;
  said = λ note h. then.said note (first.said note h);
  kept = then.kept ∙ first.kept;
}

pub memo_kept : (s : Shape) (version : ℕ) (says later : Note → Type 0) (memo : Memo) → ((note : Note) → says note → later note)
    → IsMemo s version says memo → IsMemo s version later memo
memo_kept s version says later memo said h = record {
  first = finest_kept s version says later memo.first.page memo.first.found said h.first;
  second = finest_kept s version says later memo.second.page memo.second.found said h.second;
  third = finest_kept s version says later memo.third.page memo.third.found said h.third;
  fourth = finest_kept s version says later memo.fourth.page memo.fourth.found said h.fourth;
}

pub served_kept : (s : Shape) (version : ℕ) (says later : Note → Type 0) (k x y word : ℕ) → ((note : Note) → says note → later note)
    → IsServed s version says k x y word → IsServed s version later k x y word
served_kept s version says later k x y word said h = record {
  found = h.found;
  finest = finest_kept s version says later _ h.found said h.finest;
  read = said _ h.read;
}

pub all_served_kept : (s : Shape) (version : ℕ) (says later : Note → Type 0) (k : ℕ) (at : Corners) (t : Texels)
    → ((note : Note) → says note → later note) → AreCornersServed s version says k at t → AreCornersServed s version later k at t
all_served_kept s version says later k at t said h = record {
  first = served_kept s version says later k at.column at.line t.first said h.first;
  second = served_kept s version says later k at.next_column at.line t.second said h.second;
  third = served_kept s version says later k at.column at.next_line t.third said h.third;
  fourth = served_kept s version says later k at.next_column at.next_line t.fourth said h.fourth;
}

-- a word that was read of the page that was found stays served
pub served_later : (s : Shape) (v w : ℕ) (says says_more later : Note → Type 0) (k x y word : ℕ) (found : Found) → w ≡ v
    → ((note : Note) → says note → later note) → ((note : Note) → says_more note → later note) → IsFinestFound s v says (texel_page s k x y) found
    → says_more (WordNote w found.slot (coarser_place s k found.level x y) word) → IsServed s v later k x y word
served_later s v w says says_more later k x y word found same said known finest read = record {
  found = found;
  finest = finest_kept s v says later (texel_page s k x y) found said finest;
  read = subst (λ (n : ℕ). later (WordNote n found.slot (coarser_place s k found.level x y) word)) same (known _ read);
}
