-- Which pages can be taken out of their frames.
use Rattle.std.proofs.Common.{◌≡◌, ◌∙◌, ◌<◌, ◌≤◌, ◌-◌, ℕ, sym, ap, Option, None, Some, arith}
use Rattle.std.specs.Prelude.{length, is_some, MatchOption}
use Rattle.std.proofs.lemmas.Bool.{false≢true}
use Rattle.vt_definitions.specs.Limits.{most_versions}
use Rattle.vt_pages.specs.Shape.{Shape}
use Rattle.vt_pages.specs.Pages.{pages_of, root_of, IsWithinLimits}
use Rattle.vt_journal.specs.Changes.{newest}
use Rattle.vt_shared.specs.Owners.{OwnerView}
use Rattle.vt_shared.proofs.Owning.{root_page}
use Rattle.vtex_c.specs.Tables.{MayUnmap}

-- the root and what is past it cannot
pub not_the_root : (o : OwnerView) (g : Shape) (n page : ℕ) → IsWithinLimits g → g ≡ o.streamer.shape → n ≡ pages_of g → n - 1 ≤ page → MayUnmap o page → ⊥
not_the_root o g n page limits same count past may =
    let root : n - 1 ≡ root_of o.streamer.shape = root_page o.streamer.shape g n limits same count in
    let all : n ≡ pages_of o.streamer.shape = count ∙ ap pages_of same in
    may.other (omega (arith, root, all, past, may.page_inside))

-- a page before the root can, if it is mapped and there is room for a version
pub leaves : (o : OwnerView) (g : Shape) (n page : ℕ) (r : Option ℕ) → IsWithinLimits g → g ≡ o.streamer.shape → n ≡ pages_of g → page < n - 1
    → length o.streamer.writer.journal < most_versions → r ≡ newest o.streamer.writer.journal page
    → MatchOption r (MayUnmap o page → ⊥) (λ frame. (newest o.streamer.writer.journal page ≡ Some frame) × MayUnmap o page)
leaves o g n page None limits same count before room is = λ may. absurd (false≢true (ap is_some is ∙ may.mapped))
leaves o g n page (Some frame) limits same count before room is =
    let root : n - 1 ≡ root_of o.streamer.shape = root_page o.streamer.shape g n limits same count in
    let all : n ≡ pages_of o.streamer.shape = count ∙ ap pages_of same in
    let may : MayUnmap o page = record {
      page_inside = omega (arith, all, before);
      other = λ same_page. absurd (omega (arith, root, before, same_page));
      mapped = ap is_some (sym is);
      room = room;
    } in
    (sym is, may)
