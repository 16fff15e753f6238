-- The ranks of the listed pages of a tally, in order, make the wanted list.
use Rattle.std.proofs.Common.{◌≡◌, ℕ, ◌<◌, ◌==◌, true, nat_eq, nat_lt, List, map, length, slice_index, refl, sym, ap, ◌∙◌, arith}
use Rattle.std.specs.List.Sorted.{IsPermutation, IsSortedBy}
use Rattle.std.specs.Cmp.{IsTotalOrder}
use Rattle.std.specs.Ordering.{is_lt}
use Rattle.std.proofs.lemmas.Bool.Decides.{nat_tests}
use Rattle.std.proofs.lemmas.List.{length-map, get_or-map}
use Rattle.std.proofs.lemmas.List.Elements.{All-from_get_or}
use Rattle.std.proofs.lemmas.Map.Keys.{IsDistinct-from_apart, apart_from_distinct}
use Rattle.vt_outside.specs.Lists.{ListView}
use Rattle.vt_pages.specs.Shape.{Shape}
use Rattle.vt_pages.specs.Pages.{pages_of}
use Rattle.vt_evict.specs.PageLists.{is_in}
use Rattle.vt_feedback.specs.declared.ranks.Rank.{Rank}
use Rattle.vt_feedback.specs.Ranks.{rank_of, wanted_by}
use Rattle.vt_feedback.specs.Wants.{IsWants}
use Rattle.vt_feedback.proofs.RankLemmas.{IsRank, AreRanks, rank_cmp, ranks_moved, wants_by_ranks}
use Rattle.std.proofs.lemmas.List.Folds.{list_any_at}
use Rattle.vt_evict.proofs.SettleLemmas.{self_eq}
use Rattle.vt_feedback.specs.declared.Wanted.{Wanted}
use Rattle.vt_residency.specs.Tallies.{IsTally}
use Rattle.vt_residency.proofs.Tallying.{counts_for_all, listed_at, listed_below}
use Rattle.vt_residency.proofs.Found.{in_found}

listed_ranks : (s : Shape) (counts : List ℕ) (pages : ListView ℕ) → IsTally (pages_of s) counts pages → AreRanks s counts (map (rank_of s counts) pages.elements)
listed_ranks s counts pages h = record {
  each = All-from_get_or (IsRank s counts (length counts)) (map (rank_of s counts) pages.elements) (rank_of s counts 0) (λ k inside.
      let within : k < length pages.elements = rw length-map at inside in
      let p : ℕ = slice_index pages.elements k in
      let below : slice_index pages.elements k < pages_of s = listed_below (pages_of s) counts pages h k 0 within in
      rw (get_or-map (rank_of s counts) pages.elements k 0 (rank_of s counts 0) within)
      (record {
        same = refl;
        below = omega (arith, below, long);
        some = some (slice_index pages.elements k) (here k within);
      }));
  apart = IsDistinct-from_apart (λ a b. a.page == b.page) (map (rank_of s counts) pages.elements) (λ i j d below inside.
      let within : j < length pages.elements = rw length-map at inside in
      rw (get_or-map (rank_of s counts) pages.elements i 0 d (omega arith), get_or-map (rank_of s counts) pages.elements j 0 d within)
      (apart_from_distinct nat_eq pages.elements i j 0 h.listed.once below within));
  all = λ p below some. let f = in_found pages.elements p (sym (listed_at (pages_of s) counts pages h p) ∙ high (slice_index counts p) some) in
      (f.0, rw length-map f.1, get_or-map (rank_of s counts) pages.elements f.0 0 (rank_of s counts p) f.1 ∙ ap (rank_of s counts) f.2);
} where
  long : length counts ≡ pages_of s
  long = counts_for_all (pages_of s) counts pages h

  high : (n : ℕ) → 0 < n → nat_lt 0 n ≡ true
  high n some = grind (arith, nat_tests)

  low : (n : ℕ) → nat_lt 0 n ≡ true → 0 < n
  low n some = grind (arith, nat_tests)

  here : (k : ℕ) → k < length pages.elements → is_in pages.elements (slice_index pages.elements k) ≡ true
  here k inside = list_any_at (nat_eq (slice_index pages.elements k)) pages.elements k 0 inside (self_eq (slice_index pages.elements k))

  some : (p : ℕ) → is_in pages.elements p ≡ true → 0 < slice_index counts p
  some p there = low (slice_index counts p) (listed_at (pages_of s) counts pages h p ∙ there)

pub wants_of_listed : (s : Shape) (counts : List ℕ) (pages : ListView ℕ) (rs : List Rank) → IsTally (pages_of s) counts pages
    → IsPermutation (map (rank_of s counts) pages.elements) rs → IsSortedBy (λ a b. is_lt (rank_cmp a b)) rs → IsTotalOrder rank_cmp
    → IsWants s (slice_index counts) (map wanted_by rs)
wants_of_listed s counts pages rs h moved sorted total =
    wants_by_ranks s counts rs (counts_for_all (pages_of s) counts pages h) h.most
    (ranks_moved s counts (map (rank_of s counts) pages.elements) rs (listed_ranks s counts pages h) moved) sorted total

-- a wanted list is that of any numbers that are the same for the pages
pub wants_same : (s : Shape) (f g : ℕ → ℕ) (wants : List Wanted) → ((p : ℕ) → p < pages_of s → f p ≡ g p) → IsWants s f wants → IsWants s g wants
wants_same s f g wants same h = record {
  ordered = h.ordered;
  once = h.once;
  exact = λ w. (
    λ there. let i = (h.exact w).0 there in record { inside = i.inside; some = i.some; all = i.all ∙ same w.page i.inside },
    λ is. (h.exact w).1 (record { inside = is.inside; some = is.some; all = is.all ∙ sym (same w.page is.inside) }),
  );
}
