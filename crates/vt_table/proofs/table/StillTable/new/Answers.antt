use Rattle.std.proofs.Common.{◌≡◌, ◌∙◌, ◌<◌, ◌*◌, ap, sym, List, ℕ, get_or, replicate, inl, inr, arith}
use Rattle.std.proofs.lemmas.List.{get_or-replicate, get_or_past, length-replicate}
use Rattle.std.proofs.lemmas.Bool.{cases_lt}
use Rattle.vt_table.proofs.Keeping.{kept_new, entries_none}
use Rattle.vt_table.proofs.table.StillTable.new.Goals as goal

zeros : (xs : List ℕ) (n k : ℕ) → xs ≡ replicate n 0 → get_or xs k 0 ≡ 0
zeros xs n k all =
    ap (λ (l : List ℕ). get_or l k 0) all
    ∙ elim (cases_lt k n) [
      | inl below ↦ get_or-replicate n k 0 0 below
      | inr past ↦ get_or_past (replicate n 0) k 0 (omega (arith, length-replicate {A = ℕ} n 0))
    ]

ones : (xs : List ℕ) (n k : ℕ) → xs ≡ replicate n 1 → k < n → get_or xs k 0 ≡ 1
ones xs n k all below = ap (λ (l : List ℕ). get_or l k 0) all ∙ get_or-replicate n k 1 0 below

pub invariant_of-result : goal.invariant_of-result
invariant_of-result c =
    let tile = c.tile-side.ensures.tile in
    let all_entries = c.in_ok-entries.ensures.items_if_clones_equal (λ y h. h) in
    let all_depths = c.in_ok-depths.ensures.items_if_clones_equal (λ y h. h) in
    kept_new c.args.geometry.now c.new.result.changes c.new.result.spare (6 * (c.tile-side.result * c.tile-side.result)) c.args.frames
    c.in_ok-entries.entries.items c.in_ok-bytes.bytes.items c.in_ok-depths.depths.items c.in_ok-owners.owners.items
    c.tile-side.ensures.limits c.new.ensures c.requires.some_frame c.requires.few_frames (ap (λ n. 6 * (n * n)) tile)
    (rw tile (omega arith)) (sym c.in_ok-entries.entries.ok.0 ∙ c.in_ok-entries.ensures.len ∙ c.page_count.ensures.pages) (λ k. zeros _ _ k all_entries)
    (sym c.in_ok-bytes.bytes.ok.0 ∙ c.in_ok-bytes.ensures.len)
    (sym c.in_ok-depths.depths.ok.0 ∙ c.in_ok-depths.ensures.len)
    (λ k below. ones _ _ k all_depths below) (sym c.in_ok-owners.owners.ok.0 ∙ c.in_ok-owners.ensures.len)

pub returns-clause-unfilled : goal.returns-clause-unfilled
returns-clause-unfilled c =
    entries_none c.in_ok-owners.owners.items (λ k. zeros _ _ k (c.in_ok-owners.ensures.items_if_clones_equal (λ y h. h)))

pub returns-clause-table : goal.returns-clause-table
returns-clause-table c = (invariant_of-result c).table
