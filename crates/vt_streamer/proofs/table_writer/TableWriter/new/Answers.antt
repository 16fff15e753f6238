use Rattle.std.proofs.Common.{◌≡◌, ℕ, List, length, get_or, sym, ap, ◌∙◌, arith}
use Rattle.vt_grace.specs.Sizes.{sizes_of}
use Rattle.vt_grace.specs.WriterViews.{first_writer}
use Rattle.vt_grace.proofs.GivingSteps.{zeros}
use Rattle.vt_table.proofs.Keeping.{entries_none}
use Rattle.vt_streamer.proofs.Keeping.{kept_first, streamer_of}
use Rattle.vt_streamer.proofs.table_writer.TableWriter.new.Goals as goal

pub invariant_of-result : goal.invariant_of-result
invariant_of-result c =
    let g = c.args.geometry.now in
    let count : length c.in_ok-owners.owners.items ≡ c.args.frames = sym c.in_ok-owners.owners.ok.0 ∙ c.in_ok-owners.ensures.len in
    let entries = c.in_ok-entries.ensures.items_if_clones_equal (λ y h. h) in
    let since = c.in_ok-unmapped.ensures.items_if_clones_equal (λ y h. h) in
    kept_first g c.in_ok-words.seat c.args.samplers c.none_yet.result c.in_ok-owners.owners.items c.in_ok-entries.entries.items c.in_ok-floors.floors.items
    c.in_ok-unmapped.unmapped.items c.page_count.ensures.limits c.none_yet.ensures
    (let some = c.requires.some_frame in omega arith) (let few = c.requires.few_frames in omega arith)
    (c.in_ok-words.ensures.view ∙ ap (λ (n : ℕ). first_writer (sizes_of g n c.args.samplers)) (sym count))
    (c.in_ok-floors.ensures.items_if_clones_equal (λ y h. h))
    (sym c.in_ok-entries.entries.ok.0 ∙ c.in_ok-entries.ensures.len ∙ c.page_count.ensures.pages)
    (λ k. ap (λ (l : List ℕ). get_or l k 0) entries ∙ zeros _ k)
    (sym c.in_ok-unmapped.unmapped.ok.0 ∙ c.in_ok-unmapped.ensures.len ∙ sym count)
    (λ k. ap (λ (l : List ℕ). get_or l k 0) since ∙ zeros _ k)

pub returns-clause-of : goal.returns-clause-of
returns-clause-of c = streamer_of _ _ _ _ _ _ _ _ _ c.in_ok-words.ensures.of (invariant_of-result c)

pub returns-clause-unfilled : goal.returns-clause-unfilled
returns-clause-unfilled c =
    entries_none c.in_ok-owners.owners.items (λ k. ap (λ (l : List ℕ). get_or l k 0) (c.in_ok-owners.ensures.items_if_clones_equal (λ y h. h)) ∙ zeros _ k)
