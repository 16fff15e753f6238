use Rattle.std.proofs.Common.{append_assoc, ◌≡◌, ◌+◌, ◌-◌, ◌<◌, ◌++◌, ℕ, List, Some, arith, length, map, sym, ap, ◌∙◌, slice_get}
use Rattle.std.specs.List.{range_with_len}
use Rattle.std.proofs.lemmas.List.{append-nil}
use Rattle.std.proofs.lemmas.Option.{slice_get_within}
use Rattle.vt_pages.specs.Shape.{Shape}
use Rattle.vt_journal.specs.declared.changes.Change.{Change}
use Rattle.vt_journal.specs.declared.lines.Line.{Line}
use Rattle.vt_journal.specs.declared.lines.Line.TheVariants.{Makes}
use Rattle.vt_journal.specs.Changes.{Pinned}
use Rattle.vt_journal.specs.JournalText.{line_text, lines_text, pinned_change}
use Rattle.vt_journal.proofs.EventLines.{head_more}
use Rattle.vt_journal.proofs.write.add_head.Goals as goal

pub change-change-requires-clause-inside : goal.change-change-requires-clause-inside
change-change-requires-clause-inside c =
    let within : c.loop-place.place < length c.args.journal.now.changes = slice_get_within c.args.journal.now.changes c.loop-place.place _
    (c.requires.first c.loop-place.place c.loop-place-test.true) in
    omega (arith, within, c.from-version.ensures)

-- the change of a pinned page
given : (s : Shape) (js : List Change) (pinned place version : ℕ) (change : Change) → Pinned s js pinned → place < pinned
    → version ≡ place → slice_get js (version + 1 - 1) ≡ Some change → change ≡ pinned_change s pinned place
given s js pinned place version change pin within same is =
    let e : version + 1 - 1 ≡ place = omega arith in
    let both : Some change ≡ Some (pinned_change s pinned place) = sym is ∙ ap (slice_get js) e ∙ pin.first place within in
    cc

head_after : (s : Shape) (js : List Change) (old before after : List ℕ) (pinned place version : ℕ) (change : Change)
    → Pinned s js pinned → place < pinned → version ≡ place → slice_get js (version + 1 - 1) ≡ Some change
    → before ≡ old ++ lines_text s (map (λ i. Makes (i + 1) (pinned_change s pinned i)) (range_with_len 0 place))
    → after ≡ before ++ line_text s (Makes (version + 1) change)
    → after ≡ old ++ lines_text s (map (λ i. Makes (i + 1) (pinned_change s pinned i)) (range_with_len 0 (place + 1)))
head_after s js old before after pinned place version change pin within same is was next =
    let so_far = lines_text s (map (λ i. Makes (i + 1) (pinned_change s pinned i)) (range_with_len 0 place)) in
    next ∙ ap (λ t. t ++ line_text s (Makes (version + 1) change)) was
    ∙ append_assoc old so_far (line_text s (Makes (version + 1) change))
    ∙ ap (λ (l : Line). old ++ (so_far ++ line_text s l))
    (ap (λ v. Makes (v + 1) change) same ∙ ap (Makes (place + 1)) (given s js pinned place version change pin within same is))
    ∙ ap (λ t. old ++ t) (head_more s pinned place)

pub loop-place-preserved : goal.loop-place-preserved
loop-place-preserved c =
    head_after c.args.geometry.now c.args.journal.now.changes c.args.text.now.items c.loop-place.text.items c.add_line.new.text.items c.args.pinned
    c.loop-place.place c.from-version.result c.change-change.result
    c.requires c.loop-place-test.true c.from-version.ensures c.change-change.ensures c.loop-place.invariant c.in_ok-add_line.ensures.whole

pub loop-place-init : goal.loop-place-init
loop-place-init c = sym (append-nil c.args.text.now.items)

pub returns : goal.returns
returns c = c.loop-place.invariant ∙ ap (λ n. c.args.text.now.items
    ++ lines_text c.args.geometry.now (map (λ i. Makes (i + 1) (pinned_change c.args.geometry.now c.args.pinned i)) (range_with_len 0 n)))
    (omega arith)
