use Rattle.std.proofs.Common.{◌≡◌, ◌+◌, [], ◌∷◌, ◌++◌, length, refl, ap, ◌∙◌, arith, length-append}
use Rattle.vt_journal.specs.declared.changes.Event.TheVariants.{Changed}
use Rattle.vt_journal.specs.Kept.{KeptView}
use Rattle.vt_journal.proofs.read.events.add_change.Goals as goal

pub returns : goal.returns
returns c =
    let old = c.args.kept.now.changes in
    let added = c.in_ok-add.ensures.added in
    let longer : length c.add.new.self.changes ≡ length old + 1 = ap (λ (k : KeptView). length k.changes) added ∙ length-append old (c.args.change ∷ []) in (
      omega (arith, longer, c.in_ok-add.ensures.most),
      c.if-not-is_event_change.ensures,
      record {
        added = c.push.ensures.elements ∙ ap (λ es. es ++ Changed c.args.change ∷ []) c.in_ok-reserve.ensures.elements;
        changes_are = ap (λ (k : KeptView). k.changes) added;
        pages_are = ap (λ (k : KeptView). k.pages) added;
        same = record { pass = refl; picture = refl; start = refl; rows = refl };
      },
    )
