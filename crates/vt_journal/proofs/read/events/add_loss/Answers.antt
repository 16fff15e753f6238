use Rattle.std.proofs.Common.{refl, ◌++◌, ◌∷◌, [], ap, ◌∙◌, sym}
use Rattle.std.proofs.lemmas.List.{append-nil}
use Rattle.vt_journal.specs.declared.changes.Event.TheVariants.{Lost}
use Rattle.vt_journal.proofs.read.events.add_loss.Goals as goal

pub returns : goal.returns
returns c = (
  c.if-is_mapped.ensures,
  record {
    added = c.push.ensures.elements ∙ ap (λ es. es ++ Lost c.args.page ∷ []) c.in_ok-reserve.ensures.elements;
    changes_are = sym (append-nil c.args.kept.now.changes);
    pages_are = refl;
    same = record { pass = refl; picture = refl; start = refl; rows = refl };
  },
)
