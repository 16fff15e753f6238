use Rattle.std.proofs.Common.{sym, subst}
use Rattle.vt_lookup.specs.Notes.{IsNotedIn, LookupValue}
use Rattle.vt_lookup.proofs.Noting.{noted_behind_word}
use Rattle.vt_lookup.proofs.lookup.HeldLookupLookup.texel.Goals as goal

pub returns-clause-said : goal.returns-clause-said
returns-clause-said c = λ note h.
    noted_behind_word _ _ _ _ _ _ c.word_from.ensures.view note (subst (λ (v : LookupValue). IsNotedIn v.held.view note) (sym c.self.view_is) h)
