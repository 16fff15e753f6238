use Rattle.std.proofs.Common.{◌≡◌, ℕ, ◌≤◌, sym, subst, arith}
use Rattle.std.specs.Prelude.{Result, Ok, Err, OnErr}
use Rattle.vt_word_notes.specs.Views.{StreamerView}
use Rattle.vt_word_table.specs.WordWriters.{HasTakenMore}
use Rattle.vt_word_table.specs.WordLaws.{taken_none}
use Rattle.vt_word_table.proofs.Homes.{streamer_still}
use Rattle.vt_word_table.proofs.table.WordTablePageTable.reserve.Goals as goal

pub returns-clause-of : goal.returns-clause-of
returns-clause-of c = streamer_still c.args._words.now c.args.streamer.now c.reserve.new.self c.reserve.ensures.rest c.requires.of

pub returns-clause-later : goal.returns-clause-later
returns-clause-later c = subst (λ (x : StreamerView). HasTakenMore c.args.streamer.now.writer x.writer) (sym c.reserve.ensures.rest)
    (taken_none c.args.streamer.now.writer)

kept_at : {T E : Type 0} (r : Result T E) (old new : ℕ) → OnErr r (new ≡ old) → OnErr r ((m : ℕ) → m ≤ old → m ≤ new)
kept_at (Ok x) old new same = tt
kept_at (Err e) old new same = λ m low. omega (arith, low, same)

pub returns-clause-kept : goal.returns-clause-kept
returns-clause-kept c = kept_at c.reserve.result c.args.streamer.now.spare c.reserve.new.self.spare c.reserve.ensures.refused
