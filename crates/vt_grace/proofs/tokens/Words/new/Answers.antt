use Rattle.std.proofs.Common.{rules, ◌≡◌, [], replicate, sym, ap, subst}
use Rattle.atomic_table.specs.Table.{opening}
use Rattle.vt_grace.specs.Giving.{writers_first_view}
use Rattle.vt_grace.specs.Seats.{Sat, writer_in}
use Rattle.vt_grace.specs.Sound.{IsSound}
use Rattle.vt_grace.specs.Rules.{Ruled}
use Rattle.vt_grace.proofs.GivingSteps.{starts, sound_first}
use Rattle.vt_grace.proofs.tokens.Words.new.Goals as goal

pub of_words-requires : goal.of_words-requires
of_words-requires c = let made : c.as_slice.result.now ≡ replicate c.count_words.result 0 = search rules in
    subst (λ ws. Ruled c.sizes_for-sizes.result (opening ws [] (writers_first_view c.sizes_for-sizes.result))) (sym made) (starts c.sizes_for-sizes.result c.count_words.result c.count_words.ensures)

pub returns-clause-sound : goal.returns-clause-sound
returns-clause-sound c = let same = ap (λ (z : Sat). writer_in z.0) c.in_ok-table.ensures.4 in
    subst IsSound (sym same) (sound_first c.sizes_for-sizes.result)
