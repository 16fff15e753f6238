use Rattle.std.proofs.Common.{◌≡◌, ℕ, ◌+◌, ◌-◌, ◌*◌, ◌/◌, ◌<◌, ◌≤◌, Bool, true, false, ltb, refl, arith, MatchBool}
use Rattle.std.proofs.lemmas.Bool.{ltb-true, ltb-false}
use Rattle.vt_pages.proofs.Counts.{lt_up, up_lt}
use Rattle.vt_journal.proofs.fields.is_on_side.Goals as goal

by_test : (place tile side : ℕ) (b : Bool) → 1 ≤ tile → ltb (place * tile) side ≡ b
    → MatchBool b (place < (side + tile - 1) / tile) (place < (side + tile - 1) / tile → ⊥)
by_test place tile side true some e = up_lt side tile place some (ltb-true (place * tile) side e)
by_test place tile side false some e = λ below. let high : side ≤ place * tile = ltb-false (place * tile) side e in omega
    (arith, lt_up side tile place some below)

pub returns : goal.returns
returns c = rw (c.from.ensures, c.from-2.ensures, c.from-3.ensures) (by_test c.args.place c.args.tile c.args.side _ c.requires refl)
