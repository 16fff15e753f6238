use Rattle.std.proofs.Common.{◌≡◌, ◌<◌, ℕ, List, length, get_or, sym, subst, refl, arith, MatchBool, eqb}
use Rattle.std.proofs.lemmas.List.{get_or_read}
use Rattle.vt_journal.specs.Changes.{IsFree}
use Rattle.vt_journal.specs.Kept.{entries_of}
use Rattle.vt_journal.proofs.Pairing.{free_by_number}
use Rattle.vt_journal.proofs.table.PageTable.is_free.Goals as goal

pub returns : goal.returns
returns c =
    let frames = c.self.inside.frames.items in
    let pages = c.self.inside.pages.items in
    let within : c.args.frame < length pages = omega (arith, c.self.invariant.all_frames, c.requires) in
    let number : get_or pages c.args.frame 0 ≡ c.index.result.now = sym (get_or_read pages c.args.frame c.index.result.now within c.index.ensures 0) in
    subst (λ (numbers : List ℕ). MatchBool (eqb c.index.result.now 0) (IsFree (entries_of numbers) c.args.frame)
    (IsFree (entries_of numbers) c.args.frame → ⊥)) c.self.view_is
    (free_by_number frames pages c.args.frame c.index.result.now (eqb c.index.result.now 0) c.self.invariant number refl)
