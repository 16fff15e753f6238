use Rattle.std.proofs.Common.{◌≡◌, ◌∙◌, ap, arith, None, length, slice_get}
use Rattle.std.proofs.lemmas.Option.{slice_get_past}
use Rattle.vt_outside.specs.MemoryFolder.{asked_of}
use Rattle.vt_outside.proofs.SameLists.{same_lists}
use Rattle.vt_outside.proofs.memory_folder.MemoryFolder.was_asked.Goals as goal

pub returns : goal.returns
returns c =
    let asked = asked_of c.args.self.now c.args.name.now in
    let places = c.args.places.now in (
      λ so. same_lists asked places
          (λ k below. c.loop-i.invariant k (omega (arith, c.loop-i-test.false, below)))
          (let none : slice_get asked (length places) ≡ None = grind (arith, so) in none),
      λ same. let none : slice_get asked (length places) ≡ None = ap (λ l. slice_get l (length places)) same
          ∙ slice_get_past places (length places) (omega arith) in grind (arith, none),
    )
