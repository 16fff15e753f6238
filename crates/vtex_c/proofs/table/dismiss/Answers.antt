use Rattle.std.proofs.Common.{◌≡◌, inl, refl, sym, ◌∙◌, subst, arith}
use Rattle.std.specs.Prelude.{Option, Some}
use Rattle.vt_shared.specs.Owners.{OwnerView}
use Rattle.vt_shared.specs.Readers.{SharedReaderView}
use Rattle.vtex_c.specs.Tables.{TookBack}
use Rattle.vtex_c.proofs.table.dismiss.Goals as goal

pub returns-in-Some-take : goal.returns-in-Some-take
returns-in-Some-take c =
    let own : SharedReaderView = c.in-Some-take.own in
    let owner : OwnerView = c.in-Some.owner in
    let new : Option OwnerView = Some c.take_back.new.self in
    let r : c.args.reader.now.inner ≡ Some own = sym c.take.ensures.value ∙ c.in-Some-take.is in
    let o : c.args.place.now.inner ≡ Some owner = c.in-Some.is in
    record {
      statuses = inl refl;
      taken = λ done.
          subst (λ (x : Option SharedReaderView). TookBack x c.args.place.now.inner new) (sym r)
          (subst (λ (y : Option OwnerView). TookBack (Some own) y new) (sym o)
          record { is = c.take_back.ensures.taken; sound = c.take_back.ensures.sound; tiles = c.take_back.ensures.tiles });
      gone = λ done. c.take.ensures.after;
      kept = λ not. absurd (not refl);
      closed = λ e. absurd (omega (arith, e));
    }
