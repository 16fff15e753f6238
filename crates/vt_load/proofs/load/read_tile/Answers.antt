use Rattle.std.proofs.Common.{◌≡◌, length, refl, sym, ap, ◌∙◌}
use Rattle.std.proofs.lemmas.Bool.{false≢true}
use Rattle.vt_queue.specs.declared.items.Outcome.TheVariants.{Read, Lost}
use Rattle.vt_load.specs.Readings.{is_lost}
use Rattle.vt_load.proofs.Loading.{lent_back, lent_tile}
use Rattle.vt_load.proofs.load.read_tile.Goals as goal

apart : Read ≡ Lost → ⊥
apart e = false≢true (ap is_lost e)

pub returns-in-Ok : goal.returns-in-Ok
returns-in-Ok g c =
    let e = c.in-Ok.ensures in
    let long = c.read_tile.auto.buf ∙ ap length c.slice_mut.ensures.value in
    record {
      size = ap length (lent_back _ _ long) ∙ long ∙ c.requires.size;
      tile = λ _. lent_tile _ _ _ _ long e.tile;
      lost = λ is. absurd (apart is);
      asked = e.asked;
      faults = e.faults;
      bytes = e.bytes;
      name = e.name;
      room = e.spare;
      shape = e.shape;
      depth = e.depth;
    }

pub returns-in-Err : goal.returns-in-Err
returns-in-Err g c =
    let e = c.in-Err.ensures in
    let long = c.read_tile.auto.buf ∙ ap length c.slice_mut.ensures.value in
    record {
      size = ap length (lent_back _ _ long) ∙ long ∙ c.requires.size;
      tile = λ is. absurd (apart (sym is));
      lost = λ _. e.failed refl;
      asked = e.asked;
      faults = e.faults;
      bytes = e.bytes;
      name = e.name;
      room = e.spare;
      shape = e.shape;
      depth = e.depth;
    }
