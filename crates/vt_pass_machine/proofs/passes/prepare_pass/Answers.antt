use Rattle.std.proofs.Common.{◌*◌, List, refl, sym, ap, subst, arith}
use Rattle.std.specs.Prelude.{IsSome}
use Rattle.vt_load.specs.Shape.{Shape}
use Rattle.vt_pass_pool.specs.Pages.{root_of}
use Rattle.vt_pass_pool.specs.JournalTypes.changes.Change.{Change}
use Rattle.vt_pass_pool.specs.Changes.{newest}
use Rattle.vt_pass_pool.proofs.Stills.{still_more}
use Rattle.vt_pass_machine.proofs.Preparing.{idle_pool, prepared_once}
use Rattle.vt_pass_machine.proofs.passes.prepare_pass.Goals as goal

pub make_room-requires-clause-early : goal.make_room-requires-clause-early
make_room-requires-clause-early g c =
    let early = c.requires.early in
    let few = c.requires.few in
    let most = c.requires.idle.pool.crew.few_entries in
    let count = c.len-entries.ensures in
    omega (arith, early, few, most, count)

pub prepare-requires-2 : goal.prepare-requires-2
prepare-requires-2 g c = record { idle = (c.args.own.now.writer, c.requires.idle.samplers) }

pub begin_pass-requires-clause-prepared : goal.begin_pass-requires-clause-prepared
begin_pass-requires-clause-prepared g c =
    let made = c.make_room.ensures in
    let w = c.make_room.new.writer in (
      c.prepare-2.new.rows,
      prepared_once g.F.File g.T.PageTable g.S.Schedule c.args.table.now c.prepare-2.new.rows _ c.args.own.now _ c.args.streams.now c.prepare.new.self
          c.args.pool.now c.prepare-2.new.self c.args.batch.now.elements c.requires.idle c.requires.lawful made.still refl refl
          (subst (λ n. g.T.PageTable.has_room w n) (ap (λ k. 2 * k) c.len-entries.ensures) c.in_ok-make_room.ensures.room) c.prepare.ensures.same
          c.in_ok-prepare.ensures.prepared
          (c.in_ok-prepare-2.ensures.dealt w (idle_pool g.T.PageTable c.args.own.now.writer w c.args.pool.now made.home c.requires.idle.samplers))
          c.prepare-2.ensures.rest,
    )

pub begin_pass-requires-clause-root : goal.begin_pass-requires-clause-root
begin_pass-requires-clause-root g c =
    let still = c.make_room.ensures.still in
    subst (λ (z : List Change × Shape). IsSome (newest z.0 (root_of z.1))) (λ i. (sym still.journal i, sym still.shape i)) c.requires.root

pub returns-clause-ready : goal.returns-clause-ready
returns-clause-ready g c =
    let made = c.make_room.ensures in
    let w = c.make_room.new.writer in
    c.begin_pass.ensures.ready c.prepare-2.new.rows
    (prepared_once g.F.File g.T.PageTable g.S.Schedule c.args.table.now c.prepare-2.new.rows _ c.args.own.now _ c.args.streams.now c.prepare.new.self
    c.args.pool.now c.prepare-2.new.self c.args.batch.now.elements c.requires.idle c.requires.lawful made.still refl refl
    (subst (λ n. g.T.PageTable.has_room w n) (ap (λ k. 2 * k) c.len-entries.ensures) c.in_ok-make_room.ensures.room) c.prepare.ensures.same
    c.in_ok-prepare.ensures.prepared
    (c.in_ok-prepare-2.ensures.dealt w (idle_pool g.T.PageTable c.args.own.now.writer w c.args.pool.now made.home c.requires.idle.samplers))
    c.prepare-2.ensures.rest)

pub returns-clause-still : goal.returns-clause-still
returns-clause-still g c =
    still_more g.T.PageTable c.args.table.now g.met.T.PageTable.later_twice c.args.own.now.writer c.make_room.new.writer c.begin_pass.new.own.writer
    c.make_room.ensures.still c.begin_pass.ensures.still
