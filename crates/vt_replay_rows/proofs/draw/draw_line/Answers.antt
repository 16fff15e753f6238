use Rattle.std.proofs.Common.{ℕ, List, Option, refl, subst, arith}
use Rattle.vt_replay_rows.specs.Trying.{replay_lookup_of, HoldsStoreTiles}
use Rattle.vt_replay_rows.proofs.Reading.{read_then}
use Rattle.vt_replay_rows.proofs.Readying.{ready_after, ready_replay_lookup}
use Rattle.vt_replay_rows.proofs.Tiling.{tiles_under}
use Rattle.vt_replay_rows.proofs.draw.draw_line.Goals as goal

pub try_once-tried-requires-clause-room : goal.try_once-tried-requires-clause-room
try_once-tried-requires-clause-room g c = λ p inside.
    let counted = c.loop-round.invariant.counted p inside in
    let room = c.requires.room p (omega arith) in
    omega (arith, counted, room)

pub try_once-tried-requires-clause-replay_lookup : goal.try_once-tried-requires-clause-replay_lookup
try_once-tried-requires-clause-replay_lookup g c =
    let shot = c.args.shot.now in
    let tiles = c.loop-round.tiles in
    ready_replay_lookup g.F.File shot.geometry.now shot.depth c.args.table.now.version tiles.size c.args.table.now.entries.items tiles.slots.items
    tiles.owners.items tiles.bytes.items c.loop-round.store c.requires.depth c.loop-round.invariant.ready

pub returns-in_err-bring_all-clause-read : goal.returns-in_err-bring_all-clause-read
returns-in_err-bring_all-clause-read g c =
    read_then g.F.File c.args.store.now c.loop-round.store c.bring_all.new.store c.loop-round.invariant.read c.bring_all.ensures.read

pub loop-round-preserved : goal.loop-round-preserved
loop-round-preserved g c =
    let shot = c.args.shot.now in
    let s = shot.geometry.now in
    let d = shot.depth in
    let loop = c.loop-round in
    let ready = loop.invariant.ready in
    let new = c.bring_all.new.tiles in
    let known = g.F.File.bytes loop.store.file in
    let read = c.bring_all.ensures.read in
    let tiles = tiles_under s loop.store.shape d loop.store.depth new.size new.slots.items new.owners.items new.bytes.items known known
    ready.shape ready.depth refl c.in_ok-bring_all.ensures.tiles in
    record {
      ready = ready_after g.F.File s d c.args.table.now.entries.items loop.tiles.size new.size loop.tiles.slots.items loop.tiles.owners.items
          loop.tiles.bytes.items new.slots.items new.owners.items new.bytes.items loop.store c.bring_all.new.store ready read tiles;
      counted = λ p inside. (let none = c.clear.ensures p inside in omega (arith, none));
      read = read_then g.F.File c.args.store.now loop.store c.bring_all.new.store loop.invariant.read read;
    }

pub returns-clause-read : goal.returns-clause-read
returns-clause-read g c = c.loop-round.invariant.read

pub returns-then-not-tried-clause-read : goal.returns-then-not-tried-clause-read
returns-then-not-tried-clause-read g c = c.loop-round.invariant.read

pub returns-then-not-tried-clause-shown : goal.returns-then-not-tried-clause-shown
returns-then-not-tried-clause-shown g c =
    let shot = c.args.shot.now in
    let loop = c.loop-round in
    let held = subst (λ (o : Option (List ℕ)). HoldsStoreTiles shot.geometry.now shot.depth (replay_lookup_of shot.geometry.now shot.depth c.args.table.now loop.tiles) o) loop.invariant.read.bytes loop.invariant.ready.tiles in
    c.try_once-tried.ensures.shown c.if-not-tried.true (g.F.File.bytes c.args.store.now.file) held
