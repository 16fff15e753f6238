use Rattle.std.proofs.Common.{ℕ, List, Option, refl, sym, subst}
use Rattle.vt_replay_rows.specs.ReplayLookups.{IsReplayLookup}
use Rattle.vt_replay_rows.specs.Trying.{replay_lookup_of, HoldsStoreTiles}
use Rattle.vt_replay_rows.proofs.Reading.{read_none, read_then}
use Rattle.vt_replay_rows.proofs.Readying.{ready_after, ready_replay_lookup, tiles_same}
use Rattle.vt_replay_rows.proofs.Tiling.{tiles_under}
use Rattle.vt_replay_rows.proofs.Trying.{tried_none, tried_then}
use Rattle.vt_replay_rows.proofs.beside.draw_beside.Goals as goal

pub loop-round-init : goal.loop-round-init
loop-round-init g c = record {
  ready = c.requires.ready;
  tried = tried_none _ _ _ c.args.left.now c.args.samples.now;
  read = read_none g.F.File c.args.store.now;
}

pub try_in_parts-requires-clause-replay_lookup : goal.try_in_parts-requires-clause-replay_lookup
try_in_parts-requires-clause-replay_lookup g c =
    let shot = c.args.shot.now in
    let table = c.args.table.now in
    let tiles = c.loop-round.tiles in
    let replay_lookup : IsReplayLookup (replay_lookup_of shot.geometry.now shot.depth table tiles) = ready_replay_lookup g.F.File shot.geometry.now shot.depth table.version tiles.size
    table.entries.items tiles.slots.items tiles.owners.items tiles.bytes.items c.loop-round.store c.requires.depth c.loop-round.invariant.ready in
    λ _ _. replay_lookup

pub bring_missing-requires : goal.bring_missing-requires
bring_missing-requires g c =
    let shot = c.args.shot.now in
    let loop = c.loop-round in
    let old = loop.tiles in
    let new = c.touch_used.new.tiles in
    let did = c.touch_used.ensures in
    let known = g.F.File.bytes loop.store.file in
    let ready = loop.invariant.ready in
    record {
      tiles = tiles_under loop.store.shape shot.geometry.now loop.store.depth shot.depth new.size new.slots.items new.owners.items new.bytes.items known known
          (sym ready.shape) (sym ready.depth) refl (tiles_same shot.geometry.now shot.depth old.size new.size old.slots.items old.owners.items
          old.bytes.items new.slots.items new.owners.items new.bytes.items known did.size did.slots did.owners did.bytes ready.tiles);
    }

pub returns-in_err-bring_missing-clause-read : goal.returns-in_err-bring_missing-clause-read
returns-in_err-bring_missing-clause-read g c =
    read_then g.F.File c.args.store.now c.loop-round.store c.bring_missing.new.store c.loop-round.invariant.read c.bring_missing.ensures.read

pub loop-round-preserved : goal.loop-round-preserved
loop-round-preserved g c =
    let shot = c.args.shot.now in
    let s = shot.geometry.now in
    let d = shot.depth in
    let loop = c.loop-round in
    let ready = loop.invariant.ready in
    let new = c.bring_missing.new.tiles in
    let known = g.F.File.bytes loop.store.file in
    let read = c.bring_missing.ensures.read in
    let tiles = tiles_under s loop.store.shape d loop.store.depth new.size new.slots.items new.owners.items new.bytes.items known known
    ready.shape ready.depth refl c.in_ok-bring_missing.ensures.tiles in
    let held = subst (λ (o : Option (List ℕ)). HoldsStoreTiles s d (replay_lookup_of s d c.args.table.now loop.tiles) o) loop.invariant.read.bytes ready.tiles in
    record {
      ready = ready_after g.F.File s d c.args.table.now.entries.items loop.tiles.size new.size loop.tiles.slots.items loop.tiles.owners.items
          loop.tiles.bytes.items new.slots.items new.owners.items new.bytes.items loop.store c.bring_missing.new.store ready read tiles;
      tried = tried_then _ _ _ c.args.left.now loop.left c.try_in_parts.new.left c.args.samples.now loop.samples c.try_in_parts.new.samples
          loop.invariant.tried (c.try_in_parts.ensures (g.F.File.bytes c.args.store.now.file) held);
      read = read_then g.F.File c.args.store.now loop.store c.bring_missing.new.store loop.invariant.read read;
    }
