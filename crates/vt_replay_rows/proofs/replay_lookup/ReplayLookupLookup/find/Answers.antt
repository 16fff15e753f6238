use Rattle.std.proofs.Common.{sym, subst}
use Rattle.vt_replay_rows.specs.ReplayLookups.{ReplayLookupView, IsTrueOfTiles}
use Rattle.vt_replay_rows.proofs.ReplayLookupLaws.{says_on}
use Rattle.vt_replay_rows.proofs.replay_lookup.ReplayLookupLookup.find.Goals as goal

pub returns-else-is_some-clause-said : goal.returns-else-is_some-clause-said
returns-else-is_some-clause-said c = λ note h.
    let kept = c.self.inside in
    let v : ReplayLookupView = record {
      shape = kept.geometry.now;
      depth = kept.depth;
      size = kept.tiles.now.size;
      version = kept.table.now.version;
      entries = kept.table.now.entries.items;
      slots = kept.tiles.now.slots.items;
      owners = kept.tiles.now.owners.items;
      bytes = kept.tiles.now.bytes.items;
      missed = kept.missed;
    } in
    says_on v note (subst (λ (u : ReplayLookupView). IsTrueOfTiles u note) (sym c.self.view_is) h)
