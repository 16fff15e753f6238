use Rattle.std.proofs.Common.{ap}
use Rattle.vt_replay_rows.specs.ReplayLookups.{replay_lookup_base}
use Rattle.vt_replay_rows.proofs.replay_lookup.ReplayLookup.again.Goals as goal

pub invariant_of-result : goal.invariant_of-result
invariant_of-result c =
    let h = c.self.invariant.0 in (
      record {
        lawful = h.lawful;
        all_entries = h.all_entries;
        root = h.root;
        apart = h.apart;
        size_is = h.size_is;
        all_slots = h.all_slots;
        all_bytes = h.all_bytes;
      },
      tt,
    )

pub returns : goal.returns
returns c = ap replay_lookup_base c.self.view_is
