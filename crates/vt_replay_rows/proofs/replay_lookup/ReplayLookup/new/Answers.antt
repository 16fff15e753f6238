use Rattle.vt_replay_rows.proofs.replay_lookup.ReplayLookup.new.Goals as goal

pub invariant_of-result : goal.invariant_of-result
invariant_of-result c = (
  record {
    lawful = c.requires.depth;
    all_entries = c.requires.entries;
    root = c.requires.root;
    apart = c.requires.apart;
    size_is = c.requires.size;
    all_slots = c.requires.slots;
    all_bytes = c.requires.bytes;
  },
  tt,
)
