use Rattle.std.specs.BTreeMap.{get_by_text}
use Rattle.std.proofs.Common.{string_bytes}
use Rattle.std.proofs.lemmas.Map.Text.{btree_map_updates_text}
use Rattle.vt_outside.proofs.Named.{held_after}
use Rattle.vt_outside.proofs.memory_folder.put_bytes.Goals as goal

pub returns : goal.returns
returns c = λ q. held_after c.args.name.now (string_bytes c.in_ok-key.key) q c.args.held
    (get_by_text c.insert.new.self q) (get_by_text c.args.entries.now q) c.in_ok-key.ensures.ok
    (btree_map_updates_text (string_bytes c.in_ok-key.key) c.args.entries.now c.insert.new.self _ c.in_ok-insert.ensures.updates q)
