use Rattle.std.proofs.Common.{◌≡◌, ◌≤◌}
use Rattle.std.specs.Option.{option_map}
use Rattle.vt_outside.specs.Files.{with_bytes}
use Rattle.vt_store_commands.proofs.Making.{made_front}
use Rattle.vt_store_commands.proofs.commands.generate.write_texture.Given as goal

-- the name holds the picture's bytes as far as the rows so far
abbrev pub invariant-loop-y : goal.invariant-loop-y
invariant-loop-y g l = record {
  held : g.D.Folder.files l.folder
      ≡ option_map (with_bytes l.words.name.now (made_front l.words.number l.words.width l.words.height l.y)) (g.D.Folder.files l.fn.folder);
  asked : g.D.Folder.asked l.folder ≡ g.D.Folder.asked l.fn.folder;
  faults : g.D.Folder.faults l.fn.folder ≤ g.D.Folder.faults l.folder;
}
