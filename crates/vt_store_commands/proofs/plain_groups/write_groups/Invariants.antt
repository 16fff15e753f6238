use Rattle.std.proofs.Common.{◌≡◌}
use Rattle.std.specs.Prelude.{vec_len}
use Rattle.vt_outside.specs.Effects.{folder_state}
use Rattle.vt_store_commands.proofs.PlainGroups.{IsAtGroup}
use Rattle.vt_store_commands.proofs.plain_groups.write_groups.Given as goal

-- the pictures before a group are written, and the group is made
abbrev pub invariant-loop-round : goal.invariant-loop-round
invariant-loop-round g l = record {
  at : IsAtGroup l.pictures l.prefix l.round l.first l.middle (folder_state g.D.Folder l.fn.folder) (folder_state g.D.Folder l.folder) l.front.items;
  front : vec_len l.front ≡ vec_len l.fn.front;
  back : vec_len l.back ≡ vec_len l.fn.back;
}
