use Rattle.std.proofs.Common.{◌≡◌, ◌-◌, ◌*◌, take}
use Rattle.vt_store_commands.specs.PlainFiles.{picture_file_of, files_between}
use Rattle.vt_store_commands.proofs.plain_files.draw_in_turn.Given as goal

-- the files so far were made
abbrev pub invariant-loop-picture : goal.invariant-loop-picture
invariant-loop-picture g l = take (l.size * (l.picture - l.first)) l.out ≡ files_between (picture_file_of l.pictures) l.first l.picture
