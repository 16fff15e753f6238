use Rattle.std.proofs.Common.{◌≡◌, ◌+◌, ◌-◌, ◌<◌, ◌≤◌, IsErr, OnOk, OnErr, length, sym, ap, ◌∙◌, subst, arith}
use Rattle.vt_ppm.specs.Sides.{side}
use Rattle.vt_ppm.specs.Counts.{Rose}
use Rattle.vt_mip.specs.StripChains.{RowsRead, RowsFailed, first_under, rows_under, level_row_length}
use Rattle.vt_mip.proofs.StripRoom.{room_grows, level_seen}
use Rattle.vt_mip.proofs.StripRows.{row_seen}
use Rattle.vt_mip.proofs.strip_chain.StripChain.row.Goals as goal

pub level_row-requires-clause-room : goal.level_row-requires-clause-room
level_row-requires-clause-room g c =
    let below = level_seen _ _ c.args.level c.self.inside.levels c.self.view_is c.self.invariant.count c.requires.level in
    omega (
      arith,
      room_grows c.self.inside.reader.header c.args.level (c.self.inside.levels - 1) (omega (arith, below)),
      c.self.invariant.room,
      c.as_mut_slice.ensures.len,
    )

pub returns-clause-row : goal.returns-clause-row
returns-clause-row g c = row_seen c.level_row.result g.F.File.bytes _ _ c.args.level c.args.y c.level_row.new.out c.self.view_is
    (omega (arith, c.requires.size)) c.level_row.ensures.words c.level_row.ensures.values

pub returns-clause-read : goal.returns-clause-read
returns-clause-read g c =
    subst (λ v. OnOk c.level_row.result (RowsRead v.header (first_under c.args.level c.args.y) (rows_under v.header.height c.args.level c.args.y)
    (g.F.File.asked v.file) (g.F.File.asked c.level_row.new.reader.file))) c.self.view_is c.level_row.ensures.read

pub returns-clause-tried : goal.returns-clause-tried
returns-clause-tried g c =
    subst (λ v. OnErr c.level_row.result (RowsFailed v.header (first_under c.args.level c.args.y) (rows_under v.header.height c.args.level c.args.y)
    (g.F.File.asked v.file) (g.F.File.asked c.level_row.new.reader.file))) c.self.view_is c.level_row.ensures.tried

pub returns-clause-failed : goal.returns-clause-failed
returns-clause-failed g c =
    subst (λ v. IsErr c.level_row.result → Rose (g.F.File.faults v.file) (g.F.File.faults c.level_row.new.reader.file)) c.self.view_is
    c.level_row.ensures.failed

pub returns-clause-spare : goal.returns-clause-spare
returns-clause-spare g c =
    subst (λ v. g.F.File.spare v.file ≤ g.F.File.spare c.level_row.new.reader.file + rows_under v.header.height c.args.level c.args.y) c.self.view_is
    c.level_row.ensures.spare

pub returns-clause-faults : goal.returns-clause-faults
returns-clause-faults g c = subst (λ v. g.F.File.faults v.file ≤ g.F.File.faults c.level_row.new.reader.file) c.self.view_is c.level_row.ensures.faults

pub returns-clause-bytes : goal.returns-clause-bytes
returns-clause-bytes g c = c.level_row.ensures.bytes ∙ ap (λ v. g.F.File.bytes v.file) c.self.view_is

pub returns-clause-name : goal.returns-clause-name
returns-clause-name g c = c.level_row.ensures.name ∙ ap (λ v. g.F.File.name v.file) c.self.view_is

pub returns-clause-header : goal.returns-clause-header
returns-clause-header g c = c.level_row.ensures.header ∙ ap (λ v. v.header) c.self.view_is

pub returns-clause-tile : goal.returns-clause-tile
returns-clause-tile g c = ap (λ v. v.tile) c.self.view_is

pub level_row-requires-clause-checked : goal.level_row-requires-clause-checked
level_row-requires-clause-checked g c = c.self.invariant.checked

pub level_row-requires-clause-row : goal.level_row-requires-clause-row
level_row-requires-clause-row g c = subst (λ v. c.args.y < side v.header.height c.args.level) (sym c.self.view_is) c.requires.row

pub level_row-requires-clause-spare : goal.level_row-requires-clause-spare
level_row-requires-clause-spare g c =
    subst (λ v. rows_under v.header.height c.args.level c.args.y ≤ g.F.File.spare v.file) (sym c.self.view_is) c.requires.spare

pub level_row-requires-clause-size : goal.level_row-requires-clause-size
level_row-requires-clause-size g c = subst (λ v. length c.args.out.now ≡ level_row_length v.header c.args.level) (sym c.self.view_is) c.requires.size
