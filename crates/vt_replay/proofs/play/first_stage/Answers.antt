use Rattle.std.proofs.Common.{ℕ, List, sym, ◌∙◌, subst}
use Rattle.vt_replay_rows.specs.Following.{Follows}
use Rattle.vt_replay_rows.proofs.Readying.{tiles_same}
use Rattle.vt_replay.proofs.play.first_stage.Goals as goal

pub returns-clause-first : goal.returns-clause-first
returns-clause-first g c = c.in_ok-stage.ensures.version ∙ c.in_ok-table.ensures.first

pub returns-clause-follows : goal.returns-clause-follows
returns-clause-follows g c =
    let s = c.args.geometry.now in
    let js = c.args.journal.now.changes in
    let stage = c.in_ok-stage.stage in
    let table = c.in_ok-table.table in
    subst (λ (l : List ℕ). Follows s js l stage.table.version) (sym c.in_ok-stage.ensures.entries)
    (subst (λ (n : ℕ). Follows s js table.entries.items n) (sym c.in_ok-stage.ensures.version) c.in_ok-table.ensures.follows)

pub returns-clause-tiles : goal.returns-clause-tiles
returns-clause-tiles g c = λ known.
    let tiles = c.in_ok-tiles.tiles in
    let new = c.in_ok-stage.stage.tiles in
    let did = c.in_ok-stage.ensures in
    tiles_same c.args.geometry.now c.args.depth tiles.size new.size tiles.slots.items tiles.owners.items tiles.bytes.items
    new.slots.items new.owners.items new.bytes.items known did.size did.slots did.owners did.bytes (c.in_ok-tiles.ensures known)

pub returns-clause-samples : goal.returns-clause-samples
returns-clause-samples g c = c.in_ok-stage.ensures.samples

pub returns-clause-counts : goal.returns-clause-counts
returns-clause-counts g c = c.in_ok-stage.ensures.counts
