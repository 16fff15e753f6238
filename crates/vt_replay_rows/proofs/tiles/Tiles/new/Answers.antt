use Rattle.std.proofs.Common.{◌*◌, ◌≤◌, ◌∙◌, sym, arith}
use Rattle.std.proofs.lemmas.Nat.{mul-le}
use Rattle.vt_definitions.specs.Limits.{most_frame_texels}
use Rattle.vt_replay_rows.proofs.Tiling.{tiles_first}
use Rattle.vt_replay_rows.proofs.tiles.Tiles.new.Goals as goal

pub returns : goal.returns
returns c = λ known.
    let side = c.args.geometry.now.tile in
    let limits = c.page_count.ensures.limits in
    let least = limits.least_tile in
    let area : 1 ≤ side * side = mul-le 1 1 side side (omega (arith, least)) (omega (arith, least)) in
    let most = mul-le c.args.slots 1 c.args.slots (side * side) (omega arith) area in
    let few : c.args.slots ≤ most_frame_texels = (let all = c.requires.few in omega (arith, most, all)) in
    tiles_first c.args.geometry.now c.args.depth c.tile_length-size.result c.args.slots c.in_ok-slots.slots.items c.in_ok-owners.owners.items
    c.in_ok-bytes.bytes.items known c.tile_length-size.ensures.value
    (sym c.in_ok-slots.slots.ok.0 ∙ c.in_ok-slots.ensures.len ∙ c.page_count.ensures.pages)
    (sym c.in_ok-owners.owners.ok.0 ∙ c.in_ok-owners.ensures.len) c.requires.some few (sym c.in_ok-bytes.bytes.ok.0 ∙ c.in_ok-bytes.ensures.len)
    (c.in_ok-owners.ensures.items_if_clones_equal (λ y h. h))
