use Rattle.std.proofs.Common.{ℕ, ◌*◌, length, sym, ap, ◌∙◌, subst, arith}
use Rattle.vt_definitions.specs.Depths.{texel_length}
use Rattle.vt_replay_rows.specs.ReplayLookups.{ReplayLookupView}
use Rattle.vt_replay_rows.specs.Trying.{MayTry, HasTriedRows}
use Rattle.vt_replay_rows.proofs.beside.try_in_parts.Goals as goal

pub try_beside-requires-clause-may : goal.try_beside-requires-clause-may
try_beside-requires-clause-may g c = λ _ _.
    let shot = c.args.shot.now in
    let rows = length c.args.left.now in
    let may : MayTry shot c.new-replay_lookup.result 0 rows (length c.args.samples.now) = record {
      lawful = c.requires.replay_lookup.lawful;
      shape = ap (λ (v : ReplayLookupView). v.shape) c.new-replay_lookup.ensures;
      depth = ap (λ (v : ReplayLookupView). v.depth) c.new-replay_lookup.ensures;
      picture = c.requires.picture;
      inside = omega (arith, c.requires.rows);
      room = c.requires.bytes ∙ ap (λ (n : ℕ). n * (texel_length shot.depth * shot.path.now.width)) (sym c.requires.rows);
    } in
    may

pub returns : goal.returns
returns g c =
    subst (λ (v : ReplayLookupView). HasTriedRows g.P.Filter.under c.args.shot.now v 0 c.args.left.now c.try_beside.new.left c.args.samples.now
    c.try_beside.new.samples) c.new-replay_lookup.ensures c.try_beside.ensures.tried
