use Rattle.std.proofs.Common.{refl}
use Rattle.vt_pass_machine.proofs.Idle.{idle_made}
use Rattle.vt_pass_machine.proofs.machine.MachinePassMachine.make_from.Goals as goal

pub returns-clause-idle : goal.returns-clause-idle
returns-clause-idle g c =
    let made = c.in_ok-shared.ensures in
    let pool = c.new-streams.ensures in
    idle_made g.F.File g.T.PageTable _ _ c.new-streams.result _ c.args.geometry.now c.args.depth c.args.crew.now made.of made.shape made.unfilled
    refl refl c.new_parts.ensures.limits pool.pool pool.shape pool.depth pool.crew made.idle made.geometry made.depth made.count
