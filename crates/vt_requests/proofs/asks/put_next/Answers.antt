use Rattle.vt_requests.proofs.asks.put_next.Goals as goal

pub unreachable-requires : goal.unreachable-requires
unreachable-requires g c = c.requires.room c.in-Err.ensures.full

pub returns : goal.returns
returns g c = record { of = c.in-Ok.ensures.of; puts = c.in-Ok.ensures.puts }
