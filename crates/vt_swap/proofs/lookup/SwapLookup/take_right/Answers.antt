use Rattle.vt_swap.proofs.lookup.SwapLookup.take_right.Goals as goal

pub invariant_of-self : goal.invariant_of-self
invariant_of-self c =
    let k = c.self.invariant.0 in (
      record { table = k.table; seen = k.seen; slots_are = k.slots_are },
      rw c.replace-nothing.ensures.after (c.right_to_frame-right.ensures _ k.slots_are),
    )
