use Rattle.vt_text.proofs.place.print_bad_input.Goals as goal

pub returns : goal.returns
returns g c = rw (← c.as_bytes.ensures.value) c.print_line.ensures
