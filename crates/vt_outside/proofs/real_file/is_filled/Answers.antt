use Rattle.std.proofs.Common.{◌-◌, rules, length, take, ap, sym, ◌∙◌, subst}
use Rattle.std.specs.Io.KnownBytes.{Consumes}
use Rattle.std.proofs.KnownBytes.{Consumes-trans, Consumes-kept}
use borrow.Rule.Slice.PartMut.{put_mid}
use Rattle.vt_outside.proofs.Fronts.{filled_front, kept_front}
use Rattle.vt_outside.proofs.real_file.is_filled.Goals as goal
use Rattle.vt_outside.proofs.real_file.is_filled.Goals.{in-Ok, in-Err+else-ne}

pub loop-preserved : goal.loop-preserved
loop-preserved g c =
    let from = c.loop.done in
    let room = length c.loop.buf - from in
    let within = c.loop.invariant.1 in
    let after = put_mid from room c.loop.buf c.read.new.buf in
    elim c.match-read.branch [
      | in-Ok w ↦ (
        search rules,
        search rules,
        subst (Consumes _ _) (filled_front from room w.in-Ok.n c.loop.buf c.read.new.buf within w.in-Ok.ensures.bound.0
            ∙ ap (λ n. take n after) (sym w.done-is)) (Consumes-trans _ _ _ _ _ c.loop.invariant.2 w.in-Ok.ensures.bytes.0),
      )
      | in-Err+else-ne w ↦ (
        search rules,
        search rules,
        subst (Consumes _ _) (sym (kept_front from room c.loop.buf c.read.new.buf within)
            ∙ ap (λ n. take n after) (sym w.done-is)) (Consumes-kept _ _ _ _ c.loop.invariant.2 w.in-Err.ensures.bytes),
      )
    ]
