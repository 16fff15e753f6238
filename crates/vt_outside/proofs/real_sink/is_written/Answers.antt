use Rattle.std.proofs.Common.{ℕ, List, Bor, ◌++◌, take, ap, sym, ◌∙◌}
use Rattle.std.proofs.KnownBytes.{Appends-trans, Appends-kept}
use Rattle.vt_outside.proofs.Fronts.{front_part, longer_part, kept_part, sliced_front}
use Rattle.vt_outside.proofs.real_sink.is_written.Goals as goal
use Rattle.vt_outside.proofs.real_sink.is_written.Goals.{in-Ok, in-Err+else-ne}

pub returns-then-is_empty-clause-part : goal.returns-then-is_empty-clause-part
returns-then-is_empty-clause-part g c = let (done, split, appended) = c.loop.invariant in front_part _ _ _ done _ split appended

pub returns-in-Ok-eq0-clause-part : goal.returns-in-Ok-eq0-clause-part
returns-in-Ok-eq0-clause-part g c = let (done, split, appended) = c.loop.invariant in
    longer_part _ _ _ _ done _ c.in-Ok-eq0.field-0 split appended c.in-Ok-eq0.ensures.bytes

pub returns-then-ne-clause-part : goal.returns-then-ne-clause-part
returns-then-ne-clause-part g c = let (done, split, appended) = c.loop.invariant in kept_part _ _ _ _ done _ split appended c.in-Err.ensures.bytes

pub returns-clause-part : goal.returns-clause-part
returns-clause-part g c = let (done, split, appended) = c.loop.invariant in front_part _ _ _ done _ split appended

pub loop-preserved : goal.loop-preserved
loop-preserved g c =
    let (done, split, appended) = c.loop.invariant in
    elim c.match-write.branch [
      | in-Ok w ↦ (
        done ++ take w.in-Ok.n c.loop.rest.now,
        sliced_front _ done _ w.in-Ok.n split
            ∙ ap (λ (b : Bor (List ℕ)). (done ++ take w.in-Ok.n c.loop.rest.now) ++ b.now) (sym w.rest-is),
        Appends-trans _ _ _ _ _ appended w.in-Ok.ensures.bytes,
      )
      | in-Err+else-ne w ↦ (done, split ∙ ap (λ (b : Bor (List ℕ)). done ++ b.now) (sym w.rest-is), Appends-kept _ _ _ _ appended w.in-Err.ensures.bytes)
    ]
