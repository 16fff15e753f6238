use Rattle.std.proofs.Common.{◌≡◌, ℕ, ◌+◌, ◌*◌, inl, inr, false, List, Option, subst, arith}
use Rattle.std.proofs.lemmas.Bool.{cases_lt}
use Rattle.std.proofs.lemmas.List.{get_or_past}
use Rattle.std.proofs.lemmas.Nat.{mul-le}
use Rattle.vt_definitions.specs.Depths.{texel_length}
use Rattle.vt_journal.specs.Kept.{entries_of}
use Rattle.vt_pictures.specs.Scenes.{scene_of}
use Rattle.vt_replay_rows.specs.Trying.{ShowsRow, IsDone, AreTried}
use Rattle.vt_replay_rows.proofs.Reading.{read_none, read_then}
use Rattle.vt_replay_rows.proofs.Trying.{tried_none, tried_then, stays_done}
use Rattle.vt_replay_rows.proofs.draw.draw_left.Goals as goal

pub loop-y-init : goal.loop-y-init
loop-y-init g c = record {
  counted = λ p inside. (let none = c.clear.ensures p inside in omega (arith, none));
  ready = c.requires.ready;
  tried = tried_none _ _ _ c.args.left.now c.args.samples.now;
  done = λ k low. absurd (omega (arith, low));
  read = read_none g.F.File c.args.store.now;
}

pub draw_next-requires-clause-room : goal.draw_next-requires-clause-room
draw_next-requires-clause-room g c = λ p inside.
    let at = c.loop-y in
    let wide = c.args.shot.now.path.now.width in
    let counted = at.invariant.counted p inside in
    let height = c.height-y-end.ensures in
    let width = c.width-width.ensures in
    let most = mul-le (at.y + 1) (4 * wide) 2048 8192 (omega (arith, c.loop-y-test.true, height.high)) (omega (arith, width.value, width.high)) in
    omega (arith, counted, most)

pub returns-in_err-draw_next-clause-read : goal.returns-in_err-draw_next-clause-read
returns-in_err-draw_next-clause-read g c =
    read_then g.F.File c.args.store.now c.loop-y.store c.draw_next.new.store c.loop-y.invariant.read c.draw_next.ensures.read

pub loop-y-preserved : goal.loop-y-preserved
loop-y-preserved g c =
    let shot = c.args.shot.now in
    let wide = texel_length shot.depth * shot.path.now.width in
    let at = c.loop-y in
    let read = at.invariant.read in
    let tried = subst (λ (o : Option (List ℕ)). AreTried wide 0 (λ y bytes. ShowsRow g.P.Filter.under (scene_of shot.geometry.now shot.depth shot.path.now)
    (entries_of c.args.table.now.entries.items) o shot.picture y bytes) at.left c.draw_next.new.left at.samples c.draw_next.new.samples)
    read.bytes c.in_ok-draw_next.ensures.tried in
    record {
      counted = λ p inside. omega (arith, c.draw_next.ensures.counted p inside, at.invariant.counted p (omega arith));
      ready = c.in_ok-draw_next.ensures.ready;
      tried = tried_then wide 0 _ c.args.left.now at.left c.draw_next.new.left c.args.samples.now at.samples c.draw_next.new.samples at.invariant.tried tried;
      done = λ k low. elim (cases_lt k at.y) [
        | inl before ↦ stays_done wide 0 k _ at.left c.draw_next.new.left at.samples c.draw_next.new.samples c.in_ok-draw_next.ensures.tried
            (at.invariant.done k before)
        | inr past ↦ (let same : at.y ≡ k = omega (arith, past, low) in subst (IsDone c.draw_next.new.left) same c.in_ok-draw_next.ensures.done)
      ];
      read = read_then g.F.File c.args.store.now at.store c.draw_next.new.store read c.draw_next.ensures.read;
    }

pub returns-clause-done : goal.returns-clause-done
returns-clause-done g c = λ y.
    elim (cases_lt y c.loop-y.y) [
      | inl below ↦ c.loop-y.invariant.done y below
      | inr past ↦ get_or_past c.loop-y.left y false (omega (arith, past, c.requires.rows, c.loop-y-test.false, c.height-y-end.ensures.value))
    ]

pub returns-clause-read : goal.returns-clause-read
returns-clause-read g c = c.loop-y.invariant.read
