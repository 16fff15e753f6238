use Rattle.std.proofs.Common.{ℕ, ◌≤◌, [], ◌∷◌, length, sym, ap, ◌∙◌, subst}
use Rattle.left_right.specs.Sides.{view}
use Rattle.vt_pictures.specs.Shots.{shot_row}
use Rattle.vt_pictures.specs.Evidence.{AreShown}
use Rattle.vt_swap_steps.specs.Caches.{cache_of}
use Rattle.vt_swap_steps.specs.declared.table.NewestTable.{NewestTable}
use Rattle.vt_swap_steps.specs.declared.rule.Known.{Known}
use Rattle.vt_swap_steps.specs.Logs.{changes_in}
use Rattle.vt_swap.specs.Notes.{IsSaidBy}
use Rattle.vt_swap.specs.Readers.{ReaderView, HasEnteredMore}
use Rattle.vt_swap_steps.proofs.Prefixes.{prefix_trans}
use Rattle.vt_swap.proofs.Entering.{version_known}
use Rattle.vt_swap.proofs.reader.try_row.Goals as goal

pub invariant_of-result : goal.invariant_of-result
invariant_of-result g c =
    let k = c.enter-reading.ensures.entered.knows in
    record {
      other = k.other;
      has = ap (λ (v : Known). v.front) c.leave-reader.ensures.1 ∙ k.has;
      one_log = k.one_log ∙ sym c.draw_under-failed.ensures.cache;
    }

pub returns-clause-entered : goal.returns-clause-entered
returns-clause-entered g c =
    let after : ReaderView = record {
      cache = cache_of c.draw_under-failed.new.front;
      log = c.draw_under-failed.new.front.seen.log;
      entered = (view c.leave-reader.result.place).entered;
    } in
    subst (λ (r : ReaderView). HasEnteredMore r after (c.enter-reading.result.1 ∷ [])) c.reader.view_is
    (record {
      cache = c.draw_under-failed.ensures.cache ∙ c.enter-reading.ensures.cache;
      log = prefix_trans _ _ _ c.enter-reading.ensures.seen c.draw_under-failed.ensures.later;
      entered = ap (λ (v : Known). v.entered) (c.leave-reader.ensures.1 ∙ c.enter-reading.ensures.noted);
    })

pub returns-clause-known : goal.returns-clause-known
returns-clause-known g c =
    let entered = c.enter-reading.ensures.entered in
    let log = c.draw_under-failed.new.front.seen.log in
    subst (λ (n : ℕ). n ≤ length (changes_in log)) (sym c.enter-reading.ensures.version)
    (version_known c.enter-reading.result.0.part.value log entered.table (prefix_trans _ _ _ entered.seen c.draw_under-failed.ensures.later))

pub returns-clause-drawn : goal.returns-clause-drawn
returns-clause-drawn g c none =
    let row = shot_row c.args.shot.now.geometry.now c.args.shot.now.path.now c.args.shot.now.picture c.args.y in
    subst (λ (n : ℕ). AreShown g.P.Filter.shown c.args.shot.now.geometry.now c.args.shot.now.depth n
    (IsSaidBy c.draw_under-failed.new.front.seen.log) row c.args.shot.now.path.now.width c.draw_under-failed.new.out)
    (ap (λ (t : NewestTable). t.version) c.get.ensures ∙ sym c.enter-reading.ensures.version) (c.draw_under-failed.ensures.drawn none)
