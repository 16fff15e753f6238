use Rattle.std.proofs.Common.{◌≡◌, ◌∙◌, ℕ, false, List, Option, refl, ap, subst, sym, arith}
use Rattle.vt_pages.specs.Shape.{Shape}
use Rattle.vt_pictures.specs.Shots.{shot_row}
use Rattle.vt_journal.specs.Kept.{entries_of}
use Rattle.vt_tiles.specs.Format.{stored}
use Rattle.vt_pictures.specs.Scenes.{scene_of}
use Rattle.vt_pictures.specs.Evidence.{AreShown}
use Rattle.vt_pictures.proofs.Handed.{row_is_under}
use Rattle.vt_replay_rows.specs.ReplayLookups.{ReplayLookupView, IsTrueOfTiles, replay_lookup_base}
use Rattle.vt_replay_rows.specs.Trying.{HoldsStoreTiles}
use Rattle.vt_replay_rows.proofs.ReplayLookupLaws.{none_missed, true_replay_lookup}
use Rattle.vt_replay_rows.proofs.draw.try_line.Goals as goal

pub returns-clause-shown : goal.returns-clause-shown
returns-clause-shown g c = λ none known tiles b is store.
    let shot = c.args.shot.now in
    let s = shot.geometry.now in
    let base : ReplayLookupView = c.args.replay_lookup.now in
    let t : ReplayLookupView = record base { shape = s; depth = shot.depth; missed = false } in
    let held = subst (λ (o : Option (List ℕ)). HoldsStoreTiles s shot.depth base o) is tiles in
    let v : ReplayLookupView = c.draw_row.new.lookup in
    let begun : replay_lookup_base base ≡ t = ap (λ (r : Shape). record base { shape = r; missed = false }) c.requires.same_shape
    ∙ ap (λ (n : ℕ). record base { shape = s; depth = n; missed = false }) c.requires.same_depth in
    let same : v ≡ t = sym (none_missed v (sym c.missed.ensures ∙ none)) ∙ c.draw_row.ensures.kept ∙ ap replay_lookup_base c.again-own.ensures ∙ begun in
    let row = shot_row s shot.path.now shot.picture c.args.y in
    let shown = subst (λ (u : ReplayLookupView). AreShown g.P.Filter.shown s shot.depth v.version (IsTrueOfTiles u) row shot.path.now.width c.draw_row.new.out) same
    c.draw_row.ensures.drawn in
    row_is_under g.P.Filter.shown g.P.Filter.under g.met.P.Filter.is_under (stored b) (scene_of s shot.depth shot.path.now) (entries_of t.entries)
    v.version (IsTrueOfTiles t) c.tile-side.ensures.limits (true_replay_lookup t b v.version refl store held) shot.picture shot.path.now.width c.args.y
    c.draw_row.new.out shown

pub returns-clause-counted : goal.returns-clause-counted
returns-clause-counted g c = λ p inside.
    let shot = c.args.shot.now in
    let row = shot_row shot.geometry.now shot.path.now shot.picture c.args.y in
    omega (arith, c.draw_row.ensures.counted p inside, g.met.P.Filter.wants_few shot.geometry.now row shot.path.now.width p)
