use Rattle.std.proofs.Common.{◌≡◌, ℕ, List, sym, ap, ◌∙◌, subst}
use mathlib.Core.List.{IsPrefix}
use Rattle.vt_pages.specs.Shape.{Shape}
use Rattle.vt_pictures.specs.DrawLookups.{place_in_tile}
use Rattle.vt_swap_steps.specs.LogTypes.records.LogRecord.{LogRecord}
use Rattle.vt_swap.specs.Notes.{IsWord}
use Rattle.vt_swap.specs.Readers.{LookupView}
use Rattle.vt_swap.proofs.Saying.{still_said, texel_read}
use Rattle.vt_swap.proofs.lookup.SwapLookupLookup.texel.Goals as goal

pub returns-clause-read : goal.returns-clause-read
returns-clause-read c none =
    let w : LookupView = c.word.new.self in
    let shape : c.self.inside.geometry.now ≡ w.shape =
    ap (λ (x : LookupView). x.shape) c.self.view_is
    ∙ sym (ap (λ (x : LookupView). x.shape) c.word.ensures.rest ∙ ap (λ (x : LookupView). x.shape) c.reach.ensures) in
    let place : c.place_of-place.result ≡ place_in_tile w.shape c.args.x c.args.y =
    c.place_of-place.ensures.place ∙ ap (λ (s : Shape). place_in_tile s c.args.x c.args.y) shape in
    subst (λ (n : ℕ). IsWord w.log w.table.version c.args.found.now.slot n c.word.result) place
    (texel_read c.args.self.now c.reach.new.self w c.args.found.now.page c.args.found.now.slot c.place_of-place.result c.word.result c.reach.ensures
    c.word.ensures.rest c.word.ensures.later c.word.ensures.failed c.requires.mapped c.word.ensures.word none)

pub returns-clause-said : goal.returns-clause-said
returns-clause-said c note said =
    still_said c.args.self.now c.word.new.self note
    (subst (λ (l : List LogRecord). IsPrefix l c.word.new.self.log) (ap (λ (x : LookupView). x.log) c.reach.ensures) c.word.ensures.later)
    (λ none. sym (ap (λ (x : LookupView). x.failed) c.reach.ensures) ∙ c.word.ensures.failed none) said
