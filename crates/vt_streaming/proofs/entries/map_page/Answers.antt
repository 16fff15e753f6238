use Rattle.std.proofs.Common.{◌≡◌, ◌+◌, ◌≤◌, ℕ, [], ◌∷◌, List, ap, ◌∙◌, subst}
use Rattle.vt_journal.specs.Shape.{Shape}
use Rattle.vt_journal.specs.declared.changes.Change.TheVariants.{Map}
use Rattle.vt_journal.specs.declared.changes.Event.TheVariants.{Changed}
use Rattle.vt_streamer.specs.Fills.{words_in}
use Rattle.vt_streamer.specs.Views.{StreamerView}
use Rattle.vt_streaming.specs.Made.{HasMade}
use Rattle.vt_streaming.proofs.Making.{made_looked, made_filled, made_both}
use Rattle.vt_streaming.proofs.entries.map_page.Goals as goal

pub returns : goal.returns
returns g c =
    let page : ℕ = c.args.page in let frame : ℕ = c.args.frame in
    let looked = c.free_frame.ensures.looked in let fill = c.fill.ensures in let did = c.publish.ensures in
    let u = c.args.streamer.now in let v = c.free_frame.new.streamer in let w = c.fill.new.self in let x = c.publish.new.streamer in
    let shape : v.shape ≡ u.shape = ap (λ (y : StreamerView). y.shape) looked in
    let spare : w.spare ≡ u.spare = ap (λ (y : StreamerView). y.spare) (fill.rest) ∙ ap (λ (y : StreamerView). y.spare) looked in
    record {
      of = did.of;
      version = did.version;
      made = made_both [] _ [] _ u.writer v.writer x.writer (made_looked u.writer v.writer (ap (λ (y : StreamerView). y.writer) looked))
          (made_both [] _ [] _ v.writer w.writer x.writer (made_filled v.writer w.writer (ap (λ (y : StreamerView). y.writer) fill.rest))
          (subst (λ (content : List ℕ). HasMade (Changed (Map page frame) ∷ []) (content ∷ []) w.writer x.writer)
          (fill.content ∙ ap (λ (s : Shape). words_in s c.args.tile.now) shape) did.made));
      shape = did.shape ∙ ap (λ (y : StreamerView). y.shape) fill.rest ∙ shape;
      spare = subst (λ (n : ℕ). n ≤ x.spare + 1) spare did.spare;
    }
