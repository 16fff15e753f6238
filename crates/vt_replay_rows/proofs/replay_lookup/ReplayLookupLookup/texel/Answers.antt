use Rattle.std.proofs.Common.{ℕ, ap, ◌∙◌, subst}
use Rattle.vt_pictures.specs.DrawLookups.{WordNote, place_in_tile}
use Rattle.vt_replay_rows.specs.ReplayLookups.{ReplayLookupView, IsReplayLookup, IsTrueOfTiles}
use Rattle.vt_replay_rows.proofs.ReplayLookupLaws.{word_noted}
use Rattle.vt_replay_rows.proofs.replay_lookup.ReplayLookupLookup.texel.Goals as goal

pub returns-clause-read : goal.returns-clause-read
returns-clause-read c =
    let v : ReplayLookupView = c.args.self.now in
    let found = c.args.found.now in
    let replay_lookup : IsReplayLookup v = subst IsReplayLookup c.self.view_is c.self.invariant.0 in
    let place = c.place_of.ensures.place ∙ ap (λ (u : ReplayLookupView). place_in_tile u.shape c.args.x c.args.y) c.self.view_is in
    subst (λ (n : ℕ). IsTrueOfTiles v (WordNote v.version found.slot n c.word_of.result)) place
    (word_noted v v.version found.page found.slot c.place_of.result c.word_of.result replay_lookup c.requires.mapped c.word_of.ensures)
