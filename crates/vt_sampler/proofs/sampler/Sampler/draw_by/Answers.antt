use Rattle.std.proofs.Common.{◌≡◌, ℕ, ◌*◌, ◌/◌, ◌<◌, List, ◌∙◌, ap, subst, sym, length}
use Rattle.std.specs.Prelude.{slice_index}
use Rattle.vt_lookup.specs.Shots.{shot_row}
use Rattle.vt_lookup.specs.Evidence.{AreShown}
use Rattle.vt_lookup.specs.Notes.{IsNotedIn}
use Rattle.vt_definitions.specs.Dealing.{own_count}
use Rattle.vt_sampler.specs.Samplers.{SamplerView, IsFor, row_length, row_in}
use Rattle.vt_sampler.proofs.Sharing.{own_full}
use Rattle.vt_sampler.proofs.sampler.Sampler.draw_by.Goals as goal

pub returns-clause-full : goal.returns-clause-full
returns-clause-full g c y own =
    let s = c.self.inside in
    let line : ℕ = row_length s.depth s.width in
    let for_it = subst (λ (v : SamplerView). IsFor v c.args.shot.now.geometry.now c.args.shot.now.path.now c.args.shot.now.depth) (sym c.self.view_is)
    c.requires.for_it in
    let bytes : List ℕ = c.draw_held_rows.new.rows.bytes.items in
    let all : length bytes ≡ own_count s.sampler s.samplers s.height * line = c.draw_held_rows.ensures.bytes ∙ c.self.invariant.room in
    own_full s.sampler s.samplers s.height line y bytes c.self.invariant.one_of own.inside own.own all
    ∙ (λ i. row_length (for_it.depth i) (for_it.width i))

pub returns-clause-drawn : goal.returns-clause-drawn
returns-clause-drawn g c y own =
    let s = c.self.inside in
    let for_it = subst (λ (v : SamplerView). IsFor v c.args.shot.now.geometry.now c.args.shot.now.path.now c.args.shot.now.depth) (sym c.self.view_is)
    c.requires.for_it in
    let rows = c.draw_held_rows.new.rows in
    let row = ap (λ (n : ℕ). row_in s.samplers (row_length n s.width) rows.bytes.items y) for_it.depth
    ∙ ap (λ (n : ℕ). row_in s.samplers (row_length c.args.shot.now.depth n) rows.bytes.items y) for_it.width in
    let inside : y < c.args.shot.now.path.now.height = subst (λ (n : ℕ). y < n) for_it.height own.inside in
    subst (λ (l : List ℕ). AreShown g.P.Filter.shown c.args.shot.now.geometry.now c.args.shot.now.depth
    (slice_index rows.versions.items (y / s.samplers)) (IsNotedIn c.draw_held_rows.result.view)
    (shot_row c.args.shot.now.geometry.now c.args.shot.now.path.now c.args.shot.now.picture y) c.args.shot.now.path.now.width l)
    (sym row) (c.draw_held_rows.ensures.drawn y inside own.own)

pub returns-clause-rising : goal.returns-clause-rising
returns-clause-rising g c y z own_y own_z low =
    let for_it = subst (λ (v : SamplerView). IsFor v c.args.shot.now.geometry.now c.args.shot.now.path.now c.args.shot.now.depth) (sym c.self.view_is)
    c.requires.for_it in
    c.draw_held_rows.ensures.rising y z (subst (λ (n : ℕ). z < n) for_it.height own_z.inside) own_y.own own_z.own low
