use Rattle.std.proofs.Common.{◌≡◌, ◌<◌, ◌*◌, ◌/◌, List, ◌∙◌, ap, subst, sym, length, ℕ, arith}
use Rattle.std.specs.Prelude.{slice_index}
use Rattle.std.proofs.lemmas.List.{with_items_is}
use Rattle.vt_lookup.specs.Shots.{shot_row, AreDrawn, pixels_in_rows}
use Rattle.vt_sampler.specs.Notes.{IsTrueOf}
use Rattle.vt_definitions.specs.Dealing.{own_count}
use Rattle.vt_sampler.specs.Samplers.{SamplerView, IsFor, own_rows, row_length, row_in}
use Rattle.vt_sampler.proofs.Sharing.{own_fits, own_full}
use Rattle.vt_sampler.proofs.sampler.Sampler.draw_still.Goals as goal

pub returns-clause-full : goal.returns-clause-full
returns-clause-full c y own =
    let s = c.self.inside in
    let line : ℕ = row_length s.depth s.width in
    let for_it = subst (λ (v : SamplerView). IsFor v c.args.shot.now.geometry.now c.args.shot.now.path.now c.args.shot.now.depth) (sym c.self.view_is)
    c.requires.for_it in
    let bytes : List ℕ = c.draw_rows.new.rows.bytes.items in
    let all : length bytes ≡ own_count s.sampler s.samplers s.height * line = c.draw_rows.ensures.bytes ∙ c.self.invariant.room in
    own_full s.sampler s.samplers s.height line y bytes c.self.invariant.one_of own.inside own.own all
    ∙ (λ i. row_length (for_it.depth i) (for_it.width i))

pub invariant_of-self : goal.invariant_of-self
invariant_of-self c =
    let s = c.self.inside in
    let i = c.self.invariant in
    let versions = with_items_is s.rows.versions c.set_all.new.versions (c.set_all.auto.versions ∙ c.as_mut_slice-2.ensures.len) in
    record {
      one_of = i.one_of;
      few = i.few;
      sides = i.sides;
      low_depth = i.low_depth;
      high_depth = i.high_depth;
      rows = ap length (c.draw_rows.ensures.versions ∙ versions) ∙ c.set_all.auto.versions ∙ ap length c.as_mut_slice-2.ensures.value ∙ i.rows;
      room = c.draw_rows.ensures.bytes ∙ i.room;
    }

pub draw_rows-requires-clause-bytes : goal.draw_rows-requires-clause-bytes
draw_rows-requires-clause-bytes c =
    let s = c.self.inside in
    let for_it = subst (λ (v : SamplerView). IsFor v c.args.shot.now.geometry.now c.args.shot.now.path.now c.args.shot.now.depth) (sym c.self.view_is)
    c.requires.for_it in
    let rows : ℕ = own_count s.sampler s.samplers c.args.shot.now.path.now.height in
    c.self.invariant.room
    ∙ ap (λ (n : ℕ). own_count s.sampler s.samplers n * row_length s.depth s.width) for_it.height
    ∙ ap (λ (n : ℕ). rows * row_length n s.width) for_it.depth
    ∙ ap (λ (n : ℕ). rows * row_length c.args.shot.now.depth n) for_it.width

pub draw_rows-requires-clause-pages : goal.draw_rows-requires-clause-pages
draw_rows-requires-clause-pages c =
    let s = c.self.inside in
    let for_it = subst (λ (v : SamplerView). IsFor v c.args.shot.now.geometry.now c.args.shot.now.path.now c.args.shot.now.depth) (sym c.self.view_is)
    c.requires.for_it in
    let cleared = with_items_is s.rows.counts c.clear.new.counts (c.clear.auto.counts ∙ c.as_mut_slice.ensures.len) in
    ap length cleared ∙ c.clear.auto.counts ∙ ap length c.as_mut_slice.ensures.value ∙ for_it.pages

pub draw_rows-requires-clause-none : goal.draw_rows-requires-clause-none
draw_rows-requires-clause-none c =
    let s = c.self.inside in
    let cleared = with_items_is s.rows.counts c.clear.new.counts (c.clear.auto.counts ∙ c.as_mut_slice.ensures.len) in
    subst (λ (xs : List ℕ). (p : ℕ) → p < length xs → slice_index xs p ≡ 0) (sym cleared) c.clear.ensures

pub returns-clause-version : goal.returns-clause-version
returns-clause-version c y own =
    let s = c.self.inside in
    let versions = with_items_is s.rows.versions c.set_all.new.versions (c.set_all.auto.versions ∙ c.as_mut_slice-2.ensures.len) in
    let rows : length c.set_all.new.versions ≡ own_count s.sampler s.samplers s.height =
    c.set_all.auto.versions ∙ ap length c.as_mut_slice-2.ensures.value ∙ c.self.invariant.rows in
    let inside : y / s.samplers < length c.set_all.new.versions =
    omega (arith, own_fits s.sampler s.samplers s.height y c.self.invariant.one_of own.inside own.own, rows) in
    ap (λ (xs : List ℕ). slice_index xs (y / s.samplers)) (c.draw_rows.ensures.versions ∙ versions) ∙ c.set_all.ensures (y / s.samplers) inside
    ∙ c.version.ensures.version ∙ ap length c.journal.ensures.changes

pub returns-clause-drawn : goal.returns-clause-drawn
returns-clause-drawn c y own =
    let s = c.self.inside in
    let for_it = subst (λ (v : SamplerView). IsFor v c.args.shot.now.geometry.now c.args.shot.now.path.now c.args.shot.now.depth) (sym c.self.view_is)
    c.requires.for_it in
    let bytes : List ℕ = c.draw_rows.new.rows.bytes.items in
    let version = returns-clause-version c y own in
    let D : ℕ → List ℕ → Type 0 = λ n row. AreDrawn c.args.shot.now.geometry.now c.args.shot.now.depth n (IsTrueOf c.args.table.now)
    (shot_row c.args.shot.now.geometry.now c.args.shot.now.path.now c.args.shot.now.picture y) c.args.shot.now.path.now.width row in
    let row = ap (λ (n : ℕ). row_in s.samplers (row_length n s.width) bytes y) for_it.depth
    ∙ ap (λ (n : ℕ). row_in s.samplers (row_length c.args.shot.now.depth n) bytes y) for_it.width in
    let inside : y < c.args.shot.now.path.now.height = subst (λ (n : ℕ). y < n) for_it.height own.inside in
    subst (λ (n : ℕ). D n (row_in s.samplers (row_length s.depth s.width) bytes y)) (sym version)
    (subst (λ (l : List ℕ). D (length c.args.table.now.changes) l) (sym row) (c.draw_rows.ensures.drawn y inside own.own))

pub returns-clause-counted : goal.returns-clause-counted
returns-clause-counted c =
    let s = c.self.inside in
    let for_it = subst (λ (v : SamplerView). IsFor v c.args.shot.now.geometry.now c.args.shot.now.path.now c.args.shot.now.depth) (sym c.self.view_is)
    c.requires.for_it in
    let counts : List ℕ = c.draw_rows.new.rows.counts.items in
    subst (λ (n : ℕ). (p : ℕ) → p < length counts
    → slice_index counts p ≡ pixels_in_rows c.args.shot.now.geometry.now c.args.shot.now.path.now c.args.shot.now.picture (own_rows s.sampler s.samplers n) p)
    (sym for_it.height) c.draw_rows.ensures.counted

pub returns-clause-sampler : goal.returns-clause-sampler
returns-clause-sampler c = (ap (λ (v : SamplerView). v.sampler) c.self.view_is, ap (λ (v : SamplerView). v.samplers) c.self.view_is)

pub returns-clause-for_it : goal.returns-clause-for_it
returns-clause-for_it c =
    let s = c.self.inside in
    let for_it = subst (λ (v : SamplerView). IsFor v c.args.shot.now.geometry.now c.args.shot.now.path.now c.args.shot.now.depth) (sym c.self.view_is)
    c.requires.for_it in
    let cleared = with_items_is s.rows.counts c.clear.new.counts (c.clear.auto.counts ∙ c.as_mut_slice.ensures.len) in
    record {
      width = for_it.width;
      height = for_it.height;
      depth = for_it.depth;
      pages = c.draw_rows.ensures.pages ∙ ap length cleared ∙ c.clear.auto.counts ∙ ap length c.as_mut_slice.ensures.value ∙ for_it.pages;
    }
