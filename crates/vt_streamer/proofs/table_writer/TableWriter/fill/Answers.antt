use Rattle.std.proofs.Common.{◌≡◌, ◌≤◌, ◌*◌, ℕ, length, map, sym, ap, ◌∙◌, subst, arith}
use Rattle.std.specs.List.{range_with_len}
use Rattle.vt_definitions.specs.Depths.{texel_length, word_at}
use Rattle.vt_table.specs.Views.{tile_word}
use Rattle.vt_table.proofs.TileWords.{word_is}
use Rattle.vt_table.proofs.Keeping.{depth_of_length}
use Rattle.vt_grace.specs.declared.sizes.Sizes.{Sizes}
use Rattle.vt_grace.specs.declared.views.WriterView.{WriterView}
use Rattle.vt_grace.specs.Places.{frame_words}
use Rattle.vt_grace.specs.Banks.{MayFill}
use Rattle.vt_streamer.specs.Fills.{HasFilled}
use Rattle.vt_streamer.specs.Views.{StreamerView}
use Rattle.vt_streamer.proofs.Filling.{content_filled, content_kept, filled_alike}
use Rattle.vt_streamer.proofs.Freeing.{free_now}
use Rattle.vt_streamer.proofs.Keeping.{kept_filled, seat_of, streamer_of}
use Rattle.vt_streamer.proofs.table_writer.TableWriter.fill.Goals as goal

pub invariant_of-self : goal.invariant_of-self
invariant_of-self c =
    let t = c.self.inside in let k = c.self.invariant in let rest = c.fill_frame.ensures.filled.rest in
    let of = seat_of _ _ _ _ _ c.self.view_is c.requires.of in let count = ap (λ (z : Sizes). z.samplers) of.sizes in
    let may = subst (λ (v : StreamerView). MayFill v.writer c.args.frame) (sym c.self.view_is) c.requires.may in
    kept_filled t.geometry t.seat c.fill_frame.new.writer t.samplers t.latest c.args.frame c.args.page t.owners.items t.entries.items t.floors.items t.unmapped.items
    record { sizes = ap (λ (w : WriterView). w.sizes) rest; journal = ap (λ (w : WriterView). w.journal) rest; entries = ap (λ (w : WriterView). w.entries) rest }
    c.fill_frame.ensures.sound (ap (λ (w : WriterView). w.floors) rest)
    (free_now t.seat.view c.args.frame (let some = of.limits.some_samplers in omega arith) k.sound.low may) k

pub returns-clause-of : goal.returns-clause-of
returns-clause-of c = streamer_of _ _ _ _ _ _ _ _ _ c.fill_frame.ensures.of (invariant_of-self c)

pub returns-clause-content : goal.returns-clause-content
returns-clause-content c =
    let t = c.self.inside in let s = c.args.self.now.shape in let tile = c.args.tile.now in let z = c.args.words.now.sizes in let h = c.requires.tile in
    let of = seat_of _ _ _ _ _ c.self.view_is c.requires.of in
    let side : c.tile-side.result ≡ s.tile = c.tile-side.ensures.tile ∙ ap (λ (v : StreamerView). v.shape.tile) c.self.view_is in
    let some : 1 ≤ s.tile = let least = c.requires.of.lawful.limits.least_tile in omega arith in
    let texels : s.tile * s.tile ≡ z.texels = sym (ap (λ (x : Sizes). x.texels) c.requires.of.sizes) in
    let count : c.tile-side.result * c.tile-side.result ≡ z.texels = ap (λ (n : ℕ). n * n) side ∙ texels in
    let depth : c.from-depth.result ≡ h.depth = c.from-depth.ensures ∙ depth_of_length s tile (6 * (c.tile-side.result * c.tile-side.result)) c.depth_in.result h some
    (ap (λ (n : ℕ). 6 * (n * n)) side) c.depth_in.ensures.wide c.depth_in.ensures.narrow in
    let full : length tile ≡ texel_length c.from-depth.result * (s.tile * s.tile) = h.full ∙ ap (λ (d : ℕ). texel_length d * (s.tile * s.tile)) (sym depth) in
    let filled = filled_alike _ _ _ _ (word_at c.from-depth.result tile) (tile_word s tile) (λ p. sym (word_is s c.from-depth.result tile p some full)) c.fill_frame.ensures.filled in
    content_filled z t.seat.view c.fill_frame.new.writer.view c.args.frame (tile_word s tile) of.sizes
    (let low = c.requires.frame_inside in let frames = ap (λ (x : Sizes). x.frames) c.requires.of.sizes in omega arith)
    (c.fill_frame.ensures.sound.texels ∙ ap (λ (x : Sizes). x.frames * x.texels) c.fill_frame.ensures.of.sizes)
    (subst (λ (n : ℕ). HasFilled t.seat.view c.fill_frame.new.writer.view c.args.frame (tile_word s tile) n) count filled)
    ∙ ap (λ (n : ℕ). map (tile_word s tile) (range_with_len 0 n)) (sym texels)

pub returns-clause-other_contents : goal.returns-clause-other_contents
returns-clause-other_contents c f low other =
    let t = c.self.inside in let s = c.args.self.now.shape in let z = c.args.words.now.sizes in
    let of = seat_of _ _ _ _ _ c.self.view_is c.requires.of in
    let side : c.tile-side.result ≡ s.tile = c.tile-side.ensures.tile ∙ ap (λ (v : StreamerView). v.shape.tile) c.self.view_is in
    let count : c.tile-side.result * c.tile-side.result ≡ z.texels = ap (λ (n : ℕ). n * n) side ∙ sym (ap (λ (x : Sizes). x.texels) c.requires.of.sizes) in
    let frames = ap (λ (x : Sizes). x.frames) c.requires.of.sizes in
    let old = ap (λ (v : StreamerView). v.writer) c.self.view_is in
    content_kept z t.seat.view c.fill_frame.new.writer.view c.args.frame f (word_at c.from-depth.result c.args.tile.now) of.sizes (omega arith)
    (c.self.invariant.sound.texels ∙ ap (λ (x : Sizes). x.frames * x.texels) of.sizes)
    (c.fill_frame.ensures.sound.texels ∙ ap (λ (x : Sizes). x.frames * x.texels) c.fill_frame.ensures.of.sizes) other
    (subst (λ (n : ℕ). HasFilled t.seat.view c.fill_frame.new.writer.view c.args.frame (word_at c.from-depth.result c.args.tile.now) n) count c.fill_frame.ensures.filled)
    ∙ ap (λ (w : WriterView). frame_words z w.texels f) old
