use Rattle.std.proofs.Common.{◌≡◌, ◌*◌, ◌∙◌, ap, subst, sym, length}
use Rattle.vt_definitions.specs.Dealing.{own_count}
use Rattle.vt_sampler.specs.Samplers.{SamplerView, IsOwn, row_length}
use Rattle.vt_sampler.proofs.Sharing.{own_room}
use Rattle.vt_sampler.proofs.sampler.Sampler.row.Goals as goal

pub slice_bounds-result-end : goal.slice_bounds-result-end
slice_bounds-result-end c =
    let s = c.self.inside in
    let own : IsOwn _ c.args.y = subst (λ (v : SamplerView). IsOwn v c.args.y) (sym c.self.view_is) c.requires in
    let line : c.texel_length.result * s.width ≡ row_length s.depth s.width = ap (λ n. n * s.width) c.texel_length.ensures.value in
    let all : length c.deref.result.now ≡ own_count s.sampler s.samplers s.height * (c.texel_length.result * s.width) =
    ap length c.deref.ensures.value ∙ c.self.invariant.room ∙ ap (λ n. own_count s.sampler s.samplers s.height * n) (sym line) in
    own_room s.sampler s.samplers s.height (c.texel_length.result * s.width) c.args.y _
    (length c.deref.result.now) c.self.invariant.one_of own.inside own.own (ap (λ n. n * (c.texel_length.result * s.width)) c.turn_of.ensures.value) all
