use Rattle.std.proofs.Common.{arith, sym, ap, ◌∙◌, subst}
use Rattle.vt_grace.specs.Seats.{Sat, writer_at}
use Rattle.vt_grace.specs.Giving.{giving, aimed}
use Rattle.vt_grace.specs.WriterViews.{is_out}
use Rattle.vt_grace.specs.Sound.{IsSound}
use Rattle.vt_grace.specs.Values.{WriterValue}
use Rattle.vt_grace.proofs.WriterSteps.{sees_writer}
use Rattle.vt_grace.proofs.GivingSteps.{gives_at, sound_giving}
use Rattle.vt_grace.proofs.tokens.WriterSeat.give_pass.Goals as goal

pub split_seat-seat-requires : goal.split_seat-seat-requires
split_seat-seat-requires c = let counts = c.words.invariant in let key = sym counts.1 in let more = ap (λ v. v.sizes.samplers) c.words.view_is in let count = ap (λ z. z.samplers) key in let inside = c.requires.inside in let wide = counts.0 in
    let of = c.look.ensures.of in let view = c.look.ensures.view in let same = c.self.view_is in (
      ap (λ v. v.table) same ∙ (of.table ∙ sym (ap (λ v. v.table) c.words.view_is)),
      omega arith,
      gives_at _ _ c.args.sampler _ _ c.self.invariant.0 (ap (λ v. v.view.sizes) same ∙ (of.sizes ∙ (sym (ap (λ v. v.sizes) c.words.view_is) ∙ key))) (ap (λ v. aimed v.view.looks) same ∙ ap (λ w. aimed w.looks) view) (omega arith)
          (ap (λ v. is_out v.view c.args.sampler) same ∙ (ap (λ w. is_out w c.args.sampler) view ∙ c.requires.absent)),
    )

pub returns-clause-sound : goal.returns-clause-sound
returns-clause-sound c =
    let now = c.split_seat-seat.ensures.2 ∙ ap (λ (m : Sat). let x : Sat = (giving m.0, m.1) in x) c.self.invariant.0 in
    subst IsSound (sym (sees_writer _ _ now).1) (sound_giving _ (aimed (writer_at c.self.inside.seat).looks) (subst (λ (v : WriterValue). IsSound v.view) (sym c.self.view_is) c.look.ensures.sound))
