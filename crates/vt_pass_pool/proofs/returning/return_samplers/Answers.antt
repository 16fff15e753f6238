use Rattle.std.proofs.Common.{◌≡◌, ℕ, ◌<◌, inl, inr, Some, length, take, get_or, sym, ◌∙◌, subst, arith}
use Rattle.std.specs.Prelude.{slice_get, All}
use Rattle.std.proofs.lemmas.Bool.{false≢true}
use Rattle.std.proofs.lemmas.List.{length-set}
use Rattle.std.proofs.lemmas.Option.{slice_get_within, slice_get-get_or}
use Rattle.vt_journal.specs.Shape.{Shape}
use Rattle.vt_pass_pool.specs.Pools.{IsSameSampler, ways_of}
use Rattle.vt_pass_pool.specs.Placing.{IsRowInside}
use Rattle.vt_pass_pool.specs.Returned.{IsClosed}
use Rattle.vt_pass_pool.proofs.Listed.{one_more, each_more, rest_same, map_take_more}
use Rattle.vt_pass_pool.proofs.Stills.{still_none, still_more}
use Rattle.vt_pass_pool.proofs.Placement.{placed_none, placed_more}
use Rattle.vt_pass_pool.proofs.Closing.{closed_since, closed_stays}
use Rattle.vt_pass_pool.proofs.returning.return_samplers.Goals as goal

pub loop-i-init : goal.loop-i-init
loop-i-init g c = record {
  still = still_none g.T.PageTable c.args.table.now g.met.T.PageTable.later_none c.args.writer.now c.requires.of;
  rows = c.requires.rows;
  count = λ i. length c.args.samplers.now;
  out = λ k low i. slice_get c.args.samplers.now k;
  same = λ k a b low there is. absurd (omega (arith, low));
  home = λ k b low is. absurd (omega (arith, low));
  closed = λ known k a b low there is. absurd (omega (arith, low));
  gathered = λ height line count firsts was. was;
  placed = placed_none c.args.drawn.now;
  refused = λ no. absurd (false≢true (sym no));
}

pub return_sampler-told-requires-clause-may : goal.return_sampler-told-requires-clause-may
return_sampler-told-requires-clause-may g c =
    let l = c.loop-i.invariant in
    let ys = c.loop-i.samplers in
    let i : ℕ = c.loop-i.i in
    let inside : i < length ys = (let t = c.loop-i-test.true in let n = l.count in omega (arith, t, n, c.loop-i.auto)) in
    let a = get_or ys i c.index-samplers-i.result in
    let at : slice_get ys i ≡ Some a = slice_get-get_or ys i c.index-samplers-i.result inside in
    subst (λ (s : Shape). g.T.PageTable.may_draw c.args.table.now s a.number a.reader) (sym l.still.shape)
    (c.requires.out i a (sym (l.out i (omega arith)) ∙ at)).may

pub return_sampler-told-requires-clause-way : goal.return_sampler-told-requires-clause-way
return_sampler-told-requires-clause-way g c =
    let l = c.loop-i.invariant in
    let ys = c.loop-i.samplers in
    let i : ℕ = c.loop-i.i in
    let inside : i < length ys = (let t = c.loop-i-test.true in let n = l.count in omega (arith, t, n, c.loop-i.auto)) in
    let a = get_or ys i c.index-samplers-i.result in
    let at : slice_get ys i ≡ Some a = slice_get-get_or ys i c.index-samplers-i.result inside in
    (c.requires.out i a (sym (l.out i (omega arith)) ∙ at)).way

pub return_sampler-told-requires-clause-inside : goal.return_sampler-told-requires-clause-inside
return_sampler-told-requires-clause-inside g c =
    let l = c.loop-i.invariant in
    let ys = c.loop-i.samplers in
    let i : ℕ = c.loop-i.i in
    let inside : i < length ys = (let t = c.loop-i-test.true in let n = l.count in omega (arith, t, n, c.loop-i.auto)) in
    let a = get_or ys i c.index-samplers-i.result in
    let at : slice_get ys i ≡ Some a = slice_get-get_or ys i c.index-samplers-i.result inside in
    subst (λ (n : ℕ). All (IsRowInside n) a.kept.elements) (sym l.placed.number) (c.requires.out i a (sym (l.out i (omega arith)) ∙ at)).inside

pub loop-i-preserved : goal.loop-i-preserved
loop-i-preserved g c =
    let l = c.loop-i.invariant in
    let e = c.return_sampler-told.ensures in
    let xs = c.args.samplers.now in
    let ys = c.loop-i.samplers in
    let i : ℕ = c.loop-i.i in
    let a = get_or ys i c.index-samplers-i.result in
    let b = c.return_sampler-told.new.sampler in
    let v = c.args.writer.now in
    let w = c.return_sampler-told.new.writer in
    let table = g.T.PageTable in
    let met = g.met.T.PageTable in
    let shared = c.args.table.now in
    let inside : i < length ys = (let t = c.loop-i-test.true in let n = l.count in omega (arith, t, n, c.loop-i.auto)) in
    let at : slice_get xs i ≡ Some a = sym (l.out i (omega arith)) ∙ slice_get-get_or ys i c.index-samplers-i.result inside in
    let number : a.number ≡ i = (c.requires.out i a at).number_is in
    record {
      still = still_more table shared met.later_twice v c.loop-i.writer w l.still e.still;
      rows = e.rows;
      count = length-set ys i b ∙ l.count;
      out = rest_same xs ys i a b inside l.out;
      same = each_more xs ys i a b inside (λ k x y. IsSameSampler x y) at e.same l.same;
      home = one_more xs ys i a b inside (λ k y. table.is_home w k y.reader) (subst (λ (n : ℕ). table.is_home w n b.reader) number e.home)
          (λ k y low is. e.others k y (l.home k y low is));
      closed = λ known. each_more xs ys i a b inside (λ k x y. IsClosed table v w x y) at
          (closed_since table shared met.later_none met.came_within a b v c.loop-i.writer w l.still (e.closed (c.both-known.ensures.second known)))
          (λ k x y low there is. closed_stays table shared met.later_none met.came_within x y v c.loop-i.writer w met.knows_later met.was_later e.still
          (l.closed (c.both-known.ensures.first known) k x y low there is));
      gathered = λ height line count firsts was. subst (λ owns. g.S.Schedule.has_gathered c.args.rows.now height line count firsts owns
          c.return_sampler-told.new.home)
          (sym (map_take_more (λ s. s.own) xs i a at)) (e.gathered height line count firsts (ways_of (take i xs)) (l.gathered height line count firsts was));
      placed = placed_more xs i a c.args.drawn.now c.loop-i.drawn c.return_sampler-told.new.drawn at l.placed e.placed;
      refused = λ no. elim (c.both-known.ensures.neither no) [ inl first ↦ l.refused first | inr second ↦ e.refused second ];
    }

pub returns-clause-same : goal.returns-clause-same
returns-clause-same g c =
    let l = c.loop-i.invariant in
    record {
      count = l.count;
      each = λ k a b there is. l.same k a b (let n = slice_get_within c.args.samplers.now k a there in let t = c.loop-i-test.false in omega (arith, n, t)) there is;
    }

pub returns-clause-home : goal.returns-clause-home
returns-clause-home g c k b is =
    let l = c.loop-i.invariant in
    l.home k b (let n = slice_get_within c.loop-i.samplers k b is in let t = c.loop-i-test.false in let m = l.count in omega (arith, n, t, m)) is

pub returns-clause-closed : goal.returns-clause-closed
returns-clause-closed g c known k a b there is =
    let l = c.loop-i.invariant in
    l.closed known k a b (let n = slice_get_within c.args.samplers.now k a there in let t = c.loop-i-test.false in omega (arith, n, t)) there is
