use Rattle.std.proofs.Common.{◌≡◌, ℕ, ◌<◌, List, Some, length, get_or, sym, ◌∙◌, subst, arith}
use Rattle.std.specs.Prelude.{slice_get, IsSome}
use Rattle.std.proofs.lemmas.List.{length-set}
use Rattle.std.proofs.lemmas.Option.{slice_get_within, slice_get-get_or}
use Rattle.vt_journal.specs.Shape.{Shape}
use Rattle.vt_journal.specs.Pages.{root_of}
use Rattle.vt_journal.specs.declared.changes.Change.{Change}
use Rattle.vt_journal.specs.Changes.{newest}
use Rattle.vt_pass_pool.specs.Pools.{IsOpenedSampler}
use Rattle.vt_pass_pool.proofs.Listed.{each_more, rest_same, set_other}
use Rattle.vt_pass_pool.proofs.Stills.{still_none, still_more}
use Rattle.vt_pass_pool.proofs.opening.open_samplers.Goals as goal

pub loop-i-init : goal.loop-i-init
loop-i-init g c = record {
  still = still_none g.T.PageTable c.args.table.now g.met.T.PageTable.later_none c.args.writer.now c.requires.of;
  room = λ n has. has;
  count = λ i. length c.args.samplers.now;
  out = λ k low i. slice_get c.args.samplers.now k;
  home = λ k b low is. c.requires.home k b is;
  opened = λ k a b low there is. absurd (omega (arith, low));
}

pub open_sampler-requires-clause-home : goal.open_sampler-requires-clause-home
open_sampler-requires-clause-home g c =
    let l = c.loop-i.invariant in
    let ys = c.loop-i.samplers in
    let i : ℕ = c.loop-i.i in
    let inside : i < length ys = (let t = c.loop-i-test.true in let n = l.count in omega (arith, t, n, c.loop-i.auto)) in
    let a = get_or ys i c.index-samplers-i.result in
    let at : slice_get ys i ≡ Some a = slice_get-get_or ys i c.index-samplers-i.result inside in
    let number = c.requires.numbers i a (sym (l.out i (omega arith)) ∙ at) in
    subst (λ (n : ℕ). g.T.PageTable.is_home c.loop-i.writer n a.reader) (sym number) (l.home i a (omega arith) at)

pub open_sampler-requires-clause-root : goal.open_sampler-requires-clause-root
open_sampler-requires-clause-root g c =
    let l = c.loop-i.invariant in
    subst (λ (z : List Change × Shape). IsSome (newest z.0 (root_of z.1))) (λ i. (sym l.still.journal i, sym l.still.shape i)) c.requires.root

pub loop-i-preserved : goal.loop-i-preserved
loop-i-preserved g c =
    let l = c.loop-i.invariant in
    let e = c.open_sampler.ensures in
    let xs = c.args.samplers.now in
    let ys = c.loop-i.samplers in
    let i : ℕ = c.loop-i.i in
    let a = get_or ys i c.index-samplers-i.result in
    let b = c.open_sampler.new.sampler in
    let w = c.open_sampler.new.writer in
    let table = g.T.PageTable in
    let inside : i < length ys = (let t = c.loop-i-test.true in let n = l.count in omega (arith, t, n, c.loop-i.auto)) in
    let at : slice_get ys i ≡ Some a = slice_get-get_or ys i c.index-samplers-i.result inside in
    let was : slice_get xs i ≡ Some a = sym (l.out i (omega arith)) ∙ at in
    let number : a.number ≡ i = c.requires.numbers i a was in
    record {
      still = still_more table c.args.table.now g.met.T.PageTable.later_twice c.args.writer.now c.loop-i.writer w l.still e.still;
      room = λ n has. e.room n (l.room n has);
      count = length-set ys i b ∙ l.count;
      out = rest_same xs ys i a b inside l.out;
      home = λ k v low is.
          let other : k ≡ i → ⊥ = λ eq. omega (arith, low, eq) in
          e.others k v.reader (λ eq. other (eq ∙ number)) (l.home k v (omega (arith, low)) (sym (set_other ys i k b other) ∙ is));
      opened = each_more xs ys i a b inside
          (λ k u v. IsOpenedSampler table c.args.table.now (table.shape c.args.writer.now) (length (table.journal c.args.writer.now)) k u v) was
          (subst (λ (z : Shape × ℕ × ℕ). IsOpenedSampler table c.args.table.now z.0 z.1 z.2 a b)
          (λ j. (l.still.shape j, length (l.still.journal j), number j)) e.opened) l.opened;
    }

pub returns-clause-opened : goal.returns-clause-opened
returns-clause-opened g c =
    let l = c.loop-i.invariant in
    record {
      count = l.count;
      each = λ k a b there is.
          l.opened k a b (let n = slice_get_within c.args.samplers.now k a there in let t = c.loop-i-test.false in omega (arith, n, t)) there is;
    }
