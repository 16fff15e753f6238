use Rattle.std.proofs.Common.{◌≡◌, ◌<◌, List, sym, ap, ◌∙◌, subst, arith, length, get_or}
use Rattle.std.proofs.lemmas.List.{with_items_is, get_or_read}
use Rattle.vt_table.specs.JournalTypes.changes.Change.{Change}
use Rattle.vt_table.specs.Changes.{newest, IsFree}
use Rattle.vt_table.proofs.Versions.{in_turn-legal}
use Rattle.vt_grace.specs.declared.sizes.Sizes.{Sizes}
use Rattle.vt_grace.specs.declared.views.WriterView.{WriterView}
use Rattle.vt_streamer.specs.Looks.{IsFirstBehind}
use Rattle.vt_streamer.specs.Frees.{IsUnmappedBy, IsFreeSince}
use Rattle.vt_streamer.specs.Views.{StreamerView}
use Rattle.vt_streamer.proofs.Freeing.{may_fill, unmapped_by, was_mapped}
use Rattle.vt_streamer.proofs.Keeping.{kept_alike, alike_looked}
use Rattle.vt_streamer.proofs.table_writer.TableWriter.try_free.Goals as goal

pub invariant_of-self : goal.invariant_of-self
invariant_of-self c =
    let t = c.self.inside in
    let floors = with_items_is t.floors c.reach_all.new.floors (c.reach_all.auto.floors ∙ c.as_mut_slice-floors.ensures.len) in
    kept_alike t.geometry t.seat c.reach_all.new.writer t.samplers t.latest t.owners.items t.entries.items t.floors.items _ t.unmapped.items
    (alike_looked _ _ c.reach_all.ensures.looked) c.reach_all.ensures.sound (floors ∙ c.reach_all.ensures.floors) c.self.invariant

pub invariant_of-self-2 : goal.invariant_of-self-2
invariant_of-self-2 c =
    let t = c.self.inside in
    let floors = with_items_is t.floors c.reach_all.new.floors (c.reach_all.auto.floors ∙ c.as_mut_slice-floors.ensures.len) in
    kept_alike t.geometry t.seat c.reach_all.new.writer t.samplers t.latest t.owners.items t.entries.items t.floors.items _ t.unmapped.items
    (alike_looked _ _ c.reach_all.ensures.looked) c.reach_all.ensures.sound (floors ∙ c.reach_all.ensures.floors) c.self.invariant

pub returns-clause-may : goal.returns-clause-may
returns-clause-may c =
    let t = c.self.inside in let k = c.self.invariant in let back = sym c.self.view_is in
    let inside = subst (λ (v : StreamerView). c.args.frame < length v.owners) back c.requires.inside in
    let number : c.index-least.result.now ≡ get_or t.unmapped.items c.args.frame 0 =
    get_or_read t.unmapped.items c.args.frame c.index-least.result.now (let all = k.all_since in omega arith) c.index-least.ensures 0 in
    let unused = subst (λ (v : StreamerView). IsFree (newest v.writer.journal) c.args.frame) back c.requires.free in
    let free : IsFreeSince t.seat.view.journal c.args.frame c.index-least.result.now =
    subst (IsFreeSince t.seat.view.journal c.args.frame) (sym number) (k.free c.args.frame inside unused) in
    let looked = c.reach_all.ensures.looked.rest in
    let count : c.reach_all.new.writer.view.sizes.samplers ≡ t.samplers = ap (λ (w : WriterView). w.sizes.samplers) looked ∙ ap (λ (z : Sizes). z.samplers) k.sizes in
    may_fill c.reach_all.new.writer.view c.args.frame c.index-least.result.now
    (subst (λ (js : List Change). IsFreeSince js c.args.frame c.index-least.result.now) (sym (ap (λ (w : WriterView). w.journal) looked)) free)
    (λ j low. c.in_default.ensures.reached j (omega arith))

pub returns-in-Some-clause-waiting : goal.returns-in-Some-clause-waiting
returns-in-Some-clause-waiting c =
    let t = c.self.inside in let k = c.self.invariant in let back = sym c.self.view_is in
    let inside = subst (λ (v : StreamerView). c.args.frame < length v.owners) back c.requires.inside in
    let number : c.index-least.result.now ≡ get_or t.unmapped.items c.args.frame 0 =
    get_or_read t.unmapped.items c.args.frame c.index-least.result.now (let all = k.all_since in omega arith) c.index-least.ensures 0 in
    let unused = subst (λ (v : StreamerView). IsFree (newest v.writer.journal) c.args.frame) back c.requires.free in
    let free : IsFreeSince t.seat.view.journal c.args.frame c.index-least.result.now =
    subst (IsFreeSince t.seat.view.journal c.args.frame) (sym number) (k.free c.args.frame inside unused) in
    let first = c.in-Some.ensures.waiting in (
      c.index-least.result.now,
      subst (λ (v : StreamerView). IsUnmappedBy v.writer.journal c.args.frame c.index-least.result.now) c.self.view_is
          (unmapped_by t.seat.view.journal c.args.frame c.index-least.result.now c.in-Some.waiting.holds first.behind.below free),
      subst (λ (v : StreamerView). IsFirstBehind v.writer c.reach_all.new.writer.view c.index-least.result.now c.in-Some.waiting.sampler c.in-Some.waiting.holds)
          c.self.view_is first,
    )

pub returns-in-Some-clause-never : goal.returns-in-Some-clause-never
returns-in-Some-clause-never c = let cause = returns-in-Some-clause-waiting c in let lawful = c.requires.of.lawful in λ never.
    absurd (was_mapped c.args.self.now.writer.journal c.args.frame cause.0 (in_turn-legal c.args.self.now.shape c.args.self.now.writer.journal lawful.legal) cause.1 never)
