use Rattle.std.proofs.Common.{◌≡◌, Option, Some, sym, ap, ◌∙◌, subst}
use Rattle.std.proofs.lemmas.Option.{same_Some}
use Rattle.vt_word_notes.specs.Views.{StreamerView}
use Rattle.vt_sampler.specs.Values.{PassValue}
use Rattle.vt_word_table.specs.WordReaders.{IsNotedIf, HeldAt}
use Rattle.vt_word_table.specs.WordWriters.{CameHomeIf}
use Rattle.vt_word_table.proofs.Homes.{return_taken, came_home, now_known, was_back, held_among, not_later}
use Rattle.vt_word_table.proofs.table.WordTablePageTable.close.Goals as goal

pub returns-clause-later : goal.returns-clause-later
returns-clause-later c = return_taken c.args.streamer.now.writer c.take_back.new.self.writer c.in-Some.pass.view
    (ap (λ (x : StreamerView). x.writer) c.take_back.ensures.taken)

pub returns-clause-came : goal.returns-clause-came
returns-clause-came c sure =
    let p = c.in-Some.pass in
    let is : c.args.reader.now.pass ≡ Some p = sym c.replace-pass.ensures.value ∙ c.in-Some.is in
    let may = c.requires.may in
    let same = same_Some may.pass p (sym may.has ∙ is) in
    subst (CameHomeIf c.args.streamer.now.writer c.take_back.new.self.writer c.args._number) (sym is)
    (came_home c.args.streamer.now.writer c.take_back.new.self.writer p.view (ap (λ (x : StreamerView). x.writer) c.take_back.ensures.taken) c.args._number
    (ap (λ (x : PassValue). x.view.sampler) (sym same) ∙ may.own))

pub returns-clause-known : goal.returns-clause-known
returns-clause-known c sure note said =
    let p = c.in-Some.pass in
    let is : c.args.reader.now.pass ≡ Some p = sym c.replace-pass.ensures.value ∙ c.in-Some.is in
    now_known c.args.streamer.now.writer c.take_back.new.self.writer p.view (ap (λ (x : StreamerView). x.writer) c.take_back.ensures.taken) note
    (subst (λ (o : Option PassValue). IsNotedIf o note) is said)

pub returns-clause-at : goal.returns-clause-at
returns-clause-at c sure r v was =
    let p = c.in-Some.pass in
    let is : c.args.reader.now.pass ≡ Some p = sym c.replace-pass.ensures.value ∙ c.in-Some.is in
    let may = c.requires.may in
    let same = same_Some may.pass p (sym may.has ∙ is) in
    was_back c.args.streamer.now.writer c.take_back.new.self.writer p.view (ap (λ (x : StreamerView). x.writer) c.take_back.ensures.taken) c.args._number v
    (ap (λ (x : PassValue). x.view.sampler) (sym same) ∙ may.own)
    (held_among r.pass p v (subst (λ (o : Option PassValue). HeldAt r.pass o v) is was))

pub returns-clause-newest : goal.returns-clause-newest
returns-clause-newest c sure r v was =
    not_later c.take_back.new.self.writer c.args._number v c.take_back.ensures.of.sound (returns-clause-at c sure r v was)
