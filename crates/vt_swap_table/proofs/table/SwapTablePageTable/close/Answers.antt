use Rattle.std.proofs.Common.{Option, refl, sym, ◌∙◌, subst}
use mathlib.Core.List.{IsPrefix}
use Rattle.vt_swap.specs.Readers.{ReaderView}
use Rattle.vt_swap_table.specs.Entered.{WasEnteredBetween}
use Rattle.vt_swap_table.specs.SwapReaders.{OfReaders}
use Rattle.vt_swap_table.specs.SwapWriters.{IsKnownIf}
use Rattle.vt_swap_table.proofs.Knowing.{if_true, one_cache, own_cache, said_known, entered_among, no_later}
use Rattle.vt_swap_table.proofs.table.SwapTablePageTable.close.Goals as goal

pub is_known_to-requires : goal.is_known_to-requires
is_known_to-requires c = own_cache c.args._slots.now.elements c.args.writer.now.geometry c.args.reader.now c.args.writer.now.streamer c.in-Some.own
    c.requires.may c.requires.of c.in-Some.is

pub returns-then-not-is_broken-clause-home : goal.returns-then-not-is_broken-clause-home
returns-then-not-is_broken-clause-home c = record {
  reader = c.in-Some.own;
  has = c.in-Some.is;
  of = own_cache c.args._slots.now.elements c.args.writer.now.geometry c.args.reader.now c.args.writer.now.streamer c.in-Some.own c.requires.may c.requires.of
      c.in-Some.is;
  spares = c.requires.may.opened.spares;
}

pub returns-then-not-is_broken-clause-came : goal.returns-then-not-is_broken-clause-came
returns-then-not-is_broken-clause-came c sure =
    let v = c.args.writer.now.streamer in let own = c.in-Some.own in
    record {
      known = subst (IsKnownIf v) (sym c.in-Some.is) (
        own_cache c.args._slots.now.elements c.args.writer.now.geometry c.args.reader.now v own c.requires.may c.requires.of c.in-Some.is,
        if_true (IsPrefix own.log v.log) (IsPrefix v.log own.log) c.is_known_to.result sure c.is_known_to.ensures,
      );
      same = refl;
    }

pub returns-then-not-is_broken-clause-known : goal.returns-then-not-is_broken-clause-known
returns-then-not-is_broken-clause-known c sure note said =
    said_known c.args.writer.now.streamer c.args.reader.now.reader note (returns-then-not-is_broken-clause-came c sure).known said

pub returns-then-not-is_broken-clause-at : goal.returns-then-not-is_broken-clause-at
returns-then-not-is_broken-clause-at c sure r v was = record {
  reader = c.in-Some.own;
  has = c.in-Some.is;
  of = own_cache c.args._slots.now.elements c.args.writer.now.geometry c.args.reader.now c.args.writer.now.streamer c.in-Some.own c.requires.may c.requires.of
      c.in-Some.is;
  entered = (entered_among r.reader c.in-Some.own v
      (subst (λ (o : Option ReaderView). OfReaders (λ a b. WasEnteredBetween a b v) r.reader o) c.in-Some.is was)).0;
}

pub returns-then-not-is_broken-clause-newest : goal.returns-then-not-is_broken-clause-newest
returns-then-not-is_broken-clause-newest c sure r v was =
    let w = c.args.writer.now.streamer in let own = c.in-Some.own in
    no_later w own v (if_true (IsPrefix own.log w.log) (IsPrefix w.log own.log) c.is_known_to.result sure c.is_known_to.ensures) c.is_broken.ensures.whole
    (sym c.is_broken.ensures.broken ∙ c.if-not-is_broken.true)
    (entered_among r.reader own v (subst (λ (o : Option ReaderView). OfReaders (λ a b. WasEnteredBetween a b v) r.reader o) c.in-Some.is was)).1

pub returns-else-not-is_broken-clause-home : goal.returns-else-not-is_broken-clause-home
returns-else-not-is_broken-clause-home c =
    let o = c.requires.may.opened in
    record {
      reader = o.reader;
      has = o.has;
      of = one_cache c.args._slots.now.elements o.reader.cache c.args.writer.now.streamer.cache c.requires.of.some o.of c.requires.of.slots_are;
      spares = o.spares;
    }
