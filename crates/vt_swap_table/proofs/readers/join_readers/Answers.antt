use Rattle.std.proofs.Common.{◌≡◌, Some, [], ◌∷◌, ◌++◌, length, refl, sym, ap, ◌∙◌, subst, arith}
use Rattle.std.specs.Prelude.{All}
use Rattle.std.proofs.lemmas.List.{length_push}
use Rattle.std.proofs.lemmas.List.Elements.{All-push}
use Rattle.vt_swap_table.specs.declared.table.SwapReader.{SwapReader}
use Rattle.vt_swap_table.specs.SwapReaders.{IsReaderFor}
use Rattle.vt_swap_table.proofs.Making.{front_of, last_of, one_less}
use Rattle.vt_swap_table.proofs.readers.join_readers.Goals as goal

pub loop-preserved : goal.loop-preserved
loop-preserved c =
    let i = c.loop.invariant in
    let reader = c.in-Some.reader in
    let spare = c.in-Some-pop.spare in
    let now : SwapReader = record { reader = Some reader; spare = spare; start = 0 } in
    let all : c.push.new.self.elements ≡ c.loop.readers.elements ++ now ∷ [] = c.push.ensures.elements in
    record {
      number = (let a = i.number in let b = ap length all ∙ length_push c.loop.readers.elements now in omega (arith, a, b));
      made = one_less c.pop.new.self.elements c.loop.made.elements reader c.loop.counter c.args.count c.in-Some.ensures.some i.made;
      spares = one_less c.pop-in-loop.new.self.elements c.loop.spares.elements spare c.loop.counter c.args.count c.in-Some-pop.ensures.some i.spares;
      room = (let a = i.room in let b = c.push.ensures.spare in omega (arith, a, b));
      each = λ cache pages made spares.
          let e = i.each cache pages made spares in (
            front_of (λ r. r.cache ≡ cache) c.pop.new.self.elements c.loop.made.elements reader c.in-Some.ensures.some e.0,
            front_of (λ x. length x.items ≡ pages) c.pop-in-loop.new.self.elements c.loop.spares.elements spare c.in-Some-pop.ensures.some e.1,
            subst (All (IsReaderFor cache pages)) (sym all) (All-push (IsReaderFor cache pages) c.loop.readers.elements now e.2 (record {
              reader = reader;
              has = refl;
              of = last_of (λ r. r.cache ≡ cache) c.pop.new.self.elements c.loop.made.elements reader c.in-Some.ensures.some e.0;
              spares = last_of (λ x. length x.items ≡ pages) c.pop-in-loop.new.self.elements c.loop.spares.elements spare c.in-Some-pop.ensures.some e.1;
            })),
          );
    }

pub returns-clause-each : goal.returns-clause-each
returns-clause-each c cache pages made spares = (c.loop.invariant.each cache pages made spares).2
