use Rattle.std.proofs.Common.{◌≡◌, ℕ, ◌∷◌, List, Some, refl, sym, ap, ◌∙◌, subst, arith}
use Rattle.std.specs.Prelude.{Contains}
use Rattle.std.proofs.lemmas.Option.{same_Some}
use Rattle.std.proofs.lemmas.List.Elements.{Contains-append_left}
use Rattle.vt_swap.specs.Caches.{Cache}
use Rattle.vt_swap.specs.Slots.{AreSlotsOf}
use Rattle.vt_swap.specs.Readers.{ReaderView}
use Rattle.vt_swap_table.proofs.table.SwapTablePageTable.enter.Goals as goal

pub returns-clause-may : goal.returns-clause-may
returns-clause-may g c s o =
    let own = c.in-Some.own in
    let is : c.args.reader.now.reader ≡ Some own = sym c.replace-own.ensures.value ∙ c.in-Some.is in
    let same : o.reader ≡ own = same_Some o.reader own (sym o.has ∙ is) in
    let did = c.see.ensures in
    record {
      opened = record {
        reader = c.see.result;
        has = refl;
        of = subst (λ (x : Cache). AreSlotsOf x c.args._slots.now.elements) (ap (λ (r : ReaderView). r.cache) same ∙ sym did.entered.more.cache) o.of;
        spares = o.spares;
      };
      version = did.version;
      entered = subst (λ (l : List ℕ). Contains l did.version) (sym did.entered.more.entered)
          (Contains-append_left (did.version ∷ did.entered.before) own.entered did.version (0, omega arith, refl));
      late = did.late;
    }
