use Rattle.std.proofs.Common.{◌≡◌, ℕ, ◌∷◌, List, Some, length, refl, sym, ap, ◌∙◌, subst}
use Rattle.std.specs.Prelude.{Contains}
use Rattle.std.specs.Vec.{with_items}
use Rattle.std.proofs.lemmas.List.{with_items_is}
use Rattle.std.proofs.lemmas.Option.{same_Some}
use Rattle.std.proofs.lemmas.List.Elements.{Contains-append_right}
use Rattle.vt_swap.specs.LogTypes.frame.FrameKey.{FrameKey}
use Rattle.vt_swap.specs.Caches.{Cache}
use Rattle.vt_swap.specs.Slots.{AreSlotsOf}
use Rattle.vt_swap.specs.Readers.{ReaderView}
use Rattle.vt_swap_table.proofs.table.SwapTablePageTable.draw_row.Goals as goal

pub draw_row-next-requires-clause-slots : goal.draw_row-next-requires-clause-slots
draw_row-next-requires-clause-slots g c =
    let o = c.requires.may.opened in
    let own = c.in-Some.own in
    let same : o.reader ≡ own = same_Some o.reader own (sym o.has ∙ sym c.replace-own.ensures.value ∙ c.in-Some.is) in
    subst (λ (l : List FrameKey). AreSlotsOf own.cache l) (sym c.slice.ensures) (subst (λ (r : ReaderView). AreSlotsOf r.cache c.args.slots.now.elements) same o.of)

pub returns-clause-may : goal.returns-clause-may
returns-clause-may g c =
    let may = c.requires.may in let o = may.opened in
    let own = c.in-Some.own in
    let is : c.args.reader.now.reader ≡ Some own = sym c.replace-own.ensures.value ∙ c.in-Some.is in
    let same : o.reader ≡ own = same_Some o.reader own (sym o.has ∙ is) in
    let did = c.draw_row-next.ensures.entered in
    let next = c.draw_row-next.result.0 in
    let v : ℕ = c.draw_row-next.result.1 in
    let rest = c.draw_row-next.new.spare in
    let len = c.draw_row-next.auto.spare ∙ c.as_mut_slice.ensures.len in
    let spare : length (with_items c.args.reader.now.spare rest).items ≡ length c.args.reader.now.spare.items =
    ap length (with_items_is c.args.reader.now.spare rest len) ∙ len ∙ c.args.reader.now.spare.ok.0 in
    record {
      opened = record {
        reader = next;
        has = refl;
        of = subst (λ (x : Cache). AreSlotsOf x c.args.slots.now.elements) (ap (λ (r : ReaderView). r.cache) same ∙ sym did.more.cache) o.of;
        spares = spare ∙ o.spares;
      };
      version = may.version;
      entered = subst (λ (l : List ℕ). Contains l may.version) (sym did.more.entered)
          (Contains-append_right (v ∷ did.before) own.entered may.version (subst (λ (r : ReaderView). Contains r.entered may.version) same may.entered));
      late = may.late;
    }
