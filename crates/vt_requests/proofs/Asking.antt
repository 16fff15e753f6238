-- The requests of a batch are put, one after another.
use Rattle.std.proofs.Common.{◌≡◌, ℕ, ◌+◌, ◌<◌, ◌≤◌, true, List, [], ◌∷◌, ◌++◌, length, map, get_or, refl, sym, ap, ◌∙◌, subst, zero-add, length-append, arith}
use Rattle.std.specs.Prelude.{All, nat_lt, nat_eq, ◌&&◌}
use Rattle.std.proofs.lemmas.Bool.Decides.{nat_tests}
use Rattle.std.proofs.lemmas.List.{map-append}
use Rattle.std.proofs.lemmas.List.FromFn.{map-range_with_len_more}
use Rattle.std.proofs.lemmas.List.Elements.{All-nil, All-push}
use Rattle.std.proofs.lemmas.Option.{slice_get-get_or}
use Rattle.vt_table.specs.Shape.{Shape}
use Rattle.vt_table.specs.Pages.{pages_of}
use Rattle.vt_load.specs.Format.{tile_length}
use Rattle.vt_machine.specs.PlanTypes.batches.Planned.{Planned}
use Rattle.vt_load.specs.QueueTypes.items.Request.{Request}
use Rattle.vt_load.specs.QueueTypes.queue.Queue.{Queue}
use Rattle.vt_load.specs.QueueTypes.views.PassView.{PassView}
use Rattle.vt_load.specs.PassViews.{all_shares, first_view}
use Rattle.vt_load.specs.Orders.{items_of}
use Rattle.vt_load.specs.Steps.{Puts}
use Rattle.vt_load.specs.Queues.{capacity_of, WasFull}
use Rattle.vt_load.proofs.OrderLemmas.{puts_last, full_of}
use Rattle.vt_load.specs.Readings.{is_readable}
use Rattle.vt_load.specs.Results.{ticket_and_page}
use Rattle.vt_requests.specs.BatchRounds.{page_if, entry_asks, ArePut}

-- So many requests were put through a whole pass, and nothing was taken.
pub record HasPut (n : ℕ) (v : PassView Request) : Type 0 where
  pub whole : v.shares ≡ all_shares
  pub no_takes : v.took ≡ []
  pub count : length v.put ≡ n

pub put_none : (v : PassView Request) → v ≡ first_view → HasPut 0 v
put_none v e = subst (λ (u : PassView Request). HasPut 0 u) (sym e) (record { whole = refl; no_takes = refl; count = refl })

pub asked_none : (s : Shape) (d : ℕ) (batch : List Planned) (v : PassView Request) → v ≡ first_view → ArePut s d batch 0 v
asked_none s d batch v e = subst (λ (u : PassView Request). ArePut s d batch 0 u) (sym e) (record {
  whole = refl;
  no_takes = refl;
  count = refl;
  requests = refl;
  readable = All-nil (λ x. is_readable s d x ≡ true);
})

pub put_more : (n : ℕ) (v w : PassView Request) (r : Request) → HasPut n v → Puts v r w → HasPut (n + 1) w
put_more n v w r h p = let e = puts_last v w r p h.whole in record {
  whole = ap (λ (u : PassView Request). u.shares) e ∙ h.whole;
  no_takes = ap (λ (u : PassView Request). u.took) e ∙ h.no_takes;
  count = ap (λ (u : PassView Request). length u.put) e ∙ length-append v.put ((length v.put, r) ∷ []) ∙ ap (λ k. k + 1) h.count;
}

-- A queue with room is not full.
pub not_full : (q : Queue Request) (n m : ℕ) (v : PassView Request) → HasPut n v → n < m → m ≤ capacity_of q → WasFull q v → ⊥
not_full q n m v h low room full =
    let e = full_of q v full h.whole in
    let none : length v.took ≡ 0 = ap length h.no_takes in
    let count = h.count in
    absurd (omega (arith, e, none, count, low, room))

readable_so : (s : Shape) (d : ℕ) (r : Request) → r.page < pages_of s → length r.buffer.elements ≡ tile_length s d → is_readable s d r ≡ true
readable_so s d r low size =
    let a : nat_lt r.page (pages_of s) ≡ true = grind (arith, nat_tests, low) in
    let b : nat_eq (length r.buffer.elements) (tile_length s d) ≡ true = grind (arith, nat_tests, size) in
    λ i. a i && b i

pub asked_more : (s : Shape) (d : ℕ) (batch : List Planned) (n : ℕ) (v w : PassView Request) (r : Request) (e : Planned) → ArePut s d batch n v → Puts v r w
    → n < length batch → r.ticket ≡ n → r.page ≡ (get_or batch n e).page → r.page < pages_of s → length r.buffer.elements ≡ tile_length s d
    → ArePut s d batch (n + 1) w
asked_more s d batch n v w r e h p low ticket page inside size =
    let put = puts_last v w r p h.whole in
    let items : items_of w.put ≡ items_of v.put ++ r ∷ [] = ap (λ (u : PassView Request). items_of u.put) put
    ∙ map-append (λ (y : ℕ × Request). y.1) v.put ((length v.put, r) ∷ []) in
    let asks : ticket_and_page r ≡ entry_asks batch n = λ i. (ticket i, (page ∙ ap page_if (sym (slice_get-get_or batch n e low))) i) in
    record {
      whole = ap (λ (u : PassView Request). u.shares) put ∙ h.whole;
      no_takes = ap (λ (u : PassView Request). u.took) put ∙ h.no_takes;
      count = ap (λ (u : PassView Request). length u.put) put ∙ length-append v.put ((length v.put, r) ∷ []) ∙ ap (λ k. k + 1) h.count;
      requests = ap (map ticket_and_page) items ∙ map-append ticket_and_page (items_of v.put) (r ∷ [])
          ∙ (λ i. h.requests i ++ asks i ∷ []) ∙ sym (map-range_with_len_more (entry_asks batch) 0 n n (zero-add n));
      readable = subst (λ l. All (λ x. is_readable s d x ≡ true) l) (sym items)
          (All-push (λ x. is_readable s d x ≡ true) (items_of v.put) r h.readable (readable_so s d r inside size));
    }
