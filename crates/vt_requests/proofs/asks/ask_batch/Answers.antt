use Rattle.std.proofs.Common.{arith, ◌≡◌, ◌+◌, ◌<◌, ◌∙◌, ap, sym, subst, refl, length, length-append, None, [], ◌∷◌}
use Rattle.std.proofs.lemmas.Option.{slice_get-get_or}
use Rattle.vt_table.specs.Pages.{pages_of}
use Rattle.vt_load.specs.Format.{tile_length}
use Rattle.vt_load.specs.Queues.{queue_view_of}
use Rattle.vt_machine.specs.PlanTypes.batches.Planned.{Planned}
use Rattle.vt_load.proofs.Dealing.{popped_all}
use Rattle.vt_requests.specs.BatchRounds.{ArePut, page_if}
use Rattle.vt_requests.proofs.Asking.{put_none, asked_none, put_more, not_full, asked_more}
use Rattle.vt_requests.proofs.asks.ask_batch.Goals as goal

pub loop-ticket-init : goal.loop-ticket-init
loop-ticket-init g c = let r = c.requires in record {
  of = (r.of, refl);
  put = put_none _ r.new;
  count = omega arith;
  room = omega arith;
  asked = λ s d _ _. asked_none s d c.args.batch.now _ r.new;
  sizes = λ _ sizes. sizes;
}

pub request_for-request-requires : goal.request_for-request-requires
request_for-request-requires g c = record {
  inside = (let test = c.loop-ticket-test.true in omega (arith, test));
  few = c.requires.few;
  some = (let a = c.loop-ticket.invariant.count in let b = c.requires.buffers in let low = c.loop-ticket-test.true in omega (arith, a, b, low));
}

pub put_next-requires : goal.put_next-requires
put_next-requires g c =
    let test = c.loop-ticket-test.true in
    let low : c.loop-ticket.ticket < length c.args.batch.now = omega (arith, test) in
    record {
      of = c.loop-ticket.invariant.of.0;
      room = not_full c.args.requests.now c.loop-ticket.ticket (length c.args.batch.now) (queue_view_of c.loop-ticket.asks) c.loop-ticket.invariant.put low
          c.requires.room;
    }

pub loop-ticket-preserved : goal.loop-ticket-preserved
loop-ticket-preserved g c =
    let i = c.loop-ticket.invariant in
    let batch = c.args.batch.now in
    let ticket = c.loop-ticket.ticket in
    let test = c.loop-ticket-test.true in
    let low : ticket < length batch = omega (arith, test) in
    let is = c.request_for-request.ensures in
    let all = c.loop-ticket.buffers.elements in
    let rest = c.request_for-request.new.buffers.elements in
    let one = c.request_for-request.result.buffer in
    let puts = c.put_next.ensures.puts in
    let blank : Planned = record { page = 0; frame = 0; victim = None } in
    let long : length all ≡ length rest + 1 = ap length is.buffer ∙ length-append rest (one ∷ []) in
    record {
      of = (c.put_next.ensures.of.0, c.put_next.ensures.of.1 ∙ i.of.1);
      put = put_more ticket (queue_view_of c.loop-ticket.asks) (queue_view_of c.put_next.new.asks) _ i.put puts;
      count = (let a = i.count in omega (arith, a, long));
      room = (let a = i.room in let b = is.room in omega (arith, a, b));
      asked = λ s d pages sizes.
          let page = is.page ∙ ap page_if (slice_get-get_or batch ticket blank low) in
          asked_more s d batch ticket (queue_view_of c.loop-ticket.asks) (queue_view_of c.put_next.new.asks) _ blank (i.asked s d pages sizes) puts low is.ticket page
          (subst (λ p. p < pages_of s) (sym page) (pages ticket blank low))
          (popped_all (λ b. length b.elements ≡ tile_length s d) all rest one is.buffer (i.sizes (tile_length s d) sizes)).1;
      sizes = λ n sizes. (popped_all (λ b. length b.elements ≡ n) all rest one is.buffer (i.sizes n sizes)).0;
    }

pub returns : goal.returns
returns g c =
    let i = c.loop-ticket.invariant in
    let low = c.loop-ticket.auto.ticket-end in
    let high = c.loop-ticket-test.false in
    let all : c.loop-ticket.ticket ≡ length c.args.batch.now = omega (arith, low, high) in
    record {
      of = i.of;
      asked = λ s d pages sizes. subst (λ n. ArePut s d c.args.batch.now n (queue_view_of c.loop-ticket.asks)) all (i.asked s d pages sizes);
      left = i.sizes;
      count = ap (λ n. length c.loop-ticket.buffers.elements + n) (sym all) ∙ i.count;
      room = i.room ∙ ap (λ n. c.args.buffers.now.spare + n) all;
    }
