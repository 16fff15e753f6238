use Rattle.std.proofs.Common.{◌≡◌, ℕ, ◌+◌, ◌-◌, ◌*◌, ◌<◌, ◌∙◌, ap, sym, refl, subst, arith, length, length-append, true, [], ◌∷◌, List, Bool}
use Rattle.std.specs.Prelude.{slice_index_or, All}
use Rattle.std.proofs.lemmas.Bool.{false≢true}
use Rattle.std.proofs.lemmas.List.Elements.{All-nil, All-push}
use Rattle.vt_journal.specs.Shape.{Shape}
use Rattle.vt_journal.specs.Changes.{newest}
use Rattle.vt_requests.specs.Outcomes.{IsEntryFor}
use Rattle.vt_queue.specs.declared.items.Loaded.{Loaded}
use Rattle.vt_queue.specs.Queues.{queue_view_of}
use Rattle.vt_requests.specs.Readings.{is_lost}
use Rattle.vt_requests.specs.BatchRounds.{AreLossesOf}
use Rattle.vt_requests.specs.TakenResults.{Streams, is_wanted}
use Rattle.vt_streaming.proofs.Taking.{wanted_inside, wanted_new, wanted_tile, streams_none, streams_dropped, streams_kept}
use Rattle.vt_streaming.proofs.Lasting.{begun, under_way, losses_more}
use Rattle.vt_streaming.proofs.stream.stream_results.Goals as goal

pub loop-init : goal.loop-init
loop-init g c =
    let r = c.requires in let a = r.report in let view = queue_view_of c.args.answers.now in
    let t = g.A.Target in
    let Takes = λ (x : Loaded). t.is_tile c.args.target.now (t.shape c.args.writer.now) (length x.request.buffer.elements) ≡ true in
    record {
      of = r.of;
      shape = refl;
      frames = refl;
      lasts = g.met.A.Target.lasts_none c.args.writer.now;
      answers = r.answers;
      splits = refl;
      few = omega arith;
      done = ap length a.no_results;
      results_room = (let s = a.results_room in omega (arith, s));
      streams = subst (λ (l : List Loaded). Streams (length c.args.batch.now) view view c.args.into.now.taken.elements l) (sym a.no_results)
          (streams_none (length c.args.batch.now) view c.args.into.now.taken.elements a.flags);
      losses = subst (λ (l : List Loaded). AreLossesOf c.args.batch.now l c.args.into.now.losses.elements) (sym a.no_results)
          (record {
            reported = a.losses;
            each = All-nil (λ (x : Loaded). slice_index_or c.args.into.now.losses.elements x.request.ticket true ≡ is_lost x.outcome);
          });
      tiles = subst (All Takes) (sym a.no_results) (All-nil Takes);
      under_way = λ fine. begun t c.args.target.now c.args.batch.now c.args.writer.now r.lawful c.args.into.now a r.room;
      refused = λ no. absurd (false≢true no);
    }

pub stream_result-refused-requires-clause-entry : goal.stream_result-refused-requires-clause-entry
stream_result-refused-requires-clause-entry g c fine e at =
    let x = c.take_result-loaded.result in
    let i = c.loop.invariant in
    subst (λ (z : Shape × ℕ). IsEntryFor z.0 z.1 (newest (g.A.Target.journal c.loop.writer)) e) (λ j. (sym i.shape j, sym i.frames j))
    ((i.under_way fine).ahead x.request.ticket e at
    (wanted_new (g.A.Target.is_tile c.args.target.now (g.A.Target.shape c.loop.writer)) c.loop.into.taken.elements x (sym c.is_wanted.ensures ∙ c.if-is_wanted.true)))

pub stream_result-refused-requires-clause-room : goal.stream_result-refused-requires-clause-room
stream_result-refused-requires-clause-room g c fine =
    let i = c.loop.invariant in
    let all : ℕ = length c.args.batch.now in
    let left : ℕ = all - c.loop.done in
    let more = c.if-done-batch.false in
    let n = i.done in
    g.met.A.Target.room_less c.loop.writer (2 * left) 2 (omega (arith, more)) ((i.under_way fine).left left (omega (arith, more, n)))

pub stream_result-refused-requires-clause-tile : goal.stream_result-refused-requires-clause-tile
stream_result-refused-requires-clause-tile g c =
    wanted_tile (g.A.Target.is_tile c.args.target.now (g.A.Target.shape c.loop.writer)) c.loop.into.taken.elements c.take_result-loaded.result (sym c.is_wanted.ensures ∙ c.if-is_wanted.true)

pub loop-preserved-then-is_wanted : goal.loop-preserved-then-is_wanted
loop-preserved-then-is_wanted g c =
    let i = c.loop.invariant in let took = c.take_result-loaded.ensures in let did = c.stream_result-refused.ensures in
    let t = g.A.Target in
    let laws = g.met.A.Target in
    let x = c.take_result-loaded.result in let flags : List Bool = c.loop.into.taken.elements in let all : ℕ = length c.args.batch.now in
    let is_tile : ℕ → Bool = t.is_tile c.args.target.now (t.shape c.loop.writer) in
    let wanted : is_wanted is_tile flags x ≡ true = sym c.is_wanted.ensures ∙ c.if-is_wanted.true in
    let new = wanted_new is_tile flags x wanted in
    let count : length flags ≡ all = i.streams.flags in
    let inside : x.request.ticket < all = subst (λ n. x.request.ticket < n) count (wanted_inside is_tile flags x wanted) in
    let Takes = λ (y : Loaded). t.is_tile c.args.target.now (t.shape c.args.writer.now) (length y.request.buffer.elements) ≡ true in
    let tile : Takes x = subst (λ (s : Shape). t.is_tile c.args.target.now s (length x.request.buffer.elements) ≡ true) i.shape (wanted_tile is_tile flags x wanted) in
    record {
      of = did.of;
      shape = did.shape ∙ i.shape;
      frames = did.frames ∙ i.frames;
      lasts = laws.lasts_twice c.args.writer.now c.loop.writer c.stream_result-refused.new.writer i.lasts did.lasts;
      answers = took.of.0;
      splits = took.of.1 ∙ i.splits;
      few = (let a = c.if-done-batch.false in omega (arith, a));
      done = ap length did.noted.results ∙ length-append c.loop.into.results.elements (x ∷ []) ∙ ap (λ n. n + 1) i.done;
      results_room = (let a = i.results_room in let b = did.noted.results_room in omega (arith, a, b));
      streams = subst (λ (z : List Bool × List Loaded). Streams all (queue_view_of c.args.answers.now) (queue_view_of c.take_result-loaded.new.answers) z.0 z.1)
          (λ j. (sym did.noted.taken j, sym did.noted.results j))
          (streams_kept all (queue_view_of c.args.answers.now) (queue_view_of c.loop.answers) (queue_view_of c.take_result-loaded.new.answers) flags
          c.loop.into.results.elements x i.streams took.takes inside new);
      losses = subst (λ (z : List Loaded × List Bool). AreLossesOf c.args.batch.now z.0 z.1)
          (λ j. (sym did.noted.results j, sym did.noted.losses j))
          (losses_more c.args.batch.now c.loop.into.results.elements c.loop.into.losses.elements flags x i.losses i.streams.marked new inside);
      tiles = subst (All Takes) (sym did.noted.results) (All-push Takes c.loop.into.results.elements x i.tiles tile);
      under_way = λ fine.
          under_way t c.args.target.now c.args.batch.now c.args.writer.now c.requires.lawful c.loop.writer c.stream_result-refused.new.writer
          c.args.into.now.events.elements c.loop.into c.stream_result-refused.new.into x (i.under_way (did.before fine)) new inside count
          (did.changed fine) (did.applied fine) (did.events fine) did.noted;
      refused = did.refused;
    }

pub loop-preserved : goal.loop-preserved
loop-preserved g c =
    let i = c.loop.invariant in let took = c.take_result-loaded.ensures in
    record {
      of = i.of;
      shape = i.shape;
      frames = i.frames;
      lasts = i.lasts;
      answers = took.of.0;
      splits = took.of.1 ∙ i.splits;
      few = i.few;
      done = i.done;
      results_room = i.results_room;
      streams = streams_dropped (length c.args.batch.now) (queue_view_of c.args.answers.now) (queue_view_of c.loop.answers) (queue_view_of c.take_result-loaded.new.answers)
          c.loop.into.taken.elements c.loop.into.results.elements c.take_result-loaded.result i.streams took.takes;
      losses = i.losses;
      tiles = i.tiles;
      under_way = i.under_way;
      refused = i.refused;
    }
