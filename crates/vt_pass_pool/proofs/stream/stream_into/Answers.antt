use Rattle.std.proofs.Common.{◌≡◌, ℕ, ◌∙◌, ap, sym, true, length}
use Rattle.std.specs.Prelude.{nat_eq}
use Rattle.std.proofs.lemmas.List.Elements.{All-weaker}
use Rattle.vt_journal.specs.Shape.{Shape}
use Rattle.vt_page_table.specs.Format.{tile_length}
use Rattle.vt_queue.specs.declared.items.Loaded.{Loaded}
use Rattle.vt_streaming.proofs.Taking.{same}
use Rattle.vt_pass_pool.proofs.Lasting.{all_streamed}
use Rattle.vt_pass_pool.proofs.stream.stream_into.Goals as goal

pub stream_results-requires : goal.stream_results-requires
stream_results-requires g c =
    let r = c.requires in
    record {
      of = record {
        of = r.of;
        depth_is = r.depth;
        size_is = c.tile_length.ensures.value ∙ ap (λ (s : Shape). tile_length s c.args.depth) (sym r.shape);
      };
      answers = r.answers;
      lawful = r.lawful;
      few = r.few;
      room = r.room;
      report = r.report;
    }

pub returns : goal.returns
returns g c =
    let did = c.stream_results.ensures in
    let size : ℕ = tile_length (g.T.PageTable.shape c.args.writer.now) c.args.depth in
    record {
      of = did.of.of;
      shape = did.shape;
      frames = did.frames;
      home = did.lasts;
      answers = did.answers;
      took = did.took;
      all = did.all;
      losses = did.losses;
      tiles = All-weaker (λ (x : Loaded). nat_eq (length x.request.buffer.elements) size ≡ true) (λ (x : Loaded). length x.request.buffer.elements ≡ size)
          (λ x is. same _ _ is) c.stream_results.new.into.results.elements did.tiles;
      streamed = λ fine. all_streamed g.T.PageTable c.args.depth c.args.batch.now c.args.writer.now g.met.T.PageTable.later_none g.met.T.PageTable.later_twice
          c.stream_results.new.into.results.elements c.stream_results.new.writer (did.applied fine);
      events = did.events;
      refused = did.refused;
    }
