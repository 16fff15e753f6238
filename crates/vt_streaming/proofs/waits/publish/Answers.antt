use Rattle.std.proofs.Common.{◌≡◌, ◌+◌, ◌≤◌, ℕ, [], ap, ◌∙◌, sym, subst}
use Rattle.vt_journal.specs.Changes.{newest, IsLegalNext}
use Rattle.vt_streamer.specs.TableViews.{filled_for, filled_after, IsReady, IsTableChange}
use Rattle.vt_streamer.specs.Places.{content_of}
use Rattle.vt_streamer.specs.Views.{StreamerView, streamer_table}
use Rattle.vt_streaming.proofs.Making.{made_looked, made_published, made_both, looked_more}
use Rattle.vt_streaming.proofs.waits.publish.Goals as goal

pub try_publish-requires : goal.try_publish-requires
try_publish-requires g c =
    let i = c.loop.invariant in let r = c.requires in let change = c.args.change in
    record {
      of = i.of;
      room = subst (λ (v : StreamerView). 1 ≤ v.spare) (sym i.looked) r.room;
      within = subst (λ (v : StreamerView). IsTableChange (streamer_table v) change) (sym i.looked) r.within;
      legal = subst (λ (v : StreamerView). IsLegalNext v.shape (newest v.writer.journal) change) (sym i.looked) r.legal;
      ready = subst (λ (v : StreamerView). IsReady (streamer_table v) change) (sym i.looked) r.ready;
    }

pub loop-preserved : goal.loop-preserved
loop-preserved g c =
    let did = c.in-Err.ensures in
    record {
      of = did.of;
      looked = looked_more c.args.streamer.now c.loop.streamer c.try_publish.new.self c.loop.invariant.looked did.refused did.unchanged;
    }

pub returns-in-Ok : goal.returns-in-Ok
returns-in-Ok g c =
    let i = c.loop.invariant in let did = c.in-Ok.ensures in let change = c.args.change in
    let u = c.args.streamer.now in let v = c.loop.streamer in let w = c.try_publish.new.self in
    let texels : v.writer.texels ≡ u.writer.texels = ap (λ (x : StreamerView). x.writer.texels) i.looked in
    record {
      of = did.of;
      version = did.version;
      made = made_both [] _ [] _ u.writer v.writer w.writer (made_looked u.writer v.writer (ap (λ (x : StreamerView). x.writer) i.looked))
          (made_published v.writer w.writer change (content_of c.args.words.now.sizes u.writer.texels change) did.published
          (λ k. content_of (i.of.seen k) (texels k) change));
      filled = did.filled ∙ ap (λ (x : StreamerView). filled_after (filled_for (streamer_table x)) change) i.looked;
      shape = did.shape ∙ ap (λ (x : StreamerView). x.shape) i.looked;
      spare = subst (λ (n : ℕ). n ≤ w.spare + 1) (ap (λ (x : StreamerView). x.spare) i.looked) did.spare;
    }
