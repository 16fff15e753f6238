use Rattle.std.proofs.Common.{refl, ap, arith}
use Rattle.vt_loading.proofs.StoreRooms.{on_ok}
use Rattle.vt_pass.specs.WordPools.{WordPool}
use Rattle.vt_pass.proofs.Kits.{samplers_home, prepared_kit}
use Rattle.vt_pass.proofs.pass_kit.PassKit.prepare.Goals as goal

pub prepare_alone-requires : goal.prepare_alone-requires
prepare_alone-requires g c = record {
  idle = (c.args.streamer.now, samplers_home g.F.File c.args._words.now c.args.streamer.now c.args.self.now c.requires.idle);
}

pub returns-clause-prepared : goal.returns-clause-prepared
returns-clause-prepared g c = on_ok c.prepare_alone.result c.prepare_alone.ensures.dealt (λ dealt.
    let rest = c.prepare_alone.ensures.rest in
    prepared_kit g.F.File c.args._words.now c.args.streamer.now c.args.self.now c.requires.idle c.reserve.new.self _ c.reserve.ensures.rest
    (record {
      streams = c.prepare.ensures.same;
      geometry = ap (λ (x : WordPool). x.geometry) rest;
      depth = ap (λ (x : WordPool). x.depth) rest;
      width = ap (λ (x : WordPool). x.width) rest;
      height = ap (λ (x : WordPool). x.height) rest;
      count = ap (λ (x : WordPool). x.count) rest;
      counts = ap (λ (x : WordPool). x.counts) rest;
      drawn = ap (λ (x : WordPool). x.drawn) rest;
    }) c.args.batch.now.elements c.requires.lawful
    (let r = c.in_ok-reserve.ensures.room in let n = c.len-entries.ensures in omega (arith, r, n)) refl refl c.in_ok-prepare.ensures.prepared dealt)
