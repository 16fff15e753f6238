use Rattle.std.proofs.Common.{◌≡◌, ◌+◌, [], ◌∷◌, length, length-append, Option, refl, sym, ap, ◌∙◌, subst, arith}
use Rattle.std.specs.Prelude.{All, OnSome, option_map}
use Rattle.std.proofs.lemmas.List.Elements.{All-push}
use Rattle.vt_outside.specs.Files.{Asked, Files, bytes_at}
use Rattle.vt_walk.specs.Opening.{IsFresh}
use Rattle.vt_walk.proofs.Opened.{opened_more}
use Rattle.vt_walk.proofs.loaders.open_into.Goals as goal

pub loop-i-preserved : goal.loop-i-preserved
loop-i-preserved g c =
    let i = c.loop-i.invariant in
    let fresh = IsFresh g.D.File.File c.args.geometry.now c.args.depth c.args.name.now (g.D.Folder.asked c.args.folder.now)
    (bytes_at (g.D.Folder.files c.args.folder.now) c.args.name.now) in
    let new : fresh c.same.result = subst fresh (sym c.same.ensures) (record {
      shape = refl;
      depth = refl;
      bytes = c.in_ok-file.ensures.bytes ∙ ap (λ (files : Option Files). bytes_at files c.args.name.now) i.kept.files;
      no_places = c.in_ok-file.ensures.no_places ∙ ap (λ (asked : Option Asked). option_map (λ _. []) asked) i.kept.asked;
      named = subst (λ (asked : Option Asked). OnSome asked (g.D.File.File.name c.in_ok-file.file ≡ c.args.name.now)) i.kept.asked
          c.in_ok-file.ensures.name;
      no_faults = c.in_ok-file.ensures.no_faults;
    }) in
    let more : length c.push.new.self.elements ≡ length c.loop-i.stores.elements + 1 =
    ap length c.push.ensures.elements ∙ length-append c.loop-i.stores.elements (c.same.result ∷ []) in
    record {
      fresh = subst (All fresh) (sym c.push.ensures.elements) (All-push fresh c.loop-i.stores.elements c.same.result i.fresh new);
      count = (let a = i.count in omega (arith, a, more));
      room = (let a = i.room in let b = c.push.ensures.spare in omega (arith, a, b));
      kept = opened_more g.D.Folder _ _ _ i.kept c.open.ensures.files c.open.ensures.asked c.open.ensures.faults;
    }

pub returns-in_err-file-clause-fresh : goal.returns-in_err-file-clause-fresh
returns-in_err-file-clause-fresh g c = c.loop-i.invariant.fresh

pub returns-clause-fresh : goal.returns-clause-fresh
returns-clause-fresh g c = c.loop-i.invariant.fresh

pub returns-in_err-reserve-clause-kept : goal.returns-in_err-reserve-clause-kept
returns-in_err-reserve-clause-kept g c = record { files = refl; asked = refl; faults = omega arith }

pub returns-in_err-file-clause-kept : goal.returns-in_err-file-clause-kept
returns-in_err-file-clause-kept g c =
    opened_more g.D.Folder _ _ _ c.loop-i.invariant.kept c.open.ensures.files c.open.ensures.asked c.open.ensures.faults

pub returns-clause-kept : goal.returns-clause-kept
returns-clause-kept g c = c.loop-i.invariant.kept
