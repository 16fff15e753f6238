use Rattle.vt_outside.specs.declared.answers.OutsideError.TheVariants.{Failed}
use Rattle.vt_store.proofs.LevelRows.{passed_on}
use Rattle.vt_store.proofs.WideStores.{no_less}
use Rattle.std.proofs.Common.{◌∙◌, inr, arith}
use Rattle.std.proofs.lemmas.Result.{on_ok_weaker, on_err_weaker}
use Rattle.vt_outside.proofs.UnknownContents.{OnErr-all}
use Rattle.vt_outside.proofs.Refusing.{none_made}
use Rattle.vt_mip.specs.Chains.{chain_texel}
use Rattle.vt_store.proofs.AddedPages.{whole_store, part_store}
use Rattle.vt_store.proofs.Writing.{header_of_store, begun, kept_part}
use Rattle.vt_store.proofs.write.write_rows.Goals as goal

pub returns-in_err-begin_store-clause-part : goal.returns-in_err-begin_store-clause-part
returns-in_err-begin_store-clause-part g c =
    OnErr-all _ _ (header_of_store (g.D.Folder.files c.args.folder.now) (g.D.Folder.files c.begin_store.new.folder) c.args.name.now
    c.args.geometry.now c.depth-depth.result c.args.chain.now.base.depth (chain_texel c.args.chain.now) c.depth-depth.ensures.value
    c.in_err-begin_store.ensures.part)

pub returns-in_err-room-clause-part : goal.returns-in_err-room-clause-part
returns-in_err-room-clause-part g c = OnErr-all _ _
    (inr (kept_part (g.D.Folder.files c.args.folder.now) (g.D.Folder.files c.begin_store.new.folder) c.args.name.now c.args.geometry.now
    c.args.chain.now.base.depth (chain_texel c.args.chain.now) 0 (omega arith)
    (begun (g.D.Folder.files c.args.folder.now) (g.D.Folder.files c.begin_store.new.folder) c.args.name.now c.args.geometry.now
    c.depth-depth.result c.args.chain.now.base.depth (chain_texel c.args.chain.now) c.depth-depth.ensures.value c.in_ok-begin_store.ensures.whole)))

pub returns-clause-whole : goal.returns-clause-whole
returns-clause-whole g c = on_ok_weaker c.write_pages.result
    (whole_store c.args.chain.now c.args.geometry.now c.depth-depth.result c.args.name.now (g.D.Folder.files c.args.folder.now)
    (g.D.Folder.files c.begin_store.new.folder) (g.D.Folder.files c.write_pages.new.folder) c.depth-depth.ensures.value
    c.in_ok-begin_store.ensures.whole) c.write_pages.ensures.whole

pub returns-clause-part : goal.returns-clause-part
returns-clause-part g c = on_err_weaker c.write_pages.result
    (λ adds. inr (part_store c.args.chain.now c.args.geometry.now c.depth-depth.result c.args.name.now (g.D.Folder.files c.args.folder.now)
    (g.D.Folder.files c.begin_store.new.folder) (g.D.Folder.files c.write_pages.new.folder) c.depth-depth.ensures.value
    c.in_ok-begin_store.ensures.whole adds)) c.write_pages.ensures.part

pub returns-in_err-begin_store-clause-whole : goal.returns-in_err-begin_store-clause-whole
returns-in_err-begin_store-clause-whole g c = none_made c.from_residual.result _ _ c.from_residual.ensures.1

pub returns-in_err-begin_store-clause-failed : goal.returns-in_err-begin_store-clause-failed
returns-in_err-begin_store-clause-failed g c =
    λ failed. c.begin_store.ensures.failed
    (passed_on c.begin_store.result c.from_residual.result _ Failed c.in_err-begin_store.was c.from_residual.ensures.1 failed)

pub returns-in_err-begin_store-clause-asked : goal.returns-in_err-begin_store-clause-asked
returns-in_err-begin_store-clause-asked g c = c.begin_store.ensures.asked

pub returns-in_err-begin_store-clause-faults : goal.returns-in_err-begin_store-clause-faults
returns-in_err-begin_store-clause-faults g c = c.begin_store.ensures.faults

pub returns-in_err-room-clause-whole : goal.returns-in_err-room-clause-whole
returns-in_err-room-clause-whole g c = none_made c.from_residual-in_err-room.result _ _ c.from_residual-in_err-room.ensures.1

pub returns-in_err-room-clause-asked : goal.returns-in_err-room-clause-asked
returns-in_err-room-clause-asked g c = c.begin_store.ensures.asked

pub returns-in_err-room-clause-faults : goal.returns-in_err-room-clause-faults
returns-in_err-room-clause-faults g c = c.begin_store.ensures.faults

pub returns-clause-asked : goal.returns-clause-asked
returns-clause-asked g c = c.write_pages.ensures.asked ∙ c.begin_store.ensures.asked

pub returns-clause-faults : goal.returns-clause-faults
returns-clause-faults g c = no_less _ _ _ c.begin_store.ensures.faults c.write_pages.ensures.faults

pub returns-clause-failed : goal.returns-clause-failed
returns-clause-failed g c =
    λ failed.
    let rose = c.write_pages.ensures.failed failed (g.D.Folder.files c.args.folder.now) _ c.in_ok-begin_store.ensures.whole in
    omega (arith, rose, c.begin_store.ensures.faults)

pub write_pages-requires-clause-shape : goal.write_pages-requires-clause-shape
write_pages-requires-clause-shape g c κs within = c.requires
