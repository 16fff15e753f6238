use Rattle.std.proofs.Common.{◌≡◌, None, sym, subst}
use Rattle.vt_pages.specs.Shape.{Shape}
use Rattle.vt_tiles.specs.Pages.{refusal_of}
use Rattle.vt_walk_commands.proofs.Trying.{store_written}
use Rattle.vt_walk_commands.proofs.commands.trial.make_store.Goals as goal

pub same-requires-clause-store : goal.same-requires-clause-store
same-requires-clause-store g c =
    store_written c.args.name.now c.args.chain.now c.in-Ok.geometry (g.D.File.File.bytes c.in-Ok-open.file) (g.D.Folder.files c.args.folder.now)
    (g.D.Folder.files c.write_store.new.folder) c.in-Ok-open.ensures.bytes c.in-Ok-write_store.ensures.whole c.requires.depth
    (subst (λ (s : Shape). refusal_of s ≡ None) (sym c.in-Ok.ensures.ok) c.in-Ok.ensures.limits.accepted)
