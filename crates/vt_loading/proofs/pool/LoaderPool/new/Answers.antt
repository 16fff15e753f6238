use Rattle.std.proofs.Common.{◌≡◌, ℕ, List, refl, sym, subst, length}
use Rattle.std.specs.Prelude.{All}
use Rattle.std.proofs.lemmas.List.Elements.{All-nil}
use Rattle.vt_outside.specs.Lists.{ListView}
use Rattle.vt_tiles.specs.Format.{tile_length}
use Rattle.vt_loading.proofs.FirstStores.{known_first}
use Rattle.vt_loading.proofs.pool.LoaderPool.new.Goals as goal

pub returns : goal.returns
returns g c = record {
  pool = record {
    crew = c.requires.crew;
    depth = c.requires.depth;
    stores = c.requires.stores;
    known = known_first g.F.File _ _ _ c.args.stores.elements c.at.result.now c.requires.stores c.at.ensures c.geometry-known.ensures.store;
    buffers = subst (λ (l : List (ListView ℕ)). All (λ b. length b.elements ≡ tile_length c.args.geometry.now c.args.depth) l) (sym c.new.ensures)
        (All-nil _);
  };
  shape = refl;
  depth = refl;
  crew = refl;
  stores = refl;
}
