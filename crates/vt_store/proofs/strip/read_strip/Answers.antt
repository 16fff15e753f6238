use Rattle.std.proofs.Common.{◌≡◌, ℕ, ◌*◌, true, false, refl, ap, arith}
use Rattle.vt_pages.specs.Pages.{columns_at}
use Rattle.vt_store.proofs.OneStep.{is_lost}
use Rattle.vt_store.proofs.StripLevels.{strip_low}
use Rattle.vt_store.proofs.StripTiles.{is_strip}
use Rattle.vt_store.proofs.StripSteps.{asked_at, rows_of_known}
use Rattle.vt_store.proofs.strip.read_strip.Goals as goal

pub overflow_mul-y : goal.overflow_mul-y
overflow_mul-y g c =
    let low = strip_low c.args.geometry.now c.args.strip (omega (arith, c.tile-side.ensures.limits.least_tile)) c.requires.next.inside in
    let along : c.args.strip * c.tile-side.result ≡ c.args.strip * c.args.geometry.now.tile = ap (λ (n : ℕ). c.args.strip * n) c.tile-side.ensures.tile in
    omega (arith, low, along, c.tile-side.ensures.limits.most_height)

pub overflow_sub-height : goal.overflow_sub-height
overflow_sub-height g c =
    let low = strip_low c.args.geometry.now c.args.strip (omega (arith, c.tile-side.ensures.limits.least_tile)) c.requires.next.inside in
    let along : c.args.strip * c.tile-side.result ≡ c.args.strip * c.args.geometry.now.tile = ap (λ (n : ℕ). c.args.strip * n) c.tile-side.ensures.tile in
    omega (arith, low, along, c.height.ensures.height)

pub read_rows-requires-clause-inside : goal.read_rows-requires-clause-inside
read_rows-requires-clause-inside g c κs within =
    let is = is_strip c.args.geometry.now c.args.chain.now.header c.args.chain.now.tile c.args.strip c.tile-side.result
    (c.args.strip * c.tile-side.result) c.height.result c.min-count.result (columns_at c.args.geometry.now 0) c.requires.next.shape
    c.tile-side.ensures.limits c.requires.next.inside c.tile-side.ensures.tile c.height.ensures.height refl c.min-count.ensures
    refl in
    omega (arith, is.ends, is.height)

pub read_rows-requires-clause-room : goal.read_rows-requires-clause-room
read_rows-requires-clause-room g c κs within =
    let is = is_strip c.args.geometry.now c.args.chain.now.header c.args.chain.now.tile c.args.strip c.tile-side.result
    (c.args.strip * c.tile-side.result) c.height.result c.min-count.result (columns_at c.args.geometry.now 0) c.requires.next.shape
    c.tile-side.ensures.limits c.requires.next.inside c.tile-side.ensures.tile c.height.ensures.height refl c.min-count.ensures
    refl in
    omega (arith, is.ends, is.height, is.place, c.requires.next.taken, c.requires.next.height)

pub read_rows-requires-clause-spare : goal.read_rows-requires-clause-spare
read_rows-requires-clause-spare g c κs within = c.requires.next.spare

pub returns-clause-read : goal.returns-clause-read
returns-clause-read g c =
    let is = is_strip c.args.geometry.now c.args.chain.now.header c.args.chain.now.tile c.args.strip c.tile-side.result
    (c.args.strip * c.tile-side.result) c.height.result c.min-count.result (columns_at c.args.geometry.now 0) c.requires.next.shape
    c.tile-side.ensures.limits c.requires.next.inside c.tile-side.ensures.tile c.height.ensures.height refl c.min-count.ensures
    refl in
    let h = c.args.chain.now.header in
    record {
      read = asked_at h c.args.geometry.now.tile c.args.strip (c.args.strip * c.tile-side.result) c.min-count.result false
          (g.F.File.asked c.args.chain.now.file) (g.F.File.asked c.read_rows.new.chain.file) is.place is.counts c.in_ok-read_rows.ensures.read.asked;
      texture = c.read_rows.ensures.read.texture;
      rows = rows_of_known (g.F.File.bytes c.args.chain.now.file) h c.args.geometry.now.tile c.args.strip (c.args.strip * c.tile-side.result)
          c.min-count.result c.read_rows.new.rows is.place is.counts c.in_ok-read_rows.ensures.read.read;
      halves = c.read_rows.ensures.half.halves;
      taken = c.read_rows.ensures.half.taken;
      depth = c.read_rows.ensures.half.depth;
      width = c.read_rows.ensures.half.width;
      height = c.read_rows.ensures.half.height;
    }

pub returns-in_err-read_rows-clause-read : goal.returns-in_err-read_rows-clause-read
returns-in_err-read_rows-clause-read g c =
    let is = is_strip c.args.geometry.now c.args.chain.now.header c.args.chain.now.tile c.args.strip c.tile-side.result
    (c.args.strip * c.tile-side.result) c.height.result c.min-count.result (columns_at c.args.geometry.now 0) c.requires.next.shape
    c.tile-side.ensures.limits c.requires.next.inside c.tile-side.ensures.tile c.height.ensures.height refl c.min-count.ensures
    refl in
    is_lost _ _ c.from_residual.result _ c.from_residual.ensures.1
    (record {
      read = asked_at c.args.chain.now.header c.args.geometry.now.tile c.args.strip (c.args.strip * c.tile-side.result) c.min-count.result true
          (g.F.File.asked c.args.chain.now.file) (g.F.File.asked c.read_rows.new.chain.file) is.place is.counts c.in_err-read_rows.ensures.read.asked;
      rose = c.in_err-read_rows.ensures.read.failed refl;
    })

pub returns-clause-kept : goal.returns-clause-kept
returns-clause-kept g c = c.read_rows.ensures.read.kept

pub returns-in_err-read_rows-clause-kept : goal.returns-in_err-read_rows-clause-kept
returns-in_err-read_rows-clause-kept g c = c.read_rows.ensures.read.kept

pub returns-clause-spare : goal.returns-clause-spare
returns-clause-spare g c = c.read_rows.ensures.read.spare

pub returns-in_err-read_rows-clause-spare : goal.returns-in_err-read_rows-clause-spare
returns-in_err-read_rows-clause-spare g c = c.read_rows.ensures.read.spare
