-- A page that is placed, once there is room for its change.
use Rattle.std.proofs.Common.{◌≡◌, ℕ, ◌*◌, ◌++◌, inl, inr, ◌⊎◌, List, Result, Ok, Err, refl, ap, ◌∙◌, subst}
use Rattle.std.specs.Prelude.{OnOk, OnErr}
use Rattle.vt_outside.specs.declared.answers.NoMemory.{NoMemory}
use Rattle.vt_load.specs.Shape.{Shape}
use Rattle.vt_pass_pool.specs.JournalTypes.changes.Change.{Change}
use Rattle.vt_pass_pool.specs.PageTableTypes.table.PageTable.{Ghosts as TableMeanings}
use Rattle.vt_pass_pool.specs.Fills.{AreTexelWords, FillsOne}
use Rattle.vt_pass_pool.specs.Stills.{IsStill}
use Rattle.vt_pass_pool.specs.declared.shared.PassStreamer.{PassStreamer}
use Rattle.vt_pass_machine.specs.Machines.{HasPlaced}

module _ {T H R W : Type 0} (table : TableMeanings T H R W) (shared : H) (page : ℕ) (tile : List ℕ) (t : PassStreamer T H R W) (w : W)
    (still : IsStill table shared t.writer w) (home : (k : ℕ) (r : R) → table.is_home t.writer k r → table.is_home w k r) where
  pub none_placed : HasPlaced table shared page tile t (record t { writer = w })
  none_placed = record {
    rest = refl;
    of = still.of;
    shape = still.shape;
    frames = still.frames;
    filled = λ other words is. inl (still.fills other words is);
    home = home;
  }

  pub then_placed : (v : W) → table.is_of shared v → table.shape v ≡ table.shape w → table.frame_count v ≡ table.frame_count w
      → FillsOne t.depth ((table.shape w).tile * (table.shape w).tile) page tile (table.is_filled w) (table.is_filled v)
      → ((k : ℕ) (r : R) → table.is_home w k r → table.is_home v k r) → HasPlaced table shared page tile t (record t { writer = v })
  then_placed v of shape frames filled then_home = record {
    rest = refl;
    of = of;
    shape = shape ∙ still.shape;
    frames = frames ∙ still.frames;
    filled = λ other words is. by_case other words (filled other words is);
    home = λ k r was. then_home k r (home k r was);
  } where
    by_case : (other : ℕ) (words : List ℕ)
        → table.is_filled w other words ⊎ ((other ≡ page) × AreTexelWords t.depth ((table.shape w).tile * (table.shape w).tile) tile words)
        → table.is_filled t.writer other words ⊎ ((other ≡ page) × AreTexelWords t.depth ((table.shape t.writer).tile * (table.shape t.writer).tile) tile words)
    by_case other words (inl was) = inl (still.fills other words was)
    by_case other words (inr fill) = inr (
      fill.0,
      subst (λ (s : Shape). AreTexelWords t.depth (s.tile * s.tile) tile words) still.shape fill.1,
    )

-- the journal of what was placed, or was not
pub placed_from : (r : Result (Unit {0}) NoMemory) (a b c more : List Change) → a ≡ b → OnOk r (c ≡ a ++ more) → OnOk r (c ≡ b ++ more)
placed_from (Ok done) a b c more same is = is ∙ ap (λ (l : List Change). l ++ more) same
placed_from (Err refusal) a b c more same is = tt

pub same_from : (r : Result (Unit {0}) NoMemory) (a b c : List Change) → a ≡ b → OnErr r (c ≡ a) → OnErr r (c ≡ b)
same_from (Ok done) a b c same is = tt
same_from (Err refusal) a b c same is = is ∙ same
