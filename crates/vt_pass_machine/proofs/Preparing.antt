-- A pass is prepared and made ready.
use Rattle.std.proofs.Common.{◌≡◌, ℕ, ◌*◌, List, length, Option, sym, ap, ◌∙◌, subst}
use Rattle.vt_outside.specs.declared.outside.File.{Ghosts as FileMeanings}
use Rattle.vt_load.specs.Shape.{Shape}
use Rattle.vt_pass_pool.specs.Pages.{IsWithinLimits}
use Rattle.vt_pass_pool.specs.JournalTypes.changes.Change.{Change}
use Rattle.vt_pass_pool.specs.Changes.{newest}
use Rattle.vt_load.specs.declared.queued.Queues.{Queues}
use Rattle.vt_loading.specs.PlanTypes.batches.Planned.{Planned}
use Rattle.vt_loading.specs.MachineTypes.crew.Crew.{Crew}
use Rattle.vt_loading.specs.Machines.{known_bytes}
use Rattle.vt_loading.specs.Outcomes.{IsBatchFor}
use Rattle.vt_loading.specs.LoaderPools.{LoaderPoolView, IsSameStream, IsPreparedStream, IsAskedStream}
use Rattle.vt_loading.proofs.StoreRooms.{known_same}
use Rattle.vt_pass_pool.specs.PageTableTypes.table.PageTable.{Ghosts as TableMeanings}
use Rattle.vt_pass_pool.specs.Fills.{AreStoredPages}
use Rattle.vt_pass_pool.specs.SchedulesTypes.schedule.Schedule.{Ghosts as ScheduleMeanings}
use Rattle.vt_pass_pool.specs.declared.pool.PassPool.{PassPool}
use Rattle.vt_pass_pool.specs.Pools.{IsIdlePool, IsDealtPool, IsReadyPool}
use Rattle.vt_pass_pool.specs.Stills.{IsStill}
use Rattle.vt_pass_pool.specs.declared.shared.PassStreamer.{PassStreamer}
use Rattle.vt_pass_machine.specs.Machines.{IsIdle, IsPrepared, IsReady}

-- a pool whose readers are at home for a writer stays so
pub idle_pool : {T S H R W B O M : Type 0} (table : TableMeanings T H R W) (v w : W) (r : PassPool T S H R W B O M)
    → ((k : ℕ) (reader : R) → table.is_home v k reader → table.is_home w k reader) → IsIdlePool table v r → IsIdlePool table w r
idle_pool table v w r home idle = record {
  pool = idle.pool;
  home = λ k a is. home k a.reader (idle.home k a is);
  rows = idle.rows;
}

module _ {F T S H R W B O M : Type 0} (g : FileMeanings F) (table : TableMeanings T H R W) (schedule : ScheduleMeanings S B O M) (shared : H) where
  -- a pass is prepared, once all memory was taken for it
  pub prepared_once : (rows : B) (q : Queues) (t u : PassStreamer T H R W) (k l : LoaderPoolView F) (r s : PassPool T S H R W B O M) (batch : List Planned)
      → IsIdle g table shared t k r
      → IsBatchFor (table.shape t.writer) (table.frame_count t.writer) (newest (table.journal t.writer)) batch
      → IsStill table shared t.writer u.writer → u.geometry ≡ t.geometry → u.depth ≡ t.depth → table.has_room u.writer (2 * length batch)
      → IsSameStream g k l → IsPreparedStream g q u.answers u.report l batch → IsDealtPool table schedule u.writer rows s
      → s ≡ record r { home = s.home; samplers = s.samplers; drawn = s.drawn; lines = s.lines }
      → IsPrepared g table schedule shared rows q u l s batch
  prepared_once rows q t u k l r s batch idle lawful still geometry_is depth_is room same prepared dealt pool =
      let known : known_bytes g l.stores ≡ known_bytes g k.stores = known_same g k.stores l.stores same.stores in
      record {
        fit = record {
          of = still.of;
          shape = still.shape ∙ idle.fit.shape ∙ sym same.shape;
          geometry = geometry_is ∙ idle.fit.geometry ∙ sym same.shape;
          depth = depth_is ∙ idle.fit.depth ∙ sym same.depth;
          limits = subst IsWithinLimits (sym same.shape) idle.fit.limits;
          stored = λ page words is.
              (subst (λ (z : Shape × ℕ × Option (List ℕ)). AreStoredPages z.0 z.1 z.2 (table.is_filled t.writer))
              (λ i. (sym same.shape i, sym same.depth i, sym known i)) idle.fit.stored) page words (still.fills page words is);
        };
        prepared = prepared;
        lawful = subst (λ (z : Shape × ℕ × List Change). IsBatchFor z.0 z.1 (newest z.2) batch)
            (λ i. (sym still.shape i, sym still.frames i, sym still.journal i)) lawful;
        room = room;
        samplers = dealt;
        agree = record {
          shape = ap (λ (x : PassPool T S H R W B O M). x.geometry) pool ∙ idle.agree.shape ∙ sym same.shape;
          depth = ap (λ (x : PassPool T S H R W B O M). x.depth) pool ∙ idle.agree.depth ∙ sym same.depth;
          count = ap (λ (x : PassPool T S H R W B O M). x.count) pool ∙ idle.agree.count ∙ ap (λ (c : Crew). c.samplers) (sym same.crew);
        };
      }

  -- and is ready, once its requests were put and its readers opened
  pub ready_once : (rows : B) (q : Queues) (t u : PassStreamer T H R W) (k m : LoaderPoolView F) (r s : PassPool T S H R W B O M) (batch : List Planned)
      → IsPrepared g table schedule shared rows q t k r batch → IsStill table shared t.writer u.writer → u.geometry ≡ t.geometry → u.depth ≡ t.depth
      → ((n : ℕ) → table.has_room t.writer n → table.has_room u.writer n)
      → m ≡ record k { round = m.round } → IsAskedStream g q u.answers u.report m batch
      → IsReadyPool table schedule shared rows (length (table.journal t.writer)) s s.samplers.elements
      → s ≡ record r { samplers = s.samplers }
      → IsReady g table schedule shared rows q u m s batch
  ready_once rows q t u k m r s batch prepared still geometry_is depth_is room rest asked ready pool =
      let shape : m.shape ≡ k.shape = ap (λ (x : LoaderPoolView F). x.shape) rest in
      let depth : m.depth ≡ k.depth = ap (λ (x : LoaderPoolView F). x.depth) rest in
      let crew : m.crew ≡ k.crew = ap (λ (x : LoaderPoolView F). x.crew) rest in
      let known : known_bytes g m.stores ≡ known_bytes g k.stores = ap (λ (x : LoaderPoolView F). known_bytes g x.stores) rest in
      record {
        fit = record {
          of = still.of;
          shape = still.shape ∙ prepared.fit.shape ∙ sym shape;
          geometry = geometry_is ∙ prepared.fit.geometry ∙ sym shape;
          depth = depth_is ∙ prepared.fit.depth ∙ sym depth;
          limits = subst IsWithinLimits (sym shape) prepared.fit.limits;
          stored = λ page words is.
              (subst (λ (z : Shape × ℕ × Option (List ℕ)). AreStoredPages z.0 z.1 z.2 (table.is_filled t.writer))
              (λ i. (sym shape i, sym depth i, sym known i)) prepared.fit.stored) page words (still.fills page words is);
        };
        asked = asked;
        lawful = subst (λ (z : Shape × ℕ × List Change). IsBatchFor z.0 z.1 (newest z.2) batch)
            (λ i. (sym still.shape i, sym still.frames i, sym still.journal i)) prepared.lawful;
        room = room (2 * length batch) prepared.room;
        samplers = subst (λ (j : List Change). IsReadyPool table schedule shared rows (length j) s s.samplers.elements) (sym still.journal) ready;
        agree = record {
          shape = ap (λ (x : PassPool T S H R W B O M). x.geometry) pool ∙ prepared.agree.shape ∙ sym shape;
          depth = ap (λ (x : PassPool T S H R W B O M). x.depth) pool ∙ prepared.agree.depth ∙ sym depth;
          count = ap (λ (x : PassPool T S H R W B O M). x.count) pool ∙ prepared.agree.count ∙ ap (λ (c : Crew). c.samplers) (sym crew);
        };
      }
