-- What a pass draws, and what it loads meanwhile.
use Rattle.std.specs.Prelude.{ℕ, List}
use Rattle.vt_pictures.specs.DrawTypes.shots.Shot.{Shot}
use Rattle.vt_pictures.specs.Scenes.{Scene, scene_of}
use Rattle.vt_evict.specs.PlanTypes.batches.Planned.{Planned}

-- the work of a pass: a picture of a scene, by its number, and the batch that is streamed
pub record Job : Type 0 where
  pub scene : Scene
  pub picture : ℕ
  pub batch : List Planned

-- the job of a shot and a batch
abbrev pub job_of : Shot → List Planned → Job
job_of shot batch = record { scene = scene_of shot.geometry.now shot.depth shot.path.now; picture = shot.picture; batch = batch }
