pub use Rattle.vt_definitions.specs.Depths
pub use Rattle.vt_page_table.specs.All
pub use Rattle.vt_page_table.specs.Changes
pub use Rattle.vt_page_table.specs.DrawLookups
pub use Rattle.vt_page_table.specs.Evidence
pub use Rattle.vt_page_table.specs.Fills
pub use Rattle.vt_page_table.specs.FilterLaws
pub use Rattle.vt_page_table.specs.Outcomes
pub use Rattle.vt_page_table.specs.Paths
pub use Rattle.vt_page_table.specs.PicturesTypes
pub use Rattle.vt_page_table.specs.PlanTypes
pub use Rattle.vt_page_table.specs.Readers
pub use Rattle.vt_page_table.specs.Replays
pub use Rattle.vt_page_table.specs.Rows
pub use Rattle.vt_page_table.specs.Scenes
pub use Rattle.vt_page_table.specs.Shots
pub use Rattle.vt_page_table.specs.declared as PageTableTypes
pub use Rattle.vt_schedules.specs.Rows as SchedulesRows
pub use Rattle.vt_schedules.specs.Samplers
pub use Rattle.vt_schedules.specs.SharedRows
pub use Rattle.vt_schedules.specs.declared as SchedulesTypes
pub mod DrawnRows
pub mod PassSamplers
pub mod PassTurns
