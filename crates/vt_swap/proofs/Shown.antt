-- The version that readers find who enter.
use Rattle.std.proofs.Common.{◌≡◌, ℕ, Option, Some, None, List, length, ap, ◌∙◌}
use Rattle.std.specs.Prelude.{option_map, unwrap_or, IfSome, IsSome}
use Rattle.std.proofs.lemmas.Bool.{false≢true}
use Rattle.vt_swap_steps.specs.LogTypes.log.Front.{Front}
use Rattle.vt_swap_steps.specs.declared.table.NewestTable.{NewestTable}
use Rattle.vt_swap_steps.specs.declared.table.Operation.{Operation}
use Rattle.vt_swap_steps.specs.Tables.{journal_of, IsPublished}

-- where all is published it is that of the journal
pub shown_by : {W : Type 0} (home : Option W) (table : W → NewestTable) (pending : W → List Operation) (front : Front) → IsSome home
    → IfSome home (λ w. IsPublished (table w) (pending w) front)
    → unwrap_or (option_map (λ w. (table w).version) home) 0 ≡ length (journal_of front)
shown_by None table pending front there is = absurd (false≢true there)
shown_by (Some w) table pending front there is = is.version ∙ ap length is.journal
