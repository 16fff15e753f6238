use Rattle.std.proofs.Common.{◌≡◌, ◌≢◌, ℕ, Bool, true, false, Some, arith}
use Rattle.std.specs.Bool.{MatchBool}
use Rattle.vt_pages.specs.Shape.{Shape}
use Rattle.vt_pages.specs.Pages.{root_of}
use Rattle.vt_journal.specs.Changes.{Table, newest}
use Rattle.vt_streaming.specs.Outcomes.{IsVictimOf}
use Rattle.vt_tests_words.proofs.Small.{root_is_4}
use Rattle.vt_tests_words.proofs.streamer.lawful.is_victim.Goals as goal

victim_if : (b : Bool) (s : Shape) (m : Table) (frame page : ℕ) → page ≢ root_of s → MatchBool b (m page ≡ Some frame) (m page ≢ Some frame)
    → MatchBool b (IsVictimOf s m frame page) (Unit {0})
victim_if true s m frame page other is = record { mapped = is; no_root = other }
victim_if false s m frame page other is = tt

pub returns-then-page-lt4 : goal.returns-then-page-lt4
returns-then-page-lt4 c =
    let root = root_is_4 _ _ _ c.requires in let low = c.if-page-lt4.true in
    victim_if c.is_mapped_to.result c.args.streamer.now.shape (newest c.args.streamer.now.writer.journal) c.args.frame c.args.page
    (λ e. absurd (omega (arith, e, root, low))) c.is_mapped_to.ensures
