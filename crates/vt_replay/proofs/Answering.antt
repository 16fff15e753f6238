-- What a replay leaves, by the answer of its passes.
use Rattle.std.proofs.Common.{◌≡◌, ℕ, inr, List, Option, Some, Result, Ok, Err, refl}
use Rattle.std.specs.Prelude.{IfOk}
use Rattle.vt_outside.specs.Files.{Files}
use Rattle.vt_outside.specs.declared.answers.OutsideError.{OutsideError}
use Rattle.vt_pages.specs.Shape.{Shape}
use Rattle.vt_camera.specs.Paths.{PathView}
use Rattle.vt_journal.specs.JournalText.{Content}
use Rattle.vt_replay.specs.Outcomes.{IsReplayable, LeavesReplay, replay_answer}
use Rattle.vt_replay.specs.Playing.{HasWritten}
use Rattle.vt_replay_rows.specs.Trying.{Under}
use Rattle.vt_replay.specs.Replayed.{pictures_of, expected_replay}
use Rattle.vt_replay.specs.declared.error.ReplayError.{ReplayError}

pub leaves_played : (under : Under) (s : Shape) (d : ℕ) (known : Option (List ℕ)) (path : PathView) (text prefix : List ℕ) (content : Content)
    (before after : Option Files) (played : Result ℕ OutsideError) → IsReplayable s path text content
    → IfOk played (λ n. n ≡ pictures_of content.passes)
    → ((b : List ℕ) → known ≡ Some b → HasWritten (expected_replay under s d b path prefix content) before after played)
    → LeavesReplay under s d known path text prefix before after (replay_answer played)
leaves_played under s d known path text prefix content before after (Ok n) is count wrote = (content, is, count, wrote)
leaves_played under s d known path text prefix content before after (Err OutsideError.Failed) is count wrote = inr (content, is, wrote)
leaves_played under s d known path text prefix content before after (Err OutsideError.NoMemory) is count wrote = inr (content, is, wrote)

pub played_failed : (played : Result ℕ OutsideError) → replay_answer played ≡ Err ReplayError.Failed → played ≡ Err OutsideError.Failed
played_failed (Ok n) e = cc
played_failed (Err OutsideError.Failed) e = refl
played_failed (Err OutsideError.NoMemory) e = cc
