-- The word that has the length of a log, and of which log it is.
use Rattle.std.specs.Prelude.{◌≡◌}
use Rattle.vt_swap_log.specs.Logs.{head_of}
use Rattle.vt_swap_log.specs.declared.log.Head.{Head}
use Rattle.vt_swap_log.specs.declared.log.Front.{Front}

-- the word is the length of the log of which a beginning was seen
abbrev pub IsHeadOf : Head → Front → Type 0
IsHeadOf h f = h.word ≡ head_of f.seen.book
