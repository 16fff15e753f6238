-- How many nanoseconds of work a thread is made for at least.
use Rattle.std.specs.Prelude.{ℕ}

-- how many nanoseconds of work a thread is made for at least
abbrev pub least_work : ℕ
least_work = 100000
