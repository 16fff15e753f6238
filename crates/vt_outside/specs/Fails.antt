-- Which calls on an object in memory are to fail.
use Rattle.std.specs.Prelude.{◌==◌, ◌&&◌, Bool, false, List}
use Rattle.std.specs.List.{list_any}
use Rattle.vt_outside.specs.declared.fails.Fail.{Fail}
use Rattle.vt_outside.specs.declared.fails.Fail.TheVariants.{Open, Create, Append, Put, Length, Read}

-- two calls are the same
abbrev pub same_fail : Fail → Fail → Bool
same_fail (Open n) (Open m) = n == m
same_fail (Create n) (Create m) = n == m
same_fail (Append n) (Append m) = n == m
same_fail (Put n) (Put m) = n == m
same_fail (Length opening) (Length of) = opening == of
same_fail (Read opening n) (Read of m) = opening == of && n == m
same_fail _ _ = false

-- the call is in the list
abbrev pub is_listed : List Fail → Fail → Bool
is_listed fails call = list_any (λ f. same_fail f call) fails
