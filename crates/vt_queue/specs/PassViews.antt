-- What a pass of a queue knows, and how passes are split and joined.
use Rattle.std.specs.Prelude.{◌≡◌, ℕ, ◌+◌, ◌-◌, ◌/◌, ◌^◌, List, [], ◌∷◌, ◌++◌}
use Rattle.vt_queue.specs.declared.views.PassView.{PassView}

-- The view of these shares, with what it knows, put and took.
abbrev pub pass_view : {I : Type 0} → ℕ → List (ℕ × I) → List (ℕ × I) → List (ℕ × I) → PassView I
pass_view shares known put took = record { shares = shares; known = known; put = put; took = took }

-- All shares that there are; a pass with all of them is whole.
abbrev pub all_shares : ℕ
all_shares = 2 ^ 60

-- Of so many shares and splits of a pass one goes to a pass that is split off from it.
abbrev pub split_part : ℕ
split_part = 1024

-- The view of a new queue's pass: it is whole, and nothing was put or taken.
abbrev pub first_view : {I : Type 0} → PassView I
first_view = pass_view all_shares [] [] []

-- The view that is left of a pass which was joined to another.
abbrev pub spent_view : {I : Type 0} → PassView I
spent_view = pass_view 0 [] [] []

-- A pass that was split keeps what it knows, put and took, and most of its shares.
abbrev pub kept_view : {I : Type 0} → PassView I → PassView I
kept_view v = pass_view (v.shares - 1 - (v.shares - 2) / split_part) v.known v.put v.took

-- A pass that was split off has put and taken nothing; it knows what the other knew and had put.
abbrev pub given_view : {I : Type 0} → PassView I → PassView I
given_view v = pass_view (1 + (v.shares - 2) / split_part) (v.known ++ v.put) [] []

-- Of one pass two were made: together they have its shares, the first has all else, and the second knows what was put.
pub record Splits {I : Type 0} (v first second : PassView I) : Type 0 where
  pub shares : first.shares + second.shares ≡ v.shares
  pub keeps : first ≡ pass_view first.shares v.known v.put v.took
  pub knows : second ≡ pass_view second.shares (v.known ++ v.put) [] []

-- Two passes as one: the shares, what was known, put and taken of both.
abbrev pub joined : {I : Type 0} → PassView I → PassView I → PassView I
joined v w = pass_view (v.shares + w.shares) (v.known ++ w.known) (v.put ++ w.put) (v.took ++ w.took)

-- A pass to which all of a list were joined, the last one first.
abbrev pub all_joined : {I : Type 0} → PassView I → List (PassView I) → PassView I
all_joined v [] = v
all_joined v (w ∷ ws) = joined (all_joined v ws) w

-- The shares of a list of passes.
abbrev pub shares_of : {I : Type 0} → List (PassView I) → ℕ
shares_of [] = 0
shares_of (v ∷ vs) = v.shares + shares_of vs
