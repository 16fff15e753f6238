-- The stamps of pages, by which the kept order goes: a pass, a place in it and a level, compared in this order.
use Rattle.std.specs.Prelude.{◌≡◌, ℕ, ◌+◌, ◌-◌, ◌<◌, ◌==◌, ◌&&◌, ◌||◌, ◌⊎◌, nat_lt, Bool, true, false, Option, None, Some, List, length, slice_index, slice_index_or, IsSome}
use Rattle.std.specs.List.{All, AllPairs}
use Rattle.vt_plan.specs.Shape.{Shape}
use Rattle.vt_plan.specs.Pages.{level_of, ancestors_of}
use Rattle.vt_plan.specs.FeedbackTypes.Wanted.{Wanted}
use Rattle.vt_plan.specs.Wants.{pages_wanted}
use Rattle.vt_plan.specs.declared.batches.Planned.{Planned}
use Rattle.vt_plan.specs.PageLists.{is_in}
use Rattle.vt_plan.specs.Views.{RecencyView, is_loose}

-- a stamp: the pass that gave it, its place among those of that pass, and the level of its page
pub record Stamp : Type 0 where
  pub pass : ℕ
  pub place : ℕ
  pub level : ℕ

-- a stamp is less than another: its pass is earlier, or else its place is smaller, or else its level is finer
abbrev pub is_less : Stamp → Stamp → Bool
is_less a b = nat_lt a.pass b.pass || (a.pass == b.pass && (nat_lt a.place b.place || (a.place == b.place && nat_lt a.level b.level)))

-- the stamp of each page that has one
abbrev pub Stamps : Type 0
Stamps = ℕ → Option Stamp

-- no page has a stamp
abbrev pub no_stamps : Stamps
no_stamps p = None

-- a pass: its number, the table after it, its batch, which entries were lost, and its wanted list
pub record StampedPass : Type 0 where
  pub number : ℕ
  pub after : RecencyView
  pub batch : List Planned
  pub lost : List Bool
  pub wants : List Wanted

-- the stamp that a pass gives a page at a place
abbrev pub stamp_at : StampedPass → ℕ → ℕ → Stamp
stamp_at x p place = record { pass = x.number; place = place; level = level_of x.after.shape p }

-- the entry at a place of a batch has this page, and was read
pub record IsReadAt (batch : List Planned) (lost : List Bool) (j p : ℕ) : Type 0 where
  pub inside : j < length batch
  pub read : slice_index_or lost j true ≡ false
  pub page : (d : Planned) → (slice_index_or batch j d).page ≡ p

-- a page is in the line of the one at a place of a list
pub record IsInLineAt (s : Shape) (pages : List ℕ) (i p : ℕ) : Type 0 where
  pub inside : i < length pages
  pub in_line : is_in (ancestors_of s (slice_index pages i)) p ≡ true

-- the stamp of a page that was read: greater for an earlier entry
pub record IsByEntry (x : StampedPass) (p : ℕ) (t : Stamp) : Type 0 where
  pub at : ℕ
  pub read : IsReadAt x.batch x.lost at p
  pub stamp : t ≡ stamp_at x p (length x.batch - 1 - at)

-- the stamp of an unpinned mapped page in the line of a wanted one: greater for an earlier wanted page, and than those of entries
pub record IsByWant (x : StampedPass) (p : ℕ) (t : Stamp) : Type 0 where
  pub at : ℕ
  pub in_line : IsInLineAt x.after.shape (pages_wanted x.wants) at p
  pub loose : is_loose x.after p ≡ true
  pub stamp : t ≡ stamp_at x p (length x.batch + length x.wants - 1 - at)

-- the stamps among which a page keeps the greatest: the one that it had, and those that a pass gives it
abbrev pub IsOwnStamp : Stamps → StampedPass → ℕ → Stamp → Type 0
IsOwnStamp old x p t = (old p ≡ Some t) ⊎ (IsByEntry x p t ⊎ IsByWant x p t)

-- the greatest of some stamps, if there is one
abbrev pub IsGreatest : (Stamp → Type 0) → Option Stamp → Type 0
IsGreatest Own None = (t : Stamp) → Own t → ⊥
IsGreatest Own (Some t) = Own t × ((u : Stamp) → Own u → is_less t u ≡ false)

-- the stamps after a pass: each page has the greatest of its own
abbrev pub AreAfter : Stamps → StampedPass → Stamps → Type 0
AreAfter old x new = (p : ℕ) → IsGreatest (IsOwnStamp old x p) (new p)

-- all stamps are of passes before this one
abbrev pub AreBefore : Stamps → ℕ → Type 0
AreBefore stamps n = (p : ℕ) (t : Stamp) → stamps p ≡ Some t → t.pass < n

-- a page's stamp is greater than another's
abbrev pub IsAbove : Stamps → ℕ → ℕ → Type 0
IsAbove stamps p q = (a b : Stamp) → stamps p ≡ Some a → stamps q ≡ Some b → is_less b a ≡ true

-- an order is by falling stamps: each page has one, and it is greater than that of each later page
pub record IsByStamps (stamps : Stamps) (order : List ℕ) : Type 0 where
  pub stamped : All (λ p. IsSome (stamps p)) order
  pub falling : AllPairs (IsAbove stamps) order
