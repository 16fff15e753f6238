-- At which versions a sampler drew its rows.
use Rattle.std.specs.Prelude.{◌≡◌, ℕ, ◌≤◌, ◌++◌, List, [], ◌∷◌, length, All, Contains}
use Rattle.vt_swap.specs.Logs.{changes_in}
use Rattle.vt_swap.specs.Readers.{ReaderView, HasEnteredMore}

-- a version was entered between two views of a reader, and is not below any that it entered before; it is one of the journal, as far as that
-- was seen
pub record WasEnteredBetween (r q : ReaderView) (version : ℕ) : Type 0 where
  pub more : List ℕ
  pub entered : q.entered ≡ more ++ r.entered
  pub among : Contains more version
  pub later : All (λ u. u ≤ version) r.entered
  pub known : version ≤ length (changes_in q.log)

-- which versions were entered for rows of these versions, both the newest first: one for each row, and before it those at which the row was begun
-- and not drawn
abbrev pub AreEnteredFor : List ℕ → List ℕ → Type 0
AreEnteredFor [] entered = entered ≡ []
AreEnteredFor (version ∷ versions) entered =
    (begun : List ℕ) × (rest : List ℕ) × (entered ≡ version ∷ begun ++ rest) × AreEnteredFor versions rest

-- a reader entered versions for rows between two views of it, and no others: for each row anew, in their order
pub record HasEnteredRows (r q : ReaderView) (versions : List ℕ) : Type 0 where
  pub more : List ℕ
  pub entered : HasEnteredMore r q more
  pub for_rows : AreEnteredFor versions more
