-- One row among the samples of a picture.
use Rattle.std.proofs.Common.{◌++◌, take, drop, ◌≡◌, ◌≢◌, ℕ, ◌+◌, ◌*◌, ◌<◌, ◌≤◌, ◌==◌, inl, inr, Bool, true, false, T, eqb→eq, List, length, refl, sym, ap, ◌∙◌, subst, arith}
use Rattle.std.proofs.lemmas.List.{append-nil}
use Rattle.std.proofs.Math.Seq.{take-length}
use Rattle.std.proofs.Math.ListN.{drop_of_length-le}
use Rattle.std.proofs.lemmas.Nat.{mul-le}
use Rattle.std.proofs.lemmas.Bool.{cases_lt}
use Rattle.std.proofs.lemmas.Slice.{between-put_mid}
use borrow.Rule.Slice.PartMut.{put_mid}
use Rattle.vt_table.proofs.Rooms.{before_mid, behind_mid}
use Rattle.vt_replay_rows.specs.ReplayLookups.{bytes_row}

-- a list that was written through a slice of all of it
pub written_back : (len : ℕ) (new old : List ℕ) → length new ≡ len → length old ≡ len → take len (new ++ drop (length new) old) ≡ new
written_back len new old full same =
    let past : length old ≤ length new = omega arith in
    ap (λ (bs : List ℕ). take len (new ++ bs)) (drop_of_length-le old past)
    ∙ ap (take len) (append-nil new) ∙ ap (λ (n : ℕ). take n new) (sym full) ∙ take-length new

pub row_room : (y height line room : ℕ) → y < height → room ≡ height * line → y * line + line ≤ room
row_room y height line room low size = let m = mul-le (y + 1) line height line (omega (arith, low)) (omega arith) in omega (arith, size, m)

-- the row that was written
pub row_written : (wide line y k height : ℕ) (old new : List ℕ) → wide ≡ line → y < height → length old ≡ height * line → length new ≡ line
    → bytes_row wide (put_mid (y * line) k old new) y ≡ new
row_written wide line y k height old new same low size full =
    let room = row_room y height line (length old) low size in
    ap (λ (n : ℕ). bytes_row n (put_mid (y * line) k old new) y) same
    ∙ between-put_mid (y * line) k old new (y * line + line) (omega (arith, room)) (omega (arith, full))

-- and another one
pub row_other : (wide line y z k height : ℕ) (old new : List ℕ) → wide ≡ line → y < height → length old ≡ height * line → length new ≡ line → k ≡ line
    → z ≢ y → bytes_row wide (put_mid (y * line) k old new) z ≡ bytes_row wide old z
row_other wide line y z k height old new same low size full count other =
    let room = row_room y height line (length old) low size in
    ap (λ (n : ℕ). bytes_row n (put_mid (y * line) k old new) z) same ∙
    elim (cases_lt z y) [
      | inl before ↦
          let m = mul-le (z + 1) line y line (omega (arith, before)) (omega arith) in
          before_mid (y * line) k old new (z * line) (z * line + line) (omega (arith, room)) (omega arith) (omega (arith, m))
      | inr past ↦
          let m = mul-le (y + 1) line z line (omega (arith, past, other)) (omega arith) in
          behind_mid (y * line) k old new (z * line) (z * line + line) (omega (arith, room)) (omega (arith, full, count)) (omega (arith, m, count))
    ]
    ∙ sym (ap (λ (n : ℕ). bytes_row n old z) same)

-- two numbers that are not the same are told apart
pub told_apart : (p q : ℕ) → p ≢ q → (p == q) ≡ false
told_apart p q other = pick (p == q) refl where
  pick : (b : Bool) → (p == q) ≡ b → (p == q) ≡ false
  pick true same = absurd (other (eqb→eq p q (subst T (sym same) tt)))
  pick false is = is
