-- Pictures that are written a group at a time.
use Rattle.std.proofs.Common.{◌≡◌, ℕ, ◌+◌, ◌-◌, ◌*◌, ◌<◌, ◌≤◌, List, Ok, length, subst, arith}
use Rattle.std.proofs.Math.Nat.{mul-le-mul_left}
use Rattle.vt_outside.specs.Effects.{FolderState}
use Rattle.vt_outside.specs.Expectations.{Writes}
use Rattle.vt_pictures.specs.Pictures.{expected_pictures}
use Rattle.vt_pictures.proofs.WrittenPictures.{HasPictures, no_pictures}
use Rattle.vt_store_commands.specs.declared.plain_files.PlainPictures.{PlainPictures}
use Rattle.vt_store_commands.specs.PlainFiles.{picture_file_of, file_size, ArePlainHeaders, HaveRoomFor, HoldsFiles}

-- the pictures before the first one of a group are written, the files of the group are made, and each round so far wrote a picture
pub record IsAtGroup (p : PlainPictures) (prefix : List ℕ) (round first middle : ℕ) (before after : FolderState) (front : List ℕ) : Type 0 where
  pub written : HasPictures prefix (picture_file_of p) first before after
  pub holds : HoldsFiles p first middle front
  pub went : round ≤ first
  pub goes : first < length p.path.now.cameras → first < middle

-- room for the next group
pub next_room : (p : PlainPictures) (middle end group room : ℕ) → ArePlainHeaders p → middle ≤ end → end ≤ length p.path.now.cameras → end - middle ≤ group
    → file_size p * group ≤ room → HaveRoomFor p middle end room
next_room p middle end group room has order few small fits = record {
  has = has;
  order = order;
  few = few;
  fits = let most : file_size p * (end - middle) ≤ file_size p * group = mul-le-mul_left (file_size p) small in omega (arith, most, fits);
}

pub begun : (p : PlainPictures) (prefix : List ℕ) (middle : ℕ) (s : FolderState) (front : List ℕ) → HoldsFiles p 0 middle front
    → (0 < length p.path.now.cameras → 0 < middle) → IsAtGroup p prefix 0 0 middle s s front
begun p prefix middle s front holds goes = record {
  written = no_pictures prefix (picture_file_of p) s;
  holds = holds;
  went = omega arith;
  goes = goes;
}

-- a group was written, and the next one made
pub gone_on : (p : PlainPictures) (prefix : List ℕ) (round first middle end : ℕ) (before mid after : FolderState) (front next : List ℕ)
    → IsAtGroup p prefix round first middle before mid front → round < length p.path.now.cameras
    → Writes {T = Unit {0}} (expected_pictures prefix (picture_file_of p) middle) (record { before = before; after = after }) (Ok tt)
    → HoldsFiles p middle end next → (middle < length p.path.now.cameras → middle < end)
    → IsAtGroup p prefix (round + 1) middle end before after next
gone_on p prefix round first middle end before mid after front next at less written holds goes = record {
  written = record { files = written.1; asks = written.0 };
  holds = holds;
  went = steps at.goes;
  goes = goes;
}
  where
    all : ℕ
    all = length p.path.now.cameras

    steps : (first < all → first < middle) → round + 1 ≤ middle
    steps on = let went : round ≤ first = at.went in let order : first ≤ middle = at.holds.space.order in grind (arith, on, went, order, less)

-- all are written
pub all_written : (p : PlainPictures) (prefix : List ℕ) (round first middle : ℕ) (before after : FolderState) (front : List ℕ)
    → IsAtGroup p prefix round first middle before after front → length p.path.now.cameras ≤ round
    → Writes {T = Unit {0}} (expected_pictures prefix (picture_file_of p) (length p.path.now.cameras)) (record { before = before; after = after }) (Ok tt)
all_written p prefix round first middle before after front at over =
    let last : first ≡ length p.path.now.cameras =
    let went : round ≤ first = at.went in let order : first ≤ middle = at.holds.space.order in let few : middle ≤ length p.path.now.cameras = at.holds.space.few in
    omega (arith, went, order, few, over) in
    let h = subst (λ (n : ℕ). HasPictures prefix (picture_file_of p) n before after) last at.written in (h.asks, h.files)
