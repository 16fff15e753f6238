-- What a loop of writes has appended so far, and what a loop of reads has consumed.
use Rattle.std.proofs.Common.{◌≡◌, ℕ, ◌+◌, ◌-◌, ◌≤◌, List, ◌++◌, Option, length, take, drop, slice_range, sym, ap, ◌∙◌, subst, arith, append_assoc, take-append-drop, le_refl, drop_at, length-take-le}
use Rattle.std.proofs.lemmas.List.{take_rest}
use Rattle.std.proofs.lemmas.Slice.{take-put_mid_below}
use borrow.Rule.Slice.PartMut.{put_mid, post_of}
use lib.Seq.{take-add, take-append-le}
use Rattle.std.proofs.Math.Seq.{take-append_seam}
use Rattle.std.specs.Io.KnownBytes.{Appends, Keeps}
use Rattle.std.proofs.KnownBytes.{Appends-trans, Appends-kept}

-- a prefix of all, by its length
pub front_part : (a b : Option (List ℕ)) (all done rest : List ℕ) → all ≡ done ++ rest → Appends a b done → (k : ℕ) × Appends a b (take k all)
front_part a b all done rest split appended =
    (length done, subst (Appends a b) (sym (ap (take (length done)) split ∙ take-append_seam done rest)) appended)

-- the front grows by the first n of the rest
pub longer_front : (all done rest : List ℕ) (n : ℕ) → all ≡ done ++ rest → all ≡ (done ++ take n rest) ++ drop n rest
longer_front all done rest n split = split ∙ ap (λ l. done ++ l) (sym (take-append-drop n rest)) ∙ sym (append_assoc done (take n rest) (drop n rest))

-- a longer prefix of all
pub longer_part : (a b c : Option (List ℕ)) (all done rest : List ℕ) (n : ℕ) → all ≡ done ++ rest → Appends a b done
    → Appends b c (take n rest) → (k : ℕ) × Appends a c (take k all)
longer_part a b c all done rest n split first next =
    front_part a c all (done ++ take n rest) (drop n rest) (longer_front all done rest n split) (Appends-trans a b c done (take n rest) first next)

-- a prefix that stayed
pub kept_part : (a b c : Option (List ℕ)) (all done rest : List ℕ) → all ≡ done ++ rest → Appends a b done → Keeps b c → (k : ℕ) × Appends a c (take k all)
kept_part a b c all done rest split first kept = front_part a c all done rest split (Appends-kept a b c done first kept)

-- the same, with the rest as a slice gives it
pub sliced_front : (all done rest : List ℕ) (n : ℕ) → all ≡ done ++ rest → all ≡ (done ++ take n rest) ++ take (length rest - n) (drop n rest)
sliced_front all done rest n split = longer_front all done rest n split ∙ ap (λ l. (done ++ take n rest) ++ l) (sym (take_rest rest n))

take_split : (a b : ℕ) (old new : List ℕ) → a ≤ b → take a new ≡ take a old → take a old ++ slice_range new a b ≡ take b new
take_split a b old new h front =
    let same : a + (b - a) ≡ b = omega arith in
    ap (λ l. l ++ slice_range new a b) (sym front) ∙ sym (take-add a (b - a) new) ∙ ap (λ n. take n new) same

slice_range-put_mid : (a k n : ℕ) (xs ys : List ℕ) → a ≤ length xs → n ≤ length ys → slice_range (put_mid a k xs ys) a (a + n) ≡ take n ys
slice_range-put_mid a k n xs ys within fits =
    let same : (a + n) - a ≡ n = omega arith in
    let after = post_of a k xs in
    ap (take ((a + n) - a)) (drop_at (take a xs) (ys ++ after) a (length-take-le a xs within))
    ∙ ap (λ m. take m (ys ++ after)) same ∙ take-append-le n ys after fits

-- what is at the front of a buffer stays there where a part behind it is written
pub kept_front : (a k : ℕ) (buf part : List ℕ) → a ≤ length buf → take a (put_mid a k buf part) ≡ take a buf
kept_front a k buf part within = take-put_mid_below _ _ _ _ _ (le_refl _) within

-- and the front grows by the first n of that part
pub filled_front : (a k n : ℕ) (buf part : List ℕ) → a ≤ length buf → n ≤ length part → take a buf ++ take n part ≡ take (a + n) (put_mid a k buf part)
filled_front a k n buf part within fits =
    ap (λ l. take a buf ++ l) (sym (slice_range-put_mid a k n buf part within fits))
    ∙ take_split a (a + n) buf (put_mid a k buf part) (omega arith) (kept_front a k buf part within)
