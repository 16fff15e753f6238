use Rattle.std.proofs.Common.{◌≡◌, ℕ, List, ◌+◌, ◌-◌, ◌*◌, ◌++◌, take, drop, sym, ap, ap₂, ◌∙◌, arith, rules}
use Rattle.std.specs.Prelude.{MatchOption}
use Rattle.std.proofs.lemmas.List.{take-append-drop}
use Rattle.vt_ppm.specs.Format.{AreUpTo, depth_of}
use Rattle.vt_ppm.specs.Samples.{IsFirstOver}
use Rattle.vt_ppm.proofs.SampleParts.{none_over, early_over, late_over}
use Rattle.vt_ppm.proofs.parts.+first_over_in_parts+fn-first_over_in_parts-join+arg2+fn-first_over_in_parts-join+arg3.Goals as goal

-- two parts of a list
in_parts : (n : ℕ) (xs a b : List ℕ) → a ≡ take n xs → b ≡ drop n xs → xs ≡ a ++ b
in_parts n xs a b front back = sym (ap₂ (λ (u v : List ℕ). u ++ v) front back ∙ take-append-drop n xs)

pub returns-in-Some : goal.returns-in-Some
returns-in-Some g t c =
    let m = c.args.maximum in
    let n = c.share-low.result in
    let a = c.split_at.result.0.now in
    let b = c.split_at.result.1.now in
    let cut = c.split_at.ensures in
    let early : MatchOption c.join-early.result.0 (AreUpTo (depth_of m) m n a) (IsFirstOver (depth_of m) m n a) = search rules in
    early_over (depth_of m) m n (c.args.count - n) c.args.count c.args.raster.now a b (cut.front_len ∙ ap (λ (d : ℕ). d * n) c.depth_of.ensures.value)
    (in_parts (c.depth_of.result * n) c.args.raster.now a b cut.front cut.back) (omega (arith, c.share-low.ensures)) c.in-Some.number (rw c.in-Some.is at early)

pub returns-in-Some-late : goal.returns-in-Some-late
returns-in-Some-late g t c =
    let m = c.args.maximum in
    let n = c.share-low.result in
    let k = c.args.count - n in
    let a = c.split_at.result.0.now in
    let b = c.split_at.result.1.now in
    let cut = c.split_at.ensures in
    let early : MatchOption c.join-early.result.0 (AreUpTo (depth_of m) m n a) (IsFirstOver (depth_of m) m n a) = search rules in
    let late : MatchOption c.join-early.result.1 (AreUpTo (depth_of m) m k b) (IsFirstOver (depth_of m) m k b) = search rules in
    late_over (depth_of m) m n k c.args.count c.args.raster.now a b (cut.front_len ∙ ap (λ (d : ℕ). d * n) c.depth_of.ensures.value)
    (in_parts (c.depth_of.result * n) c.args.raster.now a b cut.front cut.back) (omega (arith, c.share-low.ensures)) c.in-Some-late.number
    (rw c.in-None.is at early) (rw c.in-Some-late.is at late)

pub returns-in-None-late : goal.returns-in-None-late
returns-in-None-late g t c =
    let m = c.args.maximum in
    let n = c.share-low.result in
    let k = c.args.count - n in
    let a = c.split_at.result.0.now in
    let b = c.split_at.result.1.now in
    let cut = c.split_at.ensures in
    let early : MatchOption c.join-early.result.0 (AreUpTo (depth_of m) m n a) (IsFirstOver (depth_of m) m n a) = search rules in
    let late : MatchOption c.join-early.result.1 (AreUpTo (depth_of m) m k b) (IsFirstOver (depth_of m) m k b) = search rules in
    none_over (depth_of m) m n k c.args.count c.args.raster.now a b (cut.front_len ∙ ap (λ (d : ℕ). d * n) c.depth_of.ensures.value)
    (in_parts (c.depth_of.result * n) c.args.raster.now a b cut.front cut.back) (omega (arith, c.share-low.ensures))
    (rw c.in-None.is at early) (rw c.in-None-late.is at late)
