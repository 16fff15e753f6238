-- Bytes have one flaw at most, and those with a lawful header have none of its flaws.
use Rattle.std.proofs.Common.{◌≡◌, ◌⊎◌, inl, inr, ℕ, ◌+◌, ◌*◌, ◌<◌, ◌≤◌, ◌++◌, List, length, take, drop, min, refl, sym, ap, ◌∙◌, subst, arith, append_assoc}
use Rattle.std.proofs.lemmas.Bool.{cases_lt}
use Rattle.std.proofs.lemmas.List.{take-append-drop, take-take}
use Rattle.vt_definitions.specs.Depths.{sample_at, texel_length}
use Rattle.vt_definitions.specs.Limits.{header_limit}
use Rattle.vt_ppm.specs.declared.error.PpmError.{PpmError}
use Rattle.vt_ppm.specs.declared.error.PpmError.TheVariants.{BadMagic, BadHeader, BadSize, BadMaximum, Truncated, SampleOver, Failed, NoMemory}
use Rattle.vt_ppm.specs.Format.{IsHeader, AreSameHeaders, depth_of}
use Rattle.vt_ppm.specs.Flaws.{IsHeaderFront, IsBrokenAt, HasBadMaximum, IsLawfulHeader, IsTruncated, IsSampleOver, IsFlawUpTo}
use Rattle.vt_ppm.specs.Refusals.{IsRasterRefusal}
use Rattle.vt_ppm.proofs.ImageLaws.{start_is_one, magic_of_start, same_rasters, size_is_good, maximum_is_good}

-- a front of a front is a front
pub front_of_front : (n : ℕ) (xs : List ℕ) → IsHeaderFront xs → IsHeaderFront (take n xs)
front_of_front n xs f =
    let e : take n xs ++ (drop n xs ++ f.rest) ≡ xs ++ f.rest = sym (append_assoc (take n xs) (drop n xs) f.rest)
    ∙ ap (λ ys. ys ++ f.rest) (take-append-drop n xs) in
    record {
      rest = drop n xs ++ f.rest;
      width = f.width;
      height = f.height;
      maximum = f.maximum;
      header = subst (λ ys. IsHeader ys f.width f.height f.maximum) (sym e) f.header;
    }

pub shorter_front : (b : List ℕ) (n k : ℕ) → n ≤ k → IsHeaderFront (take k b) → IsHeaderFront (take n b)
shorter_front b n k le f = subst IsHeaderFront (take-take n k b le) (front_of_front n (take k b) f)

-- no break comes before another
not_before : (b : List ℕ) (at to : ℕ) → IsBrokenAt b at → IsBrokenAt b to → at < to → ⊥
not_before b at to i j lt =
    let top : to ≤ min (length b) header_limit = elim j.breaks [ inl e ↦ omega (arith, e) | inr p ↦ omega (arith, p.0) ] in
    elim i.breaks [ inl e ↦ omega (arith, e, top, lt) | inr p ↦ p.1 (shorter_front b (at + 1) to (omega arith) j.front) ]

-- the header breaks in one place at most
pub broken_is_one : (b : List ℕ) (at to : ℕ) → IsBrokenAt b at → IsBrokenAt b to → at ≡ to
broken_is_one b at to i j = ends (not_before b at to i j) (not_before b to at j i)
  where
    ends : (at < to → ⊥) → (to < at → ⊥) → at ≡ to
    ends f g = omega arith

-- two flaws of one raster
module _ (most : ℕ) (b : List ℕ) where
  pub want_is_one : (want have other rest : ℕ) → IsTruncated most b want have → IsTruncated most b other rest → want ≡ other
  want_is_one want have other rest i j =
      let e : AreSameHeaders i.raster i.width i.height i.maximum j.raster j.width j.height j.maximum =
      start_is_one b i.raster i.width i.height i.maximum j.raster j.width j.height j.maximum i.header.sized.header j.header.sized.header in
      i.want_is ∙ same_rasters i.maximum i.width i.height j.maximum j.width j.height e.maximum e.width e.height ∙ sym j.want_is

  pub have_is_one : (want have other rest : ℕ) → IsTruncated most b want have → IsTruncated most b other rest → have ≡ rest
  have_is_one want have other rest i j =
      let e : AreSameHeaders i.raster i.width i.height i.maximum j.raster j.width j.height j.maximum =
      start_is_one b i.raster i.width i.height i.maximum j.raster j.width j.height j.maximum i.header.sized.header j.header.sized.header in
      omega (arith, e.raster, i.have_is, j.have_is)

  truncated_is_not_full : (want have at : ℕ) → IsTruncated most b want have → IsSampleOver most b at → ⊥
  truncated_is_not_full want have at i j =
      let e : AreSameHeaders i.raster i.width i.height i.maximum j.raster j.width j.height j.maximum =
      start_is_one b i.raster i.width i.height i.maximum j.raster j.width j.height j.maximum i.header.sized.header j.header.sized.header in
      short i.raster j.raster (texel_length (depth_of i.maximum) * (i.width * i.height))
      (texel_length (depth_of j.maximum) * (j.width * j.height)) e.raster
      (same_rasters i.maximum i.width i.height j.maximum j.width j.height e.maximum e.width e.height) i.want_is i.have_is i.short j.full
    where
      short : (r s n k : ℕ) → r ≡ s → n ≡ k → want ≡ n → r + have ≡ length b → have < want → s + k ≤ length b → ⊥
      short r s n k e f want_is have_is less full = omega arith

  not_over_before : (at to : ℕ) → (i : IsSampleOver most b at) → (j : IsSampleOver most b to) → i.number < j.number → ⊥
  not_over_before at to i j lt =
      let e : AreSameHeaders i.raster i.width i.height i.maximum j.raster j.width j.height j.maximum =
      start_is_one b i.raster i.width i.height i.maximum j.raster j.width j.height j.maximum i.header.sized.header j.header.sized.header in
      let here : sample_at (depth_of i.maximum) (drop i.raster b) i.number ≡ sample_at (depth_of j.maximum) (drop j.raster b) i.number =
      ap (λ m. sample_at (depth_of m) (drop i.raster b) i.number) e.maximum
      ∙ ap (λ r. sample_at (depth_of j.maximum) (drop r b) i.number) e.raster in
      over (sample_at (depth_of i.maximum) (drop i.raster b) i.number) (sample_at (depth_of j.maximum) (drop j.raster b) i.number)
      i.maximum j.maximum here e.maximum i.over (j.first i.number lt)
    where
      over : (s t m n : ℕ) → s ≡ t → m ≡ n → m < s → t ≤ n → ⊥
      over s t m n e f more few = omega arith

  pub over_is_one : (at to : ℕ) → IsSampleOver most b at → IsSampleOver most b to → at ≡ to
  over_is_one at to i j =
      let e : AreSameHeaders i.raster i.width i.height i.maximum j.raster j.width j.height j.maximum =
      start_is_one b i.raster i.width i.height i.maximum j.raster j.width j.height j.maximum i.header.sized.header j.header.sized.header in
      let number : i.number ≡ j.number = ends (not_over_before at to i j) (not_over_before to at j i) in
      i.at_is ∙ ap (λ r. r + depth_of i.maximum * i.number) e.raster ∙ ap (λ m. j.raster + depth_of m * i.number) e.maximum
      ∙ ap (λ k. j.raster + depth_of j.maximum * k) number ∙ sym j.at_is
    where
      ends : {n k : ℕ} → (n < k → ⊥) → (k < n → ⊥) → n ≡ k
      ends f g = omega arith

  -- what has a lawful header has none of the flaws of a maximum
  lawful_maximum : (r w h m : ℕ) → IsLawfulHeader most b r w h m → HasBadMaximum most b → ⊥
  lawful_maximum r w h m i bad = maximum_is_good most b r w h m i.sized i.lawful.some i.lawful.few bad

-- the line of the table in which a flaw stands
abbrev line_of : PpmError → ℕ
line_of BadMagic = 0
line_of (BadHeader at) = 1
line_of BadSize = 2
line_of BadMaximum = 3
line_of (Truncated want have) = 4
line_of (SampleOver at) = 5
line_of Failed = 6
line_of NoMemory = 7

-- of two flaws, the first in the table is the second also
in_order : (most : ℕ) (b : List ℕ) (e f : PpmError) → line_of e ≤ line_of f → IsFlawUpTo most b e → IsFlawUpTo most b f → e ≡ f
in_order most b e Failed le i j = absurd j
in_order most b e NoMemory le i j = absurd j
in_order most b Failed f le i j = absurd i
in_order most b NoMemory f le i j = absurd i
in_order most b BadMagic BadMagic le i j = refl
in_order most b BadMagic (BadHeader at) le i j = absurd (i j.0)
in_order most b BadMagic BadSize le i j = absurd (i (magic_of_start b j.raster j.width j.height j.maximum j.header))
in_order most b BadMagic BadMaximum le i j = absurd (i (magic_of_start b j.raster j.width j.height j.maximum j.sized.header))
in_order most b BadMagic (Truncated want have) le i j = absurd (i (magic_of_start b j.raster j.width j.height j.maximum j.header.sized.header))
in_order most b BadMagic (SampleOver at) le i j = absurd (i (magic_of_start b j.raster j.width j.height j.maximum j.header.sized.header))
in_order most b (BadHeader at) (BadHeader to) le i j = ap BadHeader (broken_is_one b at to i.1 j.1)
in_order most b (BadHeader at) BadSize le i j = absurd (i.1.none j.raster j.width j.height j.maximum j.header)
in_order most b (BadHeader at) BadMaximum le i j = absurd (i.1.none j.raster j.width j.height j.maximum j.sized.header)
in_order most b (BadHeader at) (Truncated want have) le i j = absurd (i.1.none j.raster j.width j.height j.maximum j.header.sized.header)
in_order most b (BadHeader at) (SampleOver to) le i j = absurd (i.1.none j.raster j.width j.height j.maximum j.header.sized.header)
in_order most b BadSize BadSize le i j = refl
in_order most b BadSize BadMaximum le i j = absurd (size_is_good most b j.raster j.width j.height j.maximum j.sized i)
in_order most b BadSize (Truncated want have) le i j = absurd (size_is_good most b j.raster j.width j.height j.maximum j.header.sized i)
in_order most b BadSize (SampleOver at) le i j = absurd (size_is_good most b j.raster j.width j.height j.maximum j.header.sized i)
in_order most b BadMaximum BadMaximum le i j = refl
in_order most b BadMaximum (Truncated want have) le i j = absurd (lawful_maximum most b j.raster j.width j.height j.maximum j.header i)
in_order most b BadMaximum (SampleOver at) le i j = absurd (lawful_maximum most b j.raster j.width j.height j.maximum j.header i)
in_order most b (Truncated want have) (Truncated other rest) le i j = ap (λ k. Truncated k have) (want_is_one most b want have other rest i j)
    ∙ ap (Truncated other) (have_is_one most b want have other rest i j)
in_order most b (Truncated want have) (SampleOver at) le i j = absurd (truncated_is_not_full most b want have at i j)
in_order most b (SampleOver at) (SampleOver to) le i j = ap SampleOver (over_is_one most b at to i j)
in_order most b e f le i j = absurd (omega (arith, le))

-- bytes have one flaw at most
pub one_flaw : (most : ℕ) (b : List ℕ) (e f : PpmError) → IsFlawUpTo most b e → IsFlawUpTo most b f → e ≡ f
one_flaw most b e f i j = elim (cases_le (line_of e) (line_of f)) [ inl le ↦ in_order most b e f le i j | inr le ↦ sym (in_order most b f e le j i) ]
  where
    cases_le : (n k : ℕ) → (n ≤ k) ⊎ (k ≤ n)
    cases_le n k = elim (cases_lt n k) [ inl lt ↦ inl (omega arith) | inr le ↦ inr le ]

-- bytes with a lawful header have no flaw but of the raster
pub no_header_flaw : (most : ℕ) (b : List ℕ) (r w h m : ℕ) (e : PpmError) → IsLawfulHeader most b r w h m → IsFlawUpTo most b e → IsRasterRefusal e
no_header_flaw most b r w h m BadMagic i bad = absurd (bad (magic_of_start b r w h m i.sized.header))
no_header_flaw most b r w h m (BadHeader at) i bad = absurd (bad.1.none r w h m i.sized.header)
no_header_flaw most b r w h m BadSize i bad = absurd (size_is_good most b r w h m i.sized bad)
no_header_flaw most b r w h m BadMaximum i bad = absurd (lawful_maximum most b r w h m i bad)
no_header_flaw most b r w h m (Truncated want have) i bad = tt
no_header_flaw most b r w h m (SampleOver at) i bad = tt
no_header_flaw most b r w h m Failed i bad = absurd bad
no_header_flaw most b r w h m NoMemory i bad = absurd bad
