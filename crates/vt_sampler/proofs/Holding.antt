-- One hold more of a sampler, and the version of one row more.
use Rattle.std.proofs.Common.{◌≡◌, ℕ, ◌+◌, ◌/◌, ◌%◌, ◌≤◌, ◌<◌, ◌⊎◌, inl, inr, List, [], ◌∷◌, ◌++◌, length, refl, sym, ap, ◌∙◌, subst, arith}
use Rattle.std.specs.Prelude.{Contains, slice_index, slice_set}
use Rattle.std.proofs.lemmas.Bool.{cases_lt}
use Rattle.std.proofs.lemmas.List.{get_or-set_same, get_or-set_other}
use Rattle.std.proofs.lemmas.List.Elements.{All-contains, All-contains_itself, Contains-append_left, Contains-append_right}
use Rattle.vt_lookup.specs.GraceTypes.views.PassView.{PassView}
use Rattle.vt_lookup.specs.PassViews.{NoneAbove}
use Rattle.vt_lookup.specs.Notes.{HasHeldMore}
use Rattle.vt_sampler.specs.Held.{WasHeld}
use Rattle.vt_definitions.proofs.Quotients.{quotient_before, apart}

-- a pass that has held nothing yet
pub none_held : (p : PassView) → HasHeldMore p p []
none_held p = record { rest = refl; notes = λ note n. n }

-- a pass that held one version more
pub held_then : (p q r : PassView) (more : List ℕ) (v : ℕ) → HasHeldMore p q more → HasHeldMore q r (v ∷ []) → HasHeldMore p r (v ∷ more)
held_then p q r more v first then =
    let held : q.held ≡ more ++ p.held = ap (λ (x : PassView). x.held) first.rest in
    record {
      rest =
          then.rest
          ∙ ap (λ (x : PassView). record x { stage = r.stage; held = v ∷ q.held; notes = r.notes; word_notes = r.word_notes }) first.rest
          ∙ (λ i. record p { stage = r.stage; held = v ∷ held i; notes = r.notes; word_notes = r.word_notes });
      notes = λ note n. then.notes note (first.notes note n);
    }

-- what was held stays held
pub was_held_then : (p q r : PassView) (u v : ℕ) → HasHeldMore q r (v ∷ []) → WasHeld p q u → WasHeld p r u
was_held_then p q r u v then was = record {
  more = v ∷ was.more;
  held = ap (λ (x : PassView). x.held) then.rest ∙ ap (λ (us : List ℕ). v ∷ us) was.held;
  among = Contains-append_right (v ∷ []) was.more u was.among;
  since = was.since;
  later = was.later;
}

none_above_rest : (v : ℕ) (us ws : List ℕ) → NoneAbove v (us ++ ws) → NoneAbove v ws
none_above_rest v us ws h = λ k d low.
    All-contains (λ x. x ≤ v) (us ++ ws) _ h (Contains-append_right us ws _ (All-contains_itself ws k d low))

-- and what is held now is held
pub was_held_now : (p q r : PassView) (more : List ℕ) (v : ℕ) → HasHeldMore p q more → HasHeldMore q r (v ∷ []) → q.given ≤ v → NoneAbove v q.held
    → WasHeld p r v
was_held_now p q r more v first then since later = record {
  more = v ∷ more;
  held = ap (λ (x : PassView). x.held) then.rest ∙ ap (λ (us : List ℕ). v ∷ us) (ap (λ (x : PassView). x.held) first.rest);
  among = (0, omega arith, refl);
  since = let given : q.given ≡ p.given = ap (λ (x : PassView). x.given) first.rest in omega arith;
  later = none_above_rest v more p.held (subst (NoneAbove v) (ap (λ (x : PassView). x.held) first.rest) later);
}

-- what was held is not above a version that is not below any that was held
pub not_above : (p q : PassView) (u v : ℕ) → NoneAbove v q.held → WasHeld p q u → u ≤ v
not_above p q u v later was =
    All-contains (λ x. x ≤ v) q.held u later (subst (λ (us : List ℕ). Contains us u) (sym was.held) (Contains-append_left was.more p.held u was.among))

-- the rows of a sampler up to one
own_cases : (n y z : ℕ) → z < y + n → z % n ≡ y % n → (z < y) ⊎ (z ≡ y)
own_cases n y z below own =
    elim (cases_lt z y) [
      | inl less ↦ inl less
      | inr past ↦ elim (cases_lt y z) [ inl more ↦ absurd (omega (arith, apart n z y (sym own) more)) | inr last ↦ inr (omega arith) ]
    ]

pub version_here : (n y turn z v : ℕ) (us : List ℕ) → y / n ≡ turn → turn < length us → z ≡ y → slice_index (slice_set us turn v) (z / n) ≡ v
version_here n y turn z v us at room same = ap (λ i. slice_index (slice_set us turn v) (i / n)) same
    ∙ ap (slice_index (slice_set us turn v)) at ∙ get_or-set_same us turn v 0 room

-- the version of a row before the one whose version is set
pub version_before : (n y turn z v : ℕ) (us : List ℕ) → y / n ≡ turn → z % n ≡ y % n → z < y
    → slice_index (slice_set us turn v) (z / n) ≡ slice_index us (z / n)
version_before n y turn z v us at own less =
    get_or-set_other us turn (z / n) v 0 (λ same. omega (arith, same, at, quotient_before n y z own less))

-- what holds of the versions of the rows so far, and of the next, holds of all
pub versions_after : (P : ℕ → ℕ → Type 0) (n y turn v : ℕ) (us : List ℕ) → y / n ≡ turn → turn < length us → P y v
    → ((z : ℕ) → z < y → z % n ≡ y % n → P z (slice_index us (z / n)))
    → (z : ℕ) → z < y + n → z % n ≡ y % n → P z (slice_index (slice_set us turn v) (z / n))
versions_after P n y turn v us at room here before z below own =
    elim (own_cases n y z below own) [
      | inl less ↦ subst (P z) (sym (version_before n y turn z v us at own less)) (before z less own)
      | inr same ↦ subst (P z) (sym (version_here n y turn z v us at room same)) (subst (λ i. P i v) (sym same) here)
    ]

-- versions that rise from row to row still do after one that is not below them
pub rising_after : (n y turn v : ℕ) (us : List ℕ) → y / n ≡ turn → turn < length us → ((z : ℕ) → z < y → z % n ≡ y % n → slice_index us (z / n) ≤ v)
    → ((x z : ℕ) → z < y → x % n ≡ y % n → z % n ≡ y % n → x ≤ z → slice_index us (x / n) ≤ slice_index us (z / n))
    → (x z : ℕ) → z < y + n → x % n ≡ y % n → z % n ≡ y % n → x ≤ z
    → slice_index (slice_set us turn v) (x / n) ≤ slice_index (slice_set us turn v) (z / n)
rising_after n y turn v us at room most rose x z below own_x own_z low =
    elim (own_cases n y z below own_z) [
      | inl less ↦
          let before : x < y = omega arith in
          omega (arith, version_before n y turn z v us at own_z less, version_before n y turn x v us at own_x before, rose x z less own_x own_z low)
      | inr same ↦
          elim (own_cases n y x (omega arith) own_x) [
            | inl before ↦ omega (arith, version_here n y turn z v us at room same, version_before n y turn x v us at own_x before, most x before own_x)
            | inr here ↦ omega (arith, version_here n y turn z v us at room same, version_here n y turn x v us at room here)
          ]
    ]
