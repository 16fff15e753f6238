-- The first line of a text that names a picture outside a path, found from the top.
use Rattle.std.proofs.Common.{◌≡◌, ℕ, ◌+◌, ◌-◌, ◌<◌, ◌≤◌, inl, inr, List, [], ◌∷◌, ◌++◌, length, take, drop, Some, sym, ap, ◌∙◌, subst, append_assoc, length-append, arith}
use Rattle.std.specs.Prelude.{slice_get}
use Rattle.std.proofs.lemmas.Bool.{cases_lt}
use Rattle.vt_text.specs.Lines.{lines_of}
use Rattle.vt_journal.proofs.Versions.{slice_get-front, slice_get-seam, slice_get-push}
use Rattle.vt_replay.specs.Flaws.{BeginsOutside, NamesOutside}

-- the lines before a place name no such picture, and the next line has this number
pub record IsScanned (pictures : ℕ) (text : List ℕ) (at number : ℕ) : Type 0 where
  pub done : List (List ℕ)
  pub cut : lines_of text ≡ done ++ lines_of (drop at text)
  pub count : number ≡ length done + 1
  pub within : at ≤ length text
  pub few : number ≤ at + 1
  pub none : (k : ℕ) (line : List ℕ) → slice_get done k ≡ Some line → BeginsOutside pictures line → ⊥

pub scan_more : (pictures : ℕ) (text : List ℕ) (at number end : ℕ) → IsScanned pictures text at number
    → lines_of (drop at text) ≡ take (end - at) (drop at text) ∷ lines_of (drop (end + 1) text) → at ≤ end → end < length text
    → (BeginsOutside pictures (take (end - at) (drop at text)) → ⊥) → IsScanned pictures text (end + 1) (number + 1)
scan_more pictures text at number end h cut low high inside =
    let line = take (end - at) (drop at text) in
    let count = h.count in
    let few = h.few in
    record {
      done = h.done ++ line ∷ [];
      cut = h.cut ∙ ap (λ (ls : List (List ℕ)). h.done ++ ls) cut ∙ sym (append_assoc h.done (line ∷ []) (lines_of (drop (end + 1) text)));
      count = omega (arith, count, length-append h.done (line ∷ []));
      within = omega (arith, high);
      few = omega (arith, few, low);
      none = λ k other is outside.
          elim (slice_get-push h.done line k other is) [
            | inl before ↦ h.none k other before.1 outside
            | inr last ↦ inside (subst (BeginsOutside pictures) (sym last.1) outside)
          ];
    }

-- the next line names such a picture, and is the first that does
pub scan_hit : (pictures : ℕ) (text : List ℕ) (at number : ℕ) (line : List ℕ) (rest : List (List ℕ)) → IsScanned pictures text at number
    → lines_of (drop at text) ≡ line ∷ rest → BeginsOutside pictures line
    → NamesOutside pictures text number × ((other : ℕ) → NamesOutside pictures text other → number ≤ other)
scan_hit pictures text at number line rest h cut outside =
    let whole : lines_of text ≡ h.done ++ line ∷ rest = h.cut ∙ ap (λ (ls : List (List ℕ)). h.done ++ ls) cut in
    let count = h.count in (
      record {
        place = length h.done;
        number_is = count;
        line = line;
        stands = ap (λ (ls : List (List ℕ)). slice_get ls (length h.done)) whole ∙ slice_get-seam h.done line rest;
        outside = outside;
      },
      λ other named.
          elim (cases_lt named.place (length h.done)) [
            | inl before ↦
                let stands : slice_get h.done named.place ≡ Some named.line =
                sym (slice_get-front h.done (line ∷ rest) named.place before)
                ∙ sym (ap (λ (ls : List (List ℕ)). slice_get ls named.place) whole) ∙ named.stands in
                absurd (h.none named.place named.line stands named.outside)
            | inr behind ↦ (let is = named.number_is in omega (arith, count, is, behind))
          ],
    )

-- no line names such a picture
pub scan_end : (pictures : ℕ) (text : List ℕ) (at number : ℕ) (line : List ℕ) → IsScanned pictures text at number
    → lines_of (drop at text) ≡ line ∷ [] → (BeginsOutside pictures line → ⊥) → (other : ℕ) → NamesOutside pictures text other → ⊥
scan_end pictures text at number line h cut inside other named =
    let whole : lines_of text ≡ h.done ++ line ∷ [] = h.cut ∙ ap (λ (ls : List (List ℕ)). h.done ++ ls) cut in
    elim (slice_get-push h.done line named.place named.line (sym (ap (λ (ls : List (List ℕ)). slice_get ls named.place) whole) ∙ named.stands)) [
      | inl before ↦ h.none named.place named.line before.1 named.outside
      | inr last ↦ inside (subst (BeginsOutside pictures) (sym last.1) named.outside)
    ]
