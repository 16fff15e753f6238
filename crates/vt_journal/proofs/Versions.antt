-- What one change more does to the versions of a page table.
use Rattle.std.proofs.Common.{◌≡◌, ◌≢◌, ℕ, zero, suc, ◌+◌, ◌-◌, ◌<◌, ◌≤◌, ◌⊎◌, inl, inr, Bool, true, false, eqb, List, [], ◌∷◌, ◌++◌, length, refl, sym, ap, ◌∙◌, subst, arith, Option, Some, None, slice_get, length-append, ◌↔◌, eq-eqb}
use Rattle.std.proofs.lemmas.Bool.{cases_lt, eqb-true, eqb-false}
use Rattle.std.proofs.lemmas.Bool.Decides.{nat_tests}
use Rattle.std.proofs.lemmas.Option.{slice_get_within}
use Rattle.vt_pages.specs.Shape.{Shape}
use Rattle.vt_pages.specs.Pages.{pages_of, root_of}
use Rattle.vt_journal.specs.declared.changes.Change.{Change}
use Rattle.vt_journal.specs.declared.changes.Change.TheVariants.{Map, Unmap}
use Rattle.vt_journal.specs.Changes.{Table, with_entry, changed, changed_by, at, newest, IsFree, IsNext, Keeps, IsLegalNext, AreInTurn, AreLegal, Pinned, IsOneToOne}

-- an element of a list that goes on
pub slice_get-front : {X : Type 0} → (xs ys : List X) (k : ℕ) → k < length xs → slice_get (xs ++ ys) k ≡ slice_get xs k
slice_get-front [] ys k h = absurd (omega arith)
slice_get-front (x ∷ xs) ys zero h = refl
slice_get-front (x ∷ xs) ys (suc k) h = slice_get-front xs ys k (omega arith)

-- the element behind a list
pub slice_get-seam : {X : Type 0} → (xs : List X) (y : X) (ys : List X) → slice_get (xs ++ y ∷ ys) (length xs) ≡ Some y
slice_get-seam [] y ys = refl
slice_get-seam (x ∷ xs) y ys = slice_get-seam xs y ys

-- an element of a list with one more at its end
pub slice_get-push : {X : Type 0} → (xs : List X) (y : X) (k : ℕ) (x : X) → slice_get (xs ++ y ∷ []) k ≡ Some x
    → ((k < length xs) × (slice_get xs k ≡ Some x)) ⊎ ((k ≡ length xs) × (y ≡ x))
slice_get-push xs y k x is =
    elim (cases_lt k (length xs)) [
      | inl low ↦ inl (low, sym (slice_get-front xs (y ∷ []) k low) ∙ is)
      | inr high ↦
          let within : k < length (xs ++ y ∷ []) = slice_get_within (xs ++ y ∷ []) k x is in
          let last : k ≡ length xs = omega (arith, length-append xs (y ∷ [])) in
          let same : Some y ≡ Some x = sym (slice_get-seam xs y []) ∙ ap (slice_get (xs ++ y ∷ [])) (sym last) ∙ is in
          inr (last, cc)
    ]

-- the versions of a journal stay as it grows
pub at-front : (js ks : List Change) (v : ℕ) → v ≤ length js → at (js ++ ks) v ≡ at js v
unfolding at
at-front js ks zero h = refl
at-front js ks (suc v) h =
    ap (λ m. changed_by m (slice_get (js ++ ks) v)) (at-front js ks v (omega arith))
    ∙ ap (changed_by (at js v)) (slice_get-front js ks v (omega arith))

-- the version that a change makes
pub at-next : (js : List Change) (v : ℕ) (c : Change) → slice_get js v ≡ Some c → at js (v + 1) ≡ changed (at js v) c
unfolding at
at-next js v c is = let next : v + 1 ≡ suc v = omega arith in ap (at js) next ∙ ap (changed_by (at js v)) is

pub newest-more : (js : List Change) (c : Change) → newest (js ++ c ∷ []) ≡ changed (newest js) c
newest-more js c =
    let count : length (js ++ c ∷ []) ≡ length js + 1 = length-append js (c ∷ []) in
    ap (at (js ++ c ∷ [])) count ∙ at-next (js ++ c ∷ []) (length js) c (slice_get-seam js c [])
    ∙ ap (λ m. changed m c) (at-front js (c ∷ []) (length js) (omega arith))

pub newest-none : (p : ℕ) → newest [] p ≡ None
unfolding at
newest-none p = refl

pub in_turn-none : AreInTurn []
in_turn-none v c is = cc

pub in_turn-more : (js : List Change) (c : Change) → AreInTurn js → IsNext (newest js) c → AreInTurn (js ++ c ∷ [])
in_turn-more js c all next v change is =
    elim (slice_get-push js c v change is) [
      | inl (low, before) ↦ subst (λ (m : Table). IsNext m change) (sym (at-front js (c ∷ []) v (omega (arith, low)))) (all v change before)
      | inr (last, same) ↦
          let table : newest js ≡ at (js ++ c ∷ []) v = sym (at-front js (c ∷ []) (length js) (omega arith)) ∙ ap (at (js ++ c ∷ [])) (sym last) in
          subst (λ (m : Table). IsNext m change) table (subst (IsNext (newest js)) same next)
    ]

pub legal-none : (s : Shape) → AreLegal s []
legal-none s v c is = cc

pub legal-more : (s : Shape) (js : List Change) (c : Change) → AreLegal s js → IsLegalNext s (newest js) c
    → AreLegal s (js ++ c ∷ [])
legal-more s js c all next v change is =
    elim (slice_get-push js c v change is) [
      | inl (low, before) ↦ subst (λ (m : Table). IsLegalNext s m change) (sym (at-front js (c ∷ []) v (omega (arith, low)))) (all v change before)
      | inr (last, same) ↦
          let table : newest js ≡ at (js ++ c ∷ []) v = sym (at-front js (c ∷ []) (length js) (omega arith)) ∙ ap (at (js ++ c ∷ [])) (sym last) in
          subst (λ (m : Table). IsLegalNext s m change) table (subst (IsLegalNext s (newest js)) same next)
    ]

-- an entry after a change
entry_same : (m : Table) (page : ℕ) (entry : Option ℕ) → with_entry m page entry page ≡ entry
entry_same m page entry = rw (eq-eqb page page refl) refl

entry_other : (m : Table) (page q : ℕ) (entry : Option ℕ) → q ≢ page → with_entry m page entry q ≡ m q
entry_other m page q entry other = grind (arith, nat_tests)

pub entry-same : (m : Table) (page : ℕ) (entry : Option ℕ) → with_entry m page entry page ≡ entry
entry-same = entry_same

pub entry-other : (m : Table) (page q : ℕ) (entry : Option ℕ) → q ≢ page → with_entry m page entry q ≡ m q
entry-other = entry_other

-- q is the page, or another
pub same_page : (q page : ℕ) → (q ≡ page) ⊎ (q ≢ page)
same_page q page =
    let by : (b : Bool) → eqb q page ≡ b → (q ≡ page) ⊎ (q ≢ page) = λ b. elim b as (λ b. eqb q page ≡ b
    → (q ≡ page) ⊎ (q ≢ page)) [ true ↦ λ e. inl (eqb-true q page e) | false ↦ λ e. inr (eqb-false q page e) ] in
    by (eqb q page) refl

-- the frame of an entry after a map
pub mapped_after_map : (m : Table) (page frame p f : ℕ) → changed m (Map page frame) p ≡ Some f
    → ((p ≡ page) × (frame ≡ f)) ⊎ ((p ≢ page) × (m p ≡ Some f))
mapped_after_map m page frame p f e =
    elim (same_page p page) [
      | inl same ↦ let s : Some frame ≡ Some f = sym (entry_same m page (Some frame))
          ∙ ap (with_entry m page (Some frame)) (sym same) ∙ e in inl (same, cc)
      | inr other ↦ inr (other, sym (entry_other m page p (Some frame) other) ∙ e)
    ]

-- and after an unmap
pub mapped_after_unmap : (m : Table) (page frame p f : ℕ) → changed m (Unmap page frame) p ≡ Some f → (p ≢ page) × (m p ≡ Some f)
mapped_after_unmap m page frame p f e =
    elim (same_page p page) [
      | inl same ↦ let s : None ≡ Some f = sym (entry_same m page None) ∙ ap (with_entry m page None) (sym same) ∙ e in cc
      | inr other ↦ (other, sym (entry_other m page p None other) ∙ e)
    ]

pub one_to_one-changed : (m : Table) (c : Change) → IsOneToOne m → IsNext m c → IsOneToOne (changed m c)
one_to_one-changed m (Map page frame) one next p q f a b =
    elim (mapped_after_map m page frame p f a) [
      | inl (pp, pf) ↦
          elim (mapped_after_map m page frame q f b) [
            | inl (qp, qf) ↦ pp ∙ sym qp
            | inr (qo, qm) ↦ absurd (next.1 q (qm ∙ ap Some (sym pf)))
          ]
      | inr (po, pm) ↦
          elim (mapped_after_map m page frame q f b) [
            | inl (qp, qf) ↦ absurd (next.1 p (pm ∙ ap Some (sym qf)))
            | inr (qo, qm) ↦ one p q f pm qm
          ]
    ]
one_to_one-changed m (Unmap page frame) one next p q f a b = one p q f (mapped_after_unmap m page frame p f a).1 (mapped_after_unmap m page frame q f b).1

some_at : (js : List Change) (v : ℕ) → v < length js → (c : Change) × (slice_get js v ≡ Some c)
some_at [] v h = absurd (omega arith)
some_at (j ∷ js) zero h = (j, refl)
some_at (j ∷ js) (suc v) h = some_at js v (omega arith)

-- no version maps two pages to one frame
pub one_to_one : (js : List Change) (v : ℕ) → AreInTurn js → v ≤ length js → IsOneToOne (at js v)
unfolding at
one_to_one js zero all h = λ p q f a b. cc
one_to_one js (suc v) all h =
    let c = some_at js v (omega arith) in
    subst (λ (o : Option Change). IsOneToOne (changed_by (at js v) o)) (sym c.1)
    (one_to_one-changed (at js v) c.0 (one_to_one js v all (omega arith)) (all v c.0 c.1))

-- the free frames after a map
pub free_after_map : (m : Table) (page frame g : ℕ) → IsNext m (Map page frame)
    → IsFree (changed m (Map page frame)) g ↔ ((g ≢ frame) × IsFree m g)
free_after_map m page frame g next = (
  λ free. (
    λ e. free page (entry_same m page (Some frame) ∙ ap Some (sym e)),
    λ p e. elim (same_page p page) [
      | inl same ↦ let s : None ≡ Some g = sym next.0 ∙ ap m (sym same) ∙ e in cc
      | inr other ↦ free p (entry_other m page p (Some frame) other ∙ e)
    ],
  ),
  λ both p e. elim (mapped_after_map m page frame p g e) [ inl (pp, pf) ↦ both.0 (sym pf) | inr (po, pm) ↦ both.1 p pm ],
)

-- and after an unmap
pub free_after_unmap : (m : Table) (page frame g : ℕ) → IsOneToOne m → IsNext m (Unmap page frame)
    → IsFree (changed m (Unmap page frame)) g ↔ ((g ≡ frame) ⊎ IsFree m g)
free_after_unmap m page frame g one next = (
  λ free. elim (same_page g frame) [
    | inl same ↦ inl same
    | inr other ↦ inr (λ p e. elim (same_page p page) [
      | inl same ↦ let s : Some frame ≡ Some g = sym next ∙ ap m (sym same) ∙ e in let t : frame ≡ g = cc in other (sym t)
      | inr away ↦ free p (entry_other m page p None away ∙ e)
    ])
  ],
  λ either p e.
      let was = mapped_after_unmap m page frame p g e in
      elim either [
        | inl same ↦ was.0 (one p page g was.1 (next ∙ ap Some (sym same)))
        | inr free ↦ free p was.1
      ],
)

-- a legal journal's changes come in turn
pub in_turn-legal : (s : Shape) (js : List Change) → AreLegal s js → AreInTurn js
in_turn-legal s js all v c is = (all v c is).0

-- the pinned pages stay mapped
pub pinned_stay : (s : Shape) (js : List Change) (pinned v i : ℕ) → AreInTurn js → Pinned s js pinned → v ≤ length js
    → i < pinned → i < v → at js v (pages_of s - pinned + i) ≡ Some i
pinned_stay s js pinned zero i turn pin h small before = absurd (omega arith)
pinned_stay s js pinned (suc v) i turn pin h small before =
    let next : suc v ≡ v + 1 = omega arith in
    let c = some_at js v (omega arith) in
    let made : at js (suc v) ≡ changed (at js v) c.0 = ap (at js) next ∙ at-next js v c.0 c.1 in
    ap (λ m. m (pages_of s - pinned + i)) made ∙
    elim (cases_lt i v) [
      | inl low ↦ later c.0 c.1 (pinned_stay s js pinned v i turn pin (omega arith) small low)
      | inr high ↦ now c.0 c.1 (omega arith)
    ]
  where
    later : (c : Change) → slice_get js v ≡ Some c → at js v (pages_of s - pinned + i) ≡ Some i → changed (at js v) c (pages_of s - pinned + i) ≡ Some i
    later (Map q f) is was =
        elim (same_page (pages_of s - pinned + i) q) [
          | inl same ↦ let none : at js v q ≡ None = (turn v (Map q f) is).0 in let s : None ≡ Some i = sym none
              ∙ ap (at js v) (sym same) ∙ was in cc
          | inr other ↦ entry_other (at js v) q (pages_of s - pinned + i) (Some f) other ∙ was
        ]
    later (Unmap q f) is was =
        let other : pages_of s - pinned + i ≢ q = elim (cases_lt v pinned) [
          | inl low ↦ let s : Some (Map (pages_of s - pinned + v) v) ≡ Some (Unmap q f) = sym (pin.first v low) ∙ is in cc
          | inr high ↦ let below : q + pinned < pages_of s = pin.kept v q f high is in λ e. absurd (omega (arith, e, pin.few))
        ] in
        entry_other (at js v) q (pages_of s - pinned + i) None other ∙ was

    now : (c : Change) → slice_get js v ≡ Some c → i ≡ v → changed (at js v) c (pages_of s - pinned + i) ≡ Some i
    now c is e =
        let given : slice_get js v ≡ Some (Map (pages_of s - pinned + i) i) = ap (slice_get js) (sym e) ∙ pin.first i small in
        let same : Some c ≡ Some (Map (pages_of s - pinned + i) i) = sym is ∙ given in
        let c_is : c ≡ Map (pages_of s - pinned + i) i = cc in
        ap (λ c. changed (at js v) c (pages_of s - pinned + i)) c_is ∙ entry_same (at js v) (pages_of s - pinned + i) (Some i)

pub pinned-more : (s : Shape) (js : List Change) (c : Change) (pinned : ℕ) → Pinned s js pinned → pinned ≤ length js
    → ((page frame : ℕ) → c ≡ Unmap page frame → page + pinned < pages_of s) → Pinned s (js ++ c ∷ []) pinned
pinned-more s js c pinned pin some keeps = record {
  few = pin.few;
  first = λ i small. slice_get-front js (c ∷ []) i (omega arith) ∙ pin.first i small;
  kept = λ v page frame high is. elim (slice_get-push js c v (Unmap page frame) is) [
    | inl (low, before) ↦ pin.kept v page frame high before
    | inr (last, same) ↦ keeps page frame same
  ];
}

-- where the pinned pages are kept, so is the root
pub legal-pinned : (s : Shape) (js : List Change) (pinned : ℕ) → root_of s + 1 ≡ pages_of s → 1 ≤ pinned → AreInTurn js
    → Pinned s js pinned → AreLegal s js
legal-pinned s js pinned root some turn pin v c is = (turn v c is, keeps c is)
  where
    keeps : (c : Change) → slice_get js v ≡ Some c → Keeps (root_of s) c
    keeps (Map page frame) is = tt
    keeps (Unmap page frame) is =
        elim (cases_lt v pinned) [
          | inl low ↦ let s : Some (Map (pages_of s - pinned + v) v) ≡ Some (Unmap page frame) = sym (pin.first v low) ∙ is in cc
          | inr high ↦ let below : page + pinned < pages_of s = pin.kept v page frame high is in λ e. absurd (omega (arith, e, root))
        ]
