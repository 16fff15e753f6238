-- Results that are taken one after another.
use Rattle.std.proofs.Common.{◌≡◌, ◌≢◌, ℕ, zero, suc, ◌<◌, Bool, true, false, List, [], ◌∷◌, ◌++◌, length, set, get_or, refl, sym, ap, ◌∙◌, append_assoc, length-append, arith}
use Rattle.std.specs.Prelude.{slice_index_or, not, ◌&&◌, nat_lt, nat_eq}
use Rattle.std.proofs.lemmas.Bool.Decides.{nat_tests}
use Rattle.std.proofs.lemmas.Bool.{false≢true}
use Rattle.std.proofs.lemmas.List.Quantifiers.{all_pairs_push}
use Rattle.std.proofs.lemmas.List.{map-append, append-nil}
use Rattle.std.proofs.lemmas.List.Elements.{All-nil, All-push}
use Rattle.vt_queue.specs.declared.items.Loaded.{Loaded}
use Rattle.vt_queue.specs.declared.views.PassView.{PassView}
use Rattle.vt_queue.specs.PassViews.{pass_view}
use Rattle.vt_queue.specs.Steps.{Takes}
use Rattle.vt_requests.specs.Streamed.{with_taken}
use Rattle.vt_requests.specs.TakenResults.{Streams, is_wanted}

-- a flag that is set
flag_kept : (l : List Bool) (i j : ℕ) → get_or l j false ≡ true → get_or (set l i true) j false ≡ true
flag_kept [] i j e = e
flag_kept (x ∷ xs) zero zero e = refl
flag_kept (x ∷ xs) zero (suc j) e = e
flag_kept (x ∷ xs) (suc i) zero e = e
flag_kept (x ∷ xs) (suc i) (suc j) e = flag_kept xs i j e

pub flag_was : (l : List Bool) (i j : ℕ) → get_or (set l i true) j false ≡ false → get_or l j false ≡ false
flag_was l i j e = by_value (get_or l j false) refl where
  by_value : (b : Bool) → get_or l j false ≡ b → get_or l j false ≡ false
  by_value true is = absurd (false≢true (sym e ∙ flag_kept l i j is))
  by_value false is = is

pub flag_set : (l : List Bool) (i : ℕ) → i < length l → get_or (set l i true) i false ≡ true
flag_set [] i inside = absurd (omega (arith, inside))
flag_set (x ∷ xs) zero inside = refl
flag_set (x ∷ xs) (suc i) inside = flag_set xs i (omega (arith, inside))

set_length : (l : List Bool) (i : ℕ) (b : Bool) → length (set l i b) ≡ length l
set_length [] i b = refl
set_length (x ∷ xs) zero b = refl
set_length (x ∷ xs) (suc i) b = ap suc (set_length xs i b)

-- what a wanted result is
both_parts : (a b : Bool) → (a && b) ≡ true → (a ≡ true) × (b ≡ true)
both_parts true b e = (refl, e)
both_parts false b e = absurd (false≢true e)

not_so : (b : Bool) → not b ≡ true → b ≡ false
not_so true e = absurd (false≢true e)
not_so false e = refl

below : (a b : ℕ) → nat_lt a b ≡ true → a < b
below a b e = grind (arith, nat_tests)

pub same : (a b : ℕ) → nat_eq a b ≡ true → a ≡ b
same a b e = grind (arith, nat_tests)

pub wanted_inside : (is_tile : ℕ → Bool) (taken : List Bool) (r : Loaded) → is_wanted is_tile taken r ≡ true → r.request.ticket < length taken
wanted_inside is_tile taken r e = below _ _ (both_parts _ _ (both_parts _ _ e).0).0

pub wanted_new : (is_tile : ℕ → Bool) (taken : List Bool) (r : Loaded) → is_wanted is_tile taken r ≡ true → get_or taken r.request.ticket false ≡ false
wanted_new is_tile taken r e = not_so _ (both_parts _ _ (both_parts _ _ e).0).1

pub wanted_tile : (is_tile : ℕ → Bool) (taken : List Bool) (r : Loaded) → is_wanted is_tile taken r ≡ true
    → is_tile (length r.request.buffer.elements) ≡ true
wanted_tile is_tile taken r e = (both_parts _ _ e).1

taken_more : (v w x : PassView Loaded) (got : List (ℕ × Loaded)) (r : Loaded) → w ≡ with_taken v got → (t : Takes w r x)
    → x ≡ with_taken v (got ++ (t.place, r) ∷ [])
taken_more v w x got r is t = t.is ∙ ap (λ (u : PassView Loaded). pass_view u.shares u.known u.put (u.took ++ (t.place, r) ∷ [])) is
    ∙ ap (λ (l : List (ℕ × Loaded)). pass_view v.shares v.known v.put l) (append_assoc v.took got ((t.place, r) ∷ []))

pub streams_none : (count : ℕ) (v : PassView Loaded) (taken : List Bool) → length taken ≡ count → Streams count v v taken []
streams_none count v taken flags = record {
  got = [];
  is = ap (λ (l : List (ℕ × Loaded)). pass_view v.shares v.known v.put l) (sym (append-nil v.took));
  flags = flags;
  marked = All-nil (λ (x : Loaded). slice_index_or taken x.request.ticket false ≡ true);
  inside = All-nil (λ (x : Loaded). x.request.ticket < count);
  apart = λ i j d low inside. absurd (omega (arith, inside));
  no_more = omega arith;
  exact = λ _. refl;
}

pub streams_dropped : (count : ℕ) (v w x : PassView Loaded) (taken : List Bool) (kept : List Loaded) (r : Loaded)
    → Streams count v w taken kept → Takes w r x → Streams count v x taken kept
streams_dropped count v w x taken kept r s t = record {
  got = s.got ++ (t.place, r) ∷ [];
  is = taken_more v w x s.got r s.is t;
  flags = s.flags;
  marked = s.marked;
  inside = s.inside;
  apart = s.apart;
  no_more = (let a = s.no_more in let b = length-append s.got ((t.place, r) ∷ []) in omega (arith, a, b));
  exact = λ same. absurd (let a = s.no_more in let b = length-append s.got ((t.place, r) ∷ []) in omega (arith, a, b, same));
}

pub streams_kept : (count : ℕ) (v w x : PassView Loaded) (taken : List Bool) (kept : List Loaded) (r : Loaded)
    → Streams count v w taken kept → Takes w r x → r.request.ticket < count → get_or taken r.request.ticket false ≡ false
    → Streams count v x (set taken r.request.ticket true) (kept ++ r ∷ [])
streams_kept count v w x taken kept r s t inside new =
    let i : ℕ = r.request.ticket in
    let more = length-append s.got ((t.place, r) ∷ []) in
    let longer = length-append kept (r ∷ []) in
    record {
      got = s.got ++ (t.place, r) ∷ [];
      is = taken_more v w x s.got r s.is t;
      flags = set_length taken i true ∙ s.flags;
      marked = All-push (λ (y : Loaded). get_or (set taken i true) y.request.ticket false ≡ true) kept r
          (λ k d low. flag_kept taken i (get_or kept k d).request.ticket (s.marked k d low))
          (flag_set taken i (let e = s.flags in omega (arith, e, inside)));
      inside = All-push (λ (y : Loaded). y.request.ticket < count) kept r s.inside inside;
      apart = all_pairs_push (λ y z. y.request.ticket ≢ z.request.ticket) kept r s.apart
          (λ k d low same. false≢true (sym new ∙ ap (λ (n : ℕ). get_or taken n false) (sym same) ∙ s.marked k d low));
      no_more = (let a = s.no_more in omega (arith, a, more, longer));
      exact = λ same. ap (λ (l : List Loaded). l ++ r ∷ []) (s.exact (omega (arith, same, more, longer)))
          ∙ sym (map-append (λ (e : ℕ × Loaded). e.1) s.got ((t.place, r) ∷ []));
    }
