-- What the order of a queue says of what was put, taken and left.
use Rattle.std.proofs.Common.{subst, ◌≡◌, ℕ, suc, ◌+◌, ◌<◌, ◌≤◌, ⊎_elim, List, [], ◌∷◌, ◌++◌, length, sym, refl, ap, ◌∙◌, append_assoc, length-append, arith}
use Rattle.std.specs.Prelude.{All, Contains, IsPermutation}
use Rattle.std.proofs.lemmas.List.Sorted.{IsPermutation-sym, IsPermutation-trans, IsPermutation-map, IsPermutation-append_left, All-permutation, Contains-permutation, length_permutation}
use Rattle.std.proofs.lemmas.List.Elements.{All-nil, All-cons, All-weaker, All-contains, Contains-append_left, Contains-push, Contains-append_cases}
use mathlib.Core.Option.{some, some-injective}
use lib.ListN.{get_elem?}
use Rattle.vt_queue.specs.declared.views.PassView.{PassView}
use Rattle.vt_queue.specs.declared.queue.Queue.{Queue}
use Rattle.vt_queue.specs.PassViews.{pass_view, all_shares, all_joined, shares_of}
use Rattle.vt_queue.specs.Orders.{placed, items_of, gathered, IsFirstInFirstOut}
use Rattle.vt_queue.specs.Steps.{IsAtStep, Puts, Takes}
use Rattle.vt_queue.specs.Queues.{capacity_of, WasFull}
use Rattle.vt_queue.proofs.Gathered.{shuffled_as, append_nil, all_cut, to_end, placed_below, placed_items}

module _ {I : Type 0} where
  placed_length : (n : ℕ) (xs : List I) → length (placed n xs) ≡ length xs
  placed_length n [] = refl
  placed_length n (x ∷ xs) = ap suc (placed_length (n + 1) xs)

  -- The order of two parts is that of the one, and of the other from there on.
  placed_both : (n : ℕ) (xs ys : List I) → placed n (xs ++ ys) ≡ placed n xs ++ placed (n + length xs) ys
  placed_both n [] ys = ap (λ k. placed k ys) (let e : n ≡ n + 0 = omega arith in e)
  placed_both n (x ∷ xs) ys = ap (λ l. (n, x) ∷ l) (placed_both (n + 1) xs ys
      ∙ ap (λ k. placed (n + 1) xs ++ placed k ys) (let e : n + 1 + length xs ≡ n + length (x ∷ xs) = omega arith in e))

  placed_above : (n m : ℕ) (xs : List I) → m ≤ n → All (λ (e : ℕ × I). m ≤ e.0) (placed n xs)
  placed_above n m [] le = All-nil (λ e. m ≤ e.0)
  placed_above n m (x ∷ xs) le = All-cons (λ e. m ≤ e.0) (n, x) (placed (n + 1) xs) le (placed_above (n + 1) m xs (omega
      (arith, le)))

  read_at : (front : List I) (x : I) (xs : List I) → get_elem? (front ++ x ∷ xs) (length front) ≡ some x
  read_at [] x xs = refl
  read_at (y ∷ front) x xs = read_at front x xs

  -- Each entry's item is at its place.
  placed_read : (front xs : List I) → All (λ (e : ℕ × I). get_elem? (front ++ xs) e.0 ≡ some e.1) (placed (length front) xs)
  placed_read front [] = All-nil (λ e. get_elem? (front ++ []) e.0 ≡ some e.1)
  placed_read front (x ∷ xs) =
      let Reads : List I → ℕ × I → Type 0 = λ l e. get_elem? l e.0 ≡ some e.1 in
      let rest : All (Reads (front ++ x ∷ xs)) (placed (length front + 1) xs)
      = subst (λ l. All (Reads l) (placed (length front + 1) xs)) (append_assoc front (x ∷ []) xs)
      (subst (λ k. All (Reads ((front ++ x ∷ []) ++ xs)) (placed k xs)) (length-append front (x ∷ []))
      (placed_read (front ++ x ∷ []) xs)) in
      All-cons (Reads (front ++ x ∷ xs)) (length front, x) (placed (length front + 1) xs) (read_at front x xs) rest

  pub order_of : (v : PassView I) (left : List I) → IsAtStep v left → v.shares ≡ all_shares → IsFirstInFirstOut v.put v.took left
  order_of v left s all = record { gone = s.gone; puts = s.all_puts all; takes = s.all_takes all }

  pub known_of : (v : PassView I) (left : List I) → IsAtStep v left → v.shares ≡ all_shares → All (Contains v.put) v.known
  known_of v left s all = let order = placed 0 (s.gone ++ left) in
      All-weaker (Contains order) (Contains v.put) (λ e h. Contains-permutation order v.put e (s.all_puts all) h) v.known s.knows

  gone_length : (put took : List (ℕ × I)) (left : List I) (o : IsFirstInFirstOut put took left) → length o.gone ≡ length took
  gone_length put took left o = sym (placed_length 0 o.gone) ∙ sym (length_permutation _ _ o.takes)

  pub items_as_put : (put took : List (ℕ × I)) (left : List I) → IsFirstInFirstOut put took left
      → IsPermutation (items_of put) (items_of took ++ left)
  items_as_put put took left o = let item = λ (e : ℕ × I). e.1 in
      IsPermutation-trans _ _ _ (IsPermutation-sym _ _ (IsPermutation-map item _ _ o.puts))
      (IsPermutation-trans _ _ _ (shuffled_as _ _ (placed_items 0 (o.gone ++ left)))
      (IsPermutation-append_left left _ _ (IsPermutation-trans _ _ _ (shuffled_as _ _ (sym (placed_items 0 o.gone)))
      (IsPermutation-map item _ _ o.takes))))

  pub count_of : (put took : List (ℕ × I)) (left : List I) → IsFirstInFirstOut put took left
      → length put ≡ length took + length left
  count_of put took left o =
      let puts : length put ≡ length (placed 0 (o.gone ++ left)) = length_permutation _ _ o.puts in
      puts ∙ placed_length 0 (o.gone ++ left) ∙ length-append o.gone left
      ∙ ap (λ n. n + length left) (gone_length put took left o)

  none_left : (xs : List I) → length xs ≡ 0 → xs ≡ []
  none_left [] e = refl
  none_left (x ∷ xs) e = absurd (omega (arith, e))

  pub all_taken : (put took : List (ℕ × I)) (left : List I) → IsFirstInFirstOut put took left → length took ≡ length put
      → (left ≡ []) × IsPermutation (items_of put) (items_of took)
  all_taken put took left o e =
      let c = count_of put took left o in
      let none : left ≡ [] = none_left left (omega (arith, c, e)) in (
        none,
        IsPermutation-trans _ _ _ (items_as_put put took left o) (shuffled_as _ _ (ap (λ l. items_of took ++ l) none
            ∙ append_nil (items_of took))),
      )

  pub one_place : (put took : List (ℕ × I)) (left : List I) (place : ℕ) (x y : I) → IsFirstInFirstOut put took left
      → Contains put (place, x) → Contains put (place, y) → x ≡ y
  one_place put took left place x y o a b =
      let order = o.gone ++ left in
      let Reads : ℕ × I → Type 0 = λ e. get_elem? order e.0 ≡ some e.1 in
      let all : All Reads put = All-permutation Reads _ _ o.puts (placed_read [] order) in
      some-injective x y (sym (All-contains Reads put (place, x) all a) ∙ All-contains Reads put (place, y) all b)

  pub first_taken : (put took : List (ℕ × I)) (left : List I) (entry : ℕ × I) → IsFirstInFirstOut put took left
      → Contains put entry → entry.0 < length took → Contains took entry
  first_taken put took left entry o c low =
      let there : Contains (placed 0 (o.gone ++ left)) entry = Contains-permutation _ _ entry (IsPermutation-sym _ _ o.puts) c in
      let Late : ℕ × I → Type 0 = λ e. length o.gone ≤ e.0 in
      let gone = placed 0 o.gone in
      let rest = placed (0 + length o.gone) left in
      let g = gone_length put took left o in
      ⊎_elim
      (λ (h : Contains gone entry). Contains-permutation _ _ entry o.takes h)
      (λ (h : Contains rest entry). absurd (let late = All-contains Late rest entry (placed_above (0 + length o.gone)
      (length o.gone) left (omega arith)) h in
      omega (arith, g, late, low)))
      (Contains-append_cases gone rest entry (subst (λ l. Contains l entry) (placed_both 0 o.gone left) there))

  pub taken_first : (put took : List (ℕ × I)) (left : List I) (entry : ℕ × I) → IsFirstInFirstOut put took left
      → Contains took entry → Contains put entry × (entry.0 < length took)
  taken_first put took left entry o c =
      let there : Contains (placed 0 o.gone) entry = Contains-permutation _ _ entry (IsPermutation-sym _ _ o.takes) c in
      let Early : ℕ × I → Type 0 = λ e. e.0 < length o.gone in (
        Contains-permutation _ _ entry o.puts (subst (λ l. Contains l entry) (sym (placed_both 0 o.gone left))
            (Contains-append_left (placed 0 o.gone) (placed (0 + length o.gone) left) entry there)),
        subst (λ n. entry.0 < n) (gone_length put took left o) (All-contains Early (placed 0 o.gone) entry (placed_below 0
            (length o.gone) o.gone (omega arith)) there),
      )

  -- The places at which a whole pass puts and takes.
  put_place : (v w : PassView I) (x : I) (p : Puts v x w) → v.shares ≡ all_shares → p.place ≡ length v.put
  put_place v w x p all =
      let shares : w.shares ≡ v.shares = ap (λ (u : PassView I). u.shares) p.is in
      let put : w.put ≡ v.put ++ (p.place, x) ∷ [] = ap (λ (u : PassView I). u.put) p.is in
      let order : List I = p.at_step.gone ++ (p.ahead ++ x ∷ []) in
      let many : length w.put ≡ length (placed 0 order) = length_permutation _ _ (p.at_step.all_puts (shares ∙ all)) in
      let a = placed_length 0 order in
      let b = length-append p.at_step.gone (p.ahead ++ x ∷ []) in
      let c = length-append p.ahead (x ∷ []) in
      let d = length-append p.at_step.gone p.ahead in
      let e = ap length put ∙ length-append v.put ((p.place, x) ∷ []) in
      let f = p.at_end in
      omega (arith, many, a, b, c, d, e, f)

  take_place : (v w : PassView I) (x : I) (t : Takes v x w) → v.shares ≡ all_shares → t.place ≡ length v.took
  take_place v w x t all =
      let shares : w.shares ≡ v.shares = ap (λ (u : PassView I). u.shares) t.is in
      let took : w.took ≡ v.took ++ (t.place, x) ∷ [] = ap (λ (u : PassView I). u.took) t.is in
      let many : length w.took ≡ length (placed 0 t.at_step.gone) = length_permutation _ _ (t.at_step.all_takes (shares ∙ all)) in
      let a = placed_length 0 t.at_step.gone in
      let b = ap length t.first ∙ length-append t.before (x ∷ []) in
      let e = ap length took ∙ length-append v.took ((t.place, x) ∷ []) in
      let f = t.counts in
      omega (arith, many, a, b, e, f)

  pub puts_last : (v w : PassView I) (x : I) → Puts v x w → v.shares ≡ all_shares
      → w ≡ pass_view v.shares v.known (v.put ++ (length v.put, x) ∷ []) v.took
  puts_last v w x p all = p.is ∙ ap (λ n. pass_view v.shares v.known (v.put ++ (n, x) ∷ []) v.took) (put_place v w x p all)

  pub takes_next : (v w : PassView I) (x : I) → Takes v x w → v.shares ≡ all_shares
      → w ≡ pass_view v.shares v.known v.put (v.took ++ (length v.took, x) ∷ [])
  takes_next v w x t all = t.is ∙ ap (λ n. pass_view v.shares v.known v.put (v.took ++ (n, x) ∷ [])) (take_place v w x t all)

  pub takes_first : (v w : PassView I) (x : I) → Takes v x w → v.shares ≡ all_shares → Contains v.put (length v.took, x)
  takes_first v w x t all =
      let shares : w.shares ≡ v.shares = ap (λ (u : PassView I). u.shares) t.is in
      let put : w.put ≡ v.put = ap (λ (u : PassView I). u.put) t.is in
      let took : w.took ≡ v.took ++ (length v.took, x) ∷ [] = ap (λ (u : PassView I). u.took) (takes_next v w x t all) in
      let entry : ℕ × I = (length v.took, x) in
      let there : Contains w.took entry = subst (λ l. Contains l entry) (sym took) (Contains-push v.took entry) in
      subst (λ l. Contains l entry) put
      (taken_first w.put w.took t.left entry (order_of w t.left t.at_step (shares ∙ all)) there).0

  pub full_of : (q : Queue I) (v : PassView I) → WasFull q v → v.shares ≡ all_shares → length v.put ≡ length v.took + capacity_of q
  full_of q v f all = count_of v.put v.took f.0 (order_of v f.0 f.2 all) ∙ ap (λ n. length v.took + n) f.1

  -- What is so of all that was put is so of what was taken and of what is left.
  pub facts_of : (P : I → Type 0) (put took : List (ℕ × I)) (left : List I) → IsFirstInFirstOut put took left
      → All P (items_of put)
      → All P (items_of took) × All P left
  facts_of P put took left o all = all_cut P (items_of took) left (All-permutation P _ _ (items_as_put put took left o) all)

  pub joined_shares : (v : PassView I) (ws : List (PassView I)) → (all_joined v ws).shares ≡ v.shares + shares_of ws
  joined_shares v [] = (let e : v.shares ≡ v.shares + 0 = omega arith in e)
  joined_shares v (w ∷ ws) = let e = joined_shares v ws in omega (arith, e)

  more_joined : (a b c all : List (ℕ × I)) → IsPermutation all (a ++ b) → IsPermutation (all ++ c) (a ++ (c ++ b))
  more_joined a b c all e = IsPermutation-trans _ _ _ (IsPermutation-append_left c _ _ e)
      (IsPermutation-trans _ _ _ (to_end a b c) (shuffled_as _ _ (append_assoc a c b)))

  pub joined_puts : (v : PassView I) (ws : List (PassView I))
      → IsPermutation (all_joined v ws).put (v.put ++ gathered (λ w. w.put) ws)
  joined_puts v [] = shuffled_as _ _ (sym (append_nil v.put))
  joined_puts v (w ∷ ws) = more_joined v.put (gathered (λ (u : PassView I). u.put) ws) w.put (all_joined v ws).put
      (joined_puts v ws)

  pub joined_takes : (v : PassView I) (ws : List (PassView I))
      → IsPermutation (all_joined v ws).took (v.took ++ gathered (λ w. w.took) ws)
  joined_takes v [] = shuffled_as _ _ (sym (append_nil v.took))
  joined_takes v (w ∷ ws) = more_joined v.took (gathered (λ (u : PassView I). u.took) ws) w.took (all_joined v ws).took
      (joined_takes v ws)
