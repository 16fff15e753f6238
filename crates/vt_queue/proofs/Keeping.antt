-- Each step keeps the rule of a queue.
use Rattle.std.proofs.Common.{subst, ◌≡◌, ℕ, zero, suc, ◌<◌, List, [], ◌∷◌, ◌++◌, length, set, sym, refl, ap, ◌∙◌, append_assoc, arith}
use Rattle.std.specs.Prelude.{All, Contains, IsPermutation, Option, None, Some, MatchOption, IfNone}
use Rattle.std.proofs.lemmas.List.Sorted.{IsPermutation-append_left, IsPermutation-trans, All-permutation}
use Rattle.std.proofs.lemmas.List.Elements.{All-nil, All-head, All-tail, All-set, All-push, All-append, All-weaker, All-contains, All-contains_itself, Contains-append_left}
use mathlib.Core.Option.{some, some-injective, some-ne-none}
use lib.ListN.{get_elem?}
use Rattle.crossbeam_queue.specs.Fifo.{Pushes, Pops, Forks, Merges, Learns, Held}
use Rattle.vt_queue.specs.declared.views.PassView.{PassView}
use Rattle.vt_queue.specs.PassViews.{pass_view, shares_of, kept_view, given_view, joined, spent_view}
use Rattle.vt_queue.specs.Orders.{placed, gathered}
use Rattle.vt_queue.specs.Steps.{IsAtStep, Puts, Takes}
use Rattle.vt_queue.specs.Rules.{IsIdle, KnowsRight, IsQueueKept}
use Rattle.vt_queue.proofs.Gathered.{shuffled_as, append_nil, all_at, gathered_more, gathered_same, gathered_less, gathered_new, all_gathered, set_twice, set_here, set_elsewhere, shares_set, shares_new, shares_within, placed_more, placed_below}

module _ {I : Type 0} where
  abbrev puts_of : PassView I → List (ℕ × I)
  puts_of v = v.put

  abbrev takes_of : PassView I → List (ℕ × I)
  takes_of v = v.took

  -- A pass with shares is not idle.
  busy : (v : PassView I) → 0 < v.shares → IsIdle v
  busy v live = record { puts = λ none. absurd (omega (arith, none, live)); takes = λ none. absurd (omega (arith, none, live)) }

  -- What a view has is in the order of all.
  own : (f : PassView I → List (ℕ × I)) (order : List I) (views : List (PassView I)) (port : ℕ) (v : PassView I)
      → IsPermutation (placed 0 order) (gathered f views) → get_elem? views port ≡ some v → All (Contains (placed 0 order)) (f v)
  own f order views port v moved at = let In : ℕ × I → Type 0 = Contains (placed 0 order) in
      all_gathered f In views port v at (All-permutation In _ _ moved (All-contains_itself (placed 0 order)))

  -- All places in an order are below its length.
  below : (order : List I) (entries : List (ℕ × I)) → All (Contains (placed 0 order)) entries
      → All (λ (e : ℕ × I). e.0 < length order) entries
  below order entries all = let Below : ℕ × I → Type 0 = λ e. e.0 < length order in
      All-weaker (Contains (placed 0 order)) Below (λ e c. All-contains Below (placed 0 order) e (placed_below 0
      (length order) order (omega arith)) c) entries all

  -- With no shares among them views have nothing.
  nothing : (f : PassView I → List (ℕ × I)) → ((v : PassView I) → IsIdle v → v.shares ≡ 0 → f v ≡ [])
      → (views : List (PassView I))
      → All IsIdle views → shares_of views ≡ 0 → gathered f views ≡ []
  nothing f idle [] all e = refl
  nothing f idle (x ∷ xs) all e = ap (λ l. l ++ gathered f xs) (idle x (All-head IsIdle x xs all) (omega (arith, e)))
      ∙ nothing f idle xs (All-tail IsIdle x xs all) (omega (arith, e))

  -- With all shares a view has all.
  alone : (f : PassView I → List (ℕ × I)) → ((v : PassView I) → IsIdle v → v.shares ≡ 0 → f v ≡ [])
      → (views : List (PassView I)) (port : ℕ) (v : PassView I)
      → All IsIdle views → get_elem? views port ≡ some v → shares_of views ≡ v.shares → gathered f views ≡ f v
  alone f idle [] port v all at e = absurd (some-ne-none v (sym at))
  alone f idle (x ∷ xs) zero v all at e = let same : x ≡ v = some-injective x v at in
      let p : x.shares ≡ v.shares = ap (λ (y : PassView I). y.shares) same in
      ap (λ l. f x ++ l) (nothing f idle xs (All-tail IsIdle x xs all) (omega (arith, e, p))) ∙ append_nil (f x) ∙ ap f same
  alone f idle (x ∷ xs) (suc port) v all at e = let p = shares_within xs port v at in
      ap (λ l. l ++ gathered f xs) (idle x (All-head IsIdle x xs all) (omega (arith, e, p)))
      ∙ alone f idle xs port v (All-tail IsIdle x xs all) at (omega (arith, e, p))

  -- A longer order has what a shorter one had.
  longer : (a b : List I) (more : List (ℕ × I)) → placed 0 b ≡ placed 0 a ++ more → (v : PassView I) → KnowsRight a v
      → KnowsRight b v
  longer a b more e v h = All-weaker (Contains (placed 0 a)) (Contains (placed 0 b))
      (λ y c. subst (λ l. Contains l y) (sym e) (Contains-append_left (placed 0 a) more y c)) v.known h

  -- A view that knows the same may be in the place of another.
  still_right : (order : List I) (views : List (PassView I)) (port : ℕ) (v w : PassView I) → get_elem? views port ≡ some v
      → w.known ≡ v.known
      → All (KnowsRight order) views → All (KnowsRight order) (set views port w)
  still_right order views port v w at e all = All-set (KnowsRight order) views port w
      (subst (λ l. All (Contains (placed 0 order)) l) (sym e) (all_at (KnowsRight order) views port v all at)) all

  pub learns : (port : ℕ) (v : PassView I) → Learns IsQueueKept port v (IsAtStep v)
  learns port v items views k at = record {
    gone = k.order.gone;
    knows = all_at (KnowsRight (k.order.gone ++ items)) views port v k.knows at;
    puts = own puts_of (k.order.gone ++ items) views port v k.order.puts at;
    takes = own takes_of k.order.gone views port v k.order.takes at;
    few = (let s = shares_within views port v at in let h = k.whole in omega (arith, s, h));
    all_puts = λ all. IsPermutation-trans _ _ _ k.order.puts (shuffled_as _ _ (alone puts_of
        (λ y i none. i.puts none) views port v k.idle at (k.whole ∙ sym all)));
    all_takes = λ all. IsPermutation-trans _ _ _ k.order.takes (shuffled_as _ _ (alone takes_of
        (λ y i none. i.takes none) views port v k.idle at (k.whole ∙ sym all)));
  }

  pub puts : (n port : ℕ) (v : PassView I) (x : I) → 0 < v.shares → Pushes IsQueueKept n port v x (Puts v x)
  unfolding learns
  puts n port v x live items views room k at =
      let gone : List I = k.order.gone in
      let order : List I = gone ++ items in
      let more : List I = gone ++ (items ++ x ∷ []) in
      let entry : ℕ × I = (length order, x) in
      let w : PassView I = pass_view v.shares v.known (v.put ++ entry ∷ []) v.took in
      let longer_by : placed 0 more ≡ placed 0 order ++ entry ∷ [] = ap (λ l. placed 0 l) (sym (append_assoc gone items
      (x ∷ []))) ∙ placed_more order x in
      let after : IsQueueKept (items ++ x ∷ []) (set views port w) = record {
        order = record {
          gone = gone;
          puts = IsPermutation-trans _ _ _ (shuffled_as _ _ longer_by)
              (IsPermutation-trans _ _ _ (IsPermutation-append_left (entry ∷ []) _ _ k.order.puts)
              (gathered_more puts_of views port v w (entry ∷ []) at refl));
          takes = IsPermutation-trans _ _ _ k.order.takes (gathered_same takes_of views port v w at refl);
        };
        whole = (let s = shares_set views port v w at in let h = k.whole in omega (arith, s, h));
        idle = All-set IsIdle views port w (busy w live) k.idle;
        knows = still_right more views port v w at refl (All-weaker (KnowsRight order) (KnowsRight more) (longer order more
            (entry ∷ []) longer_by) views k.knows);
      } in (
        w,
        after,
        record {
          place = length order;
          is = refl;
          after_known = below order v.known (all_at (KnowsRight order) views port v k.knows at);
          after_put = below order v.put (own puts_of order views port v k.order.puts at);
          ahead = items;
          at_step = learns port w (items ++ x ∷ []) (set views port w) after (set_here views port v w at);
          at_end = refl;
        },
      )

  pub takes : (port : ℕ) (v : PassView I) → 0 < v.shares → Pops IsQueueKept port v (Takes v)
  unfolding learns
  takes port v live x items views k at =
      let gone : List I = k.order.gone in
      let entry : ℕ × I = (length gone, x) in
      let w : PassView I = pass_view v.shares v.known v.put (v.took ++ entry ∷ []) in
      let same : (gone ++ x ∷ []) ++ items ≡ gone ++ x ∷ items = append_assoc gone (x ∷ []) items in
      let after : IsQueueKept items (set views port w) = record {
        order = record {
          gone = gone ++ x ∷ [];
          puts = IsPermutation-trans _ _ _ (shuffled_as _ _ (ap (λ l. placed 0 l) same))
              (IsPermutation-trans _ _ _ k.order.puts (gathered_same puts_of views port v w at refl));
          takes = IsPermutation-trans _ _ _ (shuffled_as _ _ (placed_more gone x))
              (IsPermutation-trans _ _ _ (IsPermutation-append_left (entry ∷ []) _ _ k.order.takes)
              (gathered_more takes_of views port v w (entry ∷ []) at refl));
        };
        whole = (let s = shares_set views port v w at in let h = k.whole in omega (arith, s, h));
        idle = All-set IsIdle views port w (busy w live) k.idle;
        knows = subst (λ l. All (KnowsRight l) (set views port w)) (sym same) (still_right
            (gone ++ x ∷ items) views port v w at refl k.knows);
      } in (
        w,
        after,
        record {
          place = length gone;
          is = refl;
          after_took = below gone v.took (own takes_of gone views port v k.order.takes at);
          left = items;
          at_step = learns port w items (set views port w) after (set_here views port v w at);
          before = gone;
          first = refl {a = gone ++ x ∷ []};
          counts = refl;
        },
      )

  -- Where nothing was taken, no item was left at a step.
  pub empty_at : (r : Option I) (v w : PassView I) (Taken : I → Type 0) → MatchOption r ((w ≡ v) × Held 0 (IsAtStep v)) Taken
      → IfNone r ((w ≡ v) × IsAtStep w [])
  empty_at None v w Taken h = (h.0, subst (λ (u : PassView I). IsAtStep u []) (sym h.0) (at_none h.1.0 h.1.1 h.1.2)) where
    at_none : (items : List I) → length items ≡ 0 → IsAtStep v items → IsAtStep v []
    at_none [] none at = at
    at_none (x ∷ xs) none at = absurd (omega (arith, none))
  empty_at (Some x) v w Taken h = tt

  -- What is gathered stays where a pass is split,
  split_same : (f : PassView I → List (ℕ × I)) (views : List (PassView I)) (port : ℕ) (v l r : PassView I)
      → get_elem? views port ≡ some v → f l ≡ f v → f r ≡ []
      → IsPermutation (gathered f views) (gathered f (set views port l ++ r ∷ []))
  split_same f views port v l r at a b = IsPermutation-trans _ _ _ (gathered_same f views port v l at a) (shuffled_as _ _
      (sym (gathered_new f (set views port l) r b)))

  pub forks : (port : ℕ) (v : PassView I) → 1 < v.shares → Forks IsQueueKept port v (kept_view v) (given_view v)
  forks port v many items views k at =
      let order : List I = k.order.gone ++ items in
      let l : PassView I = kept_view v in
      let r : PassView I = given_view v in record {
        order = record {
          gone = k.order.gone;
          puts = IsPermutation-trans _ _ _ k.order.puts (split_same puts_of views port v l r at refl refl);
          takes = IsPermutation-trans _ _ _ k.order.takes (split_same takes_of views port v l r at refl refl);
        };
        whole = (let s = shares_set views port v l at in let t = shares_new (set views port l) r in let h = k.whole in omega
            (arith, s, t, h, many));
        idle = All-push IsIdle (set views port l) r (All-set IsIdle views port l (busy l (omega (arith, many))) k.idle)
            (record { puts = λ none. refl; takes = λ none. refl });
        knows = All-push (KnowsRight order) (set views port l) r (still_right order views port v l at refl k.knows)
            (All-append (Contains (placed 0 order)) v.known v.put (all_at (KnowsRight order) views port v k.knows at)
            (own puts_of order views port v k.order.puts at));
      }

  -- and where two are made one.
  join_same : (f : PassView I → List (ℕ × I)) (views : List (PassView I)) (port other : ℕ) (v u b s : PassView I)
      → get_elem? views other ≡ some u
      → get_elem? (set views other s) port ≡ some v → ¬ (port ≡ other) → f b ≡ f v ++ f u → f s ≡ []
      → IsPermutation (gathered f views) (gathered f (set (set views port b) other s))
  join_same f views port other v u b s there still apart e none = IsPermutation-trans _ _ _
      (gathered_less f views other u s there none)
      (IsPermutation-trans _ _ _ (gathered_more f (set views other s) port v b (f u) still e) (shuffled_as _ _ (ap
      (λ l. gathered f l) (sym (set_twice views port other b s apart)))))

  pub merges : (port : ℕ) (v : PassView I) (other : ℕ) (u : PassView I) → 0 < v.shares
      → Merges IsQueueKept port v other u (joined v u) spent_view
  merges port v other u live items views k at two later =
      let order : List I = k.order.gone ++ items in
      let b : PassView I = joined v u in
      let s : PassView I = spent_view in
      let apart : ¬ (port ≡ other) = λ e. two (sym e) in
      let there : get_elem? views other ≡ some u = sym (set_elsewhere views other port b two) ∙ later in
      let still : get_elem? (set views other s) port ≡ some v = set_elsewhere views port other s apart ∙ at in
      record {
        order = record {
          gone = k.order.gone;
          puts = IsPermutation-trans _ _ _ k.order.puts (join_same puts_of views port other v u b s there still apart refl refl);
          takes = IsPermutation-trans _ _ _ k.order.takes
              (join_same takes_of views port other v u b s there still apart refl refl);
        };
        whole = (let e = shares_set views port v b at in let t = shares_set
            (set views port b) other u s later in let h = k.whole in omega (arith, e, t, h));
        idle = All-set IsIdle (set views port b) other s (record { puts = λ none. refl; takes = λ none. refl })
            (All-set IsIdle views port b (busy b (omega (arith, live))) k.idle);
        knows = All-set (KnowsRight order) (set views port b) other s (All-nil (Contains (placed 0 order))) (All-set
            (KnowsRight order) views port b
            (All-append (Contains (placed 0 order)) v.known u.known (all_at (KnowsRight order) views port v k.knows at)
            (all_at (KnowsRight order) views other u k.knows there)) k.knows);
      }
