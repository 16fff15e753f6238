-- A round whose results were taken while the loaders were at work is one whose results were taken after.
use Rattle.std.proofs.Common.{◌≡◌, ℕ, suc, ◌+◌, ◌≤◌, Bool, true, false, cond, List, [], ◌∷◌, ◌++◌, length, Option, refl, sym, ap, ◌∙◌, arith, length-append}
use Rattle.std.specs.Prelude.{All, filter}
use Rattle.std.proofs.lemmas.List.{length-map}
use Rattle.std.proofs.lemmas.List.Elements.{All-head, All-tail}
use Rattle.std.proofs.lemmas.List.Sorted.{length_permutation}
use Rattle.vt_outside.specs.declared.outside.File.{Ghosts as FileMeanings}
use Rattle.vt_tiles.specs.Shape.{Shape}
use Rattle.vt_queue.specs.declared.items.Request.{Request}
use Rattle.vt_queue.specs.declared.items.Loaded.{Loaded}
use Rattle.vt_queue.specs.declared.views.PassView.{PassView}
use Rattle.vt_queue.specs.PassViews.{pass_view, all_shares, all_joined, joined}
use Rattle.vt_queue.specs.Orders.{items_of}
use Rattle.vt_queue.proofs.Gathered.{append_nil}
use Rattle.vt_queue.proofs.OrderLemmas.{order_of, count_of, joined_shares, joined_takes, joined_puts}
use Rattle.vt_load.specs.declared.queued.Queues.{Queues}
use Rattle.vt_load.specs.Readings.{is_readable, AreReadings}
use Rattle.vt_load.specs.Together.{Portion, IsPortion, all_took, all_put}
use Rattle.vt_load.specs.QueuedLoaders.{asks_of, answers_of}
use Rattle.vt_load.specs.Rounds.{Round, AreServed}
use Rattle.vt_load.specs.Streamed.{with_taken, IsStreamedRound}
use Rattle.vt_load.proofs.Gathering.{Gathering, gathering, each_once, joined_puts_kept, joined_takes_kept}

one_or_none : {X : Type 0} (b : Bool) (x : X) (ys xs : List X) → length ys ≤ length xs → length (cond b (x ∷ ys) ys) ≤ length (x ∷ xs)
one_or_none true x ys xs le = omega (arith, le)
one_or_none false x ys xs le = omega (arith, le)

filter_short : {X : Type 0} (p : X → Bool) (xs : List X) → length (filter p xs) ≤ length xs
filter_short p [] = omega arith
filter_short p (x ∷ xs) = one_or_none (p x) x (filter p xs) xs (filter_short p xs)

-- takes may be joined before or after passes that took nothing
taken_joined : (v : PassView Loaded) (got : List (ℕ × Loaded)) (ws : List (PassView Loaded)) → All (λ w. w.took ≡ []) ws
    → all_joined (with_taken v got) ws ≡ with_taken (all_joined v ws) got
taken_joined v got [] all = refl
taken_joined v got (w ∷ ws) all =
    let none : w.took ≡ [] = All-head (λ (u : PassView Loaded). u.took ≡ []) w ws all in
    let rest = taken_joined v got ws (All-tail (λ (u : PassView Loaded). u.took ≡ []) w ws all) in
    let old : PassView Loaded = all_joined v ws in
    ap (λ (u : PassView Loaded). joined u w) rest
    ∙ ap (λ (l : List (ℕ × Loaded)). pass_view (old.shares + w.shares) (old.known ++ w.known) (old.put ++ w.put) l)
    (ap (λ (l : List (ℕ × Loaded)). (old.took ++ got) ++ l) none ∙ append_nil (old.took ++ got)
    ∙ ap (λ (l : List (ℕ × Loaded)). l ++ got) (sym (append_nil old.took) ∙ ap (λ (l : List (ℕ × Loaded)). old.took ++ l) (sym none)))

module _ {F : Type 0} (g : FileMeanings F) (s : Shape) (d : ℕ) where
  as_many : (q : List Request) (x : List Loaded) (f h : F) → AreReadings g s d q x f h → length x ≡ length q
  as_many [] [] f h r = refl
  as_many [] (y ∷ x) f h none = absurd none
  as_many (k ∷ q) [] f h none = absurd none
  as_many (k ∷ q) (y ∷ x) f h r = ap suc (as_many q x r.0 h r.2)

  module _ (known : Option (List ℕ)) where
    few_results : (ps : List (Portion F)) → All (IsPortion g s d known) ps → length (all_put ps) ≤ length (all_took ps)
    few_results [] all = omega arith
    few_results (p ∷ ps) all =
        let is = All-head (IsPortion g s d known) p ps all in
        let rest = few_results ps (All-tail (IsPortion g s d known) p ps all) in
        let n = as_many (filter (is_readable s d) (items_of p.took)) (items_of p.put) p.before p.after is.read in
        let m = filter_short (is_readable s d) (items_of p.took) in
        let a = length-map p.put (λ (e : ℕ × Loaded). e.1) in
        let b = length-map p.took (λ (e : ℕ × Request). e.1) in
        let c = length-append p.put (all_put ps) in
        let e = length-append p.took (all_took ps) in
        omega (arith, rest, n, m, a, b, c, e)

    module _ (q : Queues) (r : Round F) (x : IsStreamedRound g q s d known r) where
      all : Gathering g q s d known r.first r.last
      all = gathering g q s d known r.first r.last x.number x.split.new x.loaders x.loaded

      asks_whole : r.asks_back.shares ≡ all_shares
      asks_whole =
          let a = ap (λ (w : PassView Request). w.shares) x.asks_joined in let b = joined_shares r.asks_left (asks_of r.last) in
          let e = all.asks_shares in let f = x.split.asks_shares in let h = x.asks_all in omega (arith, a, b, e, f, h)

      -- the pass of the results as it would be, had they been taken after
      later : PassView Loaded
      later = all_joined r.answers_left (answers_of r.last)

      end_is : r.answers_end ≡ with_taken later x.got
      unfolding later
      end_is = x.answers_joined ∙ ap (λ (v : PassView Loaded). all_joined v (answers_of r.last)) x.taken
          ∙ taken_joined r.answers_left x.got (answers_of r.last) all.no_takes

      end_whole : r.answers_end.shares ≡ all_shares
      unfolding later
      end_whole =
          let i = ap (λ (w : PassView Loaded). w.shares) end_is in let b = joined_shares r.answers_left (answers_of r.last) in
          let e = all.answers_shares in let f = x.split.answers_shares in let h = x.answers_all in omega (arith, i, b, e, f, h)

      few : length x.got ≤ length r.asks.put
      unfolding later
      few =
          let asks = count_of r.asks_back.put r.asks_back.took r.unread (order_of r.asks_back r.unread x.asks_at_step asks_whole) in
          let answers = count_of r.answers_end.put r.answers_end.took r.over (order_of r.answers_end r.over x.answers_at_step end_whole) in
          let took : length r.asks_back.took ≡ length (all_took all.portions) =
          ap (λ (w : PassView Request). length w.took) x.asks_joined ∙ sym (length_permutation _ _ (joined_takes r.asks_left (asks_of r.last)))
          ∙ ap length ((λ i. (ap (λ (w : PassView Request). w.took) x.split.asks_are ∙ x.no_takes) i ++ all.took i)) in
          let asked : length r.asks_back.put ≡ length r.asks.put =
          ap (λ (w : PassView Request). length w.put) x.asks_joined
          ∙ ap length (kept_puts ∙ ap (λ (w : PassView Request). w.put) x.split.asks_are) in
          let put : length r.answers_end.put ≡ length (all_put all.portions) =
          ap (λ (w : PassView Loaded). length w.put) end_is ∙ sym (length_permutation _ _ (joined_puts r.answers_left (answers_of r.last)))
          ∙ ap length ((λ i. (ap (λ (w : PassView Loaded). w.put) x.split.answers_are ∙ x.no_results) i ++ all.put i)) in
          let got : length r.answers_end.took ≡ length x.got =
          ap (λ (w : PassView Loaded). length w.took) end_is ∙ ap (λ (l : List (ℕ × Loaded)). length (l ++ x.got))
          (joined_takes_kept r.answers_left (answers_of r.last) all.no_takes ∙ ap (λ (w : PassView Loaded). w.took) x.split.answers_are ∙ x.no_answers) in
          let less = few_results all.portions all.are in
          omega (arith, asks, answers, took, asked, put, got, less)
        where
          kept_puts : (all_joined r.asks_left (asks_of r.last)).put ≡ r.asks_left.put
          kept_puts = joined_puts_kept r.asks_left (asks_of r.last) all.no_puts

      pub exact : length x.got ≡ length r.asks.put
      exact = let a = few in let b = x.enough in omega (arith, a, b)

      after : Round F
      after = record r { answers_back = later }

      pub served : AreServed g s d known r
      unfolding after later
      served =
          let once = each_once g q s d known after (record {
            asks_all = x.asks_all;
            no_takes = x.no_takes;
            answers_all = x.answers_all;
            no_results = x.no_results;
            no_answers = x.no_answers;
            readable = x.readable;
            split = x.split;
            loaders = x.loaders;
            number = x.number;
            loaded = x.loaded;
            asks_joined = x.asks_joined;
            asks_at_step = x.asks_at_step;
            answers_joined = refl;
            collected = record { got = x.got; is = end_is; list = x.results; count = exact };
            answers_at_step = x.answers_at_step;
          }) in
          record {
            each = once.each;
            good = once.good;
            none_unread = once.none_unread;
            none_over = once.none_over;
            portions = once.portions;
            befores = once.befores;
            afters = once.afters;
            files = once.files;
            among = once.among;
          }
