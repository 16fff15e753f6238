-- A round of requests whose results were taken by a streamer while the loaders were at work is one of the batch.
use Rattle.std.proofs.Common.{◌≡◌, ℕ, ◌+◌, inl, inr, Bool, List, [], ◌∷◌, ◌++◌, length, map, reverse, refl, sym, ap, ◌∙◌, subst, arith}
use Rattle.std.specs.Prelude.{All, nat_le, is_some, unwrap_or, IsSome}
use Rattle.std.proofs.lemmas.List.{map-append, reverse-append}
use Rattle.std.proofs.lemmas.List.Sorted.{IsPermutation-reverse, IsPermutation-sym, sum_by-IsPermutation, list_any-IsPermutation, All-permutation}
use Rattle.vt_outside.specs.declared.outside.File.{Ghosts as FileMeanings}
use Rattle.vt_outside.specs.Counts.{RoseTogetherBy, count_end}
use Rattle.vt_outside.specs.Places.{times_asked, times_failed}
use Rattle.vt_tiles.specs.Shape.{Shape}
use Rattle.vt_requests.specs.JournalTypes.changes.Event.{Event}
use Rattle.vt_tiles.specs.Format.{tile_length}
use Rattle.vt_tiles.specs.StoreViews.{StoreView}
use Rattle.vt_requests.specs.PlanTypes.batches.Planned.{Planned}
use Rattle.vt_queue.specs.declared.items.Request.{Request}
use Rattle.vt_queue.specs.declared.items.Loaded.{Loaded}
use Rattle.vt_queue.specs.declared.views.PassView.{PassView}
use Rattle.vt_queue.specs.PassViews.{all_joined, all_shares}
use Rattle.vt_queue.specs.Orders.{items_of}
use Rattle.vt_queue.specs.Steps.{IsAtStep}
use Rattle.vt_load.specs.declared.queued.Queues.{Queues}
use Rattle.vt_load.specs.Results.{IsGood}
use Rattle.vt_load.specs.QueuedLoaders.{QueuedView, asks_of, answers_of, stores_of}
use Rattle.vt_load.specs.Rounds.{Round, AreServed}
use Rattle.vt_load.specs.Streamed.{IsStreamedRound}
use Rattle.vt_load.proofs.Streaming.{exact, served}
use Rattle.vt_requests.specs.Outcomes.{lost_count, IsOutcome}
use Rattle.vt_requests.specs.Requests.{FileState, times_planned, lost_entries, counts_of, AreReadFor}
use Rattle.vt_requests.specs.Machines.{file_state, files_of}
use Rattle.vt_requests.specs.BatchRounds.{result_events, IsResultOf, AreLossesOf, BegunRound, IsEndedRound}
use Rattle.vt_requests.proofs.BatchRounds.{results_of_entries, round_outcome, round_read}
use Rattle.vt_requests.specs.TakenResults.{Streams}
use Rattle.vt_queue.proofs.OrderLemmas.{joined_shares}
use Rattle.vt_load.proofs.Gathering.{Gathering, gathering}

-- Files in the other order were read as well.
map_reverse : {X Y : Type 0} (f : X → Y) (xs : List X) → map f (reverse xs) ≡ reverse (map f xs)
map_reverse f [] = refl
map_reverse f (x ∷ xs) = ap (map f) (reverse-append (x ∷ []) xs) ∙ map-append f (reverse xs) (x ∷ []) ∙ ap (λ l. l ++ f x ∷ []) (map_reverse f xs)
    ∙ sym (reverse-append (f x ∷ []) (map f xs))

read_reversed : (s : Shape) (d : ℕ) (batch : List Planned) (losses : List Bool) (before after : List FileState)
    → AreReadFor s d batch losses before after → AreReadFor s d batch losses (reverse before) (reverse after)
read_reversed s d batch losses before after r = record {
  same = record {
    names = map_reverse (λ (f : FileState). f.name) after ∙ ap reverse r.same.names ∙ sym (map_reverse (λ (f : FileState). f.name) before);
    all_known = map_reverse (λ (f : FileState). is_some f.asked) after ∙ ap reverse r.same.all_known ∙ sym (map_reverse (λ (f : FileState). is_some f.asked) before);
  };
  once = λ all_known.
      let all = All-permutation (λ (f : FileState). IsSome f.asked) (reverse before) before (IsPermutation-sym _ _ (IsPermutation-reverse before)) all_known in
      record {
        asked = λ at len.
            let t : FileState → ℕ = λ f. times_asked at len (unwrap_or f.asked []) in
            let a = sum_by-IsPermutation t after (reverse after) (IsPermutation-reverse after) in
            let b = sum_by-IsPermutation t before (reverse before) (IsPermutation-reverse before) in
            a ∙ (r.once all).asked at len ∙ ap (λ n. n + times_planned s d batch at len) (sym b);
        failed = λ at len.
            let t : FileState → ℕ = λ f. times_failed at len (unwrap_or f.asked []) in
            let a = sum_by-IsPermutation t after (reverse after) (IsPermutation-reverse after) in
            let b = sum_by-IsPermutation t before (reverse before) (IsPermutation-reverse before) in
            a ∙ (r.once all).failed at len ∙ ap (λ n. n + times_planned s d (lost_entries batch losses) at len) (sym b);
      };
  faults = subst (λ (z : List ℕ × List ℕ). RoseTogetherBy (lost_count losses) z.0 z.1)
      (λ i. (sym (map_reverse (λ (f : FileState). f.faults) before) i, sym (map_reverse (λ (f : FileState). f.faults) after) i))
      (rose_reversed (lost_count losses) (counts_of before) (counts_of after) r.faults);
} where
  rose_reversed : (n : ℕ) (b a : List ℕ) → RoseTogetherBy n b a → RoseTogetherBy n (reverse b) (reverse a)
  rose_reversed n b a (inl h) =
      let p = sum_by-IsPermutation (λ (x : ℕ). x) a (reverse a) (IsPermutation-reverse a) in
      let q = sum_by-IsPermutation (λ (x : ℕ). x) b (reverse b) (IsPermutation-reverse b) in
      inl (omega (arith, h, p, q))
  rose_reversed n b a (inr any) = inr (sym (list_any-IsPermutation (nat_le count_end) a (reverse a) (IsPermutation-reverse a)) ∙ any)

module _ {F : Type 0} (g : FileMeanings F) (q : Queues) (s : Shape) (batch : List Planned) (asks asks_back : PassView Request)
    (answers answers_back answers_end : PassView Loaded) (last : List (QueuedView F)) (taken : List Bool) (results : List Loaded)
    (unread : List Request) (over : List Loaded)
    (joined : asks_back ≡ all_joined asks (asks_of last)) (at_step : IsAtStep asks_back unread)
    (took : Streams (length batch) answers answers_back taken results) (all : length results ≡ length batch)
    (given : answers_end ≡ all_joined answers_back (answers_of last)) (end_at_step : IsAtStep answers_end over)
    (b : BegunRound F) (ended : IsEndedRound g q s batch asks answers last b) where
  -- the round, with these results
  with_results : List Loaded → Round F
  with_results xs = record {
    asks = b.asks;
    asks_left = asks;
    asks_back = asks_back;
    answers = b.answers;
    answers_left = answers;
    answers_back = answers_back;
    answers_end = answers_end;
    first = b.first;
    last = last;
    results = xs;
    unread = unread;
    over = over;
  }

  is_streamed : IsStreamedRound g q s b.depth b.known (with_results (items_of took.got))
  unfolding with_results
  is_streamed = record {
    asks_all = ended.asked.whole;
    no_takes = ended.asked.no_takes;
    answers_all = ended.answers_all;
    no_results = ended.no_results;
    no_answers = ended.no_answers;
    readable = ended.asked.readable;
    split = ended.split;
    loaders = ended.loaders;
    number = ended.number;
    loaded = ended.loaded;
    asks_joined = joined;
    asks_at_step = at_step;
    got = took.got;
    enough = (let a = ended.asked.count in let m = took.no_more in omega (arith, a, m, all));
    results = refl;
    taken = took.is;
    answers_joined = given;
    answers_at_step = end_at_step;
  }

  -- the results that were kept are those that were taken
  results_are : results ≡ items_of took.got
  unfolding is_streamed with_results
  results_are = took.exact (exact g s b.depth b.known q (with_results (items_of took.got)) is_streamed ∙ ended.asked.count ∙ sym all)

  is_served : AreServed g s b.depth b.known (with_results results)
  is_served = subst (λ (xs : List Loaded). AreServed g s b.depth b.known (with_results xs)) (sym results_are)
      (served g s b.depth b.known q (with_results (items_of took.got)) is_streamed)

  together : Gathering g q s b.depth b.known b.first last
  together = gathering g q s b.depth b.known b.first last ended.number ended.split.new ended.loaders ended.loaded

  -- the passes of the queues are whole again
  pub asks_whole : asks_back.shares ≡ all_shares
  asks_whole =
      let a = ap (λ (w : PassView Request). w.shares) joined in let c = joined_shares asks (asks_of last) in
      let e = together.asks_shares in let f = ended.split.asks_shares in let h = ended.asked.whole in omega (arith, a, c, e, f, h)

  pub answers_whole : answers_end.shares ≡ all_shares
  answers_whole =
      let a = ap (λ (w : PassView Loaded). w.shares) given in let c = joined_shares answers_back (answers_of last) in
      let k = ap (λ (w : PassView Loaded). w.shares) took.is in
      let e = together.answers_shares in let f = ended.split.answers_shares in let h = ended.answers_all in omega (arith, a, c, k, e, f, h)

  -- and nothing is left in the queues
  pub no_asks : IsAtStep asks_back []
  unfolding with_results
  no_asks = subst (λ (l : List Request). IsAtStep asks_back l) is_served.none_unread at_step

  pub no_answers : IsAtStep answers_end []
  unfolding with_results
  no_answers = subst (λ (l : List Loaded). IsAtStep answers_end l) is_served.none_over end_at_step

  pub all_entries : All (IsResultOf batch) results
  unfolding with_results
  all_entries = results_of_entries g s b.depth b.known (with_results results) is_served batch ended.asked.requests

  pub all_good : All (IsGood b.known s b.depth) results
  unfolding with_results
  all_good = is_served.good

  pub all_sizes : All (λ (x : Loaded). length x.request.buffer.elements ≡ tile_length s b.depth) results
  all_sizes k d inside = (all_good k d inside).size

  module _ (losses : List Bool) (losses_are : AreLossesOf batch results losses) where
    pub outcome : (events : List Event) → events ≡ result_events batch results → IsOutcome batch losses events
    unfolding with_results
    outcome events is = round_outcome g s b.depth b.known (with_results results) is_served batch ended.asked.requests losses losses_are events is

    pub read : AreReadFor s b.depth batch losses (files_of g (reverse (stores_of b.first))) (files_of g (reverse (stores_of last)))
    unfolding with_results
    read = subst (λ (z : List FileState × List FileState). AreReadFor s b.depth batch losses z.0 z.1)
        (λ i. (sym (files_reversed b.first) i, sym (files_reversed last) i))
        (read_reversed s b.depth batch losses _ _ (round_read g s b.depth b.known (with_results results) is_served batch ended.asked.requests losses losses_are))
      where
        files_reversed : (ls : List (QueuedView F)) → files_of g (reverse (stores_of ls)) ≡ reverse (files_of g (stores_of ls))
        files_reversed ls = map_reverse (λ (store : StoreView F). file_state g store.file) (stores_of ls)
