-- From what each loader did to what all did together.
use Rattle.std.proofs.Common.{◌≡◌, ℕ, suc, ◌<◌, List, [], ◌∷◌, ◌++◌, length, map, get_or, Option, refl, sym, ap, ◌∙◌, subst, arith}
use Rattle.std.specs.Prelude.{All, filter, IsPermutation}
use Rattle.std.proofs.lemmas.List.Elements.{All-nil, All-cons, All-head, All-tail}
use Rattle.vt_outside.specs.declared.outside.File.{Ghosts as FileMeanings}
use Rattle.vt_tiles.specs.Shape.{Shape}
use Rattle.vt_queue.specs.declared.items.Request.{Request}
use Rattle.vt_queue.specs.declared.items.Loaded.{Loaded}
use Rattle.vt_queue.specs.declared.views.PassView.{PassView}
use Rattle.vt_queue.specs.PassViews.{all_shares, all_joined, shares_of}
use Rattle.vt_queue.specs.Orders.{items_of, gathered, IsFirstInFirstOut}
use Rattle.vt_queue.specs.Queues.{queue_view_of}
use Rattle.vt_queue.proofs.Gathered.{append_nil}
use Rattle.vt_queue.proofs.OrderLemmas.{order_of, joined_shares, joined_takes, joined_puts}
use Rattle.vt_load.specs.declared.queued.Queues.{Queues}
use Rattle.vt_load.specs.Readings.{is_readable, AreReadings}
use Rattle.vt_load.specs.Results.{ticket_and_page, answered_by, IsGood}
use Rattle.vt_load.specs.Together.{Portion, IsPortion, all_took, all_put, Exchange}
use Rattle.vt_load.specs.QueuedLoaders.{QueuedView, asks_of, answers_of, HasLoaded, IsNew, IsLoaderOf}
use Rattle.vt_load.specs.Rounds.{Round, IsRound, AreServed}
use Rattle.vt_load.proofs.Answering.{answered_once}

-- Passes that put nothing leave what was put.
pub joined_puts_kept : {I : Type 0} (v : PassView I) (ws : List (PassView I)) → All (λ w. w.put ≡ []) ws → (all_joined v ws).put ≡ v.put
joined_puts_kept v [] all = refl
joined_puts_kept v (w ∷ ws) all = ap (λ l. (all_joined v ws).put ++ l) (All-head (λ (u : PassView _). u.put ≡ []) w ws all)
    ∙ append_nil (all_joined v ws).put ∙ joined_puts_kept v ws (All-tail (λ (u : PassView _). u.put ≡ []) w ws all)

pub joined_takes_kept : {I : Type 0} (v : PassView I) (ws : List (PassView I)) → All (λ w. w.took ≡ []) ws → (all_joined v ws).took ≡ v.took
joined_takes_kept v [] all = refl
joined_takes_kept v (w ∷ ws) all = ap (λ l. (all_joined v ws).took ++ l) (All-head (λ (u : PassView _). u.took ≡ []) w ws all)
    ∙ append_nil (all_joined v ws).took ∙ joined_takes_kept v ws (All-tail (λ (u : PassView _). u.took ≡ []) w ws all)

module _ {F : Type 0} (g : FileMeanings F) (q : Queues) (s : Shape) (d : ℕ) (known : Option (List ℕ)) where
  -- What loaders did, portion by portion.
  pub record Gathering (a c : List (QueuedView F)) : Type 0 where
    pub portions : List (Portion F)
    pub are : All (IsPortion g s d known) portions
    pub took : gathered (λ w. w.took) (asks_of c) ≡ all_took portions
    pub put : gathered (λ w. w.put) (answers_of c) ≡ all_put portions
    pub no_puts : All (λ w. w.put ≡ []) (asks_of c)
    pub no_takes : All (λ w. w.took ≡ []) (answers_of c)
    pub asks_shares : shares_of (asks_of c) ≡ shares_of (asks_of a)
    pub answers_shares : shares_of (answers_of c) ≡ shares_of (answers_of a)
    pub befores : map (λ (p : Portion F). p.before) portions ≡ map (λ (l : QueuedView F). l.loader.store.file) a
    pub afters : map (λ (p : Portion F). p.after) portions ≡ map (λ (l : QueuedView F). l.loader.store.file) c

  pub gathering : (a c : List (QueuedView F)) → length c ≡ length a → All IsNew a → All (IsLoaderOf g s d known) a
      → ((k : ℕ) (e : QueuedView F) → k < length a → HasLoaded g q (get_or a k e) (get_or c k e)) → Gathering a c
  gathering [] [] same new of did = record {
    portions = [];
    are = All-nil (IsPortion g s d known);
    took = refl;
    put = refl;
    no_puts = All-nil (λ (w : PassView Request). w.put ≡ []);
    no_takes = All-nil (λ (w : PassView Loaded). w.took ≡ []);
    asks_shares = refl;
    answers_shares = refl;
    befores = refl;
    afters = refl;
  }
  gathering [] (m ∷ c) same new of did = absurd (omega (arith, same))
  gathering (l ∷ a) [] same new of did = absurd (omega (arith, same))
  gathering (l ∷ a) (m ∷ c) same new of did =
      let one = did 0 l (omega arith) in
      let fresh = All-head IsNew l a new in
      let is = All-head (IsLoaderOf g s d known) l a of in
      let rest = gathering a c (omega (arith, same)) (All-tail IsNew l a new) (All-tail (IsLoaderOf g s d known) l a of)
      (λ k e below. did (suc k) e (omega (arith, below))) in
      let loads = one.loads in
      let p : Portion F = record { took = loads.took; put = loads.puts.put; before = l.loader.store.file; after = m.loader.store.file } in
      let is_p : IsPortion g s d known p = record {
        known_is = is.known_is;
        read = subst (λ (z : Shape × ℕ). AreReadings g z.0 z.1 (filter (is_readable z.0 z.1) (items_of loads.took)) (items_of loads.puts.put)
            l.loader.store.file m.loader.store.file)
            (λ i. (is.shape i, is.depth i)) loads.puts.read;
      } in
      record {
        portions = p ∷ rest.portions;
        are = All-cons (IsPortion g s d known) p rest.portions is_p rest.are;
        took = (λ i. (ap (λ (w : PassView Request). w.took) loads.is ∙ ap (λ z. z ++ loads.took) fresh.no_takes) i ++ rest.took i);
        put = (λ i. (ap (λ (w : PassView Loaded). w.put) loads.puts.is ∙ ap (λ z. z ++ loads.puts.put) fresh.no_results) i ++ rest.put i);
        no_puts = All-cons (λ (w : PassView Request). w.put ≡ []) (queue_view_of m.asks) (asks_of c)
            (ap (λ (w : PassView Request). w.put) loads.is ∙ fresh.no_asks) rest.no_puts;
        no_takes = All-cons (λ (w : PassView Loaded). w.took ≡ []) (queue_view_of m.answers) (answers_of c)
            (ap (λ (w : PassView Loaded). w.took) loads.puts.is ∙ fresh.no_answers) rest.no_takes;
        asks_shares = (let e = rest.asks_shares in let f = ap (λ (w : PassView Request). w.shares) loads.is in omega (arith, e, f));
        answers_shares = (let e = rest.answers_shares in let f = ap (λ (w : PassView Loaded). w.shares) loads.puts.is in omega (arith, e, f));
        befores = ap (λ z. l.loader.store.file ∷ z) rest.befores;
        afters = ap (λ z. m.loader.store.file ∷ z) rest.afters;
      }

  pub each_once : (r : Round F) → IsRound g q s d known r → AreServed g s d known r
  each_once r x =
      let split = x.split in
      let all = gathering r.first r.last x.number split.new x.loaders x.loaded in
      let asks_whole : r.asks_back.shares ≡ all_shares =
      (let a = ap (λ (w : PassView Request). w.shares) x.asks_joined in let b = joined_shares r.asks_left (asks_of r.last) in
      let e = all.asks_shares in let f = split.asks_shares in let h = x.asks_all in omega (arith, a, b, e, f, h)) in
      let answers_whole : r.answers_back.shares ≡ all_shares =
      (let a = ap (λ (w : PassView Loaded). w.shares) x.answers_joined in let b = joined_shares r.answers_left (answers_of r.last) in
      let e = all.answers_shares in let f = split.answers_shares in let h = x.answers_all in omega (arith, a, b, e, f, h)) in
      let end_whole : r.answers_end.shares ≡ all_shares = ap (λ (w : PassView Loaded). w.shares) x.collected.is ∙ answers_whole in
      let asked : r.asks_back.put ≡ r.asks.put = ap (λ (w : PassView Request). w.put) x.asks_joined
      ∙ joined_puts_kept r.asks_left (asks_of r.last) all.no_puts ∙ ap (λ (w : PassView Request). w.put) split.asks_are in
      let taken : IsPermutation r.asks_back.took (all_took all.portions) =
      subst (λ l. IsPermutation r.asks_back.took l) ((λ i. (ap (λ (w : PassView Request). w.took) split.asks_are ∙ x.no_takes) i ++ all.took i))
      (subst (λ (w : PassView Request). IsPermutation w.took (r.asks_left.took ++ gathered (λ u. u.took) (asks_of r.last))) (sym x.asks_joined)
      (joined_takes r.asks_left (asks_of r.last))) in
      let given : IsPermutation r.answers_back.put (all_put all.portions) =
      subst (λ l. IsPermutation r.answers_back.put l) ((λ i. (ap (λ (w : PassView Loaded). w.put) split.answers_are ∙ x.no_results) i ++ all.put i))
      (subst (λ (w : PassView Loaded). IsPermutation w.put (r.answers_left.put ++ gathered (λ u. u.put) (answers_of r.last))) (sym x.answers_joined)
      (joined_puts r.answers_left (answers_of r.last))) in
      let end_put : r.answers_end.put ≡ r.answers_back.put = ap (λ (w : PassView Loaded). w.put) x.collected.is in
      let end_took : r.answers_end.took ≡ x.collected.got = ap (λ (w : PassView Loaded). w.took) x.collected.is
      ∙ ap (λ l. l ++ x.collected.got) (ap (λ (w : PassView Loaded). w.took) x.answers_joined
      ∙ joined_takes_kept r.answers_left (answers_of r.last) all.no_takes ∙ ap (λ (w : PassView Loaded). w.took) split.answers_are ∙ x.no_answers) in
      let e : Exchange = record {
        asked = r.asks.put;
        taken = r.asks_back.took;
        unread = r.unread;
        given = r.answers_back.put;
        got = x.collected.got;
        over = r.over;
      } in
      let once = answered_once g s d known all.portions e (record {
        requests = subst (λ l. IsFirstInFirstOut l r.asks_back.took r.unread) asked (order_of r.asks_back r.unread x.asks_at_step asks_whole);
        results = subst (λ (z : List (ℕ × Loaded) × List (ℕ × Loaded)). IsFirstInFirstOut z.0 z.1 r.over) (λ i. (end_put i, end_took i))
            (order_of r.answers_end r.over x.answers_at_step end_whole);
        taken_by = taken;
        given_by_all = given;
        portions_are = all.are;
        readable = x.readable;
        as_many = x.collected.count;
      }) in
      let list : r.results ≡ items_of x.collected.got = x.collected.list in
      record {
        portions = all.portions;
        befores = all.befores;
        afters = all.afters;
        each = subst (λ l. IsPermutation (map ticket_and_page (items_of r.asks.put)) (map answered_by l)) (sym list) once.each;
        good = subst (λ l. All (IsGood known s d) l) (sym list) once.good;
        among = subst (λ l. IsPermutation (items_of (all_put all.portions)) l) (sym list) once.among;
        files = once.files;
        none_unread = once.none_unread;
        none_over = once.none_over;
      }
