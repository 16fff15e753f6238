-- How passes are split off for loaders, and made one again.
use Rattle.std.proofs.Common.{◌≡◌, ℕ, suc, ◌+◌, ◌-◌, ◌/◌, ◌≤◌, List, [], ◌∷◌, ◌++◌, length, map, reverse, Option, refl, sym, ap, ◌∙◌, subst, append_assoc, length-append, arith}
use Rattle.std.specs.Prelude.{All}
use Rattle.std.specs.List.{range_with_len}
use Rattle.std.proofs.Math.Nat.{div-le_of_le-mul}
use Rattle.std.proofs.lemmas.List.{map-append, reverse-append}
use Rattle.std.proofs.lemmas.List.Sorted.{IsPermutation-reverse, IsPermutation-sym, All-permutation}
use Rattle.std.proofs.lemmas.List.Elements.{All-nil, All-cons, All-head, All-tail, All-push}
use Rattle.vt_queue.specs.declared.items.Request.{Request}
use Rattle.vt_queue.specs.declared.items.Loaded.{Loaded}
use Rattle.vt_queue.specs.declared.views.PassView.{PassView}
use Rattle.vt_queue.specs.PassViews.{pass_view, all_shares, split_part, Splits, joined, all_joined, shares_of}
use Rattle.vt_queue.specs.Queues.{queue_view_of, capacity_of}
use Rattle.vt_outside.specs.declared.outside.File.{Ghosts as FileMeanings}
use Rattle.vt_load.specs.declared.queued.Queues.{Queues}
use Rattle.vt_queue.proofs.Gathered.{all_cut}
use Rattle.vt_tiles.specs.Shape.{Shape}
use Rattle.vt_tiles.specs.StoreViews.{StoreView}
use Rattle.vt_load.specs.QueuedLoaders.{QueuedView, AreOf, asks_of, answers_of, stores_of, numbers_of, MayLoad, IsLoaderOf, IsNew, AreSplitOff}

-- What is split off at once is a small part.
pub part_small : (n : ℕ) → n ≤ all_shares → (n - 1) / split_part ≤ all_shares / split_part
part_small n le = div-le_of_le-mul split_part {m = n - 1} {n = all_shares / split_part} (omega (arith, le))

pub shares_more : {I : Type 0} (vs : List (PassView I)) (w : PassView I) → shares_of (vs ++ w ∷ []) ≡ shares_of vs + w.shares
shares_more [] w = omega arith
shares_more (v ∷ vs) w = let e = shares_more vs w in omega (arith, e)

-- The last of a list is joined first.
pub joined_last : {I : Type 0} (v : PassView I) (ws : List (PassView I)) (e : PassView I) → all_joined v (ws ++ e ∷ []) ≡ all_joined (joined v e) ws
joined_last v [] e = refl
joined_last v (w ∷ ws) e = ap (λ u. joined u w) (joined_last v ws e)

pub popped_all : {X : Type 0} (P : X → Type 0) (ls rest : List X) (x : X) → ls ≡ rest ++ x ∷ [] → All P ls → All P rest × P x
popped_all P ls rest x e all = let both = all_cut P rest (x ∷ []) (subst (λ l. All P l) e all) in (both.0, All-head P x [] both.1)

pub popped_joined : {X I : Type 0} (f : X → PassView I) (v u total : PassView I) (ls rest : List X) (x : X) → ls ≡ rest ++ x ∷ []
    → u ≡ joined v (f x) → all_joined v (map f ls) ≡ total → all_joined u (map f rest) ≡ total
popped_joined f v u total ls rest x was is h =
    ap (λ z. all_joined z (map f rest)) is ∙ sym (joined_last v (map f rest) (f x))
    ∙ ap (λ l. all_joined v l) (sym (map-append f rest (x ∷ []))) ∙ ap (λ l. all_joined v (map f l)) (sym was) ∙ h

-- What holds of all images holds of what they are images of.
pub all_unmap : {X Y : Type 0} (P : Y → Type 0) (f : X → Y) (xs : List X) → All P (map f xs) → All (λ x. P (f x)) xs
all_unmap P f [] all = All-nil (λ x. P (f x))
all_unmap P f (x ∷ xs) all = All-cons (λ y. P (f y)) x xs (All-head P (f x) (map f xs) all) (all_unmap P f xs (All-tail P (f x) (map f xs) all))

module _ {F : Type 0} where
  -- Loaders of stores that are alike.
  pub loaders_of : (g : FileMeanings F) (s : Shape) (d : ℕ) (known : Option (List ℕ)) (none stores : List (StoreView F)) (loaders : List (QueuedView F))
      → none ≡ [] → none ++ reverse (stores_of loaders) ≡ stores
      → All (λ (store : StoreView F). (store.shape ≡ s) × (store.depth ≡ d) × (g.bytes store.file ≡ known)) stores → All (IsLoaderOf g s d known) loaders
  loaders_of g s d known none stores loaders empty order all =
      let P : StoreView F → Type 0 = λ store. (store.shape ≡ s) × (store.depth ≡ d) × (g.bytes store.file ≡ known) in
      let turned : All P (reverse (stores_of loaders)) = subst (λ l. All P l) (sym order ∙ ap (λ l. l ++ reverse (stores_of loaders)) empty) all in
      let each = all_unmap P (λ (l : QueuedView F). l.loader.store) loaders
      (All-permutation P _ _ (IsPermutation-sym _ _ (IsPermutation-reverse (stores_of loaders))) turned) in
      λ k e inside. let h = each k e inside in record { shape = h.0; depth = h.1; known_is = h.2 }

  pub split_more : (v v' v'' : PassView Request) (w w' w'' : PassView Loaded) (loaders more : List (QueuedView F)) (l : QueuedView F)
      → AreSplitOff v v' w w' loaders → Splits v' v'' (queue_view_of l.asks) → Splits w' w'' (queue_view_of l.answers)
      → more ≡ loaders ++ l ∷ [] → AreSplitOff v v'' w w'' more
  split_more v v' v'' w w' w'' loaders more l s p q e = record {
    asks_are = p.keeps ∙ ap (λ (z : PassView Request). pass_view v''.shares z.known z.put z.took) s.asks_are;
    asks_shares = (let one = asks_one in let two = p.shares in let three = s.asks_shares in omega (arith, one, two, three));
    answers_are = q.keeps ∙ ap (λ (z : PassView Loaded). pass_view w''.shares z.known z.put z.took) s.answers_are;
    answers_shares = (let one = answers_one in let two = q.shares in let three = s.answers_shares in omega (arith, one, two, three));
    new = subst (λ z. All IsNew z) (sym e) (All-push IsNew loaders l s.new one_new);
  } where
    asks_one : shares_of (asks_of more) ≡ shares_of (asks_of loaders) + (queue_view_of l.asks).shares
    asks_one = ap (λ z. shares_of (asks_of z)) e ∙ ap shares_of (map-append (λ (m : QueuedView F). queue_view_of m.asks) loaders (l ∷ []))
        ∙ shares_more (asks_of loaders) (queue_view_of l.asks)

    answers_one : shares_of (answers_of more) ≡ shares_of (answers_of loaders) + (queue_view_of l.answers).shares
    answers_one = ap (λ z. shares_of (answers_of z)) e ∙ ap shares_of (map-append (λ (m : QueuedView F). queue_view_of m.answers) loaders (l ∷ []))
        ∙ shares_more (answers_of loaders) (queue_view_of l.answers)

    one_new : IsNew l
    one_new = record {
      no_takes = ap (λ (z : PassView Request). z.took) p.knows;
      no_asks = ap (λ (z : PassView Request). z.put) p.knows;
      no_results = ap (λ (z : PassView Loaded). z.put) q.knows;
      no_answers = ap (λ (z : PassView Loaded). z.took) q.knows;
    }

  -- The store of the last loader that was made is before those of the ones made before it.
  pub order_more : (stores rest init : List (StoreView F)) (loaders more : List (QueuedView F)) (x : StoreView F) (l : QueuedView F)
      → stores ≡ rest ++ x ∷ [] → more ≡ loaders ++ l ∷ [] → l.loader.store ≡ x → stores ++ reverse (stores_of loaders) ≡ init
      → rest ++ reverse (stores_of more) ≡ init
  order_more stores rest init loaders more x l was e is h =
      ap (λ k. rest ++ reverse (stores_of k)) e
      ∙ ap (λ k. rest ++ reverse k) (map-append (λ (m : QueuedView F). m.loader.store) loaders (l ∷ []))
      ∙ ap (λ k. rest ++ k) (reverse-append (stores_of loaders) (l.loader.store ∷ []))
      ∙ ap (λ (k : StoreView F). rest ++ (k ∷ reverse (stores_of loaders))) is
      ∙ sym (append_assoc rest (x ∷ []) (reverse (stores_of loaders)))
      ∙ ap (λ k. k ++ reverse (stores_of loaders)) (sym was) ∙ h

  -- The loaders have the numbers of their stores.
  pub none_numbered : (loaders : List (QueuedView F)) (n : ℕ) → loaders ≡ [] → reverse (numbers_of loaders) ≡ range_with_len n (length loaders)
  none_numbered loaders n e = subst (λ k. reverse (numbers_of k) ≡ range_with_len n (length k)) (sym e) refl

  pub numbers_more : (rest : ℕ) (loaders more : List (QueuedView F)) (l : QueuedView F) → more ≡ loaders ++ l ∷ [] → l.loader.loader ≡ rest
      → reverse (numbers_of loaders) ≡ range_with_len (rest + 1) (length loaders) → reverse (numbers_of more) ≡ range_with_len rest (length more)
  numbers_more rest loaders more l e is h =
      let one : suc (length loaders) ≡ length more = omega (arith, ap length e ∙ length-append loaders (l ∷ [])) in
      ap (λ k. reverse (numbers_of k)) e
      ∙ ap reverse (map-append (λ (m : QueuedView F). m.loader.loader) loaders (l ∷ []))
      ∙ reverse-append (numbers_of loaders) (l.loader.loader ∷ [])
      ∙ ap (λ (n : ℕ). n ∷ reverse (numbers_of loaders)) is
      ∙ ap (λ k. rest ∷ k) h
      ∙ ap (range_with_len rest) one

  -- The stores come back in their order.
  pub back_more : (stores more total : List (StoreView F)) (loaders rest : List (QueuedView F)) (x : StoreView F) (l : QueuedView F)
      → loaders ≡ rest ++ l ∷ [] → x ≡ l.loader.store → more ≡ stores ++ x ∷ [] → stores ++ reverse (stores_of loaders) ≡ total
      → more ++ reverse (stores_of rest) ≡ total
  back_more stores more total loaders rest x l was is e h =
      ap (λ k. k ++ reverse (stores_of rest)) e
      ∙ append_assoc stores (x ∷ []) (reverse (stores_of rest))
      ∙ ap (λ (k : StoreView F). stores ++ (k ∷ reverse (stores_of rest))) is
      ∙ ap (λ k. stores ++ k) (sym (reverse-append (stores_of rest) (l.loader.store ∷ [])))
      ∙ ap (λ k. stores ++ reverse k) (sym (map-append (λ (m : QueuedView F). m.loader.store) rest (l ∷ [])))
      ∙ ap (λ k. stores ++ reverse (stores_of k)) (sym was) ∙ h

  -- One more loader may load.
  pub may_load : (g : FileMeanings F) (q : Queues) (loaders more : List (QueuedView F)) (l : QueuedView F) (x : StoreView F)
      → more ≡ loaders ++ l ∷ [] → l.loader.store ≡ x → AreOf q l.asks l.answers → capacity_of q.requests ≤ g.spare x.file
      → All (MayLoad g q) loaders → All (MayLoad g q) more
  may_load g q loaders more l x e is_x of room all = subst (λ k. All (MayLoad g q) k) (sym e)
      (All-push (MayLoad g q) loaders l all (record {
        passes = of;
        room = subst (λ (s : StoreView F). capacity_of q.requests ≤ g.spare s.file) (sym is_x) room;
      }))

  -- Before the first one, none were made.
  pub none_may : (g : FileMeanings F) (q : Queues) (loaders : List (QueuedView F)) → loaders ≡ [] → All (MayLoad g q) loaders
  none_may g q loaders e = subst (λ k. All (MayLoad g q) k) (sym e) (All-nil (MayLoad g q))

  pub none_dealt : (v : PassView Request) (w : PassView Loaded) (loaders : List (QueuedView F)) → loaders ≡ [] → AreSplitOff v v w w loaders
  none_dealt v w loaders e = subst (λ k. AreSplitOff v v w w k) (sym e) (record {
    asks_are = refl;
    asks_shares = omega arith;
    answers_are = refl;
    answers_shares = omega arith;
    new = All-nil IsNew;
  })
