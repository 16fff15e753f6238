-- Several loaders answer each request once.
use Rattle.std.proofs.Common.{◌≡◌, ℕ, ◌+◌, ◌≤◌, Bool, cond, true, List, [], ◌∷◌, ◌++◌, length, map, Option, Some, None, refl, sym, ap, ◌∙◌, subst, append_assoc, arith}
use Rattle.std.specs.Prelude.{All, filter, IsPermutation, option_map, IfSome}
use Rattle.std.proofs.lemmas.List.{map-append, length-map}
use Rattle.std.proofs.lemmas.List.Elements.{All-nil, All-cons, All-head, All-tail, All-append}
use Rattle.std.proofs.lemmas.List.Sums.{sum_by-cons}
use Rattle.std.proofs.lemmas.List.Sorted.{IsPermutation-sym, IsPermutation-trans, IsPermutation-map, All-permutation, length_permutation}
use Rattle.vt_outside.specs.Counts.{Rose, RoseBy}
use Rattle.vt_outside.specs.Files.{IsPiece, noted}
use Rattle.vt_outside.specs.declared.place.Place.{Place}
use Rattle.vt_outside.specs.declared.outside.File.{Ghosts as FileMeanings}
use Rattle.vt_tiles.specs.Shape.{Shape}
use Rattle.vt_tiles.specs.Format.{tile_start, tile_length}
use Rattle.vt_queue.specs.declared.items.Request.{Request}
use Rattle.vt_queue.specs.declared.items.Loaded.{Loaded}
use Rattle.vt_queue.specs.declared.items.Outcome.{Outcome}
use Rattle.vt_queue.specs.declared.items.Outcome.TheVariants.{Read, Lost}
use Rattle.vt_queue.specs.Orders.{items_of}
use Rattle.vt_queue.proofs.Gathered.{shuffled_as, append_nil, all_cut}
use Rattle.vt_queue.proofs.OrderLemmas.{items_as_put, count_of, facts_of}
use Rattle.vt_load.specs.Readings.{is_readable, is_lost, IsReading, AreReadings}
use Rattle.vt_load.specs.Results.{ticket_and_page, answered_by, read_place, lost_among, IsGood, IsReadFor}
use Rattle.vt_load.specs.Together.{Portion, IsPortion, all_took, all_put, Exchange, IsExchange, IsAnsweredOnce}

filter_all : {X : Type 0} (p : X → Bool) (xs : List X) → All (λ x. p x ≡ true) xs → filter p xs ≡ xs
filter_all p [] all = refl
filter_all p (x ∷ xs) all = ap (λ b. cond b (x ∷ filter p xs) (filter p xs)) (All-head (λ y. p y ≡ true) x xs all)
    ∙ ap (λ l. x ∷ l) (filter_all p xs (All-tail (λ y. p y ≡ true) x xs all))

empty : {X : Type 0} (xs : List X) → length xs ≡ 0 → xs ≡ []
empty [] e = refl
empty (x ∷ xs) e = absurd (omega (arith, e))

-- Places that were asked by one read and by others.
asked_both : (o : Option (List Place)) (p : Place) (ps : List Place)
    → option_map (λ (l : List Place). l ++ ps) (option_map (λ (l : List Place). l ++ p ∷ []) o) ≡ option_map (λ (l : List Place). l ++ (p ∷ ps)) o
asked_both None p ps = refl
asked_both (Some l) p ps = ap Some (append_assoc l (p ∷ []) ps)

asked_none : (o : Option (List Place)) → o ≡ option_map (λ (l : List Place). l ++ []) o
asked_none None = refl
asked_none (Some l) = ap Some (sym (append_nil l))

-- A count that rose by one read and by others.
rose_both : (o : Outcome) (n a b c : ℕ) → (o ≡ Lost → Rose a b) → a ≤ b → RoseBy n b c → RoseBy (cond (is_lost o) 1 0 + n) a c
rose_both Read n a b c lost le more = omega (arith, le, more)
rose_both Lost n a b c lost le more = let up = lost refl in omega (arith, up, le, more)

module _ {F : Type 0} (g : FileMeanings F) (s : Shape) (d : ℕ) where
  -- The results of readings are those of the requests,
  results_of : (q : List Request) (x : List Loaded) (f h : F) → AreReadings g s d q x f h → map answered_by x ≡ map ticket_and_page q
  results_of [] [] f h r = refl
  results_of [] (y ∷ x) f h none = absurd none
  results_of (k ∷ q) [] f h none = absurd none
  results_of (k ∷ q) (y ∷ x) f h r = (λ i. (r.1.ticket i, r.1.page i) ∷ map answered_by x) ∙ ap (λ l. ticket_and_page k ∷ l) (results_of q x r.0 h r.2)

  -- the bytes stay,
  pub bytes_kept : (q : List Request) (x : List Loaded) (f h : F) → AreReadings g s d q x f h → g.bytes h ≡ g.bytes f
  bytes_kept [] [] f h r = ap g.bytes r
  bytes_kept [] (y ∷ x) f h none = absurd none
  bytes_kept (k ∷ q) [] f h none = absurd none
  bytes_kept (k ∷ q) (y ∷ x) f h r = bytes_kept q x r.0 h r.2 ∙ r.1.bytes

  -- each result is good,
  one_good : (known : Option (List ℕ)) (k : Request) (y : Loaded) (f m : F) → g.bytes f ≡ known → IsReading g s d k y f m → IsGood known s d y
  one_good known k y f m is r = record {
    size = r.size;
    tile = λ read. subst (λ (z : Option (List ℕ) × ℕ). IfSome z.0 (λ b. IsPiece b (tile_start s d z.1) y.request.buffer.elements))
        (λ i. (is i, sym r.page i)) (r.tile read);
  }

  all_good : (known : Option (List ℕ)) (q : List Request) (x : List Loaded) (f h : F) → g.bytes f ≡ known → AreReadings g s d q x f h → All (IsGood known s d) x
  all_good known [] [] f h is r = All-nil (IsGood known s d)
  all_good known [] (y ∷ x) f h is none = absurd none
  all_good known (k ∷ q) [] f h is none = absurd none
  all_good known (k ∷ q) (y ∷ x) f h is r = All-cons (IsGood known s d) y x (one_good known k y f r.0 is r.1)
      (all_good known q x r.0 h (r.1.bytes ∙ is) r.2)

  -- and the file was read for the results.
  read_for : (q : List Request) (x : List Loaded) (f h : F) → AreReadings g s d q x f h → IsReadFor g s d x f h
  read_for [] [] f h r = record {
    asked = ap g.asked r ∙ asked_none (g.asked f);
    faults = (let e : g.faults h ≡ g.faults f = ap g.faults r in omega (arith, e));
    bytes = ap g.bytes r;
    name = ap g.name r;
  }
  read_for [] (y ∷ x) f h none = absurd none
  read_for (k ∷ q) [] f h none = absurd none
  read_for (k ∷ q) (y ∷ x) f h r =
      let rest = read_for q x r.0 h r.2 in
      let one = r.1 in
      let here : g.asked r.0 ≡ option_map (λ (l : List Place). l ++ read_place s d y ∷ []) (g.asked f)
      = one.asked ∙ ap (λ p. option_map (noted (tile_start s d p) (tile_length s d) (is_lost y.outcome)) (g.asked f)) (sym one.page) in
      record {
        asked = rest.asked ∙ ap (λ o. option_map (λ (l : List Place). l ++ map (read_place s d) x) o) here
            ∙ asked_both (g.asked f) (read_place s d y) (map (read_place s d) x);
        faults = subst (λ n. RoseBy n (g.faults f) (g.faults h)) (sym (sum_by-cons (λ (z : Loaded). cond (is_lost z.outcome) 1 0) y x))
            (rose_both y.outcome (lost_among x) (g.faults f) (g.faults r.0) (g.faults h) one.lost one.faults rest.faults);
        bytes = rest.bytes ∙ one.bytes;
        name = rest.name ∙ one.name;
      }

  module _ (known : Option (List ℕ)) where
    Readable : Request → Type 0
    Readable request = is_readable s d request ≡ true

    -- In one portion of which all requests can be read,
    same_results : (p : Portion F) → IsPortion g s d known p → All (λ r. is_readable s d r ≡ true) (items_of p.took)
        → map answered_by (items_of p.put) ≡ map ticket_and_page (items_of p.took)
    same_results p is all = results_of (filter (is_readable s d) (items_of p.took)) (items_of p.put) p.before p.after is.read
        ∙ ap (λ l. map ticket_and_page l) (filter_all (is_readable s d) (items_of p.took) all)

    -- and in all of them.
    all_results : (ps : List (Portion F)) → All (IsPortion g s d known) ps → All (λ r. is_readable s d r ≡ true) (items_of (all_took ps))
        → map answered_by (items_of (all_put ps)) ≡ map ticket_and_page (items_of (all_took ps))
    all_results [] all fit = refl
    all_results (p ∷ ps) all fit =
        let item = λ (e : ℕ × Request). e.1 in
        let result = λ (e : ℕ × Loaded). e.1 in
        let both = all_cut (λ r. is_readable s d r ≡ true) (items_of p.took) (items_of (all_took ps))
        (subst (λ l. All (λ r. is_readable s d r ≡ true) l) (map-append item p.took (all_took ps)) fit) in
        ap (λ l. map answered_by l) (map-append result p.put (all_put ps))
        ∙ map-append answered_by (items_of p.put) (items_of (all_put ps))
        ∙ (λ i. same_results p (All-head (IsPortion g s d known) p ps all) both.0 i
        ++ all_results ps (All-tail (IsPortion g s d known) p ps all) both.1 i)
        ∙ sym (map-append ticket_and_page (items_of p.took) (items_of (all_took ps)))
        ∙ ap (λ l. map ticket_and_page l) (sym (map-append item p.took (all_took ps)))

    good_results : (ps : List (Portion F)) → All (IsPortion g s d known) ps → All (IsGood known s d) (items_of (all_put ps))
    good_results [] all = All-nil (IsGood known s d)
    good_results (p ∷ ps) all =
        let is = All-head (IsPortion g s d known) p ps all in
        subst (λ l. All (IsGood known s d) l) (sym (map-append (λ (e : ℕ × Loaded). e.1) p.put (all_put ps)))
        (All-append (IsGood known s d) (items_of p.put) (items_of (all_put ps))
        (all_good known (filter (is_readable s d) (items_of p.took)) (items_of p.put) p.before p.after is.known_is is.read)
        (good_results ps (All-tail (IsPortion g s d known) p ps all)))

    read_files : (ps : List (Portion F)) → All (IsPortion g s d known) ps
        → All (λ (p : Portion F). IsReadFor g s d (items_of p.put) p.before p.after) ps
    read_files [] all = All-nil (λ (p : Portion F). IsReadFor g s d (items_of p.put) p.before p.after)
    read_files (p ∷ ps) all =
        let is = All-head (IsPortion g s d known) p ps all in
        All-cons (λ (q : Portion F). IsReadFor g s d (items_of q.put) q.before q.after) p ps
        (read_for (filter (is_readable s d) (items_of p.took)) (items_of p.put) p.before p.after is.read)
        (read_files ps (All-tail (IsPortion g s d known) p ps all))

    pub answered_once : (ps : List (Portion F)) (e : Exchange) → IsExchange g s d known ps e → IsAnsweredOnce g s d known ps e
    answered_once ps e x =
        let item = λ (y : ℕ × Request). y.1 in
        let result = λ (y : ℕ × Loaded). y.1 in
        let Fits = λ (r : Request). is_readable s d r ≡ true in
        let facts = facts_of Fits e.asked e.taken e.unread x.requests x.readable in
        let took : IsPermutation (items_of e.taken) (items_of (all_took ps)) = IsPermutation-map item _ _ x.taken_by in
        let gave : IsPermutation (items_of e.given) (items_of (all_put ps)) = IsPermutation-map result _ _ x.given_by_all in
        let same = all_results ps x.portions_are (All-permutation Fits _ _ took facts.0) in
        let count_asked = count_of e.asked e.taken e.unread x.requests in
        let count_given = count_of e.given e.got e.over x.results in
        let count_took = length_permutation _ _ x.taken_by in
        let count_gave = length_permutation _ _ x.given_by_all in
        let paired : length (all_put ps) ≡ length (all_took ps) = sym (length-map (all_put ps) result)
        ∙ sym (length-map (items_of (all_put ps)) answered_by) ∙ ap length same
        ∙ length-map (items_of (all_took ps)) ticket_and_page ∙ length-map (all_took ps) item in
        let many = x.as_many in
        let none_unread : e.unread ≡ [] = empty e.unread (omega (arith, count_asked, count_given, count_took, count_gave, paired, many)) in
        let none_over : e.over ≡ [] = empty e.over (omega (arith, count_asked, count_given, count_took, count_gave, paired, many)) in
        let asked : IsPermutation (items_of e.asked) (items_of e.taken) = IsPermutation-trans _ _ _
        (items_as_put e.asked e.taken e.unread x.requests)
        (shuffled_as _ _ (ap (λ l. items_of e.taken ++ l) none_unread ∙ append_nil (items_of e.taken))) in
        let given : IsPermutation (items_of e.given) (items_of e.got) = IsPermutation-trans _ _ _
        (items_as_put e.given e.got e.over x.results)
        (shuffled_as _ _ (ap (λ l. items_of e.got ++ l) none_over ∙ append_nil (items_of e.got))) in
        let among : IsPermutation (items_of (all_put ps)) (items_of e.got) = IsPermutation-trans _ _ _ (IsPermutation-sym _ _ gave) given in
        record {
          none_unread = none_unread;
          none_over = none_over;
          each = IsPermutation-trans _ _ _ (IsPermutation-map ticket_and_page _ _ asked)
              (IsPermutation-trans _ _ _ (IsPermutation-map ticket_and_page _ _ took)
              (IsPermutation-trans _ _ _ (shuffled_as _ _ (sym same)) (IsPermutation-map answered_by _ _ among)));
          good = All-permutation (IsGood known s d) _ _ among (good_results ps x.portions_are);
          among = among;
          files = read_files ps x.portions_are;
        }
