-- The table after a pass does not depend on the order in which its entries came.
use Rattle.std.proofs.Common.{◌≡◌, ◌≢◌, ℕ, ◌<◌, ◌≤◌, Bool, true, false, ◌||◌, ◌==◌, ◌⊎◌, inl, inr, List, [], ◌∷◌, ◌++◌, length, Option, Some, None, refl, sym, ap, ◌∙◌, subst, append_assoc, eqb→eq, T, arith}
use Rattle.std.specs.Prelude.{slice_get, slice_index_or, MatchOption, if◌then◌else◌}
use Rattle.std.specs.List.{list_any, range_with_len}
use Rattle.std.proofs.lemmas.Bool.{false≢true, cases_lt}
use Rattle.std.proofs.lemmas.List.{append-nil}
use Rattle.std.proofs.lemmas.List.Sorted.{list_any-IsPermutation}
use Rattle.std.proofs.lemmas.Option.{slice_get_within, get_or_from_slice_get, none-some, same_Some}
use Rattle.vt_pages.specs.Shape.{Shape}
use Rattle.vt_pictures.specs.JournalTypes.changes.Change.{Change}
use Rattle.vt_pictures.specs.JournalTypes.changes.Event.{Event}
use Rattle.vt_pictures.specs.Changes.{Table, changed, newest, IsFree}
use Rattle.vt_pictures.specs.JournalText.{changes_of}
use Rattle.vt_pictures.proofs.Versions.{newest-more}
use Rattle.vt_pictures.proofs.EventLines.{changes_of-append}
use Rattle.vt_evict.specs.PlanTypes.batches.Planned.{Planned}
use Rattle.vt_machine.specs.Outcomes.{IsEntryFor, IsBatchFor, IsVictimOf, group_if, group_at, pass_events, IsOutcome}

same_number : (p q : ℕ) → (p == q) ≡ true → p ≡ q
same_number p q e = eqb→eq p q (subst T (sym e) tt)

-- the table after more changes
applied : Table → List Change → Table
applied m [] = m
applied m (c ∷ cs) = applied (changed m c) cs

applied-none : (m : Table) → applied m [] ≡ m
unfolding applied
applied-none m = refl

newest-applied : (js cs : List Change) → newest (js ++ cs) ≡ applied (newest js) cs
unfolding applied
newest-applied js [] = ap newest (append-nil js)
newest-applied js (c ∷ cs) =
    ap newest (sym (append_assoc js (c ∷ []) cs)) ∙ newest-applied (js ++ c ∷ []) cs ∙ ap (λ (m : Table). applied m cs) (newest-more js c)

applied-append : (m : Table) (cs ds : List Change) → applied m (cs ++ ds) ≡ applied (applied m cs) ds
unfolding applied
applied-append m [] ds = refl
applied-append m (c ∷ cs) ds = applied-append (changed m c) cs ds

-- an entry's victim is this page
is_victim_page : Option ℕ → ℕ → Bool
is_victim_page None p = false
is_victim_page (Some v) p = p == v

-- an entry that was read changes this page
touches : Option Planned → Bool → ℕ → Bool
touches None lost p = false
touches (Some e) true p = false
touches (Some e) false p = p == e.page || is_victim_page e.victim p

-- what an entry that was read gives a page that it changes
gives : Option Planned → ℕ → Option ℕ
gives None p = None
gives (Some e) p = if p == e.page then Some e.frame else None

plain_page : (b : Bool) (x y : Option ℕ) → (b || false) ≡ false → (if b then x else y) ≡ y
plain_page true x y e = absurd (false≢true (sym e))
plain_page false x y e = refl

plain_pages : (b c : Bool) (x y z : Option ℕ) → (b || c) ≡ false → (if b then x else (if c then y else z)) ≡ z
plain_pages true c x y z e = absurd (false≢true (sym e))
plain_pages false true x y z e = absurd (false≢true (sym e))
plain_pages false false x y z e = refl

changed_page : (b : Bool) (x y z : Option ℕ) → (b || false) ≡ true → (if b then x else y) ≡ (if b then x else z)
changed_page true x y z e = refl
changed_page false x y z e = absurd (false≢true e)

changed_pages : (b c : Bool) (x y z : Option ℕ) → (b || c) ≡ true → (if b then x else (if c then y else z)) ≡ (if b then x else y)
changed_pages true c x y z e = refl
changed_pages false true x y z e = refl
changed_pages false false x y z e = absurd (false≢true e)

untouched_by : (frame page : ℕ) (victim : Option ℕ) (m : Table) (p : ℕ) → (p == page || is_victim_page victim p) ≡ false
    → applied m (changes_of (group_if (Some (record { page = page; frame = frame; victim = victim })) false)) p ≡ m p
unfolding applied is_victim_page
untouched_by frame page None m p e = plain_page (p == page) (Some frame) (m p) e
untouched_by frame page (Some v) m p e = plain_pages (p == page) (p == v) (Some frame) None (m p) e

touched_by : (frame page : ℕ) (victim : Option ℕ) (m : Table) (p : ℕ) → (p == page || is_victim_page victim p) ≡ true
    → applied m (changes_of (group_if (Some (record { page = page; frame = frame; victim = victim })) false)) p ≡ (if p == page then Some frame else None)
unfolding applied is_victim_page
touched_by frame page None m p e = changed_page (p == page) (Some frame) (m p) None e
touched_by frame page (Some v) m p e = changed_pages (p == page) (p == v) (Some frame) None (m p) e

untouched : (o : Option Planned) (lost : Bool) (m : Table) (p : ℕ) → touches o lost p ≡ false → applied m (changes_of (group_if o lost)) p ≡ m p
unfolding applied touches
untouched None lost m p e = refl
untouched (Some entry) true m p e = refl
untouched (Some entry) false m p e = untouched_by entry.frame entry.page entry.victim m p e

touched : (o : Option Planned) (lost : Bool) (m : Table) (p : ℕ) → touches o lost p ≡ true → applied m (changes_of (group_if o lost)) p ≡ gives o p
unfolding applied touches gives
touched None lost m p e = absurd (false≢true e)
touched (Some entry) true m p e = absurd (false≢true e)
touched (Some entry) false m p e = touched_by entry.frame entry.page entry.victim m p e

exists_of : (test : ℕ → Bool) (xs : List ℕ) → list_any test xs ≡ true → (x : ℕ) × (test x ≡ true)
exists_of test [] e = absurd (false≢true e)
exists_of test (x ∷ xs) e = pick (test x) refl (exists_of test xs) e where
  pick : (b : Bool) → test x ≡ b → (list_any test xs ≡ true → (y : ℕ) × (test y ≡ true)) → (b || list_any test xs) ≡ true → (y : ℕ) × (test y ≡ true)
  pick true is more rest = (x, is)
  pick false is more rest = more rest

-- how a page that an entry changes is in the table before
Standing : Table → Planned → ℕ → Type 0
Standing m e p = ((p ≡ e.page) × (m p ≡ None)) ⊎ (m p ≡ Some e.frame)

victim_stands : (s : Shape) (m : Table) (frame p : ℕ) (victim : Option ℕ) → MatchOption victim (IsFree m frame) (IsVictimOf s m frame)
    → is_victim_page victim p ≡ true → m p ≡ Some frame
unfolding is_victim_page
victim_stands s m frame p None h e = absurd (false≢true e)
victim_stands s m frame p (Some v) h e = ap m (same_number p v e) ∙ h.mapped

stands : (s : Shape) (frames : ℕ) (m : Table) (e : Planned) (p : ℕ) → IsEntryFor s frames m e → touches (Some e) false p ≡ true → Standing m e p
unfolding touches Standing
stands s frames m e p h t = pick (p == e.page) refl t where
  pick : (b : Bool) → (p == e.page) ≡ b → (b || is_victim_page e.victim p) ≡ true → ((p ≡ e.page) × (m p ≡ None)) ⊎ (m p ≡ Some e.frame)
  pick true is rest = let same : p ≡ e.page = same_number p e.page is in inl (same, ap m same ∙ h.unmapped)
  pick false is rest = inr (victim_stands s m e.frame p e.victim h.place rest)

-- two entries of a lawful batch do not change the same page
apart : (m : Table) (e f : Planned) (p : ℕ) → (e.page ≢ f.page) × (e.frame ≢ f.frame) → Standing m e p → Standing m f p → ⊥
unfolding Standing
apart m e f p h (inl a) (inl b) = h.0 (sym a.0 ∙ b.0)
apart m e f p h (inl a) (inr b) = none-some f.frame (sym a.1 ∙ b)
apart m e f p h (inr a) (inl b) = none-some e.frame (sym b.1 ∙ a)
apart m e f p h (inr a) (inr b) = h.1 (same_Some e.frame f.frame (sym a ∙ b))

module _ (s : Shape) (frames : ℕ) (m : Table) (batch : List Planned) (losses : List Bool) (lawful : IsBatchFor s frames m batch) where
  -- a ticket's entry changes a page
  at_ticket : ℕ → ℕ → Bool
  at_ticket p j = touches (slice_get batch j) (slice_index_or losses j true) p

  -- the entry of a ticket that changes a page
  record IsEntryAt (p j : ℕ) : Type 0 where
    pub entry : Planned
    pub is : slice_get batch j ≡ Some entry
    pub stands_so : Standing m entry p

  entry_of : (p j : ℕ) (o : Option Planned) (lost : Bool) → slice_get batch j ≡ o → touches o lost p ≡ true → IsEntryAt p j
  unfolding touches
  entry_of p j None lost e t = absurd (false≢true t)
  entry_of p j (Some entry) true e t = absurd (false≢true t)
  entry_of p j (Some entry) false e t = record {
    entry = entry;
    is = e;
    stands_so = stands s frames m entry p (subst (IsEntryFor s frames m) (get_or_from_slice_get batch j entry entry e)
        (lawful.each j entry (slice_get_within batch j entry e))) t;
  }

  entry_at : (p j : ℕ) → at_ticket p j ≡ true → IsEntryAt p j
  unfolding at_ticket
  entry_at p j t = entry_of p j (slice_get batch j) (slice_index_or losses j true) refl t

  no_later : (p j k : ℕ) → j < k → IsEntryAt p j → IsEntryAt p k → ⊥
  no_later p j k before a b =
      let inside = slice_get_within batch k b.entry b.is in
      let at_j = get_or_from_slice_get batch j a.entry a.entry a.is in
      let at_k = get_or_from_slice_get batch k b.entry a.entry b.is in
      apart m a.entry b.entry p
      (subst (λ (e : Planned). (e.page ≢ b.entry.page) × (e.frame ≢ b.entry.frame)) at_j
      (subst (λ (f : Planned). ((slice_index_or batch j a.entry).page ≢ f.page)
      × ((slice_index_or batch j a.entry).frame ≢ f.frame)) at_k (lawful.apart j k a.entry before inside)))
      a.stands_so b.stands_so

  -- only one ticket changes a page
  one_ticket : (p j k : ℕ) → at_ticket p j ≡ true → at_ticket p k ≡ true → j ≡ k
  one_ticket p j k a b = order (cases_lt j k) (cases_lt k j) where
    order : (j < k) ⊎ (k ≤ j) → (k < j) ⊎ (j ≤ k) → j ≡ k
    order (inl before) o = absurd (no_later p j k before (entry_at p j a) (entry_at p k b))
    order (inr least) (inl after) = absurd (no_later p k j after (entry_at p k b) (entry_at p j a))
    order (inr least) (inr most) = omega arith

  -- the table after the groups of tickets
  after_tickets : Table → List ℕ → Table
  after_tickets n [] = n
  after_tickets n (j ∷ order) = after_tickets (applied n (changes_of (group_at batch losses j))) order

  tickets : (n : Table) (order : List ℕ) → applied n (changes_of (pass_events batch losses order)) ≡ after_tickets n order
  unfolding after_tickets
  tickets n [] = applied-none n
  tickets n (j ∷ order) =
      ap (applied n) (changes_of-append (group_at batch losses j) (pass_events batch losses order))
      ∙ applied-append n (changes_of (group_at batch losses j)) (changes_of (pass_events batch losses order))
      ∙ tickets (applied n (changes_of (group_at batch losses j))) order

  untouched_at : (j : ℕ) (n : Table) (p : ℕ) → at_ticket p j ≡ false → applied n (changes_of (group_at batch losses j)) p ≡ n p
  unfolding at_ticket
  untouched_at j n p e = untouched (slice_get batch j) (slice_index_or losses j true) n p e

  touched_at : (j : ℕ) (n : Table) (p : ℕ) → at_ticket p j ≡ true → applied n (changes_of (group_at batch losses j)) p ≡ gives (slice_get batch j) p
  unfolding at_ticket
  touched_at j n p e = touched (slice_get batch j) (slice_index_or losses j true) n p e

  stays : (order : List ℕ) (n : Table) (p : ℕ) → list_any (at_ticket p) order ≡ false → after_tickets n order p ≡ n p
  unfolding after_tickets
  stays [] n p none = refl
  stays (j ∷ order) n p none =
      pick (at_ticket p j) refl (stays order (applied n (changes_of (group_at batch losses j))) p) none where
        pick : (b : Bool) → at_ticket p j ≡ b
            → (list_any (at_ticket p) order ≡ false → after_tickets (applied n (changes_of (group_at batch losses j))) order p ≡ applied n
            (changes_of (group_at batch losses j)) p)
            → (b || list_any (at_ticket p) order) ≡ false
            → after_tickets (applied n (changes_of (group_at batch losses j))) order p ≡ n p
        pick true is more rest = absurd (false≢true (sym rest))
        pick false is more rest = more rest ∙ untouched_at j n p is

  -- a page that one of the tickets changes has what that one gives it
  becomes : (order : List ℕ) (n : Table) (p : ℕ) (v : Option ℕ) → ((j : ℕ) → at_ticket p j ≡ true → gives (slice_get batch j) p ≡ v)
      → list_any (at_ticket p) order ≡ true → after_tickets n order p ≡ v
  unfolding after_tickets
  becomes [] n p v same some = absurd (false≢true some)
  becomes (j ∷ order) n p v same some =
      pick (list_any (at_ticket p) order) (at_ticket p j) refl refl (becomes order (applied n (changes_of (group_at batch losses j))) p v same)
      (stays order (applied n (changes_of (group_at batch losses j))) p) some where
        pick : (a b : Bool) → list_any (at_ticket p) order ≡ a → at_ticket p j ≡ b
            → (list_any (at_ticket p) order ≡ true → after_tickets (applied n (changes_of (group_at batch losses j))) order p ≡ v)
            → (list_any (at_ticket p) order ≡ false → after_tickets (applied n (changes_of (group_at batch losses j))) order p ≡ applied n
            (changes_of (group_at batch losses j)) p)
            → (b || list_any (at_ticket p) order) ≡ true
            → after_tickets (applied n (changes_of (group_at batch losses j))) order p ≡ v
        pick true b more is later none rest = later more
        pick false true more is later none rest = none more ∙ touched_at j n p is ∙ same j is
        pick false false more is later none rest = absurd (false≢true (sym more ∙ rest))

  one_value : (p j k : ℕ) → at_ticket p j ≡ true → at_ticket p k ≡ true → gives (slice_get batch k) p ≡ gives (slice_get batch j) p
  one_value p j k a b = ap (λ (i : ℕ). gives (slice_get batch i) p) (sym (one_ticket p j k a b))

  -- two orders of the same tickets give each page the same
  same_entry : (order other : List ℕ) (n : Table) (p : ℕ) → list_any (at_ticket p) order ≡ list_any (at_ticket p) other
      → after_tickets n order p ≡ after_tickets n other p
  same_entry order other n p same = pick (list_any (at_ticket p) order) refl where
    pick : (b : Bool) → list_any (at_ticket p) order ≡ b → after_tickets n order p ≡ after_tickets n other p
    pick true is =
        let j = exists_of (at_ticket p) order is in
        becomes order n p (gives (slice_get batch j.0) p) (λ k t. one_value p j.0 k j.1 t) is
        ∙ sym (becomes other n p (gives (slice_get batch j.0) p) (λ k t. one_value p j.0 k j.1 t) (sym same ∙ is))
    pick false is = stays order n p is ∙ sym (stays other n p (sym same ∙ is))

pub any_order : (s : Shape) (frames : ℕ) (js : List Change) (batch : List Planned) (losses : List Bool) (events others : List Event)
    → IsBatchFor s frames (newest js) batch → IsOutcome batch losses events → IsOutcome batch losses others
    → newest (js ++ changes_of events) ≡ newest (js ++ changes_of others)
any_order s frames js batch losses events others lawful one two =
    let m : Table = newest js in
    let alike = λ (p : ℕ). same_entry s frames m batch losses lawful one.order two.order m p
    (sym (list_any-IsPermutation (at_ticket s frames m batch losses lawful p) (range_with_len 0 (length batch)) one.order one.each_once)
    ∙ list_any-IsPermutation (at_ticket s frames m batch losses lawful p) (range_with_len 0 (length batch)) two.order two.each_once) in
    newest-applied js (changes_of events) ∙ ap (λ (es : List Event). applied m (changes_of es)) one.groups ∙ tickets s frames m batch losses lawful m one.order
    ∙ (λ i p. alike p i)
    ∙ sym (newest-applied js (changes_of others) ∙ ap (λ (es : List Event). applied m (changes_of es)) two.groups
    ∙ tickets s frames m batch losses lawful m two.order)
