-- The places of a batch's entries that were read.
use Rattle.std.proofs.Common.{◌≡◌, ◌≢◌, ℕ, zero, suc, ◌<◌, Bool, true, false, List, [], ◌∷◌, map, get_or, refl, sym, arith}
use Rattle.std.specs.List.{All, AllPairs}
use Rattle.std.proofs.lemmas.Bool.{false≢true}
use Rattle.std.proofs.lemmas.List.{get_or_default}
use Rattle.std.proofs.lemmas.List.Elements.{All-cons, All-contains, All-map, All-weaker}
use Rattle.std.proofs.lemmas.List.Kept.{AllPairs-cons}
use Rattle.vt_plan.specs.declared.batches.Planned.{Planned}
use Rattle.vt_evict.specs.Batches.{read_entries}
use Rattle.vt_evict.specs.Stamps.{IsReadAt}
use Rattle.vt_evict.proofs.SettleLemmas.{read_among}

-- the entries that were read are of the batch
reads_all : (P : Planned → Type 0) (batch : List Planned) (lost : List Bool) → All P batch → All P (read_entries batch lost)
reads_all P batch lost all = λ k d inside.
    let same : get_or (read_entries batch lost) k (get_or (read_entries batch lost) k d) ≡ get_or (read_entries batch lost) k d =
    get_or_default (read_entries batch lost) k (get_or (read_entries batch lost) k d) d inside in
    All-contains P batch (get_or (read_entries batch lost) k d) all (read_among batch lost (get_or (read_entries batch lost) k d) (k, inside, same))

tail_at : (e : Planned) (b : Bool) (batch : List Planned) (lost : List Bool) (j p : ℕ) → IsReadAt (e ∷ batch) (b ∷ lost) (suc j) p → IsReadAt batch lost j p
tail_at e b batch lost j p r = record { inside = omega (arith, r.inside); read = r.read; page = r.page }

more_at : (e : Planned) (b : Bool) (batch : List Planned) (lost : List Bool) (j p : ℕ) → IsReadAt batch lost j p → IsReadAt (e ∷ batch) (b ∷ lost) (suc j) p
more_at e b batch lost j p r = record { inside = omega (arith, r.inside); read = r.read; page = r.page }

-- a page is read at earlier places than another
abbrev pub IsReadBefore : List Planned → List Bool → ℕ → ℕ → Type 0
IsReadBefore batch lost p q = (j k : ℕ) → IsReadAt batch lost j p → IsReadAt batch lost k q → j < k

past_lost : (e : Planned) (batch : List Planned) (lost : List Bool) (p q : ℕ) → IsReadBefore batch lost p q → IsReadBefore (e ∷ batch) (true ∷ lost) p q
past_lost e batch lost p q h zero k a b = absurd (false≢true (sym a.read))
past_lost e batch lost p q h (suc j) zero a b = absurd (false≢true (sym b.read))
past_lost e batch lost p q h (suc j) (suc k) a b =
    let less : j < k = h j k (tail_at e true batch lost j p a) (tail_at e true batch lost k q b) in omega arith

past_read : (e : Planned) (batch : List Planned) (lost : List Bool) (p q : ℕ) → e.page ≢ p → e.page ≢ q
    → IsReadBefore batch lost p q → IsReadBefore (e ∷ batch) (false ∷ lost) p q
past_read e batch lost p q np nq h zero k a b = absurd (np (a.page e))
past_read e batch lost p q np nq h (suc j) zero a b = absurd (nq (b.page e))
past_read e batch lost p q np nq h (suc j) (suc k) a b =
    let less : j < k = h j k (tail_at e false batch lost j p a) (tail_at e false batch lost k q b) in omega arith

first_read : (e : Planned) (batch : List Planned) (lost : List Bool) (q : ℕ) → All (λ d. e.page ≢ d.page) batch → e.page ≢ q
    → IsReadBefore (e ∷ batch) (false ∷ lost) e.page q
first_read e batch lost q apart nq j zero a b = absurd (nq (b.page e))
first_read e batch lost q apart nq zero (suc k) a b = omega arith
first_read e batch lost q apart nq (suc j) (suc k) a b = absurd (apart j e (omega (arith, a.inside)) (sym (a.page e)))

abbrev pub pages_read : List Planned → List Bool → List ℕ
pages_read batch lost = map (λ e. e.page) (read_entries batch lost)

pub reads_ordered : (batch : List Planned) (lost : List Bool) → AllPairs (λ a b. (a.page ≢ b.page) × (a.frame ≢ b.frame)) batch
    → AllPairs (IsReadBefore batch lost) (pages_read batch lost)
reads_ordered [] lost h = λ i j d lt within. absurd (omega arith)
reads_ordered (e ∷ batch) [] h = λ i j d lt within. absurd (omega arith)
reads_ordered (e ∷ batch) (true ∷ lost) h =
    let rest = reads_ordered batch lost (λ i j d lt within. h (suc i) (suc j) d (omega arith) (omega arith)) in
    λ i j d lt within. past_lost e batch lost _ _ (rest i j d lt within)
reads_ordered (e ∷ batch) (false ∷ lost) h =
    let rest = reads_ordered batch lost (λ i j d lt within. h (suc i) (suc j) d (omega arith) (omega arith)) in
    let apart : All (λ d. e.page ≢ d.page) batch = λ k d inside. (h 0 (suc k) d (omega arith) (omega arith)).0 in
    let others : All (λ q. e.page ≢ q) (pages_read batch lost) =
    All-map (λ q. e.page ≢ q) (λ d. d.page) (read_entries batch lost) (reads_all (λ d. e.page ≢ d.page) batch lost apart) in
    AllPairs-cons (IsReadBefore (e ∷ batch) (false ∷ lost)) e.page (pages_read batch lost)
    (λ k d inside. first_read e batch lost _ apart (others k d inside))
    (λ i j d lt within. past_read e batch lost _ _ (others i d (omega arith)) (others j d within) (rest i j d lt within))

-- each page that was read is read at a place
abbrev pub HasPlace : List Planned → List Bool → ℕ → Type 0
HasPlace batch lost p = (j : ℕ) × IsReadAt batch lost j p

places_moved : (e : Planned) (b : Bool) (batch : List Planned) (lost : List Bool) (ps : List ℕ) → All (HasPlace batch lost) ps
    → All (HasPlace (e ∷ batch) (b ∷ lost)) ps
places_moved e b batch lost ps h = All-weaker (HasPlace batch lost) (HasPlace (e ∷ batch) (b ∷ lost)) (λ p r. (suc r.0, more_at e b batch lost r.0 p r.1)) ps h

pub reads_at : (batch : List Planned) (lost : List Bool) → All (HasPlace batch lost) (pages_read batch lost)
reads_at [] lost = λ k d inside. absurd (omega arith)
reads_at (e ∷ batch) [] = λ k d inside. absurd (omega arith)
reads_at (e ∷ batch) (true ∷ lost) =
    places_moved e true batch lost (pages_read batch lost) (reads_at batch lost)
reads_at (e ∷ batch) (false ∷ lost) =
    All-cons (HasPlace (e ∷ batch) (false ∷ lost)) e.page (pages_read batch lost)
    (0, record { inside = omega arith; read = refl; page = λ d. refl })
    (places_moved e false batch lost (pages_read batch lost) (reads_at batch lost))
