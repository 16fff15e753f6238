-- Entering and publishing keep the rule of the one journal.
use Rattle.std.proofs.Common.{◌≡◌, ℕ, zero, suc, ◌+◌, ◌%◌, ◌<◌, ◌≤◌, ◌≢◌, ◌^◌, inl, inr, Option, Some, None, List, [], ◌∷◌, ◌++◌, set, get_or, length, replicate, refl, sym, ap, ◌∙◌, subst, ⊎_elim, le_refl, le_trans, arith, length-append}
use Rattle.std.proofs.Math.Nat.{mod-eq_of_lt}
use Rattle.std.proofs.lemmas.List.{length-set, length-replicate, get_or-set_same, get_or-set_other}
use Rattle.std.proofs.lemmas.List.Elements.{All-nil, All-cons, All-weaker}
use mathlib.Core.Option.{some}
use lib.ListN.{get_elem?}
use Rattle.crossbeam_utils.specs.Register.{Admits, TurnsAt, Forks, Merges}
use Rattle.atomic_table.proofs.Lists.{at_set, at_snoc}
use Rattle.vt_journal.specs.Limits.{most_versions}
use Rattle.vt_journal.specs.declared.changes.Change.{Change}
use Rattle.vt_journal.specs.declared.changes.Change.TheVariants.{Map, Unmap}
use Rattle.vt_journal.specs.Changes.{Table, newest, changed}
use Rattle.vt_journal.specs.Kept.{entry_of, change_frame}
use Rattle.vt_journal.proofs.Versions.{newest-more, newest-none, entry-same, entry-other, same_page}
use Rattle.vt_swap_log.specs.declared.log.Front.{Front}
use Rattle.vt_swap_steps.specs.declared.table.NewestTable.{NewestTable}
use Rattle.vt_swap_steps.specs.declared.table.TableState.{TableState}
use Rattle.vt_swap_steps.specs.declared.table.Operation.{Operation}
use Rattle.vt_swap_steps.specs.declared.rule.Known.{Known}
use Rattle.vt_swap_log.specs.Logs.{changes_in}
use Rattle.vt_swap_steps.specs.Entries.{changed_entries, IsAt}
use Rattle.vt_swap_log.specs.Caches.{Cache, cache_of, AreOfOneLog}
use Rattle.vt_swap_steps.specs.Tables.{shown, applied, journal_of, IsNewestTable, MayPublish}
use Rattle.vt_swap_steps.specs.Rules.{nothing_known, Knows, IsNewestKept, HasEnteredVersion, KnowsItsLog}

-- the entry of a page after another entry was set
entry_set : (entries : List ℕ) (m : Table) (page number : ℕ) (entry : Option ℕ) → entry_of number ≡ entry
    → ((p : ℕ) → p < length entries → entry_of (get_or entries p 0) ≡ m p)
    → (n : Table) → n page ≡ entry → ((q : ℕ) → q ≢ page → n q ≡ m q)
    → (p : ℕ) → p < length (set entries page number) → entry_of (get_or (set entries page number) p 0) ≡ n p
entry_set entries m page number entry is all n here there p inside =
    let within : p < length entries = omega (arith, inside, length-set entries page number) in
    elim (same_page p page) [
      | inl same ↦
          let read : get_or (set entries page number) p 0 ≡ number =
          ap (λ (k : ℕ). get_or (set entries page number) k 0) same ∙ get_or-set_same entries page number 0 (omega (arith, within, same)) in
          ap entry_of read ∙ (is ∙ (sym here ∙ ap n (sym same)))
      | inr other ↦ ap entry_of (get_or-set_other entries page p number 0 other) ∙ (all p within ∙ sym (there p other))
    ]

entries_after : (js : List Change) (c : Change) (entries : List ℕ) → change_frame c + 1 < 2 ^ 32
    → ((p : ℕ) → p < length entries → entry_of (get_or entries p 0) ≡ newest js p)
    → (p : ℕ) → p < length (changed_entries entries c) → entry_of (get_or (changed_entries entries c) p 0) ≡ newest (js ++ c ∷ []) p
entries_after js (Map page frame) entries small all p inside =
    let m : Table = newest js in
    let n : Table = newest (js ++ Map page frame ∷ []) in
    let is : n ≡ changed m (Map page frame) = newest-more js (Map page frame) in
    let number : (frame + 1) % 2 ^ 32 ≡ suc frame = mod-eq_of_lt small ∙ omega arith in
    entry_set entries m page ((frame + 1) % 2 ^ 32) (Some frame) (ap entry_of number) all n
    (ap (λ (t : Table). t page) is ∙ entry-same m page (Some frame))
    (λ q other. ap (λ (t : Table). t q) is ∙ entry-other m page q (Some frame) other) p inside
entries_after js (Unmap page frame) entries small all p inside =
    let m : Table = newest js in
    let n : Table = newest (js ++ Unmap page frame ∷ []) in
    let is : n ≡ changed m (Unmap page frame) = newest-more js (Unmap page frame) in
    entry_set entries m page 0 None refl all n
    (ap (λ (t : Table). t page) is ∙ entry-same m page None)
    (λ q other. ap (λ (t : Table). t q) is ∙ entry-other m page q None other) p inside

-- the table after one change more
changed_length : (entries : List ℕ) (c : Change) → length (changed_entries entries c) ≡ length entries
changed_length entries (Map page frame) = length-set entries page ((frame + 1) % 2 ^ 32)
changed_length entries (Unmap page frame) = length-set entries page 0

next_at : (pages : ℕ) (js : List Change) (c : Change) (version : ℕ) (entries : List ℕ) → IsAt pages js version entries
    → length (js ++ c ∷ []) ≤ most_versions → change_frame c + 1 < 2 ^ 32
    → IsAt pages (js ++ c ∷ []) ((version + 1) % 2 ^ 64) (changed_entries entries c)
next_at pages js c version entries at early small =
    let n = length-append js (c ∷ []) in
    let is = at.version_is in
    let wrap : (version + 1) % 2 ^ 64 ≡ version + 1 = mod-eq_of_lt (omega (arith, early, n, is)) in
    let count : version + 1 ≡ length (js ++ c ∷ []) = omega (arith, n, is) in
    record {
      count = changed_length entries c ∙ at.count;
      version_is = wrap ∙ count;
      early = early;
      entries_are = entries_after js c entries small at.entries_are;
    }

known_set : (t : NewestTable) (views : List Known) (seat : ℕ) (w : Known) → ((j : ℕ) (k : Known) → get_elem? views j ≡ some k → Knows t k)
    → Knows t w → (j : ℕ) (k : Known) → get_elem? (set views seat w) j ≡ some k → Knows t k
known_set t views seat w all one j k e = ⊎_elim (λ (h : (j ≡ seat) × (w ≡ k)). subst (λ (z : Known). Knows t z) h.1 one)
    (λ (h : (j ≢ seat) × (get_elem? views j ≡ some k)). all j k h.1) (at_set views seat j w k e)

-- who knows nothing
knows_nothing : (t : NewestTable) → Knows t nothing_known
knows_nothing t = record { one_log = λ f is. cc; not_later = All-nil (λ (version : ℕ). version ≤ t.version) }

-- whoever enters sees the whole journal as it is then
pub enters : (seat : ℕ) (v : Known) (x : NewestTable) → TurnsAt IsNewestKept seat v x x HasEnteredVersion
enters seat v x views k at =
    let mine = k.knows seat v at in
    let w : Known = record { front = v.front; entered = x.version ∷ v.entered } in
    let knows : Knows x w = record {
      one_log = mine.one_log;
      not_later = All-cons (λ (version : ℕ). version ≤ x.version) x.version v.entered (le_refl x.version) mine.not_later;
    } in (
      w,
      record { table = k.table; knows = known_set x views seat w k.knows knows },
      record { table = k.table; before = mine; after = refl },
    )

-- what is published later of the same log keeps the rule
moves_on : (seat : ℕ) (v : Known) (x y : NewestTable) → AreOfOneLog y.front x.front → (IsNewestTable x → IsNewestTable y × (x.version ≤ y.version))
    → TurnsAt IsNewestKept seat v x y KnowsItsLog
moves_on seat v x y cache later views k at =
    let next = later k.table in
    let w : Known = record { front = Some y.front; entered = v.entered } in
    let on : (u : Known) → Knows x u → Knows y u = λ u h. record {
      one_log = λ f is. cache ∙ h.one_log f is;
      not_later =
          All-weaker (λ (version : ℕ). version ≤ x.version) (λ (version : ℕ). version ≤ y.version) (λ version low. le_trans low next.1) u.entered h.not_later;
    } in
    let mine = on v (k.knows seat v at) in
    let known : Knows y w = record {
      one_log = λ f is. let same : y.front ≡ f = cc in ap (λ (g : Front). cache_of g) same;
      not_later = mine.not_later;
    } in (
      w,
      record { table = next.0; knows = known_set y views seat w (λ j u e. on u (k.knows j u e)) known },
      refl,
    )

-- the writer publishes nothing new
pub begins : (seat : ℕ) (v : Known) (x y : NewestTable) → shown y ≡ shown x → TurnsAt IsNewestKept seat v x y KnowsItsLog
begins seat v x y same =
    let front : y.front ≡ x.front = ap (λ (s : TableState). s.front) same in
    let version : y.version ≡ x.version = ap (λ (s : TableState). s.version) same in
    moves_on seat v x y (ap (λ (g : Front). cache_of g) front)
    (λ table. (subst (λ (s : TableState). IsAt s.front.pages (changes_in s.front.seen.log) s.version s.entries) (sym same) table, omega (arith, version)))

-- the table after a change that was noted
published_table : (x y : NewestTable) (o : Operation) → AreOfOneLog x.front o.front → changes_in o.front.seen.log ≡ journal_of x.front ++ o.change ∷ []
    → length (changes_in o.front.seen.log) ≤ most_versions → change_frame o.change + 1 < 2 ^ 32 → shown y ≡ applied (shown x) o
    → IsNewestTable x → IsNewestTable y × (x.version ≤ y.version)
published_table x y o cache journal early small same table =
    let js : List Change = journal_of x.front in
    let few : length (js ++ o.change ∷ []) ≤ most_versions = subst (λ (l : List Change). length l ≤ most_versions) journal early in
    let next = next_at x.front.pages js o.change x.version x.entries.items table few small in
    let noted : IsAt x.front.pages (changes_in o.front.seen.log) ((x.version + 1) % 2 ^ 64) (changed_entries x.entries.items o.change) =
    subst (λ (l : List Change). IsAt x.front.pages l ((x.version + 1) % 2 ^ 64) (changed_entries x.entries.items o.change)) (sym journal) next in
    let here : IsAt o.front.pages (changes_in o.front.seen.log) ((x.version + 1) % 2 ^ 64) (changed_entries x.entries.items o.change) =
    subst (λ (c : Cache). IsAt c.pages (changes_in o.front.seen.log) ((x.version + 1) % 2 ^ 64) (changed_entries x.entries.items o.change)) cache noted in
    let is : IsNewestTable y = subst (λ (s : TableState). IsAt s.front.pages (changes_in s.front.seen.log) s.version s.entries) (sym same) here in
    (is, omega (arith, ap (λ (s : TableState). s.version) same, next.version_is, length-append js (o.change ∷ []), table.version_is))

-- the writer publishes a change that was noted
pub publishes : (seat : ℕ) (v : Known) (x y : NewestTable) (o : Operation) (pending : List Operation) → MayPublish x pending o.change o.front
    → shown y ≡ applied (shown x) o → TurnsAt IsNewestKept seat v x y KnowsItsLog
publishes seat v x y o pending may same =
    let front : y.front ≡ o.front = ap (λ (s : TableState). s.front) same in
    moves_on seat v x y (ap (λ (g : Front). cache_of g) front ∙ sym may.cache)
    (published_table x y o may.cache may.journal may.early may.frame same)

pub admits : Admits IsNewestKept nothing_known
admits x views k = record {
  table = k.table;
  knows = λ j u e. ⊎_elim (λ there. k.knows j u there) (λ (same : nothing_known ≡ u). subst (λ (z : Known). Knows x z) same (knows_nothing x))
      (at_snoc views nothing_known u j e);
}

pub forks : (seat : ℕ) (v : Known) → Forks IsNewestKept seat v v v
forks seat v x views k at = record {
  table = k.table;
  knows = λ j u e. ⊎_elim (λ there. known_set x views seat v k.knows (k.knows seat v at) j u there)
      (λ (same : v ≡ u). subst (λ (z : Known). Knows x z) same (k.knows seat v at)) (at_snoc (set views seat v) v u j e);
}

pub merges : (seat : ℕ) (v : Known) (other : ℕ) (w : Known) → Merges IsNewestKept seat v other w (record { front = w.front; entered = v.entered }) nothing_known
merges seat v other w x views k at apart there =
    let both : Known = record { front = w.front; entered = v.entered } in
    let theirs : Knows x w = ⊎_elim (λ (t : (other ≡ seat) × (both ≡ w)). absurd (apart t.0))
    (λ (t : (other ≢ seat) × (get_elem? views other ≡ some w)). k.knows other w t.1) (at_set views seat other both w there) in
    let mine = k.knows seat v at in
    let known : Knows x both = record { one_log = theirs.one_log; not_later = mine.not_later } in
    record {
      table = k.table;
      knows = known_set x (set views seat both) other nothing_known (known_set x views seat both k.knows known) (knows_nothing x);
    }

-- a table that is new
abbrev zeros : ℕ → List ℕ
zeros pages = replicate pages 0

slice_zeros : (pages p : ℕ) → p < length (zeros pages) → get_or (zeros pages) p 0 ≡ 0
slice_zeros zero p h = absurd (omega (arith, h))
slice_zeros (suc n) zero h = refl
slice_zeros (suc n) (suc p) h = slice_zeros n p (omega (arith, h))

none_there : (j : ℕ) (u : Known) → get_elem? [] j ≡ some u → ⊥
none_there j u e = cc

pub kept_first : (t : NewestTable) → t.version ≡ 0 → t.entries.items ≡ replicate t.front.pages 0 → t.front.seen.log ≡ []
    → IsNewestKept t (nothing_known ∷ [])
kept_first t version entries log = record {
  table = record {
    count = ap length entries ∙ length-replicate t.front.pages 0;
    version_is = version ∙ sym (ap (λ l. length (changes_in l)) log);
    early = let n : length (changes_in t.front.seen.log) ≡ 0 = ap (λ l. length (changes_in l)) log in omega (arith, n);
    entries_are = λ p inside.
        ap (λ (l : List ℕ). entry_of (get_or l p 0)) entries
        ∙ (ap entry_of (slice_zeros t.front.pages p (subst (λ (l : List ℕ). p < length l) entries inside))
        ∙ (sym (newest-none p) ∙ sym (ap (λ l. newest (changes_in l) p) log)));
  };
  knows = λ j u e. ⊎_elim (λ there. absurd (none_there j u there)) (λ (same : nothing_known ≡ u). subst (λ (z : Known). Knows t z) same (knows_nothing t))
      (at_snoc [] nothing_known u j e);
}
