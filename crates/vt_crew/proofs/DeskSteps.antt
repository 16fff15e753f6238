-- Each step on a desk keeps its rule.
use Rattle.std.proofs.Common.{◌≡◌, ◌≢◌, ℕ, zero, suc, ◌<◌, List, [], ◌∷◌, ◌++◌, Some, None, true, true≢false, refl, sym, ap, ◌∙◌, subst, ne_eqb, arith}
use Rattle.std.specs.Prelude.{Option, slice_index, slice_set, MatchBool, is_some, nat_eq}
use mathlib.Core.Option.{some, none, some-injective, some-ne-none}
use lib.ListN.{get_elem?}
use prog.Atomic.{either}
use Rattle.atomic_table.specs.Table.{State, Act, keeps, takes, gives, Valid, stepped, carried_after, rest, Allows, Splits, Final, Seen, opening}
use Rattle.vt_crew.specs.declared.views.DeskView.{DeskView}
use Rattle.vt_crew.specs.declared.views.DeskView.TheVariants.{Alone, Fresh, Free, Waiting, Idle, Working, Left}
use Rattle.vt_crew.specs.DeskPhases.{Phase, single, paired, free, asked, working, done, over, ended}
use Rattle.vt_crew.specs.DeskPhases.{home_in, caller_in, hands_in, views_in, phase_state}
use Rattle.vt_crew.specs.DeskEnds.{Seated, IsFreeEnd, WaitsFor, is_waiting, WaitsForSome, IsIdleEnd, HasLeftDesk}
use Rattle.vt_crew.specs.TurnRules.{IsSoundPhase, IsDeskKept}
use Rattle.vt_crew.specs.DeskPlays.{TakesSlot, LaysJob, FindsJob, TellsDone, TakesBack, LeavesDesk}

module _ {J : Type 0} where
  -- which view it is: below 4 of the caller's end, above it of the hand's
  abbrev kind : DeskView J → ℕ
  kind Alone = 0
  kind Fresh = 1
  kind Free = 2
  kind (Waiting j) = 3
  kind Left = 4
  kind Idle = 5
  kind (Working j) = 6

  -- the job that it names
  abbrev job_of : J → DeskView J → J
  job_of d Alone = d
  job_of d Fresh = d
  job_of d Free = d
  job_of d (Waiting j) = j
  job_of d Left = d
  job_of d Idle = d
  job_of d (Working j) = j

  differ : {X : Type 0} (a b : DeskView J) → kind a ≢ kind b → some a ≡ some b → X
  differ a b apart e = absurd (apart (ap kind (some-injective a b e)))

  same_job : (a b : DeskView J) (d : J) → some a ≡ some b → job_of d a ≡ job_of d b
  same_job a b d e = ap (job_of d) (some-injective a b e)

  nobody : {X : Type 0} (v : DeskView J) → none ≡ some v → X
  nobody v e = absurd (some-ne-none v (sym e))

  only : (h v : DeskView J) (m : ℕ) → get_elem? (h ∷ []) m ≡ some v → h ≡ v
  only h v zero at = some-injective h v at
  only h v (suc m) at = nobody v at

  caller_low : (p : Phase J) → kind (caller_in p) < 5
  caller_low single = omega arith
  caller_low paired = omega arith
  caller_low (free n) = omega arith
  caller_low (asked j) = omega arith
  caller_low (working j) = omega arith
  caller_low (done j k) = omega arith
  caller_low over = omega arith
  caller_low ended = omega arith

  hand_high : (p : Phase J) (m : ℕ) (v : DeskView J) → get_elem? (hands_in p) m ≡ some v → 3 < kind v
  hand_high single m v at = nobody v at
  hand_high paired m v at = omega (arith, ap kind (only Idle v m at))
  hand_high (free n) m v at = omega (arith, ap kind (only Idle v m at))
  hand_high (asked j) m v at = omega (arith, ap kind (only Idle v m at))
  hand_high (working j) m v at = omega (arith, ap kind (only (Working j) v m at))
  hand_high (done j k) m v at = omega (arith, ap kind (only Idle v m at))
  hand_high over m v at = omega (arith, ap kind (only Idle v m at))
  hand_high ended m v at = omega (arith, ap kind (only Left v m at))

  one_hand : {X : Type 0} (p : Phase J) (m : ℕ) (v : DeskView J) → get_elem? (hands_in p) (suc m) ≡ some v → X
  one_hand single m v at = nobody v at
  one_hand paired m v at = nobody v at
  one_hand (free n) m v at = nobody v at
  one_hand (asked j) m v at = nobody v at
  one_hand (working j) m v at = nobody v at
  one_hand (done j k) m v at = nobody v at
  one_hand over m v at = nobody v at
  one_hand ended m v at = nobody v at

  -- a caller who waits, waits for a job
  awaited : (v : DeskView J) → is_waiting v ≡ true → (j : J) × (v ≡ Waiting j)
  awaited Alone is = absurd (true≢false (sym is))
  awaited Fresh is = absurd (true≢false (sym is))
  awaited Free is = absurd (true≢false (sym is))
  awaited (Waiting j) is = (j, refl)
  awaited Idle is = absurd (true≢false (sym is))
  awaited (Working j) is = absurd (true≢false (sym is))
  awaited Left is = absurd (true≢false (sym is))

  -- the seat of a caller's view is the first
  at_caller : (id : ℕ) (p : Phase J) (v : DeskView J) → kind v < 4 → get_elem? (views_in p) id ≡ some v → (id ≡ 0) × (some (caller_in p) ≡ some v)
  at_caller zero p v low at = (refl, at)
  at_caller (suc m) p v low at = absurd (omega (arith, low, hand_high p m v at))

  -- and that of a hand's view the second
  at_hand : (id : ℕ) (p : Phase J) (v : DeskView J) → 4 < kind v → get_elem? (views_in p) id ≡ some v → (id ≡ 1) × (get_elem? (hands_in p) 0 ≡ some v)
  at_hand zero p v high at = absurd (omega (arith, high, caller_low p, ap kind (some-injective (caller_in p) v at)))
  at_hand (suc zero) p v high at = (refl, at)
  at_hand (suc (suc m)) p v high at = one_hand p m v at

  -- the slot that an end has, and what is in it once something was put there
  pub has_slot : (m : Seated J) (v : DeskView J) (x : Option J) → m ≡ (v, (0, x) ∷ []) → m.1 ≡ (0, x) ∷ rest m.1
  has_slot m v x is = ap (λ (k : Seated J). k.1) is ∙ ap (λ (k : Seated J). (0, x) ∷ rest k.1) (sym is)

  pub exchanged : (m n : Seated J) (v : DeskView J) (x y : Option J) → m ≡ (v, (0, x) ∷ []) → n ≡ (m.0, (0, y) ∷ rest m.1) → n ≡ (v, (0, y) ∷ [])
  exchanged m n v x y is after = after ∙ ap (λ (k : Seated J). (k.0, (0, y) ∷ rest k.1)) is

  -- what the caller knows once it has laid a job down
  pub laid : (m n : Seated J) (j : J) → m ≡ (Free, (0, Some j) ∷ []) → LaysJob m n → WaitsFor j n
  laid m n j is = subst (λ (k : Seated J). LaysJob k n) is

  -- nothing lies on a desk that an end has left
  home_left : (id : ℕ) (p : Phase J) → get_elem? (views_in p) id ≡ some Left → home_in p ≡ some None
  home_left id single at = refl
  home_left id paired at = refl
  home_left zero (free n) at = differ Free Left (omega arith) at
  home_left (suc m) (free n) at = absurd (omega (arith, ap kind (only Idle Left m at)))
  home_left zero (asked j) at = differ (Waiting j) Left (omega arith) at
  home_left (suc m) (asked j) at = absurd (omega (arith, ap kind (only Idle Left m at)))
  home_left zero (working j) at = differ (Waiting j) Left (omega arith) at
  home_left (suc m) (working j) at = absurd (omega (arith, ap kind (only (Working j) Left m at)))
  home_left zero (done j k) at = differ (Waiting j) Left (omega arith) at
  home_left (suc m) (done j k) at = absurd (omega (arith, ap kind (only Idle Left m at)))
  home_left id over at = refl
  home_left id ended at = refl

  module _ (ready : J → Type 0) (did : J → J → Type 0) where
    -- from this state a step may be made
    abbrev Goes : State (Option J) (DeskView J) → ℕ → Seated J → (ℕ → ℕ) → (ℕ → Seated J → Type 0) → Type 0
    Goes s id me f then = (w : DeskView J) × (a : Act (Option J)) × Valid s.homes me.1 a
        × IsDeskKept ready did (stepped s 0 (f (slice_index s.words 0)) id me.1 w a) × then (slice_index s.words 0) (w, carried_after me.1 a)

    -- it may be made from each state that the rule admits, if it may from each phase
    by_phase : (slots id : ℕ) (me : Seated J) (f : ℕ → ℕ) (then : ℕ → Seated J → Type 0)
        → ((p : Phase J) → IsSoundPhase ready did p → get_elem? (views_in p) id ≡ some me.0 → Goes (phase_state p) id me f then)
        → Allows (IsDeskKept ready did) slots id me 0 f then
    by_phase slots id me f then each s kept n at word =
        subst (λ t. get_elem? t.views id ≡ some me.0 → Goes t id me f then) (sym kept.1) (each kept.0 kept.2) at

    -- a step of the caller
    by_caller : (slots id : ℕ) (me : Seated J) (f : ℕ → ℕ) (then : ℕ → Seated J → Type 0) → kind me.0 < 4
        → ((p : Phase J) → IsSoundPhase ready did p → some (caller_in p) ≡ some me.0 → Goes (phase_state p) 0 me f then)
        → Allows (IsDeskKept ready did) slots id me 0 f then
    by_caller slots id me f then low each = by_phase slots id me f then (λ p fit at.
        let here = at_caller id p me.0 low at in
        subst (λ (i : ℕ). Goes (phase_state p) i me f then) (sym here.0) (each p fit here.1))

    -- a step of the hand
    by_hand : (slots id : ℕ) (me : Seated J) (f : ℕ → ℕ) (then : ℕ → Seated J → Type 0) → 4 < kind me.0
        → ((p : Phase J) → IsSoundPhase ready did p → get_elem? (hands_in p) 0 ≡ some me.0 → Goes (phase_state p) 1 me f then)
        → Allows (IsDeskKept ready did) slots id me 0 f then
    by_hand slots id me f then high each = by_phase slots id me f then (λ p fit at.
        let here = at_hand id p me.0 high at in
        subst (λ (i : ℕ). Goes (phase_state p) i me f then) (sym here.0) (each p fit here.1))

    -- what an end has that found its turn
    pub found : (m n : Seated J) (r : ℕ) → r ≡ 1 → FindsJob ready m r n → (j : J) × (n ≡ (Working j, (0, Some j) ∷ [])) × ready j
    found m n r is = subst (λ (k : ℕ). FindsJob ready m k n) is

    pub got : (m n : Seated J) (r : ℕ) → r ≡ 2 → TakesBack ready did m r n
        → (k : J) × (n ≡ (Free, (0, Some k) ∷ [])) × ((j : J) → WaitsFor j m → did j k)
    got m n r is = subst (λ (k : ℕ). TakesBack ready did m k n) is

    -- what the caller has whose job no hand has begun
    pub regained : (m n : Seated J) (r : ℕ) → r ≡ 1 → TakesBack ready did m r n → (j : J) × (n ≡ (Free, (0, Some j) ∷ [])) × WaitsFor j m × ready j
    regained m n r is = subst (λ (k : ℕ). TakesBack ready did m k n) is

    -- what the word becomes where the hand begins a job that lies there, and where the caller takes it back
    abbrev begins_job : ℕ → ℕ
    begins_job n = either (nat_eq n 1) 4 n

    abbrev ends_job : ℕ → ℕ
    ends_job n = either (nat_eq n 1) 0 n

    -- the hand looks for a job
    nothing_came : (m : Seated J) (n : ℕ) → n ≢ 1 → n ≢ 3 → FindsJob ready m n m
    nothing_came m n a b =
        subst (λ t. MatchBool t ((j : J) × (m ≡ (Working j, (0, Some j) ∷ [])) × ready j) (MatchBool (nat_eq n 3) (HasLeftDesk m) (m ≡ m)))
        (sym (ne_eqb n 1 a))
        (subst (λ t. MatchBool t (HasLeftDesk m) (m ≡ m)) (sym (ne_eqb n 3 b)) refl)

    -- another word than 1 stays
    unchanged : (n k : ℕ) → n ≢ 1 → either (nat_eq n 1) k n ≡ n
    unchanged n k apart = ap (λ b. either b k n) (ne_eqb n 1 apart)

    look_in : (p : Phase J) → IsSoundPhase ready did p → get_elem? (hands_in p) 0 ≡ some Idle
        → Goes (phase_state p) 1 (Idle, []) begins_job (FindsJob ready (Idle, []))
    look_in single fit at = nobody Idle at
    look_in paired fit at = (Idle, keeps, tt, (paired, refl, tt), refl)
    look_in (free n) fit at = (
      Idle,
      keeps,
      tt,
      (free n, ap (λ k. record { words = k ∷ []; homes = none ∷ []; views = Free ∷ Idle ∷ [] }) (unchanged n 4 fit.0), fit),
      nothing_came (Idle, []) n fit.0 fit.1,
    )
    look_in (asked i) fit at = (Working i, takes 0 (Some i), refl, (working i, refl, tt), (i, refl, fit))
    look_in (working i) fit at = differ (Working i) Idle (omega arith) at
    look_in (done i l) fit at = (Idle, keeps, tt, (done i l, refl, fit), refl)
    look_in over fit at = (Left, keeps, tt, (ended, refl, tt), refl)
    look_in ended fit at = differ Left Idle (omega arith) at

    pub looks : (slots id : ℕ) (me : Seated J) → IsIdleEnd me → Allows (IsDeskKept ready did) slots id me 0 begins_job (FindsJob ready me)
    looks slots id me is = subst (λ (m : Seated J). Allows (IsDeskKept ready did) slots id m 0 begins_job (FindsJob ready m)) (sym is)
        (by_hand slots id (Idle, []) begins_job (FindsJob ready (Idle, [])) (omega arith) look_in)

    -- the hand lays the job back that it has done
    tell_in : (j k : J) → did j k → (p : Phase J) → IsSoundPhase ready did p → get_elem? (hands_in p) 0 ≡ some (Working j)
        → Goes (phase_state p) 1 (Working j, (0, Some k) ∷ []) (λ _. 2) (λ _ n. TellsDone n)
    tell_in j k so single fit at = nobody (Working j) at
    tell_in j k so paired fit at = differ Idle (Working j) (omega arith) at
    tell_in j k so (free n) fit at = differ Idle (Working j) (omega arith) at
    tell_in j k so (asked i) fit at = differ Idle (Working j) (omega arith) at
    tell_in j k so (working i) fit at =
        (Idle, gives, tt, (done i k, refl, subst (λ x. did x k) (sym (same_job (Working i) (Working j) j at)) so), refl)
    tell_in j k so (done i l) fit at = differ Idle (Working j) (omega arith) at
    tell_in j k so over fit at = differ Idle (Working j) (omega arith) at
    tell_in j k so ended fit at = differ Left (Working j) (omega arith) at

    pub tells : (slots id : ℕ) (me : Seated J) (j k : J) → me ≡ (Working j, (0, Some k) ∷ []) → did j k
        → Allows (IsDeskKept ready did) slots id me 0 (λ _. 2) (λ _ n. TellsDone n)
    tells slots id me j k is so = subst (λ (m : Seated J). Allows (IsDeskKept ready did) slots id m 0 (λ _. 2) (λ _ n. TellsDone n)) (sym is)
        (by_hand slots id (Working j, (0, Some k) ∷ []) (λ _. 2) (λ _ n. TellsDone n) (omega arith) (tell_in j k so))

    -- the caller lays a job down
    lay_in : (j : J) → ready j → (p : Phase J) → IsSoundPhase ready did p → some (caller_in p) ≡ some Free
        → Goes (phase_state p) 0 (Free, (0, Some j) ∷ []) (λ _. 1) (λ _ n. LaysJob (Free, (0, Some j) ∷ []) n)
    lay_in j may single fit at = differ Alone Free (omega arith) at
    lay_in j may paired fit at = differ Fresh Free (omega arith) at
    lay_in j may (free n) fit at = (Waiting j, gives, tt, (asked j, refl, may), refl)
    lay_in j may (asked i) fit at = differ (Waiting i) Free (omega arith) at
    lay_in j may (working i) fit at = differ (Waiting i) Free (omega arith) at
    lay_in j may (done i l) fit at = differ (Waiting i) Free (omega arith) at
    lay_in j may over fit at = differ Left Free (omega arith) at
    lay_in j may ended fit at = differ Left Free (omega arith) at

    pub lays : (slots id : ℕ) (me : Seated J) (j : J) → me ≡ (Free, (0, Some j) ∷ []) → ready j
        → Allows (IsDeskKept ready did) slots id me 0 (λ _. 1) (λ _ n. LaysJob me n)
    lays slots id me j is may = subst (λ (m : Seated J). Allows (IsDeskKept ready did) slots id m 0 (λ _. 1) (λ _ n. LaysJob m n)) (sym is)
        (by_caller slots id (Free, (0, Some j) ∷ []) (λ _. 1) (λ _ n. LaysJob (Free, (0, Some j) ∷ []) n) (omega arith) (lay_in j may))

    -- the caller takes its job back
    came : (i j k : J) → i ≡ j → did i k → (l : J) → WaitsFor l (Waiting j, []) → did l k
    came i j k same so l is = subst (λ x. did x k) (same ∙ ap (λ (m : Seated J). job_of j m.0) is) so

    take_in : (j : J) (p : Phase J) → IsSoundPhase ready did p → some (caller_in p) ≡ some (Waiting j)
        → Goes (phase_state p) 0 (Waiting j, []) ends_job (TakesBack ready did (Waiting j, []))
    take_in j single fit at = differ Alone (Waiting j) (omega arith) at
    take_in j paired fit at = differ Fresh (Waiting j) (omega arith) at
    take_in j (free n) fit at = differ Free (Waiting j) (omega arith) at
    take_in j (asked i) fit at = (
      Free,
      takes 0 (Some i),
      refl,
      (free 0, refl, (omega arith, omega arith)),
      (i, refl, ap (λ (x : J). (Waiting x, [])) (sym (same_job (Waiting i) (Waiting j) j at)), fit),
    )
    take_in j (working i) fit at =
        (Waiting i, keeps, tt, (working i, refl, tt), ap (λ (x : J). (Waiting x, [])) (same_job (Waiting i) (Waiting j) j at))
    take_in j (done i l) fit at = (
      Free,
      takes 0 (Some l),
      refl,
      (free 2, refl, (omega arith, omega arith)),
      (l, refl, came i j l (same_job (Waiting i) (Waiting j) j at) fit),
    )
    take_in j over fit at = differ Left (Waiting j) (omega arith) at
    take_in j ended fit at = differ Left (Waiting j) (omega arith) at

    comes_to : (slots id : ℕ) (me : Seated J) (j : J) → WaitsFor j me → Allows (IsDeskKept ready did) slots id me 0 ends_job (TakesBack ready did me)
    comes_to slots id me j is = subst (λ (m : Seated J). Allows (IsDeskKept ready did) slots id m 0 ends_job (TakesBack ready did m)) (sym is)
        (by_caller slots id (Waiting j, []) ends_job (TakesBack ready did (Waiting j, [])) (omega arith) (take_in j))

    pub comes : (slots id : ℕ) (me : Seated J) → WaitsForSome me → Allows (IsDeskKept ready did) slots id me 0 ends_job (TakesBack ready did me)
    comes slots id me waits = let job = awaited me.0 waits.0 in comes_to slots id me job.0 (λ i. (job.1 i, waits.1 i))

    -- the caller takes the slot for the first time
    begin_in : (p : Phase J) → IsSoundPhase ready did p → some (caller_in p) ≡ some Fresh
        → Goes (phase_state p) 0 (Fresh, []) (λ n. n) (λ _ n. TakesSlot n)
    begin_in single fit at = differ Alone Fresh (omega arith) at
    begin_in paired fit at = (Free, takes 0 None, refl, (free 0, refl, (omega arith, omega arith)), refl)
    begin_in (free n) fit at = differ Free Fresh (omega arith) at
    begin_in (asked i) fit at = differ (Waiting i) Fresh (omega arith) at
    begin_in (working i) fit at = differ (Waiting i) Fresh (omega arith) at
    begin_in (done i l) fit at = differ (Waiting i) Fresh (omega arith) at
    begin_in over fit at = differ Left Fresh (omega arith) at
    begin_in ended fit at = differ Left Fresh (omega arith) at

    pub begins : (slots id : ℕ) (me : Seated J) → me ≡ (Fresh, []) → Allows (IsDeskKept ready did) slots id me 0 (λ n. n) (λ _ n. TakesSlot n)
    begins slots id me is = subst (λ (m : Seated J). Allows (IsDeskKept ready did) slots id m 0 (λ n. n) (λ _ n. TakesSlot n)) (sym is)
        (by_caller slots id (Fresh, []) (λ n. n) (λ _ n. TakesSlot n) (omega arith) begin_in)

    -- the caller leaves
    leave_in : (p : Phase J) → IsSoundPhase ready did p → some (caller_in p) ≡ some Free
        → Goes (phase_state p) 0 (Free, (0, None) ∷ []) (λ _. 3) (λ _ n. LeavesDesk n)
    leave_in single fit at = differ Alone Free (omega arith) at
    leave_in paired fit at = differ Fresh Free (omega arith) at
    leave_in (free n) fit at = (Left, gives, tt, (over, refl, tt), refl)
    leave_in (asked i) fit at = differ (Waiting i) Free (omega arith) at
    leave_in (working i) fit at = differ (Waiting i) Free (omega arith) at
    leave_in (done i l) fit at = differ (Waiting i) Free (omega arith) at
    leave_in over fit at = differ Left Free (omega arith) at
    leave_in ended fit at = differ Left Free (omega arith) at

    pub leaves : (slots id : ℕ) (me : Seated J) → IsFreeEnd me → Allows (IsDeskKept ready did) slots id me 0 (λ _. 3) (λ _ n. LeavesDesk n)
    leaves slots id me is = subst (λ (m : Seated J). Allows (IsDeskKept ready did) slots id m 0 (λ _. 3) (λ _ n. LeavesDesk n)) (sym is)
        (by_caller slots id (Free, (0, None) ∷ []) (λ _. 3) (λ _ n. LeavesDesk n) (omega arith) leave_in)

    -- a new desk, whose hand's seat is then made
    pub starts : IsDeskKept ready did (opening (0 ∷ []) (None ∷ []) Alone)
    starts = (single, refl, tt)

    abbrev with_pair : State (Option J) (DeskView J) → ℕ → State (Option J) (DeskView J)
    with_pair s id = record { words = s.words; homes = s.homes; views = slice_set s.views id Fresh ++ Idle ∷ [] }

    split_in : (p : Phase J) → IsSoundPhase ready did p → some (caller_in p) ≡ some Alone → IsDeskKept ready did (with_pair (phase_state p) 0)
    split_in single fit at = (paired, refl, tt)
    split_in paired fit at = differ Fresh Alone (omega arith) at
    split_in (free n) fit at = differ Free Alone (omega arith) at
    split_in (asked i) fit at = differ (Waiting i) Alone (omega arith) at
    split_in (working i) fit at = differ (Waiting i) Alone (omega arith) at
    split_in (done i l) fit at = differ (Waiting i) Alone (omega arith) at
    split_in over fit at = differ Left Alone (omega arith) at
    split_in ended fit at = differ Left Alone (omega arith) at

    split_at : (id : ℕ) (p : Phase J) → IsSoundPhase ready did p → get_elem? (views_in p) id ≡ some Alone
        → IsDeskKept ready did (with_pair (phase_state p) id)
    split_at id p fit at =
        let here = at_caller id p Alone (omega arith) at in
        subst (λ (i : ℕ). IsDeskKept ready did (with_pair (phase_state p) i)) (sym here.0) (split_in p fit here.1)

    pub splits : (id : ℕ) (v : DeskView J) → v ≡ Alone → Splits (IsDeskKept ready did) id v Fresh Idle
    splits id v is s kept at =
        subst (λ t. get_elem? t.views id ≡ some Alone → IsDeskKept ready did (with_pair t id)) (sym kept.1) (split_at id kept.0 kept.2)
        (at ∙ ap some is)

    -- what an end finds in the slot that closes the desk, once it has left
    pub is_empty : (id : ℕ) (m : Seated J) (words : List ℕ) (slots : List (Option J)) → HasLeftDesk m
        → Final (Seen (IsDeskKept ready did) id m.0) words slots → get_elem? slots 0 ≡ some None
    is_empty id m words slots left last =
        let s = last.0 in
        let seen : Seen (IsDeskKept ready did) id m.0 s = last.1 in
        let kept : IsDeskKept ready did s = seen.0 in
        let view : get_elem? (views_in kept.0) id ≡ some Left =
        ap (λ (t : State (Option J) (DeskView J)). get_elem? t.views id) (sym kept.1) ∙ (seen.1 ∙ ap (λ (n : Seated J). some n.0) left) in
        last.4 0 None (ap (λ (t : State (Option J) (DeskView J)). get_elem? t.homes 0) kept.1 ∙ ap some (home_left id kept.0 view))

    pub not_there : (x : Option J) (j : J) (slots : List (Option J)) → get_elem? slots 0 ≡ some None → get_elem? slots 0 ≡ some x → x ≡ Some j → ⊥
    not_there x j slots empty here is = true≢false (ap is_some (some-injective (Some j) None (ap some (sym is) ∙ (sym here ∙ empty))))
