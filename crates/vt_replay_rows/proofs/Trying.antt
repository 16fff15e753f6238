-- Rows that were drawn over the loaded tiles: none, one, some and then others, and those of two parts.
use Rattle.std.proofs.Common.{◌≡◌, ◌≢◌, ◌⊎◌, ℕ, ◌+◌, ◌-◌, ◌*◌, ◌<◌, ◌≤◌, inl, inr, Bool, true, false, Option, List, ◌++◌, length, take, drop, set, get_or, refl, sym, ap, ◌∙◌, subst, length-drop, arith}
use Rattle.std.specs.Prelude.{slice_set}
use Rattle.std.proofs.lemmas.Bool.{cases_lt, false≢true}
use Rattle.std.proofs.lemmas.List.{get_or_append_left, get_or-append_right, get_or-set_same, get_or-set_other, take-append-le, drop-append-le, drop-drop, drop_at}
use Rattle.vt_definitions.specs.Depths.{texel_length}
use Rattle.vt_pictures.specs.DrawTypes.shots.Shot.{Shot}
use Rattle.vt_journal.proofs.Versions.{same_page}
use Rattle.vt_replay_rows.specs.ReplayLookups.{ReplayLookupView, bytes_row}
use Rattle.vt_replay_rows.specs.Trying.{IsRowLeft, IsDone, AreTried, MayTry}
use Rattle.vt_replay_rows.proofs.Places.{row_room}

never_both : (left : List Bool) (k : ℕ) → IsRowLeft left k → IsDone left k → ⊥
never_both left k is done = false≢true (sym done ∙ is)

module _ (line first : ℕ) (shows : ℕ → List ℕ → Type 0) where
  pub tried_none : (left : List Bool) (samples : List ℕ) → AreTried line first shows left left samples samples
  tried_none left samples = record { kept = λ k done. (done, refl); drawn = λ k is done. absurd (never_both left k is done) }

  -- a row that was left was drawn, or it missed tiles
  pub tried_one : (k : ℕ) (left : List Bool) (samples new : List ℕ) (missed : Bool) → k < length left → IsRowLeft left k
      → (missed ≡ false → shows (first + k) (bytes_row line new k)) → ((z : ℕ) → z ≢ k → bytes_row line new z ≡ bytes_row line samples z)
      → AreTried line first shows left (slice_set left k missed) samples new
  tried_one k left samples new missed inside is shown others = record {
    kept = λ z done. kept_at z done (same_page z k);
    drawn = λ z was done. drawn_at z was done (same_page z k);
  }
    where
      other : (z : ℕ) → z ≢ k → get_or (set left k missed) z false ≡ get_or left z false
      other z apart = get_or-set_other left k z missed false apart

      here : get_or (set left k missed) k false ≡ missed
      here = get_or-set_same left k missed false inside

      kept_at : (z : ℕ) → IsDone left z → ((z ≡ k) ⊎ (z ≢ k)) → IsDone (slice_set left k missed) z × (bytes_row line new z ≡ bytes_row line samples z)
      kept_at z done (inl same) = absurd (never_both left k is (subst (IsDone left) same done))
      kept_at z done (inr apart) = (other z apart ∙ done, others z apart)

      drawn_at : (z : ℕ) → IsRowLeft left z → IsDone (slice_set left k missed) z → ((z ≡ k) ⊎ (z ≢ k)) → shows (first + z) (bytes_row line new z)
      drawn_at z was done (inl same) =
          subst (λ (q : ℕ). shows (first + q) (bytes_row line new q)) (sym same) (shown (sym here ∙ subst (IsDone (slice_set left k missed)) same done))
      drawn_at z was done (inr apart) = absurd (never_both left z was (sym (other z apart) ∙ done))

  -- rows were drawn, and then others
  pub tried_then : (left mid after : List Bool) (samples some new : List ℕ) → AreTried line first shows left mid samples some
      → AreTried line first shows mid after some new → AreTried line first shows left after samples new
  tried_then left mid after samples some new a b = record {
    kept = λ k done. (let x = a.kept k done in let y = b.kept k x.0 in (y.0, y.1 ∙ x.1));
    drawn = λ k is done. by k is done (get_or mid k false) refl;
  }
    where
      by : (k : ℕ) → IsRowLeft left k → IsDone after k → (v : Bool) → get_or mid k false ≡ v → shows (first + k) (bytes_row line new k)
      by k is done true e = b.drawn k e done
      by k is done false e = subst (shows (first + k)) (sym (b.kept k e).1) (a.drawn k is e)

-- of rows that count from 0, one was drawn
pub tried_here : (line k : ℕ) (shows : ℕ → List ℕ → Type 0) (left : List Bool) (samples new : List ℕ) → k < length left → IsRowLeft left k
    → shows k (bytes_row line new k) → ((z : ℕ) → z ≢ k → bytes_row line new z ≡ bytes_row line samples z)
    → AreTried line 0 shows left (slice_set left k false) samples new
tried_here line k shows left samples new inside is shown others =
    tried_one line 0 shows k left samples new false inside is
    (λ _. subst (λ (n : ℕ). shows n (bytes_row line new k)) (let e : k ≡ 0 + k = omega arith in e) shown) others

-- and no more are left: each that was left shows what it is to show
pub tried_all : (line k : ℕ) (shows : ℕ → List ℕ → Type 0) (left after : List Bool) (samples new : List ℕ) → AreTried line 0 shows left after samples new
    → ((y : ℕ) → IsDone after y) → IsRowLeft left k → shows k (bytes_row line new k)
tried_all line k shows left after samples new tried done is =
    subst (λ (n : ℕ). shows n (bytes_row line new k)) (let e : 0 + k ≡ k = omega arith in e) (tried.drawn k is (done k))

-- a row that is done stays done
pub stays_done : (line first k : ℕ) (shows : ℕ → List ℕ → Type 0) (left after : List Bool) (samples new : List ℕ)
    → AreTried line first shows left after samples new → IsDone left k → IsDone after k
stays_done line first k shows left after samples new tried done = (tried.kept k done).0

-- rows were drawn of a store whose bytes are known, and then others, when its bytes were still the same
pub tried_on : (line : ℕ) (shows : Option (List ℕ) → ℕ → List ℕ → Type 0) (known later : Option (List ℕ)) (left mid after : List Bool)
    (samples some new : List ℕ) → later ≡ known → AreTried line 0 (shows known) left mid samples some → AreTried line 0 (shows later) mid after some new
    → AreTried line 0 (shows known) left after samples new
tried_on line shows known later left mid after samples some new same a b =
    tried_then line 0 (shows known) left mid after samples some new a (subst (λ (o : Option (List ℕ)). AreTried line 0 (shows o) mid after some new) same b)

-- rows may be drawn, so some of them may be, and the others
module _ (shot : Shot) (v : ReplayLookupView) (first rows bytes : ℕ) (may : MayTry shot v first rows bytes) where
  pub may_front : (cut some : ℕ) → cut ≤ rows → some ≡ cut * (texel_length shot.depth * shot.path.now.width) → MayTry shot v first cut some
  may_front cut some few room = record {
    lawful = may.lawful;
    shape = may.shape;
    depth = may.depth;
    picture = may.picture;
    inside = let a = may.inside in omega (arith, a, few);
    room = room;
  }

  pub may_behind : (next many some : ℕ) → next + many ≡ first + rows → some ≡ many * (texel_length shot.depth * shot.path.now.width)
      → MayTry shot v next many some
  may_behind next many some rest room = record {
    lawful = may.lawful;
    shape = may.shape;
    depth = may.depth;
    picture = may.picture;
    inside = let a = may.inside in omega (arith, a, rest);
    room = room;
  }

-- a row of the first of two runs of bytes, and one of the second
row_front : (line k cut : ℕ) (x y : List ℕ) → k < cut → length x ≡ cut * line → bytes_row line (x ++ y) k ≡ bytes_row line x k
row_front line k cut x y low size =
    let room = row_room k cut line (length x) low size in
    ap (take (k * line + line - k * line)) (drop-append-le (k * line) x y (omega (arith, room)))
    ∙ take-append-le (k * line + line - k * line) (drop (k * line) x) y (omega (arith, room, length-drop (k * line) x))

row_behind : (line k m cut : ℕ) (x y : List ℕ) → k ≡ cut + m → length x ≡ cut * line → bytes_row line (x ++ y) k ≡ bytes_row line y m
row_behind line k m cut x y is size =
    let from : k * line ≡ length x + m * line = ap (λ (n : ℕ). n * line) is ∙ (let e : (cut + m) * line ≡ length x + m * line = omega (arith, size) in e) in
    let count : k * line + line - k * line ≡ m * line + line - m * line = omega arith in
    ap (λ (n : ℕ). take (k * line + line - k * line) (drop n (x ++ y))) from
    ∙ ap (take (k * line + line - k * line)) (sym (drop-drop (m * line) (length x) (x ++ y)) ∙ ap (drop (m * line)) (drop_at x y (length x) refl))
    ∙ ap (λ (n : ℕ). take n (drop (m * line) y)) count

-- the rows of two parts, of which the second begins where the first ends
module _ (line first next cut : ℕ) (shows : ℕ → List ℕ → Type 0) (a b c e : List Bool) (x y u v : List ℕ) (flags : length a ≡ cut)
    (bytes : length x ≡ cut * line) (same : length c ≡ length a) (full : length u ≡ length x) (behind : next ≡ first + cut)
    (low : AreTried line first shows a c x u) (high : AreTried line next shows b e y v) where
  kept_low : (k : ℕ) → k < cut → IsDone (a ++ b) k → IsDone (c ++ e) k × (bytes_row line (u ++ v) k ≡ bytes_row line (x ++ y) k)
  kept_low k below done =
      let is = low.kept k (sym (get_or_append_left a b false k (omega (arith, below, flags))) ∙ done) in (
        get_or_append_left c e false k (omega (arith, below, flags, same)) ∙ is.0,
        row_front line k cut u v below (full ∙ bytes) ∙ is.1 ∙ sym (row_front line k cut x y below bytes),
      )

  kept_high : (k : ℕ) → cut ≤ k → IsDone (a ++ b) k → IsDone (c ++ e) k × (bytes_row line (u ++ v) k ≡ bytes_row line (x ++ y) k)
  kept_high k past done =
      let at : k ≡ cut + (k - cut) = omega (arith, past) in
      let is = high.kept (k - cut) (sym (get_or-append_right a b cut k false flags past) ∙ done) in (
        get_or-append_right c e cut k false (same ∙ flags) past ∙ is.0,
        row_behind line k (k - cut) cut u v at (full ∙ bytes) ∙ is.1 ∙ sym (row_behind line k (k - cut) cut x y at bytes),
      )

  drawn_low : (k : ℕ) → k < cut → IsRowLeft (a ++ b) k → IsDone (c ++ e) k → shows (first + k) (bytes_row line (u ++ v) k)
  drawn_low k below is done =
      subst (shows (first + k)) (sym (row_front line k cut u v below (full ∙ bytes)))
      (low.drawn k (sym (get_or_append_left a b false k (omega (arith, below, flags))) ∙ is)
      (sym (get_or_append_left c e false k (omega (arith, below, flags, same))) ∙ done))

  drawn_high : (k : ℕ) → cut ≤ k → IsRowLeft (a ++ b) k → IsDone (c ++ e) k → shows (first + k) (bytes_row line (u ++ v) k)
  drawn_high k past is done =
      let at : k ≡ cut + (k - cut) = omega (arith, past) in
      let number : next + (k - cut) ≡ first + k = omega (arith, behind, past) in
      subst (λ (n : ℕ). shows n (bytes_row line (u ++ v) k)) number
      (subst (shows (next + (k - cut))) (sym (row_behind line k (k - cut) cut u v at (full ∙ bytes)))
      (high.drawn (k - cut) (sym (get_or-append_right a b cut k false flags past) ∙ is)
      (sym (get_or-append_right c e cut k false (same ∙ flags) past) ∙ done)))

  pub tried_both : (left : List Bool) (samples : List ℕ) → left ≡ a ++ b → samples ≡ x ++ y → AreTried line first shows left (c ++ e) samples (u ++ v)
  tried_both left samples parts pieces =
      subst (λ (l : List Bool). AreTried line first shows l (c ++ e) samples (u ++ v)) (sym parts)
      (subst (λ (s : List ℕ). AreTried line first shows (a ++ b) (c ++ e) s (u ++ v)) (sym pieces)
      (record {
        kept = λ k done. elim (cases_lt k cut) [ inl below ↦ kept_low k below done | inr past ↦ kept_high k past done ];
        drawn = λ k is done. elim (cases_lt k cut) [ inl below ↦ drawn_low k below is done | inr past ↦ drawn_high k past is done ];
      }))
