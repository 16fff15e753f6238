-- The lines of the pinned pages, read one after another.
use Rattle.std.proofs.Common.{◌≡◌, ◌≢◌, ℕ, zero, suc, ◌+◌, ◌-◌, ◌<◌, ◌≤◌, inl, inr, List, [], ◌∷◌, ◌++◌, length, map, drop, refl, sym, ap, ◌∙◌, subst, arith, append_assoc, Some, None}
use Rattle.std.specs.List.{range_with_len}
use Rattle.std.proofs.lemmas.List.{append-nil}
use Rattle.std.proofs.lemmas.List.FromFn.{length-map-range_with_len, map-range_with_len_more}
use Rattle.vt_text.specs.Lines.{lines_of}
use Rattle.vt_pages.specs.Shape.{Shape}
use Rattle.vt_pages.specs.Pages.{pages_of}
use Rattle.vt_journal.specs.declared.changes.Change.{Change}
use Rattle.vt_journal.specs.declared.changes.Change.TheVariants.{Map, Unmap}
use Rattle.vt_journal.specs.declared.changes.RowLine.{RowLine}
use Rattle.vt_journal.specs.declared.lines.Line.{Line}
use Rattle.vt_journal.specs.declared.lines.Line.TheVariants.{Begins, Makes, Loses, Draws}
use Rattle.vt_journal.specs.declared.parse.JournalError.{JournalError}
use Rattle.vt_journal.specs.declared.parse.JournalError.TheVariants.{BadLine}
use Rattle.vt_journal.specs.Changes.{newest, IsNext}
use Rattle.vt_journal.specs.JournalText.{pinned_change}
use Rattle.vt_journal.specs.JournalFlaws.{Reading, nothing_read, Admits, after, after_all, IsComplete, IsJournalFlawFrom, pinned_by}
use Rattle.vt_journal.specs.JournalReading.{IsReadable, IsLineRead, IsNoLine, Advances, IsJournalRefusal, IsSmall, IsSource, IsHeadBegun, IsHeadWhole, head_reading}
use Rattle.vt_journal.proofs.Versions.{newest-none}
use Rattle.vt_journal.proofs.Stepping.{advance_line, advance_more, refused_later, refused_unread, refused_read}

abbrev made : List Change → ℕ → ℕ → ℕ → List RowLine → Reading
made changes passes picture start rows = record { changes = changes; passes = passes; picture = picture; start = start; rows = rows }

-- the lines of so many pinned pages, and their changes
abbrev pub lines_to : Shape → ℕ → ℕ → List Line
lines_to s pinned place = map (λ i. Makes (i + 1) (pinned_change s pinned i)) (range_with_len 0 place)

abbrev pub changes_to : Shape → ℕ → ℕ → List Change
changes_to s pinned place = map (pinned_change s pinned) (range_with_len 0 place)

after_heads : (s : Shape) (pinned : ℕ) (places : List ℕ) (r : Reading)
    → after_all r (map (λ i. Makes (i + 1) (pinned_change s pinned i)) places) ≡ made (r.changes
    ++ map (pinned_change s pinned) places) r.passes r.picture r.start r.rows
after_heads s pinned [] r = ap (λ cs. made cs r.passes r.picture r.start r.rows) (sym (append-nil r.changes))
after_heads s pinned (i ∷ places) r =
    after_heads s pinned places (after r (Makes (i + 1) (pinned_change s pinned i)))
    ∙ ap (λ cs. made cs r.passes r.picture r.start r.rows) (append_assoc r.changes (pinned_change s pinned i ∷ []) (map (pinned_change s pinned) places))

-- what the lines said
pub spelled_heads : (s : Shape) (pinned place : ℕ) (changes : List Change) → changes ≡ changes_to s pinned place
    → after_all nothing_read (lines_to s pinned place) ≡ head_reading changes
spelled_heads s pinned place changes is = after_heads s pinned (range_with_len 0 place) nothing_read ∙ ap head_reading (sym is)

-- how many pages are pinned by the first of their changes
pub pinned_by_first : (s : Shape) (pinned place : ℕ) → 1 ≤ place → pinned ≤ pages_of s
    → pinned_by s (changes_to s pinned place) ≡ pinned
pinned_by_first s pinned zero some few = absurd (omega arith)
pinned_by_first s pinned (suc n) some few = omega (arith, few)

module _ (s : Shape) (height : ℕ) (text : List ℕ) (limits : IsSource s height) where
  tile : 1 ≤ s.tile
  tile = omega (arith, limits.limits.least_tile)

  nothing_small : IsSmall s height nothing_read
  nothing_small = record { tile = tile; short = limits.short; passes = omega arith; picture = omega arith; changes = omega arith }

  nothing_incomplete : ¬ IsComplete s height nothing_read
  nothing_incomplete whole = omega (arith, (whole.head refl).0)

  -- no first line
  pub no_first : IsNoLine s text 0 → IsJournalFlawFrom s height 1 nothing_read (lines_of (drop 0 text)) (BadLine 1)
  no_first none = refused_unread s height text nothing_read 0 1 nothing_small none (λ _. nothing_incomplete)

  -- what the first line has to be
  first_line : (line : Line) → Admits s height nothing_read line → (p : ℕ) × (line ≡ Makes 1 (Map p 0))
  first_line (Begins n k v) a = absurd (nothing_incomplete a.0)
  first_line (Makes v (Map p f)) a =
      let frame : f ≡ 0 = elim a.1.2 [ inl head ↦ head.next_frame | inr before ↦ absurd (omega (arith, before.0)) ] in
      let version : v ≡ 1 = omega (arith, a.0) in
      (p, ap (λ x. Makes x (Map p f)) version ∙ ap (λ x. Makes 1 (Map p x)) frame)
  first_line (Makes v (Unmap p f)) a = absurd (omega (arith, a.1.3.0))
  first_line (Loses p) a = absurd (omega (arith, a.0.0))
  first_line (Draws row) a = absurd (omega (arith, a.in_pass))

  -- another first line
  pub other_first : (line : Line) (next_at next_number : ℕ) → IsLineRead s text 0 1 line next_at next_number → ((p : ℕ) → line ≢ Makes 1 (Map p 0))
      → IsJournalFlawFrom s height 1 nothing_read (lines_of (drop 0 text)) (BadLine 1)
  other_first line next_at next_number read other =
      refused_read s height text nothing_read 0 1 line next_at next_number tile read (λ a. let first = first_line line a in other first.0 first.1)

  -- the first line
  pub first_read : (p pinned next_at next_number : ℕ) (changes : List Change) → IsLineRead s text 0 1 (Makes 1 (Map p 0)) next_at next_number
      → p < pages_of s → pinned ≡ pages_of s - p → changes ≡ Map p 0 ∷ []
      → IsHeadBegun s height text changes pinned 1 next_at next_number
  first_read p pinned next_at next_number changes read inside pinned_is made_is =
      let page : p ≡ pages_of s - pinned + 0 = omega (arith, pinned_is, inside) in
      let admits : Admits s height nothing_read (Makes 1 (Map p 0)) = (
        refl,
        (inside, omega arith, inl (record { no_pass = refl; next_frame = refl; next_page = λ some. absurd (omega (arith, some)) })),
        (newest-none p, λ q e. let both : None ≡ Some 0 = sym (newest-none q) ∙ e in cc),
      ) in
      record {
        some = omega arith;
        most = omega (arith, pinned_is, inside);
        few = omega (arith, pinned_is);
        changes_are = made_is ∙ ap (λ q. Map q 0 ∷ []) page;
        advances = subst (λ q. Advances s height text nothing_read 0 1 (Makes 1 (Map q 0) ∷ []) next_at next_number) page
            (advance_line s height text nothing_read 0 1 (Makes 1 (Map p 0)) next_at next_number read admits);
      }

  module _ (changes : List Change) (pinned place at number : ℕ) (begun : IsHeadBegun s height text changes pinned place at number) where
    count : length changes ≡ place
    count = ap length begun.changes_are ∙ length-map-range_with_len (pinned_change s pinned) 0 place

    by_first : pinned_by s changes ≡ pinned
    by_first = ap (pinned_by s) begun.changes_are ∙ pinned_by_first s pinned place begun.some begun.few

    small : IsSmall s height (head_reading changes)
    small = record {
      tile = tile;
      short = limits.short;
      passes = omega arith;
      picture = omega arith;
      changes = omega
          (arith, count, begun.most, begun.few, limits.limits.most_pages);
    }

    incomplete : place < pinned → ¬ IsComplete s height (head_reading changes)
    incomplete below whole = omega (arith, (whole.head refl).1, count, by_first)

    -- a refusal after the lines so far
    pub head_refused : (e : JournalError) → IsJournalRefusal s height text (head_reading changes) at number e → IsJournalRefusal s height text nothing_read 0 1 e
    head_refused e refusal =
        refused_later s height text nothing_read 0 1 (lines_to s pinned place) at number e begun.advances
        (subst (λ (r : Reading). IsJournalRefusal s height text r at number e) (sym (spelled_heads s pinned place changes begun.changes_are)) refusal)

    pub no_further : place < pinned → IsNoLine s text at → IsJournalFlawFrom s height number (head_reading changes) (lines_of (drop at text)) (BadLine number)
    no_further below none = refused_unread s height text (head_reading changes) at number small none (λ _. incomplete below)

    -- what the next line has to be
    further_line : (line : Line) → place < pinned → Admits s height (head_reading changes) line
        → (line ≡ Makes (place + 1) (Map (pages_of s - pinned + place) place)) × IsNext (newest changes) (Map (pages_of s - pinned + place) place)
    further_line (Begins n k v) below a = absurd (incomplete below a.0)
    further_line (Makes v (Map p f)) below a =
        elim a.1.2 [
          | inl head ↦
              let frame : f ≡ place = head.next_frame ∙ count in
              let version : v ≡ place + 1 = omega (arith, a.0, count) in
              let page : p ≡ pages_of s - pinned + place = omega (arith, head.next_page (omega (arith, count, begun.some)), count, by_first, begun.few) in (
                ap (λ x. Makes x (Map p f)) version ∙ ap (λ x. Makes (place + 1) (Map x f)) page
                    ∙ ap (λ x. Makes (place + 1) (Map (pages_of s - pinned + place) x)) frame,
                subst (λ x. IsNext (newest changes) (Map x place)) page (subst (λ x. IsNext (newest changes) (Map p x)) frame a.2),
              )
          | inr before ↦ absurd (omega (arith, before.0))
        ]
    further_line (Makes v (Unmap p f)) below a = absurd (omega (arith, a.1.3.0))
    further_line (Loses p) below a = absurd (omega (arith, a.0.0))
    further_line (Draws row) below a = absurd (omega (arith, a.in_pass))

    pub other_further : (line : Line) (next_at next_number : ℕ) → place < pinned → IsLineRead s text at number line next_at next_number
        → (line ≡ Makes (place + 1) (Map (pages_of s - pinned + place) place) → ¬ IsNext (newest changes) (Map (pages_of s - pinned + place) place))
        → IsJournalFlawFrom s height number (head_reading changes) (lines_of (drop at text)) (BadLine number)
    other_further line next_at next_number below read other =
        refused_read s height text (head_reading changes) at number line next_at next_number tile read
        (λ a. let next = further_line line below a in other next.0 next.1)

    pub further_read : (next_at next_number : ℕ) (changes_after : List Change) → place < pinned
        → IsLineRead s text at number (Makes (place + 1) (Map (pages_of s - pinned + place) place)) next_at next_number
        → IsNext (newest changes) (Map (pages_of s - pinned + place) place) → changes_after ≡ changes ++ Map (pages_of s - pinned + place) place ∷ []
        → IsHeadBegun s height text changes_after pinned (place + 1) next_at next_number
    further_read next_at next_number changes_after below read next made_is =
        let page : ℕ = pages_of s - pinned + place in
        let admits : Admits s height (head_reading changes) (Makes (place + 1) (Map page place)) = (
          omega (arith, count),
          (
            omega (arith, below, begun.few),
            frame_inside read.says.readable,
            inl
                (record { no_pass = refl; next_frame = sym count; next_page = λ some. omega (arith, count, by_first, begun.few, below) }),
          ),
          next,
        ) in
        let one = advance_line s height text (head_reading changes) at number (Makes (place + 1) (Map page place)) next_at next_number read admits in
        let rest : Advances s height text (after_all nothing_read (lines_to s pinned place)) at number (Makes (place + 1) (Map page place) ∷ [])
        next_at next_number =
        subst (λ (r : Reading). Advances s height text r at number (Makes (place + 1) (Map page place) ∷ []) next_at next_number)
        (sym (spelled_heads s pinned place changes begun.changes_are)) one in
        record {
          some = omega (arith, begun.some);
          most = omega (arith, below);
          few = begun.few;
          changes_are = made_is ∙ ap (λ cs. cs ++ pinned_change s pinned place ∷ []) begun.changes_are
              ∙ sym (map-range_with_len_more (pinned_change s pinned) 0 place place (omega arith));
          advances = subst (λ (ls : List Line). Advances s height text nothing_read 0 1 ls next_at next_number)
              (sym (map-range_with_len_more (λ i. Makes (i + 1) (pinned_change s pinned i)) 0 place place (omega arith)))
              (advance_more s height text nothing_read 0 1 (lines_to s pinned place) (Makes (place + 1) (Map page place) ∷ []) at number next_at
              next_number begun.advances rest);
        }
      where
        frame_inside : IsReadable s (Makes (place + 1) (Map (pages_of s - pinned + place) place)) → place < 65535
        frame_inside readable = readable.frame_inside

    -- the whole head
    pub head_whole : (pages : ℕ) → pages ≡ pages_of s → place ≡ pinned → IsHeadWhole s height changes pages pinned
    head_whole pages pages_is same = record {
      small = small;
      some = omega (arith, count, begun.some);
      whole = count ∙ same ∙ sym by_first;
      pinned_is = sym by_first;
      pages_is = pages_is;
    }
