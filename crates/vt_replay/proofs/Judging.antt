-- The first line that is refused, from what the reader answers and the first line that names a picture outside the path.
use Rattle.std.proofs.Common.{◌≡◌, ◌≢◌, ◌⊎◌, ℕ, zero, suc, ◌+◌, ◌<◌, ◌≤◌, inl, inr, List, [], ◌∷◌, ◌++◌, length, map, Option, Some, None, refl, sym, ap, ◌∙◌, subst, arith, min}
use Rattle.std.specs.Prelude.{slice_get, option_map, MatchOption, IfOk, Result, Ok, Err}
use Rattle.std.proofs.lemmas.Bool.{cases_lt}
use Rattle.std.proofs.lemmas.Option.{slice_get-map, slice_get_within}
use Rattle.vt_text.specs.Numbers.{number_spelling}
use Rattle.vt_text.proofs.Spelling.{number_spelling_injective}
use Rattle.vt_pages.specs.Shape.{Shape}
use Rattle.vt_journal.specs.declared.lines.Line.{Line}
use Rattle.vt_journal.specs.declared.lines.Line.TheVariants.{Begins}
use Rattle.vt_journal.specs.declared.parse.JournalError.TheVariants.{BadLine}
use Rattle.vt_journal.specs.JournalText.{Pass, Content, pass_lines, head_lines, content_lines, journal_text}
use Rattle.vt_journal.specs.JournalFlaws.{IsLawfulJournal, IsJournalFlaw}
use Rattle.vt_journal.specs.JournalReading.{line_bytes}
use Rattle.vt_journal.proofs.Contents.{lines_of_content, lawful_has_no_flaw, journal_flaw_unique}
use Rattle.vt_journal.proofs.SpelledLines.{fields_of-line}
use Rattle.vt_journal.proofs.Versions.{slice_get-front}
use Rattle.std.specs.List.{flat_map}
use Rattle.vt_camera.specs.Paths.{PathView}
use Rattle.vt_journal.specs.Texts.{TextView, IsJournalText}
use Rattle.vt_journal.specs.declared.parse.JournalError.TheVariants as journal_error
use Rattle.vt_replay.specs.Outcomes.{IsReplayable}
use Rattle.vt_replay.specs.declared.error.ReplayError.{ReplayError}
use Rattle.vt_replay.specs.declared.error.ReplayError.TheVariants.{BadJournal, NoMemory}
use Rattle.vt_replay.specs.Flaws.{NamesOutside, IsRefusedLine, IsFirstRefused}

-- an element behind a list
behind : {X : Type 0} → (xs ys : List X) (k : ℕ) → slice_get (xs ++ ys) (length xs + k) ≡ slice_get ys k
behind [] ys k = ap (slice_get ys) (let e : 0 + k ≡ k = omega arith in e)
behind (x ∷ xs) ys k =
    ap (slice_get (x ∷ (xs ++ ys))) (let e : suc (length xs) + k ≡ suc (length xs + k) = omega arith in e) ∙ behind xs ys k

-- each pass begins with a line
pass_begins : (ps : List Pass) (i : ℕ) (p : Pass) → slice_get ps i ≡ Some p
    → (k : ℕ) × (slice_get (flat_map pass_lines ps) k ≡ Some (Begins p.pass p.picture p.start))
pass_begins [] i p is = cc
pass_begins (q ∷ ps) zero p is = let same : q ≡ p = cc in (0, ap (λ (x : Pass). Some (Begins x.pass x.picture x.start)) same)
pass_begins (q ∷ ps) (suc i) p is =
    let rest = pass_begins ps i p is in
    (length (pass_lines q) + rest.0, behind (pass_lines q) (flat_map pass_lines ps) rest.0 ∙ rest.1)

some_other : (pictures picture : ℕ) → pictures ≤ picture → (k : ℕ) → k < pictures → Some (number_spelling picture) ≢ Some (number_spelling k)
some_other pictures picture past k below e =
    let spelled : number_spelling picture ≡ number_spelling k = cc in
    let same = number_spelling_injective picture k spelled in
    absurd (omega (arith, same, past, below))

-- a pass of a picture outside the path has a line that names it
pass_named : (s : Shape) (pictures : ℕ) (text : List ℕ) (c : Content) → text ≡ journal_text s c → (i : ℕ) (p : Pass) → slice_get c.passes i ≡ Some p
    → pictures ≤ p.picture → (number : ℕ) × NamesOutside pictures text number
pass_named s pictures text c spelled i p is past =
    let line : Line = Begins p.pass p.picture p.start in
    let begins = pass_begins c.passes i p is in
    let place = length (head_lines s c.pinned) + begins.0 in
    let among : slice_get (content_lines s c) place ≡ Some line = behind (head_lines s c.pinned) (flat_map pass_lines c.passes) begins.0 ∙ begins.1 in
    let bytes : slice_get (map (line_bytes s) (content_lines s c)) place ≡ Some (line_bytes s line) =
    slice_get-map (line_bytes s) (content_lines s c) place ∙ ap (option_map (line_bytes s)) among in
    let fields = fields_of-line s line in (
      place + 1,
      record {
        place = place;
        number_is = refl;
        line = line_bytes s line;
        stands = ap (λ (ls : List (List ℕ)). slice_get ls place) (lines_of_content s text c spelled)
            ∙ slice_get-front (map (line_bytes s) (content_lines s c)) ([] ∷ []) place (slice_get_within (map (line_bytes s)
            (content_lines s c)) place (line_bytes s line) bytes)
            ∙ bytes;
        outside = record {
          word = ap (λ (fs : List (List ℕ)). slice_get fs 0) fields;
          outside = λ k below e. some_other pictures p.picture past k below (sym (ap (λ (fs : List (List ℕ)). slice_get fs 3) fields) ∙ e);
        };
      },
    )

-- where no line names a picture outside the path, all pictures are in it
pub pictures_inside : (s : Shape) (pictures : ℕ) (text : List ℕ) (c : Content) → text ≡ journal_text s c
    → ((number : ℕ) → NamesOutside pictures text number → ⊥) → (i : ℕ) (p : Pass) → slice_get c.passes i ≡ Some p → p.picture < pictures
pictures_inside s pictures text c spelled none i p is =
    elim (cases_lt p.picture pictures) [
      | inl below ↦ below
      | inr past ↦ (let named = pass_named s pictures text c spelled i p is past in absurd (none named.0 named.1))
    ]

-- there is one first refused line
pub first_unique : (s : Shape) (height pictures : ℕ) (text : List ℕ) (m n : ℕ) → IsFirstRefused s height pictures text m
    → IsFirstRefused s height pictures text n → m ≡ n
first_unique s height pictures text m n a b =
    let low = a.first n b.refused in
    let high = b.first m a.refused in
    omega (arith, low, high)

same_line : (m n : ℕ) → BadLine m ≡ BadLine n → m ≡ n
same_line m n e = cc

-- a text that the reader refuses at a line: the first refused line is that, or an earlier one that names a picture outside the path
pub refused_first : (s : Shape) (height pictures : ℕ) (text : List ℕ) (line first : ℕ) (outside : Option ℕ) → 1 ≤ s.tile
    → IsJournalFlaw s height text (BadLine line)
    → MatchOption outside ((number : ℕ) → NamesOutside pictures text number → ⊥)
    (λ number. NamesOutside pictures text number × ((other : ℕ) → NamesOutside pictures text other → number ≤ other))
    → MatchOption outside (first ≡ line) (λ n. first ≡ min n line)
    → IsFirstRefused s height pictures text first
refused_first s height pictures text line first None tile flaw none is = record {
  refused = inl (subst (λ (n : ℕ). IsJournalFlaw s height text (BadLine n)) (sym is) flaw);
  first = λ other refused. least other refused;
}
  where
    least : (other : ℕ) → IsRefusedLine s height pictures text other → first ≤ other
    least other (inl again) = let same = same_line line other (journal_flaw_unique s height text (BadLine line)
        (BadLine other) tile flaw again) in omega (arith, is, same)
    least other (inr named) = absurd (none other named)
refused_first s height pictures text line first (Some n) tile flaw named is = record {
  refused = earlier (cases_lt n line);
  first = λ other refused. least other refused;
}
  where
    earlier : ((n < line) ⊎ (line ≤ n)) → IsRefusedLine s height pictures text first
    earlier (inl less) = inr (subst (NamesOutside pictures text) (let e : n ≡ first = omega (arith, is, less) in e) named.0)
    earlier (inr past) = inl (subst (λ (k : ℕ). IsJournalFlaw s height text (BadLine k)) (let e : line ≡ first = omega (arith, is, past) in e) flaw)

    least : (other : ℕ) → IsRefusedLine s height pictures text other → first ≤ other
    least other (inl again) = let same = same_line line other (journal_flaw_unique s height text (BadLine line)
        (BadLine other) tile flaw again) in omega (arith, is, same)
    least other (inr again) = let low = named.1 other again in omega (arith, is, low)

-- a lawful text: the first refused line is the first that names a picture outside the path
pub named_first : (s : Shape) (height pictures : ℕ) (text : List ℕ) (c : Content) (number : ℕ) → 1 ≤ s.tile → IsLawfulJournal s height c → text ≡ journal_text s c
    → NamesOutside pictures text number → ((other : ℕ) → NamesOutside pictures text other → number ≤ other)
    → IsFirstRefused s height pictures text number
named_first s height pictures text c number tile lawful spelled named low = record { refused = inr named; first = λ other refused. least other refused }
  where
    least : (other : ℕ) → IsRefusedLine s height pictures text other → number ≤ other
    least other (inl flaw) = absurd (lawful_has_no_flaw s height text c (BadLine other) tile lawful spelled flaw)
    least other (inr again) = low other again

-- a lawful text none of whose lines names a picture outside the path has no refused line
pub none_refused : (s : Shape) (height pictures : ℕ) (text : List ℕ) (c : Content) → 1 ≤ s.tile → IsLawfulJournal s height c → text ≡ journal_text s c
    → ((number : ℕ) → NamesOutside pictures text number → ⊥) → (line : ℕ) → IsFirstRefused s height pictures text line → ⊥
none_refused s height pictures text c tile lawful spelled none line first = by first.refused
  where
    by : IsRefusedLine s height pictures text line → ⊥
    by (inl flaw) = lawful_has_no_flaw s height text c (BadLine line) tile lawful spelled flaw
    by (inr named) = none line named

-- what the judgement of a text says by its answer
pub record IsJudged (s : Shape) (path : PathView) (text : List ℕ) (r : Result TextView ReplayError) : Type 0 where
  pub read : IfOk r (λ j. IsReplayable s path text j.content)
  pub line : (n : ℕ) → r ≡ Err (BadJournal n) → IsFirstRefused s path.height (length path.cameras) text n
  pub refused : (n : ℕ) → IsFirstRefused s path.height (length path.cameras) text n → (r ≡ Err (BadJournal n)) ⊎ (r ≡ Err NoMemory)

abbrev refusal_at : ℕ → Result TextView ReplayError
refusal_at n = Err (BadJournal n)

same_refusal : (m n : ℕ) → refusal_at m ≡ refusal_at n → m ≡ n
same_refusal m n e = cc

refused_by : (s : Shape) (path : PathView) (text : List ℕ) (n : ℕ) → IsFirstRefused s path.height (length path.cameras) text n
    → IsJudged s path text (Err (BadJournal n))
refused_by s path text n first = record {
  read = tt;
  line = λ m e. subst (IsFirstRefused s path.height (length path.cameras) text) (same_refusal n m e) first;
  refused = λ m other. inl (ap refusal_at (first_unique s path.height (length path.cameras) text n m first other));
}

without_memory : (s : Shape) (path : PathView) (text : List ℕ) → IsJudged s path text (Err NoMemory)
without_memory s path text = record { read = tt; line = λ n e. cc; refused = λ n first. inr refl }

-- a text that was read
pub judged_read : (s : Shape) (path : PathView) (text : List ℕ) (height pictures : ℕ) (journal : TextView) (outside : Option ℕ)
    (r : Result TextView ReplayError)
    → 1 ≤ s.tile → height ≡ path.height → pictures ≡ length path.cameras → IsJournalText s height text journal
    → MatchOption outside ((number : ℕ) → NamesOutside pictures text number → ⊥)
    (λ number. NamesOutside pictures text number × ((other : ℕ) → NamesOutside pictures text other → number ≤ other))
    → MatchOption outside (r ≡ Ok journal) (λ n. (r ≡ Err (BadJournal n)) ⊎ (r ≡ Err NoMemory))
    → IsJudged s path text r
judged_read s path text height pictures journal None r tile high count is none answer =
    let read = subst (λ (h : ℕ). IsJournalText s h text journal) high is in
    let outside = subst (λ (n : ℕ). (number : ℕ) → NamesOutside n text number → ⊥) count none in
    subst (IsJudged s path text) (sym answer) (record {
      read = record {
        lawful = read.lawful;
        spelled = read.spelled;
        in_path = pictures_inside s
            (length path.cameras) text journal.content read.spelled outside;
      };
      line = λ n e. cc;
      refused = λ n first. absurd (none_refused s path.height (length path.cameras) text journal.content tile read.lawful read.spelled outside n first);
    })
judged_read s path text height pictures journal (Some n) r tile high count is named (inl answer) =
    let read = subst (λ (h : ℕ). IsJournalText s h text journal) high is in
    let first = subst (λ (k : ℕ). NamesOutside k text n × ((other : ℕ) → NamesOutside k text other → n ≤ other)) count named in
    subst (IsJudged s path text) (sym answer)
    (refused_by s path text n (named_first s path.height (length path.cameras) text journal.content n tile read.lawful read.spelled first.0 first.1))
judged_read s path text height pictures journal (Some n) r tile high count is named (inr answer) = subst (IsJudged s path text) (sym answer)
    (without_memory s path text)

flaw_at : (s : Shape) (height : ℕ) (text : List ℕ) (line : ℕ) → (BadLine line ≡ journal_error.NoMemory) ⊎ IsJournalFlaw s height text (BadLine line)
    → IsJournalFlaw s height text (BadLine line)
flaw_at s height text line (inl e) = cc
flaw_at s height text line (inr flaw) = flaw

-- a text that the reader refused
pub judged_refused : (s : Shape) (path : PathView) (text : List ℕ) (height pictures line first : ℕ) (outside : Option ℕ)
    → 1 ≤ s.tile → height ≡ path.height → pictures ≡ length path.cameras
    → (BadLine line ≡ journal_error.NoMemory) ⊎ IsJournalFlaw s height text (BadLine line)
    → MatchOption outside ((number : ℕ) → NamesOutside pictures text number → ⊥)
    (λ number. NamesOutside pictures text number × ((other : ℕ) → NamesOutside pictures text other → number ≤ other))
    → MatchOption outside (first ≡ line) (λ n. first ≡ min n line)
    → IsJudged s path text (Err (BadJournal first))
judged_refused s path text height pictures line first outside tile high count refused named is =
    refused_by s path text first
    (subst (λ (h : ℕ). IsFirstRefused s h (length path.cameras) text first) high
    (subst (λ (n : ℕ). IsFirstRefused s height n text first) count
    (refused_first s height pictures text line first outside tile (flaw_at s height text line refused) named is)))
