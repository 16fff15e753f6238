-- The contents of the versions of a journal.
use Rattle.std.proofs.Common.{inl, inr, eq-eqb, ne_eqb, ◌≡◌, ◌≢◌, ℕ, zero, suc, ◌+◌, ◌*◌, ◌<◌, ◌≤◌, Bool, true, false, eqb, List, [], ◌∷◌, ◌++◌, length, get_or, drop, set, refl, sym, ap, ◌∙◌, subst, arith, Option, Some, None, slice_get, length-append, get_or-set_other}
use Rattle.std.specs.Prelude.{if◌then◌else◌}
use mathlib.Core.Logic.{dite}
use native.Mathlib.Decide.{ℕ_discrete}
use Rattle.std.proofs.lemmas.List.{get_or-take, get_or-drop, get_or_append_left}
use Rattle.vt_journal.specs.declared.changes.Change.{Change}
use Rattle.vt_journal.specs.declared.changes.Change.TheVariants.{Map, Unmap}
use Rattle.vt_grace.specs.declared.sizes.Sizes.{Sizes}
use Rattle.vt_grace.specs.declared.views.WordNote.{WordNote}
use Rattle.vt_grace.specs.declared.views.WriterView.{WriterView}
use Rattle.vt_grace.specs.Contents.{frame_in, IsPutBy, Backing, backed, backed_by}
use Rattle.vt_journal.specs.Lookups.{change_page}
use Rattle.vt_journal.specs.Changes.{Table, at, changed_by}
use Rattle.vt_grace.specs.WriterViews.{version_of, floor_of, after_change}
use Rattle.vt_grace.specs.Places.{texel_place, frame_words, content_of}
use Rattle.vt_grace.specs.Banks.{AreFilled, IsInWindow, MayFill}
use Rattle.vt_grace.specs.Notes.{IsTrueWord}
use Rattle.vt_journal.proofs.Versions.{same_page, slice_get-front, slice_get-seam}
use Rattle.vt_grace.proofs.Rows.{banks_apart}

-- the contents of the versions stay as the journal grows
pub backed-front : (js ks : List Change) (cs ds : List (List ℕ)) (v : ℕ) → v ≤ length js → length cs ≡ length js → backed (js ++ ks) (cs ++ ds) v ≡ backed js cs v
unfolding backed
backed-front js ks cs ds zero h long = refl
backed-front js ks cs ds (suc v) h long =
    ap (λ (m : Backing). backed_by m (slice_get (js ++ ks) v) (get_or (cs ++ ds) v [])) (backed-front js ks cs ds v (omega arith) long)
    ∙ (ap (λ (o : Option Change). backed_by (backed js cs v) o (get_or (cs ++ ds) v [])) (slice_get-front js ks v (omega arith))
    ∙ ap (backed_by (backed js cs v) (slice_get js v)) (get_or_append_left cs ds [] v (omega arith)))

at_seam : (cs : List (List ℕ)) (d : List ℕ) (n : ℕ) → length cs ≡ n → get_or (cs ++ d ∷ []) n [] ≡ d
at_seam [] d zero long = refl
at_seam [] d (suc n) long = absurd (omega arith)
at_seam (c ∷ cs) d zero long = absurd (omega arith)
at_seam (c ∷ cs) d (suc n) long = at_seam cs d n (omega arith)

-- what a change makes of it
pub backed-last : (js : List Change) (c : Change) (cs : List (List ℕ)) (d : List ℕ) → length cs ≡ length js
    → backed (js ++ c ∷ []) (cs ++ d ∷ []) (length js + 1) ≡ backed_by (backed js cs (length js)) (Some c) d
unfolding backed
backed-last js c cs d long = let n : ℕ = length js in let next : n + 1 ≡ suc n = omega arith in let js' : List Change = js ++ c ∷ [] in let cs' : List (List ℕ) = cs ++ d ∷ [] in
    ap (backed js' cs') next
    ∙ (ap (λ (m : Backing). backed_by m (slice_get js' n) (get_or cs' n [])) (backed-front js (c ∷ []) cs (d ∷ []) n (omega arith) long)
    ∙ (ap (λ (o : Option Change). backed_by (backed js cs n) o (get_or cs' n [])) (slice_get-seam js c [])
    ∙ ap (backed_by (backed js cs n) (Some c)) (at_seam cs d n long)))

same_frames : (o : Option Change) (c : List ℕ) (m : Table) (b : Backing) → ((q : ℕ) → m q ≡ frame_in (b q)) → (p : ℕ) → changed_by m o p ≡ frame_in (backed_by b o c p)
same_frames None c m b same p = same p
same_frames (Some (Map page frame)) c m b same p = go (eqb p page)
  where
    go : (t : Bool) → (if t then Some frame else m p) ≡ frame_in (if t then Some (frame, c) else b p)
    go true = refl
    go false = same p
same_frames (Some (Unmap page frame)) c m b same p = go (eqb p page)
  where
    go : (t : Bool) → (if t then None else m p) ≡ frame_in (if t then None else b p)
    go true = refl
    go false = same p

-- the frames are those of the version
pub backed-at : (js : List Change) (cs : List (List ℕ)) (v p : ℕ) → at js v p ≡ frame_in (backed js cs v p)
unfolding at backed
backed-at js cs zero p = refl
backed-at js cs (suc v) p = same_frames (slice_get js v) (get_or cs v []) (at js v) (backed js cs v) (backed-at js cs v) p

with_content : (o : Option (ℕ × List ℕ)) (g : ℕ) → frame_in o ≡ Some g → (c : List ℕ) × (o ≡ Some (g, c))
with_content None g e = cc
with_content (Some b) g e = (b.1, let same : b.0 ≡ g = cc in ap (λ (x : ℕ). Some (x, b.1)) same)

-- a page that is mapped has a content
pub has_content : (js : List Change) (cs : List (List ℕ)) (v p g : ℕ) → at js v p ≡ Some g → (c : List ℕ) × (backed js cs v p ≡ Some (g, c))
has_content js cs v p g e = with_content (backed js cs v p) g (sym (backed-at js cs v p) ∙ e)

abbrev pair_of : ℕ × List ℕ → Option (ℕ × List ℕ) → ℕ × List ℕ
pair_of d None = d
pair_of d (Some b) = b

-- a change leaves each frame filled, with the words that it has
filled_by : (z : Sizes) (texels : List ℕ) (m : Backing) (change : Change) → AreFilled z texels m → AreFilled z texels (backed_by m (Some change) (content_of z texels change))
filled_by z texels m (Map page frame) filled p g content = go (eqb p page)
  where
    go : (t : Bool) → (if t then Some (frame, frame_words z texels frame) else m p) ≡ Some (g, content) → (q : ℕ) → q < z.texels → get_or texels (texel_place z g q) 0 ≡ get_or content q 0
    go true e q low = let same : (frame, frame_words z texels frame) ≡ (g, content) = ap (pair_of (g, content)) e in
        subst (λ (x : ℕ × List ℕ). get_or texels (texel_place z x.0 q) 0 ≡ get_or x.1 q 0) same
        (sym (get_or-take z.texels (drop (frame * z.texels) texels) q 0 low ∙ get_or-drop (frame * z.texels) texels q 0))
    go false e q low = filled p g content e q low
filled_by z texels m (Unmap page frame) filled p g content = go (eqb p page)
  where
    go : (t : Bool) → (if t then None else m p) ≡ Some (g, content) → (q : ℕ) → q < z.texels → get_or texels (texel_place z g q) 0 ≡ get_or content q 0
    go true e q low = cc
    go false e q low = filled p g content e q low

-- after a change each frame of the window is filled
pub next_filled : (w : WriterView) (change : Change) → length w.contents ≡ length w.journal → ((k : ℕ) → k < w.sizes.samplers → floor_of w k ≤ version_of w)
    → ((v : ℕ) → IsInWindow w v → AreFilled w.sizes w.texels (backed w.journal w.contents v))
    → (v : ℕ) → IsInWindow (after_change w change) v → AreFilled w.sizes w.texels (backed (w.journal ++ change ∷ []) (w.contents ++ content_of w.sizes w.texels change ∷ []) v)
next_filled w change long low before v inw = let grown : version_of (after_change w change) ≡ version_of w + 1 = length-append w.journal (change ∷ []) in
    let d : List ℕ = content_of w.sizes w.texels change in let js' : List Change = w.journal ++ change ∷ [] in let cs' : List (List ℕ) = w.contents ++ d ∷ [] in
    dite (ℕ_discrete v (version_of w + 1))
    (λ last. let table : backed_by (backed w.journal w.contents (version_of w)) (Some change) d ≡ backed js' cs' v = sym (backed-last w.journal change w.contents d long) ∙ ap (backed js' cs') (sym last) in
    subst (AreFilled w.sizes w.texels) table
    (filled_by w.sizes w.texels (backed w.journal w.contents (version_of w)) change (before (version_of w) (omega arith, (inw.1.0, inw.1.1, low inw.1.0 inw.1.1)))))
    (λ other. let top = inw.0 in let under : v ≤ version_of w = omega arith in
    subst (AreFilled w.sizes w.texels) (sym (backed-front w.journal (change ∷ []) w.contents (d ∷ []) v under long)) (before v (under, inw.1)))

-- a word of a frame that no version of the window maps leaves each frame of the window as it is filled
pub other_frames : (w : WriterView) (frame place word : ℕ) → place < w.sizes.texels → MayFill w frame
    → ((v : ℕ) → IsInWindow w v → AreFilled w.sizes w.texels (backed w.journal w.contents v))
    → (v : ℕ) → IsInWindow w v → AreFilled w.sizes (set w.texels (texel_place w.sizes frame place) word) (backed w.journal w.contents v)
other_frames w frame place word inside may before v inw p g content e q low =
    let mapped : at w.journal v p ≡ Some g = backed-at w.journal w.contents v p ∙ ap frame_in e in
    let apart : g ≢ frame = λ same. may v inw p (mapped ∙ ap (λ (x : ℕ). Some x) same) in
    get_or-set_other w.texels (texel_place w.sizes frame place) (texel_place w.sizes g q) word 0 (banks_apart g frame w.sizes.texels q place apart low inside)
    ∙ before v inw p g content e q low

-- a note of a word stays true as the journal grows
pub later_word : (journal : List Change) (contents : List (List ℕ)) (change : Change) (content : List ℕ) → length contents ≡ length journal → (n : WordNote)
    → IsTrueWord journal contents n → IsTrueWord (journal ++ change ∷ []) (contents ++ content ∷ []) n
later_word journal contents change content long n h = let grown = length-append journal (change ∷ []) in let known = h.known in record {
  known = omega arith;
  page = h.page;
  content = h.content;
  is = ap (λ (m : Backing). m h.page) (backed-front journal (change ∷ []) contents (content ∷ []) n.version known long) ∙ h.is;
  word = h.word;
}

-- a choice by a page
picked : (page p : ℕ) (b : ℕ × List ℕ) (o : Option (ℕ × List ℕ)) → p ≡ page → (if eqb p page then Some b else o) ≡ Some b
picked page p b o same = rw (eq-eqb p page same) refl

gone : (page p : ℕ) (o : Option (ℕ × List ℕ)) → p ≡ page → (if eqb p page then None else o) ≡ None
gone page p o same = rw (eq-eqb p page same) refl

passed : (page p : ℕ) (a o : Option (ℕ × List ℕ)) → p ≢ page → (if eqb p page then a else o) ≡ o
passed page p a o other = rw (ne_eqb p page other) refl

put_here : (js : List Change) (cs : List (List ℕ)) (v p g : ℕ) (c : List ℕ) → slice_get js v ≡ Some (Map p g) → get_or cs v [] ≡ c → IsPutBy js cs (suc v) p g c
put_here js cs v p g c is brought = record { by = v; before = omega arith; change = is; brought = brought; last = λ u d low high other e. absurd (omega arith) }

put_before : (js : List Change) (cs : List (List ℕ)) (v p g : ℕ) (c : List ℕ) → ((d : Change) → slice_get js v ≡ Some d → change_page d ≢ p) → IsPutBy js cs v p g c → IsPutBy js cs (suc v) p g c
put_before js cs v p g c other h = let low = h.before in record {
  by = h.by;
  before = omega arith;
  change = h.change;
  brought = h.brought;
  last = λ u d from to at_u. dite (ℕ_discrete u v) (λ same. other d (ap (slice_get js) (sym same) ∙ at_u)) (λ apart. h.last u d from (omega arith) at_u);
}

abbrev frame_or : Option (ℕ × List ℕ) → ℕ
frame_or None = 0
frame_or (Some b) = b.0

abbrev content_or : Option (ℕ × List ℕ) → List ℕ
content_or None = []
content_or (Some b) = b.1

-- one change more
put_step : (js : List Change) (cs : List (List ℕ)) (v p g : ℕ) (c : List ℕ) (m : Backing) (o : Option Change) → slice_get js v ≡ o → (m p ≡ Some (g, c) → IsPutBy js cs v p g c)
    → backed_by m o (get_or cs v []) p ≡ Some (g, c) → IsPutBy js cs (suc v) p g c
put_step js cs v p g c m None is before e = put_before js cs v p g c (λ d some_d. absurd (none_some d (sym is ∙ some_d))) (before e)
  where
    none_some : (d : Change) → None ≡ Some d → ⊥
    none_some d e = cc
put_step js cs v p g c m (Some (Map page frame)) is before e = elim (same_page p page) [
  | inl same ↦ let now : Some (frame, get_or cs v []) ≡ Some (g, c) = sym (picked page p (frame, get_or cs v []) (m p) same) ∙ e in
      put_here js cs v p g c (is ∙ ap (λ (x : ℕ × ℕ). let y : Option Change = Some (Map x.0 x.1) in y) (λ i. (sym same i, ap frame_or now i))) (ap content_or now)
  | inr other ↦ put_before js cs v p g c (λ d some_d at_d. other (sym at_d ∙ ap change_page (one_change d (Map page frame) (sym some_d ∙ is)))) (before (sym (passed page p (Some (frame, get_or cs v [])) (m p) other) ∙ e))
]
  where
    one_change : (d f : Change) → Some d ≡ Some f → d ≡ f
    one_change d f e = cc
put_step js cs v p g c m (Some (Unmap page frame)) is before e = elim (same_page p page) [
  | inl same ↦ absurd (none_there (g, c) (sym (gone page p (m p) same) ∙ e))
  | inr other ↦ put_before js cs v p g c (λ d some_d at_d. other (sym at_d ∙ ap change_page (one_change d (Unmap page frame) (sym some_d ∙ is)))) (before (sym (passed page p None (m p) other) ∙ e))
]
  where
    one_change : (d f : Change) → Some d ≡ Some f → d ≡ f
    one_change d f e = cc

    none_there : (b : ℕ × List ℕ) → None ≡ Some b → ⊥
    none_there b e = cc

pub put_by : (js : List Change) (cs : List (List ℕ)) (v p g : ℕ) (c : List ℕ) → backed js cs v p ≡ Some (g, c) → IsPutBy js cs v p g c
unfolding backed
put_by js cs zero p g c e = cc
put_by js cs (suc v) p g c e = put_step js cs v p g c (backed js cs v) (slice_get js v) refl (put_by js cs v p g c) e
