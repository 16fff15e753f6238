use Rattle.std.proofs.Common.{◌≡◌, ℕ, [], ◌∷◌, ◌++◌, ◌+◌, ◌-◌, sym, ap, ◌∙◌, subst}
use Rattle.vt_pages.specs.Pages.{pages_of}
use Rattle.vt_journal.specs.declared.changes.Change.TheVariants.{Map}
use Rattle.vt_journal.specs.declared.lines.Line.{Line}
use Rattle.vt_journal.specs.declared.lines.Line.TheVariants.{Makes}
use Rattle.vt_journal.specs.Changes.{newest, IsNext}
use Rattle.vt_journal.specs.Kept.{KeptView}
use Rattle.vt_journal.specs.JournalReading.{IsLineRead, head_reading}
use Rattle.vt_journal.proofs.Stepping.{refusal_by}
use Rattle.vt_journal.proofs.Heading.{head_refused, no_further, other_further, further_read}
use Rattle.vt_journal.proofs.read.head.read_further.Goals as goal

version_of : (v p f w q g : ℕ) → Makes v (Map p f) ≡ Makes w (Map q g) → v ≡ w
version_of v p f w q g e = cc

page_of : (v p f w q g : ℕ) → Makes v (Map p f) ≡ Makes w (Map q g) → p ≡ q
page_of v p f w q g e = cc

frame_of : (v p f w q g : ℕ) → Makes v (Map p f) ≡ Makes w (Map q g) → f ≡ g
frame_of v p f w q g e = cc

pub returns-in_default : goal.returns-in_default
returns-in_default c =
    let src = c.args.source.now in
    let s = src.geometry.now in
    let js = c.args.kept.now.changes in
    head_refused s src.height src.text.now c.requires.limits js c.args.pinned c.args.place c.args.cursor.at c.args.cursor.number c.requires.begun c.bad.result
    (refusal_by s src.height src.text.now (head_reading js) c.args.cursor.at c.args.cursor.number c.bad.result c.bad.ensures
    (no_further s src.height src.text.now c.requires.limits js c.args.pinned c.args.place c.args.cursor.at c.args.cursor.number c.requires.begun
    c.requires.below c.in_default.ensures))

pub returns-in_default-map_of : goal.returns-in_default-map_of
returns-in_default-map_of c =
    let src = c.args.source.now in
    let s = src.geometry.now in
    let js = c.args.kept.now.changes in
    let at = c.args.cursor.at in
    let n = c.args.cursor.number in
    head_refused s src.height src.text.now c.requires.limits js c.args.pinned c.args.place at n c.requires.begun c.bad-in_default-map_of.result
    (refusal_by s src.height src.text.now (head_reading js) at n c.bad-in_default-map_of.result c.bad-in_default-map_of.ensures
    (other_further s src.height src.text.now c.requires.limits js c.args.pinned c.args.place at n c.requires.begun c.in-Some.read.line
    c.in-Some.read.next.at c.in-Some.read.next.number c.requires.below c.in-Some.ensures
    (λ e next. c.in_default-map_of.ensures (c.args.place + 1) (pages_of s - c.args.pinned + c.args.place) c.args.place e)))

pub returns-then-map-from : goal.returns-then-map-from
returns-then-map-from c =
    let src = c.args.source.now in
    let s = src.geometry.now in
    let js = c.args.kept.now.changes in
    let at = c.args.cursor.at in
    let n = c.args.cursor.number in
    let m = c.in-Some-map_of.map in
    head_refused s src.height src.text.now c.requires.limits js c.args.pinned c.args.place at n c.requires.begun c.bad-then-map-from.result
    (refusal_by s src.height src.text.now (head_reading js) at n c.bad-then-map-from.result c.bad-then-map-from.ensures
    (other_further s src.height src.text.now c.requires.limits js c.args.pinned c.args.place at n c.requires.begun c.in-Some.read.line
    c.in-Some.read.next.at c.in-Some.read.next.number c.requires.below c.in-Some.ensures
    (λ e next. c.if-map-from.true (version_of m.version m.page m.frame (c.args.place + 1) (pages_of s - c.args.pinned + c.args.place) c.args.place
    (sym c.in-Some-map_of.ensures ∙ e) ∙ ap (λ n. n + 1) (sym c.from.ensures)))))

pub returns-then-map-page : goal.returns-then-map-page
returns-then-map-page c =
    let src = c.args.source.now in
    let s = src.geometry.now in
    let js = c.args.kept.now.changes in
    let at = c.args.cursor.at in
    let n = c.args.cursor.number in
    let m = c.in-Some-map_of.map in
    head_refused s src.height src.text.now c.requires.limits js c.args.pinned c.args.place at n c.requires.begun c.bad-then-map-page.result
    (refusal_by s src.height src.text.now (head_reading js) at n c.bad-then-map-page.result c.bad-then-map-page.ensures
    (other_further s src.height src.text.now c.requires.limits js c.args.pinned c.args.place at n c.requires.begun c.in-Some.read.line
    c.in-Some.read.next.at c.in-Some.read.next.number c.requires.below c.in-Some.ensures
    (λ e next. c.if-map-page.true (page_of m.version m.page m.frame (c.args.place + 1) (pages_of s - c.args.pinned + c.args.place) c.args.place
    (sym c.in-Some-map_of.ensures ∙ e) ∙ ap (λ p. p - c.args.pinned + c.args.place) (sym c.page_count.ensures.pages)))))

pub returns-then-map-place : goal.returns-then-map-place
returns-then-map-place c =
    let src = c.args.source.now in
    let s = src.geometry.now in
    let js = c.args.kept.now.changes in
    let at = c.args.cursor.at in
    let n = c.args.cursor.number in
    let m = c.in-Some-map_of.map in
    head_refused s src.height src.text.now c.requires.limits js c.args.pinned c.args.place at n c.requires.begun c.bad-then-map-place.result
    (refusal_by s src.height src.text.now (head_reading js) at n c.bad-then-map-place.result c.bad-then-map-place.ensures
    (other_further s src.height src.text.now c.requires.limits js c.args.pinned c.args.place at n c.requires.begun c.in-Some.read.line
    c.in-Some.read.next.at c.in-Some.read.next.number c.requires.below c.in-Some.ensures
    (λ e next. c.if-map-place.true (frame_of m.version m.page m.frame (c.args.place + 1) (pages_of s - c.args.pinned + c.args.place) c.args.place
    (sym c.in-Some-map_of.ensures ∙ e)))))

pub returns-then-not-is_next : goal.returns-then-not-is_next
returns-then-not-is_next c =
    let src = c.args.source.now in
    let s = src.geometry.now in
    let js = c.args.kept.now.changes in
    let at = c.args.cursor.at in
    let n = c.args.cursor.number in
    let m = c.in-Some-map_of.map in
    let page : m.page ≡ pages_of s - c.args.pinned + c.args.place = c.if-map-page.false
    ∙ ap (λ p. p - c.args.pinned + c.args.place) c.page_count.ensures.pages in
    let frame : m.frame ≡ c.args.place = c.if-map-place.false in
    head_refused s src.height src.text.now c.requires.limits js c.args.pinned c.args.place at n c.requires.begun c.bad-then-not-is_next.result
    (refusal_by s src.height src.text.now (head_reading js) at n c.bad-then-not-is_next.result c.bad-then-not-is_next.ensures
    (other_further s src.height src.text.now c.requires.limits js c.args.pinned c.args.place at n c.requires.begun c.in-Some.read.line
    c.in-Some.read.next.at c.in-Some.read.next.number c.requires.below c.in-Some.ensures
    (λ e next. c.if-not-is_next.ensures (subst (λ p. IsNext (newest js) (Map p m.frame)) (sym page)
    (subst (λ f. IsNext (newest js) (Map (pages_of s - c.args.pinned + c.args.place) f)) (sym frame) next)))))

pub returns : goal.returns
returns c =
    let src = c.args.source.now in
    let s = src.geometry.now in
    let js = c.args.kept.now.changes in
    let m = c.in-Some-map_of.map in
    let at = c.args.cursor.at in
    let n = c.args.cursor.number in
    let wanted : ℕ = pages_of s - c.args.pinned + c.args.place in
    let version : m.version ≡ c.args.place + 1 = c.if-map-from.false ∙ ap (λ n. n + 1) c.from.ensures in
    let page : m.page ≡ wanted = c.if-map-page.false ∙ ap (λ p. p - c.args.pinned + c.args.place) c.page_count.ensures.pages in
    let frame : m.frame ≡ c.args.place = c.if-map-place.false in
    let line : c.in-Some.read.line ≡ Makes (c.args.place + 1) (Map wanted c.args.place) =
    c.in-Some-map_of.ensures ∙ ap (λ x. Makes x (Map m.page m.frame)) version ∙ ap (λ x. Makes (c.args.place + 1) (Map x m.frame)) page
    ∙ ap (λ x. Makes (c.args.place + 1) (Map wanted x)) frame in
    let read = subst (λ (l : Line). IsLineRead s src.text.now at n l c.in-Some.read.next.at c.in-Some.read.next.number) line c.in-Some.ensures in
    let next = subst (λ p. IsNext (newest js) (Map p c.args.place)) page (subst (λ f. IsNext (newest js) (Map m.page f)) frame c.if-not-is_next.ensures) in
    let made : c.add.new.self.changes ≡ js ++ Map wanted c.args.place ∷ [] =
    ap (λ (k : KeptView). k.changes) c.in_ok-add.ensures.added ∙ ap (λ x. js ++ Map x m.frame ∷ []) page
    ∙ ap (λ x. js ++ Map wanted x ∷ []) frame in (
      ap (λ (k : KeptView). k.pages) c.in_ok-add.ensures.added,
      further_read s src.height src.text.now c.requires.limits js c.args.pinned c.args.place at n c.requires.begun c.in-Some.read.next.at
          c.in-Some.read.next.number c.add.new.self.changes c.requires.below read next made,
    )
