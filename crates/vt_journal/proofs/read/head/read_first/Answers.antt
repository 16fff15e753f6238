use Rattle.std.proofs.Common.{◌≡◌, ℕ, List, [], ◌∷◌, ◌++◌, ◌-◌, Some, None, sym, ap, ◌∙◌, subst}
use Rattle.vt_journal.specs.declared.changes.Change.{Change}
use Rattle.vt_journal.specs.declared.changes.Change.TheVariants.{Map}
use Rattle.vt_journal.specs.declared.lines.Line.{Line}
use Rattle.vt_journal.specs.declared.lines.Line.TheVariants.{Makes}
use Rattle.vt_journal.specs.Changes.{newest}
use Rattle.vt_journal.specs.Kept.{KeptView}
use Rattle.vt_journal.specs.JournalFlaws.{nothing_read}
use Rattle.vt_journal.specs.JournalReading.{IsLineRead}
use Rattle.vt_journal.proofs.Versions.{newest-none}
use Rattle.vt_journal.proofs.Stepping.{refusal_by}
use Rattle.vt_journal.proofs.Heading.{no_first, other_first, first_read}
use Rattle.vt_journal.proofs.read.head.read_first.Goals as goal

version_of : (v p f w q g : ℕ) → Makes v (Map p f) ≡ Makes w (Map q g) → v ≡ w
version_of v p f w q g e = cc

frame_of : (v p f w q g : ℕ) → Makes v (Map p f) ≡ Makes w (Map q g) → f ≡ g
frame_of v p f w q g e = cc

pub returns-in_default : goal.returns-in_default
returns-in_default c =
    let src = c.args.source.now in
    refusal_by src.geometry.now src.height src.text.now nothing_read 0 1 c.bad.result c.bad.ensures
    (no_first src.geometry.now src.height src.text.now c.requires.limits c.in_default.ensures)

pub returns-then-map-ne1 : goal.returns-then-map-ne1
returns-then-map-ne1 c =
    let src = c.args.source.now in
    let m = c.in-Some-map_of.map in
    refusal_by src.geometry.now src.height src.text.now nothing_read 0 1 c.bad-then-map-ne1.result c.bad-then-map-ne1.ensures
    (other_first src.geometry.now src.height src.text.now c.requires.limits c.in-Some.read.line c.in-Some.read.next.at c.in-Some.read.next.number
    c.in-Some.ensures
    (λ p e. c.if-map-ne1.true (version_of m.version m.page m.frame 1 p 0 (sym c.in-Some-map_of.ensures ∙ e))))

pub returns-then-map-ne0 : goal.returns-then-map-ne0
returns-then-map-ne0 c =
    let src = c.args.source.now in
    let m = c.in-Some-map_of.map in
    refusal_by src.geometry.now src.height src.text.now nothing_read 0 1 c.bad-then-map-ne0.result c.bad-then-map-ne0.ensures
    (other_first src.geometry.now src.height src.text.now c.requires.limits c.in-Some.read.line c.in-Some.read.next.at c.in-Some.read.next.number
    c.in-Some.ensures
    (λ p e. c.if-map-ne0.true (frame_of m.version m.page m.frame 1 p 0 (sym c.in-Some-map_of.ensures ∙ e))))

pub add-requires-clause-in_turn : goal.add-requires-clause-in_turn
add-requires-clause-in_turn c = (
  ap (λ (js : List Change). newest js c.in-Some-map_of.map.page) c.requires.none ∙ newest-none c.in-Some-map_of.map.page,
  λ p e. let both : None ≡ Some 0 = sym (ap (λ (js : List Change). newest js p) c.requires.none ∙ newest-none p) ∙ e in cc,
)

pub returns : goal.returns
returns c =
    let src = c.args.source.now in
    let m = c.in-Some-map_of.map in
    let line : c.in-Some.read.line ≡ Makes 1 (Map m.page 0) = c.in-Some-map_of.ensures ∙ ap (λ x. Makes x (Map m.page m.frame)) c.if-map-ne1.false
    ∙ ap (λ x. Makes 1 (Map m.page x)) c.if-map-ne0.false in
    let read = subst (λ (l : Line). IsLineRead src.geometry.now src.text.now 0 1 l c.in-Some.read.next.at c.in-Some.read.next.number) line
    c.in-Some.ensures in (
      ap (λ (k : KeptView). k.pages) c.in_ok-add.ensures.added,
      first_read src.geometry.now src.height src.text.now c.requires.limits m.page (c.page_count.result - m.page) c.in-Some.read.next.at
          c.in-Some.read.next.number c.add.new.self.changes read read.says.readable.page_inside
          (ap (λ n. n - m.page) c.page_count.ensures.pages) (ap (λ (k : KeptView). k.changes) c.in_ok-add.ensures.added
          ∙ ap (λ (js : List Change). js ++ Map m.page 0 ∷ []) c.requires.none),
    )
