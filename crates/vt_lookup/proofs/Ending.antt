-- What a row that was drawn under a hold leaves.
use Rattle.std.proofs.Common.{◌≡◌, ℕ, [], ◌∷◌, sym, ap, ◌∙◌}
use Rattle.vt_pictures.specs.DrawLookups.{Note, EntryNote, WordNote}
use Rattle.vt_grace.specs.declared.views.Stage.TheVariants.{Idle}
use Rattle.vt_grace.specs.declared.views.PassView.{PassView}
use Rattle.vt_grace.specs.PassViews.{idle}
use Rattle.vt_lookup.specs.Notes.{IsNotedIn, HasNotedMore, HasHeldMore}

-- a pass with the same notes says the same
pub noted_by : (p q : PassView) → q.notes ≡ p.notes → q.word_notes ≡ p.word_notes → (note : Note) → IsNotedIn p note → IsNotedIn q note
noted_by p q notes words (EntryNote v page entry) h = rw notes h
noted_by p q notes words (WordNote v frame place word) h = rw words h

-- so does one that holds nothing any more
pub noted_idle : (p q : PassView) → q ≡ idle p → (note : Note) → IsNotedIn p note → IsNotedIn q note
noted_idle p q is = noted_by p q (ap (λ (x : PassView). x.notes) is) (ap (λ (x : PassView). x.word_notes) is)

-- a pass that held one version, noted under it, and holds it no longer
pub held_one : (p h d q : PassView) (v w : ℕ) → h ≡ record p { stage = h.stage; held = v ∷ p.held } → HasNotedMore h d → q ≡ idle d
    → w ≡ v → HasHeldMore p q (w ∷ [])
held_one p h d q v w pinned more is number =
    let stage : Idle ≡ q.stage = sym (ap (λ (x : PassView). x.stage) is) in
    let entries : d.notes ≡ q.notes = sym (ap (λ (x : PassView). x.notes) is) in
    let words : d.word_notes ≡ q.word_notes = sym (ap (λ (x : PassView). x.word_notes) is) in
    let held : v ≡ w = sym number in
    record {
      rest =
          is ∙ ap idle more.rest
          ∙ ap (λ (x : PassView). record x { stage = Idle; notes = d.notes; word_notes = d.word_notes }) pinned
          ∙ (λ i. record p { stage = stage i; held = held i ∷ p.held; notes = entries i; word_notes = words i });
      notes = λ note n.
          noted_idle d q is note
          (more.notes note (noted_by p h (ap (λ (x : PassView). x.notes) pinned) (ap (λ (x : PassView). x.word_notes) pinned) note n));
    }
