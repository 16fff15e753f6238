-- A pass that loads nothing shows the plain picture where all that it needs is mapped.
use Rattle.std.proofs.Common.{◌≡◌, ℕ, ◌<◌, Bool, List, [], ◌∷◌, ◌++◌, length, Option, Some, refl, ap, ◌∙◌, subst, arith}
use Rattle.std.specs.Prelude.{IfSome, slice_get, slice_index_or}
use Rattle.std.specs.List.{concat}
use Rattle.std.proofs.lemmas.List.{append-nil}
use Rattle.std.proofs.lemmas.Option.{slice_get-get_or}
use Rattle.vt_pages.specs.Pages.{IsWithinLimits}
use Rattle.vt_pictures.specs.JournalTypes.changes.Change.{Change}
use Rattle.vt_pictures.specs.JournalTypes.changes.Event.{Event}
use Rattle.vt_pictures.specs.JournalTypes.changes.RowLine.{RowLine}
use Rattle.vt_pictures.specs.Changes.{Table, at, newest}
use Rattle.vt_pictures.specs.JournalText.{changes_of}
use Rattle.vt_tiles.specs.StoreViews.{IsStore}
use Rattle.vt_evict.specs.PlanTypes.batches.Planned.{Planned}
use Rattle.vt_machine.specs.declared.crew.PassReport.{PassReport}
use Rattle.vt_pictures.specs.Scenes.{Scene}
use Rattle.vt_machine.specs.Jobs.{Job}
use Rattle.vt_machine.specs.Outcomes.{IsOutcome, pass_events}
use Rattle.vt_pictures.specs.Replays.{HasPixels, IsFull, IsPictureOf}
use Rattle.vt_machine.specs.Drawings.{Drawing, RowRelation}
use Rattle.vt_machine.specs.Machines.{Setup, MachineState}
use Rattle.vt_machine.specs.Passes.{IsJobFor, MapsNeeded, Ran}

no_groups : (losses : List Bool) (order : List ℕ) → pass_events [] losses order ≡ []
no_groups losses [] = refl
no_groups losses (ticket ∷ order) = no_groups losses order

-- the events of an empty batch
pub no_events : (batch : List Planned) (losses : List Bool) (events : List Event) → batch ≡ [] → IsOutcome batch losses events → events ≡ []
no_events batch losses events none h = h.groups ∙ ap (λ (b : List Planned). pass_events b losses h.order) none ∙ no_groups losses h.order

if_some : {X : Type 0} (o : Option X) (x : X) (P : X → Type 0) → o ≡ Some x → IfSome o P → P x
if_some o x P e h = subst (λ p. IfSome p P) e h

-- the line of a row
there : (lines : List RowLine) (y : ℕ) → y < length lines → (line : RowLine) × (slice_get lines y ≡ Some line)
there [] y inside = absurd (omega arith)
there (line ∷ lines) y inside = let d : RowLine = line in let e : slice_get (line ∷ lines) y ≡ Some _ = slice_get-get_or (line ∷ lines) y d inside in (_, e)

module _ (draws : Drawing) (drawn : RowRelation)
    (law : (scene : Scene) (b : List ℕ) (m : Table) (i x y : ℕ) → IsWithinLimits scene.shape → IsStore b scene.shape scene.depth
    → i < length scene.path.cameras → x < scene.path.width → y < scene.path.height → MapsNeeded scene.shape m (draws.needs scene i)
    → draws.shows scene b m i x y ≡ draws.whole scene b i x y) where
  pub settled : (job : Job) (report : PassReport) (before after : MachineState) (b : List ℕ)
      → Ran draws drawn job report before after → job.batch ≡ [] → IsWithinLimits job.scene.shape → IsJobFor before.setup job
      → before.setup.bytes ≡ Some b → IsStore b job.scene.shape job.scene.depth
      → MapsNeeded job.scene.shape (newest before.journal) (draws.needs job.scene job.picture)
      → IsPictureOf before.setup.depth before.setup.width before.setup.height (λ x y. draws.whole job.scene b job.picture x y) (concat after.rows)
  settled job report before after b ran none limits job_for known store needed =
      let same : after.journal ≡ before.journal = ran.journal ∙ ap (λ (events : List Event). before.journal ++ changes_of events)
      (no_events job.batch report.losses.elements report.events.elements none ran.outcome) ∙ append-nil before.journal in
      let setup = ran.setup in
      let lines = report.rows.elements in
      record {
        rows = after.rows;
        count = ran.picture.count ∙ ap (λ (s : Setup). s.height) setup;
        full = subst (λ (s : Setup). (k : ℕ) (d : List ℕ) → k < length after.rows
            → IsFull s.depth s.width (slice_index_or after.rows k d)) setup ran.picture.full;
        each = λ y below x inside.
            let l = there lines y (let e = ran.rows.of_picture.count in omega (arith, e, below)) in
            let row = ran.rows.of_picture.each y l.0 l.1 in
            let v : l.0.version ≡ length before.journal =
            (let low = row.from in let high = row.to in let e : length after.journal ≡ length before.journal = ap length same in omega (arith, low, high, e)) in
            let replayed = if_some after.setup.bytes b _ (ap (λ (s : Setup). s.bytes) setup ∙ known) ran.picture.replayed y l.0 l.1 in
            let pixels = subst (λ (s : Setup). HasPixels s.depth s.width (λ x. draws.shows job.scene b (at after.journal l.0.version) job.picture x y)
            (slice_index_or after.rows y [])) setup replayed in
            let table : at after.journal l.0.version ≡ newest before.journal = ap (λ (js : List Change). at js l.0.version) same ∙ ap (at before.journal) v in
            pixels x inside
            ∙ ap (λ (m : Table). draws.shows job.scene b m job.picture x y) table
            ∙ law job.scene b (newest before.journal) job.picture x y limits store job_for.picture
            (let e = job_for.width in omega (arith, e, inside)) (let e = job_for.height in omega (arith, e, below)) needed;
        joined = refl;
      }
