use Rattle.std.proofs.Common.{◌≡◌, ◌≢◌, ℕ, ◌+◌, ◌-◌, ◌≤◌, inl, inr, Option, Some, None, List, [], refl, sym, ap, ◌∙◌, subst, arith}
use Rattle.std.specs.Prelude.{IsSome}
use Rattle.std.proofs.lemmas.Bool.{cases_lt}
use Rattle.vt_pages.specs.Shape.{Shape}
use Rattle.vt_pages.specs.Pages.{pages_of, root_of, IsWithinLimits}
use Rattle.vt_pages.proofs.Lines.{reaches_root}
use Rattle.vt_journal.specs.declared.changes.Change.{Change}
use Rattle.vt_journal.specs.declared.changes.Change.TheVariants.{Map}
use Rattle.vt_journal.specs.Changes.{Table, newest, changed}
use Rattle.vt_journal.proofs.Versions.{newest-none, newest-more, mapped_after_map, entry-same, entry-other}
use Rattle.vt_table.specs.Views.{TableView}
use Rattle.vt_tests_cache.proofs.sampler.tables.table_from.Goals as goal

nowhere : (o : Option ℕ) → ((f : ℕ) → o ≡ Some f → ⊥) → o ≡ None
nowhere None none = refl
nowhere (Some f) none = absurd (none f refl)

nothing : (js : List Change) (p f : ℕ) → js ≡ [] → newest js p ≡ Some f → ⊥
nothing js p f empty e =
    let none : newest js p ≡ None = ap (λ (l : List Change). newest l p) empty ∙ newest-none p in
    let both : None ≡ Some f = sym none ∙ e in cc

last_page : (s : Shape) → IsWithinLimits s → root_of s + 1 ≡ pages_of s
last_page s limits =
    let some : 2 ≤ s.tile = limits.least_tile in
    (reaches_root s 0 (omega arith) limits.least_width limits.least_height (omega (arith, limits.some_page))).root_is_last

pub loop-page-init : goal.loop-page-init
loop-page-init c =
    let empty : c.reserve.new.self.changes ≡ [] = ap (λ (v : TableView). v.changes) c.in_ok-reserve.ensures.rest ∙ c.in_ok-table.ensures.changes in
    record {
      shape = ap (λ (v : TableView). v.shape) c.in_ok-reserve.ensures.rest ∙ c.in_ok-table.ensures.shape;
      frames = omega (arith, ap (λ (v : TableView). v.frames) c.in_ok-reserve.ensures.rest, c.in_ok-table.ensures.frames);
      spare = omega (arith, c.in_ok-reserve.ensures.room);
      some = λ p f e. absurd (nothing c.reserve.new.self.changes p f empty e);
      each = λ p low high. absurd (omega arith);
    }

pub load-requires-clause-unmapped : goal.load-requires-clause-unmapped
load-requires-clause-unmapped c =
    nowhere (newest c.loop-page.table.changes c.loop-page.page) (λ f e. absurd (omega (arith, (c.loop-page.invariant.some c.loop-page.page f e).0)))

pub load-requires-clause-free : goal.load-requires-clause-free
load-requires-clause-free c p e =
    let was = c.loop-page.invariant.some p (c.loop-page.page - c.args.from) e in
    absurd (omega (arith, was.0, was.1, c.loop-page.auto.page))

pub loop-page-preserved : goal.loop-page-preserved
loop-page-preserved c =
    let next : newest c.load.new.table.changes ≡ changed (newest c.loop-page.table.changes) (Map c.loop-page.page (c.loop-page.page - c.args.from)) =
    ap newest c.load.ensures.changes ∙ newest-more c.loop-page.table.changes (Map c.loop-page.page (c.loop-page.page - c.args.from)) in
    record {
      shape = c.load.ensures.shape ∙ c.loop-page.invariant.shape;
      frames = omega (arith, c.load.ensures.frames, c.loop-page.invariant.frames);
      spare = omega (arith, c.load.ensures.spare, c.loop-page.invariant.spare);
      some = λ p f e.
          elim (mapped_after_map (newest c.loop-page.table.changes) c.loop-page.page (c.loop-page.page - c.args.from) p f
          (sym (ap (λ (t : Table). t p) next) ∙ e)) [
            | inl (same, is) ↦ (omega arith, omega (arith, c.loop-page.auto.page))
            | inr (other, was) ↦ (omega (arith, (c.loop-page.invariant.some p f was).0), (c.loop-page.invariant.some p f was).1)
          ];
      each = λ p low high.
          ap (λ (t : Table). t p) next
          ∙ elim (cases_lt p c.loop-page.page) [
            | inl below ↦
                let other : p ≢ c.loop-page.page = omega arith in
                entry-other (newest c.loop-page.table.changes) c.loop-page.page p (Some (c.loop-page.page - c.args.from)) other
                ∙ c.loop-page.invariant.each p low below
            | inr last ↦
                let same : p ≡ c.loop-page.page = omega arith in
                ap (changed (newest c.loop-page.table.changes) (Map c.loop-page.page (c.loop-page.page - c.args.from))) same
                ∙ entry-same (newest c.loop-page.table.changes) c.loop-page.page (Some (c.loop-page.page - c.args.from))
                ∙ ap (λ i. Some (i - c.args.from)) (sym same)
          ];
    }

pub returns-clause-root : goal.returns-clause-root
returns-clause-root c =
    let last : root_of c.args.geometry.now + 1 ≡ pages_of c.args.geometry.now = last_page c.args.geometry.now c.page_count-root_is_last.ensures.limits in
    let root : newest c.loop-page.table.changes (root_of c.args.geometry.now) ≡ Some (root_of c.args.geometry.now - c.args.from) =
    c.loop-page.invariant.each (root_of c.args.geometry.now) (omega (arith, c.requires.from, c.requires.pages)) (omega (arith, c.requires.pages)) in
    let P : Option ℕ → Type 0 = λ o. IsSome o in
    let shape : root_of c.loop-page.table.shape ≡ root_of c.args.geometry.now = ap root_of c.loop-page.invariant.shape in
    subst P (sym (ap (newest c.loop-page.table.changes) shape ∙ root)) refl
