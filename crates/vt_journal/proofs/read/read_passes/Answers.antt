use Rattle.std.proofs.Common.{rules, ◌≡◌, ◌++◌, ◌∷◌, [], List, length, length-append, map, arith, sym, ap, ◌∙◌, subst}
use Rattle.std.specs.List.{flat_map}
use Rattle.vt_journal.specs.declared.passes.PassText.{PassText}
use Rattle.vt_journal.specs.Passes.{pass_of}
use Rattle.vt_journal.specs.JournalText.{pass_lines}
use Rattle.vt_journal.specs.JournalFlaws.{Reading, after_all}
use Rattle.vt_journal.specs.JournalReading.{IsBetweenPasses, IsPassRead, ArePassesRead, head_reading}
use Rattle.vt_journal.proofs.Stepping.{refused_later}
use Rattle.vt_journal.proofs.Passing.{passes_more}
use Rattle.vt_journal.proofs.read.read_passes.Goals as goal

pub returns-in_err-read : goal.returns-in_err-read
returns-in_err-read c =
    let src = c.args.source.now in
    let so_far = c.passes.invariant.read in
    let lines = flat_map pass_lines (map pass_of c.passes.passes.items) in
    let r : Reading = after_all (head_reading c.args.kept.now.changes) lines in
    let count : c.len-in-passes.result ≡ length c.passes.passes.items = omega (arith, c.len-in-passes.ensures, c.passes.passes.ok.0) in
    let between = subst (λ n. IsBetweenPasses src.geometry.now src.height c.passes.kept.changes n c.passes.picture r) (sym count) so_far.between in
    search (
      rules,
      refused_later src.geometry.now src.height src.text.now (head_reading c.args.kept.now.changes) c.args.cursor.at c.args.cursor.number
          lines c.passes.place.at c.passes.place.number c.in_err-read.field-0.0 so_far.advances (c.in_err-read.ensures.read r between),
    )

pub passes-preserved : goal.passes-preserved
passes-preserved c =
    let src = c.args.source.now in
    let s = src.geometry.now in
    let so_far = c.passes.invariant.read in
    let before = c.passes.passes.items in
    let pass = c.in_ok-read.read.pass in
    let count : c.len-in-passes.result ≡ length before = omega (arith, c.len-in-passes.ensures, c.passes.passes.ok.0) in
    let added : c.add_pass.new.passes.items ≡ before ++ pass ∷ [] = c.in_ok-add_pass.ensures in
    let read = λ (r : Reading) (between : IsBetweenPasses s src.height c.passes.kept.changes (length before) c.passes.picture r).
    subst (λ n. IsPassRead s src.height src.text.now r c.passes.kept.changes c.read_pass.new.kept.changes n pass c.passes.place.at
    c.passes.place.number c.in_ok-read.read.next.at c.in_ok-read.read.next.number) count
    (c.in_ok-read.ensures.read r (subst (λ n. IsBetweenPasses s src.height c.passes.kept.changes n c.passes.picture r) (sym count) between)) in
    let one = read (after_all (head_reading c.args.kept.now.changes) (flat_map pass_lines (map pass_of before))) so_far.between in
    let longer = ap (λ ps. length {A = PassText} ps) added ∙ length-append before (pass ∷ []) in
    record {
      pages = c.in_ok-read.ensures.pages ∙ c.passes.invariant.pages;
      few = omega (arith, longer, c.if-len-ge-MOST_PASSES.false, c.len.ensures, c.passes.passes.ok.0);
      read = subst (λ (ps : List PassText). ArePassesRead s src.height src.text.now c.args.kept.now.changes c.read_pass.new.kept.changes ps
          pass.picture c.args.cursor.at c.args.cursor.number c.in_ok-read.read.next.at c.in_ok-read.read.next.number) (sym added)
          (passes_more s src.height src.text.now c.args.kept.now.changes c.passes.kept.changes c.read_pass.new.kept.changes before pass
          c.passes.picture c.args.cursor.at c.args.cursor.number c.passes.place.at c.passes.place.number
          c.in_ok-read.read.next.at c.in_ok-read.read.next.number so_far read
          (omega (arith, c.if-len-ge-MOST_PASSES.false, c.len.ensures, c.passes.passes.ok.0)));
      quiet = λ flat some. one.no_event flat;
    }
