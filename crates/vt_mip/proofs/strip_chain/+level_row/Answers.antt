use Rattle.std.proofs.Common.{◌≡◌, ℕ, ◌+◌, ◌-◌, ◌*◌, ◌<◌, ◌≤◌, length, refl, sym, ◌∙◌, subst, arith, rules}
use Rattle.std.proofs.Math.Nat.{le_trans}
use Rattle.std.proofs.lemmas.Result.{on_ok_weaker}
use Rattle.vt_ppm.proofs.UnknownContents.{OnErr-all}
use Rattle.vt_ppm.specs.Sides.{side}
use Rattle.vt_ppm.specs.declared.header.Header.{Header}
use Rattle.vt_mip.proofs.StripRows.{first_words, one_row, two_rows}
use Rattle.std.proofs.lemmas.Bool.{false≢true}
use Rattle.vt_ppm.proofs.OutsideRefusing.{none_made, rose_later}
use Rattle.vt_mip.proofs.StripReads.{first_read, first_room, first_tried, first_spare, upper_failed, alone_read, both_read, second_failed, second_spare, both_spare}
use Rattle.vt_mip.specs.StripChains.{room_length, level_row_length}
use Rattle.vt_mip.proofs.StripRoom.{half_length}
use Rattle.vt_mip.proofs.strip_chain.+level_row.Goals as goal

pub returns-then-level-eq0-clause-words : goal.returns-then-level-eq0-clause-words
returns-then-level-eq0-clause-words g t c = on_ok_weaker c.row.result
    (first_words (g.F.File.bytes c.args.reader.now.file) c.args.reader.now.header c.args.level c.args.y c.row.new.out (omega arith))
    c.row.ensures.row

pub split_at_mut-rows-requires : goal.split_at_mut-rows-requires
split_at_mut-rows-requires g t c =
    let b = c.row_below-below.ensures in
    omega (arith, b.room, c.requires.room)

pub overflow_mul-y : goal.overflow_mul-y
overflow_mul-y g t c =
    let b = c.row_below-below.ensures in
    omega (arith, b.inside, b.short)

pub overflow_mul-y-2 : goal.overflow_mul-y-2
overflow_mul-y-2 g t c =
    let b = c.row_below-below.ensures in
    omega (arith, b.inside, b.short)

pub overflow_add-y : goal.overflow_add-y
overflow_add-y g t c =
    let b = c.row_below-below.ensures in
    omega (arith, b.inside, b.short)

pub overflow_mul-y-3 : goal.overflow_mul-y-3
overflow_mul-y-3 g t c =
    let b = c.row_below-below.ensures in
    omega (arith, b.inside, b.short)

pub overflow_add-y-2 : goal.overflow_add-y-2
overflow_add-y-2 g t c =
    let b = c.row_below-below.ensures in
    omega (arith, b.inside, b.short)

pub level_row-requires : goal.level_row-requires
level_row-requires g t c =
    let b = c.row_below-below.ensures in
    λ κs lives. (
      omega arith,
      (
        search rules,
        (
          c.requires.checked,
          (b.upper.inside, (omega (arith, b.upper.fewer), (omega (arith, b.room, c.requires.room), omega (arith, b.size)))),
        ),
      ),
    )

pub returns-in_err-level_row-clause-tried : goal.returns-in_err-level_row-clause-tried
returns-in_err-level_row-clause-tried g t c =
    let b = c.row_below-below.ensures in
    OnErr-all _ _ (upper_failed c.args.reader.now.header (c.args.level - 1) c.args.level c.args.y (g.F.File.asked c.args.reader.now.file)
    (g.F.File.asked c.level_row.new.reader.file) b.level_is c.requires.row c.in_err-level_row.ensures.tried)

pub returns-in_err-level_row-clause-spare : goal.returns-in_err-level_row-clause-spare
returns-in_err-level_row-clause-spare g t c =
    let b = c.row_below-below.ensures in
    omega (arith, c.level_row.ensures.spare, b.upper.fewer)

pub halve_rows-requires-clause-out : goal.halve_rows-requires-clause-out
halve_rows-requires-clause-out g t c =
    let b = c.row_below-below.ensures in
    half_length c.args.reader.now.header c.args.level (c.args.level - 1) c.row_below-below.result.depth c.row_below-below.result.width (length c.args.out.now)
    b.level_is b.depth b.columns c.requires.size

pub halve_rows-requires-2-clause-out : goal.halve_rows-requires-2-clause-out
halve_rows-requires-2-clause-out g t c =
    let b = c.row_below-below.ensures in
    half_length c.args.reader.now.header c.args.level (c.args.level - 1) c.row_below-below.result.depth c.row_below-below.result.width (length c.args.out.now)
    b.level_is b.depth b.columns c.requires.size

pub returns-then-y-below-clause-words : goal.returns-then-y-below-clause-words
returns-then-y-below-clause-words g t c =
    let b = c.row_below-below.ensures in
    one_row (g.F.File.bytes c.args.reader.now.file) c.args.reader.now.header c.row_below-below.result.depth c.row_below-below.result.width
    (c.args.level - 1) c.args.level
    c.args.y c.level_row.new.out c.halve_rows.new.out b.level_is b.depth b.columns b.is_depth
    b.some_columns (omega (arith, b.rows)) c.halve_rows.ensures.above
    c.in_ok-level_row.ensures.words c.halve_rows.ensures.row

pub returns-then-y-below-clause-read : goal.returns-then-y-below-clause-read
returns-then-y-below-clause-read g t c =
    let b = c.row_below-below.ensures in
    alone_read c.args.reader.now.header (c.args.level - 1) c.args.level c.args.y (g.F.File.asked c.args.reader.now.file)
    (g.F.File.asked c.level_row.new.reader.file) b.level_is c.requires.row (omega (arith, b.rows)) c.in_ok-level_row.ensures.read

pub returns-then-y-below-clause-spare : goal.returns-then-y-below-clause-spare
returns-then-y-below-clause-spare g t c =
    let b = c.row_below-below.ensures in
    omega (arith, c.level_row.ensures.spare, b.upper.fewer)

pub level_row-requires-2 : goal.level_row-requires-2
level_row-requires-2 g t c =
    let b = c.row_below-below.ensures in
    let k : ℕ = c.args.level - 1 in
    let same = sym c.level_row.ensures.header in
    let Row : Header → Type 0 = λ z. 2 * c.args.y + 1 < side z.height k in
    let Room : Header → Type 0 = λ z. room_length z k ≤ length c.level_row.new.room in
    let Size : Header → Type 0 = λ z. length c.split_at_mut-top.result.1.now ≡ level_row_length z k in
    λ κs lives. (
      omega arith,
      (
        search rules,
        (
          c.level_row.ensures.kept,
          (
            subst Row same (omega (arith, b.rows, b.inside)),
            (
              second_spare c.args.reader.now.header c.level_row.new.reader.header (c.args.level - 1) c.args.level c.args.y
                  (g.F.File.asked c.args.reader.now.file)
                  (g.F.File.asked c.level_row.new.reader.file) (g.F.File.asked c.level_row.new.reader.file) b.level_is c.requires.row
                  (omega (arith, b.rows, b.inside)) c.level_row.ensures.header
                  c.in_ok-level_row.ensures.read
                  (g.F.File.spare c.args.reader.now.file) (g.F.File.spare c.level_row.new.reader.file) c.requires.spare c.level_row.ensures.spare,
              (subst Room same (omega (arith, b.room, c.requires.room)), subst Size same (omega (arith, b.size))),
            ),
          ),
        ),
      ),
    )

pub returns-in_err-level_row-2-clause-tried : goal.returns-in_err-level_row-2-clause-tried
returns-in_err-level_row-2-clause-tried g t c =
    let b = c.row_below-below.ensures in
    OnErr-all _ _ (second_failed c.args.reader.now.header c.level_row.new.reader.header (c.args.level - 1) c.args.level c.args.y
    (g.F.File.asked c.args.reader.now.file)
    (g.F.File.asked c.level_row.new.reader.file)
    (g.F.File.asked c.level_row-2.new.reader.file) b.level_is c.requires.row (omega (arith, b.rows, b.inside)) c.level_row.ensures.header
    c.in_ok-level_row.ensures.read
    c.in_err-level_row-2.ensures.tried)

pub returns-in_err-level_row-2-clause-spare : goal.returns-in_err-level_row-2-clause-spare
returns-in_err-level_row-2-clause-spare g t c =
    let b = c.row_below-below.ensures in
    both_spare c.args.reader.now.header c.level_row.new.reader.header (c.args.level - 1) c.args.level c.args.y (g.F.File.asked c.args.reader.now.file)
    (g.F.File.asked c.level_row.new.reader.file)
    (g.F.File.asked c.level_row-2.new.reader.file) b.level_is c.requires.row (omega (arith, b.rows, b.inside)) c.level_row.ensures.header
    c.in_ok-level_row.ensures.read
    (g.F.File.spare c.args.reader.now.file) (g.F.File.spare c.level_row.new.reader.file) (g.F.File.spare c.level_row-2.new.reader.file)
    c.level_row.ensures.spare c.level_row-2.ensures.spare

pub returns-clause-spare : goal.returns-clause-spare
returns-clause-spare g t c =
    let b = c.row_below-below.ensures in
    both_spare c.args.reader.now.header c.level_row.new.reader.header (c.args.level - 1) c.args.level c.args.y (g.F.File.asked c.args.reader.now.file)
    (g.F.File.asked c.level_row.new.reader.file)
    (g.F.File.asked c.level_row-2.new.reader.file) b.level_is c.requires.row (omega (arith, b.rows, b.inside)) c.level_row.ensures.header
    c.in_ok-level_row.ensures.read
    (g.F.File.spare c.args.reader.now.file) (g.F.File.spare c.level_row.new.reader.file) (g.F.File.spare c.level_row-2.new.reader.file)
    c.level_row.ensures.spare c.level_row-2.ensures.spare

pub returns-clause-read : goal.returns-clause-read
returns-clause-read g t c =
    let b = c.row_below-below.ensures in
    both_read c.args.reader.now.header c.level_row.new.reader.header (c.args.level - 1) c.args.level c.args.y (g.F.File.asked c.args.reader.now.file)
    (g.F.File.asked c.level_row.new.reader.file)
    (g.F.File.asked c.level_row-2.new.reader.file) b.level_is c.requires.row (omega (arith, b.rows, b.inside)) c.level_row.ensures.header
    c.in_ok-level_row.ensures.read
    c.in_ok-level_row-2.ensures.read

pub returns-clause-words : goal.returns-clause-words
returns-clause-words g t c =
    let b = c.row_below-below.ensures in
    two_rows (g.F.File.bytes c.args.reader.now.file) (g.F.File.bytes c.level_row.new.reader.file) c.args.reader.now.header
    c.level_row.new.reader.header c.row_below-below.result.depth c.row_below-below.result.width (c.args.level - 1) c.args.level c.args.y c.level_row.new.out
    c.level_row-2.new.out c.halve_rows-2.new.out c.level_row.ensures.bytes c.level_row.ensures.header b.level_is
    b.depth b.columns b.is_depth b.some_columns
    (omega (arith, b.rows, b.inside)) c.halve_rows-2.ensures.above c.halve_rows-2.ensures.below c.in_ok-level_row.ensures.words
    c.in_ok-level_row-2.ensures.words c.halve_rows-2.ensures.row

pub returns-in_err-level_row-clause-bytes : goal.returns-in_err-level_row-clause-bytes
returns-in_err-level_row-clause-bytes g t c = c.level_row.ensures.bytes

pub returns-in_err-level_row-clause-name : goal.returns-in_err-level_row-clause-name
returns-in_err-level_row-clause-name g t c = c.level_row.ensures.name

pub returns-in_err-level_row-clause-faults : goal.returns-in_err-level_row-clause-faults
returns-in_err-level_row-clause-faults g t c = c.level_row.ensures.faults

pub returns-in_err-level_row-clause-header : goal.returns-in_err-level_row-clause-header
returns-in_err-level_row-clause-header g t c = c.level_row.ensures.header

pub returns-in_err-level_row-clause-kept : goal.returns-in_err-level_row-clause-kept
returns-in_err-level_row-clause-kept g t c = c.level_row.ensures.kept

pub returns-then-y-below-clause-bytes : goal.returns-then-y-below-clause-bytes
returns-then-y-below-clause-bytes g t c = c.level_row.ensures.bytes

pub returns-then-y-below-clause-name : goal.returns-then-y-below-clause-name
returns-then-y-below-clause-name g t c = c.level_row.ensures.name

pub returns-then-y-below-clause-faults : goal.returns-then-y-below-clause-faults
returns-then-y-below-clause-faults g t c = c.level_row.ensures.faults

pub returns-then-y-below-clause-header : goal.returns-then-y-below-clause-header
returns-then-y-below-clause-header g t c = c.level_row.ensures.header

pub returns-then-y-below-clause-kept : goal.returns-then-y-below-clause-kept
returns-then-y-below-clause-kept g t c = c.level_row.ensures.kept

pub returns-in_err-level_row-2-clause-bytes : goal.returns-in_err-level_row-2-clause-bytes
returns-in_err-level_row-2-clause-bytes g t c = c.level_row-2.ensures.bytes ∙ c.level_row.ensures.bytes

pub returns-in_err-level_row-2-clause-name : goal.returns-in_err-level_row-2-clause-name
returns-in_err-level_row-2-clause-name g t c = c.level_row-2.ensures.name ∙ c.level_row.ensures.name

pub returns-in_err-level_row-2-clause-faults : goal.returns-in_err-level_row-2-clause-faults
returns-in_err-level_row-2-clause-faults g t c = le_trans c.level_row.ensures.faults c.level_row-2.ensures.faults

pub returns-in_err-level_row-2-clause-header : goal.returns-in_err-level_row-2-clause-header
returns-in_err-level_row-2-clause-header g t c = c.level_row-2.ensures.header ∙ c.level_row.ensures.header

pub returns-in_err-level_row-2-clause-kept : goal.returns-in_err-level_row-2-clause-kept
returns-in_err-level_row-2-clause-kept g t c = c.level_row-2.ensures.kept

pub returns-clause-bytes : goal.returns-clause-bytes
returns-clause-bytes g t c = c.level_row-2.ensures.bytes ∙ c.level_row.ensures.bytes

pub returns-clause-name : goal.returns-clause-name
returns-clause-name g t c = c.level_row-2.ensures.name ∙ c.level_row.ensures.name

pub returns-clause-faults : goal.returns-clause-faults
returns-clause-faults g t c = le_trans c.level_row.ensures.faults c.level_row-2.ensures.faults

pub returns-clause-header : goal.returns-clause-header
returns-clause-header g t c = c.level_row-2.ensures.header ∙ c.level_row.ensures.header

pub returns-clause-kept : goal.returns-clause-kept
returns-clause-kept g t c = c.level_row-2.ensures.kept

pub returns-then-level-eq0-clause-values : goal.returns-then-level-eq0-clause-values
returns-then-level-eq0-clause-values g t c = c.row.ensures.values

pub returns-then-level-eq0-clause-read : goal.returns-then-level-eq0-clause-read
returns-then-level-eq0-clause-read g t c =
    first_read c.args.reader.now.header c.args.level c.args.y _ _ c.row.result c.if-level-eq0.true c.requires.row c.row.ensures.asked

pub returns-then-level-eq0-clause-tried : goal.returns-then-level-eq0-clause-tried
returns-then-level-eq0-clause-tried g t c =
    first_tried c.args.reader.now.header c.args.level c.args.y _ _ c.row.result c.if-level-eq0.true c.requires.row c.row.ensures.asked

pub returns-then-level-eq0-clause-failed : goal.returns-then-level-eq0-clause-failed
returns-then-level-eq0-clause-failed g t c = c.row.ensures.failed

pub returns-then-level-eq0-clause-bytes : goal.returns-then-level-eq0-clause-bytes
returns-then-level-eq0-clause-bytes g t c = c.row.ensures.bytes

pub returns-then-level-eq0-clause-name : goal.returns-then-level-eq0-clause-name
returns-then-level-eq0-clause-name g t c = c.row.ensures.name

pub returns-then-level-eq0-clause-faults : goal.returns-then-level-eq0-clause-faults
returns-then-level-eq0-clause-faults g t c = c.row.ensures.faults

pub returns-then-level-eq0-clause-header : goal.returns-then-level-eq0-clause-header
returns-then-level-eq0-clause-header g t c = c.row.ensures.header

pub returns-then-level-eq0-clause-kept : goal.returns-then-level-eq0-clause-kept
returns-then-level-eq0-clause-kept g t c = c.row.ensures.kept

pub returns-then-level-eq0-clause-spare : goal.returns-then-level-eq0-clause-spare
returns-then-level-eq0-clause-spare g t c =
    first_spare c.args.reader.now.header c.args.level c.args.y _ _ c.if-level-eq0.true c.requires.row c.row.ensures.spare

pub returns-in_err-level_row-clause-words : goal.returns-in_err-level_row-clause-words
returns-in_err-level_row-clause-words g t c = none_made c.from_residual.result _ _ c.from_residual.ensures.1

pub returns-in_err-level_row-clause-values : goal.returns-in_err-level_row-clause-values
returns-in_err-level_row-clause-values g t c = none_made c.from_residual.result _ _ c.from_residual.ensures.1

pub returns-in_err-level_row-clause-read : goal.returns-in_err-level_row-clause-read
returns-in_err-level_row-clause-read g t c = none_made c.from_residual.result _ _ c.from_residual.ensures.1

pub returns-in_err-level_row-2-clause-words : goal.returns-in_err-level_row-2-clause-words
returns-in_err-level_row-2-clause-words g t c = none_made c.from_residual-in_err-level_row-2.result _ _ c.from_residual-in_err-level_row-2.ensures.1

pub returns-in_err-level_row-2-clause-values : goal.returns-in_err-level_row-2-clause-values
returns-in_err-level_row-2-clause-values g t c = none_made c.from_residual-in_err-level_row-2.result _ _ c.from_residual-in_err-level_row-2.ensures.1

pub returns-in_err-level_row-2-clause-read : goal.returns-in_err-level_row-2-clause-read
returns-in_err-level_row-2-clause-read g t c = none_made c.from_residual-in_err-level_row-2.result _ _ c.from_residual-in_err-level_row-2.ensures.1

pub returns-in_err-level_row-clause-failed : goal.returns-in_err-level_row-clause-failed
returns-in_err-level_row-clause-failed g t c = λ _. c.in_err-level_row.ensures.failed refl

pub returns-in_err-level_row-2-clause-failed : goal.returns-in_err-level_row-2-clause-failed
returns-in_err-level_row-2-clause-failed g t c = λ _. rose_later _ _ _ c.level_row.ensures.faults (c.in_err-level_row-2.ensures.failed refl)

pub returns-then-y-below-clause-values : goal.returns-then-y-below-clause-values
returns-then-y-below-clause-values g t c = c.halve_rows.ensures.values

pub returns-clause-values : goal.returns-clause-values
returns-clause-values g t c = c.halve_rows-2.ensures.values

pub returns-then-y-below-clause-tried : goal.returns-then-y-below-clause-tried
returns-then-y-below-clause-tried g t c = tt

pub returns-then-y-below-clause-failed : goal.returns-then-y-below-clause-failed
returns-then-y-below-clause-failed g t c = λ failed. absurd (false≢true failed)

pub returns-clause-tried : goal.returns-clause-tried
returns-clause-tried g t c = tt

pub returns-clause-failed : goal.returns-clause-failed
returns-clause-failed g t c = λ failed. absurd (false≢true failed)

pub halve_rows-requires-clause-depth : goal.halve_rows-requires-clause-depth
halve_rows-requires-clause-depth g t c = c.row_below-below.ensures.is_depth

pub halve_rows-requires-2-clause-depth : goal.halve_rows-requires-2-clause-depth
halve_rows-requires-2-clause-depth g t c = c.row_below-below.ensures.is_depth

pub halve_rows-requires-clause-top : goal.halve_rows-requires-clause-top
halve_rows-requires-clause-top g t c = omega (arith, c.row_below-below.ensures.product)

pub halve_rows-requires-clause-bottom : goal.halve_rows-requires-clause-bottom
halve_rows-requires-clause-bottom g t c = omega (arith, c.row_below-below.ensures.product)

pub halve_rows-requires-2-clause-top : goal.halve_rows-requires-2-clause-top
halve_rows-requires-2-clause-top g t c = omega (arith, c.row_below-below.ensures.product)

pub halve_rows-requires-2-clause-bottom : goal.halve_rows-requires-2-clause-bottom
halve_rows-requires-2-clause-bottom g t c = omega (arith, c.row_below-below.ensures.product)

pub overflow_mul-below : goal.overflow_mul-below
overflow_mul-below g t c = omega (arith, c.row_below-below.ensures.room, c.requires.room)

pub overflow_sub-level : goal.overflow_sub-level
overflow_sub-level g t c = omega arith

pub overflow_sub-level-2 : goal.overflow_sub-level-2
overflow_sub-level-2 g t c = omega arith

pub row-requires-clause-checked : goal.row-requires-clause-checked
row-requires-clause-checked g t c = c.requires.checked

pub row-requires-clause-inside : goal.row-requires-clause-inside
row-requires-clause-inside g t c = subst (λ k. c.args.y < side c.args.reader.now.header.height k) c.if-level-eq0.true c.requires.row

pub row-requires-clause-size : goal.row-requires-clause-size
row-requires-clause-size g t c = subst (λ k. length c.args.out.now ≡ level_row_length c.args.reader.now.header k) c.if-level-eq0.true c.requires.size

pub row-requires-clause-spare : goal.row-requires-clause-spare
row-requires-clause-spare g t c = first_room c.args.reader.now.header _ _ _ c.if-level-eq0.true c.requires.row c.requires.spare

pub row_below-below-requires-clause-row : goal.row_below-below-requires-clause-row
row_below-below-requires-clause-row g t c = c.requires.row

pub row_below-below-requires-clause-some : goal.row_below-below-requires-clause-some
row_below-below-requires-clause-some g t c = omega arith

pub split_at_mut-top-requires : goal.split_at_mut-top-requires
split_at_mut-top-requires g t c = omega arith
