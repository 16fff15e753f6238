use Rattle.std.proofs.Common.{◌≡◌, ◌∙◌, length, take, refl, ap, arith, length-drop}
use Rattle.vt_definitions.specs.Limits.{most_read_side}
use Rattle.vt_outside.specs.Files.{IsPiece}
use Rattle.vt_ppm.specs.Flaws.{IsLawfulHeader}
use Rattle.vt_ppm.proofs.Rasters.{head_is, lawful_header, flaw_of_head, image_there, sample_over, piece_is, truncated}
use Rattle.vt_ppm.proofs.whole.image_flaw.Goals as goal

pub returns-in-Err-clause-some : goal.returns-in-Err-clause-some
returns-in-Err-clause-some c =
    let b = c.args.bytes.now in
    let first : c.split_at.result.0.now ≡ take 65536 b = head_is b c.split_at.result.0.now (length b) refl
    (c.split_at.ensures.front ∙ ap (λ n. take n b) c.min.ensures) in
    flaw_of_head most_read_side b c.split_at.result.0.now first c.in-Err.flaw c.in-Err.ensures.no_raster c.in-Err.ensures.flaw

pub returns-in_err-at-clause-none : goal.returns-in_err-at-clause-none
returns-in_err-at-clause-none c =
    let b = c.args.bytes.now in
    let h = c.in-Ok.header in
    let raster = c.split_at-3.result.0.now in
    let first : c.split_at.result.0.now ≡ take 65536 b = head_is b c.split_at.result.0.now (length b) refl
    (c.split_at.ensures.front ∙ ap (λ n. take n b) c.min.ensures) in
    let header : IsLawfulHeader most_read_side b h.raster h.width h.height h.maximum =
    lawful_header most_read_side b c.split_at.result.0.now first h.raster h.width h.height h.maximum c.in-Ok.ensures.header in
    let piece : IsPiece b h.raster raster = piece_is b c.split_at-2.result.1.now raster h.raster
    c.raster_length-want.result header.sized.header.within c.split_at-2.ensures.back c.if-have-want.false c.split_at-3.ensures.front in
    rw c.from_residual.ensures
    (image_there most_read_side b raster h.raster h.width h.height h.maximum header piece (c.split_at-3.ensures.front_len
    ∙ c.raster_length-want.ensures) c.in_err-at.ensures.none)

pub returns-clause-some : goal.returns-clause-some
returns-clause-some c =
    let b = c.args.bytes.now in
    let h = c.in-Ok.header in
    let raster = c.split_at-3.result.0.now in
    let first : c.split_at.result.0.now ≡ take 65536 b = head_is b c.split_at.result.0.now (length b) refl
    (c.split_at.ensures.front ∙ ap (λ n. take n b) c.min.ensures) in
    let header : IsLawfulHeader most_read_side b h.raster h.width h.height h.maximum =
    lawful_header most_read_side b c.split_at.result.0.now first h.raster h.width h.height h.maximum c.in-Ok.ensures.header in
    let piece : IsPiece b h.raster raster = piece_is b c.split_at-2.result.1.now raster h.raster
    c.raster_length-want.result header.sized.header.within c.split_at-2.ensures.back c.if-have-want.false c.split_at-3.ensures.front in
    sample_over most_read_side b raster h.raster h.width h.height h.maximum header piece
    (c.split_at-3.ensures.front_len ∙ c.raster_length-want.ensures) c.in_ok-at.at c.in_ok-at.ensures.some

pub returns-in-Err-clause-none : goal.returns-in-Err-clause-none
returns-in-Err-clause-none c = tt

pub returns-then-have-want-clause-none : goal.returns-then-have-want-clause-none
returns-then-have-want-clause-none c = tt

pub returns-clause-none : goal.returns-clause-none
returns-clause-none c = tt

pub returns-in_err-at-clause-some : goal.returns-in_err-at-clause-some
returns-in_err-at-clause-some c = rw c.from_residual.ensures tt

pub returns-then-have-want-clause-some : goal.returns-then-have-want-clause-some
returns-then-have-want-clause-some c =
    let b = c.args.bytes.now in
    let h = c.in-Ok.header in
    let first : c.split_at.result.0.now ≡ take 65536 b = head_is b c.split_at.result.0.now (length b) refl
    (c.split_at.ensures.front ∙ ap (λ n. take n b) c.min.ensures) in
    let header : IsLawfulHeader most_read_side b h.raster h.width h.height h.maximum =
    lawful_header most_read_side b c.split_at.result.0.now first h.raster h.width h.height h.maximum c.in-Ok.ensures.header in
    truncated most_read_side b h.raster h.width h.height h.maximum _ _ header c.raster_length-want.ensures
    (omega (arith, header.sized.header.within, ap length c.split_at-2.ensures.back, length-drop h.raster b)) c.if-have-want.true
