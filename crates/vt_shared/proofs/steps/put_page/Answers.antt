use Rattle.std.proofs.Common.{[], refl, inl, inr, sym, ap, ◌∙◌}
use Rattle.vt_outside.proofs.Refusing.{handed_on}
use Rattle.vt_pages.specs.Shape.{Shape}
use Rattle.vt_grace.specs.declared.views.WriterView.{WriterView}
use Rattle.vt_streamer.specs.Fills.{words_in}
use Rattle.vt_streamer.specs.Looks.{HasOnlyLooked}
use Rattle.vt_streamer.specs.Views.{StreamerView}
use Rattle.vt_streamer.proofs.Looking.{looked_on}
use Rattle.vt_shared.proofs.Handing.{given_same, given_mapped}
use Rattle.vt_shared.proofs.Keeping.{HasSame, same_both, same_looked, same_filled, same_none, rest_both, may_write_on, bank_awaited, frame_awaited, kept_both, kept_published, risen, was_left, has_mapped, written_none, written_one}
use Rattle.vt_shared.proofs.Tiles.{are_bytes}
use Rattle.vt_shared.proofs.steps.put_page.Goals as goal

pub publish-requires-clause-may : goal.publish-requires-clause-may
publish-requires-clause-may c =
    may_write_on c.try_bank.new.self c.try_free.new.self c.fill.new.self c.try_free.ensures.looked c.fill.ensures.rest c.in_ok-try_bank.ensures.may

pub returns-clause-given : goal.returns-clause-given
returns-clause-given c =
    let v = c.args.streamer.now in
    let b = c.try_bank.new.self in
    let w = c.try_free.new.self in
    let x = c.fill.new.self in
    let looked : HasOnlyLooked v.writer w.writer = looked_on v.writer b.writer w.writer c.try_bank.ensures.looked c.try_free.ensures.looked in
    let rest = rest_both v b w c.try_bank.ensures.rest c.try_free.ensures.rest in
    let left : HasSame v w = same_looked v w looked rest in
    let same : HasSame v x = same_both v w x left (same_filled w x c.fill.ensures.rest) in
    let y = c.publish.new.self in
    given_mapped c.args.words.now.sizes c.args.depth v x y c.args.page c.args.frame c.args.tile.now same c.fill.ensures.of.seen
    (c.fill.ensures.content ∙ ap (λ (s : Shape). words_in s c.args.tile.now) left.kept.shape) c.publish.ensures.published c.publish.ensures.shape
    c.requires.of.sound.contents c.requires.tile (are_bytes _ c.type_inv.tile) c.requires.given

pub returns-clause-mapped : goal.returns-clause-mapped
returns-clause-mapped c =
    let v = c.args.streamer.now in
    let b = c.try_bank.new.self in
    let w = c.try_free.new.self in
    let x = c.fill.new.self in
    let looked : HasOnlyLooked v.writer w.writer = looked_on v.writer b.writer w.writer c.try_bank.ensures.looked c.try_free.ensures.looked in
    let rest = rest_both v b w c.try_bank.ensures.rest c.try_free.ensures.rest in
    let left : HasSame v w = same_looked v w looked rest in
    let same : HasSame v x = same_both v w x left (same_filled w x c.fill.ensures.rest) in
    let y = c.publish.new.self in
    let up = risen w x y (ap (λ (s : StreamerView). s.writer.floors) c.fill.ensures.rest) c.publish.ensures.published.looked.up in
    has_mapped c.args.words.now.sizes v x y c.args.page c.args.frame c.args.tile.now (was_left v w y c.args.frame looked up c.in_ok-try_free.ensures.may) same
    c.fill.ensures.of.seen (c.fill.ensures.content ∙ ap (λ (s : Shape). words_in s c.args.tile.now) left.kept.shape) c.publish.ensures.published

pub returns-in_err-try_bank-clause-waiting : goal.returns-in_err-try_bank-clause-waiting
returns-in_err-try_bank-clause-waiting c =
    let v = c.args.streamer.now in
    let b = c.try_bank.new.self in
    handed_on c.from_residual.result c.in_err-try_bank.field-0.0 _ c.from_residual.ensures.1
    (inr (bank_awaited v v b c.in_err-try_bank.field-0.0.sampler c.in_err-try_bank.field-0.0.holds [] refl (same_none v) c.try_bank.ensures.looked
    c.in_err-try_bank.ensures.waiting))

pub returns-in_err-try_free-clause-waiting : goal.returns-in_err-try_free-clause-waiting
returns-in_err-try_free-clause-waiting c =
    let v = c.args.streamer.now in
    let b = c.try_bank.new.self in
    let w = c.try_free.new.self in
    handed_on c.from_residual-in_err-try_free.result c.in_err-try_free.field-0.0 _ c.from_residual-in_err-try_free.ensures.1
    (inl (frame_awaited v b w c.args.frame c.in_err-try_free.field-0.0.sampler c.in_err-try_free.field-0.0.holds c.try_bank.ensures.looked
    c.try_free.ensures.looked c.in_err-try_free.ensures.waiting))

pub returns-clause-written : goal.returns-clause-written
returns-clause-written c =
    let v = c.args.streamer.now in
    let b = c.try_bank.new.self in
    let w = c.try_free.new.self in
    let x = c.fill.new.self in
    let y = c.publish.new.self in
    let looked : HasOnlyLooked v.writer w.writer = looked_on v.writer b.writer w.writer c.try_bank.ensures.looked c.try_free.ensures.looked in
    let rest = rest_both v b w c.try_bank.ensures.rest c.try_free.ensures.rest in
    let up = risen w x y (ap (λ (s : StreamerView). s.writer.floors) c.fill.ensures.rest) c.publish.ensures.published.looked.up in
    written_one c.args.words.now.sizes v w x y c.args.frame c.requires.of.seen looked rest up c.in_ok-try_free.ensures.may c.fill.ensures.other_contents
    (ap (λ (s : WriterView). s.texels) c.publish.ensures.published.rest)

pub returns-in_err-try_bank-clause-written : goal.returns-in_err-try_bank-clause-written
returns-in_err-try_bank-clause-written c =
    written_none _ _ _ c.try_bank.ensures.looked

pub returns-in_err-try_free-clause-written : goal.returns-in_err-try_free-clause-written
returns-in_err-try_free-clause-written c =
    let v = c.args.streamer.now in
    let b = c.try_bank.new.self in
    let w = c.try_free.new.self in
    let looked : HasOnlyLooked v.writer w.writer = looked_on v.writer b.writer w.writer c.try_bank.ensures.looked c.try_free.ensures.looked in
    written_none v w c.args.frame looked

pub returns-clause-kept : goal.returns-clause-kept
returns-clause-kept c =
    let v = c.args.streamer.now in
    let b = c.try_bank.new.self in
    let w = c.try_free.new.self in
    let x = c.fill.new.self in
    let looked : HasOnlyLooked v.writer w.writer = looked_on v.writer b.writer w.writer c.try_bank.ensures.looked c.try_free.ensures.looked in
    let rest = rest_both v b w c.try_bank.ensures.rest c.try_free.ensures.rest in
    let left : HasSame v w = same_looked v w looked rest in
    let same : HasSame v x = same_both v w x left (same_filled w x c.fill.ensures.rest) in
    let y = c.publish.new.self in
    kept_both v x y same.journal same.kept
    (kept_published x y _ c.publish.ensures.published (c.publish.ensures.of.table ∙ sym c.fill.ensures.of.table) c.publish.ensures.shape)

pub returns-in_err-try_bank-clause-kept : goal.returns-in_err-try_bank-clause-kept
returns-in_err-try_bank-clause-kept c =
    let v = c.args.streamer.now in
    let b = c.try_bank.new.self in
    (same_looked v b c.try_bank.ensures.looked c.try_bank.ensures.rest).kept

pub returns-in_err-try_free-clause-kept : goal.returns-in_err-try_free-clause-kept
returns-in_err-try_free-clause-kept c =
    let v = c.args.streamer.now in
    let b = c.try_bank.new.self in
    let w = c.try_free.new.self in
    let looked : HasOnlyLooked v.writer w.writer = looked_on v.writer b.writer w.writer c.try_bank.ensures.looked c.try_free.ensures.looked in
    let rest = rest_both v b w c.try_bank.ensures.rest c.try_free.ensures.rest in
    (same_looked v w looked rest).kept

pub returns-in_err-try_bank-clause-given : goal.returns-in_err-try_bank-clause-given
returns-in_err-try_bank-clause-given c =
    let v = c.args.streamer.now in
    let b = c.try_bank.new.self in
    given_same c.args.depth v b (same_looked v b c.try_bank.ensures.looked c.try_bank.ensures.rest) c.requires.given

pub returns-in_err-try_free-clause-given : goal.returns-in_err-try_free-clause-given
returns-in_err-try_free-clause-given c =
    let v = c.args.streamer.now in
    let b = c.try_bank.new.self in
    let w = c.try_free.new.self in
    let looked : HasOnlyLooked v.writer w.writer = looked_on v.writer b.writer w.writer c.try_bank.ensures.looked c.try_free.ensures.looked in
    let rest = rest_both v b w c.try_bank.ensures.rest c.try_free.ensures.rest in
    given_same c.args.depth v w (same_looked v w looked rest) c.requires.given
