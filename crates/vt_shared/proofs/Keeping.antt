-- What stays over the steps of the owner.
use Rattle.std.proofs.Common.{◌≡◌, ◌≢◌, ℕ, ◌+◌, ◌-◌, ◌<◌, ◌≤◌, inl, inr, List, [], ◌∷◌, ◌++◌, length, refl, sym, ap, ◌∙◌, subst, arith, slice_index, append_assoc}
use Rattle.vt_journal.specs.declared.changes.Change.{Change}
use Rattle.vt_journal.specs.declared.changes.Change.TheVariants.{Map}
use Rattle.vt_grace.specs.declared.sizes.Sizes.{Sizes}
use Rattle.vt_grace.specs.declared.views.Look.{Look}
use Rattle.vt_grace.specs.declared.views.WriterView.{WriterView}
use Rattle.vt_grace.specs.Banks.{MayFill, MayWriteNext}
use Rattle.vt_grace.specs.Places.{frame_words}
use Rattle.vt_grace.specs.WriterViews.{version_of, floor_of}
use Rattle.vt_streamer.specs.Banks.{HasPublished}
use Rattle.vt_streamer.specs.Fills.{words_in}
use Rattle.vt_streamer.specs.Frees.{IsUnmappedBy}
use Rattle.vt_streamer.specs.Looks.{HasOnlyLooked, IsFirstBehind}
use Rattle.vt_streamer.specs.Views.{StreamerView}
use Rattle.vt_streamer.proofs.Looking.{looked_none, looked_across}
use Rattle.vt_shared.specs.Owners.{HasKeptOwner, HasWrittenFrame, HasMappedNext, WasLeft, IsSamplerAwaited, AwaitsBank, AwaitsFrame}

-- nothing was published either
pub record HasSame (v w : StreamerView) : Type 0 where
  pub kept : HasKeptOwner v w
  pub journal : w.writer.journal ≡ v.writer.journal
  pub contents : w.writer.contents ≡ v.writer.contents

pub kept_both : (u v w : StreamerView) → v.writer.journal ≡ u.writer.journal → HasKeptOwner u v → HasKeptOwner v w → HasKeptOwner u w
kept_both u v w same a b = record {
  table = b.table ∙ a.table;
  shape = b.shape ∙ a.shape;
  sizes = b.sizes ∙ a.sizes;
  out = b.out ∙ a.out;
  returned = b.returned ∙ a.returned;
  notes = b.notes ∙ a.notes;
  word_notes = b.word_notes ∙ a.word_notes;
  looked = looked_across u.writer v.writer w.writer same a.looked b.looked;
}

pub same_both : (u v w : StreamerView) → HasSame u v → HasSame v w → HasSame u w
same_both u v w a b = record {
  kept = kept_both u v w a.journal a.kept b.kept;
  journal = b.journal ∙ a.journal;
  contents = b.contents ∙ a.contents;
}

-- nothing was done
pub same_none : (v : StreamerView) → HasSame v v
same_none v = record {
  kept = record { table = refl; shape = refl; sizes = refl; out = refl; returned = refl; notes = refl; word_notes = refl; looked = looked_none v.writer };
  journal = refl;
  contents = refl;
}

-- samplers were looked at
pub same_looked : (v w : StreamerView) → HasOnlyLooked v.writer w.writer → w ≡ record v { writer = w.writer } → HasSame v w
same_looked v w looked e = record {
  kept = record {
    table = ap (λ (y : StreamerView). y.table) e;
    shape = ap (λ (y : StreamerView). y.shape) e;
    sizes = ap (λ (y : WriterView). y.sizes) looked.rest;
    out = ap (λ (y : WriterView). y.out) looked.rest;
    returned = ap (λ (y : WriterView). y.returned) looked.rest;
    notes = ap (λ (y : WriterView). y.notes) looked.rest;
    word_notes = ap (λ (y : WriterView). y.word_notes) looked.rest;
    looked = subst (HasOnlyLooked v.writer) looked.rest looked;
  };
  journal = ap (λ (y : WriterView). y.journal) looked.rest;
  contents = ap (λ (y : WriterView). y.contents) looked.rest;
}

-- and once more
pub rest_both : (u v w : StreamerView) → v ≡ record u { writer = v.writer } → w ≡ record v { writer = w.writer } → w ≡ record u { writer = w.writer }
rest_both u v w a b = b ∙ ap (λ (y : StreamerView). record y { writer = w.writer }) a

-- the next bank may be written still, after looks and after a frame was filled
pub may_write_on : (b w x : StreamerView) → HasOnlyLooked b.writer w.writer → x ≡ record w { writer = record w.writer { texels = x.writer.texels }; owners = x.owners }
    → MayWriteNext b.writer → MayWriteNext x.writer
may_write_on b w x looked filled may k inside =
    let sizes : x.writer.sizes ≡ b.writer.sizes = ap (λ (y : StreamerView). y.writer.sizes) filled ∙ ap (λ (y : WriterView). y.sizes) looked.rest in
    let journal : x.writer.journal ≡ b.writer.journal = ap (λ (y : StreamerView). y.writer.journal) filled ∙ ap (λ (y : WriterView). y.journal) looked.rest in
    let floor : floor_of x.writer k ≡ floor_of w.writer k = ap (λ (y : StreamerView). floor_of y.writer k) filled in
    let version : version_of x.writer ≡ version_of b.writer = ap (λ (js : List Change). length js) journal in
    let there : k < b.writer.sizes.samplers = subst (λ (z : Sizes). k < z.samplers) sizes inside in
    let before = may k there in
    let rose = looked.up k in
    omega (arith, version, floor, before, rose)

-- a frame was filled
pub same_filled : (v w : StreamerView) → w ≡ record v { writer = record v.writer { texels = w.writer.texels }; owners = w.owners } → HasSame v w
same_filled v w e = record {
  kept = record {
    table = ap (λ (y : StreamerView). y.table) e;
    shape = ap (λ (y : StreamerView). y.shape) e;
    sizes = ap (λ (y : StreamerView). y.writer.sizes) e;
    out = ap (λ (y : StreamerView). y.writer.out) e;
    returned = ap (λ (y : StreamerView). y.writer.returned) e;
    notes = ap (λ (y : StreamerView). y.writer.notes) e;
    word_notes = ap (λ (y : StreamerView). y.writer.word_notes) e;
    looked = subst (λ (y : StreamerView). HasOnlyLooked v.writer (record v.writer { floors = y.writer.floors; looks = y.writer.looks })) (sym e)
        (looked_none v.writer);
  };
  journal = ap (λ (y : StreamerView). y.writer.journal) e;
  contents = ap (λ (y : StreamerView). y.writer.contents) e;
}

-- a change was published
pub kept_published : (v w : StreamerView) (change : Change) → HasPublished v.writer w.writer change → w.table ≡ v.table → w.shape ≡ v.shape → HasKeptOwner v w
kept_published v w change h table shape = record {
  table = table;
  shape = shape;
  sizes = ap (λ (y : WriterView). y.sizes) h.rest;
  out = ap (λ (y : WriterView). y.out) h.rest;
  returned = ap (λ (y : WriterView). y.returned) h.rest;
  notes = ap (λ (y : WriterView). y.notes) h.rest;
  word_notes = ap (λ (y : WriterView). y.word_notes) h.rest;
  looked = h.looked;
}

-- floors after a frame was filled, and after looks or a change too
pub risen : (w x y : StreamerView) → x.writer.floors ≡ w.writer.floors → ((k : ℕ) → floor_of x.writer k ≤ floor_of y.writer k) → (k : ℕ)
    → floor_of w.writer k ≤ floor_of y.writer k
risen w x y same up k = subst (λ (fs : List ℕ). slice_index fs k ≤ floor_of y.writer k) same (up k)

-- a frame that may be filled after looks may be so by floors that are no lower
pub was_left : (v w y : StreamerView) (frame : ℕ) → HasOnlyLooked v.writer w.writer → ((k : ℕ) → floor_of w.writer k ≤ floor_of y.writer k)
    → MayFill w.writer frame → WasLeft v.writer y.writer frame
was_left v w y frame looked up may u (below, (k, inside, low)) page =
    let rose = up k in subst (λ (x : WriterView). MayFill x frame) looked.rest may u (below, (k, inside, omega (arith, rose, low))) page

-- nothing was written where samplers were looked at
pub written_none : (v w : StreamerView) (frame : ℕ) → HasOnlyLooked v.writer w.writer → HasWrittenFrame v frame w
written_none v w frame looked = let same : w.writer.texels ≡ v.writer.texels = ap (λ (y : WriterView). y.texels) looked.rest in record {
  others = λ f low other. ap (λ (t : List ℕ). frame_words v.writer.sizes t f) same;
  own = inl same;
}

-- and one frame where looks said that it may be filled
pub written_one : (z : Sizes) (v w x y : StreamerView) (frame : ℕ) → v.writer.sizes ≡ z → HasOnlyLooked v.writer w.writer → w ≡ record v { writer = w.writer }
    → ((k : ℕ) → floor_of w.writer k ≤ floor_of y.writer k) → MayFill w.writer frame
    → ((f : ℕ) → f < length w.owners → f ≢ frame → frame_words z x.writer.texels f ≡ frame_words z w.writer.texels f)
    → y.writer.texels ≡ x.writer.texels → HasWrittenFrame v frame y
written_one z v w x y frame sizes looked rest up may filled after = record {
  others = λ f low other.
      let count : length w.owners ≡ length v.owners = ap (λ (u : StreamerView). length u.owners) rest in
      subst (λ (s : Sizes). frame_words s y.writer.texels f ≡ frame_words s v.writer.texels f) (sym sizes)
      (ap (λ (t : List ℕ). frame_words z t f) after
      ∙ filled f (omega (arith, count, low)) other
      ∙ ap (λ (t : List ℕ). frame_words z t f) (ap (λ (u : WriterView). u.texels) looked.rest));
  own = inr (was_left v w y frame looked up may);
}

-- whom a step waits for
awaited : (u v w : WriterView) (least k h : ℕ) (more : List Look) → v.looks ≡ more ++ u.looks → HasOnlyLooked v w → IsFirstBehind v w least k h → IsSamplerAwaited u w least k h
awaited u v w least k h more e looked first = record {
  inside = subst (λ (y : Sizes). k < y.samplers) (sym (ap (λ (x : WriterView). x.sizes) looked.rest)) first.inside;
  below = first.behind.below;
  low = first.behind.low;
  before = first.behind.before ++ more;
  looked = first.behind.looks ∙ ap (λ (l : List Look). record { sampler = k; word = h + 1 } ∷ l)
      (ap (λ (l : List Look). first.behind.before ++ l) e ∙ sym (append_assoc first.behind.before more u.looks));
  others = first.others;
}

pub bank_awaited : (u v w : StreamerView) (k h : ℕ) (more : List Look) → v.writer.looks ≡ more ++ u.writer.looks → HasSame u v → HasOnlyLooked v.writer w.writer
    → IsFirstBehind v.writer w.writer (version_of v.writer - 2) k h → AwaitsBank u w k h
bank_awaited u v w k h more e same looked first =
    subst (λ (js : List Change). IsSamplerAwaited u.writer w.writer (length js - 2) k h) same.journal (awaited u.writer v.writer w.writer (version_of v.writer - 2) k h more e looked first)

pub frame_awaited : (u v w : StreamerView) (frame k h : ℕ) → HasOnlyLooked u.writer v.writer → HasOnlyLooked v.writer w.writer
    → (version : ℕ) × IsUnmappedBy v.writer.journal frame version × IsFirstBehind v.writer w.writer version k h → AwaitsFrame u frame w k h
frame_awaited u v w frame k h before looked p = record {
  version = p.0;
  unmapped = subst (λ (js : List Change). IsUnmappedBy js frame p.0) (ap (λ (y : WriterView). y.journal) before.rest) p.1;
  awaited = awaited u.writer v.writer w.writer p.0 k h before.more before.looks looked p.2;
}

pub has_mapped : (z : Sizes) (u w x : StreamerView) (page frame : ℕ) (tile : List ℕ) → WasLeft u.writer x.writer frame → HasSame u w → w.writer.sizes ≡ z
    → frame_words z w.writer.texels frame ≡ words_in u.shape tile → HasPublished w.writer x.writer (Map page frame) → HasMappedNext u page frame tile x
has_mapped z u w x page frame tile left same sizes content h =
    let brought = ap (λ (y : Sizes). frame_words y w.writer.texels frame) sizes ∙ content in record {
      left = left;
      journal = h.journal ∙ ap (λ (js : List Change). js ++ Map page frame ∷ []) same.journal;
      contents = h.contents ∙ (λ i. same.contents i ++ brought i ∷ []);
    }
