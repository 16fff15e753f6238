-- A word is found from where its bank or the texels begin.
use Rattle.std.proofs.Common.{◌≡◌, ℕ, ◌+◌, ◌*◌, ◌%◌, ◌<◌, ◌≤◌, All, ap, subst, sym, arith}
use Rattle.std.proofs.lemmas.List.Elements.{All-contains}
use Rattle.vt_grace.specs.declared.sizes.Sizes.{Sizes}
use Rattle.vt_grace.specs.declared.views.EntryNote.{EntryNote}
use Rattle.vt_grace.specs.declared.views.PassView.{PassView}
use Rattle.vt_grace.specs.Sizes.{AreWithinLimits}
use Rattle.vt_grace.specs.PassViews.{HasEntry}
use Rattle.vt_grace.specs.Places.{words_of, entry_word, texel_word, AreStarts}
use Rattle.vt_grace.proofs.Rows.{place_low, before_row}

pub entry_from : (z : Sizes) (bank entry texel count page : ℕ) → AreStarts z bank entry texel count → entry + page ≡ entry_word z bank page
entry_from z bank entry texel count page starts = let at = starts.entries in omega arith

pub entry_inside : (z : Sizes) (bank page : ℕ) → bank < 4 → page < z.pages → entry_word z bank page < words_of z
entry_inside z bank page four inside = let low = place_low bank z.pages page four inside in omega arith

pub texel_from : (z : Sizes) (bank entry texel count frame place : ℕ) → AreStarts z bank entry texel count
    → texel + (frame * count + place) ≡ texel_word z frame place
texel_from z bank entry texel count frame place starts = let at = starts.texels in let same = ap (λ (n : ℕ). frame * n) starts.counted in omega arith

pub texel_inside : (z : Sizes) (frame place : ℕ) → frame < z.frames → place < z.texels → texel_word z frame place < words_of z
texel_inside z frame place low inside = let less = before_row frame z.frames z.texels place low inside in omega arith

pub starts_kept : (z y : Sizes) (bank entry texel count : ℕ) → y ≡ z → AreStarts z bank entry texel count → AreStarts y bank entry texel count
starts_kept z y bank entry texel count same starts = subst (λ (x : Sizes). AreStarts x bank entry texel count) (sym same) starts

pub entry_low : (y z : Sizes) (u entry texel count page : ℕ) → AreStarts z (u % 4) entry texel count → z ≡ y → page < y.pages → entry + page < words_of y
entry_low y z u entry texel count page starts same inside =
    let here = entry_from y (u % 4) entry texel count page (starts_kept z y (u % 4) entry texel count (sym same) starts) in
    let low = entry_inside y (u % 4) page (omega arith) inside in omega arith

pub frame_low : (p : PassView) (u frame : ℕ) → All (λ (n : EntryNote). n.entry ≤ p.sizes.frames) p.notes → HasEntry u p frame → frame < p.sizes.frames
frame_low p u frame small noted =
    let low = All-contains (λ (n : EntryNote). n.entry ≤ p.sizes.frames) p.notes noted.0 small noted.1 in let entry = noted.3 in omega arith

pub texel_low : (y z : Sizes) (bank entry texel count frame place : ℕ) → AreStarts z bank entry texel count → z ≡ y → frame < z.frames → place < z.texels
    → texel + (frame * count + place) < words_of y
texel_low y z bank entry texel count frame place starts same low inside = subst (λ (x : Sizes). texel + (frame * count + place) < words_of x) same
    (let here = texel_from z bank entry texel count frame place starts in let less = texel_inside z frame place low inside in omega arith)

pub few_words : (z : Sizes) → AreWithinLimits z → words_of z ≤ 10_000_000
few_words z h = let a = h.samplers in let b = h.pages in let c = h.texels in omega arith
