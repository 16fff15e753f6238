use Rattle.std.proofs.Common.{◌≡◌, ℕ, ◌-◌, ◌/◌, ◌^◌, ◌≤◌, sym, ◌∙◌, subst, arith}
use Rattle.vt_pages.specs.Shape.{Shape}
use Rattle.vt_pages.specs.Pages.{level_of, texel_page}
use Rattle.vt_pages.specs.Laws.{IsInside}
use Rattle.vt_draw.specs.Lookups.{WordNote, place_in_tile}
use Rattle.vt_plain_bilinear.specs.Inside.{covered}
use Rattle.vt_plain_bilinear.proofs.served.word_of_texel.Goals as goal

pub overflow_sub-up : goal.overflow_sub-up
overflow_sub-up g c =
    let least : 2 ≤ c.args.geometry.now.tile = c.requires.limits.least_tile in
    (covered c.args.geometry.now (g.K.Lookup.version c.args.lookup.now) (g.K.Lookup.says c.args.lookup.now) c.args.level c.args.column
    c.args.line c.args.found.now (omega (arith, least)) c.requires.inside c.requires.finest).low

pub texel-requires-clause-mapped : goal.texel-requires-clause-mapped
texel-requires-clause-mapped g c = c.requires.finest.mapped

pub texel-requires-clause-level : goal.texel-requires-clause-level
texel-requires-clause-level g c =
    subst (λ (s : Shape). c.args.found.now.level ≡ level_of s c.args.found.now.page) (sym c.requires.shape) c.requires.finest.level

pub texel-requires-clause-inside : goal.texel-requires-clause-inside
texel-requires-clause-inside g c =
    let least : 2 ≤ c.args.geometry.now.tile = c.requires.limits.least_tile in
    let up : ℕ = c.args.found.now.level - c.args.level in
    subst (λ (s : Shape). IsInside s c.args.found.now.level (c.args.column / 2 ^ up) (c.args.line / 2 ^ up)) (sym c.requires.shape)
    (covered c.args.geometry.now (g.K.Lookup.version c.args.lookup.now) (g.K.Lookup.says c.args.lookup.now) c.args.level c.args.column
    c.args.line c.args.found.now (omega (arith, least)) c.requires.inside c.requires.finest).inside

pub texel-requires-clause-page : goal.texel-requires-clause-page
texel-requires-clause-page g c =
    let least : 2 ≤ c.args.geometry.now.tile = c.requires.limits.least_tile in
    let up : ℕ = c.args.found.now.level - c.args.level in
    subst (λ (s : Shape). texel_page s c.args.found.now.level (c.args.column / 2 ^ up) (c.args.line / 2 ^ up) ≡ c.args.found.now.page)
    (sym c.requires.shape)
    (covered c.args.geometry.now (g.K.Lookup.version c.args.lookup.now) (g.K.Lookup.says c.args.lookup.now) c.args.level c.args.column
    c.args.line c.args.found.now (omega (arith, least)) c.requires.inside c.requires.finest).page

pub returns-clause-on : goal.returns-clause-on
returns-clause-on g c = record {
  shape = c.texel.ensures.shape;
  version = c.texel.ensures.version;
  said = c.texel.ensures.said;
  kept = c.texel.ensures.kept;
}

pub returns-clause-read : goal.returns-clause-read
returns-clause-read g c =
    let up : ℕ = c.args.found.now.level - c.args.level in
    let says = g.K.Lookup.says c.texel.new.self in
    let slot = c.args.found.now.slot in
    let x : ℕ = c.args.column / 2 ^ up in
    let y : ℕ = c.args.line / 2 ^ up in
    subst (λ (s : Shape). says (WordNote (g.K.Lookup.version c.args.lookup.now) slot (place_in_tile s x y) c.texel.result))
    (c.texel.ensures.shape ∙ c.requires.shape)
    (subst (λ (n : ℕ). says (WordNote n slot (place_in_tile (g.K.Lookup.shape c.texel.new.self) x y) c.texel.result))
    c.texel.ensures.version c.texel.ensures.read)
