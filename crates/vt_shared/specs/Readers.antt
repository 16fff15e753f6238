-- What is seen of a reader, and what its calls change.
use Rattle.std.specs.Prelude.{◌≡◌, ℕ, ◌≤◌, ◌<◌, true, List, ◌∷◌, length}
use Rattle.vt_definitions.specs.Depths.{IsDepth}
use Rattle.vt_pages.specs.Shape.{Shape}
use Rattle.vt_draw.specs.declared.lookups.Found.{Found}
use Rattle.vt_draw.specs.Lookups.{IsFinestFound}
use Rattle.vt_grace.specs.declared.views.PassView.{PassView}
use Rattle.vt_grace.specs.Values.{WordsValue, PassValue, HeldValue}
use Rattle.vt_grace.specs.Tokens.{IsPassOf, IsHeldOf}
use Rattle.vt_grace.specs.PassViews.{NoneAbove, idle, no_pass}
use Rattle.vt_lookup.specs.Notes.{FitsShape, IsNotedIn, HasNotedMore}
use Rattle.vt_texel_runs.specs.declared.points.Point.{Point}
use Rattle.vt_shared.specs.declared.reader.Stand.{Stand}
use Rattle.vt_texel_runs.specs.declared.spans.Span.{Span}
use Rattle.vt_shared.specs.declared.reader.Stand.TheVariants.{Gone, Resting, Holding}
use Rattle.vt_grace.specs.Giving.{new_pass}
use Rattle.vt_texel_runs.specs.Blends.{AreBlendsAlong}
use Rattle.vt_shared.specs.Owners.{OwnerView}
use Rattle.vt_texel_runs.specs.Points.{AreAnswered}
use Rattle.vt_texel_runs.specs.Spans.{AreSpanned, AreWantedBySpan}

-- the words, the shape of their pages, how many bytes a sample has, which sampler it is, and its pass or hold
pub record SharedReaderView : Type 0 where
  pub words : WordsValue
  pub shape : Shape
  pub depth : ℕ
  pub sampler : ℕ
  pub stand : Stand

-- its pass or hold is one of the words, of its sampler, and was given at a version that maps the root
abbrev pub IsStanding : WordsValue → ℕ → Stand → Type 0
IsStanding words sampler Gone = ⊥
IsStanding words sampler (Resting p) = IsPassOf words p × (p.view.rooted ≡ true) × (p.view.sampler ≡ sampler)
IsStanding words sampler (Holding h) = IsHeldOf words h × (h.view.rooted ≡ true) × (h.view.sampler ≡ sampler)

-- what always holds of it
pub record IsReaderStanding (words : WordsValue) (s : Shape) (depth sampler : ℕ) (stand : Stand) : Type 0 where
  pub fits : FitsShape s words.sizes
  pub depth_is : IsDepth depth
  pub inside : sampler < words.sizes.samplers
  pub standing : IsStanding words sampler stand

-- what its pass knows once it holds nothing
abbrev pub left_by : Stand → PassView
left_by Gone = no_pass
left_by (Resting p) = p.view
left_by (Holding h) = idle h.view

-- it holds a version
abbrev pub HoldsOne : SharedReaderView → Type 0
HoldsOne v = (held : HeldValue) × (v.stand ≡ Holding held)

-- it holds none
abbrev pub HoldsNone : SharedReaderView → Type 0
HoldsNone v = (pass : PassValue) × (v.stand ≡ Resting pass)

-- it has taken hold of the newest version
pub record HasTakenHold (v w : SharedReaderView) (version : ℕ) : Type 0 where
  pub pass : PassValue
  pub held : HeldValue
  pub before : v.stand ≡ Resting pass
  pub after : w.stand ≡ Holding held
  pub rest : w ≡ record v { stand = w.stand }
  pub number : held.version ≡ version
  pub view : held.view ≡ record pass.view { stage = held.view.stage; held = version ∷ pass.view.held }
  pub later : NoneAbove version pass.view.held
  pub since : pass.view.given ≤ version

-- it holds its version no longer
pub record HasReleased (v w : SharedReaderView) : Type 0 where
  pub held : HeldValue
  pub pass : PassValue
  pub before : v.stand ≡ Holding held
  pub after : w.stand ≡ Resting pass
  pub rest : w ≡ record v { stand = w.stand }
  pub view : pass.view ≡ idle held.view

-- it has read under its hold, and what was read is noted
pub record HasReadOn (v w : SharedReaderView) (held now : HeldValue) : Type 0 where
  pub before : v.stand ≡ Holding held
  pub after : w.stand ≡ Holding now
  pub rest : w ≡ record v { stand = w.stand }
  pub number : now.version ≡ held.version
  pub more : HasNotedMore held.view now.view

-- it looked a page up in the version that it holds (van Waveren 2012)
pub record HasLookedUp (v w : SharedReaderView) (page : ℕ) (found : Found) : Type 0 where
  pub held : HeldValue
  pub now : HeldValue
  pub on : HasReadOn v w held now
  pub finest : IsFinestFound v.shape now.version (IsNotedIn now.view) page found

-- it read the texels over points in the version that it holds
pub record HasReadTexels (v w : SharedReaderView) (points : List Point) (bytes : List ℕ) : Type 0 where
  pub held : HeldValue
  pub now : HeldValue
  pub on : HasReadOn v w held now
  pub answered : AreAnswered v.shape v.depth now.version (IsNotedIn now.view) points (length points) bytes

-- it read a run of texels in the version that it holds, and told the page that each wants
pub record HasReadRun (v w : SharedReaderView) (span : Span) (bytes pages : List ℕ) : Type 0 where
  pub held : HeldValue
  pub now : HeldValue
  pub on : HasReadOn v w held now
  pub answered : AreSpanned v.shape v.depth now.version (IsNotedIn now.view) span span.count bytes
  pub wanted : AreWantedBySpan v.shape span span.count pages

-- it read a run of texels by bilinear filtering in the version that it holds, and told the page that each wants
pub record HasBlendedRun (v w : SharedReaderView) (span : Span) (bytes pages : List ℕ) : Type 0 where
  pub held : HeldValue
  pub now : HeldValue
  pub on : HasReadOn v w held now
  pub answered : AreBlendsAlong v.shape v.depth now.version (IsNotedIn now.view) span span.count bytes
  pub wanted : AreWantedBySpan v.shape span span.count pages

-- it is a reader of an owner's table
pub record IsReaderOf (o : OwnerView) (r : SharedReaderView) : Type 0 where
  pub words : r.words ≡ o.words
  pub shape : r.shape ≡ o.streamer.shape
  pub depth : r.depth ≡ o.depth

-- it was admitted by an owner, as a sampler
pub record IsAdmitted (o : OwnerView) (sampler : ℕ) (r : SharedReaderView) : Type 0 where
  pub words : r.words ≡ o.words
  pub shape : r.shape ≡ o.streamer.shape
  pub depth : r.depth ≡ o.depth
  pub number : r.sampler ≡ sampler
  pub pass : PassValue
  pub stand : r.stand ≡ Resting pass
  pub given : pass.view ≡ new_pass o.streamer.writer sampler
