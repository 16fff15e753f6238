-- Readers of shared words: each has its pass of them while it is not at home.
use Rattle.std.specs.Prelude.{◌≡◌, ℕ, ◌≤◌, ◌<◌, true, false, Option, None, Some, List, [], ◌∷◌}
use Rattle.vt_journal.specs.Shape.{Shape}
use Rattle.vt_sampler.specs.Lookups.{Note}
use Rattle.vt_sampler.specs.GraceTypes.views.PassView.{PassView}
use Rattle.vt_sampler.specs.GraceTypes.views.WriterView.{WriterView}
use Rattle.vt_sampler.specs.Values.{WordsValue, PassValue}
use Rattle.vt_sampler.specs.Tokens.{IsPassOf}
use Rattle.vt_sampler.specs.LookupNotes.{FitsShape, IsNotedIn, HasHeldMore}
use Rattle.vt_sampler.specs.Held.{WasHeld}
use Rattle.vt_grace.specs.PassViews.{NoneAbove}
use Rattle.vt_grace.specs.WriterViews.{is_out}

-- a sampler's pass is home
pub record IsAtHome (w : WriterView) (number : ℕ) (o : Option PassValue) : Type 0 where
  pub none : o ≡ None
  pub absent : is_out w number ≡ false
  pub inside : number < w.sizes.samplers

-- a sampler has its pass of words that are as large as a texture asks, which was given at a version that maps the root
pub record HasOwnPass (words : WordsValue) (s : Shape) (number : ℕ) (o : Option PassValue) : Type 0 where
  pub fits : FitsShape s words.sizes
  pub pass : PassValue
  pub has : o ≡ Some pass
  pub of : IsPassOf words pass
  pub rooted : pass.view.rooted ≡ true
  pub own : pass.view.sampler ≡ number
  pub inside : number < words.sizes.samplers

-- there are both passes, and this holds of what they know
abbrev pub OfPasses : (PassView → PassView → Type 0) → Option PassValue → Option PassValue → Type 0
OfPasses P None o = ⊥
OfPasses P (Some p) None = ⊥
OfPasses P (Some p) (Some q) = P p.view q.view

-- a pass held one version more, which is not below the one at which it was given, nor any that it held before
pub record HoldsRow (p q : PassView) (version : ℕ) : Type 0 where
  pub more : HasHeldMore p q (version ∷ [])
  pub later : NoneAbove version p.held
  pub since : p.given ≤ version

abbrev pub HeldRow : Option PassValue → Option PassValue → ℕ → Type 0
HeldRow o q version = OfPasses (λ a b. HoldsRow a b version) o q

abbrev pub HeldRows : Option PassValue → Option PassValue → List ℕ → Type 0
HeldRows o q versions = OfPasses (λ a b. HasHeldMore a b versions) o q

-- a version was held between two views of a pass, which was not given anew meanwhile
pub record HeldSince (p q : PassView) (version : ℕ) : Type 0 where
  pub held : WasHeld p q version
  pub given : q.given ≡ p.given

abbrev pub HeldAt : Option PassValue → Option PassValue → ℕ → Type 0
HeldAt o q version = OfPasses (λ a b. HeldSince a b version) o q

-- there is nothing to enter
abbrev pub EnteredWith : Option PassValue → Option PassValue → Type 0
EnteredWith o q = q ≡ o

-- the version at which a pass was given, if there is one
abbrev pub given_of : Option PassValue → ℕ
given_of None = 0
given_of (Some p) = p.view.given

-- what it noted
abbrev pub IsNotedIf : Option PassValue → Note → Type 0
IsNotedIf None note = ⊥
IsNotedIf (Some p) note = IsNotedIn p.view note
