-- What a call answers where another one that it makes is refused.
use Rattle.std.proofs.Common.{◌≡◌, ℕ, Bool, true, false, List, Option, Result, Ok, Err, is_ok, is_err, OnOk, OnErr, IfErr, IsErrOf, IsErrAnd, refl, sym, ap, ◌∙◌, subst}
use Rattle.std.proofs.lemmas.Bool.{false≢true}
use Rattle.vt_outside.specs.declared.place.Place.{Place}
use Rattle.vt_ppm.specs.declared.error.PpmError.{PpmError}
use Rattle.vt_ppm.specs.declared.error.PpmError.TheVariants.{BadMagic, BadHeader, BadSize, BadMaximum, Truncated, SampleOver, Failed, NoMemory}
use Rattle.vt_ppm.specs.Flaws.{IsFlawUpTo}
use Rattle.vt_ppm.specs.Reads.{AnswersOfHeader, AnswersOfImage, NotesRead, ReadsFront}
use Rattle.vt_ppm.specs.Refusals.{IsPpmOutsideRefusal, IsRasterRefusal, IsSampleRefusal}

-- a fault is that of the call
pub fault_handed_on : {T U : Type 0} (q : Result U PpmError) (e : PpmError) (P : Type 0) → IsErrAnd q (λ x. x ≡ e)
    → (IsErrOf {T = T} (Err e) Failed → P) → IsErrOf q Failed → P
fault_handed_on (Ok x) e P is so failed = absurd is
fault_handed_on (Err x) e P is so failed = let same : x ≡ Failed = cc in so (ap Err (sym is ∙ same))

-- want of memory is no fault
pub no_fault : {T : Type 0} (q : Result T PpmError) (P : Type 0) → IsErrAnd q (λ x. x ≡ NoMemory) → IsErrOf q Failed → P
no_fault (Ok x) P is failed = absurd is
no_fault (Err x) P is failed = let no : ⊥ = cc in absurd no

-- an answer about a header is one whatever is made of the header
pub answered : (T U : Type 0) (e : PpmError) (known : Option (List ℕ)) (before after : Option (List Place))
    → AnswersOfHeader {T = T} (Err e) known before after → AnswersOfHeader {T = U} (Err e) known before after
answered T U BadMagic known before after is = is
answered T U (BadHeader at) known before after is = is
answered T U BadSize known before after is = is
answered T U BadMaximum known before after is = is
answered T U (Truncated want have) known before after is = is
answered T U (SampleOver at) known before after is = is
answered T U Failed known before after is = is
answered T U NoMemory known before after is = is

pub answer_handed_on : (T : Type 0) {U : Type 0} (q : Result U PpmError) (e : PpmError) (known : Option (List ℕ)) (before after : Option (List Place))
    → IsErrAnd q (λ x. x ≡ e) → AnswersOfHeader {T = T} (Err e) known before after → AnswersOfHeader q known before after
answer_handed_on T (Ok x) e known before after is so = absurd is
answer_handed_on T {U} (Err x) e known before after is so =
    subst (λ y. AnswersOfHeader {T = U} (Err y) known before after) (sym is) (answered T U e known before after so)

-- whether there is a value
pub made_if_ok : {T E : Type 0} (q : Result T E) (b : Bool) → b ≡ is_ok q → OnOk q (b ≡ true)
made_if_ok (Ok x) b is = is
made_if_ok (Err e) b is = tt

pub not_made_if_err : {T E : Type 0} (q : Result T E) (b : Bool) → b ≡ is_ok q → OnErr q (b ≡ false)
not_made_if_err (Ok x) b is = tt
not_made_if_err (Err e) b is = is

pub value_if_made : {T E : Type 0} (q : Result T E) (b : Bool) (P : Type 0) → b ≡ is_ok q → b ≡ true → OnOk q P → P
value_if_made (Ok x) b P is made so = so
value_if_made (Err e) b P is made so = absurd (false≢true (sym is ∙ made))

-- the answer is an error
pub known_refused : {T E : Type 0} (q : Result T E) (R : E → Type 0) (P : Bool → Type 0) → IsErrAnd q R → P true → P (is_err q)
known_refused (Ok x) R P is so = absurd is
known_refused (Err e) R P is so = so

-- a flaw of bytes is no fault
pub flaw_no_fault : {T : Type 0} (q : Result T PpmError) (e : PpmError) (most : ℕ) (b : List ℕ) (P : Type 0) → IsErrAnd q (λ x. x ≡ e)
    → IsFlawUpTo most b e → IsErrOf q Failed → P
flaw_no_fault (Ok x) e most b P is flaw failed = absurd is
flaw_no_fault (Err x) e most b P is flaw failed = let same : e ≡ Failed = cc in absurd (subst (IsFlawUpTo most b) same flaw)

-- what is so of a fault and of want of memory is so of a refusal of the outside
pub outside_is : (P : PpmError → Type 0) → P Failed → P NoMemory → (e : PpmError) → IsPpmOutsideRefusal e → P e
outside_is P fault memory BadMagic outside = absurd outside
outside_is P fault memory (BadHeader at) outside = absurd outside
outside_is P fault memory BadSize outside = absurd outside
outside_is P fault memory BadMaximum outside = absurd outside
outside_is P fault memory (Truncated want have) outside = absurd outside
outside_is P fault memory (SampleOver at) outside = absurd outside
outside_is P fault memory Failed outside = fault
outside_is P fault memory NoMemory outside = memory

-- it says nothing of what was read
pub outside_answer : {T : Type 0} (q : Result T PpmError) (e : PpmError) (known : Option (List ℕ)) (before after : Option (List Place))
    → IsErrAnd q (λ x. x ≡ e) → IsPpmOutsideRefusal e → AnswersOfImage q known before after
outside_answer {T} (Ok x) e known before after is outside = absurd is
outside_answer {T} (Err x) e known before after is outside =
    outside_is (λ y. AnswersOfImage {T = T} (Err y) known before after) tt tt x (subst IsPpmOutsideRefusal (sym is) outside)

-- a flaw of the header is told once the front was read
pub header_answer : {T : Type 0} (q : Result T PpmError) (e : PpmError) (known : Option (List ℕ)) (before after : Option (List Place))
    → IsErrAnd q (λ x. x ≡ e) → (IsRasterRefusal e → ⊥) → ReadsFront known before after → AnswersOfImage q known before after
header_answer {T} (Ok x) e known before after is other read = absurd is
header_answer {T} (Err x) e known before after is other read = of x (subst (λ y. IsRasterRefusal y → ⊥) (sym is) other)
  where
    of : (y : PpmError) → (IsRasterRefusal y → ⊥) → AnswersOfImage {T = T} (Err y) known before after
    of BadMagic never = read
    of (BadHeader at) never = read
    of BadSize never = read
    of BadMaximum never = read
    of (Truncated want have) never = read
    of (SampleOver at) never = absurd (never tt)
    of Failed never = tt
    of NoMemory never = tt

-- an answer about a header where the front was read, and where the outside refused
pub front_answer : {T : Type 0} (q : Result T PpmError) (known : Option (List ℕ)) (before after : Option (List Place)) → ReadsFront known before after
    → AnswersOfHeader q known before after
front_answer (Ok x) known before after read = read
front_answer (Err BadMagic) known before after read = read
front_answer (Err (BadHeader at)) known before after read = read
front_answer (Err BadSize) known before after read = read
front_answer (Err BadMaximum) known before after read = read
front_answer (Err (Truncated want have)) known before after read = read
front_answer (Err (SampleOver at)) known before after read = read
front_answer (Err Failed) known before after read = tt
front_answer (Err NoMemory) known before after read = tt

pub outside_header_answer : {T : Type 0} (q : Result T PpmError) (e : PpmError) (known : Option (List ℕ)) (before after : Option (List Place))
    → IsErrAnd q (λ x. x ≡ e) → IsPpmOutsideRefusal e → AnswersOfHeader q known before after
outside_header_answer {T} (Ok x) e known before after is outside = absurd is
outside_header_answer {T} (Err x) e known before after is outside =
    outside_is (λ y. AnswersOfHeader {T = T} (Err y) known before after) tt tt x (subst IsPpmOutsideRefusal (sym is) outside)

-- neither a refusal of the outside nor a flaw of the header speaks of samples
pub no_raster_no_sample : (e : PpmError) → (IsRasterRefusal e → ⊥) → IsSampleRefusal e → ⊥
no_raster_no_sample (SampleOver at) never sample = never tt
no_raster_no_sample BadMagic never sample = sample
no_raster_no_sample (BadHeader at) never sample = sample
no_raster_no_sample BadSize never sample = sample
no_raster_no_sample BadMaximum never sample = sample
no_raster_no_sample (Truncated want have) never sample = sample
no_raster_no_sample Failed never sample = sample
no_raster_no_sample NoMemory never sample = sample

pub outside_no_sample : (e : PpmError) → IsPpmOutsideRefusal e → IsSampleRefusal e → ⊥
outside_no_sample = outside_is (λ e. IsSampleRefusal e → ⊥) (λ sample. sample) (λ sample. sample)

-- no read is noted where memory was refused
pub notes_none : {T : Type 0} (q : Result T PpmError) (at len : ℕ) (places : Option (List Place)) → IsErrAnd q (λ x. x ≡ NoMemory)
    → NotesRead q at len places places
notes_none (Ok x) at len places is = absurd is
notes_none {T} (Err x) at len places is = subst (λ y. NotesRead {T = T} (Err y) at len places places) (sym is) refl

pub outside_no_raster : (e : PpmError) → IsPpmOutsideRefusal e → IsRasterRefusal e → ⊥
outside_no_raster = outside_is (λ e. IsRasterRefusal e → ⊥) (λ never. never) (λ never. never)

-- an answer that names a flaw of bytes is no fault
pub flaw_answer_no_fault : {T : Type 0} (q : Result T PpmError) (most : ℕ) (b : List ℕ) (P : Type 0) → IfErr q (λ e. IsFlawUpTo most b e)
    → IsErrOf q Failed → P
flaw_answer_no_fault (Ok x) most b P flaw failed = let none : ⊥ = cc in absurd none
flaw_answer_no_fault (Err x) most b P flaw failed = let same : x ≡ Failed = cc in absurd (subst (IsFlawUpTo most b) same flaw)
