-- The rows that samplers took from a bag are each row of the picture once, once their passes are one again.
use Rattle.std.proofs.Common.{◌≡◌, ℕ, zero, suc, ◌+◌, ◌<◌, false, Option, None, Some, List, [], ◌∷◌, ◌++◌, length, map, get_or, refl, sym, ap, ◌∙◌, subst, append_assoc, arith}
use Rattle.std.specs.Prelude.{slice_get, All, AllPairs, Contains, IsPermutation}
use Rattle.std.specs.List.{range_with_len, concat}
use Rattle.std.proofs.lemmas.Bool.{false≢true}
use Rattle.std.proofs.lemmas.List.{map-append, length-map, get_or-map, get_or_default}
use Rattle.std.proofs.lemmas.List.Elements.{Contains-append_left, Contains-append_right}
use Rattle.std.proofs.lemmas.Option.{none-some, same_Some, slice_get_within, slice_get-get_or, get_or_from_slice_get}
use Rattle.vt_queue.specs.declared.views.PassView.{PassView}
use Rattle.vt_queue.specs.PassViews.{all_shares}
use Rattle.vt_queue.specs.Orders.{items_of}
use Rattle.vt_queue.specs.Steps.{IsAtStep}
use Rattle.vt_queue.proofs.Gathered.{append_nil}
use Rattle.vt_schedules.specs.declared.bag.RowJob.{RowJob}
use Rattle.vt_schedules.specs.declared.bag.BagPass.{BagPass}
use Rattle.vt_schedules.specs.Bags.{view_of}
use Rattle.vt_schedules.specs.SharedRows.{FitsRow, AreRowsPut, rows_of}
use Rattle.vt_schedules.proofs.Taken.{taken_once, taken_fit, taken_rise}
use Rattle.vt_schedules.specs.declared.shared.BagWay.{BagWay}
use Rattle.vt_schedules.specs.Rows.{AreTaken, AreAllRows}
use Rattle.vt_schedules.specs.Sharing.{TookRows, TookWay, AreShared, shares_if, put_if, took_if, bag_shares, joined_if, all_ways_joined}
use Rattle.vt_schedules.proofs.Lists.{same_lists, made_at}

abbrev pub Entry : Type 0
Entry = ℕ × RowJob

-- what samplers took together
abbrev all_took : List BagWay → List (ℕ × RowJob)
all_took [] = []
all_took (a ∷ others) = took_if a.pass ++ all_took others

shares_once : (v : PassView RowJob) (o : Option BagPass) → (joined_if v o).shares ≡ v.shares + shares_if o
shares_once v None = omega arith
shares_once v (Some pass) = refl

joined_shares : (v : PassView RowJob) (others : List BagWay) → (all_ways_joined v others).shares ≡ v.shares + bag_shares others
joined_shares v [] = omega arith
joined_shares v (a ∷ others) = omega (arith, joined_shares (joined_if v a.pass) others, shares_once v a.pass)

put_once : (v : PassView RowJob) (o : Option BagPass) → put_if o ≡ [] → (joined_if v o).put ≡ v.put
put_once v None none = refl
put_once v (Some pass) none = ap (λ (l : List (ℕ × RowJob)). v.put ++ l) none ∙ append_nil v.put

joined_put : (v : PassView RowJob) (others : List BagWay) → ((n : ℕ) (a : BagWay) → slice_get others n ≡ Some a → put_if a.pass ≡ [])
    → (all_ways_joined v others).put ≡ v.put
joined_put v [] none = refl
joined_put v (a ∷ others) none = joined_put (joined_if v a.pass) others (λ n b is. none (suc n) b is) ∙ put_once v a.pass (none 0 a refl)

took_once : (v : PassView RowJob) (o : Option BagPass) → (joined_if v o).took ≡ v.took ++ took_if o
took_once v None = sym (append_nil v.took)
took_once v (Some pass) = refl

joined_took : (v : PassView RowJob) (others : List BagWay) → (all_ways_joined v others).took ≡ v.took ++ all_took others
joined_took v [] = sym (append_nil v.took)
joined_took v (a ∷ others) = joined_took (joined_if v a.pass) others ∙ ap (λ (l : List (ℕ × RowJob)). l ++ all_took others) (took_once v a.pass)
    ∙ append_assoc v.took (took_if a.pass) (all_took others)

same_shares : (others bs : List BagWay) → length others ≡ length bs
    → ((n : ℕ) (a b : BagWay) → slice_get others n ≡ Some a → slice_get bs n ≡ Some b → shares_if a.pass ≡ shares_if b.pass)
    → bag_shares others ≡ bag_shares bs
same_shares [] [] number each = refl
same_shares [] (b ∷ bs) number each = absurd (omega (arith, number))
same_shares (a ∷ others) [] number each = absurd (omega (arith, number))
same_shares (a ∷ others) (b ∷ bs) number each =
    omega (arith, each 0 a b refl refl, same_shares others bs (omega (arith, number)) (λ n c d x y. each (suc n) c d x y))

among_all : (others : List BagWay) (n : ℕ) (a : BagWay) (entry : ℕ × RowJob) → slice_get others n ≡ Some a → Contains (took_if a.pass) entry
    → Contains (all_took others) entry
among_all [] n a entry is has = absurd (none-some a is)
among_all (b ∷ others) zero a entry is has = Contains-append_left (took_if b.pass) (all_took others) entry
    (subst (λ (x : BagWay). Contains (took_if x.pass) entry) (sym (same_Some b a is)) has)
among_all (b ∷ others) (suc n) a entry is has = Contains-append_right (took_if b.pass) (all_took others) entry (among_all others n a entry is has)

-- the rows of entries
abbrev numbers : List (ℕ × RowJob) → List ℕ
numbers es = rows_of (items_of es)

numbers_append : (xs ys : List (ℕ × RowJob)) → numbers (xs ++ ys) ≡ numbers xs ++ numbers ys
numbers_append xs ys = ap rows_of (map-append (λ (e : ℕ × RowJob). e.1) xs ys) ∙ map-append (λ (j : RowJob). j.row) (items_of xs) (items_of ys)

all_numbers : (others : List BagWay) → concat (map (λ (b : BagWay). numbers (took_if b.pass)) others) ≡ numbers (all_took others)
all_numbers [] = refl
all_numbers (b ∷ others) = ap (λ (l : List ℕ). numbers (took_if b.pass) ++ l) (all_numbers others) ∙ sym (numbers_append (took_if b.pass) (all_took others))

-- rows of entries rise as these do
number_at : (got : List (ℕ × RowJob)) (i : ℕ) (d : ℕ × RowJob) → i < length got → get_or (numbers got) i d.1.row ≡ (get_or got i d).1.row
number_at got i d inside =
    get_or-map (λ (j : RowJob). j.row) (items_of got) i d.1 d.1.row (let n = length-map got (λ (e : ℕ × RowJob). e.1) in omega (arith, n, inside))
    ∙ ap (λ (j : RowJob). j.row) (get_or-map (λ (e : ℕ × RowJob). e.1) got i d d.1 inside)

numbers_number : (got : List (ℕ × RowJob)) → length (numbers got) ≡ length got
numbers_number got = length-map (items_of got) (λ (j : RowJob). j.row) ∙ length-map got (λ (e : ℕ × RowJob). e.1)

numbers_rise : (got : List (ℕ × RowJob)) → AllPairs (λ (a b : ℕ × RowJob). a.1.row < b.1.row) got → AllPairs (λ a b. a < b) (numbers got)
numbers_rise [] rise i j d low inside = absurd (omega (arith, inside))
numbers_rise (e ∷ got) rise i j d low inside =
    let all : List (ℕ × RowJob) = e ∷ got in
    let n = numbers_number all in
    let second : j < length all = omega (arith, inside, n) in
    let first : i < length all = omega (arith, low, second) in
    let a = get_or_default (numbers all) i d e.1.row (omega (arith, first, n)) ∙ number_at all i e first in
    let b = get_or_default (numbers all) j d e.1.row inside ∙ number_at all j e second in
    let r = rise i j e low second in
    omega (arith, a, b, r)

-- what a way took
way_put : (height line : ℕ) (o q : Option BagPass) (rows : List ℕ) → TookWay height line o q rows → put_if q ≡ put_if o
way_put height line None q rows took = absurd took
way_put height line (Some p) None rows took = absurd took
way_put height line (Some p) (Some q) rows took = ap (λ (v : PassView RowJob). v.put) took.is

way_shares : (height line : ℕ) (o q : Option BagPass) (rows : List ℕ) → TookWay height line o q rows → shares_if q ≡ shares_if o
way_shares height line None q rows took = absurd took
way_shares height line (Some p) None rows took = absurd took
way_shares height line (Some p) (Some q) rows took = ap (λ (v : PassView RowJob). v.shares) took.is

-- a new way took exactly its entries, which rise
way_took : (height line : ℕ) (o q : Option BagPass) (rows : List ℕ) → TookWay height line o q rows → took_if o ≡ []
    → TookRows height line (record { shares = 0; known = []; put = []; took = [] }) (record { shares = 0; known = []; put = []; took = took_if q }) rows
way_took height line None q rows took none = absurd took
way_took height line (Some p) None rows took none = absurd took
way_took height line (Some p) (Some q) rows took none =
    let is : (view_of q).took ≡ took.got = ap (λ (v : PassView RowJob). v.took) took.is ∙ ap (λ (l : List (ℕ × RowJob)). l ++ took.got) none in
    record {
      got = took.got;
      is = ap (λ (l : List (ℕ × RowJob)). record { shares = 0; known = []; put = []; took = l }) is;
      rise = took.rise;
      exact = took.exact;
    }

module _ (height line n : ℕ) (firsts lasts : List BagWay) (rows : List (List ℕ)) (left : PassView RowJob) (shared : AreShared height line firsts left)
    (are : AreTaken (λ (a b : BagWay) (l : List ℕ). TookWay height line a.pass b.pass l) n firsts lasts rows)
    (empty : IsAtStep (all_ways_joined left lasts) []) where
  abbrev all : PassView RowJob
  all = all_ways_joined left lasts

  blank : BagWay
  blank = record { pass = None }

  first_of : (k : ℕ) (b : BagWay) → slice_get lasts k ≡ Some b → (a : BagWay) × (slice_get firsts k ≡ Some a)
  first_of k b is = (
    get_or firsts k (record { pass = None }),
    slice_get-get_or firsts k (record { pass = None }) (let low = slice_get_within lasts k b is in let f = are.firsts_number in let l = are.lasts_number in omega (arith, low, f, l)),
  )

  rows_at : (k : ℕ) (b : BagWay) → slice_get lasts k ≡ Some b → slice_get rows k ≡ Some (get_or rows k [])
  rows_at k b is = slice_get-get_or rows k [] (let low = slice_get_within lasts k b is in let f = are.rows_number in let l = are.lasts_number in omega (arith, low, f, l))

  took_at : (k : ℕ) (a b : BagWay) → slice_get firsts k ≡ Some a → slice_get lasts k ≡ Some b → TookWay height line a.pass b.pass (get_or rows k [])
  took_at k a b at is = are.each k a b (get_or rows k []) at is (rows_at k b is)

  put_none : (k : ℕ) (b : BagWay) → slice_get lasts k ≡ Some b → put_if b.pass ≡ []
  put_none k b is =
      let f = first_of k b is in
      let new = shared.each k f.0 f.1 in
      way_put height line f.0.pass b.pass (get_or rows k []) (took_at k f.0 b f.1 is) ∙ ap put_if new.has ∙ new.no_puts

  took_is : (k : ℕ) (b : BagWay) → slice_get lasts k ≡ Some b
      → TookRows height line (record { shares = 0; known = []; put = []; took = [] }) (record { shares = 0; known = []; put = []; took = took_if b.pass }) (get_or rows k [])
  took_is k b is =
      let f = first_of k b is in
      let new = shared.each k f.0 f.1 in
      way_took height line f.0.pass b.pass (get_or rows k []) (took_at k f.0 b f.1 is) (ap took_if new.has ∙ new.no_takes)

  got_is : (k : ℕ) (b : BagWay) (is : slice_get lasts k ≡ Some b) → took_if b.pass ≡ (took_is k b is).got
  got_is k b is = ap (λ (v : PassView RowJob). v.took) (took_is k b is).is

  is_whole : all.shares ≡ all_shares
  is_whole = omega (
    arith,
    joined_shares left lasts,
    shared.whole,
    same_shares lasts firsts (are.lasts_number ∙ sym are.firsts_number)
        (λ k b a is at. way_shares height line a.pass b.pass (get_or rows k []) (took_at k a b at is)),
  )

  all_put : AreRowsPut height line all.put
  all_put = subst (AreRowsPut height line) (sym (joined_put left lasts put_none)) shared.puts

  all_taken : all.took ≡ all_took lasts
  all_taken = joined_took left lasts ∙ ap (λ (l : List (ℕ × RowJob)). l ++ all_took lasts) shared.no_takes

  among : (k : ℕ) (b : BagWay) → slice_get lasts k ≡ Some b → All (Contains all.took) (took_if b.pass)
  among k b is i d inside = subst (λ (l : List (ℕ × RowJob)). Contains l (get_or (took_if b.pass) i d)) (sym all_taken)
      (among_all lasts k b (get_or (took_if b.pass) i d) is (i, inside, get_or_default (took_if b.pass) i (get_or (took_if b.pass) i d) d inside))

  row_is : (k : ℕ) (b : BagWay) → slice_get lasts k ≡ Some b → get_or rows k [] ≡ numbers (took_if b.pass)
  row_is k b is =
      let t = took_is k b is in
      let g = got_is k b is in
      t.exact (subst (λ (l : List (ℕ × RowJob)). All (FitsRow height line) (items_of l)) g
      (taken_fit height line all is_whole empty all_put (took_if b.pass) (among k b is))) ∙ ap numbers (sym g)

  all_rows : map (λ (b : BagWay). numbers (took_if b.pass)) lasts ≡ rows
  all_rows = sym (same_lists rows (map (λ (b : BagWay). numbers (took_if b.pass)) lasts)
      (are.rows_number ∙ sym (length-map lasts (λ (b : BagWay). numbers (took_if b.pass)) ∙ are.lasts_number))
      (λ k l is.
      let low : k < length lasts = (let a = slice_get_within rows k l is in let x = are.rows_number in let y = are.lasts_number in omega (arith, a, x, y)) in
      let there : slice_get lasts k ≡ Some (get_or lasts k (record { pass = None })) = slice_get-get_or lasts k (record { pass = None }) low in
      made_at (λ (b : BagWay). numbers (took_if b.pass)) lasts k (get_or lasts k (record { pass = None })) there
      ∙ ap Some (sym (row_is k (get_or lasts k (record { pass = None })) there) ∙ get_or_from_slice_get rows k l [] is)))

  pub all_shared : AreAllRows false height n rows
  all_shared = record {
    once = subst (λ (l : List ℕ). IsPermutation (range_with_len 0 height) l)
        (ap numbers all_taken ∙ sym (all_numbers lasts) ∙ ap concat all_rows) (taken_once height line all is_whole empty all_put);
    rise = λ k l is.
        let low : k < length lasts = (let a = slice_get_within rows k l is in let x = are.rows_number in let y = are.lasts_number in omega (arith, a, x, y)) in
        let b = get_or lasts k (record { pass = None }) in
        let there : slice_get lasts k ≡ Some b = slice_get-get_or lasts k (record { pass = None }) low in
        let t = took_is k b there in
        let g = got_is k b there in
        subst (λ (x : List ℕ). AllPairs (λ i j. i < j) x) (sym (row_is k b there) ∙ get_or_from_slice_get rows k l [] is)
        (numbers_rise (took_if b.pass) (taken_rise height line all is_whole empty all_put (took_if b.pass) (among k b there)
        (subst (λ (l : List (ℕ × RowJob)). AllPairs (λ (x y : ℕ × RowJob). x.0 < y.0) l) (sym g) t.rise)));
    dealt_to = λ is. absurd (false≢true is);
  }
