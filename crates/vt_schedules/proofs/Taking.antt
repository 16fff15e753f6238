-- One row more that is taken from a bag, and one pass more that is split off or back.
use Rattle.std.proofs.Common.{◌≡◌, ℕ, zero, suc, ◌+◌, ◌<◌, inr, Some, List, [], ◌∷◌, ◌++◌, length, get_or, refl, sym, ap, ◌∙◌, subst, append_assoc, arith}
use Rattle.std.specs.Prelude.{All, slice_get, take}
use Rattle.std.specs.List.{range_with_len}
use Rattle.std.proofs.lemmas.List.{map-append, take_more}
use Rattle.std.proofs.lemmas.List.Elements.{All-nil, All-cons}
use Rattle.std.proofs.lemmas.Option.{none-some, same_Some, slice_get_within}
use Rattle.vt_queue.specs.declared.views.PassView.{PassView}
use Rattle.vt_queue.specs.PassViews.{pass_view, all_shares, Splits}
use Rattle.vt_queue.specs.Orders.{items_of, placed}
use Rattle.vt_queue.specs.Steps.{Takes}
use Rattle.vt_queue.proofs.Gathered.{all_cut, placed_more, placed_items}
use Rattle.vt_schedules.specs.declared.bag.RowJob.{RowJob}
use Rattle.vt_schedules.specs.declared.bag.BagPass.{BagPass}
use Rattle.vt_schedules.specs.Bags.{view_of}
use Rattle.vt_schedules.specs.SharedRows.{FitsRow, AreRowsPut, Took, rows_of}
use Rattle.vt_schedules.proofs.Taken.{rise_more, rows_push}
use Rattle.vt_schedules.specs.declared.shared.BagWay.{BagWay}
use Rattle.vt_schedules.specs.Rows.{AreRowsInPlace}
use Rattle.vt_schedules.specs.Sharing.{TookRows, EndedRows, AreShared, AreSplit, AreBack, IsNewWay, bag_shares, shares_if, joined_if, all_ways_joined}

took_more : (v w x : PassView RowJob) (got : List (ℕ × RowJob)) (job : RowJob) → Took v got w → (t : Takes w job x)
    → Took v (got ++ (t.place, job) ∷ []) x
took_more v w x got job took t = t.is ∙ ap (λ (u : PassView RowJob). pass_view u.shares u.known u.put (u.took ++ (t.place, job) ∷ [])) took
    ∙ ap (λ (l : List (ℕ × RowJob)). pass_view v.shares v.known v.put l) (append_assoc v.took got ((t.place, job) ∷ []))

items_push : (got : List (ℕ × RowJob)) (place : ℕ) (job : RowJob) → items_of (got ++ (place, job) ∷ []) ≡ items_of got ++ job ∷ []
items_push got place job = map-append (λ (e : ℕ × RowJob). e.1) got ((place, job) ∷ [])

module _ (height line : ℕ) (v w x : PassView RowJob) (rows : List ℕ) (job : RowJob) (h : TookRows height line v w rows) (t : Takes w job x) where
  got : List (ℕ × RowJob)
  got = h.got ++ (t.place, job) ∷ []

  fit_cut : All (FitsRow height line) (items_of (h.got ++ (t.place, job) ∷ [])) → All (FitsRow height line) (items_of h.got) × All (FitsRow height line) (job ∷ [])
  fit_cut fit = all_cut (FitsRow height line) (items_of h.got) (job ∷ []) (subst (All (FitsRow height line)) (items_push h.got t.place job) fit)

  -- a row of the picture
  pub took_one : TookRows height line v x (rows ++ job.row ∷ [])
  took_one = record {
    got = h.got ++ (t.place, job) ∷ [];
    is = took_more v w x h.got job h.is t;
    rise = rise_more v w x h.got job h.is h.rise t;
    exact = λ fit. ap (λ (l : List ℕ). l ++ job.row ∷ []) (h.exact (fit_cut fit).0)
        ∙ sym (ap rows_of (items_push h.got t.place job) ∙ rows_push (items_of h.got) job);
  }

  -- or what is none
  module _ (none : FitsRow height line job → ⊥) where
    unfit : All (FitsRow height line) (items_of (h.got ++ (t.place, job) ∷ [])) → ⊥
    unfit fit = none ((fit_cut fit).1 0 job (omega arith))

    pub took_else : TookRows height line v x rows
    took_else = record {
      got = h.got ++ (t.place, job) ∷ [];
      is = took_more v w x h.got job h.is t;
      rise = rise_more v w x h.got job h.is h.rise t;
      exact = λ fit. absurd (unfit fit);
    }

    pub ended_else : EndedRows height line v x rows
    ended_else = record { got = h.got ++ (t.place, job) ∷ []; is = took_more v w x h.got job h.is t; so = inr (inr unfit) }

-- Rows that lie in their places, put in that order.
placed_number : {I : Type 0} (n : ℕ) (xs : List I) → length (placed n xs) ≡ length xs
placed_number n [] = refl
placed_number n (x ∷ xs) = ap suc (placed_number (n + 1) xs)

pub put_more : (jobs : List RowJob) (y : ℕ) (d : RowJob) → y < length jobs
    → placed 0 (take y jobs) ++ (length (placed 0 (take y jobs)), get_or jobs y d) ∷ [] ≡ placed 0 (take (y + 1) jobs)
put_more jobs y d inside = ap (λ n. placed 0 (take y jobs) ++ (n, get_or jobs y d) ∷ []) (placed_number 0 (take y jobs))
    ∙ sym (placed_more (take y jobs) (get_or jobs y d)) ∙ ap (placed 0) (sym (take_more jobs y d inside))

rows_are : (a : ℕ) (jobs : List RowJob) → ((y : ℕ) (job : RowJob) → slice_get jobs y ≡ Some job → job.row ≡ a + y)
    → rows_of jobs ≡ range_with_len a (length jobs)
rows_are a [] h = refl
rows_are a (j ∷ js) h =
    let first : j.row ≡ a = (let e = h 0 j refl in omega (arith, e)) in
    let rest = rows_are (a + 1) js (λ y job is. let e = h (suc y) job is in omega (arith, e)) in
    λ i. first i ∷ rest i

all_placed : (Q : ℕ → RowJob → Type 0) (a : ℕ) (jobs : List RowJob) → ((y : ℕ) (job : RowJob) → slice_get jobs y ≡ Some job → Q (a + y) job)
    → All (λ (e : ℕ × RowJob). Q e.0 e.1) (placed a jobs)
all_placed Q a [] h = All-nil (λ (e : ℕ × RowJob). Q e.0 e.1)
all_placed Q a (j ∷ js) h = All-cons (λ (e : ℕ × RowJob). Q e.0 e.1) (a, j) (placed (a + 1) js)
    (let z : a + 0 ≡ a = omega arith in subst (λ n. Q n j) z (h 0 j refl))
    (all_placed Q (a + 1) js (λ y job is. let z : a + suc y ≡ (a + 1) + y = omega arith in subst (λ n. Q n job) z (h (suc y) job is)))

pub rows_put : (height line : ℕ) (jobs : List RowJob) → AreRowsInPlace height line jobs → AreRowsPut height line (placed 0 jobs)
rows_put height line jobs are = record {
  all = ap rows_of (placed_items 0 jobs) ∙ rows_are 0 jobs (λ y job is. let e = (are.each y job is).0 in omega (arith, e))
      ∙ ap (range_with_len 0) are.number;
  each = all_placed (λ n job. (job.row ≡ n) × FitsRow height line job) 0 jobs (λ y job is.
      let e = are.each y job is in
      let low = slice_get_within jobs y job is in (
        (let r = e.0 in omega (arith, r)),
        record { inside = (let r = e.0 in let n = are.number in omega (arith, r, low, n)); full = e.1 },
      ));
}

-- all rows were put into a bag
pub first_split : (height line : ℕ) (jobs : List RowJob) (home : BagPass) → AreRowsInPlace height line jobs
    → view_of home ≡ pass_view all_shares [] (placed 0 jobs) [] → AreSplit height line [] home
first_split height line jobs home are is = subst (λ (v : PassView RowJob). AreShared height line [] v) (sym is) (record {
  whole = omega arith;
  puts = rows_put height line jobs are;
  no_takes = refl;
  each = λ k a there. absurd (none-some a there);
})

-- a pass more was split off
shares_push : (others : List BagWay) (a : BagWay) → bag_shares (others ++ a ∷ []) ≡ bag_shares others + shares_if a.pass
shares_push [] a = omega arith
shares_push (b ∷ others) a = omega (arith, shares_push others a)

each_push : (P : BagWay → Type 0) (others : List BagWay) (a : BagWay) → ((k : ℕ) (b : BagWay) → slice_get others k ≡ Some b → P b) → P a
    → (k : ℕ) (b : BagWay) → slice_get (others ++ a ∷ []) k ≡ Some b → P b
each_push P [] a each new zero b is = subst P (same_Some a b is) new
each_push P [] a each new (suc k) b is = absurd (none-some b is)
each_push P (c ∷ others) a each new zero b is = each 0 b is
each_push P (c ∷ others) a each new (suc k) b is = each_push P others a (λ n d at. each (suc n) d at) new k b is

pub split_more : (height line : ℕ) (owns : List BagWay) (home left own : BagPass) → AreSplit height line owns home
    → Splits (view_of home) (view_of left) (view_of own) → AreSplit height line (owns ++ record { pass = Some own } ∷ []) left
split_more height line owns home left own was splits = record {
  whole = omega (arith, was.whole, splits.shares, shares_push owns (record { pass = Some own }));
  puts = subst (AreRowsPut height line) (sym (ap (λ (v : PassView RowJob). v.put) splits.keeps)) was.puts;
  no_takes = ap (λ (v : PassView RowJob). v.took) splits.keeps ∙ was.no_takes;
  each = each_push IsNewWay owns (record { pass = Some own }) was.each (record {
    pass = own;
    has = refl;
    no_puts = ap (λ (v : PassView RowJob). v.put) splits.knows;
    no_takes = ap (λ (v : PassView RowJob). v.took) splits.knows;
  });
}

-- a pass more is back
joined_push : (v : PassView RowJob) (others : List BagWay) (a : BagWay) → all_ways_joined v (others ++ a ∷ []) ≡ joined_if (all_ways_joined v others) a.pass
joined_push v [] a = refl
joined_push v (b ∷ others) a = joined_push (joined_if v b.pass) others a

pub back_more : (height line : ℕ) (firsts owns : List BagWay) (home now : BagPass) (a : BagWay) → AreBack height line firsts owns home
    → view_of now ≡ joined_if (view_of home) a.pass → AreBack height line firsts (owns ++ a ∷ []) now
back_more height line firsts owns home now a was is = record {
  left = was.left;
  shared = was.shared;
  joined_are = is ∙ ap (λ (v : PassView RowJob). joined_if v a.pass) was.joined_are ∙ sym (joined_push was.left owns a);
}
