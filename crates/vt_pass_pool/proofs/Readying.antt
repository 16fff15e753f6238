-- A pool whose samplers were lent, and are made ready for a pass.
use Rattle.std.proofs.Common.{◌≡◌, ℕ, suc, ◌≤◌, List, [], ◌∷◌, length, map, get_or, Some, Result, Ok, Err, refl, sym, ap, ◌∙◌, subst, arith}
use Rattle.std.specs.Prelude.{slice_get, OnOk}
use Rattle.std.proofs.lemmas.Option.{slice_get_within, slice_get-get_or}
use Rattle.vt_outside.specs.Lists.{ListView}
use Rattle.vt_outside.specs.declared.answers.NoMemory.{NoMemory}
use Rattle.vt_journal.specs.Shape.{Shape}
use Rattle.vt_pass_rows.specs.PageTableTypes.table.PageTable.{Ghosts as TableMeanings}
use Rattle.vt_pass_rows.specs.SchedulesTypes.bag.RowJob.{RowJob}
use Rattle.vt_pass_rows.specs.SchedulesTypes.schedule.Schedule.{Ghosts as ScheduleMeanings}
use Rattle.vt_pass_rows.specs.declared.sampler.PassSampler.{PassSampler}
use Rattle.vt_journal.specs.declared.changes.RowLine.{RowLine}
use Rattle.vt_pass_pool.specs.declared.pool.PassPool.{PassPool}
use Rattle.vt_pass_pool.specs.Pools.{AreSamplers, AreSameSamplers, HaveSameReaders, HaveWays, AreOpened, AreReady, AreAtHome, IsPool, IsDealtPool, IsReadyPool, line_length, ways_of}
use Rattle.vt_pass_pool.proofs.SameSamplers.{same_samplers}

-- what follows from what holds if a call answered
pub so_too : {A B : Type 0} (r : Result (Unit {0}) NoMemory) → OnOk r A → (A → B) → OnOk r B
so_too (Ok done) holds then = then holds
so_too (Err refusal) holds then = tt

-- where elements are made into the same, so are lists
same_made : {X Y : Type 0} (f : X → Y) (xs ys : List X) → length ys ≡ length xs
    → ((k : ℕ) (x y : X) → slice_get xs k ≡ Some x → slice_get ys k ≡ Some y → f y ≡ f x) → map f ys ≡ map f xs
same_made f [] [] number each = refl
same_made f [] (y ∷ ys) number each = absurd (omega (arith, number))
same_made f (x ∷ xs) [] number each = absurd (omega (arith, number))
same_made f (x ∷ xs) (y ∷ ys) number each = λ i. (each 0 x y refl refl i) ∷ (same_made f xs ys (omega (arith, number)) (λ k a b there is. each (suc k) a b there is) i)

module _ {T S H R W B O M : Type 0} (table : TableMeanings T H R W) (schedule : ScheduleMeanings S B O M) where
  -- what was at home is so, though ways were dealt
  pub home_dealt : (w : W) (before after : List (PassSampler T S H R W B O M)) → AreSameSamplers before after → HaveSameReaders before after
      → AreAtHome table w before → AreAtHome table w after
  home_dealt w before after same readers home k b is =
      let a = get_or before k b in
      let there : slice_get before k ≡ Some a = slice_get-get_or before k b
      (let n = slice_get_within after k b is in let m = same.count in omega (arith, n, m)) in
      subst (λ (r : R). table.is_home w k r) (sym (readers k a b there is)) (home k a there)

  -- the rows of a pool were dealt to the samplers that were lent of it
  pub dealt_pool : (rows : B) (k : PassPool T S H R W B O M) → IsPool k k.samplers.elements → (lent l : List (PassSampler T S H R W B O M))
      → lent ≡ k.samplers.elements → (news : ListView (PassSampler T S H R W B O M)) → news.elements ≡ l → (home : M) (r : Result (Unit {0}) NoMemory)
      → OnOk r (schedule.is_home rows home) → OnOk r (AreSameSamplers lent l) → OnOk r (HaveSameReaders lent l)
      → OnOk r ((line : ℕ) → schedule.has_dealt rows k.height line k.count [] k.home → HaveWays schedule rows k.height line l)
      → OnOk r ((line : ℕ) → schedule.has_dealt rows k.height line k.count [] k.home
      → schedule.has_dealt rows k.height line k.count (ways_of l) home)
      → OnOk r ((w : W) → AreAtHome table w k.samplers.elements → schedule.has_dealt rows k.height (line_length k) k.count [] k.home
      → k.height ≤ k.lines.spare → IsDealtPool table schedule w rows (record k { home = home; samplers = news }))
  dealt_pool rows k pool lent l lent_is news are home (Ok done) home_is same readers ways dealt = λ w at_home begun room. record {
    pool = record {
      some = pool.some;
      few = pool.few;
      depth = pool.depth;
      sides = pool.sides;
      samplers_are = subst (AreSamplers k.geometry k.count) (sym are) (same_samplers k.geometry k.count lent l
          (subst (AreSamplers k.geometry k.count) (sym lent_is) pool.samplers_are) same);
      counts = pool.counts;
      number = pool.number;
      no_lines = pool.no_lines;
    };
    home = subst (AreAtHome table w) (sym are) (home_dealt w lent l same readers (subst (AreAtHome table w) (sym lent_is) at_home));
    ways = subst (λ (x : List (PassSampler T S H R W B O M)). HaveWays schedule rows k.height (line_length k) x) (sym are) (ways (line_length k) begun);
    home_is = home_is;
    dealt = subst (λ (x : List (PassSampler T S H R W B O M)). schedule.has_dealt rows k.height (line_length k) k.count (ways_of x) home) (sym are)
        (dealt (line_length k) begun);
    line_room = room;
  }
  dealt_pool rows k pool lent l lent_is news are home (Err refusal) home_is same readers ways dealt = tt

  -- a pool of which the rows were taken out of their places, and whose dealing was begun
  pub begun_pool : (k : PassPool T S H R W B O M) → IsPool k k.samplers.elements → (begun : M) (drawn : ListView RowJob) (lines : ListView RowLine)
      → length drawn.elements ≡ length k.drawn.elements → lines.elements ≡ []
      → IsPool (record k { home = begun; drawn = drawn; lines = lines }) k.samplers.elements
  begun_pool k pool begun drawn lines number none = record {
    some = pool.some;
    few = pool.few;
    depth = pool.depth;
    sides = pool.sides;
    samplers_are = pool.samplers_are;
    counts = pool.counts;
    number = number ∙ pool.number;
    no_lines = none;
  }

  -- the readers of a pool were opened
  module _ (shared : H) (w : W) (s : Shape) (start : ℕ) (k : PassPool T S H R W B O M) (lent l : List (PassSampler T S H R W B O M))
      (lent_is : lent ≡ k.samplers.elements) (news : ListView (PassSampler T S H R W B O M)) (are : news.elements ≡ l) (shape : s ≡ k.geometry)
      (opened : AreOpened table shared s start lent l) (rows : B) (dealt : IsDealtPool table schedule w rows k) where
    abbrev before : List (PassSampler T S H R W B O M)
    before = k.samplers.elements

    from_before : AreOpened table shared k.geometry start before l
    from_before = subst (λ (z : List (PassSampler T S H R W B O M) × Shape). AreOpened table shared z.1 start z.0 l) (λ i. (lent_is i, shape i)) opened

    -- what a sampler was
    record WasSampler (n : ℕ) (b : PassSampler T S H R W B O M) : Type 0 where
      was : PassSampler T S H R W B O M
      there : slice_get before n ≡ Some was
      rest : b ≡ record was { reader = b.reader }
      is_open : table.is_open shared k.geometry n b.reader
      start_is : table.start b.reader ≡ start

    was_sampler : (n : ℕ) (b : PassSampler T S H R W B O M) → slice_get l n ≡ Some b → WasSampler n b
    was_sampler n b is =
        let a = get_or before n b in
        let there : slice_get before n ≡ Some a = slice_get-get_or before n b
        (let i = slice_get_within l n b is in let m = from_before.count in omega (arith, i, m)) in
        let o = from_before.each n a b there is in
        record { was = a; there = there; rest = o.rest; is_open = o.opened; start_is = o.start_is }

    same_ways : ways_of l ≡ ways_of before
    same_ways = same_made (λ (a : PassSampler T S H R W B O M). a.own) before l from_before.count
        (λ n a b there is. ap (λ (x : PassSampler T S H R W B O M). x.own) (from_before.each n a b there is).rest)

    pub ready_pool : IsReadyPool table schedule shared rows start (record k { samplers = news }) news.elements
    ready_pool = record {
      pool = record {
        some = dealt.pool.some;
        few = dealt.pool.few;
        depth = dealt.pool.depth;
        sides = dealt.pool.sides;
        samplers_are = subst (AreSamplers k.geometry k.count) (sym are) (record {
          number = from_before.count ∙ dealt.pool.samplers_are.number;
          each = λ n b is.
              let x = was_sampler n b is in
              let its = dealt.pool.samplers_are.each n x.was x.there in
              record {
                number_is = ap (λ (z : PassSampler T S H R W B O M). z.number) x.rest ∙ its.number_is;
                pages = ap (λ (z : PassSampler T S H R W B O M). length z.counts.items) x.rest ∙ its.pages;
                none = ap (λ (z : PassSampler T S H R W B O M). z.kept.elements) x.rest ∙ its.none;
              };
        });
        counts = dealt.pool.counts;
        number = dealt.pool.number;
        no_lines = dealt.pool.no_lines;
      };
      ready = subst (λ (x : List (PassSampler T S H R W B O M)). AreReady table schedule shared rows k.geometry k.height (line_length k) start x) (sym are)
          (λ n b is.
          let x = was_sampler n b is in
          let way = dealt.ways n x.was x.there in
          record {
            opened = x.is_open;
            start_is = x.start_is;
            of = subst (λ (o : O). schedule.is_of rows k.height (line_length k) o) (sym (ap (λ (z : PassSampler T S H R W B O M). z.own) x.rest)) way.of;
            room = (let e = ap (λ (z : PassSampler T S H R W B O M). z.kept.spare) x.rest in let r = way.room in omega (arith, e, r));
          });
      home_is = dealt.home_is;
      dealt = subst (λ (owns : List O). schedule.has_dealt rows k.height (line_length k) k.count owns k.home) (sym (ap (λ x. ways_of x) are ∙ same_ways))
          dealt.dealt;
      line_room = dealt.line_room;
    }
