-- A kit with words and their streamer, between passes and prepared for one.
use Rattle.std.proofs.Common.{◌≡◌, ℕ, zero, suc, ◌*◌, ◌<◌, ◌≤◌, List, [], ◌∷◌, length, Some, Option, refl, sym, ap, ◌∙◌, subst, arith}
use Rattle.std.specs.Prelude.{slice_get}
use Rattle.std.proofs.lemmas.Option.{slice_get_within}
use Rattle.vt_outside.specs.declared.outside.File.{Ghosts as FileMeanings}
use Rattle.vt_load.specs.Shape.{Shape}
use Rattle.vt_pass_machine.specs.Pages.{IsWithinLimits}
use Rattle.vt_pass_machine.specs.Changes.{newest}
use Rattle.vt_pass_machine.specs.SchedulesRows.{AreRowsInPlace}
use Rattle.vt_pass_machine.specs.Pools.{IsIdlePool as IsIdleSamplers, IsDealtPool, line_length}
use Rattle.vt_pass_machine.specs.Stills.{IsStill}
use Rattle.vt_loading.specs.PlanTypes.batches.Planned.{Planned}
use Rattle.vt_loading.specs.MachineTypes.crew.Crew.{Crew}
use Rattle.vt_loading.specs.Machines.{known_bytes}
use Rattle.vt_loading.specs.Outcomes.{IsBatchFor}
use Rattle.vt_loading.specs.LoaderPools.{IsPreparedStream}
use Rattle.vt_loading.proofs.StoreRooms.{known_same}
use Rattle.vt_word_table.specs.GraceTypes.sizes.Sizes.{Sizes}
use Rattle.vt_word_table.specs.WriterViews.{is_out}
use Rattle.vt_word_table.specs.Values.{WordsValue}
use Rattle.vt_word_table.specs.Views.{StreamerView}
use Rattle.vt_word_table.specs.Stored.{AreStored}
use Rattle.vt_word_table.specs.WordWriters.{IsMappedWith, HasTakenMore}
use Rattle.vt_word_table.specs.WordLaws.{taken_none}
use Rattle.vt_word_table.specs.contracts.table.WordTablePageTable.TheImpl as word
use Rattle.vt_schedules.specs.contracts.dealt.DealtSchedule.TheImpl as dealt
use Rattle.vt_word_table.proofs.Filling.{stored_contents, contents_stored}
use Rattle.vt_word_table.proofs.Homes.{streamer_still, all_in}
use Rattle.vt_pass_machine.specs.Machines.{Agree, IsIdle}
use Rattle.vt_pass.specs.declared.pass_kit.PassKit.{PassKit}
use Rattle.vt_pass.specs.WordPools.{WordSampler, WordStreamer}
use Rattle.vt_pass.specs.PassKits.{IsFitKit, IsIdleKit, IsPreparedFor, IsSameKit, AreAllIn, with_writer}

-- what is at a place of a list
there : {X : Type 0} (xs : List X) (n : ℕ) → n < length xs → (x : X) × (slice_get xs n ≡ Some x)
there [] n inside = absurd (omega (arith, inside))
there (x ∷ xs) zero inside = (x, refl)
there (x ∷ xs) (suc n) inside = there xs n (omega (arith, inside))

-- a kit between passes
module _ {F : Type 0} (g : FileMeanings F) (words : WordsValue) (v : StreamerView) (k : PassKit F) (idle : IsIdleKit g words v k) where
  abbrev fit : IsFitKit g words v k
  fit = idle.fit

  some_tile : 1 ≤ k.streams.shape.tile
  some_tile = subst (λ (s : Shape). 1 ≤ s.tile) fit.shape (let a = fit.of.lawful.limits.least_tile in omega (arith, a))

  pub samplers_home : IsIdleSamplers word.ghosts v k.pool
  samplers_home = record {
    pool = fit.pool.samplers;
    home = λ n a is. record {
      none = fit.pool.none n a is;
      absent = idle.all_in n;
      inside = (let low = slice_get_within k.pool.samplers.elements n a is in let m = fit.pool.samplers.samplers_are.number in
          let c = fit.pool.agree.count in let s = fit.samplers in let z = ap (λ (x : Sizes). x.samplers) fit.of.seen in omega (arith, low, m, c, s, z));
    };
    rows = fit.pool.rows;
  }

  -- with them it is a machine between its passes
  pub idle_machine : IsIdle g word.ghosts words (with_writer k v) k.streams k.pool
  idle_machine = record {
    fit = record {
      of = fit.of;
      shape = fit.shape;
      geometry = fit.pool.geometry;
      depth = fit.pool.depth;
      limits = subst IsWithinLimits fit.shape fit.of.lawful.limits;
      stored = contents_stored k.streams.shape k.streams.depth (known_bytes g k.streams.stores) v.writer.journal v.writer.contents some_tile fit.stored;
    };
    pool = fit.pool.streams;
    samplers = samplers_home;
    agree = fit.pool.agree;
  }

  -- it is prepared, once all memory was taken
  module _ (w : StreamerView) (l : PassKit F) (rest : w ≡ record v { spare = w.spare }) (same : IsSameKit g k l) (batch : List Planned)
      (lawful : IsBatchFor v.shape (length v.owners) (newest v.writer.journal) batch) (room : 2 * length batch ≤ w.spare)
      (geometry : l.own.geometry ≡ k.own.geometry) (depth : l.own.depth ≡ k.own.depth)
      (prepared : IsPreparedStream g l.queues l.own.answers l.own.report l.streams batch)
      (dealt_pool : (u : StreamerView) → IsIdleSamplers word.ghosts u k.pool → IsDealtPool word.ghosts dealt.ghosts u l.rows l.pool) where
    still : IsStill word.ghosts words v w
    still = record {
      of = streamer_still words v w rest fit.of;
      shape = ap (λ (x : StreamerView). x.shape) rest;
      frames = ap (λ (x : StreamerView). length x.owners) rest;
      journal = ap (λ (x : StreamerView). x.writer.journal) rest;
      fills = λ page ws. subst (λ (x : StreamerView). IsMappedWith x.writer.journal x.writer.contents page ws → IsMappedWith v.writer.journal v.writer.contents page ws)
          (sym rest) (λ was. was);
      later = subst (λ (x : StreamerView). HasTakenMore v.writer x.writer) (sym rest) (taken_none v.writer);
    }

    all_in_still : AreAllIn w
    all_in_still n = ap (λ (x : StreamerView). is_out x.writer n) rest ∙ idle.all_in n

    ready : IsDealtPool word.ghosts dealt.ghosts w l.rows l.pool
    ready = dealt_pool w (record {
      pool = samplers_home.pool;
      home = λ n a is. let h = samplers_home.home n a is in record {
        none = h.none;
        absent = all_in_still n;
        inside = (let i = h.inside in let z = ap (λ (x : StreamerView). x.writer.sizes.samplers) rest in omega (arith, i, z));
      };
      rows = samplers_home.rows;
    })

    agree_still : Agree l.streams l.pool
    agree_still = record {
      shape = same.geometry ∙ fit.pool.agree.shape ∙ sym same.streams.shape;
      depth = same.depth ∙ fit.pool.agree.depth ∙ sym same.streams.depth;
      count = same.count ∙ fit.pool.agree.count ∙ ap (λ (c : Crew). c.samplers) (sym same.streams.crew);
    }

    known : known_bytes g l.streams.stores ≡ known_bytes g k.streams.stores
    known = known_same g k.streams.stores l.streams.stores same.streams.stores

    pub prepared_kit : IsPreparedFor g words w l batch
    prepared_kit = record {
      idle = record {
        fit = record {
          of = still.of;
          shape = still.shape ∙ fit.shape ∙ sym same.streams.shape;
          samplers = fit.samplers ∙ ap (λ (c : Crew). c.samplers) (sym same.streams.crew);
          stored = subst (λ (z : StreamerView × Shape × ℕ × Option (List ℕ)). AreStored z.1 z.2 z.3 z.0.writer.journal z.0.writer.contents)
              (λ i. (sym rest i, sym same.streams.shape i, sym same.streams.depth i, sym known i)) fit.stored;
          pool = record {
            streams = prepared.pool;
            samplers = ready.pool;
            none = λ n a is. (ready.home n a is).none;
            rows = subst (λ (z : ℕ × ℕ × ℕ × _). AreRowsInPlace z.0 (line_length (record k.pool { depth = z.1; width = z.2 })) z.3)
                (λ i. (sym same.height i, sym same.depth i, sym same.width i, ap (λ x. x.elements) (sym same.drawn) i)) fit.pool.rows;
            agree = agree_still;
            geometry = geometry ∙ fit.pool.geometry ∙ sym same.streams.shape;
            depth = depth ∙ fit.pool.depth ∙ sym same.streams.depth;
          };
        };
        all_in = all_in_still;
      };
      prepared = record {
        fit = record {
          of = still.of;
          shape = still.shape ∙ fit.shape ∙ sym same.streams.shape;
          geometry = geometry ∙ fit.pool.geometry ∙ sym same.streams.shape;
          depth = depth ∙ fit.pool.depth ∙ sym same.streams.depth;
          limits = subst IsWithinLimits (fit.shape ∙ sym same.streams.shape) fit.of.lawful.limits;
          stored = contents_stored l.streams.shape l.streams.depth (known_bytes g l.streams.stores) w.writer.journal w.writer.contents
              (subst (λ (s : Shape). 1 ≤ s.tile) (sym same.streams.shape) some_tile)
              (subst (λ (z : StreamerView × Shape × ℕ × Option (List ℕ)). AreStored z.1 z.2 z.3 z.0.writer.journal z.0.writer.contents)
              (λ i. (sym rest i, sym same.streams.shape i, sym same.streams.depth i, sym known i)) fit.stored);
        };
        prepared = prepared;
        lawful = subst (λ (x : StreamerView). IsBatchFor x.shape (length x.owners) (newest x.writer.journal) batch) (sym rest) lawful;
        room = room;
        samplers = ready;
        agree = agree_still;
      };
    }

-- a machine between its passes is a kit with its words and its streamer
module _ {F : Type 0} (g : FileMeanings F) (words : WordsValue) (u : WordStreamer) (l : PassKit F)
    (idle : IsIdle g word.ghosts words u l.streams l.pool) (geometry : l.own.geometry ≡ u.geometry) (depth : l.own.depth ≡ u.depth)
    (samplers : words.sizes.samplers ≡ l.streams.crew.samplers) where
  number_is : length u.writer.writer.out ≡ l.pool.count
  number_is = idle.fit.of.sound.outs ∙ ap (λ (x : Sizes). x.samplers) idle.fit.of.seen ∙ samplers ∙ sym idle.agree.count

  pub idle_kit : IsIdleKit g words u.writer l
  idle_kit = record {
    fit = record {
      of = idle.fit.of;
      shape = idle.fit.shape;
      samplers = samplers;
      stored = stored_contents l.streams.shape l.streams.depth (known_bytes g l.streams.stores) u.writer.writer.journal u.writer.writer.contents
          (let a = idle.fit.limits.least_tile in omega (arith, a)) idle.fit.stored;
      pool = record {
        streams = idle.pool;
        samplers = idle.samplers.pool;
        none = λ n a is. (idle.samplers.home n a is).none;
        rows = idle.samplers.rows;
        agree = idle.agree;
        geometry = geometry ∙ idle.fit.geometry;
        depth = depth ∙ idle.fit.depth;
      };
    };
    all_in = all_in u.writer.writer l.pool.count number_is
        (λ n low. let a = at_place n low in (idle.samplers.home n a.0 a.1).absent);
  } where
    at_place : (n : ℕ) → n < l.pool.count → (a : WordSampler) × (slice_get l.pool.samplers.elements n ≡ Some a)
    at_place n low = there l.pool.samplers.elements n (let m = idle.samplers.pool.samplers_are.number in omega (arith, m, low))
