-- A pool between its passes in which a page was placed.
use Rattle.std.proofs.Common.{◌≡◌, ℕ, zero, suc, false, List, [], ◌∷◌, refl, sym, ap, ◌∙◌, subst}
use Rattle.std.specs.Prelude.{slice_index_or, IfSome, Result, Ok, Err, OnOk, OnErr}
use Rattle.std.proofs.lemmas.Option.{none-some, same_Some}
use Rattle.vt_outside.specs.declared.outside.File.{Ghosts as FileMeanings}
use Rattle.vt_outside.specs.declared.answers.NoMemory.{NoMemory}
use Rattle.vt_outside.specs.Files.{IsPiece}
use Rattle.vt_journal.specs.declared.changes.Change.{Change}
use Rattle.vt_journal.specs.declared.changes.Change.TheVariants.{Map}
use Rattle.vt_journal.specs.Lookups.{change_page}
use Rattle.vt_tiles.specs.Format.{tile_start}
use Rattle.vt_grace.specs.Values.{WordsValue}
use Rattle.vt_streamer.specs.Fills.{words_in}
use Rattle.vt_streamer.specs.Views.{StreamerView, IsStreamerOf}
use Rattle.vt_machine.specs.Machines.{known_bytes}
use Rattle.vt_machine.specs.Passes.{MayPlace}
use Rattle.vt_pass.specs.Stored.{AreStored}
use Rattle.vt_pass.proofs.Growing.{stored_grow}
use Rattle.vt_tests_walks.specs.Placed.{HasPlaced}
use Rattle.vt_pass.specs.declared.pass_kit.PassKit.{PassKit}
use Rattle.vt_pass.specs.PassKits.{kit_state, IsIdleKit, AreAllIn}

module _ {F : Type 0} (g : FileMeanings F) where
  -- a pool in which a page was placed is idle
  pub idle_placed : (words : WordsValue) (v w : StreamerView) (k : PassKit F) (page frame : ℕ) (tile : List ℕ)
      → IsIdleKit g words v k → IsStreamerOf words w → MayPlace (kit_state g words v.writer.journal k) page frame tile
      → HasPlaced v w page frame tile → IsIdleKit g words w k
  idle_placed words v w k page frame tile idle of may placed = record {
    fit = record {
      of = of;
      shape = placed.shape ∙ idle.fit.shape;
      samplers = idle.fit.samplers;
      stored = subst (λ (x : List Change × List (List ℕ)). AreStored k.streams.shape k.streams.depth (known_bytes g k.streams.stores) x.0 x.1)
          (λ i. (sym placed.journal i, sym placed.contents i))
          (stored_grow k.streams.shape k.streams.depth (known_bytes g k.streams.stores) v.writer.journal (Map page frame ∷ []) v.writer.contents (words_in v.shape tile ∷ [])
          idle.fit.of.sound.contents idle.fit.stored one);
      pool = idle.fit.pool;
    };
    all_in = λ n. ap (λ o. slice_index_or o n false) placed.out ∙ idle.all_in n;
  } where
    one : AreStored k.streams.shape k.streams.depth (known_bytes g k.streams.stores) (Map page frame ∷ []) (words_in v.shape tile ∷ [])
    one zero p f is =
        let page_is : page ≡ p = ap change_page (same_Some (Map page frame) (Map p f) is) in
        record {
          tile = tile;
          size = may.size;
          of_store = subst (λ q. IfSome (known_bytes g k.streams.stores) (λ b. IsPiece b (tile_start k.streams.shape k.streams.depth q) tile)) page_is may.of_store;
          words = ap (λ s. words_in s tile) idle.fit.shape;
        }
    one (suc j) p f is = absurd (none-some (Map p f) is)
