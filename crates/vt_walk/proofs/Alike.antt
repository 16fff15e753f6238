-- A finished walk and what a refused one leaves stay so where files are closed.
use Rattle.std.proofs.Common.{◌≡◌, ℕ, ◌+◌, ◌-◌, ◌≤◌, ◌⊎◌, inl, inr, take, List, [], ◌∷◌, length, Option, Some, None, Result, Ok, Err, refl, sym, ap, ◌∙◌, subst, arith}
use Rattle.std.specs.Prelude.{MatchResult, option_map}
use Rattle.vt_outside.specs.Files.{Files, IsThere, with_bytes, gained}
use Rattle.vt_outside.specs.Places.{times_failed}
use Rattle.vt_outside.specs.declared.place.Place.{Place}
use Rattle.vt_pages.specs.Shape.{Shape}
use Rattle.vt_pages.specs.Pages.{pages_of}
use Rattle.vt_tiles.specs.Format.{tile_start, tile_length}
use Rattle.vt_evict.specs.PlanTypes.batches.Planned.{Planned}
use Rattle.vt_walk_decisions.specs.declared.error.WalkError.{WalkError}
use Rattle.vt_walk_decisions.specs.declared.error.WalkError.TheVariants.{TooFewFrames, DoesNotFit, Failed, NoMemory}
use Rattle.vt_pictures.specs.Names.{picture_name}
use Rattle.vt_walk.specs.DrawnBy.{PictureDrawn}
use Rattle.vt_walk.specs.Runs.{WalkPass, plan_after, planned_in, lost_in}
use Rattle.vt_walk.specs.Logs.{picture_line}
use Rattle.vt_walk.specs.Walks.{WalkGiven}
use Rattle.vt_walk.specs.States.{WalkState}
use Rattle.vt_walk.specs.Reads.{AreAskedFor, AreAskedAtMostFor, OnKnown, lost_reads}
use Rattle.vt_walk.specs.Standing.{Stands, Finished}
use Rattle.vt_walk.specs.Leaving.{AsksNothing, AsksForNext, AsksAhead, LeftAtHead, IsWalkPrefix, LeftInRun, Left}
use Rattle.vt_walk.specs.Causes.{reads_lost, HasFailed, IsCausedBy}
use Rattle.vt_walk.specs.WalkSteps.{LeftByRefusal}
use Rattle.vt_walk.proofs.Asks.{known_twice}
use Rattle.vt_walk.proofs.Placed.{same_sum}
use Rattle.vt_walk.proofs.Closings.{AreSamePlaces, IsAlike}

-- as much was asked
still_asked : (s : Shape) (d pinned : ℕ) (planned lost : List Planned) (a b c : Option (List Place)) → OnKnown (AreAskedFor s d pinned planned lost) a b
    → OnKnown AreSamePlaces b c → OnKnown (AreAskedFor s d pinned planned lost) a c
still_asked s d pinned planned lost a b c asked same =
    known_twice (AreAskedFor s d pinned planned lost) AreSamePlaces (AreAskedFor s d pinned planned lost) a b c
    (λ x y z first then. record {
      asked = λ at len. then.asked at len ∙ first.asked at len;
      failed = λ at len. then.failed at len ∙ first.failed at len;
    }) asked same

still_at_most : (s : Shape) (d pinned : ℕ) (planned : List Planned) (a b c : Option (List Place)) → OnKnown (AreAskedAtMostFor s d pinned planned) a b
    → OnKnown AreSamePlaces b c → OnKnown (AreAskedAtMostFor s d pinned planned) a c
still_at_most s d pinned planned a b c asked same =
    known_twice (AreAskedAtMostFor s d pinned planned) AreSamePlaces (AreAskedAtMostFor s d pinned planned) a b c
    (λ x y z first then at len. omega (arith, then.asked at len, first at len)) asked same

module _ (drawn : PictureDrawn) (g : WalkGiven) (first mid last : WalkState) (alike : IsAlike mid last) where
  pub finished_alike : Finished drawn g first mid → Finished drawn g first last
  finished_alike f = record {
    run = f.run;
    is_run = f.is_run;
    whole = f.whole;
    judged = f.judged;
    fits = f.fits;
    legal = f.legal;
    pinned = f.pinned;
    pictures = f.pictures;
    all = f.all;
    written = f.written;
    files = λ apart. alike.files ∙ f.files apart;
    held = alike.held ∙ f.held;
    asked = still_asked _ _ _ _ _ first.asked mid.asked last.asked f.asked alike.asked;
    faults = let most = f.faults in let more = alike.faults in omega (arith, most, more);
  }

  stands_alike : (run : List WalkPass) (pictures : List (List ℕ)) → Stands drawn g run pictures first mid → Stands drawn g run pictures first last
  stands_alike run pictures s = record {
    is_run = s.is_run;
    reached = s.reached;
    written = s.written;
    files = λ apart. alike.files ∙ s.files apart;
    there = subst (λ known. IsThere known g.names.journal) (sym alike.files) s.there;
    held = alike.held ∙ s.held;
    asked = still_asked _ _ _ _ _ first.asked mid.asked last.asked s.asked alike.asked;
    faults = let most = s.faults in let more = alike.faults in omega (arith, most, more);
    out_faults = let most = s.out_faults in let same = alike.out_faults in omega (arith, most, same);
  }

  head_alike : LeftAtHead g first mid → LeftAtHead g first last
  head_alike l = record {
    files = elim l.files [ inl none ↦ inl (alike.files ∙ none) | inr (k, part) ↦ inr (k, alike.files ∙ part) ];
    held = alike.held ∙ l.held;
    asked = still_at_most g.scene.shape g.scene.depth g.setup.pinned [] first.asked mid.asked last.asked l.asked alike.asked;
    faults = let most = l.faults in let more = alike.faults in omega (arith, most, more);
    out_faults = let most = l.out_faults in let same = alike.out_faults in omega (arith, most, same);
  }

  -- what was there in the middle, with the places that were asked at the end
  abbrev middle : WalkState → WalkState
  middle before = record before { asked = last.asked }

  none_alike : (before : WalkState) → AsksNothing before mid → AsksNothing (middle before) last
  none_alike before n = record {
    asked = refl;
    faults = let most = n.faults in let more = alike.faults in omega (arith, most, more);
    out_faults = let most = n.out_faults in let same = alike.out_faults in omega (arith, most, same);
  }

  middle_alike : (run : List WalkPass) (pictures : List (List ℕ)) (before : WalkState) → AsksNothing before mid → Stands drawn g run pictures first before
      → Stands drawn g run pictures first (middle before)
  middle_alike run pictures before n s = record {
    is_run = s.is_run;
    reached = s.reached;
    written = s.written;
    files = s.files;
    there = s.there;
    held = s.held;
    asked = still_asked _ _ _ _ _ first.asked mid.asked last.asked (subst (λ (o : Option (List Place)). OnKnown
        (AreAskedFor g.scene.shape g.scene.depth g.setup.pinned (planned_in run) (lost_in run)) first.asked o) (sym n.asked) s.asked) alike.asked;
    faults = s.faults;
    out_faults = s.out_faults;
  }

  -- what was there before a picture was written, with the places that were asked at the end, unless a pass was under way
  shifted : (run : List WalkPass) (pictures : List (List ℕ)) (before : WalkState) → Stands drawn g run pictures first before
      → AsksAhead g run (length pictures) before mid
      → (at : WalkState) × Stands drawn g run pictures first at × (at.files ≡ before.files) × (at.held ≡ before.held)
      × AsksAhead g run (length pictures) at last
  shifted run pictures before s a = pick a.asked where
    faults : before.faults ≤ last.faults
    faults = let most = a.faults in let more = alike.faults in omega (arith, most, more)

    out_faults : before.out_faults ≤ last.out_faults
    out_faults = let most = a.out_faults in let same = alike.out_faults in omega (arith, most, same)

    pick : (mid.asked ≡ before.asked) ⊎ AsksForNext g run (length pictures + 1) before.asked mid.asked
        → (at : WalkState) × Stands drawn g run pictures first at × (at.files ≡ before.files) × (at.held ≡ before.held)
        × AsksAhead g run (length pictures) at last
    pick (inl same) = (
      middle before,
      middle_alike run pictures before (record { asked = same; faults = a.faults; out_faults = a.out_faults }) s,
      refl,
      refl,
      record { asked = inl refl; faults = faults; out_faults = out_faults },
    )
    pick (inr next) = (
      before,
      s,
      refl,
      refl,
      record {
        asked = inr (record {
          step = next.step;
          of_path = next.of_path;
          asked = still_at_most g.scene.shape g.scene.depth 0 (plan_after g.setup run) before.asked mid.asked last.asked next.asked alike.asked;
        });
        faults = faults;
        out_faults = out_faults;
      },
    )

  front_alike : (run : List WalkPass) (pictures : List (List ℕ)) (before : WalkState) → Stands drawn g run pictures first before
      → IsWalkPrefix drawn g run (length pictures) before mid → LeftInRun drawn g first last
  front_alike run pictures before s (inl (written, none)) = record {
    run = run;
    pictures = pictures;
    mid = middle before;
    stands = middle_alike run pictures before none s;
    front = inl (record { files = alike.files ∙ written.files; held = alike.held ∙ written.held }, none_alike before none);
  }
  front_alike run pictures before s (inr (inl l)) = record {
    run = run;
    pictures = pictures;
    mid = before;
    stands = s;
    front = inr (inl (record {
      step = l.step;
      of_path = l.of_path;
      files = alike.files ∙ l.files;
      held = alike.held ∙ l.held;
      asked = still_at_most g.scene.shape g.scene.depth 0 (plan_after g.setup run) before.asked mid.asked last.asked l.asked alike.asked;
      faults = let most = l.faults in let more = alike.faults in omega (arith, most, more);
      out_faults = let most = l.out_faults in let same = alike.out_faults in omega (arith, most, same);
    }));
  }
  front_alike run pictures before s (inr (inr (inl l))) = record {
    run = run;
    pictures = pictures;
    mid = before;
    stands = s;
    front = inr (inr (inl (record {
      next = l.next;
      comes_next = l.comes_next;
      picture_is = l.picture_is;
      files = elim l.files [ inl none ↦ inl (alike.files ∙ none) | inr (k, part) ↦ inr (k, alike.files ∙ part) ];
      held = alike.held ∙ l.held;
      asked = still_asked _ _ _ _ _ before.asked mid.asked last.asked l.asked alike.asked;
      faults = let most = l.faults in let more = alike.faults in omega (arith, most, more);
      out_faults = let most = l.out_faults in let same = alike.out_faults in omega (arith, most, same);
    })));
  }
  front_alike run pictures before s (inr (inr (inr (inl l)))) =
      let m = shifted run pictures before s l.ahead in
      record {
        run = run;
        pictures = pictures;
        mid = m.0;
        stands = m.1;
        front = inr (inr (inr (inl (record {
          finished = l.finished;
          bytes = l.bytes;
          written = l.written;
          files = subst (λ (known : Option Files). (last.files ≡ known) ⊎ ((k : ℕ)
              × (last.files ≡ option_map (with_bytes (picture_name g.names.prefix (length pictures)) (take k l.bytes)) known)))
              (sym m.2) (elim l.files [ inl none ↦ inl (alike.files ∙ none) | inr (k, part) ↦ inr (k, alike.files ∙ part) ]);
          held = alike.held ∙ l.held ∙ sym m.3;
          ahead = m.4;
        }))));
      }
  front_alike run pictures before s (inr (inr (inr (inr (inl l))))) =
      let m = shifted run pictures before s l.ahead in
      record {
        run = run;
        pictures = pictures;
        mid = m.0;
        stands = m.1;
        front = inr (inr (inr (inr (inl (record {
          finished = l.finished;
          bytes = l.bytes;
          written = l.written;
          files = alike.files ∙ l.files ∙ ap (option_map (with_bytes (picture_name g.names.prefix (length pictures)) l.bytes)) (sym m.2);
          count = l.count;
          held = alike.held ∙ l.held ∙ ap (option_map (gained (take l.count (picture_line run (length pictures))))) (sym m.3);
          ahead = m.4;
        })))));
      }
  front_alike run pictures before s (inr (inr (inr (inr (inr l))))) = record {
    run = run;
    pictures = pictures;
    mid = middle before;
    stands = middle_alike run pictures before l.none s;
    front = inr (inr (inr (inr (inr (record {
      whole = l.whole;
      all = l.all;
      files = alike.files ∙ l.files;
      count = l.count;
      held = alike.held ∙ l.held;
      none = none_alike before l.none;
    })))));
  }

  left_alike : Left drawn g first mid → Left drawn g first last
  left_alike (inl l) = inl (head_alike l)
  left_alike (inr l) = inr (front_alike l.run l.pictures l.mid l.stands l.front)

  lost_alike : (s : Shape) (d pinned : ℕ) (before after : List Place) → AreSamePlaces before after → lost_reads s d pinned after ≡ lost_reads s d pinned before
  lost_alike s d pinned before after same =
      same_sum (λ p. times_failed (tile_start s d p) (tile_length s d) after) (λ p. times_failed (tile_start s d p) (tile_length s d) before)
      (pages_of s - pinned)
      (λ p below. same.failed (tile_start s d p) (tile_length s d))

  reads_alike : (a b c : Option (List Place)) → OnKnown AreSamePlaces b c → reads_lost g a c ≡ reads_lost g a b
  reads_alike None None None same = refl
  reads_alike (Some a) None None same = refl
  reads_alike None (Some b) (Some c) same = refl
  reads_alike (Some a) (Some b) (Some c) same =
      ap (λ n. n - lost_reads g.scene.shape g.scene.depth g.setup.pinned a) (lost_alike g.scene.shape g.scene.depth g.setup.pinned b c same)
  reads_alike a None (Some c) same = absurd same
  reads_alike a (Some b) None same = absurd same

  failed_alike : HasFailed drawn g first mid → HasFailed drawn g first last
  failed_alike (inl (inl rose)) = let same = alike.out_faults in inl (inl (omega (arith, rose, same)))
  failed_alike (inl (inr rose)) =
      let same = reads_alike first.asked mid.asked last.asked alike.asked in
      let more = alike.faults in
      inl (inr (omega (arith, rose, same, more)))
  failed_alike (inr lost) = inr (record {
    settled = lost.settled;
    pass = lost.pass;
    before = lost.before;
    some = lost.some;
    pictures = lost.pictures;
    stands = stands_alike (lost.pass ∷ lost.before) lost.pictures lost.stands;
    rose = let rose = lost.rose in let more = alike.faults in omega (arith, rose, more);
  })

  caused_alike : (error : WalkError) → IsCausedBy drawn g first mid error → IsCausedBy drawn g first last error
  caused_alike (TooFewFrames frames needed) c = record {
    frames_are = c.frames_are;
    needed_are = c.needed_are;
    few = c.few;
    none = record { files = alike.files ∙ c.none.files; held = alike.held ∙ c.none.held };
  }
  caused_alike (DoesNotFit picture needed room) c = record {
    settled = c.settled;
    room_is = c.room_is;
    unfit = c.unfit;
    earlier = c.earlier;
    pass = c.pass;
    before = c.before;
    of_picture = c.of_picture;
    first_pass = c.first_pass;
    pictures = c.pictures;
    all = c.all;
    stands = stands_alike (c.pass ∷ c.before) c.pictures c.stands;
  }
  caused_alike Failed c = failed_alike c
  caused_alike NoMemory c = tt

  -- a walk ends as it did before the files were closed
  pub ends_alike : {T : Type 0} (r : Result T WalkError) → MatchResult r (λ _. Finished drawn g first mid) (LeftByRefusal drawn g first mid)
      → MatchResult r (λ _. Finished drawn g first last) (LeftByRefusal drawn g first last)
  ends_alike (Ok x) f = finished_alike f
  ends_alike (Err error) l = (left_alike l.0, caused_alike error l.1)
