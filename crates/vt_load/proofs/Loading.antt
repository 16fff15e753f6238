-- What a loader does, one request after another.
use Rattle.std.proofs.Common.{◌≡◌, ℕ, Bool, cond, true, false, List, [], ◌∷◌, ◌++◌, length, take, drop, Option, refl, sym, ap, ◌∙◌, subst, append_assoc, ◌+◌, length-append}
use Rattle.std.specs.Prelude.{filter, IfSome}
use Rattle.std.specs.List.{refill}
use Rattle.std.proofs.Math.Seq.{take-append_seam}
use Rattle.std.proofs.lemmas.List.{map-append}
use Rattle.std.proofs.lemmas.List.Elements.{filter-append}
use Rattle.vt_outside.specs.Files.{IsPiece}
use Rattle.vt_outside.specs.declared.outside.File.{Ghosts as FileMeanings}
use Rattle.vt_tiles.specs.Shape.{Shape}
use Rattle.vt_queue.specs.declared.items.Request.{Request}
use Rattle.vt_queue.specs.declared.items.Loaded.{Loaded}
use Rattle.vt_queue.specs.declared.views.PassView.{PassView}
use Rattle.vt_queue.specs.PassViews.{pass_view}
use Rattle.vt_queue.specs.Orders.{items_of}
use Rattle.vt_queue.specs.Steps.{Takes, Puts}
use Rattle.vt_queue.proofs.Gathered.{append_nil}
use Rattle.vt_load.specs.Readings.{is_readable, IsReading, AreReadings}
use Rattle.vt_load.specs.Loads.{Answers, Loads}

-- What was written into a buffer's lent bytes is in the buffer.
pub lent_back : (xs ws : List ℕ) → length ws ≡ length xs → refill (length xs) xs ws ≡ ws
lent_back xs ws e = ap (λ (n : ℕ). take n (ws ++ drop (length ws) xs)) (sym e) ∙ take-append_seam ws (drop (length ws) xs)

-- So does a tile that was read into them.
pub lent_tile : (known : Option (List ℕ)) (start : ℕ) (xs ws : List ℕ) → length ws ≡ length xs → IfSome known (λ b. IsPiece b start ws)
    → IfSome known (λ b. IsPiece b start (refill (length xs) xs ws))
lent_tile known start xs ws e h = subst (λ l. IfSome known (λ b. IsPiece b start l)) (sym (lent_back xs ws e)) h

-- One more item was taken.
pub one_taken : (v w : PassView Request) (r : Request) → Takes v r w → length w.took ≡ length v.took + 1
one_taken v w r t = ap (λ (u : PassView Request). length u.took) t.is ∙ length-append v.took ((t.place, r) ∷ [])

module _ {F : Type 0} (g : FileMeanings F) where
  -- Readings after others are readings.
  pub readings_append : (s : Shape) (d : ℕ) (q p : List Request) (x y : List Loaded) (f m h : F) → AreReadings g s d q x f m
      → AreReadings g s d p y m h → AreReadings g s d (q ++ p) (x ++ y) f h
  readings_append s d [] p [] y f m h e r = subst (λ k. AreReadings g s d p y k h) e r
  readings_append s d [] p (z ∷ x) y f m h none r = absurd none
  readings_append s d (k ∷ q) p [] y f m h none r = absurd none
  readings_append s d (k ∷ q) p (z ∷ x) y f m h e r = (e.0, e.1, readings_append s d q p x y e.0 m h e.2 r)

  -- Nothing was taken yet.
  pub begins : (s : Shape) (d : ℕ) (v : PassView Request) (w : PassView Loaded) (f : F) → Loads g s d v v w w f f
  begins s d v w f = record {
    took = [];
    is = ap (λ l. pass_view v.shares v.known v.put l) (sym (append_nil v.took));
    puts = record { put = []; is = ap (λ l. pass_view w.shares w.known l w.took) (sym (append_nil w.put)); read = refl };
  }

  -- One more request was taken and answered.
  pub more : (s : Shape) (d : ℕ) (v v' v'' : PassView Request) (w w' w'' : PassView Loaded) (f m h : F) (r : Request)
      → Loads g s d v v' w w' f m → Takes v' r v'' → Answers g s d (r ∷ []) w' w'' m h → Loads g s d v v'' w w'' f h
  more s d v v' v'' w w' w'' f m h r l t p =
      let one : List (ℕ × Request) = (t.place, r) ∷ [] in
      let readable : Request → Bool = is_readable s d in
      record {
        took = l.took ++ one;
        is = t.is ∙ ap (λ (u : PassView Request). pass_view u.shares u.known u.put (u.took ++ one)) l.is
            ∙ ap (λ k. pass_view v.shares v.known v.put k) (append_assoc v.took l.took one);
        puts = record {
          put = l.puts.put ++ p.put;
          is = p.is ∙ ap (λ (u : PassView Loaded). pass_view u.shares u.known (u.put ++ p.put) u.took) l.puts.is
              ∙ ap (λ k. pass_view w.shares w.known k w.took) (append_assoc w.put l.puts.put p.put);
          read = let both = readings_append s d (filter readable (items_of l.took)) (filter readable (r ∷ []))
              (items_of l.puts.put) (items_of p.put) f m h l.puts.read p.read in
              let asked : filter readable (items_of l.took) ++ filter readable (r ∷ []) ≡ filter readable (items_of (l.took ++ one))
              = sym (filter-append readable (items_of l.took) (r ∷ []))
              ∙ ap (λ k. filter readable k) (sym (map-append (λ (e : ℕ × Request). e.1) l.took one)) in
              let put : items_of l.puts.put ++ items_of p.put ≡ items_of (l.puts.put ++ p.put)
              = sym (map-append (λ (e : ℕ × Loaded). e.1) l.puts.put p.put) in
              subst (λ k. AreReadings g s d k (items_of (l.puts.put ++ p.put)) f h) asked
              (subst (λ k. AreReadings g s d (filter readable (items_of l.took) ++ filter readable (r ∷ [])) k f h) put both);
        };
      }

  -- Also where shape and depth stand as others that are the same.
  pub more_as : (s s' : Shape) (d d' : ℕ) (v v' v'' : PassView Request) (w w' w'' : PassView Loaded) (f m h : F) (r : Request)
      → s' ≡ s → d' ≡ d
      → Loads g s d v v' w w' f m → Takes v' r v'' → Answers g s' d' (r ∷ []) w' w'' m h → Loads g s d v v'' w w'' f h
  more_as s s' d d' v v' v'' w w' w'' f m h r a b l t p = more s d v v' v'' w w' w'' f m h r l t
      (subst (λ k. Answers g s k (r ∷ []) w' w'' m h) b (subst (λ k. Answers g k d' (r ∷ []) w' w'' m h) a p))

  -- A request that the store cannot read has no result.
  pub dropped : (s : Shape) (d : ℕ) (r : Request) (w : PassView Loaded) (f : F) → is_readable s d r ≡ false
      → Answers g s d (r ∷ []) w w f f
  dropped s d r w f off = record {
    put = [];
    is = ap (λ l. pass_view w.shares w.known l w.took) (sym (append_nil w.put));
    read = let P : Bool → Type 0 = λ b. AreReadings g s d (cond b (r ∷ []) []) [] f f in subst P (sym off) refl;
  }

  -- One that it can read has one.
  pub read_one : (s : Shape) (d : ℕ) (r : Request) (x : Loaded) (w w' : PassView Loaded) (f h : F) → is_readable s d r ≡ true
      → IsReading g s d r x f h → Puts w x w' → Answers g s d (r ∷ []) w w' f h
  read_one s d r x w w' f h on one p = record {
    put = (p.place, x) ∷ [];
    is = p.is;
    read = let P : Bool → Type 0 = λ b. AreReadings g s d (cond b (r ∷ []) []) (x ∷ []) f h in
        subst P (sym on) (h, one, refl);
  }
