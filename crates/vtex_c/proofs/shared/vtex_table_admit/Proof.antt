-- Both are lent to `admit`, each for a lifetime of its own, and come back.
use Rattle.vtex_c.proofs.Steps.{ℕ, [], ◌∷◌, refl, w32, MutBor, proved, full_share, id⊢, Lft, GName, ftrue, flft, flent, named, vptr, fact, tables, Body, ‵, raw, ◌⊛◌, some, later, prop, ◌$◌, ◌∵◌, !, qed, done, move, keep, drop, use1, use2, use3, split, join, fsplit, fjoin, frame, show, pick, await, regoal, suffices, group, lft_new, lft_end, enter, of_opd, addr, stop, no_more, and_then, returns, alloc_all, pass_all, free_all, look_at, get, through, sets, lands_as, u32, yes, Is, shows, lends_ref, ref_back, mem, uint_Lawful, Ptr, RawPtr, block_ptr, lies_at, in_a_block, rawptr_vals, rawptr_Tells, MutRef, owns, types_at, sep, plain, nothing, heard, peeks, calls_at, Lasts, lasts, triple_of, Stays, walk_of, says, stay_dropped, Goes-dropped, ends_at, framed}
use types.Logic.{sem}
use prog.Wp.{WpFn}
use Rattle.vtex_c.specs.Tables.{IsReaderOpened}
use Rattle.vtex_c.specs.contracts.table.TablePlace.{the_row as R}
use Rattle.vtex_c.specs.contracts.reader.ReaderPlace.{the_row as S}
use Rattle.vtex_c.specs.contracts.shared.vtex_table_admit as f
use Rattle.vtex_c.proofs.shared.vtex_table_admit.Statement.{statement}
use Rattle.vtex_c.proofs.shared.vtex_table_admit.Code as code
use Rattle.vtex_c.specs.contracts.table.admit as g
use Rattle.vtex_c.proofs.table.admit.Met.{met}

abbrev stayed : Stays f.ended.signature.params f.ended.kept
stayed = (stay_dropped _ yes, (stay_dropped _ yes, tt))

pub vtex_table_admit_spec : {M : Type 1} → statement M
vtex_table_admit_spec 𝓤 𝓛 𝓜 𝓡 wired =
    let c = f.clauses 𝓛 𝓜.mem 𝓡.returns in let W = walk_of 𝓛 f.ended stayed c in let 𝓣 = tables 𝓤 𝓛.H 𝓜 𝓡 𝓡.env in
    let goes = Goes-dropped 𝓛 0 (plain (λ _. RawPtr)) yes (λ κs x w. refl) in
    proved 𝓛 f.ended stayed c 𝓜 𝓡 (goes, (goes, tt))
    f.Key.name code.function (code.unfolded 𝓤 𝓛.H 𝓜 𝓡 wired)
    (λ κs. (rawptr_vals, (rawptr_vals, tt))) (λ κs. (rawptr_Tells, (rawptr_Tells, tt))) (λ κs qs bounds a x are.
    let y : Ptr → Ptr → W.Ghost = λ p q. ((κs, qs, bounds, (p, (q, tt)), (rawptr_vals p, (rawptr_vals q, tt))), x) in
    let toks = ‵ ftrue in
    qed 𝓛 ((toks ⊛ ‵ (owns (types_at f.signature.params κs) a (y a.0 a.1.0).0.4)) ∷ ‵ (lies_at R full_share a.0 x.0) ∷ ‵ (lies_at S full_share a.1.0 x.1) ∷ []) ∵
    split ! $ move ! (1 ∷ []) $ fsplit ! $ drop ! $ fsplit ! $ drop ! $ move ! (2 ∷ []) $
    in_a_block ! a.0 (λ p. lies_at R full_share p x.0) (id⊢ 𝓤 _) (λ b o e.
    regoal ! (λ p. prop (WpFn 𝓤 𝓛.H 𝓣.C 𝓣.Λ code.function (W.args (y p a.1.0)) (W.post (y p a.1.0)))) e refl $
    move ! (3 ∷ []) $
    in_a_block ! a.1.0 (λ p. lies_at S full_share p x.1) (id⊢ 𝓤 _) (λ b' o' e'.
    regoal ! (λ p. prop (WpFn 𝓤 𝓛.H 𝓣.C 𝓣.Λ code.function (W.args (y (block_ptr b o) p)) (W.post (y (block_ptr b o) p)))) e' refl $
    -- [the second cell; the first; the other parameters; the tokens]
    enter ! _ _ _ _ _ $ alloc_all ! (λ l. pass_all ! refl ((tt, tt), ((tt, tt), tt)) $
    sets ! (of_opd ! (get ! refl)) refl (tt, tt) $
    sets ! (addr ! (through ! refl (stop !))) refl (tt, tt) $
    sets ! (of_opd ! (get ! refl)) refl (tt, tt) $
    sets ! (addr ! (through ! refl (stop !))) refl (tt, tt) $
    lft_new ! tt (λ α. let κ : Lft = α ∷ [] in move ! (2 ∷ []) $
    use1 𝓛 (later (some (λ (γ : GName). ‵ ((MutRef (named 0) κ R).own_val (record { ref_ptr = (b, o); ghost_name = γ; now = x.0 }) (vptr b o ∷ [])) ⊛ ‵ (flent κ (Body (mem R) b o γ)))))
    (lends_ref 𝓛 R (named 0) κ x.0 b o) $ await ! tt $ pick ! (λ γ. split ! $
    -- [the first loan; its lender's part; its token; the second cell; the others; the tokens]
    lft_new ! tt (λ β. let ρ : Lft = β ∷ [] in move ! (4 ∷ []) $
    use1 𝓛 (later (some (λ (δ : GName). ‵ ((MutRef (named 1) ρ S).own_val (record { ref_ptr = (b', o'); ghost_name = δ; now = x.1 }) (vptr b' o' ∷ [])) ⊛ ‵ (flent ρ (Body (mem S) b' o' δ)))))
    (lends_ref 𝓛 S (named 1) ρ x.1 b' o') $ await ! tt $ pick ! (λ δ. split ! $
    -- [the second loan; its lender's part; its token; the first loan; its lender's part; its token; the others; the tokens]
    let G = triple_of 𝓛 g.signature (g.spec 𝓛 𝓜.mem 𝓡.returns) in
    let m : MutBor R.Denot = record { ref_ptr = (b, o); ghost_name = γ; now = x.0 } in
    let n : MutBor S.Denot = record { ref_ptr = (b', o'); ghost_name = δ; now = x.1 } in
    let z : G.Ghost = (((κ, (ρ, tt)), (full_share, (full_share, tt)), tt, (m, (n, tt)), (vptr b o ∷ [], (vptr b' o' ∷ [], tt))), tt) in
    move ! (0 ∷ 6 ∷ []) $ fjoin ! $ move ! (3 ∷ 0 ∷ []) $ fjoin ! $
    -- [both loans; the second lender's part; its token; the first lender's part; its token; the tokens]
    move ! (2 ∷ 5 ∷ []) $ join ! $ move ! (4 ∷ 0 ∷ []) $ join ! $ join ! $ nothing ! $ move ! (1 ∷ 0 ∷ []) $ use2 𝓛 (raw (G.pre z)) (id⊢ 𝓤 _) $
    calls_at ! (framed 𝓤 𝓛.H 𝓜 (tables 𝓤 𝓛.H 𝓜 𝓡 𝓡.env)) G (met 𝓤 𝓛 𝓜 𝓡 (code.calls-vtex_c::table::admit 𝓡.env wired)) z
    (and_then ! (get ! refl) (and_then ! (get ! refl) (no_more !))) (λ v.
    use1 𝓛 (later (some (λ (u : ℕ). ((‵ (flft κ full_share) ⊛ ‵ (flft ρ full_share) ⊛ toks) ⊛ ‵ (u32.own_val u (v ∷ []))) ⊛
    some (λ (ws : Lasts g.ended z.0.0 z.0.3). ‵ (lasts g.ended z.0.0 z.0.3 ws) ⊛ raw (fact 𝓤 (IsReaderOpened x.0 x.1 u ws.0 ws.1.0)))))) (id⊢ 𝓤 _) $
    await ! tt $ pick ! (λ u. split ! $ split ! $ split ! $ lft_end ! tt $ move ! (1 ∷ []) $ split ! $ lft_end ! tt $
    -- [the second is over; the tokens; the first is over; the result; its last values; the second lender's part; the first lender's part]
    move ! (3 ∷ []) $ peeks ! u32 (Is u32) (shows 𝓛 u32) u (v ∷ []) (λ is. lands_as ! refl refl ((uint_Lawful 𝓛 w32).typed u _ is).0 $
    move ! (4 ∷ []) $ pick ! (λ ws. split ! $ move ! (1 ∷ []) $ heard ! _ (λ told. fsplit ! $ fsplit ! $ move ! (2 ∷ []) $ fsplit ! $ fsplit ! $
    -- [the second's last value; its borrow; the others'; the first's last value; its borrow; the result; the second is over; the tokens; the first is over; the second lender's part; the first's]
    move ! (6 ∷ 9 ∷ 0 ∷ []) $ use3 𝓛 (later (‵ ((mem S).own_at ws.1.0 b' o'))) (ref_back 𝓛 S ρ δ ws.1.0 b' o') $ await ! tt $
    -- [the second cell; its borrow; the others'; the first's last value; its borrow; the result; the tokens; the first is over; the first lender's part]
    move ! (7 ∷ 8 ∷ 3 ∷ []) $ use3 𝓛 (later (‵ ((mem R).own_at ws.0 b o))) (ref_back 𝓛 R κ γ ws.0 b o) $ await ! tt $
    -- [the first cell; the second cell; its borrow; the others'; the first's borrow; the result; the tokens]
    returns ! (look_at ! 0 refl) $ free_all ! refl $
    suffices ! _ (ends_at 𝓛 f.ended stayed c (y (block_ptr b o) (block_ptr b' o')) v u (tt, (tt, tt)) (tt, (tt, tt))) $
    keep ! (3 ∷ 6 ∷ 5 ∷ 0 ∷ 1 ∷ []) $ nothing ! $ fjoin ! $ nothing ! $ fjoin ! $ move ! (1 ∷ 0 ∷ []) $ group ! 3 $ frame ! $
    show ! (λ (d : R.Denot × S.Denot). sep 𝓤 (sem 𝓛 (lies_at R full_share (block_ptr b o) d.0)) (sep 𝓤 (sem 𝓛 (lies_at S full_share (block_ptr b' o') d.1)) (fact 𝓤 (IsReaderOpened x.0 x.1 u d.0 d.1)))) (ws.0, ws.1.0) $
    frame ! $ says ! told $ done !)))))))))))))
