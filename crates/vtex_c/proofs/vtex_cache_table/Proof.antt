-- The cache is lent to `table` for a lifetime of its own, and comes back.
use Rattle.vtex_c.proofs.Steps.{ℕ, List, [], ◌∷◌, refl, w32, MutBor, proved, full_share, id⊢, Lft, GName, ftrue, flft, flent, named, Val, vptr, fact, tables, Body, ‵, raw, ◌⊛◌, some, later, prop, ◌$◌, ◌∵◌, !, qed, done, move, keep, drop, use1, use2, use3, split, join, fsplit, fjoin, frame, show, pick, await, regoal, suffices, group, lft_new, lft_end, enter, of_opd, addr, from, fld, hop, stop, no_more, and_then, returns, agg, sub, whole, look_in_at, get_in, alloc_all, pass_all, free_all, look_at, get, through, sets, lands_as, u32, yes, Is, shows, lends_ref, ref_back, mem, uint_Lawful, uint_vals, uint_Tells, Ptr, RawPtr, block_ptr, lies_at, in_a_block, rawptr_vals, rawptr_Tells, MutRef, mut_slice_vals, mut_slice_Tells, owns, types_at, sep, plain, nothing, heard, peeks, calls_at, Lasts, lasts, triple_of, Stays, walk_of, says, stay_dropped, Goes-dropped, gave_slice, Goes-gave_slice, ends_at, framed}
use types.Logic.{sem}
use prog.Wp.{WpFn}
use Rattle.vtex_c.specs.Caches.{IsLevelListed}
use Rattle.vtex_c.specs.contracts.cache.Cache.{the_row as R}
use Rattle.vtex_c.specs.contracts.vtex_cache_table as f
use Rattle.vtex_c.proofs.vtex_cache_table.Statement.{statement}
use Rattle.vtex_c.proofs.vtex_cache_table.Code as code
use Rattle.vtex_c.specs.contracts.cache.table as g
use Rattle.vtex_c.proofs.cache.table.Met.{met}

abbrev stayed : Stays f.ended.signature.params f.ended.kept
stayed = (stay_dropped _ yes, (stay_dropped _ yes, (gave_slice (0 ∷ []) tt (plain (λ _. u32)), tt)))

pub vtex_cache_table_spec : {M : Type 1} → statement M
vtex_cache_table_spec 𝓤 𝓛 𝓜 𝓡 wired =
    let c = f.clauses 𝓛 𝓜.mem 𝓡.returns in let W = walk_of 𝓛 f.ended stayed c in let 𝓣 = tables 𝓤 𝓛.H 𝓜 𝓡 𝓡.env in
    proved 𝓛 f.ended stayed c 𝓜 𝓡 (Goes-dropped 𝓛 1 (plain (λ _. RawPtr)) yes (λ κs x w. refl), (Goes-dropped 𝓛 1 (plain (λ _. u32)) yes (λ κs x w. refl), (Goes-gave_slice 𝓛 1 0 tt (plain (λ _. u32)), tt)))
    f.Key.name code.function (code.unfolded 𝓤 𝓛.H 𝓜 𝓡 wired)
    (λ κs. (rawptr_vals, (uint_vals w32, (mut_slice_vals, tt)))) (λ κs. (rawptr_Tells, (uint_Tells w32, (mut_slice_Tells (named 0) κs.0 u32, tt)))) (λ κs qs bounds a x are.
    let rest : (List Val × (List Val × Unit {0})) = (uint_vals w32 a.1.0, (mut_slice_vals a.1.1.0, tt)) in
    let y : Ptr → W.Ghost = λ p. ((κs, qs, bounds, (p, a.1), (rawptr_vals p, rest)), x) in
    let toks = ‵ (flft κs.0 qs.0) ⊛ ‵ ftrue in
    qed 𝓛 ((toks ⊛ ‵ (owns (types_at f.signature.params κs) a (y a.0).0.4)) ∷ ‵ (lies_at R full_share a.0 x) ∷ []) ∵
    split ! $ move ! (1 ∷ []) $ fsplit ! $ drop ! $ move ! (2 ∷ []) $
    in_a_block ! a.0 (λ p. lies_at R full_share p x) (id⊢ 𝓤 _) (λ b o e.
    regoal ! (λ p. prop (WpFn 𝓤 𝓛.H 𝓣.C 𝓣.Λ code.function (W.args (y p)) (W.post (y p)))) e refl $
    enter ! _ _ _ _ _ $ alloc_all ! (λ l. pass_all ! refl ((tt, tt), ((tt, record { fits = are.1.0.1 }), ((tt, (tt, (record { fits = are.1.1.0.0.1.0 }, tt))), tt))) $
    sets ! (of_opd ! (get ! refl)) refl (tt, tt) $
    sets ! (addr ! (through ! refl (stop !))) refl (tt, tt) $
    sets ! (addr ! (from ! (fld ! refl (hop ! (look_in_at ! 3 (sub ! 0 refl (whole !))) (stop !))))) refl (tt, tt) $
    sets ! (agg ! (and_then ! (get ! refl) (and_then ! (get_in ! (fld ! refl (stop !)) (sub ! 1 refl (whole !))) (no_more !)))) refl (tt, (tt, (record { fits = are.1.1.0.0.1.0 }, tt))) $
    -- [the cache; the other parameters; the tokens]
    lft_new ! tt (λ α. let κ : Lft = α ∷ [] in move ! (1 ∷ 0 ∷ []) $
    use1 𝓛 (later (some (λ (γ : GName). ‵ ((MutRef (named 0) κ R).own_val (record { ref_ptr = (b, o); ghost_name = γ; now = x }) (vptr b o ∷ [])) ⊛ ‵ (flent κ (Body (mem R) b o γ)))))
    (lends_ref 𝓛 R (named 0) κ x b o) $ await ! tt $ pick ! (λ γ. split ! $
    -- [the loan; the lender's part; its token; the other parameters; the tokens]
    let G = triple_of 𝓛 g.signature (g.spec 𝓛 𝓜.mem 𝓡.returns) in
    let m : MutBor R.Denot = record { ref_ptr = (b, o); ghost_name = γ; now = x } in
    let z : G.Ghost = (((κ, κs), (full_share, qs), tt, (m, a.1), (vptr b o ∷ [], rest)), tt) in
    move ! (0 ∷ 3 ∷ []) $ fjoin ! $ move ! (2 ∷ 3 ∷ []) $ join ! $ join ! $ nothing ! $ move ! (1 ∷ 0 ∷ []) $ use2 𝓛 (raw (G.pre z)) (id⊢ 𝓤 _) $
    calls_at ! (framed 𝓤 𝓛.H 𝓜 (tables 𝓤 𝓛.H 𝓜 𝓡 𝓡.env)) G (met 𝓤 𝓛 𝓜 𝓡 (code.calls-vtex_c::cache::table 𝓡.env wired)) z
    (and_then ! (get ! refl) (and_then ! (get ! refl) (and_then ! (get ! refl) (no_more !)))) (λ v.
    use1 𝓛 (later (some (λ (u : ℕ). ((‵ (flft κ full_share) ⊛ toks) ⊛ ‵ (u32.own_val u (v ∷ []))) ⊛
    some (λ (ws : Lasts g.ended z.0.0 z.0.3). ‵ (lasts g.ended z.0.0 z.0.3 ws) ⊛ raw (fact 𝓤 (IsLevelListed x a.1.0 a.1.1.0.now u ws.1.1.0 ws.0)))))) (id⊢ 𝓤 _) $
    await ! tt $ pick ! (λ u. split ! $ split ! $ split ! $ lft_end ! tt $
    -- [over; the tokens; the result; its last values; the lender's part]
    move ! (2 ∷ []) $ peeks ! u32 (Is u32) (shows 𝓛 u32) u (v ∷ []) (λ is. lands_as ! refl refl ((uint_Lawful 𝓛 w32).typed u _ is).0 $
    move ! (3 ∷ []) $ pick ! (λ ws. split ! $ move ! (1 ∷ []) $ heard ! _ (λ told. fsplit ! $ fsplit ! $
    -- [its last value; its borrow; the others'; the result; over; the tokens; the lender's part]
    move ! (4 ∷ 6 ∷ 0 ∷ []) $ use3 𝓛 (later (‵ ((mem R).own_at ws.0 b o))) (ref_back 𝓛 R κ γ ws.0 b o) $ await ! tt $
    -- [the cache; its borrow; the others'; the result; the tokens]
    returns ! (look_at ! 0 refl) $ free_all ! refl $
    suffices ! _ (ends_at 𝓛 f.ended stayed c (y (block_ptr b o)) v u (tt, ws.1) (tt, (tt, (told.long, tt)))) $
    move ! (2 ∷ []) $ fsplit ! $ move ! (1 ∷ []) $ fsplit ! $ fsplit ! $ fsplit ! $
    -- [what says the slice's last value; its length; its borrow; nothing; the number's; the cache; its borrow; the result; the tokens]
    move ! (0 ∷ 2 ∷ []) $ fjoin ! $ move ! (0 ∷ 2 ∷ []) $ fjoin ! $ move ! (2 ∷ 0 ∷ []) $ fjoin ! $ nothing ! $ fjoin ! $
    keep ! (5 ∷ 0 ∷ 4 ∷ 2 ∷ []) $ group ! 3 $ frame ! $
    show ! (λ d. sep 𝓤 (sem 𝓛 (lies_at R full_share (block_ptr b o) d)) (fact 𝓤 (IsLevelListed x a.1.0 a.1.1.0.now u ws.1.1.0 d))) ws.0 $ says ! told $ done !))))))))))
