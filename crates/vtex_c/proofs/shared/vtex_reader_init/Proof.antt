-- The place becomes what `empty` made.
use Rattle.vtex_c.proofs.Steps.{◌≡◌, List, [], ◌∷◌, refl, proved, full_share, id⊢, ftrue, Val, vunit, fact, tables, ‵, raw, ◌⊛◌, some, later, prop, ◌$◌, ◌∵◌, !, qed, done, move, keep, drop, use1, use2, split, join, fsplit, rewrite, feq_i, pick, await, regoal, suffices, group, enter, of_opd, unit_lit, stop, init, assigns, no_more, and_then, returns, alloc_all, pass_all, free_all, look_at, get, through, sets, lands_as, yes, Is, shows, Ptr, RawPtr, block_ptr, room_at, in_a_block, rawptr_vals, rawptr_Tells, owns, types_at, plain, nothing, heard, peeks, calls_at, Lasts, lasts, triple_of, Stays, walk_of, stay_dropped, Goes-dropped, ends_at, framed, part_in, part_at}
use prog.Wp.{WpFn}
use Rattle.std.specs.Prelude.{None}
use Rattle.std.specs.contracts.alloc.Global as heap
use Rattle.std.proofs.alloc.Global.TheLaws as heap_laws
use Rattle.vtex_c.specs.contracts.reader.ReaderPlace.{the_row as R}
use Rattle.vtex_c.proofs.reader.ReaderPlace.TheLaws as cell_laws
use Rattle.vtex_c.specs.contracts.shared.vtex_reader_init as f
use Rattle.vtex_c.proofs.shared.vtex_reader_init.Statement.{statement}
use Rattle.vtex_c.proofs.shared.vtex_reader_init.Code as code
use Rattle.vtex_c.specs.contracts.reader.empty as g
use Rattle.vtex_c.proofs.reader.empty.Met.{met}

abbrev stayed : Stays f.ended.signature.params f.ended.kept
stayed = (stay_dropped _ yes, (stay_dropped _ yes, tt))

pub vtex_reader_init_spec : {M : Type 1} → statement M
vtex_reader_init_spec 𝓤 𝓛 𝓜 𝓡 wired =
    let c = f.clauses 𝓛 𝓜.mem 𝓡.returns in let W = walk_of 𝓛 f.ended stayed c in let 𝓣 = tables 𝓤 𝓛.H 𝓜 𝓡 𝓡.env in
    proved 𝓛 f.ended stayed c 𝓜 𝓡 (Goes-dropped 𝓛 0 (plain (λ _. RawPtr)) yes (λ κs x w. refl), (Goes-dropped 𝓛 0 (plain (λ _. heap.the_row)) yes (λ κs x w. refl), tt))
    f.Key.name code.function (code.unfolded 𝓤 𝓛.H 𝓜 𝓡 wired)
    (λ κs. (rawptr_vals, ((λ h. heap_laws.lowers.lowered h ∷ []), tt))) (λ κs. (rawptr_Tells, (heap_laws.lowers.val_is, tt))) (λ κs qs bounds a x are.
    let h = a.1.0 in let w : Val = heap_laws.lowers.lowered h in
    let rest : List Val × Unit {0} = (w ∷ [], tt) in
    let y : Ptr → W.Ghost = λ p. ((κs, qs, bounds, (p, a.1), (rawptr_vals p, rest)), x) in
    let wt = ((heap_laws.the_row_laws.lawful 𝓛).typed h (w ∷ []) are.1.0).0 in
    qed 𝓛 ((‵ ftrue ⊛ ‵ (owns (types_at f.signature.params κs) a (y a.0).0.4)) ∷ ‵ (room_at R a.0) ∷ []) ∵
    split ! $ move ! (1 ∷ []) $ fsplit ! $ drop ! $ move ! (2 ∷ []) $
    in_a_block ! a.0 (λ p. room_at R p) (id⊢ 𝓤 _) (λ b o e.
    regoal ! (λ p. prop (WpFn 𝓤 𝓛.H 𝓣.C 𝓣.Λ code.function (W.args (y p)) (W.post (y p)))) e refl $
    enter ! _ _ _ _ _ $ alloc_all ! (λ l. pass_all ! refl ((tt, tt), (wt, tt)) $
    sets ! (of_opd ! (get ! refl)) refl (tt, tt) $
    -- [the room; the allocator; nothing]
    let G = triple_of 𝓛 g.signature (g.spec 𝓛 𝓜.mem 𝓡.returns) in
    let z : G.Ghost = ((κs, qs, bounds, a.1, rest), tt) in
    move ! (2 ∷ 1 ∷ []) $ join ! $ nothing ! $ move ! (1 ∷ 0 ∷ []) $ use2 𝓛 (raw (G.pre z)) (id⊢ 𝓤 _) $
    calls_at ! (framed 𝓤 𝓛.H 𝓜 (tables 𝓤 𝓛.H 𝓜 𝓡 𝓡.env)) G (met 𝓤 𝓛 𝓜 𝓡 (code.calls-vtex_c::reader::empty 𝓡.env wired)) z
    (and_then ! (get ! refl) (no_more !)) (λ v.
    use1 𝓛 (later (some (λ (r : R.Denot). (‵ ftrue ⊛ ‵ (R.own_val r (v ∷ []))) ⊛
    some (λ (ws : Lasts g.ended z.0.0 z.0.3). ‵ (lasts g.ended z.0.0 z.0.3 ws) ⊛ raw (fact 𝓤 (r ≡ record { inner = None })))))) (id⊢ 𝓤 _) $
    await ! tt $ pick ! (λ r. split ! $ split ! $ drop ! $ peeks ! R (Is R) (shows 𝓛 R) r (v ∷ []) (λ is.
    let typed = ((cell_laws.the_row_laws.lawful 𝓛).typed r (v ∷ []) is).0 in
    lands_as ! refl refl typed $
    move ! (1 ∷ []) $ pick ! (λ ws. split ! $ drop ! $ heard ! _ (λ made.
    -- [the value; the room]
    assigns ! (of_opd ! (get ! refl)) (through ! refl (stop !)) (init ! 1 refl typed) $
    move ! (1 ∷ 0 ∷ []) $ use2 𝓛 (‵ (part_at R full_share r b o)) (part_in 𝓛 R refl full_share r b o v) $
    rewrite ! 0 (λ (u : R.Denot). ‵ (part_at R full_share u b o)) made refl $
    sets ! (of_opd ! (unit_lit !)) refl (tt, tt) $
    returns ! (look_at ! 0 refl) $ free_all ! refl $
    suffices ! _ (ends_at 𝓛 f.ended stayed c (y (block_ptr b o)) vunit tt (tt, (tt, tt)) (tt, (tt, tt))) $
    keep ! (0 ∷ []) $ feq_i ! _ (vunit ∷ []) _ refl $ nothing ! $ nothing ! $ join ! $ nothing ! $ join ! $ nothing ! $ group ! 3 $ done !))))))))
