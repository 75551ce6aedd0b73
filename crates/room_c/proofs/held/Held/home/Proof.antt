-- `home` reads the pointer, and shares the room behind it for as long as the pointer is borrowed.
use mathlib.Core.Path.{◌≡◌, refl, sym}
use Rattle.std.specs.Prelude.{Option, Some, is_some, true, ⊤}
use Prim.Native.Nat.{ℕ}
use mathlib.Core.List.{List, [], ◌∷◌}
use mathlib.Core.Option.{none}
use seplogic.Ra.Ura.{Ura}
use base.Fraction.{full_share}
use mir.Syntax.{named}
use mir.Val.{Val, vptr}
use base.Logic.{SProp, ent, sep, id⊢}
use base.Fml.{Lft, GName, Share, Fml, Incl-refl, ftrue, flft, fsep, fobs, fbor, fres}
use ghost.Rules.{Toks}
use prog.Memory.{Memory}
use prog.Routine.{Routine}
use prog.Wp.{Env, Calls, Loops, WpFn, Tables}
use types.Logic.{Logic, sem}
use contract.BorrowLft.{⊑_static}
use contract.Monad.{Fun, fact}
use contract.Running.{tables, tables_of}
use sound.WpLaws.{WpFn-mono}
use types.Kit.{‵, ◌⊛◌, some, at_ret, ◌$◌, ◌∵◌, !, qed, by, move, keep, use1, use2, use3, drop, split, split3, join, pick, fsplit, fsplit3, fjoin, feq_i, rewrite, suffices, frame, done, raw, later, await, group, fpack}
use types.Tokens.{name_done}
use types.Part.{whole, sub, look_in}
use types.Run.{stop, fld, load, of_opd, first, blocks, exec, returns, enter, addr}
use types.ByLocal.{alloc_all, pass_all, free_all, look_at, get, through, sets, env, sets_last}
use denote.Exit.{no}
use denote.Follow.{follows, follows_so, such_by, follows_by, followed, Part, lends_Part}
use denote.Memory.{part_at, mem, cell_at, part_of, shared_of, hidden_shr}
use denote.Opens.{hide}
use denote.Shares.{settles}
use denote.RattleType.{RattleType, owns}
use denote.RawPtr.{block_ptr}
use denote.Ref.{MutBor, MutRef, mut_vals, mut_Tells}
use denote.Signature.{plain, mut_ref_to}
use denote.Steps.{heard, nothing, opens}
use denote.Triple.Entry.{on_entry}
use denote.Triple.Spec.{Meets, triple_of}
use denote.Triple.Table.{entered}
use denote.Triple.Walked.{says, Stays, stay_dropped, walk_of, ends_at, walked, walk_Meets, Goes-spent_ref}
use mir.Raw.{raw as bare}
use Rattle.std.proofs.alloc.Calls.{token}
use Rattle.std.proofs.BoxSteps.Form.{D, B, word, handle, τ}
use Rattle.std.proofs.BoxSteps.Steps.{box_out, box_in}
use Rattle.room_c.proofs.home.Home.TheLaws.{the_row_laws as home}
use Rattle.room_c.proofs.AsBox.{E}
use Rattle.room_c.proofs.Somes.{inside, is-inside}
use Rattle.room_c.specs.contracts.home.Home as Home
use Rattle.room_c.specs.contracts.held.Held as Held
use Rattle.room_c.specs.contracts.held.Held.home as F
use Rattle.room_c.specs.contracts.held.Held.home.Key.{name as #self}
use Rattle.room_c.proofs.held.Held.home.Statement as stated
use Rattle.room_c.proofs.held.Held.home.Code as code

abbrev From : RattleType
From = Held.the_row

abbrev To : RattleType
To = Home.the_row

abbrev stayed : Stays (F.ended).signature.params (F.ended).kept
stayed = (stay_dropped (mut_ref_to (0 ∷ []) tt (plain (λ _. From))) no, tt)

module _ {M : Type 1} {𝓤 : Ura M} (𝓛 : Logic 𝓤) (at_mem : Memory → SProp 𝓤) (run : Routine → Fun 𝓤) where
  open 𝓛 use {H, A}

  module _ (κ : Lft) (q : Share) (rb ro : ℕ) (γ : GName) (h : From.Denot) where
    abbrev self : MutBor From.Denot
    self = record { ref_ptr = (rb, ro); ghost_name = γ; now = h }

    abbrev bound : (walk_of 𝓛 F.ended stayed (F.clauses 𝓛 at_mem run)).Ghost
    bound = (((κ, tt), (q, tt), tt, (self, tt), (vptr rb ro ∷ [], tt)), tt)

    abbrev Post : Val → SProp 𝓤
    Post = (walk_of 𝓛 F.ended stayed (F.clauses 𝓛 at_mem run)).post bound

    -- the same pointer, with this room behind it
    abbrev with_home : To.Denot → From.Denot
    with_home w = record { at = h.at; alloc = h.alloc; home = Some w }

    abbrev box_of : To.Denot → D E
    box_of w = record { ptr = h.at; alloc = h.alloc; value = w }

    module _ (b o : ℕ) (hv : Val) where
      -- all of the pointer but the room
      abbrev Rest : Fml
      Rest = fsep (fsep (token E.al h.alloc (bare (τ E)) (block_ptr b o)) (handle E h.alloc hv)) (cell_at full_share From.mir (word E hv b o ∷ []) rb ro)

      back : h.at ≡ block_ptr b o → (w : To.Denot) → ent 𝓤 (sep 𝓤 (sem 𝓛 ((mem To).own_at w b o)) (sem 𝓛 Rest)) (sem 𝓛 ((mem From).own_at (with_home w) rb ro))
      unfolding part_of
      back at_b w =
          qed 𝓛 (‵ (part_at To full_share w b o) ∷ ‵ Rest ∷ []) ∵ move ! (1 ∷ []) $ fsplit ! $ fsplit ! $ move ! (3 ∷ []) $
          box_in E ! (box_of w) b o w at_b refl $ use1 𝓛 (‵ (From.own_val (with_home w) (word E hv b o ∷ []))) (id⊢ 𝓤 _) $ move ! (1 ∷ 0 ∷ []) $ fjoin ! $
          fpack ! (List Val) (λ us. fsep (cell_at full_share From.mir us rb ro) (From.own_val (with_home w) us)) (word E hv b o ∷ []) $ done !

    abbrev ts : Toks
    ts = (κ, q) ∷ []

    Keeps : Fml
    Keeps = follows_so From From γ none (λ _ _. ⊤) (λ after. after ≡ h)

    kept : ent 𝓤 (A.res γ (From.coded.code h)) (sem 𝓛 Keeps)
    unfolding Keeps such_by follows_by
    kept =
        let D = From.Denot in
        qed 𝓛 (‵ (fres γ (From.coded.code h)) ∷ []) ∵
        fpack ! ((s : (D → D) × D) × ((w : D) → ⊤) × (s.1 ≡ h)) (λ s. follows_by D D From.coded.code From.coded.code γ none s.0.0 s.0.1) (((λ w. w), h), (λ w. tt), refl) $ done !

    exits : (b o : ℕ) (x : To.Denot) → h.home ≡ Some x → ent 𝓤 (sep 𝓤 (sem 𝓛 (hidden_shr To κ x b o)) (sep 𝓤 (A.lft κ q) (sem 𝓛 Keeps))) (Post (vptr b o))
    unfolding Keeps
    exits b o x is =
        qed 𝓛 (‵ (hidden_shr To κ x b o) ∷ ‵ (flft κ q) ∷ ‵ Keeps ∷ []) ∵
        suffices ! _ (ends_at 𝓛 F.ended stayed (F.clauses 𝓛 at_mem run) bound (vptr b o) (record { ref_ptr = (b, o); now = x }) (tt, tt) (tt, tt)) $
        feq_i ! (List Val) (vptr b o ∷ []) (vptr b o ∷ []) refl $ fjoin ! $
        nothing ! $ nothing ! $ fjoin ! $ join ! $ nothing ! $ move ! (2 ∷ 0 ∷ []) $ join ! $ join ! $ frame ! $ says ! (sym is) $ done !

    module _ (C : Calls 𝓤 H) (Λ : Loops 𝓤 H) where
      walk : ent 𝓤 (sep 𝓤 (on_entry 𝓛 F.signature (κ, tt) (q, tt) (self, tt) (vptr rb ro ∷ [], tt)) (fact 𝓤 (is_some h.home ≡ true))) (WpFn 𝓤 H C Λ code.function (vptr rb ro ∷ []) Post)
      walk =
          qed 𝓛 (((‵ (flft κ q) ⊛ ‵ ftrue) ⊛ ‵ (owns (MutRef (named 0) κ From ∷ []) (self, tt) (vptr rb ro ∷ [], tt))) ∷ raw (fact 𝓤 (is_some h.home ≡ true)) ∷ []) ∵
          move ! (1 ∷ []) $ heard ! (is_some h.home ≡ true) (λ there. split ! $
          let x = inside h.home there in
          let is : h.home ≡ Some x = is-inside h.home there in
          enter ! C Λ code.function (vptr rb ro ∷ []) _ $
          alloc_all ! (λ l. pass_all ! refl ((tt, tt), tt) $
          let En : Env 𝓤 H = env code.function.locals l in
          move ! (1 ∷ []) $ fsplit ! $ fsplit3 ! $ drop ! $ move ! (3 ∷ []) $ split ! $ move ! (2 ∷ 3 ∷ 0 ∷ []) $
          opens ! tt From {h = h} rb ro (λ vs. move ! (1 ∷ []) $
          rewrite ! 0 (λ (r : Option To.Denot). ‵ (From.own_val (record { at = h.at; alloc = h.alloc; home = r }) vs)) is refl $ use1 𝓛 (‵ ((B E).own_val (box_of x) vs)) (id⊢ 𝓤 _) $
          box_out E ! (box_of x) vs (λ b o hv at_b ws fa. move ! (1 ∷ 2 ∷ []) $ fjoin ! $ move ! (1 ∷ []) $
          rewrite ! 2 (λ (us : List Val). ‵ (cell_at full_share From.mir us rb ro)) ws refl $
          first ! $ blocks ! $
          sets ! (of_opd ! (load ! (through ! refl (fld ! refl (stop !))) (look_in ! 2 (sub ! 0 refl (whole !))))) refl (tt, tt) $
          sets ! (of_opd ! (get ! refl)) refl (tt, tt) $
          sets_last ! (addr ! (through ! refl (stop !))) refl (tt, tt) $
          exec ! C Λ En code.Mir.t-2 (at_ret En Post) $
          sets ! (of_opd ! (get ! refl)) refl (tt, tt) $
          move ! (1 ∷ 2 ∷ []) $ fjoin ! $ move ! (2 ∷ 3 ∷ 4 ∷ 1 ∷ 0 ∷ []) $ group ! 5 $
          use1 𝓛 (later (some (λ (γ' : GName). raw (Part 𝓛 From To with_home (named 0) κ q rb ro b o γ (sem 𝓛 (Rest b o hv)) (back b o hv at_b) x γ'))))
          (lends_Part 𝓛 From To with_home (named 0) κ q rb ro b o γ (sem 𝓛 (Rest b o hv)) (back b o hv at_b) (From.coded.code h) (From.coded.code h) x) $ await ! tt $ pick ! (λ γ'.
          use1 𝓛 (‵ ((MutRef (named 0) κ To).own_val (record { ref_ptr = (b, o); ghost_name = γ'; now = x }) (vptr b o ∷ [])) ⊛ (‵ (flft κ q) ⊛ ‵ (follows From To γ γ' with_home))) (id⊢ 𝓤 _) $ split3 ! $ fsplit3 ! $ drop ! $
          -- [obs; the borrow of the room; the token; follows; the locals]
          use3 𝓛 (later (‵ (fobs γ' (To.coded.code x)) ⊛ (‵ (fbor κ (part_at To full_share x b o)) ⊛ ‵ (flft κ q)))) (settles 𝓛 (mem To) κ ts (Incl-refl κ) γ' x b o) $ await ! tt $ split3 ! $
          name_done ! tt $ move ! (3 ∷ 0 ∷ []) $ use2 𝓛 (‵ (fres γ (From.coded.code (with_home x)))) (followed 𝓛 From To with_home γ γ' x) $
          rewrite ! 0 (λ (r : Option To.Denot). ‵ (fres γ (From.coded.code (record { at = h.at; alloc = h.alloc; home = r })))) (sym is) refl $ use1 𝓛 (‵ Keeps) kept $
          move ! (1 ∷ 2 ∷ []) $ use2 𝓛 (later (‵ (shared_of To x b o κ) ⊛ ‵ (flft κ q))) (home.shares 𝓛 x κ ts b o (⊑_static κ) (Incl-refl κ)) $ await ! tt $ split ! $ hide ! $
          returns ! (look_at ! 0 refl) $ free_all ! refl $ keep ! (0 ∷ 1 ∷ 2 ∷ []) $ by ! (exits b o x is))))))

  meets : (𝓣 : Tables 𝓤 H) → Meets 𝓛 F.signature (WpFn 𝓤 H 𝓣.C 𝓣.Λ code.function) (F.spec 𝓛 at_mem run)
  meets 𝓣 =
      walk_Meets 𝓛 F.ended stayed (Goes-spent_ref 𝓛 1 (0 ∷ []) tt (plain (λ _. From)), tt) (F.clauses 𝓛 at_mem run) (WpFn 𝓤 H 𝓣.C 𝓣.Λ code.function) (WpFn-mono 𝓤 H 𝓛.laws 𝓣 code.function)
      (walked 𝓛 F.ended stayed (F.clauses 𝓛 at_mem run) (WpFn 𝓤 H 𝓣.C 𝓣.Λ code.function) (λ κs. (mut_vals, tt)) (λ κs. (mut_Tells (named 0) κs.0 From, tt))
      (λ κs qs bounds a g are. walk κs.0 qs.0 a.0.ref_ptr.0 a.0.ref_ptr.1 a.0.ghost_name a.0.now 𝓣.C 𝓣.Λ))

pub home_spec : {M : Type 1} → stated.statement M
unfolding tables_of
home_spec 𝓤 𝓛 𝓜 𝓡 wired =
    let 𝓣 : Tables 𝓤 𝓛.H = tables_of 𝓤 𝓛.H 𝓜 (tables 𝓤 𝓛.H 𝓜 𝓡 𝓡.env) in
    entered 𝓤 𝓛.H (triple_of 𝓛 F.signature (F.spec 𝓛 𝓜.mem 𝓡.returns)) 𝓣.C 𝓣.Λ #self code.function (code.unfolded 𝓤 𝓛.H 𝓜 𝓡 wired) (meets 𝓛 𝓜.mem 𝓡.returns 𝓣)
