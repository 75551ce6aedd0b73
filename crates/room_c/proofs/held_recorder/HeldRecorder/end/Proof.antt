-- `end` returns the allocator's handle: nothing is at the pointer.
use mathlib.Core.Path.{◌≡◌, refl, sym, subst}
use mathlib.Core.List.{List, [], ◌∷◌, ◌++◌}
use seplogic.Ra.Ura.{Ura}
use Rattle.std.specs.Prelude.{Option, is_some, false}
use lib.Dec.{lit<}
use mir.Val.{Val, vstruct, vcons, vnil, vnull, of_list, has_ty}
use base.Logic.{SProp, ent, id⊢}
use base.Fml.{ftrue, fsep}
use prog.Memory.{Memory}
use prog.Routine.{Routine}
use prog.Wp.{WpFn, Tables}
use types.Logic.{Logic}
use contract.Monad.{Fun, fact}
use contract.Running.{tables, tables_of}
use sound.WpLaws.{WpFn-mono}
use types.Kit.{Item, ‵, raw, ◌⊛◌, ◌$◌, ◌∵◌, !, qed, by, move, drop, use1, join, split, fsplit, fjoin, fpick, feq_l, rewrite, suffices, done}
use types.Part.{whole, sub}
use types.Run.{stop, fld, of_opd, returns, enter}
use types.ByLocal.{alloc_all, pass_all, free_all, look_at, get, get_in, sets}
use denote.Exit.{yes}
use denote.RawPtr.{Ptr, ptr_val}
use denote.Steps.{nothing, heard}
use denote.Triple.Spec.{triple_of}
use denote.Triple.Table.{entered}
use denote.Triple.Walked.{says, Stays, stay_dropped, walk_of, ends_at, Goes-dropped, walk_Meets}
use Rattle.std.proofs.alloc.Calls.{α, handle_tells}
use Rattle.std.proofs.ResultValues.{and_tt}
use Rattle.std.proofs.BoxSteps.Form.{R, P}
use Rattle.room_c.specs.Owned.{tape_owned}
use Rattle.room_c.proofs.AsRecorder.{E, FromHeld as From}
use Rattle.room_c.proofs.Somes.{is-none}
use Rattle.room_c.specs.contracts.held_recorder.HeldRecorder as Held
use Rattle.room_c.specs.contracts.held_recorder.HeldRecorder.end as F
use Rattle.room_c.specs.contracts.held_recorder.HeldRecorder.end.Key.{name as #self}
use Rattle.room_c.proofs.held_recorder.HeldRecorder.end.Statement as stated
use Rattle.room_c.proofs.held_recorder.HeldRecorder.end.Code as code

abbrev stayed : Stays (F.ended).signature.params (F.ended).kept
stayed = (stay_dropped From yes, tt)

module _ {M : Type 1} {𝓤 : Ura M} (𝓛 : Logic 𝓤) (at_mem : Memory → SProp 𝓤) (run : Routine → Fun 𝓤) (𝓣 : Tables 𝓤 𝓛.H) where
  open 𝓛 use {H}

  walk : (z : (walk_of 𝓛 F.ended stayed (F.clauses 𝓛 at_mem run)).Ghost)
      → ent 𝓤 ((walk_of 𝓛 F.ended stayed (F.clauses 𝓛 at_mem run)).pre z) (WpFn 𝓤 H 𝓣.C 𝓣.Λ code.function (z.0.4.0 ++ []) ((walk_of 𝓛 F.ended stayed (F.clauses 𝓛 at_mem run)).post z))
  walk z =
      let Post = (walk_of 𝓛 F.ended stayed (F.clauses 𝓛 at_mem run)).post z in
      let h = z.0.3.0 in
      qed 𝓛 ((‵ ftrue ⊛ ‵ (fsep (Held.the_row.own_val h z.0.4.0) ftrue)) ∷ raw (fact 𝓤 (is_some h.tape ≡ false)) ∷ []) ∵ move ! (1 ∷ []) $ heard ! (is_some h.tape ≡ false) (λ gone.
      split ! $ drop ! $ fsplit ! $
      fsplit ! $ fpick ! (λ vss. fsplit ! $ feq_l ! (λ ev. fsplit ! $ feq_l ! (λ ep. fsplit ! $ use1 𝓛 (‵ (E.al.row.own_val h.alloc vss.1.0)) (id⊢ 𝓤 _) $ handle_tells E.al ! h.alloc vss.1.0 (λ hv ea fa. move ! (1 ∷ []) $ drop ! $ move ! (1 ∷ []) $
      rewrite ! 0 (λ (o : Option (R E).Denot). ‵ (tape_owned h.alloc h.at o)) (is-none h.tape gone) refl $ feq_l ! (λ nul.
      let w : Val = vstruct (vcons vnull (vcons hv vnil)) in
      let ws : z.0.4.0 ≡ w ∷ [] = subst (λ (p : Ptr). z.0.4.0 ≡ vstruct (of_list (ptr_val p ∷ hv ∷ [])) ∷ []) nul
      (subst (λ (us : List Val). z.0.4.0 ≡ vstruct (of_list (ptr_val h.at ∷ (us ++ []))) ∷ []) ea (subst (λ (ps : List Val). z.0.4.0 ≡ vstruct (of_list (ps ++ (vss.1.0 ++ []))) ∷ []) ep ev)) in
      move ! (1 ∷ []) $ drop ! $
      let Γ : List (Item 𝓤) = ‵ ((P E).own_val h.alloc (hv ∷ [])) ∷ [] in
      by ! (subst (λ (us : List Val). ent 𝓤 (types.Kit.⋆ 𝓛 Γ) (WpFn 𝓤 H 𝓣.C 𝓣.Λ code.function (us ++ []) Post)) (sym ws)
      (qed 𝓛 Γ ∵ enter ! 𝓣.C 𝓣.Λ code.function (w ∷ []) _ $ alloc_all ! (λ ls. pass_all ! refl ((and_tt (has_ty (α E.al) hv) fa.0, (record { fits = lit< tt }, (fa.1, tt))), tt) $
      sets ! (of_opd ! (get_in ! (fld ! refl (stop !)) (sub ! 1 refl (whole !)))) refl fa $ sets ! (of_opd ! (get ! refl)) refl fa $ returns ! (look_at ! 0 refl) $ free_all ! refl $
      suffices ! _ (ends_at 𝓛 F.ended stayed (F.clauses 𝓛 at_mem run) z hv h.alloc (tt, tt) (tt, tt)) $ says ! refl $
      nothing ! $ nothing ! $ fjoin ! $ join ! $ nothing ! $ join ! $ done !)))))))))

pub end_spec : {M : Type 1} → stated.statement M
unfolding tables_of
end_spec 𝓤 𝓛 𝓜 𝓡 wired =
    let 𝓣 : Tables 𝓤 𝓛.H = tables_of 𝓤 𝓛.H 𝓜 (tables 𝓤 𝓛.H 𝓜 𝓡 𝓡.env) in
    entered 𝓤 𝓛.H (triple_of 𝓛 F.signature (F.spec 𝓛 𝓜.mem 𝓡.returns)) 𝓣.C 𝓣.Λ #self code.function (code.unfolded 𝓤 𝓛.H 𝓜 𝓡 wired)
    (walk_Meets 𝓛 F.ended stayed (Goes-dropped 𝓛 0 From yes (λ κs x f. refl), tt) (F.clauses 𝓛 𝓜.mem 𝓡.returns) (WpFn 𝓤 𝓛.H 𝓣.C 𝓣.Λ code.function) (WpFn-mono 𝓤 𝓛.H 𝓛.laws 𝓣 code.function)
    (walk 𝓛 𝓜.mem 𝓡.returns 𝓣))
