-- The calls of a session are made one after another.
use Rattle.std.specs.Prelude.{IsTrue, ◌⊎◌, Option}
use Rattle.std.proofs.Common.{◌≡◌, ◌∙◌, ℕ, Bool, true, false, if◌then◌else◌, List, [], ◌∷◌, ◌++◌, refl, ap, sym, subst, append_assoc}
use Rattle.std.proofs.Math.Logic.{∥∥₁_map}
use Rattle.sfu_base.specs.Answer.{Answer, Refused, answer_of, is_memory, is_starved}
use Rattle.sfu_base.specs.declared.call.Call.{Call}
use Rattle.sfu_base.specs.declared.call.Refusal.{Refusal}
use Rattle.sfu_base.specs.declared.call.Refusal.TheVariants.{NoMemory}
use Rattle.sfu_base.specs.declared.call.Reply.{Reply}
use Rattle.sfu_base.specs.declared.call.Reply.TheVariants as reply
use Rattle.room_core.specs.Content.{TakesMemory}
use Rattle.room_core.specs.History.{Entry, reply_of}
use Rattle.room_core.specs.Noted.{Noted}
use Rattle.room_core.specs.Serves.{Serves, Stands, recorder_may_refuse}
use Rattle.room_core.specs.declared.room.Room.{Room}
use Rattle.session_steps.specs.Deeds.{Ask, Listen, Over, Post}
use Rattle.session_steps.specs.Sessions.{Doing}
use Rattle.session_steps.specs.Stepping.{Asks, answered}
use Rattle.room_sessions.specs.Working.{AreMade, HasHistory, HaveCause, answer_at}

abbrev pub entry : ℕ → Call → Bool → Entry
entry seat call starved = record { seat = seat; call = call; starved = starved }

-- ---- out of memory

memory_is : (why : Refusal) → is_memory why ≡ true → why ≡ NoMemory
memory_is NoMemory e = refl
memory_is why e = absurd (cc e)

starved_is : (given : Reply) (bytes names : List ℕ) → is_starved given ≡ true → answer_of given bytes names ≡ Refused NoMemory
starved_is (reply.Refused why) bytes names e = ap (λ (w : Refusal). Refused w) (memory_is why e)
starved_is given bytes names e = absurd (cc e)

by_case : (starved : Bool) (told by : Answer) → (starved ≡ true → told ≡ Refused NoMemory) → (starved ≡ false → told ≡ by) → (if starved then Refused NoMemory else by) ≡ told
by_case true told by p q = sym (p refl)
by_case false told by p q = sym (q refl)

-- ---- one more call

asked : (rest : Doing) (call : Call) → Asks rest call → rest ≡ Ask call (λ a. answered rest a)
asked (Ask own f) call is = ap (λ (c : Call). Ask c f) (sym is)
asked (Listen f) call is = absurd is
asked (Post what next) call is = absurd is
asked Over call is = absurd is

append_none : (h : List Entry) → h ++ [] ≡ h
append_none [] = refl
append_none (e ∷ h) = ap (λ (l : List Entry). e ∷ l) (append_none h)

-- before the first call
pub stands_none : {R : Type 0} (noted : R → Option (List Noted)) (room : Room R) (history : List Entry) → Stands noted room history → Stands noted room (history ++ [])
stands_none noted room history at = subst (λ (l : List Entry). Stands noted room l) (sym (append_none history)) at

makes_first : (seat : ℕ) (h : List Entry) (d rest : Doing) (e : Entry) → d ≡ rest → Asks rest e.call → e.seat ≡ seat → AreMade seat h d (e ∷ []) (answered rest (answer_at (h ++ []) e))
makes_first seat h d rest e is asks own =
    let same : d ≡ Ask e.call (λ a. answered rest a) = is ∙ asked rest e.call asks in
    let made : AreMade seat h (Ask e.call (λ a. answered rest a)) (e ∷ []) (answered rest (answer_at (h ++ []) e)) =
    (own, refl, ap (λ (l : List Entry). answered rest (answer_at l e)) (sym (append_none h))) in
    subst (λ (t : Doing). AreMade seat h t (e ∷ []) (answered rest (answer_at (h ++ []) e))) (sym same) made

pub makes_one : (seat : ℕ) (h : List Entry) (d : Doing) (es : List Entry) (rest : Doing) (e : Entry) → AreMade seat h d es rest → Asks rest e.call → e.seat ≡ seat
    → AreMade seat h d (es ++ e ∷ []) (answered rest (answer_at (h ++ es) e))
makes_one seat h d [] rest e made asks own = makes_first seat h d rest e made asks own
makes_one seat h (Ask call f) (first ∷ es) rest e made asks own =
    let more = makes_one seat (h ++ first ∷ []) (f (answer_at h first)) es rest e made.2 asks own in (
      made.0,
      made.1,
      subst (λ (l : List Entry). AreMade seat (h ++ first ∷ []) (f (answer_at h first)) (es ++ e ∷ []) (answered rest (answer_at l e))) (append_assoc h (first ∷ []) es) more,
    )
makes_one seat h (Listen f) (first ∷ es) rest e made asks own = absurd made
makes_one seat h (Post what next) (first ∷ es) rest e made asks own = absurd made
makes_one seat h Over (first ∷ es) rest e made asks own = absurd made

pub causes_one : (refuses : Bool) (es : List Entry) (e : Entry) → HaveCause refuses es → (IsTrue e.starved → TakesMemory e.call ⊎ IsTrue refuses) → HaveCause refuses (es ++ e ∷ [])
causes_one refuses [] e have cause = (cause, tt)
causes_one refuses (first ∷ es) e have cause = (have.0, causes_one refuses es e have.1 cause)

pub causes_after : {R : Type 0} (may_refuse : R → Bool) (old mid : Room R) (es : List Entry) (e : Entry) → HaveCause (recorder_may_refuse may_refuse old) es
    → recorder_may_refuse may_refuse mid ≡ recorder_may_refuse may_refuse old → (IsTrue e.starved → TakesMemory e.call ⊎ IsTrue (recorder_may_refuse may_refuse mid)) → HaveCause (recorder_may_refuse may_refuse old) (es ++ e ∷ [])
causes_after may_refuse old mid es e have same cause =
    causes_one (recorder_may_refuse may_refuse old) es e have (subst (λ (b : Bool). IsTrue e.starved → TakesMemory e.call ⊎ IsTrue b) same cause)

-- ---- a call was served

-- the room still represents some history
pub goes_on_having : {R : Type 0} (noted : R → Option (List Noted)) (old new : Room R) (seat : ℕ) (call : Call) (given : Reply) (bytes names : List ℕ) → HasHistory noted old → Serves noted old new seat call given bytes names → HasHistory noted new
goes_on_having noted old new seat call given bytes names has serves = ∥∥₁_map has (λ h. (h.0 ++ entry seat call (is_starved given) ∷ [], serves.stands h.0 h.1))

module _ {R : Type 0} (noted : R → Option (List Noted)) (old mid new : Room R) (seat : ℕ) (call : Call) (given : Reply) (bytes names : List ℕ) (serves : Serves noted mid new seat call given bytes names) where
  module _ (made : List Entry) (stands : (history : List Entry) → Stands noted old history → Stands noted mid (history ++ made)) where
    pub stands_one : (history : List Entry) → Stands noted old history → Stands noted new (history ++ (made ++ entry seat call (is_starved given) ∷ []))
    stands_one history at = subst (λ (l : List Entry). Stands noted new l) (append_assoc history made (entry seat call (is_starved given) ∷ [])) (serves.stands (history ++ made) (stands history at))

    -- the rest after this call
    pub leaves_one : (history : List Entry) (d rest : Doing) → Stands noted old history → AreMade seat history d made rest → Asks rest call
        → AreMade seat history d (made ++ entry seat call (is_starved given) ∷ []) (answered rest (answer_of given bytes names))
    leaves_one history d rest at are asks =
        let e : Entry = entry seat call (is_starved given) in
        let told : answer_at (history ++ made) e ≡ answer_of given bytes names =
        by_case (is_starved given) (answer_of given bytes names) (reply_of (history ++ made) call) (starved_is given bytes names) (serves.answered (history ++ made) (stands history at)) in
        subst (λ (a : Answer). AreMade seat history d (made ++ e ∷ []) (answered rest a)) told (makes_one seat history d made rest e are asks refl)
