-- A call that the recorder noted and that the content executed is served.
use Rattle.std.proofs.Common.{◌≡◌, ℕ, Bool, true, false, cond, List, [], ◌∷◌, ◌++◌, Option, Some, None, sym, ap, ◌∙◌, subst, refl, true≢false}
use Rattle.std.proofs.lemmas.List.{append-nil}
use Rattle.sfu_base.specs.declared.call.Refusal.TheVariants.{NoMemory}
use Rattle.std.specs.Prelude.{◌≢◌, IfSome, IsTrue}
use Rattle.std.proofs.Common.{inl, inr}
use Rattle.std.proofs.lemmas.Grind.{flat_map-append, fold-append}
use Rattle.sfu_base.specs.Answer.{is_starved}
use Rattle.sfu_base.specs.declared.call.Call.{Call}
use Rattle.sfu_base.specs.declared.call.Reply.{Reply}
use Rattle.sfu_base.specs.declared.call.Reply.TheVariants as reply
use Rattle.sfu_base.specs.declared.call.Scratch.{Scratch}
use Rattle.room_core.specs.declared.room.Room.{Room}
use Rattle.room_core.specs.Noted.{Noted, Notes}
use Rattle.room_core.specs.Replies.{answer}
use Rattle.room_core.specs.History.{Entry, accepted, after, after_entry, kept, noted_of}
use Rattle.room_core.specs.Content.{Does, DoesSilently, IsAcceptedAfter, IsAfter, TakesMemory}
use Rattle.room_core.specs.Serves.{DoesAsServe, Serves, ServesInto, StandsHeadline}
use Rattle.room_core.specs.Sendable.{IsSendable}
use Rattle.room_core.specs.WellFormed.{AreWellFormed, IsValue}
use Rattle.room_core.proofs.WellFormed.{well_formed_after}
use Rattle.room_core.proofs.Promising.{headline}

-- a recorder that noted the call shows the calls that the longer history has
keeps_more : (recorded recorded' : Option (List Noted)) (history : List Entry) (seat : ℕ) (call : Call) (starved : Bool) → starved ≡ false → Notes recorded recorded' seat call
    → IfSome recorded (λ notes. notes ≡ kept history) → IfSome recorded' (λ notes. notes ≡ kept (history ++ record { seat = seat; call = call; starved = starved } ∷ []))
keeps_more None None history seat call starved fed notes h = tt
keeps_more None (Some new) history seat call starved fed notes h = absurd notes
keeps_more (Some old) None history seat call starved fed notes h = absurd notes
keeps_more (Some old) (Some new) history seat call starved fed notes h =
    notes ∙ ap (λ (xs : List Noted). xs ++ record { seat = seat; call = call } ∷ []) h
    ∙ sym (flat_map-append noted_of history (record { seat = seat; call = call; starved = starved } ∷ [])
    ∙ ap (λ (t : Bool). kept history ++ (cond t [] (record { seat = seat; call = call } ∷ []) ++ [])) fed)

pub served : {R : Type 0} (noted : R → Option (List Noted)) (old mid new : Room R) (seat : ℕ) (call : Call) (given : Reply) (bytes numbers : List ℕ)
    → ((past : List Call) → IsAfter old.content past → IsAfter mid.content past)
    → Does mid.content new.content call given bytes numbers → is_starved given ≡ false → IsValue call → Notes (noted old.recorder) (noted new.recorder) seat call
    → Serves noted old new seat call given bytes numbers
served noted old mid new seat call given bytes numbers same does fed value notes = record {
  answered = λ history stands _. does.answered (accepted history) (same (accepted history) stands.content_is);
  stands = λ history stands.
      let entry : Entry = record { seat = seat; call = call; starved = is_starved given } in
      let past : List Call = accepted history in
      let more : accepted (history ++ entry ∷ []) ≡ after (answer past call) call past =
      fold-append after_entry [] history (entry ∷ [])
      ∙ ap (λ (starved : Bool). cond starved past (after (answer past call) call past)) fed in
      record {
        content_is = subst (IsAfter new.content) (sym more) (does.done past (same past stands.content_is));
        well_formed = subst AreWellFormed (sym more) (well_formed_after past call value stands.well_formed);
        keeps = keeps_more (noted old.recorder) (noted new.recorder) history seat call (is_starved given) fed notes stands.keeps;
      };
}

-- a starved call changes nothing
pub starves : {R : Type 0} (noted : R → Option (List Noted)) (old new : Room R) (seat : ℕ) (call : Call) (bytes numbers : List ℕ)
    → ((past : List Call) → IsAfter old.content past → IsAfter new.content past) → noted new.recorder ≡ noted old.recorder
    → Serves noted old new seat call (reply.Refused NoMemory) bytes numbers
starves noted old new seat call bytes numbers same notes = record {
  answered = λ history stands fed. absurd (true≢false fed);
  stands = λ history stands.
      let entry : Entry = record { seat = seat; call = call; starved = true } in
      let more : accepted (history ++ entry ∷ []) ≡ accepted history = fold-append after_entry [] history (entry ∷ []) in
      record {
        content_is = subst (IsAfter new.content) (sym more) (same (accepted history) stands.content_is);
        well_formed = subst AreWellFormed (sym more) stands.well_formed;
        keeps = subst (λ (o : Option (List Noted)). IfSome o (λ ns. ns ≡ kept (history ++ entry ∷ []))) (sym notes)
            (keeps_as (noted old.recorder) history entry refl stands.keeps);
      };
}
  where
    keeps_as : (recorded : Option (List Noted)) (history : List Entry) (entry : Entry) → entry.starved ≡ true → IfSome recorded (λ notes. notes ≡ kept history)
        → IfSome recorded (λ notes. notes ≡ kept (history ++ entry ∷ []))
    keeps_as None history entry e h = tt
    keeps_as (Some ns) history entry e h =
        h ∙ sym (flat_map-append noted_of history (entry ∷ []) ∙ ap (λ (t : Bool). kept history ++ (cond t [] (record { seat = entry.seat; call = entry.call } ∷ []) ++ [])) e ∙ append-nil (kept history))

pub stands_headline : {R : Type 0} (noted : R → Option (List Noted)) (room : Room R) → StandsHeadline noted room
stands_headline noted room history stands = headline history stands.well_formed

-- ---- with the content of the scratch

none_starved : {A : Type 0} (reply : Reply) → is_starved reply ≡ false → IsTrue (is_starved reply) → A
none_starved reply fed starved = absurd (true≢false (sym starved ∙ fed))

-- a call that was done leaves nothing in the scratch
pub did : {R : Type 0} (noted : R → Option (List Noted)) (may_refuse : R → Bool) (old new : Room R) (seat : ℕ) (call : Call) (given : Reply)
    → ((bytes numbers : List ℕ) → Serves noted old new seat call given bytes numbers) → is_starved given ≡ false → may_refuse new.recorder ≡ may_refuse old.recorder
    → given ≢ reply.Packet → DoesAsServe noted may_refuse old new seat call given
did noted may_refuse old new seat call given serves fed same none = record {
  serves = serves;
  headline = stands_headline noted new;
  memory = λ starved. none_starved given fed starved;
  last = λ history stands starved. none_starved given fed starved;
  recorder = same;
  sends_none = none;
}

-- the same for a call for which nothing was prepared
pub noted_did : {R : Type 0} (noted : R → Option (List Noted)) (may_refuse : R → Bool) (old new : Room R) (seat : ℕ) (call : Call) (given : Reply)
    → DoesSilently old.content new.content call given → is_starved given ≡ false → given ≢ reply.Packet → IsValue call
    → Notes (noted old.recorder) (noted new.recorder) seat call → may_refuse new.recorder ≡ may_refuse old.recorder → DoesAsServe noted may_refuse old new seat call given
noted_did noted may_refuse old new seat call given does fed none value notes same =
    did noted may_refuse old new seat call given
    (λ bytes numbers. served noted old old new seat call given bytes numbers (λ past h. h) (does bytes numbers) fed value notes) fed same none

-- or leaves this in it
pub did_into : {R : Type 0} (noted : R → Option (List Noted)) (may_refuse : R → Bool) (old new : Room R) (seat : ℕ) (call : Call) (given : Reply) (before after : Scratch)
    → Serves noted old new seat call given after.packet after.names → is_starved given ≡ false → may_refuse new.recorder ≡ may_refuse old.recorder
    → (given ≢ reply.Packet → after.packet ≡ before.packet) → (given ≢ reply.Names → after.names ≡ before.names) → (given ≡ reply.Packet → IsSendable after.packet)
    → ServesInto noted may_refuse old new seat call given before after
did_into noted may_refuse old new seat call given before after serves fed same packet names sendable = record {
  serves = serves;
  headline = stands_headline noted new;
  memory = λ starved. none_starved given fed starved;
  last = λ history stands starved. none_starved given fed starved;
  recorder = same;
  packet = packet;
  names = names;
  sendable = sendable;
}

-- a recorder refused the call
pub not_noted : {R : Type 0} (noted : R → Option (List Noted)) (may_refuse : R → Bool) (old new : Room R) (seat : ℕ) (call : Call)
    → ((past : List Call) → IsAfter old.content past → IsAfter new.content past) → noted new.recorder ≡ noted old.recorder → may_refuse new.recorder ≡ may_refuse old.recorder
    → IsTrue (may_refuse old.recorder) → DoesAsServe noted may_refuse old new seat call (reply.Refused NoMemory)
not_noted noted may_refuse old new seat call same notes recorder refuses = record {
  serves = λ bytes numbers. starves noted old new seat call bytes numbers same notes;
  headline = stands_headline noted new;
  memory = λ starved. inr refuses;
  last = λ history stands starved. inr refuses;
  recorder = recorder;
  sends_none = λ same. cc;
}

-- or there was no memory for what the call needs
pub not_ready : {R : Type 0} (noted : R → Option (List Noted)) (may_refuse : R → Bool) (old new : Room R) (seat : ℕ) (call : Call)
    → ((past : List Call) → IsAfter old.content past → IsAfter new.content past) → new.recorder ≡ old.recorder
    → TakesMemory call → IsAcceptedAfter old.content call → DoesAsServe noted may_refuse old new seat call (reply.Refused NoMemory)
not_ready noted may_refuse old new seat call same recorder takes accepted_after = record {
  serves = λ bytes numbers. starves noted old new seat call bytes numbers same (ap noted recorder);
  headline = stands_headline noted new;
  memory = λ starved. inl takes;
  last = λ history stands starved. inl (accepted_after (accepted history) stands.content_is);
  recorder = ap may_refuse recorder;
  sends_none = λ same. cc;
}

-- a call that leaves nothing in the scratch doesn't change it
pub silently_into : {R : Type 0} (noted : R → Option (List Noted)) (may_refuse : R → Bool) (old new : Room R) (seat : ℕ) (call : Call) (given : Reply) (scratch : Scratch)
    → DoesAsServe noted may_refuse old new seat call given → ServesInto noted may_refuse old new seat call given scratch scratch
silently_into noted may_refuse old new seat call given scratch does = record {
  serves = does.serves scratch.packet scratch.names;
  headline = does.headline;
  memory = does.memory;
  last = does.last;
  recorder = does.recorder;
  packet = λ other. refl;
  names = λ other. refl;
  sendable = λ is. absurd (does.sends_none is);
}
