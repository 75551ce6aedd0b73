-- Facts about the calls of every trial, in any state of the room.
use Rattle.std.proofs.Common.{◌≡◌, ◌+◌, ℕ, zero, suc, arith, Bool, true, false, cond, List, [], ◌∷◌, fold, refl, sym, ap, ◌∙◌, Option, Some, None}
use Rattle.sfu_base.specs.declared.call.Call.{Call}
use Rattle.sfu_base.specs.declared.call.Call.TheVariants as call
use Rattle.room_core.specs.Formats.{format_of}
use Rattle.room_core.specs.Given.{given_to}
use Rattle.room_core.specs.History.{is_accepted}
use Rattle.room_core.specs.Live.{Joined}
use Rattle.room_core.specs.Replies.{answer}
use Rattle.room_core.specs.WellFormed.{AreWellFormed}
use Rattle.room_core.proofs.Giving.{AreAccepted, given_is}
use Rattle.room_core.proofs.Promising.{taken_pleases}
use Rattle.room_core.proofs.WellFormed.{well_formed_after}
use Rattle.stream_maker.specs.declared.event.Event.{Event}
use Rattle.stream_maker.specs.declared.event.Event.TheVariants as event
use Rattle.stream_maker.specs.declared.place.Place.{Place}
use Rattle.stream_maker.specs.Bytes.{packet_bytes}
use Rattle.stream_maker.specs.Stream.{Stream, events}
use Rattle.stream_maker.specs.Turn.{Given}
use Rattle.strict_receiver.specs.Receivers.{complaint_over}
use Rattle.cascade.specs.Calls.{and_call}
use Rattle.cascade.specs.Trial.{AreGiven, ArePleased, HaveJoined, after_event, after_given, after_takes, opened, queued_for, received, taken_by, takes, trial_calls}
use Rattle.cascade.specs.Staged.{AllJoined, HasJoined}
use Rattle.cascade.proofs.Viewers.{packet_stays, received_is, tick_stays}
use Rattle.cascade.proofs.Staging.{all_joined, other_takes_all, own_takes_all}

-- ---- one call

-- an accepted call is added; any other call changes nothing
by_answer : (P : List Call → Type 0) (past : List Call) (c : Call) → (is_accepted (answer past c) ≡ true → P (c ∷ past)) → P past → P (and_call past c)
by_answer P past c accepted same = go (is_accepted (answer past c)) refl
  where
    go : (b : Bool) → is_accepted (answer past c) ≡ b → P (cond b (c ∷ past) past)
    go true e = accepted e
    go false e = same

accepted_after : (past : List Call) (c : Call) → AreAccepted past → AreAccepted (and_call past c)
accepted_after past c all = by_answer AreAccepted past c (λ e. (e, all)) all

-- the facts that a packet, a tick or a take preserves
record IsKept (past : List Call) : Type 0 where
  well : AreWellFormed past
  accepted : AreAccepted past
  joined_is : HaveJoined past

packet_keeps : (moment : ℕ) (bytes : List ℕ) (past : List Call) → IsKept past → IsKept (and_call past (call.Packet 1 moment bytes))
packet_keeps moment bytes past k = record {
  well = well_formed_after past (call.Packet 1 moment bytes) tt k.well;
  accepted = accepted_after past (call.Packet 1 moment bytes) k.accepted;
  joined_is = by_answer HaveJoined past (call.Packet 1 moment bytes)
      (λ e. record { track = k.joined_is.track; first = k.joined_is.first; second = k.joined_is.second; third = k.joined_is.third }) k.joined_is;
}

tick_keeps : (moment : ℕ) (past : List Call) → IsKept past → IsKept (and_call past (call.Tick 1 moment))
tick_keeps moment past k = record {
  well = well_formed_after past (call.Tick 1 moment) tt k.well;
  accepted = accepted_after past (call.Tick 1 moment) k.accepted;
  joined_is = by_answer HaveJoined past (call.Tick 1 moment)
      (λ e. record { track = k.joined_is.track; first = k.joined_is.first; second = k.joined_is.second; third = k.joined_is.third }) k.joined_is;
}

take_keeps : (n : ℕ) (past : List Call) → IsKept past → IsKept (and_call past (call.Take n))
take_keeps n past k = record {
  well = well_formed_after past (call.Take n) tt k.well;
  accepted = accepted_after past (call.Take n) k.accepted;
  joined_is = by_answer HaveJoined past (call.Take n)
      (λ e. record { track = k.joined_is.track; first = k.joined_is.first; second = k.joined_is.second; third = k.joined_is.third }) k.joined_is;
}

some_takes_keep : (n count : ℕ) (past : List Call) → IsKept past → IsKept (takes count n past)
unfolding takes
some_takes_keep n zero past k = k
some_takes_keep n (suc count) past k = take_keeps n (takes count n past) (some_takes_keep n count past k)

takes_keep : (n : ℕ) (past : List Call) → IsKept past → IsKept (after_takes n past)
unfolding after_takes
takes_keep n past k = some_takes_keep n (queued_for n past + 1) past k

-- ---- an event

record IsGood (past : List Call) : Type 0 where
  all : AllJoined past
  kept : IsKept past

good_packet : (moment : ℕ) (bytes : List ℕ) (past : List Call) → IsGood past → IsGood (and_call past (call.Packet 1 moment bytes))
good_packet moment bytes past g = record {
  all = record {
    first = (packet_stays 1 moment bytes past g.all.first).joined_is;
    second = (packet_stays 2 moment bytes past g.all.second).joined_is;
    third = (packet_stays 3 moment bytes past g.all.third).joined_is;
  };
  kept = packet_keeps moment bytes past g.kept;
}

good_tick : (moment : ℕ) (past : List Call) → IsGood past → IsGood (and_call past (call.Tick 1 moment))
good_tick moment past g = record {
  all = record {
    first = (tick_stays 1 moment past g.all.first).joined_is;
    second = (tick_stays 2 moment past g.all.second).joined_is;
    third = (tick_stays 3 moment past g.all.third).joined_is;
  };
  kept = tick_keeps moment past g.kept;
}

good_first : (past : List Call) → IsGood past → IsGood (after_takes 1 past)
good_first past g = record {
  all = record {
    first = own_takes_all 1 past g.all.first;
    second = (other_takes_all 2 1 past refl g.all.second).joined_is;
    third = (other_takes_all 3 1 past refl g.all.third).joined_is;
  };
  kept = takes_keep 1 past g.kept;
}

good_second : (past : List Call) → IsGood past → IsGood (after_takes 2 past)
good_second past g = record {
  all = record {
    first = (other_takes_all 1 2 past refl g.all.first).joined_is;
    second = own_takes_all 2 past g.all.second;
    third = (other_takes_all 3 2 past refl g.all.third).joined_is;
  };
  kept = takes_keep 2 past g.kept;
}

good_third : (past : List Call) → IsGood past → IsGood (after_takes 3 past)
good_third past g = record {
  all = record {
    first = (other_takes_all 1 3 past refl g.all.first).joined_is;
    second = (other_takes_all 2 3 past refl g.all.second).joined_is;
    third = own_takes_all 3 past g.all.third;
  };
  kept = takes_keep 3 past g.kept;
}

good_event : (past : List Call) (e : Event) (place : Option Place) → IsGood past → IsGood (after_event past e place)
unfolding after_event
good_event past (event.Packet moment) None g = g
good_event past (event.Packet moment) (Some p) g = good_packet moment (packet_bytes p) past g
good_event past (event.Tick moment) place g = good_third _ (good_second _ (good_first _ (good_tick moment past g)))
good_event past event.End place g = g

good_all : (gs : List Given) (past : List Call) → IsGood past → IsGood (fold after_given past gs)
good_all [] past g = g
good_all (x ∷ gs) past g = good_all gs (after_given past x) (good_event past x.event x.place g)

-- ---- the whole stream

opened_kept : IsKept opened
opened_kept = record {
  well = (omega arith, (omega arith, (omega arith, (tt, tt))));
  accepted = (refl, (refl, (refl, (refl, tt))));
  joined_is = record { track = refl; first = refl; second = refl; third = refl };
}

good_trial : (s : Stream) → IsGood (trial_calls s)
unfolding trial_calls
good_trial s = good_all (events s) opened (record { all = all_joined; kept = opened_kept })

pub trial_joined : (s : Stream) → HaveJoined (trial_calls s)
trial_joined s = (good_trial s).kept.joined_is

given : (n : ℕ) (past : List Call) → HasJoined n past → AreAccepted past → received n past ≡ given_to n past
unfolding received
given n past v accepted =
    ap (λ (o : Option Joined). taken_by n o past) v.how
    ∙ sym (given_is past accepted n (record { track = 1; ssrc = v.ssrc; first = 0; wish = v.wish }) v.how)

pub trial_given : (s : Stream) → AreGiven (trial_calls s)
trial_given s =
    let g = good_trial s in
    record {
      first = given 1 (trial_calls s) g.all.first g.kept.accepted;
      second = given 2 (trial_calls s) g.all.second g.kept.accepted;
      third = given 3 (trial_calls s) g.all.third g.kept.accepted;
    }

pleased : (n : ℕ) (past : List Call) → HasJoined n past → AreWellFormed past → complaint_over 4 (received n past) ≡ None
unfolding format_of
pleased n past v well =
    ap (complaint_over 4) (received_is n past v)
    ∙ taken_pleases past well 4 n (record { track = 1; ssrc = v.ssrc; first = 0; wish = v.wish }) v.how

pub trial_pleases : (s : Stream) → ArePleased (trial_calls s)
trial_pleases s =
    let g = good_trial s in
    record {
      first = pleased 1 (trial_calls s) g.all.first g.kept.well;
      second = pleased 2 (trial_calls s) g.all.second g.kept.well;
      third = pleased 3 (trial_calls s) g.all.third g.kept.well;
    }
