-- The state that a room with bundles represents, and the effect of its calls on that state.
use Rattle.std.specs.Prelude.{IsTrue, ⊤, ◌≡◌, ◌==◌, ◌+◌, ◌%◌, ◌≤◌, ℕ, Bool, true, false, if◌then◌else◌, List, [], ◌∷◌, ◌++◌, Option, None, Some, Result, Ok, Err, count_by, fold, is_some, max, nat_le, length, map, position, slice_get, slice_set}
use Rattle.std.specs.List.{find, list_all}
use Rattle.std.specs.Option.{option_map}
use Rattle.sfu_base.specs.declared.call.Call.TheVariants.{Leave, Plead, Take}
use Rattle.sfu_base.specs.declared.call.Call.{Call}
use Rattle.sfu_base.specs.declared.call.Reply.{Reply}
use Rattle.sfu_base.specs.declared.call.Scratch.{Scratch}
use Rattle.sfu_base.specs.Answer.{answer_of, is_starved}
use Rattle.sfu_base.specs.declared.call.Refusal.TheVariants.{Empty, NoSubscriber, NotKept}
use Rattle.sfu_base.specs.declared.call.Kind.{Kind}
use Rattle.sfu_base.specs.declared.call.Kind.TheVariants.{Layered, Plain}
use Rattle.room_core.specs.Kinds.{kind_joined}
use Rattle.room_core.specs.Live.{joined}
use Rattle.forwarding_model.specs.Receiver.{complaint}
use Rattle.packet_format.specs.Packets.{read_packet}
use Rattle.room_core.specs.Formats.{format_of}
use Rattle.room_core.specs.History.{Entry, accepted, reply_of}
use Rattle.room_core.specs.Noted.{Noted}
use Rattle.room_core.specs.Headline.{Headline}
use Rattle.room_core.specs.Serves.{MemoryHasCause, ServesInto, Stands, recorder_may_refuse}
use Rattle.out_ring.specs.Ring.{oldest_in}
use Rattle.out_ring.specs.History.{GaveLately, GaveNoneLately}
use Rattle.simulcast.specs.declared.bundle.Bundle.{Bundle}
use Rattle.simulcast.specs.declared.bundles.Bundles.{Bundles}
use Rattle.simulcast.specs.declared.fault.BundleFault.{BundleFault}
use Rattle.simulcast.specs.declared.fault.BundleFault.TheVariants.{NoBundle, NoLeg, NoMemory}
use Rattle.simulcast.specs.declared.fault.BundleFault.TheVariants as fault
use Rattle.simulcast.specs.declared.pumped.Pumped.{Pumped}
use Rattle.simulcast.specs.Made.{AreLegs, HasNoStrays, Made, has_leg, leg_at, outgoing_of, ring_history}
use Rattle.simulcast.specs.Pumping.{IsDrained, Pumping, called, pumped}
use Rattle.simulcast.specs.Bundle.{IsBundle, IsCounted, IsTaken, again_of, and_chosen, and_drawn, is_active_in, kept_of, next_of, pumped_whole}

-- the room's history, and the bundles in the order in which they were made
pub record Simulcast : Type 0 where
  pub history : List Entry
  pub made : List Made

abbrev pub nothing_made : List Entry → Simulcast
nothing_made history = record { history = history; made = [] }

abbrev pub AreBundles : List Bundle → List Made → Type 0
AreBundles [] [] = Unit {0}
AreBundles [] (m ∷ ms) = ⊥
AreBundles (b ∷ bs) [] = ⊥
AreBundles (b ∷ bs) (m ∷ ms) = IsBundle b m × AreBundles bs ms

-- no subscriber is two legs, whether of the same bundle or of two bundles
abbrev pub NoneIsTwo : List Made → Type 0
NoneIsTwo made = (i j k l n : ℕ) (m p : Made) → slice_get made i ≡ Some m → slice_get made j ≡ Some p → leg_at k m.legs ≡ Some n
    → leg_at l p.legs ≡ Some n → (i ≡ j) × (k ≡ l)

pub record StandsFor {R : Type 0} (noted : R → Option (List Noted)) (b : Bundles R) (h : Simulcast) : Type 0 where
  pub room_is : Stands noted b.room h.history
  pub bundles_are : AreBundles b.bundles.items h.made
  pub legs : (i : ℕ) (m : Made) → slice_get h.made i ≡ Some m → AreLegs (accepted h.history) m
  pub apart : NoneIsTwo h.made
  pub strays : (i : ℕ) (m : Made) → slice_get h.made i ≡ Some m → HasNoStrays m
  pub few : length h.made ≤ 64

-- whether the room's recorder may refuse a call for lack of memory
abbrev pub may_starve : {R : Type 0} → (R → Bool) → Bundles R → Bool
may_starve may_refuse b = recorder_may_refuse may_refuse b.room

-- the index of the bundle with this number
abbrev pub place_of : ℕ → List Made → Option ℕ
place_of number made = position (λ m. m.number == number) made

-- the state with this history and with this bundle at this index
abbrev pub and_now : Simulcast → ℕ → Pumping → Simulcast
and_now h i s = record { history = s.history; made = slice_set h.made i s.made }

abbrev pub with_made : Simulcast → ℕ → Made → Simulcast
with_made h i m = record { history = h.history; made = slice_set h.made i m }

-- ---- calls on the room

-- the number of the bundle that has this subscriber as a leg, if there is one
abbrev pub owner : ℕ → List Made → Option ℕ
owner n made = option_map (λ m. m.number) (find (λ m. has_leg n m.legs) made)

-- the bundle that forbids the call, because the call's subscriber is one of its legs
abbrev pub forbids_by : (ℕ → Option ℕ) → Call → Option ℕ
forbids_by own (Take n) = own n
forbids_by own (Leave n) = own n
forbids_by own other = None

abbrev pub forbids : Call → List Made → Option ℕ
forbids call made = forbids_by (λ n. owner n made) call

abbrev pub CallsAs : {R : Type 0} → (R → Option (List Noted)) → Bundles R → Simulcast → ℕ → Call → (bytes numbers : List ℕ) → Option ℕ
    → Result Reply BundleFault → Type 0
CallsAs noted b h seat call bytes numbers (Some bundle) result = (result ≡ Err (fault.Bound bundle)) × StandsFor noted b h
CallsAs noted b h seat call bytes numbers None (Err why) = ⊥
CallsAs noted b h seat call bytes numbers None (Ok reply) =
    (is_starved reply ≡ false → answer_of reply bytes numbers ≡ reply_of h.history call)
    × StandsFor noted b (record { history = h.history ++ record { seat = seat; call = call; starved = is_starved reply } ∷ []; made = h.made })

-- the only reason for which a bundle refuses a call on the room
abbrev pub IsBound : BundleFault → Type 0
IsBound (fault.Bound bundle) = ⊤
IsBound other = ⊥

-- the room's reply, or the refusal that names the bundle
abbrev pub unless_bound : Option ℕ → Reply → Result Reply BundleFault
unless_bound None reply = Ok reply
unless_bound (Some bundle) reply = Err (fault.Bound bundle)

-- the effect of the room's own call, unless a bundle forbids it
abbrev pub Calls : {R : Type 0} → (R → Option (List Noted)) → (old new : Bundles R) → ℕ → Call → (bytes numbers : List ℕ) → Result Reply BundleFault → Type 0
Calls noted old new seat call bytes numbers result = (h : Simulcast) → StandsFor noted old h
    → CallsAs noted new h seat call bytes numbers (forbids call h.made) result

-- only the room's recorder runs out of memory
abbrev pub StarvesBy : {R A : Type 0} → (R → Bool) → Bundles R → Result A BundleFault → Type 0
StarvesBy may_refuse b result = result ≡ Err NoMemory → IsTrue (may_starve may_refuse b)

-- the same, or the call itself allocates memory
abbrev pub CallStarvesBy : {R : Type 0} → (R → Bool) → Bundles R → Call → Result Reply BundleFault → Type 0
CallStarvesBy may_refuse b call (Ok reply) = MemoryHasCause may_refuse b.room call reply
CallStarvesBy may_refuse b call (Err why) = Unit {0}

-- A call that no bundle refuses has the effects and the reply of the room's `serve`, including those on the scratch. A refused call changes nothing.
abbrev pub CallsWhole : {R : Type 0} → (R → Option (List Noted)) → (R → Bool) → (old new : Bundles R) → ℕ → Call → (before after : Scratch) → Result Reply BundleFault → Type 0
CallsWhole noted may_refuse old new seat call before after (Ok reply) = ServesInto noted may_refuse old.room new.room seat call reply before after
CallsWhole noted may_refuse old new seat call before after (Err why) = (new ≡ old) × (after ≡ before)

-- for any state that the bundles represent, the room's guarantees (`Headline`) hold for its history
abbrev pub BundlesHeadline : {R : Type 0} → (R → Option (List Noted)) → Bundles R → Type 0
BundlesHeadline noted b = (h : Simulcast) → StandsFor noted b h → Headline (accepted h.history)

-- ---- a pump

-- A take ran out of memory. The takes before it aren't undone.
pub record PumpStops {R : Type 0} (noted : R → Option (List Noted)) (b : Bundles R) (h : Simulcast) (i : ℕ) (s : Pumping) : Type 0 where
  pub now : Pumping
  pub leg : ℕ
  pub subscriber : ℕ
  pub later : List (Option ℕ)
  pub reached : IsTaken s now
  pub is_leg : leg_at leg now.made.legs ≡ Some subscriber
  pub same : pumped (Some leg ∷ later) now ≡ pumped_whole s
  pub there : StandsFor noted b (and_now h i (record { history = called true (Take subscriber) now.history; made = now.made }))

abbrev pub PumpedTo : {R : Type 0} → (R → Option (List Noted)) → Bundles R → Simulcast → ℕ → Made → Result Pumped BundleFault → Type 0
PumpedTo noted b h i m (Ok p) =
    StandsFor noted b (and_now h i (pumped_whole (record { history = h.history; made = m })))
    × IsCounted m (pumped_whole (record { history = h.history; made = m })).made p
    × IsDrained (pumped_whole (record { history = h.history; made = m }))
PumpedTo noted b h i m (Err why) = (why ≡ NoMemory) × PumpStops noted b h i (record { history = h.history; made = m })

abbrev pub PumpsAt : {R : Type 0} → (R → Option (List Noted)) → Bundles R → Simulcast → Option ℕ → Result Pumped BundleFault → Type 0
PumpsAt noted b h None result = (result ≡ Err NoBundle) × StandsFor noted b h
PumpsAt noted b h (Some i) result = (m : Made) → slice_get h.made i ≡ Some m → PumpedTo noted b h i m result

abbrev pub PumpsOne : {R : Type 0} → (R → Option (List Noted)) → (old new : Bundles R) → ℕ → Result Pumped BundleFault → Type 0
PumpsOne noted old new number result = (h : Simulcast) → StandsFor noted old h → PumpsAt noted new h (place_of number h.made) result

-- ---- draws

abbrev pub DrawnTo : {R : Type 0} → (R → Option (List Noted)) → Bundles R → Simulcast → ℕ → Made → List ℕ → Result ℕ BundleFault → Type 0
DrawnTo noted b h i m bytes (Ok n) =
    StandsFor noted b (with_made h i (and_drawn m)) × (slice_get (outgoing_of m) m.draws ≡ Some bytes)
    × (n ≡ (m.first + m.draws) % 65536)
DrawnTo noted b h i m bytes (Err why) = StandsFor noted b h × (why ≡ fault.Room Empty) × (m.draws ≡ length (outgoing_of m))

abbrev pub DrawsAt : {R : Type 0} → (R → Option (List Noted)) → Bundles R → Simulcast → Option ℕ → List ℕ → Result ℕ BundleFault → Type 0
DrawsAt noted b h None bytes result = (result ≡ Err NoBundle) × StandsFor noted b h
DrawsAt noted b h (Some i) bytes result = (m : Made) → slice_get h.made i ≡ Some m → DrawnTo noted b h i m bytes result

abbrev pub Draws : {R : Type 0} → (R → Option (List Noted)) → (old new : Bundles R) → ℕ → List ℕ → Result ℕ BundleFault → Type 0
Draws noted old new number bytes result = (h : Simulcast) → StandsFor noted old h → DrawsAt noted new h (place_of number h.made) bytes result

abbrev pub RedrawnTo : Made → ℕ → List ℕ → Result (Unit {0}) BundleFault → Type 0
RedrawnTo m n bytes (Ok x) = GaveLately (ring_history m) (record { number = n; bytes = bytes }) × (again_of n m ≡ Some bytes)
RedrawnTo m n bytes (Err why) = (why ≡ fault.Room (NotKept (oldest_in (kept_of m) (next_of m)) (next_of m))) × GaveNoneLately (ring_history m) n
    × (again_of n m ≡ None)

abbrev pub RedrawsAt : Simulcast → Option ℕ → ℕ → List ℕ → Result (Unit {0}) BundleFault → Type 0
RedrawsAt h None n bytes result = result ≡ Err NoBundle
RedrawsAt h (Some i) n bytes result = (m : Made) → slice_get h.made i ≡ Some m → RedrawnTo m n bytes result

abbrev pub Redraws : {R : Type 0} → (R → Option (List Noted)) → Bundles R → ℕ → ℕ → List ℕ → Result (Unit {0}) BundleFault → Type 0
Redraws noted b number n bytes result = (h : Simulcast) → StandsFor noted b h → RedrawsAt h (place_of number h.made) n bytes result

-- ---- choices

-- a key frame of the chosen leg is requested, unless the leg is active
abbrev pub and_asked : Bool → Bool → ℕ → List Entry → List Entry
and_asked true starved n history = history
and_asked false starved n history = called starved (Plead n) history

abbrev pub ChoosesLeg : {R : Type 0} → (R → Option (List Noted)) → Bundles R → Simulcast → ℕ → Made → ℕ → Option ℕ → Result (Unit {0}) BundleFault → Type 0
ChoosesLeg noted b h i m leg None result = (result ≡ Err (NoLeg (length m.legs))) × StandsFor noted b h
ChoosesLeg noted b h i m leg (Some n) (Ok x) = StandsFor noted b
    (record { history = and_asked (is_active_in leg m) false n h.history; made = slice_set h.made i (and_chosen leg m) })
ChoosesLeg noted b h i m leg (Some n) (Err why) =
    (why ≡ NoMemory) × (is_active_in leg m ≡ false)
    × StandsFor noted b (record { history = called true (Plead n) h.history; made = slice_set h.made i (and_chosen leg m) })

abbrev pub ChoosesAt : {R : Type 0} → (R → Option (List Noted)) → Bundles R → Simulcast → Option ℕ → ℕ → Result (Unit {0}) BundleFault → Type 0
ChoosesAt noted b h None leg result = (result ≡ Err NoBundle) × StandsFor noted b h
ChoosesAt noted b h (Some i) leg result = (m : Made) → slice_get h.made i ≡ Some m → ChoosesLeg noted b h i m leg (leg_at leg m.legs) result

abbrev pub Chooses : {R : Type 0} → (R → Option (List Noted)) → (old new : Bundles R) → ℕ → ℕ → Result (Unit {0}) BundleFault → Type 0
Chooses noted old new number leg result = (h : Simulcast) → StandsFor noted old h → ChoosesAt noted new h (place_of number h.made) leg result

-- ---- the strict receivers of the packets

-- A strict receiver has no complaint about any prefix of the packets that a bundle sends.
abbrev pub Pleases : Made → Type 0
Pleases m = (sends queued : List (List ℕ)) → sends ++ queued ≡ outgoing_of m → complaint (format_of m.id) (map read_packet sends) ≡ None

-- this is true of each bundle, in any state that the bundles represent
abbrev pub PleasesReceivers : {R : Type 0} → (R → Option (List Noted)) → Bundles R → Type 0
PleasesReceivers noted b = (h : Simulcast) (i : ℕ) (m : Made) → StandsFor noted b h → slice_get h.made i ≡ Some m → Pleases m

-- ---- a bundle

abbrev pub highest_of : List Made → ℕ
highest_of made = fold (λ h m. max h m.number) 0 made

abbrev pub is_live : List Call → ℕ → Bool
is_live past n = is_some (kind_joined (joined n past) past)

abbrev pub is_layered : ℕ → Option Kind → Bool
is_layered id None = false
is_layered id (Some Plain) = false
is_layered id (Some (Layered other)) = other == id

-- the subscriber's track has this kind
abbrev pub has_kind : ℕ → List Call → ℕ → Bool
has_kind id past n = is_layered id (kind_joined (joined n past) past)

abbrev pub bound_or : Option ℕ → Bool → ℕ → Option ℕ → Option ℕ
bound_or (Some bundle) twice number later = Some bundle
bound_or None true number later = Some number
bound_or None false number later = later

-- For the first leg that is bound: the bundle that already has the leg, or this bundle's number if the leg is listed twice.
abbrev pub bound_leg : (ℕ → Option ℕ) → ℕ → List ℕ → List ℕ → Option ℕ
bound_leg own number legs [] = None
bound_leg own number legs (n ∷ later) = bound_or (own n) (nat_le 2 (count_by (λ l. l == n) legs)) number (bound_leg own number legs later)

abbrev pub unbound_or : Option ℕ → Bool → Option BundleFault
unbound_or (Some bundle) kinds = Some (fault.Bound bundle)
unbound_or None true = None
unbound_or None false = Some fault.WrongKind

-- the first refusal that applies
abbrev pub refusal_by : (number highest live : ℕ) → Bool → Option ℕ → Bool → Option BundleFault
refusal_by number highest live are_live bound kinds =
    if nat_le number highest then Some (fault.NumberUsed highest)
    else if nat_le 64 live then Some (fault.TooMany live)
    else if are_live then unbound_or bound kinds
    else Some (fault.Room NoSubscriber)

abbrev pub bundle_refusal : Simulcast → (number id : ℕ) → List ℕ → Option BundleFault
bundle_refusal h number id legs =
    refusal_by number (highest_of h.made) (length h.made) (list_all (is_live (accepted h.history)) legs) (bound_leg (λ n. owner n h.made) number legs legs)
    (list_all (has_kind id (accepted h.history)) legs)

abbrev pub BundledAs : {R : Type 0} → (R → Option (List Noted)) → Bundles R → Simulcast → Made → Option BundleFault → Result (Unit {0}) BundleFault → Type 0
BundledAs noted b h m (Some why) result = (result ≡ Err why) × StandsFor noted b h
BundledAs noted b h m None (Ok x) = StandsFor noted b (record { history = h.history; made = h.made ++ m ∷ [] })
BundledAs noted b h m None (Err why) = (why ≡ NoMemory) × StandsFor noted b h

abbrev pub Bundled : {R : Type 0} → (R → Option (List Noted)) → (old new : Bundles R) → Made → Result (Unit {0}) BundleFault → Type 0
Bundled noted old new m result = (h : Simulcast) → StandsFor noted old h → BundledAs noted new h m (bundle_refusal h m.number m.id m.legs) result
