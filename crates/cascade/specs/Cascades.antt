-- What a subscriber of a fed track receives. Own statements, over the definitions of rooms and of forwarding, for the accepted calls of two
-- histories.
use Rattle.std.specs.Prelude.{◌≡◌, ◌⊎◌, ◌*◌, ◌<◌, ◌≤◌, ℕ, List, [], ◌∷◌, ◌++◌, Bool, true, Option, None, Some, map, drop, length, take}
use Rattle.sfu_base.specs.declared.call.Call.{Call}
use Rattle.sfu_base.specs.declared.call.Kind.TheVariants.{Plain, Layered}
use Rattle.sfu_base.specs.declared.frame.Wish.{Wish}
use Rattle.rtp_packet.specs.Fields.{csrc_count}
use Rattle.rtp_packet.specs.Rewritten.{rewritten}
use Rattle.forwarding_model.specs.Lists.{IsMember}
use Rattle.forwarding_model.specs.declared.target.CurrentTarget.TheVariants.{Open}
use Rattle.forwarding_model.specs.forwarding.Timeline.{Frame, frames_of, meaning_of, takes_of}
use Rattle.forwarding_model.specs.forwarding.Timeline.Event.{WholeFrame, PlainPacket, WishChange, Take}
use Rattle.forwarding_model.specs.forwarding.Standing.{passes_at, standing}
use Rattle.forwarding_model.specs.forwarding.Outgoing.{forwarded}
use Rattle.forwarding_model.specs.Receiver.{complaint}
use Rattle.forwarding_model.specs.History.{items_of}
use Rattle.forwarding_laws.specs.frames.Making.{said}
use Rattle.dd_structure.specs.TemplateStructure.{TemplateStructure}
use Rattle.packet_format.specs.Packets.{read_packet}
use Rattle.packet_format.specs.Remasked.{remasked}
use Rattle.packet_format.specs.RemaskedReads.{IsRemasked}
use Rattle.room_core.specs.Follows.{Happened}
use Rattle.room_core.specs.Formats.{format_of}
use Rattle.room_core.specs.Given.{given_to}
use Rattle.room_core.specs.History.{Entry, accepted}
use Rattle.room_core.specs.Live.{Joined, Published, joined, kind_of}
use Rattle.room_core.specs.Sent.{sent}
use Rattle.room_core.specs.SentBytes.{going_out}
use Rattle.room_core.specs.TrackHistory.{entries_of}
use Rattle.room_core.specs.Views.{events_for}
use Rattle.room_core.specs.WellFormed.{AreWellFormed}
use Rattle.cascade_laws.specs.Relayed.{AllPass, AreHandedOn, IsMaskedFor, IsNotFull, IsRelayed, KeepsWish, NoneIsFull, Shift, StandAlike, passed_since}
use Rattle.cascade_laws.specs.Handing.{AreNear}
use Rattle.cascade_laws.specs.Running.{AllLeaveOpen}
use Rattle.cascade_laws.specs.Unmasked.{CarryNoMask}
use Rattle.cascade.specs.Fed.{IsFed, before_join, packets_on, readdressed_all}

-- Each call is one that the code can receive: SSRCs have 32 bits, and
-- packets are valid RTP. This is so in each history that a room represents.
pub record AreOfRooms (h1 h2 : List Entry) : Type 0 where
  pub first : AreWellFormed (accepted h1)
  pub second : AreWellFormed (accepted h2)

-- ---- a plain second track

-- each of its packets found fewer than 512 packets queued
abbrev pub FindRoom : Wish → List Happened → Type 0
FindRoom wish [] = Unit {0}
FindRoom wish (WholeFrame frame ∷ past) = FindRoom wish past
FindRoom wish (PlainPacket packet ∷ past) = ((standing wish past).queued < 512) × FindRoom wish past
FindRoom wish (WishChange changed ∷ past) = FindRoom wish past
FindRoom wish (Take ∷ past) = FindRoom wish past

-- The packets forwarded to u, which joined the track as j, are those that s took since then, with u's numbers and
-- SSRC. If s's track is layered and u joined before the first packet, a strict receiver has no complaint about them.
pub record GoesOnPlain (first : List Call) (s : ℕ) (i : Joined) (second : List Call) (t u : ℕ) (j : Joined) : Type 0 where
  pub suffix : going_out u j second ≡ readdressed_all j.first j.ssrc (drop (length (packets_on t (before_join u second))) (given_to s first))
  pub pleases : (id : ℕ) → kind_of i.track first ≡ Layered id → packets_on t (before_join u second) ≡ []
      → complaint (format_of id) (map read_packet (going_out u j second)) ≡ None

abbrev pub PlainTracksGoOn : Type 0
PlainTracksGoOn = (h1 h2 : List Entry) (s t u : ℕ) (i j : Joined) (p : Published) → AreOfRooms h1 h2 → IsFed (accepted h1) s i (accepted h2) t p
    → p.kind ≡ Plain → joined u (accepted h2) ≡ Some j → j.track ≡ t → FindRoom j.wish (events_for u j (accepted h2))
    → GoesOnPlain (accepted h1) s i (accepted h2) t u j

-- ---- a layered second track

-- The packet with a mask in its descriptor, by the structure in force. Its header extension
-- is rewritten with the mask; all other bits, including the CSRC words, are unchanged.
pub record IsMasked (id : ℕ) (bytes masked : List ℕ) : Type 0 where
  pub force : Option TemplateStructure
  pub mask : ℕ
  pub is : remasked id force mask bytes ≡ Some masked
  pub csrcs : take (4 * csrc_count bytes) (drop 12 masked) ≡ take (4 * csrc_count bytes) (drop 12 bytes)
  pub stays : IsRemasked id bytes masked

-- the packet with another number, SSRC and marker, and possibly with another mask
pub record IsPassedOn (id : ℕ) (bytes new : List ℕ) : Type 0 where
  pub sequence : ℕ
  pub ssrc : ℕ
  pub marker : Bool
  pub masked : List ℕ
  pub is_masked : (masked ≡ bytes) ⊎ IsMasked id bytes masked
  pub readdressed : new ≡ rewritten sequence ssrc marker masked

abbrev pub IsPassedOnOf : ℕ → List (List ℕ) → List ℕ → Type 0
IsPassedOnOf id took new = (bytes : List ℕ) × IsMember bytes took × IsPassedOn id bytes new

-- each packet forwarded to a subscriber of the fed track is one that s took
abbrev pub LayeredTracksGoOn : Type 0
LayeredTracksGoOn = (h1 h2 : List Entry) (s t u id : ℕ) (i j : Joined) (p : Published) → AreOfRooms h1 h2 → IsFed (accepted h1) s i (accepted h2) t p
    → p.kind ≡ Layered id → joined u (accepted h2) ≡ Some j → j.track ≡ t → (new : List ℕ) → IsMember new (going_out u j (accepted h2))
    → IsPassedOnOf id (given_to s (accepted h1)) new

-- ---- frames that pass in both rooms

-- A run of frames in s's timeline: a key frame k that passed, and the frames that passed since, up to the newest of these events. All their
-- packets were taken. k opened this target. Since then no rule closed it and no other target was opened, so no other key frame passed. The
-- wish was the same all the time. No descriptor of the epoch carries a mask, and the numbers of consecutive frames differ by less than 32,768.
pub record IsRun (id : ℕ) (i : Joined) (first : List Call) (events later since past : List Happened) (k : Frame TemplateStructure)
    (target : ℕ) (now : Wish) : Type 0 where
  pub laid : events ≡ later ++ (since ++ WholeFrame k ∷ past)
  pub key : k.meaning.key ≡ true
  pub passed : passes_at (standing i.wish past) k.meaning (length k.packets) ≡ true
  pub taken : length (forwarded (sent (Layered id)) i.wish (since ++ WholeFrame k ∷ past)) ≤ takes_of events
  pub opened : (standing i.wish (WholeFrame k ∷ past)).target ≡ Open target k.meaning.number
  pub left_open : AllLeaveOpen i.wish since (WholeFrame k ∷ past)
  pub wish_is : (standing i.wish past).wish ≡ now
  pub wish_stays : KeepsWish now since
  pub no_mask : CarryNoMask k.meaning.epoch (said (format_of id) (items_of (entries_of i.track first)))
  pub near : AreNear k.meaning (map meaning_of (passed_since i.wish since (WholeFrame k ∷ past)))

-- The same run in u's timeline: a key frame for k, then a frame for each of the others, in order, with no others between.
pub record IsRunAgain (events later since past : List Happened) (k : Frame TemplateStructure) (passed : List (Frame TemplateStructure))
    (target : ℕ) (by : Shift) (again : Frame TemplateStructure) : Type 0 where
  pub laid : events ≡ later ++ (since ++ WholeFrame again ∷ past)
  pub first : IsRelayed by k.meaning again.meaning
  pub first_masked : IsMaskedFor target k.meaning again.meaning
  pub others : AreHandedOn by target again.meaning.epoch passed (frames_of since)

-- u had this wish all the time too, and its queue had space for each of these frames
pub record HasWishAndCapacity (wish now : Wish) (since past : List Happened) (again : Frame TemplateStructure) : Type 0 where
  pub wish_is : (standing wish past).wish ≡ now
  pub wish_stays : KeepsWish now since
  pub first_has_capacity : IsNotFull (standing wish past) again.meaning (length again.packets)
  pub others_have_capacity : NoneIsFull wish since (WholeFrame again ∷ past)

-- each of these frames passed to u, and the states of both subscribers correspond
pub record PassesAgain (wish second_wish now : Wish) (since past second_since second_past : List Happened)
    (k again : Frame TemplateStructure) (target : ℕ) (by : Shift) : Type 0 where
  pub first : passes_at (standing second_wish second_past) again.meaning (length again.packets) ≡ true
  pub others : AllPass second_wish second_since (WholeFrame again ∷ second_past)
  pub alike : StandAlike by target k.meaning.number again.meaning.number again.meaning.epoch now (standing wish (since ++ WholeFrame k ∷ past))
      (standing second_wish (second_since ++ WholeFrame again ∷ second_past))

-- The consequence of a run: the same run is in u's timeline. Each of its frames passes to u if u has that wish and its queue has space.
pub record RunsOn (wish now : Wish) (since past : List Happened) (k : Frame TemplateStructure) (target : ℕ)
    (second_wish : Wish) (events : List Happened) : Type 0 where
  pub later : List Happened
  pub second_since : List Happened
  pub second_past : List Happened
  pub again : Frame TemplateStructure
  pub by : Shift
  pub run : IsRunAgain events later second_since second_past k (passed_since wish since (WholeFrame k ∷ past)) target by again
  pub pass : HasWishAndCapacity second_wish now second_since second_past again
      → PassesAgain wish second_wish now since past second_since second_past k again target by

-- u joined before the first packet of k came
abbrev pub JoinedBefore : ℕ → ℕ → List Call → ℕ → Type 0
JoinedBefore t u second sent_before = length (packets_on t (before_join u second)) ≤ sent_before

abbrev pub RunsGoOn : Type 0
RunsGoOn = (h1 h2 : List Entry) (s t u id : ℕ) (i j : Joined) (p : Published) → AreOfRooms h1 h2 → IsFed (accepted h1) s i (accepted h2) t p
    → kind_of i.track (accepted h1) ≡ Layered id → p.kind ≡ Layered id → joined u (accepted h2) ≡ Some j → j.track ≡ t
    → (later since past : List Happened) (k : Frame TemplateStructure) (target : ℕ) (now : Wish)
    → IsRun id i (accepted h1) (events_for s i (accepted h1)) later since past k target now
    → JoinedBefore t u (accepted h2) (length (forwarded (sent (Layered id)) i.wish past))
    → RunsOn i.wish now since past k target j.wish (events_for u j (accepted h2))
