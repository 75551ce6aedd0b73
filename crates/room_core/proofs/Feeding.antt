-- The effect of each packet and frame on the code's state for a subscriber, and on what is reported of it.
use Rattle.std.proofs.Common.{◌≡◌, ◌≤◌, ◌<◌, ℕ, Bool, true, false, List, [], ◌∷◌, length, map, refl, sym, ap, subst, ◌∙◌, ◌||◌, arith, Some}
use Rattle.std.proofs.lemmas.List.{length-map}
use Rattle.sfu_base.specs.declared.call.Kind.{Kind}
use Rattle.sfu_base.specs.declared.frame.FrameMeaning.{FrameMeaning}
use Rattle.sfu_base.specs.declared.frame.Step.{Step}
use Rattle.sfu_base.specs.declared.frame.Verdict.{Verdict}
use Rattle.sfu_base.specs.declared.frame.Verdict.TheVariants.{Passed}
use Rattle.sfu_base.specs.declared.frame.Wish.{Wish}
use Rattle.rtp_packet.specs.Fields.{marker_of}
use Rattle.forwarding_model.specs.Lists.{IsMember}
use Rattle.forwarding_model.specs.declared.target.CurrentTarget.{CurrentTarget}
use Rattle.forwarding_model.specs.forwarding.Selection.{open_target}
use Rattle.forwarding_model.specs.forwarding.Timeline.{Packet, Frame, meanings_of, takes_of}
use Rattle.forwarding_model.specs.forwarding.Timeline.Event.{WholeFrame, PlainPacket}
use Rattle.forwarding_model.specs.frames.TrackFrames.{IsOneTrack, Precedes}
use Rattle.forwarding_model.specs.forwarding.Standing.{Standing, after_frame, candidate_at, has_passed, key_passed, passes_at, standing, target_at, verdict_at}
use Rattle.forwarding_model.specs.forwarding.Outgoing.{Subscriber, is_top_layer, outgoing, queue}
use Rattle.forwarding_model.specs.forwarding.Causes.{verdicts}
use Rattle.forwarding_laws.proofs.Members.{each_member, each_weaker}
use Rattle.forwarding_laws.proofs.Outgoings.{queued_is}
use Rattle.forwarding_laws.proofs.OutgoingWords.{nothing_else_goes_out, passing_frames_go_out}
use Rattle.forwarding_laws.proofs.Plains.{full_takes_none, plain_goes_out}
use Rattle.forwarding_laws.proofs.Sound.{sound}
use Rattle.forwarding_laws.proofs.StandingSteps.{plain_packets_are_queued}
use Rattle.forwarding_laws.proofs.Takings.{takes_fit}
use Rattle.forwarding_laws.proofs.Verdicts.{passes_from_verdict, verdict_from_passes}
use Rattle.dd_structure.specs.TemplateStructure.{TemplateStructure}
use Rattle.packet_format.specs.Packets.{bytes_of, packet_of}
use Rattle.out_ring.specs.Ring.{Ring, pushed}
use Rattle.cause_book.specs.Book.{AreFalling, IsAboveAll as IsAboveSteps, IsAfter}
use Rattle.cause_book.proofs.Modelled.{keeps_causes}
use Rattle.target_selector.specs.Seen.{Seen as Selecting}
use Rattle.track_core.specs.Track.{Seen}
use Rattle.target_selector.specs.Stands.{IsAboveAll, StandsFor, is_opening_at}
use Rattle.room_core.specs.Sent.{opens, sent}
use Rattle.target_selector.specs.Masks.{mask_for}
use Rattle.target_selector.specs.Reaching.{targets_of}
use Rattle.room_core.specs.declared.feed.Feed.{Feed}
use Rattle.room_core.specs.Follows.{Follows, FollowsFrame, FollowsPacket, Happened, IsRingOf, PushesFrame, frame_by, pushed_all, carries_mask_by}
use Rattle.room_core.specs.Counts.{and_left_out, with_frame}
use Rattle.room_core.specs.declared.counts.FeedCounts.{FeedCounts}
use Rattle.room_core.proofs.Counting.{frame_counted, left_out_counted, queued_counted}
use Rattle.room_core.proofs.Rings.{pushed_is, ring_grows}
use Rattle.room_core.proofs.Opened.{opens_here, target_here}
use Rattle.room_core.proofs.SentMarked.{queued_by, sends_frame, sent_keeps_count}

-- the selector doesn't know what is queued
pub stands_queued : (x : Selecting) (s : Standing) (queued : ℕ) → StandsFor x s → StandsFor x (record s { queued = queued })
stands_queued x s queued h = record { wish = h.wish; epoch = h.epoch; target = h.target; key_passed = h.key_passed; numbers = h.numbers }

-- the number of queued packets is that of the standing
pub queued_same : (kind : Kind) (feed : Feed) (to : Subscriber) (events : List Happened) → Follows kind feed to events
    → (standing to.wish events).queued ≡ length feed.ring.queued
queued_same kind feed to events h =
    queued_is (sent kind) to events (sent_keeps_count kind) h.finds ∙ sym (ap length h.ring.queued ∙ length-map (queue (sent kind) to events) bytes_of)

-- ---- packets of plain tracks

pub packet_passes : (feed : Feed) (ring : Ring) (bytes : List ℕ) → 12 ≤ length bytes → length feed.ring.queued < 512 → ring ≡ pushed bytes (marker_of bytes) feed.ring
    → FollowsPacket feed (record feed { ring = ring }) bytes
packet_passes feed ring bytes long room now kind to events h =
    let few : (standing to.wish events).queued < 512 = let e = queued_same kind feed to events h in omega (arith, e, room) in
    let out : List Packet = outgoing (sent kind) to events in
    record {
      kind_is = h.kind_is;
      selector = subst (λ (s : Standing). StandsFor feed.selector s) (sym ((plain_packets_are_queued to.wish (packet_of bytes) events).0 few))
          (stands_queued feed.selector (standing to.wish events) _ h.selector);
      newest_is = h.newest_is;
      ring = subst (λ (r : Ring). IsRingOf r to (takes_of events) (outgoing (sent kind) to (PlainPacket (packet_of bytes) ∷ events)))
          (sym (now ∙ pushed_is bytes (marker_of bytes) feed.ring long))
          (subst (λ (l : List Packet). IsRingOf (pushed_all (packet_of bytes ∷ []) feed.ring) to (takes_of events) l)
          (sym (plain_goes_out (sent kind) to (packet_of bytes) events few))
          (ring_grows feed.ring to (takes_of events) out (packet_of bytes ∷ []) (takes_fit (sent kind) to events h.finds) h.ring));
      causes = h.causes;
      counts_are = h.counts_are ∙ queued_counted to.wish (packet_of bytes) events few;
      finds = h.finds;
    }

pub packet_is_left_out : (feed : Feed) (counts : FeedCounts) (bytes : List ℕ) → 512 ≤ length feed.ring.queued → counts ≡ and_left_out feed.counts
    → FollowsPacket feed (record feed { counts = counts }) bytes
packet_is_left_out feed counts bytes full counted kind to events h =
    let many : 512 ≤ (standing to.wish events).queued = let e = queued_same kind feed to events h in omega (arith, e, full) in
    record {
      kind_is = h.kind_is;
      selector = subst (λ (s : Standing). StandsFor feed.selector s) (sym ((plain_packets_are_queued to.wish (packet_of bytes) events).1 many)) h.selector;
      newest_is = h.newest_is;
      ring = subst (λ (l : List Packet). IsRingOf feed.ring to (takes_of events) l) (sym (full_takes_none (sent kind) to (packet_of bytes) events many)) h.ring;
      causes = h.causes;
      counts_are = counted ∙ ap and_left_out h.counts_are ∙ left_out_counted to.wish (packet_of bytes) events many;
      finds = h.finds;
    }

-- ---- frames

-- the passed frames of the epoch are below the next frame of the track
pub lies_above : (meaning : FrameMeaning) (wish : Wish) (events : List Happened) → IsOneTrack (meaning ∷ meanings_of events) → IsAboveAll meaning (standing wish events)
lies_above meaning wish events track =
    each_weaker (λ g. IsMember g (meanings_of events)) (λ g. g.number < meaning.number) (standing wish events).epoch_passed
    (λ g member. (each_member (Precedes meaning) (meanings_of events) g track.1 member).rises) (sound wish events track.2).known

-- the results of the calls for a frame of these packets
pub record Judges (old new : Feed) (meaning : FrameMeaning) (packets : List (List ℕ)) (count queued : ℕ) (verdict : Verdict) : Type 0 where
  pub kind_is : new.kind ≡ old.kind
  pub newest_is : new.selector.newest ≡ Some (targets_of meaning)
  pub counts_are : new.counts ≡ with_frame verdict old.counts
  pub count_is : count ≡ length packets
  pub queued_is : queued ≡ length old.ring.queued
  pub verdict_is : (s : Standing) → StandsFor old.selector s → IsAboveAll meaning s → s.queued ≡ queued → verdict ≡ verdict_at s meaning count
  pub stands : (s : Standing) → StandsFor old.selector s → IsAboveAll meaning s → s.queued ≡ queued → StandsFor new.selector (after_frame s meaning count)
  pub written : (steps : List Step) → IsAfter old.causes steps → IsAboveSteps meaning.number steps
      → IsAfter new.causes (record { number = meaning.number; verdict = verdict } ∷ steps)

-- these results at a standing, over the verdicts before
record JudgesAt (new : Feed) (s : Standing) (steps : List Step) (meaning : FrameMeaning) (packets : ℕ) (verdict : Verdict) : Type 0 where
  verdict_is : verdict ≡ verdict_at s meaning packets
  stands : StandsFor new.selector (after_frame s meaning packets)
  written : IsAfter new.causes (record { number = meaning.number; verdict = verdict_at s meaning packets } ∷ steps)

judges_at : (kind : Kind) (old new : Feed) (meaning : FrameMeaning) (structure : TemplateStructure) (packets : List (List ℕ)) (count queued : ℕ) (verdict : Verdict)
    (to : Subscriber) (events : List Happened)
    → Judges old new meaning packets count queued verdict → IsOneTrack (meaning ∷ meanings_of events) → Follows kind old to events
    → JudgesAt new (standing to.wish events) (verdicts to.wish events) meaning (length (map packet_of packets)) verdict
judges_at kind old new meaning structure packets count queued verdict to events j track h =
    let s : Standing = standing to.wish events in
    let steps : List Step = verdicts to.wish events in
    let above : IsAboveAll meaning s = lies_above meaning to.wish events track in
    let waits : s.queued ≡ queued = queued_same kind old to events h ∙ sym j.queued_is in
    let size : count ≡ length (map packet_of packets) = j.count_is ∙ sym (length-map packets packet_of) in
    let is : verdict ≡ verdict_at s meaning (length (map packet_of packets)) =
    j.verdict_is s h.selector above waits ∙ ap (λ (k : ℕ). verdict_at s meaning k) size in
    let falling : AreFalling (verdicts to.wish (WholeFrame (frame_by meaning structure packets) ∷ events)) =
    (keeps_causes to.wish (WholeFrame (frame_by meaning structure packets) ∷ events) track).0 in
    record {
      verdict_is = is;
      stands = subst (λ (k : ℕ). StandsFor new.selector (after_frame s meaning k)) size (j.stands s h.selector above waits);
      written = subst (λ (v : Verdict). IsAfter new.causes (record { number = meaning.number; verdict = v } ∷ steps)) is (j.written steps h.causes falling.0);
    }

judges_follow : (kind : Kind) (old new : Feed) (meaning : FrameMeaning) (structure : TemplateStructure) (packets : List (List ℕ)) (verdict : Verdict)
    (to : Subscriber) (events : List Happened)
    → new.kind ≡ old.kind → new.selector.newest ≡ Some (targets_of meaning) → new.counts ≡ with_frame verdict old.counts → JudgesAt new (standing to.wish events) (verdicts to.wish events) meaning (length (map packet_of packets)) verdict
    → Follows kind old to events
    → IsRingOf new.ring to (takes_of events) (outgoing (sent kind) to (WholeFrame (frame_by meaning structure packets) ∷ events))
    → Follows kind new to (WholeFrame (frame_by meaning structure packets) ∷ events)
judges_follow kind old new meaning structure packets verdict to events same newest counts at h ring =
    record {
      kind_is = same ∙ h.kind_is;
      selector = at.stands;
      newest_is = newest;
      ring = ring;
      causes = at.written;
      counts_are = counts ∙ ap (with_frame verdict) h.counts_are ∙ frame_counted to.wish (frame_by meaning structure packets) events verdict at.verdict_is;
      finds = h.finds;
    }

passes_where : (s : Standing) (f : FrameMeaning) (packets : ℕ) → verdict_at s f packets ≡ Passed → passes_at s f packets ≡ true
passes_where s f packets h = passes_from_verdict (has_passed s f) (key_passed s f) s.wish f (target_at s f) s.queued packets h

passed_where : (s : Standing) (f : FrameMeaning) (packets : ℕ) → passes_at s f packets ≡ true → verdict_at s f packets ≡ Passed
passed_where s f packets h = verdict_from_passes (has_passed s f) (key_passed s f) s.wish f (target_at s f) s.queued packets h

-- the results of the calls for the packets of a frame that passed
pub record Queues (old new : Feed) (meaning : FrameMeaning) (track : Seen) (queued : ℕ) (is_top is_remasked : Bool) (mask : ℕ) : Type 0 where
  pub pushes : PushesFrame old.ring new.ring (queued_by is_remasked track.layers mask track.packets) is_top
  pub top : (s : Standing) → StandsFor old.selector s → IsAboveAll meaning s → s.queued ≡ queued → is_top ≡ is_top_layer meaning (candidate_at s meaning)
  pub carries_mask : (s : Standing) → StandsFor old.selector s → IsAboveAll meaning s → s.queued ≡ queued → is_remasked ≡ (is_opening_at s meaning || carries_mask_by track.layers track.packets)
  pub mask_is : is_remasked ≡ true → (s : Standing) → StandsFor new.selector s → mask ≡ mask_for meaning (open_target s.target)

pub frame_passes : (old new : Feed) (meaning : FrameMeaning) (track : Seen) (count queued : ℕ) (verdict : Verdict) (is_top is_remasked : Bool) (mask : ℕ)
    → Judges old new meaning track.packets count queued verdict → verdict ≡ Passed → Queues old new meaning track queued is_top is_remasked mask → FollowsFrame old new meaning track
frame_passes old new meaning track count queued verdict is_top is_remasked mask j passed q kind to structure events is force one h =
    let s : Standing = standing to.wish events in
    let frame : Frame TemplateStructure = frame_by meaning structure track.packets in
    let n : ℕ = length (map packet_of track.packets) in
    let at = judges_at kind old new meaning structure track.packets count queued verdict to events j one h in
    let passes : passes_at s meaning n ≡ true = passes_where s meaning n (sym at.verdict_is ∙ passed) in
    let target : CurrentTarget = candidate_at s meaning in
    let sends : List Packet = sent kind frame target in
    let above : IsAboveAll meaning s = lies_above meaning to.wish events one in
    let waits : s.queued ≡ queued = queued_same kind old to events h ∙ sym j.queued_is in
    let carries_mask : is_remasked ≡ (opens meaning target || carries_mask_by track.layers track.packets) =
    q.carries_mask s h.selector above waits ∙ ap (λ (b : Bool). b || carries_mask_by track.layers track.packets) (opens_here to.wish events meaning one) in
    let now : new.ring ≡ pushed_all sends old.ring =
    sends_frame kind old.ring new.ring meaning structure track is_top is_remasked mask target is force (q.top s h.selector above waits) carries_mask
    (λ so. q.mask_is so (after_frame s meaning n) at.stands ∙ ap (λ (t : CurrentTarget). mask_for meaning (open_target t)) (target_here s meaning n passes)) q.pushes in
    judges_follow kind old new meaning structure track.packets verdict to events j.kind_is j.newest_is j.counts_are at h
    (subst (λ (r : Ring). IsRingOf r to (takes_of events) (outgoing (sent kind) to (WholeFrame frame ∷ events))) (sym now)
    (subst (λ (l : List Packet). IsRingOf (pushed_all sends old.ring) to (takes_of events) l) (sym (passing_frames_go_out (sent kind) to frame events passes))
    (ring_grows old.ring to (takes_of events) (outgoing (sent kind) to events) sends (takes_fit (sent kind) to events h.finds) h.ring)))

not_passed : (b : Bool) (v : Verdict) → (b ≡ true → v ≡ Passed) → (v ≡ Passed → ⊥) → b ≡ false
not_passed true v h none = absurd (none (h refl))
not_passed false v h none = refl

pub frame_is_withheld : (old new : Feed) (meaning : FrameMeaning) (track : Seen) (count queued : ℕ) (verdict : Verdict)
    → Judges old new meaning track.packets count queued verdict → (verdict ≡ Passed → ⊥) → new.ring ≡ old.ring → FollowsFrame old new meaning track
frame_is_withheld old new meaning track count queued verdict j withheld now kind to structure events is force one h =
    let s : Standing = standing to.wish events in
    let frame : Frame TemplateStructure = frame_by meaning structure track.packets in
    let n : ℕ = length (map packet_of track.packets) in
    let at = judges_at kind old new meaning structure track.packets count queued verdict to events j one h in
    let fails : passes_at s meaning n ≡ false =
    not_passed (passes_at s meaning n) (verdict_at s meaning n) (passed_where s meaning n) (λ e. withheld (at.verdict_is ∙ e)) in
    judges_follow kind old new meaning structure track.packets verdict to events j.kind_is j.newest_is j.counts_are at h
    (subst (λ (r : Ring). IsRingOf r to (takes_of events) (outgoing (sent kind) to (WholeFrame frame ∷ events))) (sym now)
    (subst (λ (l : List Packet). IsRingOf old.ring to (takes_of events) l) (sym ((nothing_else_goes_out (sent kind) to frame to.wish events).0 fails)) h.ring))
