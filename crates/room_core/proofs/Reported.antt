-- The counts of a feed are those of its timeline.
use Rattle.std.proofs.Common.{◌≡◌, ◌+◌, ℕ, List, length, length-drop, ap, ap₂, subst, sym, ◌∙◌, arith, Option, Some, Ok, Result, nat_eq}
use Rattle.std.specs.Prelude.{min}
use Rattle.std.proofs.lemmas.List.{length-map}
use Rattle.indexmap.specs.IndexMap.{get}
use Rattle.sfu_base.specs.declared.call.Call.{Call}
use Rattle.sfu_base.specs.declared.call.Refusal.{Refusal}
use Rattle.forwarding_model.specs.forwarding.Outgoing.{outgoing, queue}
use Rattle.forwarding_model.specs.forwarding.Timeline.{Packet, takes_of}
use Rattle.forwarding_laws.proofs.Takings.{takes_fit}
use Rattle.packet_format.specs.Packets.{bytes_of}
use Rattle.room_core.specs.declared.counts.FeedCounts.{FeedCounts}
use Rattle.room_core.specs.declared.counts.SubscriberCounts.{SubscriberCounts}
use Rattle.room_core.specs.declared.feed.Feed.{Feed}
use Rattle.room_core.specs.Counts.{feed_counts, greatest_count, saturated}
use Rattle.room_core.specs.Content.{IsAfter}
use Rattle.room_core.specs.CountsOf.{HasCounts, subscriber_counts_for}
use Rattle.room_core.specs.CurrentTargets.{ok_of_subscriber}
use Rattle.room_core.specs.Given.{resends_of}
use Rattle.room_core.specs.Live.{Joined, joined, kind_of}
use Rattle.room_core.specs.Sent.{sent}
use Rattle.room_core.specs.Views.{events_for, subscriber_by}
use Rattle.room_core.specs.declared.content.Content.{Content}
use Rattle.room_core.specs.declared.live.LiveSubscriber.{LiveSubscriber}
use Rattle.room_core.proofs.Owning.{found_subscriber}

abbrev pub reported : FeedCounts → ℕ → ℕ → ℕ → SubscriberCounts
reported c queued waiting resent = record {
  passed = c.frames.passed;
  not_of_target = c.frames.not_of_target;
  behind = c.frames.behind;
  reference = c.frames.reference;
  full = c.frames.full;
  link = c.frames.link;
  unopened = c.frames.unopened;
  queued = queued;
  taken = c.taken;
  resent = resent;
  left_out = c.left_out;
  waiting = waiting;
}

pub counts_follow : (feed : Feed) (queued waiting resent : ℕ) → waiting ≡ length feed.ring.queued → queued ≡ min (feed.counts.taken + waiting) greatest_count
    → HasCounts feed resent (reported feed.counts queued waiting resent)
counts_follow feed queued waiting resent is sum kind to events resends h sent_again =
    let out : List Packet = outgoing (sent kind) to events in
    let fit = takes_fit (sent kind) to events h.finds in
    let waits : waiting ≡ length (queue (sent kind) to events) = is ∙ ap length h.ring.queued ∙ length-map (queue (sent kind) to events) bytes_of in
    let taken : feed.counts.taken ≡ saturated (takes_of events) = ap (λ (c : FeedCounts). c.taken) h.counts_are in
    let total : queued ≡ saturated (length out) = omega (arith, sum, waits, taken, fit, length-drop (takes_of events) out) in
    ap (λ (c : FeedCounts). reported c queued waiting resent) h.counts_are
    ∙ ap₂ (λ (q w : ℕ). reported (feed_counts to.wish events) q w resent) total waits
    ∙ ap (reported (feed_counts to.wish events) (saturated (length out)) (length (queue (sent kind) to events))) sent_again

pub subscriber_reported : (content : Content) (n : ℕ) (known : LiveSubscriber) (feed : Feed) (result : SubscriberCounts) (past : List Call)
    → Some known ≡ get nat_eq content.subscribers n → feed ≡ known.feed.value → HasCounts feed known.resent result → IsAfter content past
    → ◌≡◌ {A = Result SubscriberCounts Refusal} (Ok result) (ok_of_subscriber (joined n past) (λ j. subscriber_counts_for n j past))
subscriber_reported content n known feed result past found same counts after =
    let there = found_subscriber content past n known found after in
    let counted : result ≡ subscriber_counts_for n there.0 past =
    subst (λ (f : Feed). HasCounts f known.resent result) same counts (kind_of there.0.track past) (subscriber_by there.0) (events_for n there.0 past) (resends_of n past)
    there.2.follows there.2.resent_is in
    ap (λ (k : SubscriberCounts). let answer : Result SubscriberCounts Refusal = Ok k in answer) counted
    ∙ sym (ap (λ (o : Option Joined). ok_of_subscriber o (λ j. subscriber_counts_for n j past)) there.1)
