-- The answer to a control line's call is a text.
use Rattle.std.proofs.Common.{◌≡◌, ℕ, Bool, true, false, List, refl, ap}
use Rattle.std.specs.Prelude.{Option, None, Some, Result, Ok, Err}
use Rattle.sfu_base.specs.Answer.{Answer, Done, Sent, Named, KeyIs, answer_of, is_starved}
use Rattle.sfu_base.specs.declared.call.Call.{Call}
use Rattle.sfu_base.specs.declared.call.Call.TheVariants as call
use Rattle.sfu_base.specs.declared.call.Kind.{Kind}
use Rattle.sfu_base.specs.declared.call.Kind.TheVariants.{Plain, Layered}
use Rattle.sfu_base.specs.declared.call.Refusal.{Refusal}
use Rattle.sfu_base.specs.declared.call.Reply.{Reply}
use Rattle.sfu_base.specs.declared.call.Reply.TheVariants as reply
use Rattle.sfu_base.specs.declared.frame.Verdict.{Verdict}
use Rattle.sfu_script.specs.Replies.{IsShort}
use Rattle.room_core.specs.History.{Entry, reply_of, accepted}
use Rattle.room_core.specs.Live.{Published, Joined, published, joined, highest_track, live_tracks, highest_subscriber, live_subscribers}
use Rattle.room_core.specs.Replies.{answer, done_or, of_track, of_subscriber, cause_answer, plain_refused, plead_answer, publish_refusal, join_refusal}
use Rattle.room_core.specs.Views.{key_wanted_on}
use Rattle.std.specs.Prelude.{is_some}
use Rattle.session_steps.specs.Datagrams.{is_control}

-- an answer that is neither a packet nor numbers
unfoldable pub is_short : Answer → Bool
is_short (Sent bytes) = false
is_short (Named numbers) = false
is_short other = true

pub done_short : (o : Option Refusal) → is_short (done_or o) ≡ true
unfolding is_short
done_short None = refl
done_short (Some why) = refl

pub track_short : (o : Option Published) (f : Published → Answer) → ((p : Published) → is_short (f p) ≡ true) → is_short (of_track o f) ≡ true
unfolding is_short
track_short None f all = refl
track_short (Some p) f all = all p

subscriber_short : (o : Option Joined) (f : Joined → Answer) → ((j : Joined) → is_short (f j) ≡ true) → is_short (of_subscriber o f) ≡ true
unfolding is_short
subscriber_short None f all = refl
subscriber_short (Some j) f all = all j

kind_short : (kind : Kind) → is_short (plain_refused kind) ≡ true
unfolding is_short
kind_short Plain = refl
kind_short (Layered id) = refl

plead_short : (o : Option Published) → is_short (plead_answer o) ≡ true
unfolding is_short
plead_short None = refl
plead_short (Some p) = kind_short p.kind

cause_short : (r : Result Verdict Refusal) → is_short (cause_answer r) ≡ true
unfolding is_short
cause_short (Ok verdict) = refl
cause_short (Err why) = refl

pub control_short : (past : List Call) (said : Call) → is_control said ≡ true → is_short (answer past said) ≡ true
unfolding is_short
control_short past (call.Publish track kind ssrc hold) e = done_short (publish_refusal (highest_track past) (live_tracks past) track kind)
control_short past (call.Unpublish track) e = track_short (published track past) (λ p. Done) (λ p. refl)
control_short past (call.Packet track moment bytes) e = absurd (cc e)
control_short past (call.Tick track moment) e = absurd (cc e)
control_short past (call.Join subscriber track ssrc first wish) e = done_short (join_refusal (is_some (published track past)) (highest_subscriber past) (live_subscribers past) subscriber)
control_short past (call.Leave subscriber) e = subscriber_short (joined subscriber past) (λ j. Done) (λ j. refl)
control_short past (call.Aim subscriber wish) e = subscriber_short (joined subscriber past) (λ j. Done) (λ j. refl)
control_short past (call.Take subscriber) e = absurd (cc e)
control_short past (call.Resend subscriber seq) e = absurd (cc e)
control_short past (call.Missing track) e = absurd (cc e)
control_short past (call.KeyWanted track) e = track_short (published track past) (λ p. KeyIs (key_wanted_on p.kind track past)) (λ p. refl)
control_short past (call.Plead subscriber) e = subscriber_short (joined subscriber past) (λ j. plead_answer (published j.track past)) (λ j. plead_short (published j.track past))
control_short past (call.Why subscriber number) e = subscriber_short (joined subscriber past) _ (λ j. cause_short _)

not_long : (long short : Answer) → long ≡ short → is_short long ≡ false → is_short short ≡ true → ⊥
not_long long short same isnt did = cc (ap is_short same, isnt, did)

pub has_text : (said : Call) (given : Reply) (bytes numbers : List ℕ) → is_control said ≡ true
    → (is_starved given ≡ false → (history : List Entry) × (answer_of given bytes numbers ≡ reply_of history said)) → IsShort given
unfolding is_short
has_text said reply.Packet bytes numbers control is = let at = is refl in absurd (not_long (Sent bytes) (reply_of at.0 said) at.1 refl (control_short (accepted at.0) said control))
has_text said reply.Names bytes numbers control is = let at = is refl in absurd (not_long (Named numbers) (reply_of at.0 said) at.1 refl (control_short (accepted at.0) said control))
has_text said reply.Done bytes numbers control is = tt
has_text said (reply.Key wanted) bytes numbers control is = tt
has_text said (reply.Cause verdict) bytes numbers control is = tt
has_text said (reply.Refused why) bytes numbers control is = tt
