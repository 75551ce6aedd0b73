-- The replies to the lines of a script with bundles, as text. Own rule.
use Rattle.std.specs.Prelude.{ℕ, List, [], ◌∷◌, ◌++◌, Result, Ok, Err, take}
use Rattle.sfu_base.specs.Answer.{Done, Refused, Sent}
use Rattle.sfu_base.specs.declared.call.Refusal.TheVariants as refusal
use Rattle.script_texts.specs.Replies.{answer_text}
use Rattle.bundle_lines.specs.Replies.{bundle_reply_text}
use Rattle.bundle_lines.specs.declared.line.BundleLine.{BundleLine}
use Rattle.bundle_lines.specs.declared.line.BundleLine.TheVariants as line
use Rattle.bundle_lines.specs.declared.replies.BundleReply.TheVariants as reply
use Rattle.simulcast.specs.declared.fault.BundleFault.{BundleFault}
use Rattle.simulcast.specs.declared.fault.BundleFault.TheVariants as fault
use Rattle.simulcast.specs.declared.pumped.Pumped.{Pumped}
use Rattle.simulcast.specs.Answers.{Answered, bundle_made, bundle_pumped, leg_chosen, packet_drawn, packet_redrawn, room_called}
use Rattle.simulcast.specs.Bundles.{Simulcast}
use Rattle.simulcast.specs.Made.{just_made}

-- the reason why a line was refused; a refusal that a room has too is written as the room's is
abbrev pub fault_text : BundleFault → List ℕ
fault_text fault.NoBundle = bundle_reply_text reply.NoBundle
fault_text (fault.NumberUsed highest) = answer_text (Refused (refusal.NumberUsed highest))
fault_text (fault.TooMany live) = answer_text (Refused (refusal.TooMany live))
fault_text (fault.NoLeg legs) = bundle_reply_text (reply.NoLeg legs)
fault_text fault.WrongKind = bundle_reply_text reply.WrongKind
fault_text (fault.Bound bundle) = bundle_reply_text (reply.Bound bundle)
fault_text (fault.Room why) = answer_text (Refused why)
fault_text fault.NoMemory = answer_text (Refused refusal.NoMemory)

-- ---- the replies

abbrev pub done_text : Unit {0} → List ℕ
done_text done = answer_text Done

abbrev pub packet_text : List ℕ → List ℕ
packet_text packet = answer_text (Sent packet)

abbrev pub pumped_text : Pumped → List ℕ
pumped_text counts = bundle_reply_text (reply.Pumped counts.forwarded counts.dropped)

abbrev pub answered_text : {A : Type 0} → (A → List ℕ) → Result A BundleFault → List ℕ
answered_text text (Ok answer) = text answer
answered_text text (Err why) = fault_text why

-- the output line for a line of a script, and the state after it
pub record Replied : Type 0 where
  pub reply : List ℕ
  pub after : Simulcast

abbrev pub replied : {A : Type 0} → (A → List ℕ) → Answered A → Replied
replied text answered = record { reply = answered_text text answered.answer ++ 10 ∷ []; after = answered.after }

abbrev pub line_replied : BundleLine → Simulcast → Replied
line_replied (line.Room call) h = replied answer_text (room_called call h)
line_replied (line.Bundle bundle id ssrc first legs count) h = replied done_text (bundle_made (just_made bundle id ssrc first (take count legs)) h)
line_replied (line.Choose bundle leg) h = replied done_text (leg_chosen bundle leg h)
line_replied (line.Pump bundle) h = replied pumped_text (bundle_pumped bundle h)
line_replied (line.Draw bundle) h = replied packet_text (packet_drawn bundle h)
line_replied (line.Redraw bundle seq) h = replied packet_text (packet_redrawn bundle seq h)
