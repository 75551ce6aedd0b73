-- The packets that a subscriber took, by the answers to its takes. Own rule. The code stores only the last 1,024 packets.
use Rattle.std.specs.Prelude.{ℕ, ◌+◌, ◌==◌, if◌then◌else◌, List, [], ◌∷◌, ◌++◌}
use Rattle.sfu_base.specs.Answer.{Answer, Sent}
use Rattle.sfu_base.specs.declared.call.Call.{Call}
use Rattle.sfu_base.specs.declared.call.Call.TheVariants.{Join, Resend, Take}
use Rattle.room_core.specs.Replies.{answer}

-- the packets, followed by the packet of one more answer if the answer sends one
abbrev pub and_sent : List (List ℕ) → Answer → List (List ℕ)
and_sent packets (Sent bytes) = packets ++ bytes ∷ []
and_sent packets other = packets

-- the bytes that the takes of the subscriber with this number returned since it joined, the oldest first
abbrev pub given_to : ℕ → List Call → List (List ℕ)
given_to n [] = []
given_to n (Join subscriber track ssrc first wish ∷ past) = if subscriber == n then [] else given_to n past
given_to n (Take subscriber ∷ past) = if subscriber == n then and_sent (given_to n past) (answer past (Take subscriber)) else given_to n past
given_to n (call ∷ past) = given_to n past

-- the number of packets that the accepted resends of the subscriber with this number returned since it joined
abbrev pub resends_of : ℕ → List Call → ℕ
resends_of n [] = 0
resends_of n (Join subscriber track ssrc first wish ∷ past) = if subscriber == n then 0 else resends_of n past
resends_of n (Resend subscriber sequence ∷ past) = if subscriber == n then resends_of n past + 1 else resends_of n past
resends_of n (call ∷ past) = resends_of n past
