-- The feedback of a datagram that an iterator hasn't returned yet (own rule, over RFC 4585, sections 6.2.1 and 6.3.1). The code keeps the
-- remaining bytes and the bits of one pair.
use Rattle.std.specs.Prelude.{◌≡◌, ℕ, zero, suc, ◌+◌, ◌/◌, ◌%◌, ◌==◌, ◌≤◌, if◌then◌else◌, List, [], ◌∷◌, length, slice_range}
use Rattle.rtcp_feedback.specs.declared.feedback.Feedback.{Feedback}
use Rattle.rtcp_feedback.specs.declared.feedback.Feedback.TheVariants.{Pli}
use Rattle.rtcp_feedback.specs.declared.names.Names.{Names}
use Rattle.rtcp_feedback.specs.declared.packet.Body.{Body}
use Rattle.rtcp_feedback.specs.declared.packet.Body.TheVariants.{Nack as NackBody, Pli as PliBody, Other as OtherBody}
use Rattle.rtcp_feedback.specs.Names.{names_in}
use Rattle.rtcp_feedback.specs.Reading.{nacks}

-- the numbers from `next` on, modulo 65,536, whose bits are set; the lowest bit is that of `next`, and at most n bits are read
unfoldable pub marked : ℕ → ℕ → ℕ → List ℕ
marked zero next bits = []
marked (suc n) next bits =
    if bits % 2 == 1 then next ∷ marked n ((next + 1) % 65536) (bits / 2) else marked n ((next + 1) % 65536) (bits / 2)

-- the remaining numbers of a pair
abbrev pub names_left : Names → List ℕ
names_left names = marked 32 names.next names.bits

-- the feedback of a packet
abbrev pub body_feedback : Body → List Feedback
body_feedback (NackBody media pairs) = nacks media (names_in pairs.now)
body_feedback (PliBody media) = Pli media ∷ []
body_feedback OtherBody = []

-- how many bytes the pairs of a packet have
abbrev pub body_length : Body → ℕ
body_length (NackBody media pairs) = length pairs.now
body_length (PliBody media) = 0
body_length OtherBody = 0

-- the pairs of a packet are its bytes from byte 12 on
abbrev pub PairsStand : Body → List ℕ → Type 0
PairsStand (NackBody media pairs) bytes = (pairs.now ≡ slice_range bytes 12 (12 + length pairs.now)) × (12 + length pairs.now ≤ length bytes)
PairsStand body bytes = Unit {0}
