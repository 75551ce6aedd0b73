-- The feedback of a datagram that remains after a cursor (own rule, over RFC 4585, sections 6.2.1 and 6.3.1).
use Rattle.std.specs.Prelude.{◌≡◌, ℕ, ◌≤◌, List, ◌++◌, length, drop, slice_range, None}
use Rattle.rtcp_feedback.specs.declared.feedback.Feedback.{Feedback}
use Rattle.rtcp_feedback.specs.declared.cursor.Cursor.{Cursor}
use Rattle.rtcp_feedback.specs.Faults.{fault_among, packets_in}
use Rattle.rtcp_feedback.specs.Names.{names_in}
use Rattle.rtcp_feedback.specs.Reading.{nacks, feedback_of}
use Rattle.rtcp_feedback.specs.Seen.{names_left}

-- the numbers of the current pair, then those of the NACK's remaining pairs, then the feedback of the packets after the NACK
abbrev pub left_at : List ℕ → Cursor → List Feedback
left_at bytes s = nacks s.media (names_left s.names) ++ (nacks s.media (names_in (slice_range bytes s.pairs s.end)) ++ feedback_of (drop s.packets bytes))

-- the cursor lies in the datagram, and no packet after it has a fault
pub record LiesIn (bytes : List ℕ) (s : Cursor) : Type 0 where
  pub begins : s.pairs ≤ s.end
  pub ends : s.end ≤ length bytes
  pub packets : s.packets ≤ length bytes
  pub faultless : fault_among (packets_in (drop s.packets bytes)) ≡ None
