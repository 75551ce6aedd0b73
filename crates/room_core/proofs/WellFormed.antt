-- Accepted calls are well formed.
use Rattle.std.proofs.Common.{◌≡◌, ℕ, Bool, true, false, cond, List, ◌∷◌, Option, Some, None, refl, sym, length, true≢false}
use Rattle.std.specs.Prelude.{nat_lt}
use Rattle.sfu_base.specs.declared.call.Call.{Call}
use Rattle.sfu_base.specs.declared.call.Call.TheVariants as call
use Rattle.sfu_base.specs.declared.call.Refusal.TheVariants as refusal
use Rattle.sfu_base.specs.declared.call.RtpFault.{RtpFault}
use Rattle.rtp_packet.specs.Faults.{first_fault}
use Rattle.reorder_window.specs.Order.{Order}
use Rattle.track_core.specs.Track.{first_refusal, read_refusal}
use Rattle.room_core.specs.Live.{Published, published}
use Rattle.room_core.specs.TrackHistory.{order_at}
use Rattle.room_core.specs.Replies.{answer, done_or, of_track}
use Rattle.room_core.specs.History.{after, is_accepted}
use Rattle.room_core.specs.WellFormed.{AreWellFormed, IsValue, IsWellFormed}

-- a packet that isn't refused is RTP
reads_by : (big : Bool) (fault : Option RtpFault) (ssrc : ℕ) (order : Order) (bytes : List ℕ)
    → is_accepted (done_or (cond big (Some (refusal.TooBig (length bytes))) (read_refusal ssrc order fault bytes))) ≡ true → fault ≡ None
reads_by true fault ssrc order bytes e = absurd (true≢false (sym e))
reads_by false None ssrc order bytes e = refl
reads_by false (Some fault) ssrc order bytes e = absurd (true≢false (sym e))

packet_reads : (o : Option Published) (order : Order) (bytes : List ℕ) → is_accepted (of_track o (λ p. done_or (first_refusal p.ssrc order bytes))) ≡ true → first_fault bytes ≡ None
packet_reads None order bytes e = absurd (true≢false (sym e))
packet_reads (Some p) order bytes e = reads_by (nat_lt 1500 (length bytes)) (first_fault bytes) p.ssrc order bytes e

well_formed : (past : List Call) (c : Call) → IsValue c → is_accepted (answer past c) ≡ true → IsWellFormed c
well_formed past (call.Packet track moment bytes) value e = packet_reads (published track past) (order_at track past) bytes e
well_formed past (call.Join subscriber track ssrc first wish) value e = value
well_formed past (call.Publish track kind ssrc hold) value e = tt
well_formed past (call.Unpublish track) value e = tt
well_formed past (call.Tick track moment) value e = tt
well_formed past (call.Leave subscriber) value e = tt
well_formed past (call.Aim subscriber wish) value e = tt
well_formed past (call.Take subscriber) value e = tt
well_formed past (call.Resend subscriber sequence) value e = tt
well_formed past (call.Missing track) value e = tt
well_formed past (call.KeyWanted track) value e = tt
well_formed past (call.Plead subscriber) value e = tt
well_formed past (call.Why subscriber number) value e = tt

pub well_formed_after : (past : List Call) (c : Call) → IsValue c → AreWellFormed past → AreWellFormed (after (answer past c) c past)
well_formed_after past c value all = go (is_accepted (answer past c)) refl
  where
    go : (b : Bool) → is_accepted (answer past c) ≡ b → AreWellFormed (cond b (c ∷ past) past)
    go true e = (well_formed past c value e, all)
    go false e = all
