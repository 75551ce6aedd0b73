-- The sent packets, read as bytes, are the packets of the model: sequence number, SSRC and marker are written over a packet of valid RTP.
use Rattle.std.proofs.Common.{◌≡◌, ◌≤◌, ◌<◌, ◌+◌, ◌%◌, ◌^◌, ℕ, Bool, true, false, cond, List, [], ◌∷◌, ◌++◌, length, map, drop, refl, sym, ap, ap₂, subst, ◌∙◌, Option, Some, arith}
use Rattle.std.specs.List.{AllByRecursion}
use Rattle.sfu_base.specs.declared.call.Kind.{Kind}
use Rattle.sfu_base.specs.declared.frame.Wish.{Wish}
use Rattle.rtp_packet.specs.Fields.{sequence_of}
use Rattle.rtp_packet.specs.Faults.{first_fault}
use Rattle.rtp_packet.specs.Rewritten.{rewritten}
use Rattle.rtp_packet.proofs.Faultless.{header_there}
use Rattle.rtp_packet.proofs.Rewriting.{same_fault}
use Rattle.forwarding_model.specs.forwarding.Timeline.{Packet}
use Rattle.forwarding_model.specs.forwarding.Timeline.Event.{WholeFrame, PlainPacket, WishChange, Take}
use Rattle.forwarding_model.specs.forwarding.Standing.{candidate_at, passes_at, plain_passes, standing}
use Rattle.forwarding_model.specs.forwarding.Outgoing.{AreConsecutive, Subscriber, forwarded, numbered, outgoing}
use Rattle.packet_format.specs.Packets.{bytes_of, packet_of, read_packet, without_fault}
use Rattle.packet_format.proofs.Packets.{packets_sent}
use Rattle.track_core.proofs.TakenPieces.{all_append, all_front}
use Rattle.room_core.specs.Sent.{sent}
use Rattle.room_core.specs.Follows.{Happened}
use Rattle.room_core.specs.SentBytes.{AreInOrder}
use Rattle.room_core.proofs.CameIn.{CameIn, HasCome}
use Rattle.room_core.proofs.Senders.{IsSendable, sent_sendable}

-- ---- forwarded packets

came_sendable : (p : Packet) → CameIn p → IsSendable p
came_sendable p came = record { bytes = came.bytes; reads = came.reads; rest_is = ap (λ (q : Packet). q.rest) came.is }

either_sendable : (b : Bool) (xs ys : List Packet) → AllByRecursion IsSendable xs → AllByRecursion IsSendable ys → AllByRecursion IsSendable (cond b xs ys)
either_sendable true xs ys h k = h
either_sendable false xs ys h k = k

forwarded_sendable : (kind : Kind) (wish : Wish) (events : List Happened) → AllByRecursion HasCome events → AllByRecursion IsSendable (forwarded (sent kind) wish events)
forwarded_sendable kind wish [] all = tt
forwarded_sendable kind wish (WholeFrame frame ∷ past) all =
    let before = forwarded_sendable kind wish past all.1 in
    let target = candidate_at (standing wish past) frame.meaning in
    either_sendable (passes_at (standing wish past) frame.meaning (length frame.packets)) (forwarded (sent kind) wish past ++ sent kind frame target) (forwarded (sent kind) wish past)
    (all_append IsSendable (forwarded (sent kind) wish past) (sent kind frame target) before (sent_sendable kind frame target all.0)) before
forwarded_sendable kind wish (PlainPacket packet ∷ past) all =
    let before = forwarded_sendable kind wish past all.1 in
    either_sendable (plain_passes (standing wish past)) (forwarded (sent kind) wish past ++ packet ∷ []) (forwarded (sent kind) wish past)
    (all_append IsSendable (forwarded (sent kind) wish past) (packet ∷ []) before (came_sendable packet all.0, tt)) before
forwarded_sendable kind wish (WishChange changed ∷ past) all = forwarded_sendable kind wish past all.1
forwarded_sendable kind wish (Take ∷ past) all = forwarded_sendable kind wish past all.1

-- ---- and their bytes

-- the packet's bytes are read as the packet
pub record ReadsBack (p : Packet) : Type 0 where
  pub read : read_packet (bytes_of p) ≡ Some p
  pub number : sequence_of (bytes_of p) ≡ p.sequence_number

reads_back : (s ssrc : ℕ) (marker : Bool) (p : Packet) → s < 2 ^ 16 → ssrc < 2 ^ 32 → IsSendable p
    → ReadsBack (record { sequence_number = s; ssrc = ssrc; marker = marker; rest = p.rest })
reads_back s ssrc marker p few fits sendable =
    let b : List ℕ = sendable.bytes in
    let long : 12 ≤ length b = header_there b sendable.reads in
    let q : Packet = record { sequence_number = s; ssrc = ssrc; marker = marker; rest = p.rest } in
    let over : bytes_of q ≡ rewritten s ssrc marker b =
    ap (rewritten s ssrc marker) sendable.rest_is ∙ packets_sent.elsewhere s ssrc marker b long in
    let again : packet_of (rewritten s ssrc marker b) ≡ q =
    packets_sent.again s ssrc marker b long few fits
    ∙ ap (λ (rest : List ℕ). let r : Packet = record { sequence_number = s; ssrc = ssrc; marker = marker; rest = rest } in r) (sym sendable.rest_is) in
    let whole : packet_of (bytes_of q) ≡ q = ap packet_of over ∙ again in
    record {
      read = ap (λ o. without_fault o (bytes_of q)) (ap first_fault over ∙ same_fault b s ssrc marker long ∙ sendable.reads) ∙ ap Some whole;
      number = ap (λ (r : Packet). r.sequence_number) whole;
    }

numbered_read : (n ssrc : ℕ) (ps : List Packet) → ssrc < 2 ^ 32 → AllByRecursion IsSendable ps → AllByRecursion ReadsBack (numbered n ssrc ps)
numbered_read n ssrc [] fits all = tt
numbered_read n ssrc (p ∷ ps) fits all = (reads_back (n % 65536) ssrc p.marker p (omega arith) fits all.0, numbered_read (n + 1) ssrc ps fits all.1)

-- all sent packets are read back
pub outgoing_read : (kind : Kind) (to : Subscriber) (events : List Happened) → to.ssrc < 2 ^ 32 → AllByRecursion HasCome events → AllByRecursion ReadsBack (outgoing (sent kind) to events)
outgoing_read kind to events fits all = numbered_read to.first to.ssrc (forwarded (sent kind) to.wish events) fits (forwarded_sendable kind to.wish events all)

-- ---- prefixes

pub all_read : (ps : List Packet) → AllByRecursion ReadsBack ps → map read_packet (map bytes_of ps) ≡ map Some ps
all_read [] all = refl
all_read (p ∷ ps) all = ap₂ (λ (o : Option Packet) (os : List (Option Packet)). o ∷ os) all.0.read (all_read ps all.1)

-- a prefix of the bytes has the bytes of a prefix
pub record IsFrontOf (ps : List Packet) (sends : List (List ℕ)) : Type 0 where
  pub front : List Packet
  pub rest : List Packet
  pub whole : front ++ rest ≡ ps
  pub bytes : sends ≡ map bytes_of front

pub front_of : (ps : List Packet) (sends queued : List (List ℕ)) → sends ++ queued ≡ map bytes_of ps → IsFrontOf ps sends
front_of ps [] queued e = record { front = []; rest = ps; whole = refl; bytes = refl }
front_of [] (s ∷ sends) queued e = absurd (let none : s ∷ (sends ++ queued) ≡ [] = e in cc)
front_of (p ∷ ps) (s ∷ sends) queued e =
    let first : s ≡ bytes_of p = cc in
    let more : sends ++ queued ≡ map bytes_of ps = ap (drop 1) e in
    let f : IsFrontOf ps sends = front_of ps sends queued more in
    record {
      front = p ∷ f.front;
      rest = f.rest;
      whole = ap (λ (xs : List Packet). p ∷ xs) f.whole;
      bytes = ap₂ (λ (x : List ℕ) (xs : List (List ℕ)). x ∷ xs) first f.bytes;
    }

pub front_read : (ps : List Packet) (sends : List (List ℕ)) (f : IsFrontOf ps sends) → AllByRecursion ReadsBack ps → map read_packet sends ≡ map Some f.front
front_read ps sends f all =
    ap (map read_packet) f.bytes ∙ all_read f.front (all_front ReadsBack f.front f.rest (subst (AllByRecursion ReadsBack) (sym f.whole) all))

-- ---- numbers

pub in_order : (ps : List Packet) → AllByRecursion ReadsBack ps → AreConsecutive ps → AreInOrder (map bytes_of ps)
in_order [] all h = tt
in_order (p ∷ []) all h = tt
in_order (p ∷ q ∷ ps) all h =
    (all.1.0.number ∙ h.0 ∙ ap (λ (n : ℕ). (n + 1) % 65536) (sym all.0.number), in_order (q ∷ ps) all.1 h.1)
