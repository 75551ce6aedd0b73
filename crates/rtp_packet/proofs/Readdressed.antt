-- The fields of rewritten bytes: three are the new ones, and the others stay.
use Rattle.std.proofs.Common.{◌≡◌, ◌<◌, ◌≤◌, ℕ, ◌%◌, ◌^◌, Bool, List, [], ◌∷◌, length, refl, ap, arith}
use Rattle.rtp_packet.specs.Fields.{is_extended, is_padded, profile_in, block_in, payload_in, behind_extension}
use Rattle.rtp_packet.specs.Packet.{packet_of}
use Rattle.rtp_packet.specs.Rewritten.{rewritten, readdressed}
use Rattle.rtp_packet.proofs.Rewriting.{same_behind}
use Rattle.rtp_packet.proofs.Taken.{marker_back, type_back, two_back, four_back, same_packet}

pub same_fields : (bytes : List ℕ) (s r : ℕ) (m : Bool) → 12 ≤ length bytes → s < 2 ^ 16 → r < 2 ^ 32
    → packet_of (rewritten s r m bytes) ≡ readdressed s r m (packet_of bytes)
unfolding rewritten
same_fields (a ∷ b ∷ c ∷ d ∷ e ∷ f ∷ g ∷ h ∷ i ∷ j ∷ k ∷ l ∷ rest) s r m long hs hr =
    let old : List ℕ = a ∷ b ∷ c ∷ d ∷ e ∷ f ∷ g ∷ h ∷ i ∷ j ∷ k ∷ l ∷ rest in
    let behind = same_behind old s r m long in
    same_packet (readdressed s r m (packet_of old)) (packet_of (rewritten s r m old))
    (marker_back m (b % 128) (omega arith)) (type_back m (b % 128) (omega arith))
    (two_back s [] hs) refl (four_back r [] hr)
    (ap (profile_in (is_extended old)) behind) (ap (block_in (is_extended old)) behind)
    (ap (λ (x : List ℕ). payload_in (is_padded old) (behind_extension (is_extended old) x)) behind)
same_fields bytes s r m long hs hr = absurd (omega arith)
