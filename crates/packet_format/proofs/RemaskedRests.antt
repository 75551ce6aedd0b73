-- The rest of a remasked packet is the remasked rest.
use Rattle.std.proofs.Common.{◌≡◌, ◌≤◌, ℕ, nat_lt, Bool, true, false, cond, List, ◌∷◌, length, Option, Some, None, refl, sym, ap, ap₂, ◌∙◌, arith}
use Rattle.rtp_packet.specs.Fields.{block_of, profile_of}
use Rattle.rtp_packet.specs.Rewritten.{rewritten}
use Rattle.rtp_packet.proofs.Rewriting.{same_length}
use Rattle.rtp_extension.specs.Reblocked.{extension_with}
use Rattle.dd_structure.specs.TemplateStructure.{TemplateStructure}
use Rattle.packet_format.specs.Formats.{element_in, element_of}
use Rattle.packet_format.specs.Packets.{packet_of}
use Rattle.packet_format.specs.Remasked.{at_most, new_value, or_same, remasked, remasked_bytes, remasked_packet, with_extension, with_value}
use Rattle.packet_format.specs.CarriedMask.{carries_mask_in}
use Rattle.packet_format.specs.RemaskedReads.{IsRemasked, RestsAreRemasked, RestsCarryMask}
use Rattle.packet_format.proofs.Extended.{extension_rewritten}
use Rattle.packet_format.proofs.Packets.{rests_same}
use Rattle.packet_format.proofs.Remasked.{packets_remasked}

abbrev zeroed : List ℕ → List ℕ
zeroed bytes = rewritten 0 0 false bytes

abbrev each_zeroed : Option (List ℕ) → Option (List ℕ)
each_zeroed None = None
each_zeroed (Some bytes) = Some (zeroed bytes)

header_stays : (extension bytes : List ℕ) → 12 ≤ length bytes → 12 ≤ length (with_extension extension bytes)
header_stays extension (a ∷ b ∷ c ∷ d ∷ e ∷ f ∷ g ∷ h ∷ i ∷ j ∷ k ∷ l ∷ rest) long = omega arith
header_stays extension bytes long = absurd (omega arith)

cut : (most : ℕ) (bytes : List ℕ) → 12 ≤ length bytes → at_most most (Some (zeroed bytes)) ≡ each_zeroed (at_most most (Some bytes))
cut most bytes long =
    ap (λ (n : ℕ). cond (nat_lt most n) None (given (zeroed bytes))) (same_length bytes 0 0 false long) ∙ by (nat_lt most (length bytes))
  where
    given : List ℕ → Option (List ℕ)
    given xs = Some xs

    by : (b : Bool) → cond b None (given (zeroed bytes)) ≡ each_zeroed (cond b None (given bytes))
    by true = refl
    by false = refl

module _ (id mask : ℕ) (force : Option TemplateStructure) (bytes : List ℕ) (long : 12 ≤ length bytes) where
  new_zeroed : (p : Option ℕ) (v : Option (List ℕ)) → at_most 1536 (with_value id p v (zeroed bytes)) ≡ each_zeroed (at_most 1536 (with_value id p v bytes))
  new_zeroed None v = refl
  new_zeroed (Some p) None = refl
  new_zeroed (Some p) (Some value) =
      let extension = extension_with p (block_of bytes) id value in
      let same : with_extension (extension_with p (block_of (zeroed bytes)) id value) (zeroed bytes) ≡ zeroed (with_extension extension bytes) =
      ap (λ (block : List ℕ). with_extension (extension_with p block id value) (zeroed bytes)) (rests_same.block bytes long)
      ∙ extension_rewritten 0 0 false extension bytes long in
      ap (λ (x : List ℕ). at_most 1536 (Some x)) same ∙ cut 1536 (with_extension extension bytes) (header_stays extension bytes long)

  remasked_zeroed : remasked id force mask (zeroed bytes) ≡ each_zeroed (remasked id force mask bytes)
  remasked_zeroed =
      let element : element_of id (zeroed bytes) ≡ element_of id bytes = ap₂ (element_in id) (rests_same.profile bytes long) (rests_same.block bytes long) in
      ap₂ (λ (p : Option ℕ) (o : Option (List ℕ)). at_most 1536 (with_value id p (at_most 255 (new_value force mask o)) (zeroed bytes))) (rests_same.profile bytes long) element
      ∙ new_zeroed (profile_of bytes) (at_most 255 (new_value force mask (element_of id bytes)))

  new_packet : (new : List ℕ) → IsRemasked id bytes new → packet_of new ≡ record (packet_of bytes) { rest = zeroed new }
  new_packet new is = let a = is.sequence in let b = is.ssrc in let c = is.marker in cc

  by_case : (o : Option (List ℕ)) → remasked id force mask bytes ≡ o → packet_of (or_same o bytes) ≡ record (packet_of bytes) { rest = or_same (each_zeroed o) (zeroed bytes) }
  by_case None is = refl
  by_case (Some new) is = new_packet new (packets_remasked id mask force bytes new is)

  rest_remasked : packet_of (remasked_bytes id force mask bytes) ≡ remasked_packet id force mask (packet_of bytes)
  rest_remasked =
      by_case (remasked id force mask bytes) refl
      ∙ ap (λ (o : Option (List ℕ)). record (packet_of bytes) { rest = or_same o (zeroed bytes) }) (sym remasked_zeroed)

pub rests_remasked : RestsAreRemasked
rests_remasked id mask force bytes long = rest_remasked id mask force bytes long

pub rests_carry_mask : RestsCarryMask
rests_carry_mask id bytes long = ap carries_mask_in (ap₂ (element_in id) (rests_same.profile bytes long) (rests_same.block bytes long))
