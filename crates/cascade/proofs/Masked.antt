-- A packet's CSRC words are the same with another mask.
use Rattle.std.proofs.Common.{◌≡◌, ◌+◌, ◌*◌, ◌%◌, ◌≤◌, ℕ, List, ◌∷◌, ◌++◌, length, take, drop, Option, None, Some, arith, subst}
use Rattle.std.proofs.lemmas.List.{length-take-le, take_at}
use Rattle.dd_structure.specs.TemplateStructure.{TemplateStructure}
use Rattle.rtp_packet.specs.Faults.{first_fault}
use Rattle.rtp_packet.specs.Fields.{behind_header, block_of, csrc_count, profile_of}
use Rattle.rtp_packet.proofs.Faultless.{has_none}
use Rattle.rtp_extension.specs.Reblocked.{extension_with}
use Rattle.packet_format.specs.Formats.{element_of}
use Rattle.packet_format.specs.Remasked.{at_most, new_value, remasked, with_extension, with_value}
use Rattle.packet_format.proofs.Remasked.{not_more, packets_remasked}
use Rattle.cascade.specs.Cascades.{IsMasked}

with_another : (extension bytes : List ℕ) → 12 + 4 * csrc_count bytes ≤ length bytes
    → take (4 * csrc_count bytes) (drop 12 (with_extension extension bytes)) ≡ take (4 * csrc_count bytes) (drop 12 bytes)
with_another extension (a ∷ b ∷ c ∷ d ∷ e ∷ f ∷ g ∷ h ∷ i ∷ j ∷ k ∷ l ∷ rest) long =
    let old : List ℕ = a ∷ b ∷ c ∷ d ∷ e ∷ f ∷ g ∷ h ∷ i ∷ j ∷ k ∷ l ∷ rest in
    let words = 4 * (a % 16) in
    take_at (take words rest) (extension ++ behind_header old) words (length-take-le words rest (omega (arith, long)))
with_another extension bytes long = absurd (omega arith)

csrcs_stay : (id mask : ℕ) (force : Option TemplateStructure) (bytes new : List ℕ) → 12 + 4 * csrc_count bytes ≤ length bytes → remasked id force mask bytes ≡ Some new
    → take (4 * csrc_count bytes) (drop 12 new) ≡ take (4 * csrc_count bytes) (drop 12 bytes)
csrcs_stay id mask force bytes new long e =
    go (profile_of bytes) (at_most 255 (new_value force mask (element_of id bytes)))
    (not_more 1536 (with_value id (profile_of bytes) (at_most 255 (new_value force mask (element_of id bytes))) bytes) new e).0
  where
    go : (profile : Option ℕ) (o : Option (List ℕ)) → with_value id profile o bytes ≡ Some new → take (4 * csrc_count bytes) (drop 12 new) ≡ take (4 * csrc_count bytes) (drop 12 bytes)
    go None o made = absurd (cc)
    go (Some profile) None made = absurd (cc)
    go (Some profile) (Some value) made =
        let same : with_extension (extension_with profile (block_of bytes) id value) bytes ≡ new = cc in
        subst (λ (xs : List ℕ). take (4 * csrc_count bytes) (drop 12 xs) ≡ take (4 * csrc_count bytes) (drop 12 bytes)) same
        (with_another (extension_with profile (block_of bytes) id value) bytes long)

pub is_masked : (id mask : ℕ) (force : Option TemplateStructure) (bytes new : List ℕ) → first_fault bytes ≡ None → remasked id force mask bytes ≡ Some new → IsMasked id bytes new
is_masked id mask force bytes new reads e = record {
  force = force;
  mask = mask;
  is = e;
  csrcs = csrcs_stay id mask force bytes new (has_none bytes reads).csrcs e;
  stays = packets_remasked id mask force bytes new e;
}
