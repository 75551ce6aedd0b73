-- Whether a packet's descriptor says which decode targets are active: it carries a template dependency structure or a mask.
-- AV1 RTP payload format, Appendix A, extended_descriptor_fields: template_dependency_structure_present_flag and
-- active_decode_targets_present_flag are the two highest bits of the fourth byte, and are 0 if there are only three bytes.
use Rattle.std.specs.Prelude.{ℕ, Bool, false, ◌&&◌, nat_le, nat_lt, List, length, Option, None, Some, slice_index}
use Rattle.packet_format.specs.Formats.{element_of}

abbrev pub carries_mask_in : Option (List ℕ) → Bool
carries_mask_in None = false
carries_mask_in (Some descriptor) = nat_lt 3 (length descriptor) && nat_le 64 (slice_index descriptor 3)

abbrev pub carries_mask : ℕ → List ℕ → Bool
carries_mask id bytes = carries_mask_in (element_of id bytes)
