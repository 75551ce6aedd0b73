-- The fields of a descriptor that need no structure.
-- RTP Payload Format For AV1 v1.0, Appendix A, mandatory_descriptor_fields: a flag, a flag, the template id in 6 bits and the frame number in 16.
use Rattle.std.specs.Prelude.{◌≡◌, ℕ, ◌<◌, ◌^◌, List, Bool, ◌++◌}
use Rattle.dd_bits.specs.Bits.{bits_of, bits_of_bytes}
use Rattle.dd_descriptor.specs.declared.descriptor.Edges.{Edges}
use Rattle.dd_descriptor.specs.Content.{Content}
use Rattle.dd_descriptor.specs.Spelling.{flag_bits}

-- these bytes begin with such fields
pub record BeginsWith (bytes : List ℕ) (e : Edges) : Type 0 where
  pub template : ℕ
  pub behind : List Bool
  pub small : template < 2 ^ 6
  pub bits : bits_of_bytes bytes ≡ flag_bits e.start ++ (flag_bits e.end ++ (bits_of 6 template ++ (bits_of 16 e.number ++ behind)))

abbrev pub edges_of : Content → Edges
edges_of c = record { start = c.start; end = c.end; number = c.number }
