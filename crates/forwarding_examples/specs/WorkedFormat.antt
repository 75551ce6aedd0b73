-- A format for the examples, in which a packet's rest is a list of numbers: start and end bit, frame number, the carried structure or 0 for
-- none, the mask plus one or 0 for none, Z (or 2 for an empty payload, 3 for a broken one), Y, and the distances. Own definitions. The format
-- fulfils all assumptions of the laws, so the laws hold for the packets of the examples too.
use Rattle.std.specs.Prelude.{◌-◌, ℕ, List, [], ◌∷◌, Bool, if◌then◌else◌, ◌==◌, ◌&&◌, nat_lt, nat_le, length}
use Rattle.std.specs.List.{list_all}
use Rattle.std.specs.declared.option.Option.{Option}
use Rattle.std.specs.declared.option.Option.TheVariants.{None, Some}
use Rattle.sfu_base.specs.declared.frame.Dti.TheVariants.{Switch}
use Rattle.forwarding_model.specs.frames.Reading.{Descriptor, DescriptorReading, Format, Layout, Payload}
use Rattle.forwarding_model.specs.frames.Reading.DescriptorReading.{NeedsStructure, Faulty, Reads}
use Rattle.forwarding_model.specs.frames.Reading.Payload.{Empty, Broken, Elements}

-- A structure is identified by a number. Structure 9 has three decode targets; each other structure has two, of the layers (1, 0) and (0, 0).
-- None has a chain.
abbrev pub worked_layout : ℕ → Layout
worked_layout s =
    record {
      target_count = if s == 9 then 3 else 2;
      pairs = Some (record { spatial = 1; temporal = 0 }) ∷ Some (record { spatial = 0; temporal = 0 }) ∷ [];
      chain_count = 0;
      guards = [];
    }

pub record WorkedFields : Type 0 where
  pub start : ℕ
  pub end : ℕ
  pub number : ℕ
  pub carried : ℕ
  pub mask : ℕ
  pub continues : ℕ
  pub carries : ℕ
  pub distances : List ℕ

abbrev pub worked_fields : List ℕ → Option WorkedFields
worked_fields (start ∷ end ∷ number ∷ carried ∷ mask ∷ continues ∷ carries ∷ distances) =
    Some (record {
      start = start;
      end = end;
      number = number;
      carried = carried;
      mask = mask;
      continues = continues;
      carries = carries;
      distances = distances;
    })
worked_fields rest = None

-- a reference lies 1 to 4,096 back
abbrev pub is_distance : ℕ → Bool
is_distance d = nat_lt 0 d && nat_le d 4096

abbrev pub are_in_bounds : WorkedFields → Bool
are_in_bounds fields =
    nat_lt fields.number 65536 && (nat_lt fields.mask 5 && (nat_le (length fields.distances) 16 && list_all is_distance fields.distances))

abbrev pub carried_structure : ℕ → Option ℕ
carried_structure carried = if carried == 0 then None else Some carried

abbrev pub written_mask : ℕ → Option ℕ
written_mask mask = if mask == 0 then None else Some (mask - 1)

abbrev pub worked_reading : WorkedFields → Descriptor ℕ
worked_reading fields =
    record {
      start = fields.start == 1;
      end = fields.end == 1;
      number = fields.number;
      structure = carried_structure fields.carried;
      mask = written_mask fields.mask;
      spatial = 0;
      temporal = 0;
      dtis = Switch ∷ Switch ∷ [];
      ref_count = length fields.distances;
      refs = fields.distances;
      links = [];
    }

abbrev pub reads_as : WorkedFields → DescriptorReading ℕ
reads_as fields = Reads (worked_reading fields)

abbrev pub described_in_bounds : Option ℕ → WorkedFields → DescriptorReading ℕ
described_in_bounds None fields = if fields.carried == 0 then NeedsStructure else reads_as fields
described_in_bounds (Some force) fields = reads_as fields

abbrev pub described : Option ℕ → Option WorkedFields → DescriptorReading ℕ
described force None = Faulty
described force (Some fields) = if are_in_bounds fields then described_in_bounds force fields else Faulty

abbrev pub payload_of : Option WorkedFields → Payload
payload_of None = Broken
payload_of (Some fields) =
    if fields.continues == 2 then Empty
    else (if fields.continues == 3 then Broken else Elements (record { continues = fields.continues == 1; carries = fields.carries == 1 }))

abbrev pub worked_format : Format ℕ
worked_format =
    record {
      descriptor = λ force rest. described force (worked_fields rest);
      payload = λ rest. payload_of (worked_fields rest);
      same = λ s t. s == t;
      layout = worked_layout;
    }
