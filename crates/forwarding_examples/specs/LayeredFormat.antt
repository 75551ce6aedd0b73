-- A second format for the examples, with templates and chains. A packet's rest is a list of numbers as in `WorkedFormat`, except that a
-- template precedes the distances. If there are distances, they are the frame's own. Structure 1 has two spatial layers: target 0 has the
-- layers (1, 0) and is protected by chain 1; target 1 has the layers (0, 0) and is protected by chain 0. Any other structure has one target, of
-- the layers (0, 0), and one chain. Own definitions. The format fulfils all assumptions of the laws.
use Rattle.std.specs.Prelude.{◌^◌, ℕ, List, [], ◌∷◌, if◌then◌else◌, Bool, ◌==◌, ◌&&◌, nat_lt, nat_le, length, slice_get}
use Rattle.std.specs.List.{list_all}
use Rattle.std.specs.declared.option.Option.{Option}
use Rattle.std.specs.declared.option.Option.TheVariants.{None, Some}
use Rattle.sfu_base.specs.declared.frame.Dti.{Dti}
use Rattle.sfu_base.specs.declared.frame.Dti.TheVariants.{NotPresent, Switch, Required}
use Rattle.forwarding_model.specs.frames.Reading.{Descriptor, DescriptorReading, Format, Layout, read_by}
use Rattle.forwarding_model.specs.frames.Reading.DescriptorReading.{NeedsStructure, Faulty, Reads}
use Rattle.forwarding_examples.specs.WorkedFormat.{WorkedFields, carried_structure, is_distance, payload_of, worked_fields, written_mask}

-- ---- the two structures

abbrev pub two_layers : Layout
two_layers = record {
  target_count = 2;
  pairs = Some (record { spatial = 1; temporal = 0 }) ∷ Some (record { spatial = 0; temporal = 0 }) ∷ [];
  chain_count = 2;
  guards = 1 ∷ 0 ∷ [];
}

abbrev pub one_layer : Layout
one_layer = record {
  target_count = 1;
  pairs = Some (record { spatial = 0; temporal = 0 }) ∷ [];
  chain_count = 1;
  guards = 0 ∷ [];
}

abbrev pub layered_layout : ℕ → Layout
layered_layout s = if s == 1 then two_layers else one_layer

pub record Template : Type 0 where
  pub spatial : ℕ
  pub dtis : List Dti
  pub distances : List ℕ
  pub links : List ℕ

-- for two layers: a key frame; the lower layer, which refers two frames back; the upper layer above a key frame; and the upper layer above
-- the lower one, which also refers to the upper layer before.
-- For one layer: a key frame, and a frame that refers to the one before
abbrev pub templates : ℕ → List Template
templates s =
    if s == 1
    then record { spatial = 0; dtis = Required ∷ Switch ∷ []; distances = []; links = 0 ∷ 0 ∷ [] }
    ∷ record { spatial = 0; dtis = Required ∷ Switch ∷ []; distances = 2 ∷ []; links = 2 ∷ 1 ∷ [] }
    ∷ record { spatial = 1; dtis = Switch ∷ NotPresent ∷ []; distances = 1 ∷ []; links = 1 ∷ 1 ∷ [] }
    ∷ record { spatial = 1; dtis = Switch ∷ NotPresent ∷ []; distances = 1 ∷ 2 ∷ []; links = 1 ∷ 1 ∷ [] }
    ∷ []
    else record { spatial = 0; dtis = Switch ∷ []; distances = []; links = 0 ∷ [] }
    ∷ record { spatial = 0; dtis = Required ∷ []; distances = 1 ∷ []; links = 1 ∷ [] }
    ∷ []

-- ---- reading

-- the frame's own distances, or the template's
abbrev pub own_or : List ℕ → List ℕ → List ℕ
own_or [] distances = distances
own_or (d ∷ own) distances = d ∷ own

abbrev pub layered_descriptor : WorkedFields → Template → List ℕ → Descriptor ℕ
layered_descriptor fields template distances =
    record {
      start = fields.start == 1;
      end = fields.end == 1;
      number = fields.number;
      structure = carried_structure fields.carried;
      mask = written_mask fields.mask;
      spatial = template.spatial;
      temporal = 0;
      dtis = template.dtis;
      ref_count = length distances;
      refs = distances;
      links = template.links;
    }

abbrev pub are_distances : List ℕ → Bool
are_distances distances = nat_le (length distances) 16 && list_all is_distance distances

abbrev pub with_distances : WorkedFields → Template → List ℕ → DescriptorReading ℕ
with_distances fields template distances =
    if are_distances distances then Reads (layered_descriptor fields template distances) else Faulty

abbrev pub with_template : WorkedFields → List ℕ → Option Template → DescriptorReading ℕ
with_template fields own None = Faulty
with_template fields own (Some template) = with_distances fields template (own_or own template.distances)

abbrev pub of_structure : WorkedFields → ℕ → List ℕ → DescriptorReading ℕ
of_structure fields s [] = Faulty
of_structure fields s (t ∷ own) = with_template fields own (slice_get (templates s) t)

-- the frame number and the mask are in range
abbrev pub fit : WorkedFields → ℕ → Bool
fit fields s = nat_lt fields.number 65536 && nat_le fields.mask (2 ^ (layered_layout s).target_count)

abbrev pub by_structure : WorkedFields → Option ℕ → DescriptorReading ℕ
by_structure fields None = NeedsStructure
by_structure fields (Some s) = if fit fields s then of_structure fields s fields.distances else Faulty

abbrev pub layered_reading : Option ℕ → Option WorkedFields → DescriptorReading ℕ
layered_reading force None = Faulty
layered_reading force (Some fields) = by_structure fields (read_by force (carried_structure fields.carried))

abbrev pub layered_format : Format ℕ
layered_format =
    record {
      descriptor = λ force rest. layered_reading force (worked_fields rest);
      payload = λ rest. payload_of (worked_fields rest);
      same = λ s t. s == t;
      layout = layered_layout;
    }
