-- The contents of a packet: its dependency descriptor and its payload's flags. AV1 RTP payload format, Appendix A (dependency descriptor) and
-- section 4.4 (aggregation header). A `Format` says how bits are read; the crates of those grammars provide it. This file has the rules on what
-- was read. The structure rule is an own rule. The code reads bytes; here a packet's rest is anything that a format can read. S is the type of
-- template dependency structures.
use Rattle.std.specs.Prelude.{◌≡◌, ◌≢◌, ◌<◌, ◌≤◌, ◌^◌, ℕ, List, Bool, true, false, if◌then◌else◌, ◌==◌, ◌&&◌, ◌||◌, slice_index, take}
use Rattle.std.specs.declared.option.Option.{Option}
use Rattle.std.specs.declared.option.Option.TheVariants.{None, Some}
use Rattle.sfu_base.specs.declared.frame.Dti.{Dti}
use Rattle.sfu_base.specs.declared.frame.Wish.{Wish}
use Rattle.sfu_base.specs.Frame.{IsDistance}

-- a descriptor, with its template's parts filled in; only the first `ref_count` entries of `refs` are used
pub record Descriptor (S : Type 0) : Type 0 where
  pub start : Bool  -- start_of_frame
  pub end : Bool  -- end_of_frame
  pub number : ℕ  -- frame_number, below 65,536
  pub structure : Option S  -- the structure that it carries
  pub mask : Option ℕ  -- the active decode targets, if the descriptor has them
  pub spatial : ℕ
  pub temporal : ℕ
  pub dtis : List Dti
  pub ref_count : ℕ
  pub refs : List ℕ
  pub links : List ℕ

pub data DescriptorReading (S : Type 0) : Type 0 where
  NeedsStructure : DescriptorReading S
  Faulty : DescriptorReading S
  Reads : (descriptor : Descriptor S) → DescriptorReading S

-- whether the first element continues one of the previous packet (Z), and whether the last element continues in the next packet (Y)
pub record Joins : Type 0 where
  pub continues : Bool
  pub carries : Bool

pub data Payload : Type 0 where
  Empty : Payload
  Broken : Payload
  Elements : (joins : Joins) → Payload

-- the decode targets and chains of a structure
pub record Layout : Type 0 where
  pub target_count : ℕ
  pub pairs : List (Option Wish)
  pub chain_count : ℕ
  pub guards : List ℕ

-- How the packets of a track with some extension id are read. A format reads only a packet's rest, and not its sequence number, SSRC and
-- marker.
pub record Format (S : Type 0) : Type 0 where
  -- the descriptor in the first header extension element of the track's id, with the structure in force; faulty if there is none
  pub descriptor : Option S → List ℕ → DescriptorReading S
  pub payload : List ℕ → Payload
  -- whether two structures are equal in everything
  pub same : S → S → Bool
  pub layout : S → Layout

abbrev pub has_structure : {S : Type 0} → Option S → Bool
has_structure None = false
has_structure (Some s) = true

-- a descriptor with a structure, the start bit and no references begins a key frame
abbrev pub is_key_start : {S : Type 0} → Descriptor S → Bool
is_key_start d = has_structure d.structure && (d.start && d.ref_count == 0)

-- the packet carries no structure, or the structure that is in force
abbrev pub keeps_structure : {S : Type 0} → Format S → Option S → Option S → Bool
keeps_structure format force None = true
keeps_structure format None (Some s) = false
keeps_structure format (Some current) (Some s) = format.same s current

-- the structure rule: only a key start may carry a structure that isn't in force
abbrev pub obeys_structure : {S : Type 0} → Format S → Option S → Descriptor S → Bool
obeys_structure format force d = is_key_start d || keeps_structure format force d.structure

-- the result of reading a packet with the structure in force: no descriptor, or a descriptor that obeys the structure rule, and its payload
pub data Showing (S : Type 0) : Type 0 where
  LacksStructure : Showing S
  Unread : Showing S
  Shows : (descriptor : Descriptor S) → (payload : Payload) → Showing S

abbrev pub shown_by : {S : Type 0} → Format S → Option S → Payload → DescriptorReading S → Showing S
shown_by format force payload NeedsStructure = LacksStructure
shown_by format force payload Faulty = Unread
shown_by format force payload (Reads d) = if obeys_structure format force d then Shows d payload else Unread

abbrev pub shown : {S : Type 0} → Format S → Option S → List ℕ → Showing S
shown format force rest = shown_by format force (format.payload rest) (format.descriptor force rest)

-- ---- what the grammars guarantee

abbrev pub referred_distances : {S : Type 0} → Descriptor S → List ℕ
referred_distances d = take d.ref_count d.refs

-- the structure with which a descriptor was read
abbrev pub read_by : {S : Type 0} → Option S → Option S → Option S
read_by force None = force
read_by force (Some s) = Some s

-- a carried structure has at most 32 decode targets and 32 chains, and one of the chains guards each target
pub record IsLayout (layout : Layout) : Type 0 where
  pub targets : layout.target_count ≤ 32
  pub chains : layout.chain_count ≤ 32
  pub guards : layout.chain_count ≢ 0 → (t : ℕ) → t < layout.target_count → slice_index layout.guards t < layout.chain_count

-- the properties of a descriptor that was read with this structure in force
pub record IsDescriptor {S : Type 0} (format : Format S) (force : Option S) (d : Descriptor S) : Type 0 where
  pub number : d.number < 65536
  pub references : d.ref_count ≤ 16
  pub distances : (i : ℕ) → i < d.ref_count → IsDistance (slice_index d.refs i)
  pub layout : (s : S) → d.structure ≡ Some s → IsLayout (format.layout s)
  pub mask : (s : S) (m : ℕ) → read_by force d.structure ≡ Some s → d.mask ≡ Some m → m < 2 ^ (format.layout s).target_count

-- some readable descriptor carries this structure; other values of S needn't be structures
pub record IsCarried {S : Type 0} (format : Format S) (s : S) : Type 0 where
  pub rest : List ℕ
  pub descriptor : Descriptor S
  pub reads : format.descriptor None rest ≡ Reads descriptor
  pub carries : descriptor.structure ≡ Some s

-- no structure, or one that was carried
abbrev pub MayBeInForce : {S : Type 0} → Format S → Option S → Type 0
MayBeInForce format None = Unit {0}
MayBeInForce format (Some s) = IsCarried format s

-- The facts about reading that the laws use. Each descriptor that is read is valid. A descriptor that is read with no structure in force carries one.
-- A descriptor that carries a structure is read in the same way, whatever is in force. Structures are the same exactly if they are equal.
pub record IsFormat {S : Type 0} (format : Format S) : Type 0 where
  pub valid : (force : Option S) (rest : List ℕ) (d : Descriptor S) → MayBeInForce format force → format.descriptor force rest ≡ Reads d
      → IsDescriptor format force d
  pub carries : (rest : List ℕ) (d : Descriptor S) → format.descriptor None rest ≡ Reads d → has_structure d.structure ≡ true
  pub independent : (force other : Option S) (rest : List ℕ) (d : Descriptor S)
      → format.descriptor force rest ≡ Reads d → has_structure d.structure ≡ true → format.descriptor other rest ≡ Reads d
  pub same : (s t : S) → IsCarried format s → IsCarried format t → format.same s t ≡ true → s ≡ t
  pub itself : (s : S) → IsCarried format s → format.same s s ≡ true
