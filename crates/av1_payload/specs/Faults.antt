-- For each fault, the layout of the bytes that have it, as a concatenation (RTP Payload Format For AV1, section 4.4). The code returns the
-- first fault that it finds.
use Rattle.std.specs.Prelude.{◌≡◌, ◌≢◌, ℕ, zero, suc, ◌<◌, List, [], ◌∷◌, ◌++◌, length}
use Rattle.av1_payload.specs.declared.fault.PayloadFault.{PayloadFault}
use Rattle.av1_payload.specs.declared.fault.PayloadFault.TheVariants.{Empty, Leb, Length, NoElement}
use Rattle.av1_payload.specs.Leb.{leb_bytes, IsLength}
use Rattle.av1_payload.specs.Payloads.{SizedElement, all_bytes, AreSized}
use Rattle.av1_payload.specs.Reading.{count_in}

-- After this number of elements a length must follow. If W is 0, it must if a byte is left; otherwise it must if the next element isn't the last.
abbrev pub IsDue : ℕ → ℕ → List ℕ → Type 0
IsDue zero placed rest = 0 < length rest
IsDue (suc sized) placed rest = placed < sized

-- the bytes are a header, complete elements with their lengths, and then `rest`, which must begin with a length
pub record IsDueAt (bytes rest : List ℕ) : Type 0 where
  pub header : ℕ
  pub sized : List SizedElement
  pub fit : AreSized sized
  pub put : bytes ≡ header ∷ (all_bytes sized ++ rest)
  pub due : IsDue (count_in header) (length sized) rest

-- the bytes don't begin with a length: they end within it, or it has more than 8 bytes, or it is 2^32 or more
abbrev pub IsNoLength : List ℕ → Type 0
IsNoLength bytes = (groups behind : List ℕ) (n : ℕ) → IsLength groups n → bytes ≢ leb_bytes groups ++ behind

-- the bytes begin with a length, and fewer bytes than that length follow
pub record IsTooLong (bytes : List ℕ) : Type 0 where
  pub groups : List ℕ
  pub behind : List ℕ
  pub n : ℕ
  pub is : IsLength groups n
  pub put : bytes ≡ leb_bytes groups ++ behind
  pub past : length behind < n

-- the layout of the bytes for each fault
abbrev pub HasFault : PayloadFault → List ℕ → Type 0
HasFault Empty bytes = bytes ≡ []
HasFault Leb bytes = (rest : List ℕ) × IsDueAt bytes rest × IsNoLength rest
HasFault Length bytes = (rest : List ℕ) × IsDueAt bytes rest × IsTooLong rest
HasFault NoElement bytes = (header : ℕ) × (bytes ≡ header ∷ []) × (count_in header ≡ 0)
