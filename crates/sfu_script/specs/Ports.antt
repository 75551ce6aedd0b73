-- The lines that name the ports to serve, and the functions that read them. Own rule.
use Rattle.std.specs.Prelude.{ℕ, ◌==◌, ◌&&◌, ◌||◌, not, nat_lt, nat_le, Bool, true, IsTrue, if◌then◌else◌, List, [], ◌∷◌, Option, Some, None, codes}
use Rattle.std.specs.Int.{from_be_bytes, w32}
use Rattle.std.specs.Str.{bytes_eq}
use Rattle.sfu_base.specs.declared.address.Address.{Address}
use Rattle.sfu_script.specs.declared.ports.PortLine.{PortLine}
use Rattle.sfu_script.specs.declared.ports.PortRole.{PortRole}
use Rattle.sfu_script.specs.declared.ports.PortRole.TheVariants.{Publisher, Subscriber, Control, Rtx}
use Rattle.script_texts.specs.Grammar.{Place, Word, Number, Spells}
use Rattle.script_texts.specs.Grammar.{Ssrc as SsrcPlace, Address as AddressPlace}
use Rattle.sfu_script.specs.Fields.{fields_of}
use Rattle.sfu_script.specs.declared.fields.Field.TheVariants.{Number8, Number32, Ssrc}
use Rattle.sfu_script.specs.Reading.{◌>>=◌, cut, cut_at, field, number_of}
use Rattle.sfu_script.specs.ReadLines.{of_two}

-- the places of the part of a line that describes the port's role
abbrev pub role_places : PortRole → List Place
role_places (Publisher track ssrc) = Word (codes "publisher") ∷ Number 32 track ∷ SsrcPlace ssrc ∷ []
role_places (Subscriber subscriber ssrc) = Word (codes "subscriber") ∷ Number 32 subscriber ∷ SsrcPlace ssrc ∷ []
role_places Control = Word (codes "control") ∷ []
role_places (Rtx subscriber ssrc rtx_ssrc payload_type) =
    Word (codes "rtx") ∷ Number 32 subscriber ∷ SsrcPlace ssrc ∷ SsrcPlace rtx_ssrc ∷ Number 8 payload_type ∷ []

-- Retransmissions differ from other packets. Their stream has its own SSRC (RFC 4588, section 5.3), and their payload type
-- is 0 to 63 or 96 to 127. So with or without the marker bit their second byte isn't one of RTCP's (RFC 5761, section 4).
abbrev pub is_apart : PortRole → Bool
is_apart (Rtx subscriber ssrc rtx_ssrc payload_type) = not (rtx_ssrc == ssrc) && (nat_lt payload_type 64 || (nat_le 96 payload_type && nat_lt payload_type 128))
is_apart role = true

-- The line is one of this port: its own address, its peer's address, and its role.
abbrev pub IsPortLine : PortLine → List ℕ → Type 0
IsPortLine port line = IsTrue (is_apart port.role) × Spells
    (Word (codes "port") ∷ AddressPlace port.local.ip port.local.port ∷ AddressPlace port.peer.ip port.peer.port ∷ role_places port.role) line

-- ---- reading

-- the IPv4 address of four numbers with dots between them
unfoldable pub ip_of : List ℕ → Option ℕ
ip_of word = do
  first ← cut_at 46 word
  second ← cut_at 46 first.1
  third ← cut_at 46 second.1
  a ← number_of 8 first.0
  b ← number_of 8 second.0
  c ← number_of 8 third.0
  d ← number_of 8 third.1
  Some (from_be_bytes w32 (a ∷ b ∷ c ∷ d ∷ []))

-- the address `a.b.c.d:port`
unfoldable pub address_of : List ℕ → Option Address
address_of word = do
  parts ← cut_at 58 word
  ip ← ip_of parts.0
  port ← number_of 16 parts.1
  Some (record { ip = ip; port = port })

-- the number and the SSRC of a publisher or subscriber
abbrev pub publisher_of : List ℕ → Option PortRole
publisher_of rest = fields_of (Number32 ∷ Ssrc ∷ []) rest >>= of_two (λ track ssrc. Publisher track ssrc)

abbrev pub subscriber_of : List ℕ → Option PortRole
subscriber_of rest = fields_of (Number32 ∷ Ssrc ∷ []) rest >>= of_two (λ subscriber ssrc. Subscriber subscriber ssrc)

-- a role whose retransmissions can be distinguished from other packets
abbrev pub if_apart : PortRole → Option PortRole
if_apart role = if is_apart role then Some role else None

-- a subscriber with a retransmission stream: its number, its SSRC, and that stream's SSRC and payload type
abbrev pub of_rtx : List ℕ → Option PortRole
of_rtx (subscriber ∷ ssrc ∷ rtx_ssrc ∷ payload_type ∷ []) = if_apart (Rtx subscriber ssrc rtx_ssrc payload_type)
of_rtx numbers = None

abbrev pub rtx_of : List ℕ → Option PortRole
rtx_of rest = fields_of (Number32 ∷ Ssrc ∷ Ssrc ∷ Number8 ∷ []) rest >>= of_rtx

abbrev pub named_role_of : List ℕ → List ℕ → Option PortRole
named_role_of word rest =
    if bytes_eq word (codes "publisher") then publisher_of rest
    else if bytes_eq word (codes "subscriber") then subscriber_of rest
    else if bytes_eq word (codes "rtx") then rtx_of rest
    else None

-- the role of a port
unfoldable pub role_of : List ℕ → Option PortRole
role_of rest = if bytes_eq rest (codes "control") then Some Control else (cut rest >>= (λ parts. named_role_of parts.0 parts.1))

-- the words after `port`: the port's own address, its peer's, and its role
unfoldable pub addressed : List ℕ → Option PortLine
addressed rest = do
  local ← field address_of rest
  peer ← field address_of local.1
  role ← role_of peer.1
  Some (record { local = local.0; peer = peer.0; role = role })

-- the port of a line
abbrev pub port_of : List ℕ → Option PortLine
port_of line = do
  parts ← cut line
  if bytes_eq parts.0 (codes "port") then addressed parts.1 else None
