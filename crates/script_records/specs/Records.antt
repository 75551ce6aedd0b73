-- A record, which has a length and a body, and the body of each call. Own rule.
use Rattle.std.specs.Prelude.{◌≡◌, ℕ, ◌/◌, List, [], ◌∷◌, ◌++◌, length}
use Rattle.std.specs.List.{flat_map}
use Rattle.byteorder.specs.Endian.{big_bytes}
use Rattle.sfu_base.specs.declared.call.Call.{Call}
use Rattle.sfu_base.specs.declared.call.Call.TheVariants.{Publish, Unpublish, Packet, Tick, Join, Leave, Aim, Take, Resend, Missing, KeyWanted, Plead, Why}
use Rattle.sfu_base.specs.declared.call.Kind.TheVariants.{Plain, Layered}
use Rattle.script_texts.specs.Grammar.{Place, Word, Number, Ssrc, Hex, Address}
use Rattle.script_texts.specs.Lines.{HasLine, places}

-- the first number of a call's body: its kind
abbrev pub kind_of : Call → ℕ
kind_of (Publish track Plain ssrc hold) = 1
kind_of (Publish track (Layered id) ssrc hold) = 2
kind_of (Unpublish track) = 3
kind_of (Packet track moment bytes) = 4
kind_of (Tick track moment) = 5
kind_of (Join subscriber track ssrc first wish) = 6
kind_of (Leave subscriber) = 7
kind_of (Aim subscriber wish) = 8
kind_of (Take subscriber) = 9
kind_of (Resend subscriber seq) = 10
kind_of (Missing track) = 11
kind_of (KeyWanted track) = 12
kind_of (Plead subscriber) = 13
kind_of (Why subscriber number) = 14

-- The bytes in a body for a place of the call's line. A number has the bytes of its type, in network
-- byte order; a packet's bytes are unchanged. A word has no bytes, since the kind determines it.
abbrev pub place_bytes : Place → List ℕ
place_bytes (Word text) = []
place_bytes (Number bits n) = big_bytes (bits / 8) n
place_bytes (Ssrc ssrc) = big_bytes 4 ssrc
place_bytes (Hex bytes) = bytes
place_bytes (Address ip port) = big_bytes 4 ip ++ big_bytes 2 port

-- the body of a call's record: its kind, and the bytes for each place of its line
abbrev pub body_of : Call → List ℕ
body_of call = kind_of call ∷ flat_map place_bytes (places call)

-- a body preceded by its length in two bytes
abbrev pub framed : List ℕ → List ℕ
framed body = big_bytes 2 (length body) ++ body

-- the record in its written form
abbrev pub record_of : Call → List ℕ
record_of call = framed (body_of call)

-- The body is that of the call. The call's numbers are within their types, and its packet has 1 to 2,048 bytes.
pub record IsBody (call : Call) (body : List ℕ) : Type 0 where
  pub within : HasLine call
  pub is : body ≡ body_of call
