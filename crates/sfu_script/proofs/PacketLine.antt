-- `packet T MOMENT HEX`, read and written.
use Rattle.std.proofs.Common.{◌≡◌, ℕ, List, [], ◌∷◌, ◌++◌, refl, sym, subst, arith, Some}
use Rattle.std.specs.Prelude.{codes}
use Rattle.sfu_base.specs.declared.call.Call.{Call}
use Rattle.sfu_base.specs.declared.call.Call.TheVariants.{Packet}
use Rattle.script_texts.specs.Grammar.{Number, Hex, Spells}
use Rattle.script_texts.specs.Lines.{IsLine}
use Rattle.sfu_script.specs.Reading.{field, number_of, bytes_of}
use Rattle.sfu_script.specs.ReadLines.{packet_head_of, packet_of}
use Rattle.sfu_script.proofs.Options.{bind_some, some_same}
use Rattle.sfu_script.proofs.Filled.{bytes_found, bytes_again}
use Rattle.sfu_script.proofs.Steps.{number_read, number_spelled}

head_found : (rest : List ℕ) (head : ℕ × ℕ × List ℕ) (bytes : List ℕ) → packet_head_of rest ≡ Some head → Spells (Hex bytes ∷ []) head.2
    → Spells (Number 32 head.0 ∷ Number 64 head.1 ∷ Hex bytes ∷ []) rest
unfolding packet_head_of
head_found rest head bytes e h =
    let a = bind_some (field (number_of 32) rest) _ head e in
    let b = bind_some (field (number_of 64) (a.0).1) (λ moment. Some ((a.0).0, moment.0, moment.1)) head a.2 in
    let same : ((a.0).0, (b.0).0, (b.0).1) ≡ head = some_same ((a.0).0, (b.0).0, (b.0).1) head b.2 in
    let behind : Spells (Hex bytes ∷ []) (b.0).1 = subst (λ (x : ℕ × ℕ × List ℕ). Spells (Hex bytes ∷ []) x.2) (sym same) h in
    subst (λ (x : ℕ × ℕ × List ℕ). Spells (Number 32 x.0 ∷ Number 64 x.1 ∷ Hex bytes ∷ []) rest) same
    (
    number_read 32 (omega arith) rest a.0 (Number 64 (b.0).0) (Hex bytes ∷ []) a.1
    (number_read 64 (omega arith) (a.0).1 b.0 (Hex bytes) [] b.1 behind)
    )

pub packet_found : (rest : List ℕ) (call : Call) → packet_of rest ≡ Some call → IsLine call (codes "packet" ++ 32 ∷ rest)
unfolding packet_of
packet_found rest call e =
    let a = bind_some (packet_head_of rest) _ call e in
    let b = bind_some (bytes_of (a.0).2) (λ bytes. Some (Packet (a.0).0 (a.0).1 bytes)) call a.2 in
    let same : Packet (a.0).0 (a.0).1 b.0 ≡ call = cc b.2 in
    subst (λ (x : Call). IsLine x (codes "packet" ++ 32 ∷ rest)) same
    (codes "packet", rest, refl, head_found rest a.0 b.0 a.1 (bytes_found (a.0).2 b.0 b.1), refl)

head_again : (track moment : ℕ) (bytes rest : List ℕ) → Spells (Number 32 track ∷ Number 64 moment ∷ Hex bytes ∷ []) rest
    → (digits : List ℕ) × (packet_head_of rest ≡ Some (track, moment, digits)) × Spells (Hex bytes ∷ []) digits
unfolding packet_head_of
head_again track moment bytes rest h =
    let a = number_spelled 32 track (omega arith) rest (Number 64 moment) (Hex bytes ∷ []) h in
    let b = number_spelled 64 moment (omega arith) a.0 (Hex bytes) [] a.2 in
    let tracked = a.1 in
    let timed = b.1 in
    (b.0, rw (tracked, timed) refl, b.2)

pub packet_again : (track moment : ℕ) (bytes rest : List ℕ) → Spells (Number 32 track ∷ Number 64 moment ∷ Hex bytes ∷ []) rest
    → packet_of rest ≡ Some (Packet track moment bytes)
unfolding packet_of
packet_again track moment bytes rest h =
    let a = head_again track moment bytes rest h in
    let headed = a.1 in
    let filled = bytes_again a.0 bytes a.2 in
    rw (headed, filled) refl
