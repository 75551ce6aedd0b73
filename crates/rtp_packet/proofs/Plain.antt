-- The packets with no padding, no extension and no CSRC words.
use Rattle.std.proofs.Common.{◌≡◌, ◌≤◌, ℕ, ◌/◌, ◌%◌, ◌==◌, Bool, false, List, length, slice_index, None, ap, arith}
use Rattle.rtp_packet.specs.Fields.{is_extended, is_padded, behind_csrcs, behind_header}
use Rattle.rtp_packet.specs.Faults.{first_fault, lacks_extension, has_bad_padding}
use Rattle.rtp_packet.proofs.Faultless.{none_found}

-- such bytes have no fault
pub plain_reads : (bytes : List ℕ) → 12 ≤ length bytes → slice_index bytes 0 ≡ 128 → first_fault bytes ≡ None
plain_reads bytes long first =
    let extended : is_extended bytes ≡ false = ap (λ (x : ℕ). x / 16 % 2 == 1) first in
    let padded : is_padded bytes ≡ false = ap (λ (x : ℕ). x / 32 % 2 == 1) first in
    none_found bytes (record {
      header = long;
      version = ap (λ (x : ℕ). x / 64) first;
      csrcs = omega arith;
      extension = ap (λ (x : Bool). lacks_extension x (behind_csrcs bytes)) extended;
      padding = ap (λ (x : Bool). has_bad_padding x (behind_header bytes)) padded;
    })
