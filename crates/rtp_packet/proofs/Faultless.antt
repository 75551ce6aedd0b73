-- The properties of bytes with no fault, and that these properties suffice.
use Rattle.std.proofs.Common.{◌≡◌, ◌≤◌, ℕ, ◌+◌, ◌*◌, Bool, true, false, cond, not, List, length, Option, Some, None, refl}
use Rattle.std.proofs.lemmas.Bool.{ltb-false, eqb-true, eq-eqb, le-ltb}
use Rattle.sfu_base.specs.declared.call.RtpFault.{RtpFault}
use Rattle.sfu_base.specs.declared.call.RtpFault.TheVariants as fault
use Rattle.rtp_packet.specs.Fields.{version_of, is_extended, is_padded, csrc_count, behind_csrcs, behind_header}
use Rattle.rtp_packet.specs.Faults.{first_fault, lacks_header, has_other_version, lacks_csrcs, lacks_extension, has_bad_padding}

pub record HasNoFault (bytes : List ℕ) : Type 0 where
  pub header : 12 ≤ length bytes
  pub version : version_of bytes ≡ 2
  pub csrcs : 12 + 4 * csrc_count bytes ≤ length bytes
  pub extension : lacks_extension (is_extended bytes) (behind_csrcs bytes) ≡ false
  pub padding : has_bad_padding (is_padded bytes) (behind_header bytes) ≡ false

-- a chain of tests ends in none only if no test holds
abbrev AllFalse : Bool → Bool → Bool → Bool → Bool → Type 0
AllFalse a b c d e = (a ≡ false) × (b ≡ false) × (c ≡ false) × (d ≡ false) × (e ≡ false)

abbrev chain : Bool → Bool → Bool → Bool → Bool → Option RtpFault
chain a b c d e = cond a (Some fault.Short) (cond b (Some fault.Version) (cond c (Some fault.Csrc) (cond d (Some fault.Extension) (cond e (Some fault.Padding) None))))

none_chosen : (a b c d e : Bool) → chain a b c d e ≡ None → AllFalse a b c d e
none_chosen true b c d e h = cc
none_chosen false true c d e h = cc
none_chosen false false true d e h = cc
none_chosen false false false true e h = cc
none_chosen false false false false true h = cc
none_chosen false false false false false h = (refl, refl, refl, refl, refl)

not_false : (t : Bool) → not t ≡ false → t ≡ true
not_false true h = refl
not_false false h = cc

pub has_none : (bytes : List ℕ) → first_fault bytes ≡ None → HasNoFault bytes
unfolding first_fault
has_none bytes h =
    let all = none_chosen (lacks_header bytes) (has_other_version bytes) (lacks_csrcs bytes)
    (lacks_extension (is_extended bytes) (behind_csrcs bytes)) (has_bad_padding (is_padded bytes) (behind_header bytes)) h in
    record {
      header = ltb-false _ _ all.0;
      version = eqb-true _ _ (not_false _ all.1);
      csrcs = ltb-false _ _ all.2;
      extension = all.3;
      padding = all.4;
    }

pub none_found : (bytes : List ℕ) → HasNoFault bytes → first_fault bytes ≡ None
unfolding first_fault
none_found bytes h =
    let a : lacks_header bytes ≡ false = le-ltb _ _ h.header in
    let b : has_other_version bytes ≡ false = rw (eq-eqb (version_of bytes) 2 h.version) refl in
    let c : lacks_csrcs bytes ≡ false = le-ltb _ _ h.csrcs in
    rw (a, b, c, h.extension, h.padding) refl

-- bytes with no fault have a fixed header
pub header_there : (bytes : List ℕ) → first_fault bytes ≡ None → 12 ≤ length bytes
header_there bytes h = (has_none bytes h).header
