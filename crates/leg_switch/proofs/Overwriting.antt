-- The code finds a packet's frame number and overwrites it.
use Rattle.std.proofs.Common.{◌≡◌, ◌≤◌, ◌+◌, ◌*◌, ℕ, List, ◌++◌, length, take, drop, sym, ap, ap₂, ◌∙◌, arith}
use Rattle.std.specs.declared.option.Option.{Option}
use Rattle.std.specs.declared.option.Option.TheVariants.{None, Some}
use Rattle.byteorder.specs.Endian.{big_bytes}
use Rattle.rtp_packet.specs.Faults.{first_fault}
use Rattle.rtp_packet.specs.Fields.{block_of, csrc_count, profile_of}
use Rattle.leg_switch.specs.FrameNumbers.{after, number_place, place_by}
use Rattle.leg_switch.proofs.Places.{long_at}
use Rattle.leg_switch.proofs.Renumbering.{renumbering}

pub no_profile : (id : ℕ) (bytes : List ℕ) → profile_of bytes ≡ None → number_place id bytes ≡ None
unfolding number_place
no_profile id bytes e = ap (λ (o : Option ℕ). after (16 + 4 * csrc_count bytes) (place_by id o (block_of bytes))) e

by_profile : (id : ℕ) (bytes block : List ℕ) (profile : ℕ) → profile_of bytes ≡ Some profile → block_of bytes ≡ block → number_place id bytes ≡ after (16 + 4 * csrc_count bytes) (place_by id (Some profile) block)
unfolding number_place
by_profile id bytes block profile e f = ap₂ (λ (o : Option ℕ) (b : List ℕ). after (16 + 4 * csrc_count bytes) (place_by id o b)) e f

pub none_by : (id : ℕ) (bytes block : List ℕ) (profile : ℕ) → profile_of bytes ≡ Some profile → block_of bytes ≡ block → place_by id (Some profile) block ≡ None → number_place id bytes ≡ None
none_by id bytes block profile e f none = by_profile id bytes block profile e f ∙ ap (after (16 + 4 * csrc_count bytes)) none

pub placed_by : (id : ℕ) (bytes block : List ℕ) (profile csrcs place : ℕ) → profile_of bytes ≡ Some profile → block_of bytes ≡ block → place_by id (Some profile) block ≡ Some place
    → csrcs ≡ csrc_count bytes → Some (12 + 4 * csrcs + 4 + place) ≡ number_place id bytes
placed_by id bytes block profile csrcs place e f at count =
    ap Some (let k : 12 + 4 * csrcs + 4 + place ≡ 16 + 4 * csrc_count bytes + place = omega (arith, count) in k)
    ∙ ap (after (16 + 4 * csrc_count bytes)) (sym at) ∙ sym (by_profile id bytes block profile e f)

pub place_there : (id p : ℕ) (bytes : List ℕ) → first_fault bytes ≡ None → number_place id bytes ≡ Some p → p + 2 ≤ length bytes
place_there id p bytes none at = let r = renumbering id 0 p bytes none at in long_at p r.high r.low bytes r.more r.at

pub overwritten_reads : (id p n : ℕ) (old new field : List ℕ) → first_fault old ≡ None → number_place id old ≡ Some p → field ≡ big_bytes 2 n → new ≡ take p old ++ field ++ drop (p + length field) old
    → first_fault new ≡ None
overwritten_reads id p n old new field none at is_field is =
    ap first_fault (is ∙ ap (λ (f : List ℕ). take p old ++ f ++ drop (p + length f) old) is_field) ∙ (renumbering id n p old none at).reads
