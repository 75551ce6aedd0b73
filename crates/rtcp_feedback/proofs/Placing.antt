-- Places in a datagram, given as numbers.
use Rattle.std.proofs.Common.{◌≡◌, ◌∙◌, ℕ, zero, suc, ◌+◌, ◌-◌, ◌<◌, ◌≤◌, List, [], ◌∷◌, ◌++◌, length, take, drop, slice_range, refl, ap, sym, arith, append_assoc, length-drop, drop-drop}
use Rattle.std.specs.Prelude.{None}
use Rattle.std.proofs.lemmas.List.{drop-take, map-append, take_rest}
use Rattle.rtcp_feedback.specs.declared.feedback.Feedback.{Feedback}
use Rattle.rtcp_feedback.specs.declared.feedback.Feedback.TheVariants.{Nack}
use Rattle.rtcp_feedback.specs.declared.cursor.Cursor.{Cursor}
use Rattle.rtcp_feedback.specs.Faults.{fault_among, packets_in}
use Rattle.rtcp_feedback.specs.Fields.{length_of}
use Rattle.rtcp_feedback.specs.Names.{names_in}
use Rattle.rtcp_feedback.specs.Reading.{feedback_of, nacks, packet_feedback}
use Rattle.rtcp_feedback.specs.Cursors.{LiesIn, left_at}
use Rattle.rtcp_feedback.proofs.Cutting.{no_feedback, no_packet_fault, still_faultless, with_packet}
use Rattle.rtcp_feedback.proofs.Marks.{no_pair_names}

-- the remaining part of a list is at its end
suffix : (xs : List ℕ) (k : ℕ) → drop (length xs - length (drop k xs)) xs ≡ drop k xs
suffix [] zero = refl
suffix [] (suc k) = refl
suffix (x ∷ xs) zero =
    let none : length (x ∷ xs) - length (x ∷ xs) ≡ 0 = omega arith in
    ap (λ (n : ℕ). drop n (x ∷ xs)) none
suffix (x ∷ xs) (suc k) =
    let short = length-drop k xs in
    let more : length (x ∷ xs) - length (drop k xs) ≡ suc (length xs - length (drop k xs)) = omega (arith, short) in
    ap (λ (n : ℕ). drop n (x ∷ xs)) more ∙ suffix xs k

pub rest_some : (bytes : List ℕ) (p : ℕ) → p < length bytes → 0 < length (drop p bytes)
rest_some bytes p some = let short = length-drop p bytes in omega (arith, short, some)

-- the packet that begins at a byte, and the bytes after it
module _ (bytes : List ℕ) (p : ℕ) (behind : List ℕ) (some : p < length bytes)
    (there : behind ≡ drop (length_of (take (length bytes - p) (drop p bytes))) (take (length bytes - p) (drop p bytes))) where
  behind_is : behind ≡ drop (length_of (drop p bytes)) (drop p bytes)
  behind_is = there ∙ ap (λ (l : List ℕ). drop (length_of l) l) (take_rest bytes p)

  behind_at : drop (length bytes - length behind) bytes ≡ behind
  behind_at =
      let k : ℕ = length_of (drop p bytes) in
      let b : behind ≡ drop (p + k) bytes = behind_is ∙ drop-drop k p bytes in
      ap (λ (l : List ℕ). drop (length bytes - length l) bytes) b ∙ (suffix bytes (p + k) ∙ sym b)

  pub faultless_at : fault_among (packets_in (drop p bytes)) ≡ None → fault_among (packets_in (drop (length bytes - length behind) bytes)) ≡ None
  faultless_at none = ap (λ (l : List ℕ). fault_among (packets_in l)) behind_at ∙ still_faultless (drop p bytes) behind (rest_some bytes p some) none behind_is

  pub with_behind : (items : List Feedback) → items ≡ packet_feedback (take (length bytes - p) (drop p bytes)) → feedback_of (drop p bytes) ≡ items ++ feedback_of (drop (length bytes - length behind) bytes)
  with_behind items are =
      sym (with_packet (drop p bytes) behind items (rest_some bytes p some) (are ∙ ap packet_feedback (take_rest bytes p)) behind_is)
      ∙ ap (λ (l : List ℕ). items ++ feedback_of l) (sym behind_at)

pub no_pairs_at : (media at : ℕ) (bytes packets : List ℕ) → nacks media (names_in (slice_range bytes at at)) ++ feedback_of packets ≡ feedback_of packets
no_pairs_at media at bytes packets =
    let none : at - at ≡ 0 = omega arith in
    ap (λ (n : ℕ). nacks media (names_in (take n (drop at bytes))) ++ feedback_of packets) none ∙ no_pair_names media packets

pub pairs_at : (bytes pairs : List ℕ) (p : ℕ) → pairs ≡ slice_range (take (length bytes - p) (drop p bytes)) 12 (12 + length pairs) → slice_range bytes (p + 12) (p + 12 + length pairs) ≡ pairs
pairs_at bytes pairs p are =
    let n : ℕ = length pairs in
    let long : p + 12 + n - (p + 12) ≡ 12 + n - 12 = omega arith in
    ap (λ (m : ℕ). take m (drop (p + 12) bytes)) long
    ∙ (ap (λ (l : List ℕ). take (12 + n - 12) l) (sym (drop-drop 12 p bytes))
    ∙ (ap (λ (l : List ℕ). slice_range l 12 (12 + n)) (sym (take_rest bytes p)) ∙ sym are))

pairs_on : (bytes : List ℕ) (a e : ℕ) → 4 ≤ e - a → drop 4 (take (e - a) (drop a bytes)) ≡ slice_range bytes (a + 4) e
pairs_on bytes a e long =
    let same : e - a ≡ 4 + (e - (a + 4)) = omega (arith, long) in
    ap (λ (n : ℕ). drop 4 (take n (drop a bytes))) same
    ∙ (drop-take 4 (e - (a + 4)) (drop a bytes) ∙ ap (λ (l : List ℕ). take (e - (a + 4)) l) (drop-drop 4 a bytes))

-- the names of the next pair
pub next_pair : (media : ℕ) (none first : List ℕ) (bytes packets : List ℕ) (a e : ℕ) → none ≡ [] → 4 ≤ e - a → names_in (take (e - a) (drop a bytes)) ≡ first ++ names_in (drop 4 (take (e - a) (drop a bytes)))
    → nacks media first ++ (nacks media (names_in (slice_range bytes (a + 4) e)) ++ feedback_of packets) ≡ nacks media none ++ (nacks media (names_in (take (e - a) (drop a bytes))) ++ feedback_of packets)
next_pair media none first bytes packets a e is long names =
    let others : List ℕ = names_in (slice_range bytes (a + 4) e) in
    let all : names_in (take (e - a) (drop a bytes)) ≡ first ++ others = names ∙ ap (λ (l : List ℕ). first ++ names_in l) (pairs_on bytes a e long) in
    sym (append_assoc (nacks media first) (nacks media others) (feedback_of packets))
    ∙ (ap (λ (l : List Feedback). l ++ feedback_of packets) (sym (map-append (λ (seq : ℕ). Nack media seq) first others))
    ∙ (ap (λ (l : List ℕ). nacks media l ++ feedback_of packets) (sym all)
    ∙ ap (λ (l : List ℕ). nacks media l ++ (nacks media (names_in (take (e - a) (drop a bytes))) ++ feedback_of packets)) (sym is)))

-- ---- the place before the first packet

pub stands_first : (bytes : List ℕ) (s : Cursor) → (s.pairs ≡ 0) × (s.end ≡ 0) × (s.packets ≡ 0) → fault_among (packets_in bytes) ≡ None → LiesIn bytes s
stands_first bytes s place none =
    let pairs = place.0 in
    let end = place.1 in
    let packets = place.2 in
    record {
      begins = omega (arith, pairs, end);
      ends = omega (arith, end);
      packets = omega (arith, packets);
      faultless = ap (λ (n : ℕ). fault_among (packets_in (drop n bytes))) packets ∙ none;
    }

pub left_first : (bytes : List ℕ) (s : Cursor) → left_at bytes s ≡ nacks 0 (names_in (slice_range bytes 0 0)) ++ feedback_of bytes → left_at bytes s ≡ feedback_of bytes
left_first bytes s is = is ∙ no_pairs_at 0 0 bytes bytes

-- ---- the place after the last packet

pub stands_last : (bytes : List ℕ) (s : Cursor) (end : ℕ) → end ≡ length bytes → (s.pairs ≡ end) × (s.end ≡ end) × (s.packets ≡ end) → LiesIn bytes s
stands_last bytes s end is place =
    let pairs = place.0 in
    let ends = place.1 in
    let packets = place.2 in
    let short = length-drop s.packets bytes in
    record {
      begins = omega (arith, pairs, ends);
      ends = omega (arith, ends, is);
      packets = omega (arith, packets, is);
      faultless = no_packet_fault (drop s.packets bytes) (omega (arith, short, packets, is));
    }

pub left_last : (bytes : List ℕ) (s : Cursor) (end : ℕ) → end ≡ length bytes → left_at bytes s ≡ nacks 0 (names_in (slice_range bytes end end)) ++ feedback_of (drop end bytes) → left_at bytes s ≡ []
left_last bytes s end is left =
    let short = length-drop end bytes in
    left ∙ (no_pairs_at 0 end bytes (drop end bytes) ∙ no_feedback (drop end bytes) (omega (arith, short, is)))
