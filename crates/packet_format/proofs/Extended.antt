-- A packet with another header extension has that extension, and is otherwise the same.
use Rattle.std.proofs.Common.{◌≡◌, ◌<◌, ◌≤◌, ℕ, ◌+◌, ◌*◌, ◌/◌, ◌%◌, ◌==◌, Bool, true, false, List, ◌∷◌, ◌++◌, length, take, drop, slice_index, Some, None, refl, sym, ap, ◌∙◌, arith, length-append}
use Rattle.std.proofs.lemmas.Bool.{le-ltb}
use Rattle.std.proofs.lemmas.List.{drop-drop, drop_at, take_at, length-take-le}
use Rattle.byteorder.specs.Endian.{big_bytes}
use Rattle.rtp_packet.specs.Faults.{first_fault, has_bad_padding, lacks_extension}
use Rattle.rtp_packet.specs.Fields.{behind_csrcs, behind_extension, behind_header, block_in, block_of, block_words, csrc_count, is_extended, is_padded, marker_of, payload_in, payload_of, payload_type_of, profile_in, profile_of, sequence_of, ssrc_of, timestamp_of}
use Rattle.rtp_packet.specs.Rewritten.{rewritten}
use Rattle.rtp_packet.proofs.Faultless.{has_none, none_found}
use Rattle.rtp_packet.proofs.Rewriting.{same_behind}
use Rattle.rtp_packet.proofs.Taken.{two_back}
use Rattle.rtp_extension.specs.Reblocked.{extension_bytes}
use Rattle.packet_format.specs.Remasked.{with_extension}

at_both : {X : Type 0} (f : Bool → List ℕ → X) (a b : Bool) (xs ys : List ℕ) → a ≡ b → xs ≡ ys → f a xs ≡ f b ys
at_both f a b xs ys e h = ap (λ (x : Bool). f x xs) e ∙ ap (f b) h

-- the fixed header stays
record SameFront (bytes new : List ℕ) : Type 0 where
  first : slice_index new 0 ≡ slice_index bytes 0
  front : take 12 new ≡ take 12 bytes
  marker : marker_of new ≡ marker_of bytes
  payload_type : payload_type_of new ≡ payload_type_of bytes
  sequence : sequence_of new ≡ sequence_of bytes
  timestamp : timestamp_of new ≡ timestamp_of bytes
  ssrc : ssrc_of new ≡ ssrc_of bytes

same_front : (extension bytes : List ℕ) → 12 ≤ length bytes → SameFront bytes (with_extension extension bytes)
same_front extension (a ∷ b ∷ c ∷ d ∷ e ∷ f ∷ g ∷ h ∷ i ∷ j ∷ k ∷ l ∷ rest) long =
    record { first = refl; front = refl; marker = refl; payload_type = refl; sequence = refl; timestamp = refl; ssrc = refl }
same_front extension bytes long = absurd (omega arith)

-- the new extension follows the CSRC list
new_behind : (extension bytes : List ℕ) → 12 + 4 * csrc_count bytes ≤ length bytes
    → behind_csrcs (with_extension extension bytes) ≡ extension ++ behind_header bytes
new_behind extension (a ∷ b ∷ c ∷ d ∷ e ∷ f ∷ g ∷ h ∷ i ∷ j ∷ k ∷ l ∷ rest) long =
    let old : List ℕ = a ∷ b ∷ c ∷ d ∷ e ∷ f ∷ g ∷ h ∷ i ∷ j ∷ k ∷ l ∷ rest in
    let words = 4 * (a % 16) in
    sym (drop-drop words 12 (with_extension extension old))
    ∙ drop_at (take words rest) (extension ++ behind_header old) words (length-take-le words rest (omega (arith, long)))
new_behind extension bytes long = absurd (omega arith)

pub length-with_extension : (extension bytes : List ℕ) → 12 + 4 * csrc_count bytes ≤ length bytes
    → length (with_extension extension bytes) ≡ 12 + 4 * csrc_count bytes + length extension + length (behind_header bytes)
length-with_extension extension (a ∷ b ∷ c ∷ d ∷ e ∷ f ∷ g ∷ h ∷ i ∷ j ∷ k ∷ l ∷ rest) long =
    let old : List ℕ = a ∷ b ∷ c ∷ d ∷ e ∷ f ∷ g ∷ h ∷ i ∷ j ∷ k ∷ l ∷ rest in
    let words = 4 * (a % 16) in
    omega (
      arith,
      length-append (take words rest) (extension ++ behind_header old),
      length-append extension (behind_header old),
      length-take-le words rest (omega (arith, long)),
    )
length-with_extension extension bytes long = absurd (omega arith)

-- the properties of a packet with this extension in place of its own
pub record IsExtended (its_profile : ℕ) (its_block bytes new : List ℕ) : Type 0 where
  pub reads : first_fault bytes ≡ None → first_fault new ≡ None
  pub front : take 12 new ≡ take 12 bytes
  pub marker : marker_of new ≡ marker_of bytes
  pub payload_type : payload_type_of new ≡ payload_type_of bytes
  pub sequence : sequence_of new ≡ sequence_of bytes
  pub timestamp : timestamp_of new ≡ timestamp_of bytes
  pub ssrc : ssrc_of new ≡ ssrc_of bytes
  pub csrcs : csrc_count new ≡ csrc_count bytes
  pub profile : profile_of new ≡ Some its_profile
  pub block : block_of new ≡ its_block
  pub behind : behind_header new ≡ behind_header bytes
  pub payload : payload_of new ≡ payload_of bytes

pub extended : (profile : ℕ) (block bytes : List ℕ) → 12 + 4 * csrc_count bytes ≤ length bytes → is_extended bytes ≡ true → profile < 65536 → length block / 4 < 65536
    → length block ≡ 4 * (length block / 4) → IsExtended profile block bytes (with_extension (extension_bytes profile block) bytes)
extended profile block bytes long x small few whole =
    let extension = extension_bytes profile block in
    let words = length block / 4 in
    let new = with_extension extension bytes in
    let tail = behind_header bytes in
    let all = extension ++ tail in
    let same = same_front extension bytes (omega (arith, long)) in
    let x_new : is_extended new ≡ true = ap (λ (n : ℕ). n / 16 % 2 == 1) same.first ∙ x in
    let p_new : is_padded new ≡ is_padded bytes = ap (λ (n : ℕ). n / 32 % 2 == 1) same.first in
    let count : csrc_count new ≡ csrc_count bytes = ap (λ (n : ℕ). n % 16) same.first in
    let at = new_behind extension bytes long in
    let words_is : block_words all ≡ words = two_back words (block ++ tail) (omega (arith, few)) in
    let behind : behind_header new ≡ tail =
    at_both behind_extension (is_extended new) true (behind_csrcs new) all x_new at
    ∙ ap (λ (w : ℕ). drop (4 + 4 * w) all) words_is
    ∙ sym (drop-drop (4 * words) 4 all)
    ∙ drop_at block tail (4 * words) whole in
    let there : lacks_extension true all ≡ false =
    le-ltb (length all) (4 + 4 * block_words all) (omega (arith, words_is, length-append block tail)) in
    record {
      reads = λ none.
          let old = has_none bytes none in
          none_found new (record {
            header = omega (arith, length-with_extension extension bytes long, long);
            version = ap (λ (n : ℕ). n / 64) same.first ∙ old.version;
            csrcs = omega (arith, length-with_extension extension bytes long, count);
            extension = at_both lacks_extension (is_extended new) true (behind_csrcs new) all x_new at ∙ there;
            padding = at_both has_bad_padding (is_padded new) (is_padded bytes) (behind_header new) tail p_new behind ∙ old.padding;
          });
      front = same.front;
      marker = same.marker;
      payload_type = same.payload_type;
      sequence = same.sequence;
      timestamp = same.timestamp;
      ssrc = same.ssrc;
      csrcs = count;
      profile = at_both profile_in (is_extended new) true (behind_csrcs new) all x_new at
          ∙ ap Some (two_back profile (big_bytes 2 words ++ (block ++ tail)) (omega (arith, small)));
      block = at_both block_in (is_extended new) true (behind_csrcs new) all x_new at
          ∙ ap (λ (w : ℕ). take (4 * w) (block ++ tail)) words_is ∙ take_at block tail (4 * words) whole;
      behind = behind;
      payload = at_both payload_in (is_padded new) (is_padded bytes) (behind_header new) tail p_new behind;
    }

-- another extension, with another sequence number, SSRC and marker

tail_rewritten : (s r : ℕ) (m : Bool) (bytes : List ℕ) → 12 ≤ length bytes → behind_header (rewritten s r m bytes) ≡ behind_header bytes
unfolding rewritten
tail_rewritten s r m (a ∷ b ∷ c ∷ d ∷ e ∷ f ∷ g ∷ h ∷ i ∷ j ∷ k ∷ l ∷ rest) long =
    let old : List ℕ = a ∷ b ∷ c ∷ d ∷ e ∷ f ∷ g ∷ h ∷ i ∷ j ∷ k ∷ l ∷ rest in
    ap (behind_extension (is_extended old)) (same_behind old s r m long)
tail_rewritten s r m bytes long = absurd (omega arith)

pub extension_rewritten : (s r : ℕ) (m : Bool) (extension bytes : List ℕ) → 12 ≤ length bytes
    → with_extension extension (rewritten s r m bytes) ≡ rewritten s r m (with_extension extension bytes)
unfolding rewritten
extension_rewritten s r m extension (a ∷ b ∷ c ∷ d ∷ e ∷ f ∷ g ∷ h ∷ i ∷ j ∷ k ∷ l ∷ rest) long =
    let old : List ℕ = a ∷ b ∷ c ∷ d ∷ e ∷ f ∷ g ∷ h ∷ i ∷ j ∷ k ∷ l ∷ rest in
    ap (λ (x : List ℕ). take 12 (rewritten s r m old) ++ (take (4 * (a % 16)) rest ++ (extension ++ x))) (tail_rewritten s r m old long)
extension_rewritten s r m extension bytes long = absurd (omega arith)
