-- The largest length of units: an OBU has at most five bytes more than its element, elements are parts of packets, and a frame has at most 512 packets.
use Rattle.std.proofs.Common.{◌≡◌, ℕ, zero, suc, ◌+◌, ◌-◌, ◌*◌, ◌/◌, ◌==◌, ◌<◌, ◌≤◌, Bool, true, false, cond, nat_lt, List, [], ◌∷◌, ◌++◌, length, map, take, drop, Option, Some, None, Result, Ok, Err, refl, ap, arith}
use Rattle.std.specs.Option.{option_map}
use Rattle.std.proofs.lemmas.Grind.{common_steps}
use Rattle.std.proofs.lemmas.List.{length-append, length-drop, length-take}
use Rattle.obu_element.specs.declared.obu_header.ObuFault.{ObuFault}
use Rattle.obu_element.specs.Reading.{first_fault, has_size_in, header_of, is_extended}
use Rattle.rtp_packet.specs.Fields.{behind_csrcs, behind_extension, behind_header, csrc_count, is_extended as has_extension, is_padded, last_byte, block_words, payload_in as payload_behind, payload_of}
use Rattle.av1_payload.specs.declared.fault.PayloadFault.{PayloadFault}
use Rattle.av1_payload.specs.Reading.{and_behind, count_in, counted_from, elements_of, found_behind, front_element, groups_at, length_at, sized_at, sized_from}
use Rattle.av1_payload.proofs.Groups.{length_takes}
use Rattle.ivf_recorder.specs.Elements.{add_elements, elements_over, joined_onto, no_elements, onto_last, part_of}
use Rattle.ivf_recorder.specs.Frames.{AreShort}
use Rattle.ivf_recorder.specs.Leb.{least_leb, leb_within}
use Rattle.ivf_recorder.specs.Obus.{Obu, all_bytes, behind_size, both, is_left_out, obu_bytes, obu_unless, obu_with, obus_in, obus_of, payload_in, unless_left_out}
use Rattle.ivf_recorder.proofs.Laying.{all_more}
use Rattle.ivf_recorder.proofs.Lebs.{leb_last, leb_more, leb_small}
use Rattle.ivf_recorder.proofs.ObuLemmas.{length_at_within}

-- ---- OBUs

leb_short : (more n : ℕ) → length (leb_within more n) ≤ more + 1
leb_short zero n = let e = ap length (leb_last n) in omega arith
leb_short (suc more) n = by_test (leb_short more (n / 128)) (nat_lt n 128) refl
  where
    by_test : length (leb_within more (n / 128)) ≤ more + 1 → (b : Bool) → nat_lt n 128 ≡ b → length (leb_within (suc more) n) ≤ suc more + 1
    by_test h true is =
        let lt : n < 128 = grind (arith, common_steps) in
        let e = ap length (leb_small (suc more) n lt) in
        omega arith
    by_test h false is =
        let le : 128 ≤ n = grind (arith, common_steps) in
        let e = ap length (leb_more more (suc more) n refl le) in
        omega arith

-- an upper bound of the bytes of the OBUs of elements
abbrev pub weight : List (List ℕ) → ℕ
weight [] = 0
weight (element ∷ others) = length element + 5 + weight others

some_len : (c : Bool) → 1 ≤ cond {A = ℕ} c 2 1
some_len true = omega arith
some_len false = omega arith

with_weighs : (b : ℕ) (bs payload : List ℕ) → length payload ≤ length (drop (header_of (b ∷ bs)).len (b ∷ bs)) → length (obu_bytes (obu_with (b ∷ bs) payload)) ≤ length (b ∷ bs) + 5
with_weighs b bs payload within =
    let o = obu_with (b ∷ bs) payload in
    let len = (header_of (b ∷ bs)).len in
    let some : 1 ≤ len = some_len (is_extended (b ∷ bs)) in
    let d = length-drop len (b ∷ bs) in
    let t : length o.extension ≡ length (take (len - 1) bs) = refl in
    let u = length-take (len - 1) bs in
    let l : length (least_leb (length payload)) ≤ 5 = leb_short 4 (length payload) in
    let a = length-append o.extension (least_leb (length payload) ++ payload) in
    let c = length-append (least_leb (length payload)) payload in
    omega arith

payload_shorter : (sized : Bool) (behind payload : List ℕ) → payload_in sized behind ≡ Some payload → length payload ≤ length behind
payload_shorter false behind payload e = let s : behind ≡ payload = cc in let l = ap length s in omega arith
payload_shorter true behind payload e = by_size (length_at behind) refl e
  where
    by_test : (n : ℕ) (rest : List ℕ) (b : Bool) → length_at behind ≡ Some (n, rest) → cond {A = Option (List ℕ)} b (Some rest) None ≡ Some payload → length payload ≤ length behind
    by_test n rest true at is =
        let s : rest ≡ payload = cc in
        let l = ap length s in
        let w = length_at_within behind n rest at in
        omega arith
    by_test n rest false at is = absurd cc

    by_size : (o : Option (ℕ × List ℕ)) → length_at behind ≡ o → behind_size o ≡ Some payload → length payload ≤ length behind
    by_size None at is = absurd cc
    by_size (Some (n, rest)) at is = by_test n rest (n == length rest) at is

one_weighs : (element : List ℕ) (obus : List Obu) → obus_of element ≡ Some obus → length (all_bytes obus) ≤ length element + 5
one_weighs [] obus e = let s : [] ≡ obus = cc in let l = ap (λ (os : List Obu). length (all_bytes os)) s in omega arith
one_weighs (b ∷ bs) obus e = by_fault (first_fault (b ∷ bs)) e
  where
    by_out : (out : Bool) (o : Obu) → length (obu_bytes o) ≤ length (b ∷ bs) + 5 → Some (cond {A = List Obu} out [] (o ∷ [])) ≡ Some obus → length (all_bytes obus) ≤ length (b ∷ bs) + 5
    by_out true o le e = (let s : [] ≡ obus = cc in let l = ap (λ (os : List Obu). length (all_bytes os)) s in omega arith)
    by_out false o le e =
        let s : o ∷ [] ≡ obus = cc in
        let l = ap (λ (os : List Obu). length (all_bytes os)) s in
        let a = length-append (obu_bytes o) [] in
        omega arith

    by_payload : (p : Option (List ℕ)) → payload_in (has_size_in (b ∷ bs)) (drop (header_of (b ∷ bs)).len (b ∷ bs)) ≡ p → unless_left_out (option_map (obu_with (b ∷ bs)) p) ≡ Some obus
        → length (all_bytes obus) ≤ length (b ∷ bs) + 5
    by_payload None at e = absurd cc
    by_payload (Some payload) at e =
        by_out (is_left_out (obu_with (b ∷ bs) payload)) (obu_with (b ∷ bs) payload)
        (with_weighs b bs payload (payload_shorter (has_size_in (b ∷ bs)) (drop (header_of (b ∷ bs)).len (b ∷ bs)) payload at)) e

    by_fault : (f : Option ObuFault) → unless_left_out (obu_unless f (b ∷ bs)) ≡ Some obus → length (all_bytes obus) ≤ length (b ∷ bs) + 5
    by_fault (Some f) e = absurd cc
    by_fault None e = by_payload (payload_in (has_size_in (b ∷ bs)) (drop (header_of (b ∷ bs)).len (b ∷ bs))) refl e

pub obus_weigh : (elements : List (List ℕ)) (obus : List Obu) → obus_in elements ≡ Some obus → length (all_bytes obus) ≤ weight elements
obus_weigh [] obus e = let s : [] ≡ obus = cc in let l = ap (λ (os : List Obu). length (all_bytes os)) s in omega arith
obus_weigh (element ∷ elements) obus e = go (obus_weigh elements) (obus_of element) (obus_in elements) refl refl e
  where
    go : ((ps : List Obu) → obus_in elements ≡ Some ps → length (all_bytes ps) ≤ weight elements) → (x y : Option (List Obu)) → obus_of element ≡ x → obus_in elements ≡ y → both x y ≡ Some obus
        → length (all_bytes obus) ≤ weight (element ∷ elements)
    go rest None y a b e = absurd cc
    go rest (Some os) None a b e = absurd cc
    go rest (Some os) (Some ps) a b e =
        let s : os ++ ps ≡ obus = cc in
        let l = ap (λ (x : List Obu). length (all_bytes x)) s in
        let m = ap length (all_more os ps) in
        let n = length-append (all_bytes os) (all_bytes ps) in
        let f = one_weighs element os a in
        let g = rest ps b in
        omega arith

-- ---- elements

weight_append : (a b : List (List ℕ)) → weight (a ++ b) ≡ weight a + weight b
weight_append [] b = omega arith
weight_append (e ∷ a) b = let h = weight_append a b in omega arith

no_length : length_at [] ≡ None
unfolding length_at groups_at
no_length = refl

-- an element preceded by its length
front_takes : (bytes element behind : List ℕ) → sized_at bytes ≡ Ok (element, behind) → length element + length behind + 1 ≤ length bytes
front_takes bytes element behind e = by_length (length_at bytes) refl e
  where
    ok_same : (x y : List ℕ × List ℕ) (r : Result (List ℕ × List ℕ) PayloadFault) → r ≡ Ok x → r ≡ Ok y → x ≡ y
    ok_same x y r d e = cc

    some : (xs : List ℕ) (n : ℕ) (rest : List ℕ) → length_at xs ≡ Some (n, rest) → length rest + 1 ≤ length xs
    some [] n rest at = let none = no_length in absurd cc
    some (x ∷ xs) n rest at =
        let t = length_takes (x ∷ xs) rest n at in
        let l = ap length t.2 in
        let d = length-drop t.0 (x ∷ xs) in
        let positive = t.1 in
        omega arith

    by_test : (n : ℕ) (rest : List ℕ) (b : Bool) → length_at bytes ≡ Some (n, rest) → cond {A = Result (List ℕ × List ℕ) PayloadFault} b (Err PayloadFault.Length) (Ok (take n rest, drop n rest)) ≡ Ok (element, behind)
        → length element + length behind + 1 ≤ length bytes
    by_test n rest true at is = absurd cc
    by_test n rest false at is =
        let s : (take n rest, drop n rest) ≡ (element, behind) = ok_same (take n rest, drop n rest) (element, behind) (Ok (take n rest, drop n rest)) refl is in
        let a : length (take n rest) ≡ length element = ap (λ (x : List ℕ × List ℕ). length x.0) s in
        let b : length (drop n rest) ≡ length behind = ap (λ (x : List ℕ × List ℕ). length x.1) s in
        let c = length-take n rest in
        let d = length-drop n rest in
        let w = some bytes n rest at in
        omega arith

    by_length : (o : Option (ℕ × List ℕ)) → length_at bytes ≡ o → front_element o ≡ Ok (element, behind) → length element + length behind + 1 ≤ length bytes
    by_length None at is = absurd cc
    by_length (Some (n, rest)) at is = by_test n rest (nat_lt (length rest) n) at is

sized_weigh : (skipped : ℕ) (bytes : List ℕ) → weight (sized_from skipped bytes).elements ≤ 6 * (length bytes - skipped)
unfolding sized_from
sized_weigh skipped [] = omega arith
sized_weigh (suc skipped) (byte ∷ rest) = let h = sized_weigh skipped rest in omega arith
sized_weigh zero (byte ∷ rest) = go (λ s. sized_weigh s rest) (sized_at (byte ∷ rest)) refl
  where
    go : ((s : ℕ) → weight (sized_from s rest).elements ≤ 6 * (length rest - s)) → (x : Result (List ℕ × List ℕ) PayloadFault) → sized_at (byte ∷ rest) ≡ x
        → weight (and_behind x (λ behind. sized_from (length rest - length behind) rest)).elements ≤ 6 * (length (byte ∷ rest) - 0)
    go each (Err fault) is = omega arith
    go each (Ok (element, behind)) is =
        let h = each (length rest - length behind) in
        let t = front_takes (byte ∷ rest) element behind is in
        omega arith

counted_weigh : (sized : ℕ) (bytes : List ℕ) → weight (counted_from sized bytes).elements ≤ 6 * length bytes + 5
unfolding counted_from
counted_weigh zero bytes = omega arith
counted_weigh (suc sized) bytes = go (λ behind. counted_weigh sized behind) (sized_at bytes) refl
  where
    go : ((behind : List ℕ) → weight (counted_from sized behind).elements ≤ 6 * length behind + 5) → (x : Result (List ℕ × List ℕ) PayloadFault) → sized_at bytes ≡ x
        → weight (and_behind x (counted_from sized)).elements ≤ 6 * length bytes + 5
    go each (Err fault) is = omega arith
    go each (Ok (element, behind)) is =
        let h = each behind in
        let t = front_takes bytes element behind is in
        omega arith

elements_weigh : (payload : List ℕ) → weight (elements_of payload) ≤ 6 * length payload
elements_weigh [] = omega arith
elements_weigh (header ∷ rest) = let h = behind (count_in header) rest in omega arith
  where
    behind : (count : ℕ) (bytes : List ℕ) → weight (found_behind count bytes).elements ≤ 6 * length bytes + 6
    behind zero [] = omega arith
    behind zero (byte ∷ bytes) = let h = sized_weigh 0 (byte ∷ bytes) in omega arith
    behind (suc sized) bytes = let h = counted_weigh sized bytes in omega arith

payload_within : (packet : List ℕ) → length (payload_of packet) ≤ length packet
payload_within packet =
    let a = by_padding (is_padded packet) (behind_header packet) in
    let b = by_extension (has_extension packet) (behind_csrcs packet) in
    let c = length-drop (12 + 4 * csrc_count packet) packet in
    omega arith
  where
    by_padding : (padded : Bool) (rest : List ℕ) → length (payload_behind padded rest) ≤ length rest
    by_padding true rest = let t = length-take (length rest - last_byte rest) rest in omega arith
    by_padding false rest = omega arith

    by_extension : (extended : Bool) (rest : List ℕ) → length (behind_extension extended rest) ≤ length rest
    by_extension true rest = let d = length-drop (4 + 4 * block_words rest) rest in omega arith
    by_extension false rest = omega arith

onto_weighs : (before : List (List ℕ)) (more : List ℕ) → weight (onto_last before more) ≤ weight before + (length more + 5)
onto_weighs [] more = omega arith
onto_weighs (e ∷ []) more = let l = length-append e more in omega arith
onto_weighs (e ∷ f ∷ others) more = let h = onto_weighs (f ∷ others) more in omega arith

add_weighs : (continues : Bool) (before elements : List (List ℕ)) → weight (add_elements continues before elements) ≤ weight before + weight elements
add_weighs false before elements = let a = weight_append before elements in omega arith
add_weighs true before [] = omega arith
add_weighs true before (e ∷ others) =
    let a = weight_append (onto_last before e) others in
    let o = onto_weighs before e in
    omega arith

joined_weigh : (before : List (List ℕ)) (packets : List (List ℕ)) → AreShort packets → weight (joined_onto before (map part_of packets)) ≤ weight before + 12288 * length packets
joined_weigh before [] short = omega arith
joined_weigh before (p ∷ packets) short =
    let next = add_elements (part_of p).continues before (part_of p).elements in
    let h = joined_weigh next packets short.1 in
    let a = add_weighs (part_of p).continues before (part_of p).elements in
    let e : weight (part_of p).elements ≤ 6 * length (payload_of p) = elements_weigh (payload_of p) in
    let w = payload_within p in
    let s = short.0 in
    omega arith

-- the OBUs of a frame's packets
pub frame_weighs : (packets : List (List ℕ)) (obus : List Obu) → AreShort packets → length packets ≤ 512 → obus_in (elements_over packets) ≡ Some obus → length (all_bytes obus) ≤ 6291461
frame_weighs packets obus short few e =
    let o = obus_weigh (elements_over packets) obus e in
    let j = joined_weigh no_elements packets short in
    omega arith
