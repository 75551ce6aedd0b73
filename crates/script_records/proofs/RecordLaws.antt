-- A body is read as a call if and only if it is the call's body.
use Rattle.std.proofs.Common.{◌≡◌, ◌≤◌, ℕ, suc, ◌+◌, Bool, true, false, cond, leb, ◌&&◌, eqb, List, [], ◌∷◌, ◌++◌, length, drop, refl, sym, ap, ◌∙◌, subst, arith, Option, Some, None, append-nil, length-drop}
use Rattle.std.specs.List.{flat_map}
use Rattle.std.specs.Option.{option_map_or}
use Rattle.std.proofs.lemmas.Bool.Decides.{nat_tests}
use Rattle.byteorder.specs.Endian.{big_number}
use Rattle.byteorder.specs.Numbers.{big_number-reads_back}
use Rattle.hex.proofs.HexLemmas.{decode_of-ok}
use Rattle.sfu_base.specs.Bytes.{AreBytes}
use Rattle.sfu_base.specs.declared.call.Call.{Call}
use Rattle.sfu_base.specs.declared.call.Call.TheVariants as call
use Rattle.sfu_base.specs.declared.call.Kind.TheVariants.{Plain, Layered}
use Rattle.script_texts.specs.Grammar.{Place, Word, Number, Hex, Address, IsWithin, AllWithin, Fills, Spells}
use Rattle.script_texts.specs.Grammar.{Ssrc as SsrcPlace}
use Rattle.script_texts.specs.Lines.{HasLine, IsLine, places}
use Rattle.sfu_script.specs.Fields.{places_of}
use Rattle.sfu_script.specs.Reading.{◌>>=◌}
use Rattle.sfu_script.specs.ReadLines.{of_one, of_two, of_three, of_six}
use Rattle.sfu_script.specs.declared.fields.Field.{Field}
use Rattle.sfu_script.specs.declared.fields.Field.TheVariants.{Number8, Number16, Number32, Number64, Ssrc}
use Rattle.sfu_script.proofs.Options.{chosen, some_same}
use Rattle.script_records.specs.Kinds.{code_of, kind_named, has_length, is_in_table}
use Rattle.script_records.specs.Records.{IsBody, body_of, record_of, place_bytes}
use Rattle.script_records.specs.ReadRecords.{size_of, numbers_at, call_at, call_behind, call_of, of_four}
use Rattle.script_records.specs.declared.kind.RecordKind.{RecordKind}
use Rattle.script_records.specs.declared.kind.RecordKind.TheVariants as kind
use Rattle.script_records.proofs.Numbers.{all_within, whole_laid, numbers_laid, numbers_back, drop_bytes}

-- ---- kinds and their numbers

-- a number among others names its kind
pick : (code n : ℕ) (one k : RecordKind) (test : Bool) (other : Option RecordKind) → eqb code n ≡ test → n ≡ code_of one
    → (other ≡ Some k → code ≡ code_of k) → cond test (Some one) other ≡ Some k → code ≡ code_of k
pick code n one k true other is named later e =
    let same : code ≡ n = grind (arith, nat_tests) in same ∙ named ∙ ap code_of (some_same one k e)
pick code n one k false other is named later e = later e

no_kind : (code : ℕ) (k : RecordKind) → None ≡ Some k → code ≡ code_of k
no_kind code k e = cc

pub kind_is : (code : ℕ) (k : RecordKind) → kind_named code ≡ Some k → code ≡ code_of k
kind_is code k =
    pick code 1 kind.PublishPlain k _ _ refl refl
    (pick code 2 kind.PublishLayered k _ _ refl refl
    (pick code 3 kind.Unpublish k _ _ refl refl
    (pick code 4 kind.Packet k _ _ refl refl
    (pick code 5 kind.Tick k _ _ refl refl
    (pick code 6 kind.Join k _ _ refl refl
    (pick code 7 kind.Leave k _ _ refl refl
    (pick code 8 kind.Aim k _ _ refl refl
    (pick code 9 kind.Take k _ _ refl refl
    (pick code 10 kind.Resend k _ _ refl refl
    (pick code 11 kind.Missing k _ _ refl refl
    (pick code 12 kind.KeyWanted k _ _ refl refl
    (pick code 13 kind.Plead k _ _ refl refl
    (pick code 14 kind.Why k _ _ refl refl
    (no_kind code k))))))))))))))

-- ---- a call that is read is in the body

exactly : (count n : ℕ) → eqb (suc count) (suc n) ≡ true → count ≡ n
exactly count n e = grind (arith, nat_tests)

least : (count : ℕ) → (leb 14 (suc count) && leb (suc count) 2061) ≡ true → 13 ≤ count
least count e = grind (arith, nat_tests)

most : (count : ℕ) → (leb 14 (suc count) && leb (suc count) 2061) ≡ true → count ≤ 2060
most count e = grind (arith, nat_tests)

-- a packet's bytes follow its two numbers
packet_found : (bytes : List ℕ) (said : Call) → 13 ≤ length bytes → length bytes ≤ 2060 → AreBytes bytes → call_at kind.Packet bytes ≡ Some said → IsBody said (4 ∷ bytes)
packet_found bytes said long short fits e =
    let fs : List Field = Number32 ∷ Number64 ∷ [] in
    let h = all_within fs bytes fits in
    let laid = numbers_laid fs bytes (omega arith) fits in
    subst (λ (c : Call). IsBody c (4 ∷ bytes)) (some_same _ said e) (record {
      within = (tt, (h.0, (h.1.0, ((omega (arith, length-drop 12 bytes), omega (arith, length-drop 12 bytes), drop_bytes 12 bytes fits), tt))));
      is = ap (λ (x : List ℕ). 4 ∷ x) (sym laid ∙ ap (λ (x : List ℕ). flat_map place_bytes (places_of fs (numbers_at fs bytes)) ++ x) (sym (append-nil (drop 12 bytes))));
    })

-- the fields of a kind, and the call with their numbers, are the call's own places
whole_found : (fs : List Field) (code : ℕ) (bytes : List ℕ) (made said : Call) → length bytes ≡ size_of fs → AreBytes bytes → Some made ≡ Some said
    → HasLine made → code ∷ flat_map place_bytes (places_of fs (numbers_at fs bytes)) ≡ body_of made → IsBody said (code ∷ bytes)
whole_found fs code bytes made said same fits e within is =
    subst (λ (c : Call). IsBody c (code ∷ bytes)) (some_same made said e)
    (record { within = within; is = ap (λ (x : List ℕ). code ∷ x) (whole_laid fs bytes same fits) ∙ is })

pub found_at : (k : RecordKind) (bytes : List ℕ) (said : Call) → has_length k (suc (length bytes)) ≡ true → AreBytes bytes → call_at k bytes ≡ Some said
    → IsBody said (code_of k ∷ bytes)
found_at kind.PublishPlain bytes said count fits e =
    let fs : List Field = Number32 ∷ Ssrc ∷ Number32 ∷ [] in
    let h = all_within fs bytes fits in
    whole_found fs 1 bytes _ said (exactly (length bytes) 12 count) fits e (tt, (h.0, (tt, h.1))) refl
found_at kind.PublishLayered bytes said count fits e =
    let fs : List Field = Number32 ∷ Ssrc ∷ Number32 ∷ Number8 ∷ [] in
    let h = all_within fs bytes fits in
    whole_found fs 2 bytes _ said (exactly (length bytes) 13 count) fits e (tt, (h.0, (tt, h.1))) refl
found_at kind.Unpublish bytes said count fits e =
    let fs : List Field = Number32 ∷ [] in
    let h = all_within fs bytes fits in
    whole_found fs 3 bytes _ said (exactly (length bytes) 4 count) fits e (tt, h) refl
found_at kind.Packet bytes said count fits e = packet_found bytes said (least (length bytes) count) (most (length bytes) count) fits e
found_at kind.Tick bytes said count fits e =
    let fs : List Field = Number32 ∷ Number64 ∷ [] in
    let h = all_within fs bytes fits in
    whole_found fs 5 bytes _ said (exactly (length bytes) 12 count) fits e (tt, h) refl
found_at kind.Join bytes said count fits e =
    let fs : List Field = Number32 ∷ Number32 ∷ Ssrc ∷ Number16 ∷ Number8 ∷ Number8 ∷ [] in
    let h = all_within fs bytes fits in
    whole_found fs 6 bytes _ said (exactly (length bytes) 16 count) fits e (tt, h) refl
found_at kind.Leave bytes said count fits e =
    let fs : List Field = Number32 ∷ [] in
    let h = all_within fs bytes fits in
    whole_found fs 7 bytes _ said (exactly (length bytes) 4 count) fits e (tt, h) refl
found_at kind.Aim bytes said count fits e =
    let fs : List Field = Number32 ∷ Number8 ∷ Number8 ∷ [] in
    let h = all_within fs bytes fits in
    whole_found fs 8 bytes _ said (exactly (length bytes) 6 count) fits e (tt, h) refl
found_at kind.Take bytes said count fits e =
    let fs : List Field = Number32 ∷ [] in
    let h = all_within fs bytes fits in
    whole_found fs 9 bytes _ said (exactly (length bytes) 4 count) fits e (tt, h) refl
found_at kind.Resend bytes said count fits e =
    let fs : List Field = Number32 ∷ Number16 ∷ [] in
    let h = all_within fs bytes fits in
    whole_found fs 10 bytes _ said (exactly (length bytes) 6 count) fits e (tt, h) refl
found_at kind.Missing bytes said count fits e =
    let fs : List Field = Number32 ∷ [] in
    let h = all_within fs bytes fits in
    whole_found fs 11 bytes _ said (exactly (length bytes) 4 count) fits e (tt, h) refl
found_at kind.KeyWanted bytes said count fits e =
    let fs : List Field = Number32 ∷ [] in
    let h = all_within fs bytes fits in
    whole_found fs 12 bytes _ said (exactly (length bytes) 4 count) fits e (tt, h) refl
found_at kind.Plead bytes said count fits e =
    let fs : List Field = Number32 ∷ [] in
    let h = all_within fs bytes fits in
    whole_found fs 13 bytes _ said (exactly (length bytes) 4 count) fits e (tt, h) refl
found_at kind.Why bytes said count fits e =
    let fs : List Field = Number32 ∷ Number64 ∷ [] in
    let h = all_within fs bytes fits in
    whole_found fs 14 bytes _ said (exactly (length bytes) 12 count) fits e (tt, h) refl

-- a body was read by the kind that its first byte names
behind_found : (code : ℕ) (bytes : List ℕ) (said : Call) (o : Option RecordKind) → kind_named code ≡ o
    → option_map_or (λ k. has_length k (suc (length bytes))) o false ≡ true → AreBytes bytes → (o >>= (λ k. call_at k bytes)) ≡ Some said → IsBody said (code ∷ bytes)
behind_found code bytes said None named count fits e = cc
behind_found code bytes said (Some k) named count fits e =
    subst (λ (c : ℕ). IsBody said (c ∷ bytes)) (sym (kind_is code k named)) (found_at k bytes said count fits e)

pub call_found : (body : List ℕ) (said : Call) → AreBytes body → call_of body ≡ Some said → IsBody said body
call_found [] said fits e = cc
call_found (code ∷ bytes) said fits e =
    let h = chosen (is_in_table (code ∷ bytes)) (call_behind code bytes) said e in
    behind_found code bytes said _ refl h.0 (λ i. fits (suc i)) h.1

-- ---- a call that is in the body is read

packet_fits : (count all : ℕ) → 1 ≤ count → count ≤ 2048 → all ≡ 13 + count → (leb 14 all && leb all 2061) ≡ true
packet_fits count all some few is = grind (arith, nat_tests)

packet_again : (track moment : ℕ) (bytes : List ℕ) → HasLine (call.Packet track moment bytes)
    → call_of (4 ∷ (flat_map place_bytes (places_of (Number32 ∷ Number64 ∷ []) (track ∷ moment ∷ [])) ++ bytes)) ≡ Some (call.Packet track moment bytes)
packet_again track moment bytes h =
    let fs : List Field = Number32 ∷ Number64 ∷ [] in
    let rest : List ℕ = flat_map place_bytes (places_of fs (track ∷ moment ∷ [])) ++ bytes in
    let count : length (4 ∷ rest) ≡ 13 + length bytes = omega arith in
    let test : is_in_table (4 ∷ rest) ≡ true = packet_fits (length bytes) (length (4 ∷ rest)) (h.1.1.1.0).0 (h.1.1.1.0).1 count in
    ap (λ (x : Bool). cond x (call_behind 4 rest) None) test
    ∙ ap (of_two (λ t m. call.Packet t m bytes)) (numbers_back fs (track ∷ moment ∷ []) bytes refl (h.1.0, (h.1.1.0, tt)))

pub again : (said : Call) → HasLine said → call_of (body_of said) ≡ Some said
again (call.Publish track Plain ssrc hold) h = ap (of_three (λ t s o. call.Publish t Plain s o)) (numbers_back (Number32 ∷ Ssrc ∷ Number32 ∷ []) (track ∷ ssrc ∷ hold ∷ []) [] refl (h.1.0, h.1.1.1))
again (call.Publish track (Layered id) ssrc hold) h = ap (of_four (λ t s o i. call.Publish t (Layered i) s o)) (numbers_back (Number32 ∷ Ssrc ∷ Number32 ∷ Number8 ∷ []) (track ∷ ssrc ∷ hold ∷ id ∷ []) [] refl (h.1.0, h.1.1.1))
again (call.Unpublish track) h = ap (of_one (λ t. call.Unpublish t)) (numbers_back (Number32 ∷ []) (track ∷ []) [] refl h.1)
again (call.Packet track moment bytes) h =
    ap call_of (ap (λ (x : List ℕ). 4 ∷ (flat_map place_bytes (places_of (Number32 ∷ Number64 ∷ []) (track ∷ moment ∷ [])) ++ x)) (append-nil bytes)) ∙ packet_again track moment bytes h
again (call.Tick track moment) h = ap (of_two (λ t m. call.Tick t m)) (numbers_back (Number32 ∷ Number64 ∷ []) (track ∷ moment ∷ []) [] refl h.1)
again (call.Join subscriber track ssrc first wish) h = ap (of_six (λ s t x f p q. call.Join s t x f (record { spatial = p; temporal = q }))) (numbers_back (Number32 ∷ Number32 ∷ Ssrc ∷ Number16 ∷ Number8 ∷ Number8 ∷ []) (subscriber ∷ track ∷ ssrc ∷ first ∷ wish.spatial ∷ wish.temporal ∷ []) [] refl h.1)
again (call.Leave subscriber) h = ap (of_one (λ s. call.Leave s)) (numbers_back (Number32 ∷ []) (subscriber ∷ []) [] refl h.1)
again (call.Aim subscriber wish) h = ap (of_three (λ s p q. call.Aim s (record { spatial = p; temporal = q }))) (numbers_back (Number32 ∷ Number8 ∷ Number8 ∷ []) (subscriber ∷ wish.spatial ∷ wish.temporal ∷ []) [] refl h.1)
again (call.Take subscriber) h = ap (of_one (λ s. call.Take s)) (numbers_back (Number32 ∷ []) (subscriber ∷ []) [] refl h.1)
again (call.Resend subscriber seq) h = ap (of_two (λ s q. call.Resend s q)) (numbers_back (Number32 ∷ Number16 ∷ []) (subscriber ∷ seq ∷ []) [] refl h.1)
again (call.Missing track) h = ap (of_one (λ t. call.Missing t)) (numbers_back (Number32 ∷ []) (track ∷ []) [] refl h.1)
again (call.KeyWanted track) h = ap (of_one (λ t. call.KeyWanted t)) (numbers_back (Number32 ∷ []) (track ∷ []) [] refl h.1)
again (call.Plead subscriber) h = ap (of_one (λ s. call.Plead s)) (numbers_back (Number32 ∷ []) (subscriber ∷ []) [] refl h.1)
again (call.Why subscriber number) h = ap (of_two (λ s n. call.Why s n)) (numbers_back (Number32 ∷ Number64 ∷ []) (subscriber ∷ number ∷ []) [] refl h.1)

pub call_again : (said : Call) (body : List ℕ) → IsBody said body → call_of body ≡ Some said
call_again said body h = ap call_of h.is ∙ again said h.within

pub one_call : (one other : Call) (body : List ℕ) → IsBody one body → IsBody other body → one ≡ other
one_call one other body h k = some_same one other (sym (call_again one body h) ∙ call_again other body k)

-- ---- bodies are in the table, and their lengths fit two bytes

pub in_table : (body : List ℕ) (said : Call) → call_of body ≡ Some said → is_in_table body ≡ true
in_table [] said e = cc
in_table (code ∷ bytes) said e = (chosen (is_in_table (code ∷ bytes)) (call_behind code bytes) said e).0

small : (count n : ℕ) → eqb count n ≡ true → n ≤ 2061 → count ≤ 2061
small count n e few = grind (arith, nat_tests)

kind_small : (k : RecordKind) (count : ℕ) → has_length k count ≡ true → count ≤ 2061
kind_small kind.PublishPlain count e = small count 13 e (omega arith)
kind_small kind.PublishLayered count e = small count 14 e (omega arith)
kind_small kind.Unpublish count e = small count 5 e (omega arith)
kind_small kind.Packet count e = grind (arith, nat_tests)
kind_small kind.Tick count e = small count 13 e (omega arith)
kind_small kind.Join count e = small count 17 e (omega arith)
kind_small kind.Leave count e = small count 5 e (omega arith)
kind_small kind.Aim count e = small count 7 e (omega arith)
kind_small kind.Take count e = small count 5 e (omega arith)
kind_small kind.Resend count e = small count 7 e (omega arith)
kind_small kind.Missing count e = small count 5 e (omega arith)
kind_small kind.KeyWanted count e = small count 5 e (omega arith)
kind_small kind.Plead count e = small count 5 e (omega arith)
kind_small kind.Why count e = small count 13 e (omega arith)

code_small : (o : Option RecordKind) (count : ℕ) → option_map_or (λ k. has_length k count) o false ≡ true → count ≤ 2061
code_small None count e = cc
code_small (Some k) count e = kind_small k count e

pub body_small : (body : List ℕ) → is_in_table body ≡ true → length body ≤ 2061
body_small [] e = cc
body_small (code ∷ bytes) e = code_small (kind_named code) (length (code ∷ bytes)) e

pub length_back : (said : Call) → HasLine said → big_number 2 (record_of said) ≡ length (body_of said)
length_back said h =
    let few : length (body_of said) ≤ 2061 = body_small (body_of said) (in_table (body_of said) said (again said h)) in
    big_number-reads_back 2 (length (body_of said)) (body_of said) (omega arith)

-- ---- a line and a record

place_said : (place : Place) (word : List ℕ) → Fills place word → IsWithin place
place_said (Word text) word h = tt
place_said (Number bits n) word h = h.0
place_said (SsrcPlace ssrc) word h = h.0
place_said (Hex bytes) word h = (h.0, h.1, (decode_of-ok word bytes h.2).3)
place_said (Address ip port) word h = (h.0, h.1)

all_said : (all : List Place) (text : List ℕ) → Spells all text → AllWithin all
all_said [] text h = tt
all_said (place ∷ []) text h = (place_said place text h, tt)
all_said (place ∷ next ∷ others) text h = (place_said place h.0 h.2, all_said (next ∷ others) h.1 h.3)

pub converted : (said : Call) (line : List ℕ) → IsLine said line → IsBody said (body_of said) × (call_of (body_of said) ≡ Some said)
converted said line h =
    let within = all_said (places said) line h in
    (record { within = within; is = refl }, again said within)
