-- A reply's text is that of one answer: its words can be read back.
use Rattle.std.proofs.Common.{◌≡◌, ◌≤◌, ◌<◌, ℕ, ◌^◌, Bool, true, false, not, cond, eqb, leb, ◌&&◌, List, [], ◌∷◌, ◌++◌, map, refl, sym, ap, ◌∙◌, Option, Some, None, arith}
use Rattle.std.specs.Prelude.{codes, decimal, if◌then◌else◌}
use Rattle.std.specs.Int.{to_be_bytes, w32}
use Rattle.std.specs.List.{flat_map}
use Rattle.std.specs.Option.{option_map}
use Rattle.std.specs.Result.{result_ok}
use Rattle.std.specs.Str.{bytes_eq}
use Rattle.std.proofs.lemmas.Bool.{and_parts}
use Rattle.std.proofs.lemmas.List.{append-nil}
use Rattle.hex.specs.Hex.{decode_of, encode_lower, IsBytes}
use Rattle.hex.proofs.HexLemmas.{decode_of-encode_lower}
use Rattle.sfu_base.specs.Answer.{Answer, Done, Sent, Named, KeyIs, CauseIs, Refused}
use Rattle.sfu_base.specs.declared.call.Refusal.{Refusal}
use Rattle.sfu_base.specs.declared.call.Refusal.TheVariants as refusal
use Rattle.sfu_base.specs.declared.call.RtpFault.TheVariants.{Short, Version, Csrc, Extension, Padding}
use Rattle.sfu_base.specs.declared.frame.Verdict.{Verdict}
use Rattle.sfu_base.specs.declared.frame.Verdict.TheVariants.{Passed, NotOfTarget, Behind, Reference, Full, Link, Unopened, Hole}
use Rattle.script_texts.specs.Grammar.{Place, Word, Number, Ssrc, Hex, Address, AllWithin, word_of, text_of}
use Rattle.sfu_script.specs.Reading.{◌>>=◌, number_of, ssrc_of}
use Rattle.script_texts.specs.Replies.{verdict_places, refusal_places, answer_places, answer_text, HasText}
use Rattle.sfu_script.proofs.Options.{some_same}
use Rattle.sfu_script.proofs.Filled.{number_again, ssrc_again, hex_no_space, le_of}
use Rattle.sfu_script.proofs.Spaces.{no_space}
use Rattle.script_texts.proofs.Written.{word_fills}

-- ---- words

abbrev onto_word : ℕ → List (List ℕ) → List (List ℕ)
onto_word b [] = []
onto_word b (word ∷ words) = (b ∷ word) ∷ words

-- the words of a text, with one space between them
abbrev words_of : List ℕ → List (List ℕ)
words_of [] = [] ∷ []
words_of (b ∷ bs) = if eqb b 32 then [] ∷ words_of bs else onto_word b (words_of bs)

is_false : (b : Bool) → not b ≡ true → b ≡ false
is_false true h = cc
is_false false h = refl

one_word : (word : List ℕ) → no_space word ≡ true → words_of word ≡ word ∷ []
one_word [] h = refl
one_word (b ∷ bs) h =
    let parts = and_parts (not (eqb b 32)) (no_space bs) h in
    ap (λ (t : Bool). cond t ([] ∷ words_of bs) (onto_word b (words_of bs))) (is_false (eqb b 32) parts.0) ∙ ap (onto_word b) (one_word bs parts.1)

word_more : (word rest : List ℕ) → no_space word ≡ true → words_of (word ++ 32 ∷ rest) ≡ word ∷ words_of rest
word_more [] rest h = refl
word_more (b ∷ bs) rest h =
    let parts = and_parts (not (eqb b 32)) (no_space bs) h in
    ap (λ (t : Bool). cond t ([] ∷ words_of (bs ++ 32 ∷ rest)) (onto_word b (words_of (bs ++ 32 ∷ rest)))) (is_false (eqb b 32) parts.0)
    ∙ ap (onto_word b) (word_more bs rest parts.1)

-- each word of the places contains no space
abbrev AreWords : List Place → Type 0
AreWords [] = Unit {0}
AreWords (place ∷ others) = (no_space (word_of place) ≡ true) × AreWords others

words_after : (word : List ℕ) (others : List Place) → no_space word ≡ true → AreWords others
    → words_of (word ++ flat_map (λ next. 32 ∷ word_of next) others) ≡ word ∷ map word_of others
words_after word [] free h = rw append-nil (one_word word free)
words_after word (place ∷ others) free h =
    word_more word (word_of place ++ flat_map (λ next. 32 ∷ word_of next) others) free
    ∙ ap (λ (ws : List (List ℕ)). word ∷ ws) (words_after (word_of place) others h.0 h.1)

pub text_words : (place : Place) (others : List Place) → AreWords (place ∷ others) → words_of (text_of (place ∷ others)) ≡ map word_of (place ∷ others)
text_words place others h = words_after (word_of place) others h.0 h.1

-- ---- no word of a reply has a space

-- the fixed words have none, and numbers have at most 64 bits
abbrev are_plain : List Place → Bool
are_plain [] = true
are_plain (Word text ∷ others) = no_space text && are_plain others
are_plain (Number bits n ∷ others) = leb (2 ^ bits) (2 ^ 64) && are_plain others
are_plain (Address ip port ∷ others) = false
are_plain (place ∷ others) = are_plain others

are_words : (all : List Place) → are_plain all ≡ true → AllWithin all → AreWords all
are_words [] p h = tt
are_words (Word text ∷ others) p h =
    let parts = and_parts (no_space text) (are_plain others) p in (parts.0, are_words others parts.1 h.1)
are_words (Number bits n ∷ others) p h =
    let parts = and_parts (leb (2 ^ bits) (2 ^ 64)) (are_plain others) p in
    ((number_again bits n (decimal n) (le_of (2 ^ bits) (2 ^ 64) parts.0) (h.0, refl)).0, are_words others parts.1 h.1)
are_words (Ssrc ssrc ∷ others) p h = ((ssrc_again (word_of (Ssrc ssrc)) ssrc (word_fills (Ssrc ssrc) h.0)).0, are_words others p h.1)
are_words (Hex bytes ∷ others) p h = (hex_no_space (encode_lower bytes) bytes (decode_of-encode_lower bytes h.0.2), are_words others p h.1)
are_words (Address ip port ∷ others) p h = cc

-- ---- the meaning of words

abbrev one_in : {X : Type 0} → ℕ → (ℕ → X) → List (List ℕ) → Option X
one_in bits f (word ∷ []) = option_map f (number_of bits word)
one_in bits f words = None

abbrev two_in : {X : Type 0} → ℕ → ℕ → (ℕ → ℕ → X) → List (List ℕ) → Option X
two_in bits more f (word ∷ next ∷ []) = number_of bits word >>= (λ a. number_of more next >>= (λ b. Some (f a b)))
two_in bits more f words = None

abbrev or_none_in : {X : Type 0} → ℕ → (Option ℕ → X) → List (List ℕ) → Option X
or_none_in bits f (word ∷ []) = Some (f (number_of bits word))
or_none_in bits f words = None

abbrev ssrcs_in : List (List ℕ) → Option Refusal
ssrcs_in (word ∷ next ∷ []) = ssrc_of word >>= (λ a. ssrc_of next >>= (λ b. Some (refusal.WrongSsrc a b)))
ssrcs_in words = None

abbrev fault_in : List (List ℕ) → Option Refusal
fault_in (word ∷ []) =
    if bytes_eq word (codes "short") then Some (refusal.Unreadable Short)
    else if bytes_eq word (codes "version") then Some (refusal.Unreadable Version)
    else if bytes_eq word (codes "csrc") then Some (refusal.Unreadable Csrc)
    else if bytes_eq word (codes "extension") then Some (refusal.Unreadable Extension)
    else Some (refusal.Unreadable Padding)
fault_in words = None

-- after the word `refused`
abbrev refused_in : List (List ℕ) → Option Refusal
refused_in [] = None
refused_in (name ∷ others) =
    if bytes_eq name (codes "notrack") then Some refusal.NoTrack
    else if bytes_eq name (codes "nosubscriber") then Some refusal.NoSubscriber
    else if bytes_eq name (codes "numberused") then one_in 32 (λ n. refusal.NumberUsed n) others
    else if bytes_eq name (codes "toomany") then one_in 32 (λ n. refusal.TooMany n) others
    else if bytes_eq name (codes "badextensionid") then Some refusal.BadExtensionId
    else if bytes_eq name (codes "toobig") then one_in 32 (λ n. refusal.TooBig n) others
    else if bytes_eq name (codes "unreadable") then fault_in others
    else if bytes_eq name (codes "wrongssrc") then ssrcs_in others
    else if bytes_eq name (codes "spent") then Some refusal.Spent
    else if bytes_eq name (codes "late") then one_in 64 (λ n. refusal.Late n) others
    else if bytes_eq name (codes "repeat") then Some refusal.Repeat
    else if bytes_eq name (codes "ahead") then or_none_in 64 (λ n. refusal.Ahead n) others
    else if bytes_eq name (codes "tooold") then one_in 64 (λ n. refusal.TooOld n) others
    else if bytes_eq name (codes "plain") then Some refusal.Plain
    else if bytes_eq name (codes "nomemory") then Some refusal.NoMemory
    else None

abbrev hole_in : List (List ℕ) → Option Verdict
hole_in (word ∷ next ∷ []) = option_map (λ above. Hole (number_of 64 word) above) (number_of 64 next)
hole_in words = None

abbrev verdict_in : List ℕ → List (List ℕ) → Option Verdict
verdict_in name others =
    if bytes_eq name (codes "passed") then Some Passed
    else if bytes_eq name (codes "notoftarget") then or_none_in 8 (λ target. NotOfTarget target) others
    else if bytes_eq name (codes "behind") then two_in 16 64 (λ fdiff start. Behind fdiff start) others
    else if bytes_eq name (codes "reference") then one_in 64 (λ number. Reference number) others
    else if bytes_eq name (codes "full") then two_in 16 16 (λ queued needed. Full queued needed) others
    else if bytes_eq name (codes "link") then two_in 64 64 (λ at number. Link at number) others
    else if bytes_eq name (codes "unopened") then one_in 64 (λ since. Unopened since) others
    else hole_in others

abbrev numbers_in : List (List ℕ) → Option (List ℕ)
numbers_in [] = Some []
numbers_in (word ∷ words) = number_of 16 word >>= (λ n. numbers_in words >>= (λ ns. Some (n ∷ ns)))

abbrev bytes_in : List (List ℕ) → Option Answer
bytes_in (word ∷ []) = option_map (λ bytes. Sent bytes) (result_ok (decode_of word))
bytes_in words = None

abbrev key_in : List (List ℕ) → Option Answer
key_in (word ∷ []) = Some (KeyIs (bytes_eq word (codes "yes")))
key_in words = None

abbrev pub answer_in : List (List ℕ) → Option Answer
answer_in [] = None
answer_in (name ∷ others) =
    if bytes_eq name (codes "ok") then Some Done
    else if bytes_eq name (codes "packet") then bytes_in others
    else if bytes_eq name (codes "missing") then option_map (λ ns. Named ns) (numbers_in others)
    else if bytes_eq name (codes "key") then key_in others
    else if bytes_eq name (codes "empty") then Some (Refused refusal.Empty)
    else if bytes_eq name (codes "notkept") then two_in 16 16 (λ oldest next. Refused (refusal.NotKept oldest next)) others
    else if bytes_eq name (codes "refused") then option_map (λ why. Refused why) (refused_in others)
    else option_map (λ verdict. CauseIs verdict) (verdict_in name others)

-- ---- the words of each answer mean this answer

number_in : (bits n : ℕ) → 2 ^ bits ≤ 2 ^ 64 → n < 2 ^ bits → number_of bits (decimal n) ≡ Some n
number_in bits n small h = (number_again bits n (decimal n) small (h, refl)).1

ssrc_in : (n : ℕ) → n < 2 ^ 32 → ssrc_of (encode_lower (to_be_bytes w32 n)) ≡ Some n
ssrc_in n h = (ssrc_again (encode_lower (to_be_bytes w32 n)) n (word_fills (Ssrc n) h)).1

verdict_said : (verdict : Verdict) → AllWithin (verdict_places verdict) → answer_in (map word_of (verdict_places verdict)) ≡ Some (CauseIs verdict)
verdict_said Passed h = refl
verdict_said (NotOfTarget None) h = refl
verdict_said (NotOfTarget (Some n)) h = let a = number_in 8 n (omega arith) h.1.0 in rw a refl
verdict_said (Behind fdiff start) h =
    let a = number_in 16 fdiff (omega arith) h.1.0 in
    let b = number_in 64 start (omega arith) h.1.1.0 in
    rw (a, b) refl
verdict_said (Reference number) h = let a = number_in 64 number (omega arith) h.1.0 in rw a refl
verdict_said (Full queued needed) h =
    let a = number_in 16 queued (omega arith) h.1.0 in
    let b = number_in 16 needed (omega arith) h.1.1.0 in
    rw (a, b) refl
verdict_said (Link at number) h =
    let a = number_in 64 at (omega arith) h.1.0 in
    let b = number_in 64 number (omega arith) h.1.1.0 in
    rw (a, b) refl
verdict_said (Unopened since) h = let a = number_in 64 since (omega arith) h.1.0 in rw a refl
verdict_said (Hole None above) h = let a = number_in 64 above (omega arith) h.1.1.0 in rw a refl
verdict_said (Hole (Some below) above) h =
    let a = number_in 64 below (omega arith) h.1.0 in
    let b = number_in 64 above (omega arith) h.1.1.0 in
    rw (a, b) refl

refusal_said : (why : Refusal) → AllWithin (refusal_places why) → answer_in (map word_of (refusal_places why)) ≡ Some (Refused why)
refusal_said refusal.NoTrack h = refl
refusal_said refusal.NoSubscriber h = refl
refusal_said (refusal.NumberUsed n) h = let a = number_in 32 n (omega arith) h.1.1.0 in rw a refl
refusal_said (refusal.TooMany n) h = let a = number_in 32 n (omega arith) h.1.1.0 in rw a refl
refusal_said refusal.BadExtensionId h = refl
refusal_said (refusal.TooBig n) h = let a = number_in 32 n (omega arith) h.1.1.0 in rw a refl
refusal_said (refusal.Unreadable Short) h = refl
refusal_said (refusal.Unreadable Version) h = refl
refusal_said (refusal.Unreadable Csrc) h = refl
refusal_said (refusal.Unreadable Extension) h = refl
refusal_said (refusal.Unreadable Padding) h = refl
refusal_said (refusal.WrongSsrc got wanted) h =
    let a = ssrc_in got h.1.1.0 in
    let b = ssrc_in wanted h.1.1.1.0 in
    rw (a, b) refl
refusal_said refusal.Spent h = refl
refusal_said (refusal.Late n) h = let a = number_in 64 n (omega arith) h.1.1.0 in rw a refl
refusal_said refusal.Repeat h = refl
refusal_said (refusal.Ahead None) h = refl
refusal_said (refusal.Ahead (Some n)) h = let a = number_in 64 n (omega arith) h.1.1.0 in rw a refl
refusal_said (refusal.TooOld n) h = let a = number_in 64 n (omega arith) h.1.1.0 in rw a refl
refusal_said refusal.Plain h = refl
refusal_said refusal.NoMemory h = refl
refusal_said refusal.Empty h = refl
refusal_said (refusal.NotKept oldest next) h =
    let a = number_in 16 oldest (omega arith) h.1.0 in
    let b = number_in 16 next (omega arith) h.1.1.0 in
    rw (a, b) refl

numbers_said : (ns : List ℕ) → AllWithin (map (λ n. Number 16 n) ns) → numbers_in (map word_of (map (λ n. Number 16 n) ns)) ≡ Some ns
numbers_said [] h = refl
numbers_said (n ∷ ns) h =
    let a = number_in 16 n (omega arith) h.0 in
    let b = numbers_said ns h.1 in
    rw (a, b) refl

bytes_said : (bytes : List ℕ) → IsBytes bytes → answer_in (map word_of (answer_places (Sent bytes))) ≡ Some (Sent bytes)
bytes_said bytes h = let a = decode_of-encode_lower bytes h in rw a refl

named_said : (ns : List ℕ) → AllWithin (map (λ n. Number 16 n) ns) → answer_in (map word_of (answer_places (Named ns))) ≡ Some (Named ns)
named_said ns h = ap (λ (o : Option (List ℕ)). option_map (λ x. Named x) o) (numbers_said ns h)

-- ---- the words of each answer contain no space

plain_verdict : (verdict : Verdict) → are_plain (verdict_places verdict) ≡ true
plain_verdict (NotOfTarget None) = refl
plain_verdict (NotOfTarget (Some n)) = refl
plain_verdict (Hole None above) = refl
plain_verdict (Hole (Some below) above) = refl
plain_verdict verdict = refl

plain_refusal : (why : Refusal) → are_plain (refusal_places why) ≡ true
plain_refusal (refusal.Unreadable Short) = refl
plain_refusal (refusal.Unreadable Version) = refl
plain_refusal (refusal.Unreadable Csrc) = refl
plain_refusal (refusal.Unreadable Extension) = refl
plain_refusal (refusal.Unreadable Padding) = refl
plain_refusal (refusal.Ahead None) = refl
plain_refusal (refusal.Ahead (Some n)) = refl
plain_refusal why = refl

plain_names : (ns : List ℕ) → are_plain (map (λ n. Number 16 n) ns) ≡ true
plain_names [] = refl
plain_names (n ∷ ns) = plain_names ns

-- a text of places, read back
read_text : (place : Place) (others : List Place) (answer : Answer) → AreWords (place ∷ others) → answer_in (map word_of (place ∷ others)) ≡ Some answer
    → answer_in (words_of (text_of (place ∷ others))) ≡ Some answer
read_text place others answer h said = ap answer_in (text_words place others h) ∙ said

nonempty_text : (all : List Place) (answer : Answer) → AreWords all → answer_in (map word_of all) ≡ Some answer → answer_in (words_of (text_of all)) ≡ Some answer
nonempty_text [] answer h said = cc
nonempty_text (place ∷ others) answer h said = read_text place others answer h said

pub text_said : (answer : Answer) → HasText answer → answer_in (words_of (answer_text answer)) ≡ Some answer
text_said Done h = refl
text_said (Sent bytes) h =
    nonempty_text (answer_places (Sent bytes)) (Sent bytes) (refl, (hex_no_space (encode_lower bytes) bytes (decode_of-encode_lower bytes h), tt)) (bytes_said bytes h)
text_said (Named ns) h = nonempty_text (answer_places (Named ns)) (Named ns) (are_words (answer_places (Named ns)) (plain_names ns) h) (named_said ns h.1)
text_said (KeyIs true) h = refl
text_said (KeyIs false) h = refl
text_said (CauseIs verdict) h =
    nonempty_text (verdict_places verdict) (CauseIs verdict) (are_words (verdict_places verdict) (plain_verdict verdict) h) (verdict_said verdict h)
text_said (Refused why) h = nonempty_text (refusal_places why) (Refused why) (are_words (refusal_places why) (plain_refusal why) h) (refusal_said why h)

pub one_answer : (one other : Answer) → HasText one → HasText other → answer_text one ≡ answer_text other → one ≡ other
one_answer one other h k e =
    some_same one other (sym (text_said one h) ∙ ap (λ (text : List ℕ). answer_in (words_of text)) e ∙ text_said other k)
