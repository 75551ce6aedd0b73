-- A packet with another frame number is the same packet, and its descriptor is the same, except for the number.
use Rattle.std.proofs.Common.{◌≡◌, ◌<◌, ◌≤◌, ◌+◌, ◌*◌, ◌/◌, ◌%◌, ◌==◌, ℕ, zero, suc, Bool, true, false, List, [], ◌∷◌, ◌++◌, length, take, drop, slice_index, refl, sym, ap, subst, ◌∙◌, arith}
use Rattle.std.proofs.lemmas.Bool.{le-ltb, ltb-false}
use Rattle.std.proofs.lemmas.List.{drop-drop, drop_at, length-take-le, take-append-drop, take_at}
use Rattle.std.specs.declared.option.Option.{Option}
use Rattle.std.specs.declared.option.Option.TheVariants.{None, Some}
use Rattle.byteorder.specs.Endian.{big_bytes}
use Rattle.rtp_packet.specs.Faults.{first_fault, has_bad_padding, lacks_extension}
use Rattle.rtp_packet.specs.Fields.{behind_csrcs, behind_extension, behind_header, block_in, block_of, block_words, csrc_count, is_extended, is_padded, payload_in, payload_of, profile_in, profile_of}
use Rattle.rtp_packet.proofs.Faultless.{has_none, none_found}
use Rattle.rtp_extension.specs.declared.form.Form.{Form}
use Rattle.rtp_extension.specs.Forms.{form_of}
use Rattle.rtp_extension.specs.Reading.{elements_if, value_of}
use Rattle.packet_format.specs.Formats.{element_in, element_of}
use Rattle.leg_switch.specs.FrameNumbers.{after, number_place, place_by, place_if, place_in, with_number}
use Rattle.leg_switch.proofs.Places.{drop_push, length-with_number, long_at, placed, unplaced, value_in, with_front, with_push}

-- ---- the bytes from a place on

module _ (n q : ℕ) (xs : List ℕ) (m : ℕ) (within : q + 2 ≤ m) (long : m ≤ length xs) where
  taken_long : length (take m xs) ≡ m
  taken_long = length-take-le m xs long

  split : with_number q n xs ≡ with_number q n (take m xs) ++ drop m xs
  split =
      ap (with_number q n) (sym (take-append-drop m xs))
      ∙ with_front n q (take m xs) (drop m xs) (omega (arith, taken_long, within))

  front_long : length (with_number q n (take m xs)) ≡ m
  front_long = length-with_number n q (take m xs) (omega (arith, taken_long, within)) ∙ taken_long

  take_with : take m (with_number q n xs) ≡ with_number q n (take m xs)
  take_with = ap (take m) split ∙ take_at (with_number q n (take m xs)) (drop m xs) m front_long

  drop_with : drop m (with_number q n xs) ≡ drop m xs
  drop_with = ap (drop m) split ∙ drop_at (with_number q n (take m xs)) (drop m xs) m front_long

-- ---- the header extension

-- the bytes that follow the CSRC list, with another number in the block
record SameExtension (n q : ℕ) (old new : List ℕ) : Type 0 where
  profile : profile_in true new ≡ profile_in true old
  block : block_in true new ≡ with_number q n (block_in true old)
  behind : behind_extension true new ≡ behind_extension true old
  there : lacks_extension true new ≡ false
  at : drop (4 + q) old ≡ drop q (drop 4 old)

same_extension : (n q : ℕ) (old : List ℕ) → lacks_extension true old ≡ false → q + 2 ≤ length (block_in true old) → SameExtension n q old (with_number (4 + q) n old)
same_extension n q (a ∷ b ∷ c ∷ d ∷ rest) there within =
    let all : List ℕ = a ∷ b ∷ c ∷ d ∷ rest in
    let front : List ℕ = a ∷ b ∷ c ∷ d ∷ [] in
    let words = 4 * block_words all in
    let long = ltb-false (length all) (4 + words) there in
    let enough : words ≤ length rest = omega (arith, long) in
    let inside : q + 2 ≤ words = omega (arith, within, length-take-le words rest enough) in
    let whole : with_number (4 + q) n all ≡ front ++ with_number q n rest = with_push n front q rest in
    let len : length (with_number q n rest) ≡ length rest = length-with_number n q rest (omega (arith, inside, enough)) in
    record {
      profile = ap (profile_in true) whole;
      block = ap (block_in true) whole ∙ take_with n q rest words inside enough;
      behind = ap (behind_extension true) whole
          ∙ sym (drop-drop words 4 (front ++ with_number q n rest)) ∙ drop_with n q rest words inside enough ∙ drop-drop words 4 all;
      there = ap (lacks_extension true) whole ∙ le-ltb (length (front ++ with_number q n rest)) (4 + 4 * block_words (front ++ with_number q n rest)) (omega (arith, len, enough));
      at = drop_push front q rest;
    }
same_extension n q [] there within = absurd (omega (arith, ltb-false 0 (4 + 4 * block_words []) there))
same_extension n q (a ∷ []) there within = absurd (omega (arith, ltb-false 1 (4 + 4 * block_words (a ∷ [])) there))
same_extension n q (a ∷ b ∷ []) there within = absurd (omega (arith, ltb-false 2 (4 + 4 * block_words (a ∷ b ∷ [])) there))
same_extension n q (a ∷ b ∷ c ∷ []) there within = absurd (omega (arith, ltb-false 3 (4 + 4 * block_words (a ∷ b ∷ c ∷ [])) there))

-- ---- the fixed header and the CSRC list

-- the same first byte, and after the CSRC list the number at its place
record SameHeader (n q : ℕ) (old new : List ℕ) : Type 0 where
  first : slice_index new 0 ≡ slice_index old 0
  behind : behind_csrcs new ≡ with_number (4 + q) n (behind_csrcs old)
  at : drop (16 + 4 * csrc_count old + q) old ≡ drop (4 + q) (behind_csrcs old)

same_header : (n q : ℕ) (old : List ℕ) → 12 + 4 * csrc_count old ≤ length old → SameHeader n q old (with_number (16 + 4 * csrc_count old + q) n old)
same_header n q (a ∷ b ∷ c ∷ d ∷ e ∷ f ∷ g ∷ h ∷ i ∷ j ∷ k ∷ l ∷ rest) long =
    let old : List ℕ = a ∷ b ∷ c ∷ d ∷ e ∷ f ∷ g ∷ h ∷ i ∷ j ∷ k ∷ l ∷ rest in
    let front : List ℕ = a ∷ b ∷ c ∷ d ∷ e ∷ f ∷ g ∷ h ∷ i ∷ j ∷ k ∷ l ∷ [] in
    let words = 4 * (a % 16) in
    let csrcs = take words rest in
    let behind = drop words rest in
    let count : length csrcs ≡ words = length-take-le words rest (omega (arith, long)) in
    let apart : rest ≡ csrcs ++ behind = sym (take-append-drop words rest) in
    let place : 16 + words + q ≡ 12 + (length csrcs + (4 + q)) = omega (arith, count) in
    let whole : with_number (16 + words + q) n old ≡ front ++ (csrcs ++ with_number (4 + q) n behind) =
    ap (λ (p : ℕ). with_number p n old) place
    ∙ with_push n front (length csrcs + (4 + q)) rest
    ∙ ap (λ (x : List ℕ). front ++ with_number (length csrcs + (4 + q)) n x) apart
    ∙ ap (λ (x : List ℕ). front ++ x) (with_push n csrcs (4 + q) behind) in
    let is : behind_csrcs old ≡ behind = sym (drop-drop words 12 old) in
    record {
      first = ap (λ (x : List ℕ). slice_index x 0) whole;
      behind = ap behind_csrcs whole
          ∙ sym (drop-drop words 12 (front ++ (csrcs ++ with_number (4 + q) n behind)))
          ∙ drop_at csrcs (with_number (4 + q) n behind) words count
          ∙ ap (with_number (4 + q) n) (sym is);
      at = ap (λ (p : ℕ). drop p old) place
          ∙ drop_push front (length csrcs + (4 + q)) rest
          ∙ ap (drop (length csrcs + (4 + q))) apart
          ∙ drop_push csrcs (4 + q) behind
          ∙ ap (drop (4 + q)) (sym is);
    }
same_header n q old long = absurd (omega (arith, long))

-- ---- the place of a packet's frame number

record IsFound (id p : ℕ) (bytes : List ℕ) : Type 0 where
  profile : ℕ
  profile_is : profile_of bytes ≡ Some profile
  form : Form
  form_is : form_of profile ≡ Some form
  q : ℕ
  in_block : place_in form id (block_of bytes) ≡ Some q
  is : p ≡ 16 + 4 * csrc_count bytes + q

found : (id p : ℕ) (bytes : List ℕ) → number_place id bytes ≡ Some p → IsFound id p bytes
unfolding number_place
found id p bytes e = by_profile (profile_of bytes) refl e
  where
    by_place : (profile : ℕ) → profile_of bytes ≡ Some profile → (form : Form) → form_of profile ≡ Some form → (o : Option ℕ) → place_in form id (block_of bytes) ≡ o
        → after (16 + 4 * csrc_count bytes) o ≡ Some p → IsFound id p bytes
    by_place profile is_profile form is_form None is e = absurd cc
    by_place profile is_profile form is_form (Some q) is e =
        record { profile = profile; profile_is = is_profile; form = form; form_is = is_form; q = q; in_block = is; is = (let same : 16 + 4 * csrc_count bytes + q ≡ p = cc in sym same) }

    by_form : (profile : ℕ) → profile_of bytes ≡ Some profile → (f : Option Form) → form_of profile ≡ f → after (16 + 4 * csrc_count bytes) (place_if f id (block_of bytes)) ≡ Some p → IsFound id p bytes
    by_form profile is_profile None is e = absurd cc
    by_form profile is_profile (Some form) is e = by_place profile is_profile form is (place_in form id (block_of bytes)) refl e

    by_profile : (o : Option ℕ) → profile_of bytes ≡ o → after (16 + 4 * csrc_count bytes) (place_by id o (block_of bytes)) ≡ Some p → IsFound id p bytes
    by_profile None is e = absurd cc
    by_profile (Some profile) is e = by_form profile is (form_of profile) refl e

-- it is in the block of this form
placed_there : (id : ℕ) (bytes : List ℕ) (profile : ℕ) (form : Form) → profile_of bytes ≡ Some profile → form_of profile ≡ Some form
    → number_place id bytes ≡ after (16 + 4 * csrc_count bytes) (place_in form id (block_of bytes))
unfolding number_place
placed_there id bytes profile form is_profile is_form =
    ap (λ (o : Option ℕ). after (16 + 4 * csrc_count bytes) (place_by id o (block_of bytes))) is_profile
    ∙ ap (λ (o : Option Form). after (16 + 4 * csrc_count bytes) (place_if o id (block_of bytes))) is_form

element_there : (id : ℕ) (bytes : List ℕ) (profile : ℕ) (form : Form) → profile_of bytes ≡ Some profile → form_of profile ≡ Some form → element_of id bytes ≡ value_in id form (block_of bytes)
element_there id bytes profile form is_profile is_form =
    ap (λ (o : Option ℕ). element_in id o (block_of bytes)) is_profile
    ∙ ap (λ (o : Option Form). value_of id (elements_if o (block_of bytes))) is_form

-- an element without a number has fewer than three bytes
pub no_place : (id : ℕ) (bytes v : List ℕ) → number_place id bytes ≡ None → element_of id bytes ≡ Some v → length v < 3
unfolding number_place
no_place id bytes v e f = by_profile (profile_of bytes) refl e f
  where
    none_there : (m : ℕ) (o : Option ℕ) → after m o ≡ None → o ≡ None
    none_there m None e = refl
    none_there m (Some p) e = absurd cc

    by_form : (f : Option Form) → after (16 + 4 * csrc_count bytes) (place_if f id (block_of bytes)) ≡ None → value_of id (elements_if f (block_of bytes)) ≡ Some v → length v < 3
    by_form None e f = absurd cc
    by_form (Some form) e f = unplaced id form (block_of bytes) v (none_there (16 + 4 * csrc_count bytes) (place_in form id (block_of bytes)) e) f

    by_profile : (o : Option ℕ) → profile_of bytes ≡ o → after (16 + 4 * csrc_count bytes) (place_by id o (block_of bytes)) ≡ None → element_in id o (block_of bytes) ≡ Some v → length v < 3
    by_profile None is e f = absurd cc
    by_profile (Some profile) is e f = by_form (form_of profile) e f

-- ---- the packet

at_both : {X : Type 0} (f : Bool → List ℕ → X) (a b : Bool) (xs ys : List ℕ) → a ≡ b → xs ≡ ys → f a xs ≡ f b ys
at_both f a b xs ys e h = ap (λ (x : Bool). f x xs) e ∙ ap (f b) h

extended_of : (x : Bool) (rest : List ℕ) (p : ℕ) → profile_in x rest ≡ Some p → x ≡ true
extended_of true rest p e = refl
extended_of false rest p e = absurd cc

-- The packet with the number n at its frame number's place: it reads, its descriptor has this number, and nothing else that is read differs.
pub record IsRenumbered (id n p : ℕ) (bytes : List ℕ) : Type 0 where
  pub first : ℕ
  pub high : ℕ
  pub low : ℕ
  pub rest : List ℕ
  pub more : List ℕ
  pub element : element_of id bytes ≡ Some (first ∷ high ∷ low ∷ rest)
  pub at : drop p bytes ≡ high ∷ low ∷ more
  pub far : 16 ≤ p
  pub new_element : element_of id (with_number p n bytes) ≡ Some (first ∷ (big_bytes 2 n ++ rest))
  pub new_place : number_place id (with_number p n bytes) ≡ Some p
  pub reads : first_fault (with_number p n bytes) ≡ None
  pub payload : payload_of (with_number p n bytes) ≡ payload_of bytes

with_found : (id n p : ℕ) (bytes : List ℕ) → first_fault bytes ≡ None → (f : IsFound id p bytes) → p ≡ 16 + 4 * csrc_count bytes + f.q → IsRenumbered id n p bytes
with_found id n p bytes none f is =
    let q = f.q in
    let form = f.form in
    let new = with_number p n bytes in
    let clean = has_none bytes none in
    let x : is_extended bytes ≡ true = extended_of (is_extended bytes) (behind_csrcs bytes) f.profile f.profile_is in
    let block_is : block_of bytes ≡ block_in true (behind_csrcs bytes) = ap (λ (b : Bool). block_in b (behind_csrcs bytes)) x in
    let there : lacks_extension true (behind_csrcs bytes) ≡ false = ap (λ (b : Bool). lacks_extension b (behind_csrcs bytes)) (sym x) ∙ clean.extension in
    let at = placed id n form (block_of bytes) q f.in_block in
    let inside : q + 2 ≤ length (block_of bytes) = long_at q at.high at.low (block_of bytes) at.more at.at in
    let header0 = same_header n q bytes clean.csrcs in
    let header : SameHeader n q bytes new = subst (λ (k : ℕ). SameHeader n q bytes (with_number k n bytes)) (sym is) header0 in
    let extension = same_extension n q (behind_csrcs bytes) there (subst (λ (b : List ℕ). q + 2 ≤ length b) block_is inside) in
    let x_new : is_extended new ≡ true = ap (λ (b : ℕ). b / 16 % 2 == 1) header.first ∙ x in
    let p_new : is_padded new ≡ is_padded bytes = ap (λ (b : ℕ). b / 32 % 2 == 1) header.first in
    let count : csrc_count new ≡ csrc_count bytes = ap (λ (b : ℕ). b % 16) header.first in
    let profile_new : profile_of new ≡ Some f.profile =
    at_both profile_in (is_extended new) true (behind_csrcs new) (with_number (4 + q) n (behind_csrcs bytes)) x_new header.behind
    ∙ extension.profile ∙ ap (λ (b : Bool). profile_in b (behind_csrcs bytes)) (sym x) ∙ f.profile_is in
    let block_new : block_of new ≡ with_number q n (block_of bytes) =
    at_both block_in (is_extended new) true (behind_csrcs new) (with_number (4 + q) n (behind_csrcs bytes)) x_new header.behind
    ∙ extension.block ∙ ap (with_number q n) (sym block_is) in
    let behind_new : behind_header new ≡ behind_header bytes =
    at_both behind_extension (is_extended new) true (behind_csrcs new) (with_number (4 + q) n (behind_csrcs bytes)) x_new header.behind
    ∙ extension.behind ∙ ap (λ (b : Bool). behind_extension b (behind_csrcs bytes)) (sym x) in
    let found_at : drop p bytes ≡ drop (4 + q) (behind_csrcs bytes) = ap (λ (k : ℕ). drop k bytes) is ∙ header0.at in
    let words = 4 * block_words (behind_csrcs bytes) in
    let in_rest : drop q (drop 4 (behind_csrcs bytes)) ≡ at.high ∷ at.low ∷ (at.more ++ drop words (drop 4 (behind_csrcs bytes))) =
    ap (drop q) (sym (take-append-drop words (drop 4 (behind_csrcs bytes))))
    ∙ drop_front q (take words (drop 4 (behind_csrcs bytes))) (drop words (drop 4 (behind_csrcs bytes))) at.high at.low at.more (ap (drop q) (sym block_is) ∙ at.at) in
    let here : drop p bytes ≡ at.high ∷ at.low ∷ (at.more ++ drop words (drop 4 (behind_csrcs bytes))) = found_at ∙ extension.at ∙ in_rest in
    let len : length new ≡ length bytes = length-with_number n p bytes (long_at p at.high at.low bytes (at.more ++ drop words (drop 4 (behind_csrcs bytes))) here) in
    record {
      first = at.first;
      high = at.high;
      low = at.low;
      rest = at.rest;
      more = at.more ++ drop words (drop 4 (behind_csrcs bytes));
      element = element_there id bytes f.profile form f.profile_is f.form_is ∙ at.value_is;
      at = here;
      far = omega (arith, is);
      new_element = element_there id new f.profile form profile_new f.form_is ∙ ap (value_in id form) block_new ∙ at.new_value;
      new_place = placed_there id new f.profile form profile_new f.form_is
          ∙ ap (λ (b : List ℕ). after (16 + 4 * csrc_count new) (place_in form id b)) block_new
          ∙ ap (after (16 + 4 * csrc_count new)) at.new_place
          ∙ ap (λ (k : ℕ). Some (16 + 4 * k + q)) count ∙ ap Some (sym is);
      reads = none_found new (record {
        header = omega (arith, len, clean.header);
        version = ap (λ (b : ℕ). b / 64) header.first ∙ clean.version;
        csrcs = omega (arith, len, clean.csrcs, count);
        extension = at_both lacks_extension (is_extended new) true (behind_csrcs new) (with_number (4 + q) n (behind_csrcs bytes)) x_new header.behind ∙ extension.there;
        padding = at_both has_bad_padding (is_padded new) (is_padded bytes) (behind_header new) (behind_header bytes) p_new behind_new ∙ clean.padding;
      });
      payload = at_both payload_in (is_padded new) (is_padded bytes) (behind_header new) (behind_header bytes) p_new behind_new;
    }
  where
    drop_front : (q : ℕ) (xs ys : List ℕ) (high low : ℕ) (more : List ℕ) → drop q xs ≡ high ∷ low ∷ more → drop q (xs ++ ys) ≡ high ∷ low ∷ (more ++ ys)
    drop_front zero xs ys high low more e = ap (λ (l : List ℕ). l ++ ys) e
    drop_front (suc q) (x ∷ xs) ys high low more e = drop_front q xs ys high low more e
    drop_front (suc q) [] ys high low more e = absurd cc

pub renumbering : (id n p : ℕ) (bytes : List ℕ) → first_fault bytes ≡ None → number_place id bytes ≡ Some p → IsRenumbered id n p bytes
renumbering id n p bytes none e = let f = found id p bytes e in with_found id n p bytes none f f.is
