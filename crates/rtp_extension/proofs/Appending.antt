-- Elements appended one by one, and the parts of a header extension before and after them.
use Rattle.std.proofs.Common.{◌≡◌, ◌≤◌, ℕ, ◌+◌, ◌-◌, ◌*◌, ◌/◌, ◌%◌, min, List, [], ◌∷◌, ◌++◌, length, take, Option, Some, sym, ap, ◌∙◌, arith, append_assoc, length-append}
use Rattle.std.specs.Int.{bytes_high_first}
use Rattle.rtp_extension.specs.declared.form.Form.{Form}
use Rattle.rtp_extension.specs.Forms.{PlainElement, element_bytes, form_of}
use Rattle.rtp_extension.specs.Reading.{elements_in, elements_if, elements_of}
use Rattle.rtp_extension.specs.Reblocked.{block_if, block_in, block_with, elements_laid, extension_with, profile_for, replaced, word_padding, zeros}
use Rattle.rtp_extension.proofs.Reblocking.{length-block_in, zeros_taken}

-- the next element fits if all of them fit
pub capacity_left : (form : Form) (out all start : List ℕ) (left es : List PlainElement) (e : PlainElement) → out ++ elements_laid form left ≡ start ++ all
    → length start + length all ≤ 2048 → left ≡ e ∷ es → length out + length (element_bytes form e) ≤ 2048
capacity_left form out all start left es e written capacity first =
    let there : out ++ (element_bytes form e ++ elements_laid form es) ≡ start ++ all = sym (ap (λ (x : List PlainElement). out ++ elements_laid form x) first) ∙ written in
    omega (arith, ap length there, length-append out (element_bytes form e ++ elements_laid form es), length-append (element_bytes form e) (elements_laid form es), length-append start all)

-- the new block in the form that was found
pub block_is : (profile id : ℕ) (block value : List ℕ) (form wide : Form) → form_of profile ≡ Some form → form_of (profile_for profile value) ≡ Some wide
    → block_with profile block id value ≡ block_in wide (replaced id value (elements_in form block))
block_is profile id block value form wide named widened =
    ap (λ (x : Option Form). block_if x (replaced id value (elements_of profile block))) widened
    ∙ ap (λ (x : Option Form). block_in wide (replaced id value (elements_if x block))) named

-- the bytes and their padding fill exactly this many words
pub words_hold : (n w : ℕ) → w ≡ n / 4 + min 1 (n % 4) → 4 * w ≡ n + word_padding n
words_hold n w is = omega (arith, is)

pub length-extension_with : (profile id : ℕ) (block value : List ℕ) (form wide : Form) (n w : ℕ) → form_of profile ≡ Some form
    → form_of (profile_for profile value) ≡ Some wide → n ≡ length (elements_laid wide (replaced id value (elements_in form block)))
    → w ≡ n / 4 + min 1 (n % 4) → length (extension_with profile block id value) ≡ 4 + 4 * w
length-extension_with profile id block value form wide n w named widened counted words =
    let es = replaced id value (elements_in form block) in
    let is = ap length (block_is profile id block value form wide named widened) in
    omega (arith, is, length-block_in wide es, ap word_padding counted, words_hold n w words)

-- the extension as the code writes it
pub extension_written : (profile id : ℕ) (block value : List ℕ) (form wide : Form) (n w p : ℕ) (out w1 w2 w3 w4 front count tail : List ℕ)
    → form_of profile ≡ Some form → form_of (profile_for profile value) ≡ Some wide
    → n ≡ length (elements_laid wide (replaced id value (elements_in form block))) → w ≡ n / 4 + min 1 (n % 4) → p ≡ profile_for profile value
    → front ≡ bytes_high_first 2 p → count ≡ bytes_high_first 2 w → tail ≡ take (4 * w - n) (0 ∷ 0 ∷ 0 ∷ 0 ∷ [])
    → w1 ≡ out ++ front → w2 ≡ w1 ++ count → w3 ≡ w2 ++ elements_laid wide (replaced id value (elements_in form block)) → w4 ≡ w3 ++ tail
    → w4 ≡ out ++ extension_with profile block id value
extension_written profile id block value form wide n w p out w1 w2 w3 w4 front count tail named widened counted words is_p ef ec et e1 e2 e3 e4 =
    let es = replaced id value (elements_in form block) in
    let laid = elements_laid wide es in
    let zero = zeros (word_padding (length laid)) in
    let new = profile_for profile value in
    let is = block_is profile id block value form wide named widened in
    let length_is : length (block_with profile block id value) / 4 ≡ w =
    omega (arith, ap length is, length-block_in wide es, ap word_padding counted, words_hold n w words) in
    let padded : tail ≡ zero =
    et ∙ zeros_taken (4 * w - n) (omega (arith, words_hold n w words))
    ∙ ap zeros (let k : 4 * w - n ≡ word_padding n = omega (arith, words_hold n w words) in k ∙ ap word_padding counted) in
    e4 ∙ ap (λ (x : List ℕ). x ++ tail) (e3 ∙ ap (λ (x : List ℕ). x ++ laid) (e2 ∙ ap (λ (x : List ℕ). x ++ count) e1))
    ∙ ap (λ (x : List ℕ). out ++ front ++ count ++ laid ++ x) padded
    ∙ ap (λ (x : List ℕ). out ++ x ++ count ++ laid ++ zero) (ef ∙ ap (bytes_high_first 2) is_p)
    ∙ ap (λ (x : List ℕ). out ++ bytes_high_first 2 new ++ x ++ laid ++ zero) (ec ∙ ap (bytes_high_first 2) (sym length_is))
    ∙ regrouped out (bytes_high_first 2 new) (bytes_high_first 2 (length (block_with profile block id value) / 4)) laid zero
    ∙ ap (λ (x : List ℕ). out ++ (bytes_high_first 2 new ++ bytes_high_first 2 (length (block_with profile block id value) / 4) ++ x)) (sym is)
  where
    regrouped : (a b c d e : List ℕ) → a ++ b ++ c ++ d ++ e ≡ a ++ (b ++ c ++ (d ++ e))
    regrouped a b c d e = simp append_assoc
