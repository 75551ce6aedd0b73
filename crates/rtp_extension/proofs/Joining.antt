-- Bytes that are elements and padding up to their end remain so when more elements and padding are appended.
use Rattle.std.proofs.Common.{◌≡◌, ℕ, List, [], ◌∷◌, ◌++◌, refl, sym, ap, ◌∙◌, append_assoc, append-nil}
use Rattle.std.proofs.lemmas.Grind.{flat_map-append}
use Rattle.std.specs.List.{flat_map}
use Rattle.rtp_extension.specs.declared.form.Form.{Form}
use Rattle.rtp_extension.specs.Forms.{PlainElement, Fits, element_bytes}
use Rattle.rtp_extension.specs.Blocks.{Piece, PaddingByte, AnElement, piece_bytes, PiecesFit, elements_among, IsWhole}
use Rattle.rtp_extension.specs.Writing.{AddsElement}

both_fit : (form : Form) (ps qs : List Piece) → PiecesFit form ps → PiecesFit form qs → PiecesFit form (ps ++ qs)
both_fit form [] qs fit_p fit_q = fit_q
both_fit form (p ∷ ps) qs fit_p fit_q = (fit_p.0, both_fit form ps qs fit_p.1 fit_q)

among_both : (ps qs : List Piece) → elements_among (ps ++ qs) ≡ elements_among ps ++ elements_among qs
among_both [] qs = refl
among_both (PaddingByte ∷ ps) qs = among_both ps qs
among_both (AnElement e ∷ ps) qs = ap (λ (x : List PlainElement). e ∷ x) (among_both ps qs)

pub whole_joined : (form : Form) (a b : List ℕ) (es fs : List PlainElement) → IsWhole form a es → IsWhole form b fs → IsWhole form (a ++ b) (es ++ fs)
whole_joined form a b es fs is_a is_b = record {
  pieces = is_a.pieces ++ is_b.pieces;
  fit = both_fit form is_a.pieces is_b.pieces is_a.fit is_b.fit;
  laid =
      ap (λ (x : List ℕ). x ++ b) is_a.laid ∙ ap (λ (x : List ℕ). flat_map (piece_bytes form) is_a.pieces ++ x) is_b.laid
      ∙ sym (flat_map-append (piece_bytes form) is_a.pieces is_b.pieces);
  said =
      ap (λ (x : List PlainElement). x ++ fs) is_a.said ∙ ap (λ (x : List PlainElement). elements_among is_a.pieces ++ x) is_b.said
      ∙ sym (among_both is_a.pieces is_b.pieces);
}

pub element_whole : (form : Form) (e : PlainElement) → Fits form e → IsWhole form (element_bytes form e) (e ∷ [])
element_whole form e fits = record {
  pieces = AnElement e ∷ [];
  fit = (fits, tt);
  laid = sym (append-nil (element_bytes form e));
  said = refl;
}

pub padding_whole : (form : Form) → IsWhole form (0 ∷ []) []
padding_whole form = record { pieces = PaddingByte ∷ []; fit = (tt, tt); laid = refl; said = refl }

-- an element after any earlier contents of the buffer
pub adds : (form : Form) (old new : List ℕ) (e : PlainElement) → Fits form e → new ≡ old ++ element_bytes form e → AddsElement form old new e
adds form old new e fits at_new = record {
  reads = λ front block es split whole. (
    block ++ element_bytes form e,
    at_new ∙ ap (λ (x : List ℕ). x ++ element_bytes form e) split ∙ append_assoc front block (element_bytes form e),
    whole_joined form block (element_bytes form e) es (e ∷ []) whole (element_whole form e fits),
  );
}
