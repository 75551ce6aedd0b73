-- `publish T plain SSRC HOLD` and `publish T layered SSRC HOLD ID`, read and written.
use Rattle.std.proofs.Common.{◌≡◌, ℕ, Bool, true, false, cond, List, [], ◌∷◌, ◌++◌, refl, subst, arith, Option, Some, None}
use Rattle.std.specs.Prelude.{codes}
use Rattle.std.specs.Str.{bytes_eq}
use Rattle.std.proofs.lemmas.Slice.Eq.{bytes_eq-Decides}
use Rattle.sfu_base.specs.declared.call.Call.{Call}
use Rattle.sfu_base.specs.declared.call.Call.TheVariants.{Publish}
use Rattle.sfu_base.specs.declared.call.Kind.TheVariants.{Plain, Layered}
use Rattle.script_texts.specs.Grammar.{Word, Number, Spells}
use Rattle.script_texts.specs.Grammar.{Ssrc as SsrcPlace}
use Rattle.script_texts.specs.Lines.{IsLine}
use Rattle.sfu_script.specs.Reading.{cut, field, number_of}
use Rattle.sfu_script.specs.ReadLines.{publish_of, kind_of}
use Rattle.sfu_script.specs.declared.fields.Field.TheVariants.{Number8, Number32, Ssrc}
use Rattle.sfu_script.proofs.Options.{bind_some}
use Rattle.sfu_script.proofs.Arities.{two_read, three_read}
use Rattle.sfu_script.proofs.FieldLaws.{fields_again}
use Rattle.sfu_script.proofs.Steps.{number_read, word_read, number_spelled, word_spelled}

-- after the word `publish`
abbrev pub IsBehind : Call → List ℕ → Type 0
IsBehind call rest = IsLine call (codes "publish" ++ 32 ∷ rest)

-- if a choice has a value, one of its two sides has one
choose : (test : Bool) (one other : Option Call) (call : Call) (P : Type 0) → (test ≡ true → one ≡ Some call → P) → (other ≡ Some call → P)
    → cond test one other ≡ Some call → P
choose true one other call P here there e = here refl e
choose false one other call P here there e = there e

nothing : (call : Call) (P : Type 0) → None ≡ Some call → P
nothing call P e = cc

kind_found : (rest : List ℕ) (track : ℕ × List ℕ) (kind : List ℕ × List ℕ) (call : Call) → field (number_of 32) rest ≡ Some track → cut track.1 ≡ Some kind
    → kind_of track.0 kind.0 kind.1 ≡ Some call → IsBehind call rest
kind_found rest track kind call tracked cut_at =
    choose (bytes_eq kind.0 (codes "plain")) _ _ call (IsBehind call rest)
    (λ is e.
    let h = two_read (Ssrc ∷ Number32 ∷ []) kind.1 (λ ssrc hold. Publish track.0 Plain ssrc hold) call e in
    subst (λ (x : Call). IsBehind x rest) h.3 (
      codes "publish",
      rest,
      refl,
      number_read 32 (omega arith) rest track (Word (codes "plain")) (SsrcPlace h.0 ∷ Number 32 h.1 ∷ []) tracked
          (word_read (codes "plain") track.1 kind (SsrcPlace h.0) (Number 32 h.1 ∷ []) cut_at ((bytes_eq-Decides kind.0 (codes "plain")).0 is) h.2),
      refl,
    ))
    (choose (bytes_eq kind.0 (codes "layered")) _ _ call (IsBehind call rest)
    (λ is e.
    let h = three_read (Ssrc ∷ Number32 ∷ Number8 ∷ []) kind.1 (λ ssrc hold id. Publish track.0 (Layered id) ssrc hold) call e in
    subst (λ (x : Call). IsBehind x rest) h.4 (
      codes "publish",
      rest,
      refl,
      number_read 32 (omega arith) rest track (Word (codes "layered")) (SsrcPlace h.0 ∷ Number 32 h.1 ∷ Number 8 h.2 ∷ []) tracked
          (word_read (codes "layered") track.1 kind (SsrcPlace h.0) (Number 32 h.1 ∷ Number 8 h.2 ∷ []) cut_at ((bytes_eq-Decides kind.0 (codes "layered")).0 is) h.3),
      refl,
    ))
    (nothing call (IsBehind call rest)))

pub publish_found : (rest : List ℕ) (call : Call) → publish_of rest ≡ Some call → IsBehind call rest
unfolding publish_of
publish_found rest call e =
    let a = bind_some (field (number_of 32) rest) _ call e in
    let b = bind_some (cut (a.0).1) _ call a.2 in
    kind_found rest a.0 b.0 call a.1 b.1 b.2

pub plain_again : (track ssrc hold : ℕ) (rest : List ℕ)
    → Spells (Number 32 track ∷ Word (codes "plain") ∷ SsrcPlace ssrc ∷ Number 32 hold ∷ []) rest → publish_of rest ≡ Some (Publish track Plain ssrc hold)
unfolding publish_of
plain_again track ssrc hold rest h =
    let a = number_spelled 32 track (omega arith) rest (Word (codes "plain")) (SsrcPlace ssrc ∷ Number 32 hold ∷ []) h in
    let b = word_spelled (codes "plain") a.0 (SsrcPlace ssrc) (Number 32 hold ∷ []) refl a.2 in
    let tracked = a.1 in
    let kind = b.1 in
    let read = fields_again (Ssrc ∷ Number32 ∷ []) (ssrc ∷ hold ∷ []) b.0 refl (omega arith) b.2 in
    rw (tracked, kind, read) refl

pub layered_again : (track ssrc hold id : ℕ) (rest : List ℕ)
    → Spells (Number 32 track ∷ Word (codes "layered") ∷ SsrcPlace ssrc ∷ Number 32 hold ∷ Number 8 id ∷ []) rest → publish_of rest ≡ Some (Publish track (Layered id) ssrc hold)
unfolding publish_of
layered_again track ssrc hold id rest h =
    let a = number_spelled 32 track (omega arith) rest (Word (codes "layered")) (SsrcPlace ssrc ∷ Number 32 hold ∷ Number 8 id ∷ []) h in
    let b = word_spelled (codes "layered") a.0 (SsrcPlace ssrc) (Number 32 hold ∷ Number 8 id ∷ []) refl a.2 in
    let tracked = a.1 in
    let kind = b.1 in
    let read = fields_again (Ssrc ∷ Number32 ∷ Number8 ∷ []) (ssrc ∷ hold ∷ id ∷ []) b.0 refl (omega arith) b.2 in
    rw (tracked, kind, read) refl
