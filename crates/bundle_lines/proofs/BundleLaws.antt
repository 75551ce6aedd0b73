-- Lines are read exactly as the grammar says.
use Rattle.std.proofs.Common.{◌≡◌, ◌<◌, ℕ, Bool, true, false, not, cond, eqb, inl, inr, List, [], ◌∷◌, ◌++◌, length, refl, sym, ap, ◌∙◌, subst, arith, Option, Some, None}
use Rattle.std.specs.Prelude.{codes}
use Rattle.std.specs.Str.{bytes_eq}
use Rattle.std.proofs.lemmas.Bool.{and_parts}
use Rattle.std.proofs.lemmas.Slice.Eq.{bytes_eq-Decides}
use Rattle.sfu_base.specs.declared.call.Call.{Call}
use Rattle.script_texts.specs.Grammar.{Spells}
use Rattle.script_texts.specs.Lines.{IsLine}
use Rattle.sfu_script.specs.Fields.{fields_of, field_of, places_of}
use Rattle.sfu_script.specs.Reading.{◌>>=◌, cut, cut_at, onto_first}
use Rattle.sfu_script.specs.ReadLines.{call_of, of_two}
use Rattle.sfu_script.specs.declared.fields.Field.{Field}
use Rattle.sfu_script.specs.declared.fields.Field.TheVariants.{Number8, Number16, Number32, Ssrc}
use Rattle.sfu_script.proofs.Options.{bind_some, some_same}
use Rattle.sfu_script.proofs.Arities.{two_read}
use Rattle.sfu_script.proofs.FieldLaws.{fields_found, fields_again, one_again}
use Rattle.sfu_script.proofs.LineLaws.{call_found, call_again}
use Rattle.sfu_script.proofs.Spaces.{lacks, cut_found}
use Rattle.sfu_script.proofs.Steps.{field_again}
use Rattle.bundle_lines.specs.Commands.{command_of}
use Rattle.bundle_lines.specs.Lines.{IsBundleLine, AreLegs, line_places}
use Rattle.bundle_lines.specs.ReadLines.{or_else, of_number, with_two_legs, with_three_legs, two_legs_of, three_legs_of, bundle_of, said_of, own_of, line_of}
use Rattle.bundle_lines.specs.declared.command.BundleCommand.{BundleCommand}
use Rattle.bundle_lines.specs.declared.command.BundleCommand.TheVariants as command
use Rattle.bundle_lines.specs.declared.line.BundleLine.{BundleLine}
use Rattle.bundle_lines.specs.declared.line.BundleLine.TheVariants.{Room, Bundle, Choose, Pump, Draw, Redraw}

-- ---- the words of commands

abbrev word_of : BundleCommand → List ℕ
word_of command.Bundle = codes "bundle"
word_of command.Choose = codes "choose"
word_of command.Pump = codes "pump"
word_of command.Draw = codes "draw"
word_of command.Redraw = codes "redraw"

-- a word among others names its command
pick : (word : List ℕ) (one named : BundleCommand) (test : Bool) (other : Option BundleCommand) → bytes_eq word (word_of one) ≡ test
    → (other ≡ Some named → word ≡ word_of named) → cond test (Some one) other ≡ Some named → word ≡ word_of named
pick word one named true other is later e = (bytes_eq-Decides word (word_of one)).0 is ∙ ap word_of (some_same one named e)
pick word one named false other is later e = later e

no_command : (word : List ℕ) (named : BundleCommand) → None ≡ Some named → word ≡ word_of named
no_command word named e = cc

word_is : (word : List ℕ) (named : BundleCommand) → command_of word ≡ Some named → word ≡ word_of named
word_is word named =
    pick word command.Bundle named _ _ refl (pick word command.Choose named _ _ refl (pick word command.Pump named _ _ refl
    (pick word command.Draw named _ _ refl (pick word command.Redraw named _ _ refl (no_command word named)))))

-- ---- a line that is read is written like this

-- the line is the word and the text after it
abbrev Behind : List ℕ → List ℕ → BundleLine → Type 0
Behind word rest said = IsBundleLine said (word ++ 32 ∷ rest)

one_made : (f : ℕ → BundleLine) (numbers : List ℕ) (said : BundleLine) → of_number f numbers ≡ Some said → (a : ℕ) × (numbers ≡ a ∷ []) × (f a ≡ said)
one_made f [] said e = cc
one_made f (a ∷ []) said e = (a, refl, cc)
one_made f (a ∷ b ∷ more) said e = cc

one_read : (fs : List Field) (rest : List ℕ) (f : ℕ → BundleLine) (said : BundleLine) → (fields_of fs rest >>= of_number f) ≡ Some said
    → (a : ℕ) × Spells (places_of fs (a ∷ [])) rest × (f a ≡ said)
one_read fs rest f said e =
    let r = bind_some (fields_of fs rest) (of_number f) said e in
    let p = one_made f r.0 said r.2 in
    (p.0, subst (λ (ns : List ℕ). Spells (places_of fs ns) rest) p.1 (fields_found fs rest r.0 r.1), p.2)

two_made : (numbers : List ℕ) (said : BundleLine) → with_two_legs numbers ≡ Some said
    → (b i s f x y : ℕ) × (numbers ≡ b ∷ i ∷ s ∷ f ∷ x ∷ y ∷ []) × (Bundle b i s f (x ∷ y ∷ 0 ∷ []) 2 ≡ said)
two_made [] said e = cc
two_made (b ∷ []) said e = cc
two_made (b ∷ i ∷ []) said e = cc
two_made (b ∷ i ∷ s ∷ []) said e = cc
two_made (b ∷ i ∷ s ∷ f ∷ []) said e = cc
two_made (b ∷ i ∷ s ∷ f ∷ x ∷ []) said e = cc
two_made (b ∷ i ∷ s ∷ f ∷ x ∷ y ∷ []) said e = (b, i, s, f, x, y, refl, cc)
two_made (b ∷ i ∷ s ∷ f ∷ x ∷ y ∷ z ∷ more) said e = cc

three_made : (numbers : List ℕ) (said : BundleLine) → with_three_legs numbers ≡ Some said
    → (b i s f x y z : ℕ) × (numbers ≡ b ∷ i ∷ s ∷ f ∷ x ∷ y ∷ z ∷ []) × (Bundle b i s f (x ∷ y ∷ z ∷ []) 3 ≡ said)
three_made [] said e = cc
three_made (b ∷ []) said e = cc
three_made (b ∷ i ∷ []) said e = cc
three_made (b ∷ i ∷ s ∷ []) said e = cc
three_made (b ∷ i ∷ s ∷ f ∷ []) said e = cc
three_made (b ∷ i ∷ s ∷ f ∷ x ∷ []) said e = cc
three_made (b ∷ i ∷ s ∷ f ∷ x ∷ y ∷ []) said e = cc
three_made (b ∷ i ∷ s ∷ f ∷ x ∷ y ∷ z ∷ []) said e = (b, i, s, f, x, y, z, refl, cc)
three_made (b ∷ i ∷ s ∷ f ∷ x ∷ y ∷ z ∷ w ∷ more) said e = cc

two_found : (rest : List ℕ) (said : BundleLine) → two_legs_of rest ≡ Some said → Behind (codes "bundle") rest said
two_found rest said e =
    let fs : List Field = Number32 ∷ Number8 ∷ Ssrc ∷ Number16 ∷ Number32 ∷ Number32 ∷ [] in
    let r = bind_some (fields_of fs rest) with_two_legs said e in
    let p = two_made r.0 said r.2 in
    let spelled = subst (λ (ns : List ℕ). Spells (places_of fs ns) rest) p.6 (fields_found fs rest r.0 r.1) in
    subst (Behind (codes "bundle") rest) p.7 (record { legs = inl (refl, refl); spelled = (codes "bundle", rest, refl, spelled, refl) })

three_found : (rest : List ℕ) (said : BundleLine) → three_legs_of rest ≡ Some said → Behind (codes "bundle") rest said
three_found rest said e =
    let fs : List Field = Number32 ∷ Number8 ∷ Ssrc ∷ Number16 ∷ Number32 ∷ Number32 ∷ Number32 ∷ [] in
    let r = bind_some (fields_of fs rest) with_three_legs said e in
    let p = three_made r.0 said r.2 in
    let spelled = subst (λ (ns : List ℕ). Spells (places_of fs ns) rest) p.7 (fields_found fs rest r.0 r.1) in
    subst (Behind (codes "bundle") rest) p.8 (record { legs = inr refl; spelled = (codes "bundle", rest, refl, spelled, refl) })

-- one of two ways of reading has a value
either : (P : Type 0) (one other : Option BundleLine) (said : BundleLine) → (one ≡ Some said → P) → (other ≡ Some said → P) → or_else one other ≡ Some said → P
either P (Some x) other said here there e = here e
either P None other said here there e = there e

said_found : (named : BundleCommand) (rest : List ℕ) (said : BundleLine) → said_of named rest ≡ Some said → Behind (word_of named) rest said
said_found command.Bundle rest said e =
    either (Behind (codes "bundle") rest said) (three_legs_of rest) (two_legs_of rest) said (three_found rest said) (two_found rest said) e
said_found command.Choose rest said e =
    let h = two_read (Number32 ∷ Number8 ∷ []) rest (λ b l. Choose b l) said e in
    subst (Behind (codes "choose") rest) h.3 (record { legs = tt; spelled = (codes "choose", rest, refl, h.2, refl) })
said_found command.Pump rest said e =
    let h = one_read (Number32 ∷ []) rest (λ b. Pump b) said e in
    subst (Behind (codes "pump") rest) h.2 (record { legs = tt; spelled = (codes "pump", rest, refl, h.1, refl) })
said_found command.Draw rest said e =
    let h = one_read (Number32 ∷ []) rest (λ b. Draw b) said e in
    subst (Behind (codes "draw") rest) h.2 (record { legs = tt; spelled = (codes "draw", rest, refl, h.1, refl) })
said_found command.Redraw rest said e =
    let h = two_read (Number32 ∷ Number16 ∷ []) rest (λ b s. Redraw b s) said e in
    subst (Behind (codes "redraw") rest) h.3 (record { legs = tt; spelled = (codes "redraw", rest, refl, h.2, refl) })

own_found : (line : List ℕ) (said : BundleLine) → own_of line ≡ Some said → IsBundleLine said line
own_found line said e =
    let a = bind_some (cut line) (λ parts. command_of parts.0 >>= (λ named. said_of named parts.1)) said e in
    let b = bind_some (command_of (a.0).0) (λ named. said_of named (a.0).1) said a.2 in
    let word = word_is (a.0).0 b.0 b.1 in
    subst (λ (text : List ℕ). IsBundleLine said text) (sym (cut_found line a.0 a.1 ∙ ap (λ (w : List ℕ). w ++ 32 ∷ (a.0).1) word)) (said_found b.0 (a.0).1 said b.2)

room_found : (line : List ℕ) (said : BundleLine) → (call_of line >>= (λ call. Some (Room call))) ≡ Some said → IsBundleLine said line
room_found line said e =
    let a = bind_some (call_of line) (λ call. Some (Room call)) said e in
    subst (λ (x : BundleLine). IsBundleLine x line) (some_same (Room a.0) said a.2) (record { legs = tt; spelled = call_found line a.0 a.1 })

pub line_found : (line : List ℕ) (said : BundleLine) → line_of line ≡ Some said → IsBundleLine said line
line_found line said e =
    either (IsBundleLine said line) (call_of line >>= (λ call. Some (Room call))) (own_of line) said (room_found line said) (own_found line said) e

-- ---- a line that is written like this is read

not_true : (b : Bool) → not b ≡ true → b ≡ false
not_true true h = cc
not_true false h = refl

-- a word without the mark isn't cut
cut_nowhere : (mark : ℕ) (word : List ℕ) → lacks mark word ≡ true → cut_at mark word ≡ None
cut_nowhere mark [] h = refl
cut_nowhere mark (b ∷ bs) h =
    let parts = and_parts (not (eqb b mark)) (lacks mark bs) h in
    ap (λ (t : Bool). cond t (Some ([], bs)) (onto_first b (cut_at mark bs))) (not_true (eqb b mark) parts.0) ∙ ap (onto_first b) (cut_nowhere mark bs parts.1)

-- a text of this number of words doesn't have one more
too_few : (fs : List Field) (more : Field) (ns text : List ℕ) → length ns ≡ length fs → 0 < length fs → Spells (places_of fs ns) text
    → fields_of (fs ++ more ∷ []) text ≡ None
too_few [] more ns text same long h = absurd (omega arith)
too_few (f ∷ fs) more [] text same long h = absurd (omega arith)
too_few (f ∷ []) more (n ∷ []) text same long h = let none = cut_nowhere 32 text (one_again f text n h).0 in rw none refl
too_few (f ∷ []) more (n ∷ m ∷ ns) text same long h = absurd (omega arith)
too_few (f ∷ g ∷ fs) more (n ∷ []) text same long h = absurd (omega arith)
too_few (f ∷ g ∷ fs) more (n ∷ m ∷ ns) text same long h =
    let one = one_again f h.0 n h.2 in
    let first = field_again (field_of f) h.0 h.1 text n one.0 one.1 h.4 in
    let others = too_few (g ∷ fs) more (m ∷ ns) h.1 (omega arith) (omega arith) h.3 in
    rw (first, others) refl

-- the line is its first word and the rest
begun : (line word rest wanted : List ℕ) → word ≡ wanted → line ≡ word ++ 32 ∷ rest → line ≡ wanted ++ 32 ∷ rest
begun line word rest wanted is e = e ∙ ap (λ (w : List ℕ). w ++ 32 ∷ rest) is

-- the numbers that are read are those of the line
made : (o : Option (List ℕ)) (numbers : List ℕ) (f : List ℕ → Option BundleLine) (said : BundleLine) → o ≡ Some numbers → f numbers ≡ Some said → (o >>= f) ≡ Some said
made o numbers f said is e = ap (λ (x : Option (List ℕ)). x >>= f) is ∙ e

two_again : (b i s f x y : ℕ) (rest : List ℕ) → Spells (places_of (Number32 ∷ Number8 ∷ Ssrc ∷ Number16 ∷ Number32 ∷ Number32 ∷ []) (b ∷ i ∷ s ∷ f ∷ x ∷ y ∷ [])) rest
    → bundle_of rest ≡ Some (Bundle b i s f (x ∷ y ∷ 0 ∷ []) 2)
two_again b i s f x y rest h =
    let fs : List Field = Number32 ∷ Number8 ∷ Ssrc ∷ Number16 ∷ Number32 ∷ Number32 ∷ [] in
    let ns : List ℕ = b ∷ i ∷ s ∷ f ∷ x ∷ y ∷ [] in
    let none : three_legs_of rest ≡ None = ap (λ (o : Option (List ℕ)). o >>= with_three_legs) (too_few fs Number32 ns rest refl (omega arith) h) in
    let two : two_legs_of rest ≡ Some (Bundle b i s f (x ∷ y ∷ 0 ∷ []) 2) = made _ ns with_two_legs _ (fields_again fs ns rest refl (omega arith) h) refl in
    ap (λ (o : Option BundleLine). or_else o (two_legs_of rest)) none ∙ two

three_again : (b i s f x y z : ℕ) (rest : List ℕ)
    → Spells (places_of (Number32 ∷ Number8 ∷ Ssrc ∷ Number16 ∷ Number32 ∷ Number32 ∷ Number32 ∷ []) (b ∷ i ∷ s ∷ f ∷ x ∷ y ∷ z ∷ [])) rest
    → bundle_of rest ≡ Some (Bundle b i s f (x ∷ y ∷ z ∷ []) 3)
three_again b i s f x y z rest h =
    let fs : List Field = Number32 ∷ Number8 ∷ Ssrc ∷ Number16 ∷ Number32 ∷ Number32 ∷ Number32 ∷ [] in
    let ns : List ℕ = b ∷ i ∷ s ∷ f ∷ x ∷ y ∷ z ∷ [] in
    let three : three_legs_of rest ≡ Some (Bundle b i s f (x ∷ y ∷ z ∷ []) 3) = made _ ns with_three_legs _ (fields_again fs ns rest refl (omega arith) h) refl in
    ap (λ (o : Option BundleLine). or_else o (two_legs_of rest)) three

pub room_again : (call : Call) (line : List ℕ) → IsLine call line → line_of line ≡ Some (Room call)
room_again call line h = ap (λ (o : Option Call). or_else (o >>= (λ said. Some (Room said))) (own_of line)) (call_again call line h)

-- a line about a bundle, by the number of its legs
bundle_again : (b i s f x y z count : ℕ) (line : List ℕ) → AreLegs (x ∷ y ∷ z ∷ []) count → Spells (line_places (Bundle b i s f (x ∷ y ∷ z ∷ []) count)) line
    → line_of line ≡ Some (Bundle b i s f (x ∷ y ∷ z ∷ []) count)
bundle_again b i s f x y z count line (inl two) spelled =
    let h = subst (λ (n : ℕ). Spells (line_places (Bundle b i s f (x ∷ y ∷ z ∷ []) n)) line) two.0 spelled in
    let read = ap line_of (begun line h.0 h.1 (codes "bundle") h.2 h.4) ∙ two_again b i s f x y h.1 h.3 in
    read ∙ ap (λ (n : ℕ). Some (Bundle b i s f (x ∷ y ∷ n ∷ []) 2)) (sym two.1) ∙ ap (λ (n : ℕ). Some (Bundle b i s f (x ∷ y ∷ z ∷ []) n)) (sym two.0)
bundle_again b i s f x y z count line (inr three) spelled =
    let h = subst (λ (n : ℕ). Spells (line_places (Bundle b i s f (x ∷ y ∷ z ∷ []) n)) line) three spelled in
    let read = ap line_of (begun line h.0 h.1 (codes "bundle") h.2 h.4) ∙ three_again b i s f x y z h.1 h.3 in
    read ∙ ap (λ (n : ℕ). Some (Bundle b i s f (x ∷ y ∷ z ∷ []) n)) (sym three)

pub line_again : (said : BundleLine) (line : List ℕ) → IsBundleLine said line → line_of line ≡ Some said
line_again (Room call) line h = room_again call line h.spelled
line_again (Bundle b i s f (x ∷ y ∷ z ∷ []) count) line h = bundle_again b i s f x y z count line h.legs h.spelled
line_again (Bundle b i s f [] count) line h = absurd h.legs
line_again (Bundle b i s f (x ∷ []) count) line h = absurd h.legs
line_again (Bundle b i s f (x ∷ y ∷ []) count) line h = absurd h.legs
line_again (Bundle b i s f (x ∷ y ∷ z ∷ w ∷ more) count) line h = absurd h.legs
line_again (Choose bundle leg) line is =
    let h = is.spelled in
    ap line_of (begun line h.0 h.1 (codes "choose") h.2 h.4)
    ∙ made _ (bundle ∷ leg ∷ []) (of_two (λ b l. Choose b l)) _ (fields_again (Number32 ∷ Number8 ∷ []) (bundle ∷ leg ∷ []) h.1 refl (omega arith) h.3) refl
line_again (Pump bundle) line is =
    let h = is.spelled in
    ap line_of (begun line h.0 h.1 (codes "pump") h.2 h.4)
    ∙ made _ (bundle ∷ []) (of_number (λ b. Pump b)) _ (fields_again (Number32 ∷ []) (bundle ∷ []) h.1 refl (omega arith) h.3) refl
line_again (Draw bundle) line is =
    let h = is.spelled in
    ap line_of (begun line h.0 h.1 (codes "draw") h.2 h.4)
    ∙ made _ (bundle ∷ []) (of_number (λ b. Draw b)) _ (fields_again (Number32 ∷ []) (bundle ∷ []) h.1 refl (omega arith) h.3) refl
line_again (Redraw bundle seq) line is =
    let h = is.spelled in
    ap line_of (begun line h.0 h.1 (codes "redraw") h.2 h.4)
    ∙ made _ (bundle ∷ seq ∷ []) (of_two (λ b s. Redraw b s)) _ (fields_again (Number32 ∷ Number16 ∷ []) (bundle ∷ seq ∷ []) h.1 refl (omega arith) h.3) refl

pub one_line : (one other : BundleLine) (line : List ℕ) → IsBundleLine one line → IsBundleLine other line → one ≡ other
one_line one other line h k = some_same one other (sym (line_again one line h) ∙ line_again other line k)
