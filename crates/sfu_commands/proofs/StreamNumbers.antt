-- The words of a command that makes a stream, and the numbers in them.
use Rattle.std.proofs.Common.{◌≡◌, ◌⊎◌, inl, inr, ◌≤◌, ◌<◌, ℕ, List, [], ◌∷◌, length, sym, ap, subst, ◌∙◌, arith, Option, Some, None, slice_index, get_or}
use Rattle.std.specs.Prelude.{decimal}
use Rattle.sfu_script.specs.Reading.{◌>>=◌, number_of}
use Rattle.sfu_script.specs.Fields.{fields_of}
use Rattle.sfu_script.specs.declared.fields.Field.TheVariants.{Number64}
use Rattle.sfu_script.proofs.Filled.{number_again, number_found}
use Rattle.sfu_script.proofs.Options.{bind_some, some_same}
use Rattle.stream_maker.specs.Stream.{Stream}
use Rattle.sfu_commands.specs.declared.words.Command.{Command}
use Rattle.sfu_commands.specs.declared.words.Command.TheVariants.{Run, Convert, Simulcast, Help, Check, Record, Trial, Cascade}
use Rattle.sfu_commands.specs.StreamWords.{IsCascade, IsNumber, IsTrial, SaysStream}
use Rattle.sfu_commands.specs.Words.{Reads, Says}

pub number_is : (word numbers : List ℕ) → fields_of (Number64 ∷ []) word ≡ Some numbers → IsNumber (slice_index numbers 0) word
number_is word numbers e =
    let a = bind_some (number_of 64 word) (λ n. Some (n ∷ [])) numbers e in
    let h = number_found 64 word a.0 (omega arith) a.1 in
    let s = some_same (a.0 ∷ []) numbers a.2 in
    subst (λ (ns : List ℕ). IsNumber (slice_index ns 0) word) s h

pub number_is_none : (word : List ℕ) (n : ℕ) → fields_of (Number64 ∷ []) word ≡ None → ¬ (IsNumber n word)
number_is_none word n e h =
    let read = number_again 64 n word (omega arith) h in
    let some : fields_of (Number64 ∷ []) word ≡ Some (n ∷ []) = ap (λ (o : Option ℕ). o >>= (λ m. Some (m ∷ []))) read.1 in
    let no : None ≡ Some (n ∷ []) = sym e ∙ some in
    cc

pub same_number : (m n : ℕ) (word : List ℕ) → IsNumber m word → IsNumber n word → m ≡ n
same_number m n word a b = some_same m n (sym (number_again 64 m word (omega arith) a).1 ∙ (number_again 64 n word (omega arith) b).1)

-- the numbers in the words of the command with this name
pub record SayNumbers (command name frames start loss : List ℕ) (s : Stream) : Type 0 where
  pub name_is : name ≡ command
  pub frames_are : IsNumber s.frames frames
  pub start_is : IsNumber s.start start
  pub loss_is : IsNumber s.loss loss

pub say_numbers : (command name frames start loss : List ℕ) (s : Stream) → SaysStream command (name ∷ frames ∷ start ∷ loss ∷ []) s
    → SayNumbers command name frames start loss s
say_numbers command name frames start loss s t =
    let words = t.words_are in
    let few = t.few_frames in
    let small = t.loss in
    record {
      name_is = cc;
      frames_are = (omega arith, cc);
      start_is = (t.start, cc);
      loss_is = (omega arith, cc);
    }

-- numbers that are out of range aren't those of a stream
pub out_of_range : (command name frames start loss : List ℕ) (f l : ℕ) → IsNumber f frames → IsNumber l loss → (f < 1) ⊎ (1000000 < f) ⊎ (50 < l)
    → (s : Stream) → ¬ (SaysStream command (name ∷ frames ∷ start ∷ loss ∷ []) s)
out_of_range command name frames start loss f l is_f is_l out s t =
    let say = say_numbers command name frames start loss s t in
    let same_frames : s.frames ≡ f = same_number s.frames f frames say.frames_are is_f in
    let same_loss : s.loss ≡ l = same_number s.loss l loss say.loss_is is_l in
    let some = t.some_frames in
    let few = t.few_frames in
    let small = t.loss in
    by_cause out same_frames same_loss some few small
  where
    by_cause : (f < 1) ⊎ (1000000 < f) ⊎ (50 < l) → s.frames ≡ f → s.loss ≡ l → 1 ≤ s.frames → s.frames ≤ 1000000 → s.loss ≤ 50 → ⊥
    by_cause (inl h) a b some few small = omega arith
    by_cause (inr (inl h)) a b some few small = omega arith
    by_cause (inr (inr h)) a b some few small = omega arith

-- the same words are those of at most one stream
pub same_stream : (command : List ℕ) (words : List (List ℕ)) (s t : Stream) → SaysStream command words s → SaysStream command words t → s ≡ t
same_stream command words s t a b =
    let first = say_numbers command command (decimal s.frames) (decimal s.start) (decimal s.loss) s (subst (λ (w : List (List ℕ)). SaysStream command w s) a.words_are a) in
    let second = say_numbers command command (decimal s.frames) (decimal s.start) (decimal s.loss) t (subst (λ (w : List (List ℕ)). SaysStream command w t) a.words_are b) in
    let frames : s.frames ≡ t.frames = same_number s.frames t.frames (decimal s.frames) first.frames_are second.frames_are in
    let start : s.start ≡ t.start = same_number s.start t.start (decimal s.start) first.start_is second.start_is in
    let loss : s.loss ≡ t.loss = same_number s.loss t.loss (decimal s.loss) first.loss_is second.loss_is in
    ap (λ (f : ℕ). stream f s.start s.loss) frames ∙ ap (λ (x : ℕ). stream t.frames x s.loss) start ∙ ap (λ (l : ℕ). stream t.frames t.start l) loss
  where
    stream : ℕ → ℕ → ℕ → Stream
    stream f x l = record { frames = f; start = x; loss = l }

-- four words are those of a trial, of a cascade, or of no command
pub no_other : (name frames start loss : List ℕ) (c : Command) → ((s : Stream) → ¬ (IsTrial (name ∷ frames ∷ start ∷ loss ∷ []) s))
    → ((s : Stream) → ¬ (IsCascade (name ∷ frames ∷ start ∷ loss ∷ []) s)) → ¬ (Says (name ∷ frames ∷ start ∷ loss ∷ []) c)
no_other name frames start loss Run none no_cascade says = cc
no_other name frames start loss Convert none no_cascade says = cc
no_other name frames start loss Simulcast none no_cascade says = cc
no_other name frames start loss Help none no_cascade says = cc
no_other name frames start loss (Check id) none no_cascade says = let e = says.2 in cc
no_other name frames start loss (Record id) none no_cascade says = let e = says.2 in cc
no_other name frames start loss (Trial f s l) none no_cascade says = none (record { frames = f; start = s; loss = l }) says
no_other name frames start loss (Cascade f s l) none no_cascade says = no_cascade (record { frames = f; start = s; loss = l }) says

pub reads_four : (words : List (List ℕ)) (name frames start loss : List ℕ) (o : Option Command) → words ≡ name ∷ frames ∷ start ∷ loss ∷ []
    → Reads (name ∷ frames ∷ start ∷ loss ∷ []) o → Reads words o
reads_four words name frames start loss o e h = subst (λ (w : List (List ℕ)). Reads w o) (sym e) h

-- a list of four
pub four_items : {A : Type 0} (xs : List A) (a b c d : A) → 4 ≤ length xs → length xs < 5 → a ≡ get_or xs 0 a → b ≡ get_or xs 1 b → c ≡ get_or xs 2 c → d ≡ get_or xs 3 d
    → xs ≡ a ∷ b ∷ c ∷ d ∷ []
four_items [] a b c d low high e f g h = absurd (omega arith)
four_items (x ∷ []) a b c d low high e f g h = absurd (omega arith)
four_items (x ∷ y ∷ []) a b c d low high e f g h = absurd (omega arith)
four_items (x ∷ y ∷ z ∷ []) a b c d low high e f g h = absurd (omega arith)
four_items (x ∷ y ∷ z ∷ w ∷ []) a b c d low high e f g h = cc
four_items (x ∷ y ∷ z ∷ w ∷ v ∷ xs) a b c d low high e f g h = absurd (omega arith)
