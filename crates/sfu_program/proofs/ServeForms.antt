-- The words of `serve` aren't those of another command.
use Rattle.std.proofs.Common.{◌≡◌, ◌⊎◌, inl, inr, ℕ, List, [], ◌∷◌, length, ap, sym, ◌∙◌, ◌<◌, arith}
use Rattle.sfu_commands.specs.declared.words.Command.{Command}
use Rattle.sfu_commands.specs.declared.words.Command.TheVariants.{Run, Convert, Simulcast, Help, Check, Record, Trial, Cascade}
use Rattle.sfu_commands.specs.Check.{IsCheck}
use Rattle.sfu_commands.specs.Record.{IsRecord}
use Rattle.sfu_commands.specs.Convert.{IsConvert}
use Rattle.sfu_commands.specs.Help.{IsHelp}
use Rattle.sfu_commands.specs.StreamWords.{IsCascade, IsTrial}
use Rattle.std.specs.Prelude.{decimal}
use Rattle.std.proofs.lemmas.Fmt.{decimal_injective}
use Rattle.stream_maker.specs.Stream.{Stream}
use Rattle.sfu_commands.specs.Words.{IsForm, IsRun, IsSimulcast, Says}
use Rattle.sfu_together.specs.Together.{IsTogether}
use Rattle.sfu_program.specs.ServeWords.{IsServe}
use Rattle.sfu_program.specs.Forms.{IsCommand, IsEnd, IsServing}

clash : (a b : ℕ) → a ≡ b → a < b → ⊥
clash a b e low = omega arith

abbrev first_code : List (List ℕ) → ℕ
first_code [] = 0
first_code ([] ∷ words) = 0
first_code ((code ∷ codes) ∷ words) = code

pub not_run : (words : List (List ℕ)) → IsServing words → IsRun words → ⊥
not_run words s r = clash 1 2 (ap length (sym r ∙ s.1.words_are)) (omega arith)

pub not_help : (words : List (List ℕ)) → IsServing words → IsHelp words → ⊥
not_help words s r = clash 1 2 (ap length (sym r ∙ s.1.words_are)) (omega arith)

pub not_convert : (words : List (List ℕ)) → IsServing words → IsConvert words → ⊥
not_convert words s r = clash 1 2 (ap length (sym r ∙ s.1.words_are)) (omega arith)

pub not_simulcast : (words : List (List ℕ)) → IsServing words → IsSimulcast words → ⊥
not_simulcast words s r = clash 1 2 (ap length (sym r ∙ s.1.words_are)) (omega arith)

pub not_together : (words : List (List ℕ)) → IsServing words → IsTogether words → ⊥
not_together words s r = clash 1 2 (ap length (sym r ∙ s.1.words_are)) (omega arith)

pub not_check : (words : List (List ℕ)) (id : ℕ) → IsServing words → IsCheck words id → ⊥
not_check words id s r = clash 99 115 (ap first_code (sym r.2 ∙ s.1.words_are)) (omega arith)

pub not_record : (words : List (List ℕ)) (id : ℕ) → IsServing words → IsRecord words id → ⊥
not_record words id s r = clash 114 115 (ap first_code (sym r.2 ∙ s.1.words_are)) (omega arith)

pub not_trial : (words : List (List ℕ)) (t : Stream) → IsServing words → IsTrial words t → ⊥
not_trial words t s r = clash 2 4 (ap length (sym s.1.words_are ∙ r.words_are)) (omega arith)

pub not_cascade : (words : List (List ℕ)) (t : Stream) → IsServing words → IsCascade words t → ⊥
not_cascade words t s r = clash 2 4 (ap length (sym s.1.words_are ∙ r.words_are)) (omega arith)

not_said : (words : List (List ℕ)) (command : Command) → IsServing words → Says words command → ⊥
not_said words Run s is = not_run words s is
not_said words Convert s is = not_convert words s is
not_said words Simulcast s is = not_simulcast words s is
not_said words Help s is = not_help words s is
not_said words (Check id) s is = not_check words id s is
not_said words (Record id) s is = not_record words id s is
not_said words (Trial frames start loss) s is = not_trial words _ s is
not_said words (Cascade frames start loss) s is = not_cascade words _ s is

pub not_form : (words : List (List ℕ)) → IsServing words → IsForm words → ⊥
not_form words s is = not_said words is.0 s is.1

-- the words have at most one number of turns
pub one_number : (words : List (List ℕ)) (m n : ℕ) → IsServe words m → IsServe words n → m ≡ n
one_number words m n a b =
    let same : decimal m ≡ decimal n = (let e = sym a.words_are ∙ b.words_are in cc) in
    decimal_injective m n (let small = a.few_turns in omega arith) (let small = b.few_turns in omega arith) same

-- words that are none of the three aren't a command
pub no_command : (words : List (List ℕ)) → (IsTogether words → ⊥) → (IsServing words → ⊥) → (IsForm words → ⊥) → IsCommand words → ⊥
no_command words t s f (inl is) = f is
no_command words t s f (inr (inl is)) = t is
no_command words t s f (inr (inr is)) = s is

-- the statuses of `serve` are among the program's, without the one for words that aren't a command
pub is_end : (status : ℕ) → (status ≡ 0) ⊎ (status ≡ 3) ⊎ (status ≡ 4) ⊎ (status ≡ 5) ⊎ (status ≡ 6) ⊎ (status ≡ 7) → IsEnd status
is_end status (inl a) = inl (inl a)
is_end status (inr (inl a)) = inl (inr (inr (inl a)))
is_end status (inr (inr (inl a))) = inl (inr (inr (inr (inl a))))
is_end status (inr (inr (inr (inl a)))) = inl (inr (inr (inr (inr (inl a)))))
is_end status (inr (inr (inr (inr (inl a))))) = inl (inr (inr (inr (inr (inr (inl a))))))
is_end status (inr (inr (inr (inr (inr a))))) = inr a

pub not_two : (status : ℕ) → (status ≡ 0) ⊎ (status ≡ 3) ⊎ (status ≡ 4) ⊎ (status ≡ 5) ⊎ (status ≡ 6) ⊎ (status ≡ 7) → status ≡ 2 → ⊥
not_two status (inl a) e = omega arith
not_two status (inr (inl a)) e = omega arith
not_two status (inr (inr (inl a))) e = omega arith
not_two status (inr (inr (inr (inl a)))) e = omega arith
not_two status (inr (inr (inr (inr (inl a))))) e = omega arith
not_two status (inr (inr (inr (inr (inr a))))) e = omega arith
