-- The words `together` aren't those of another command.
use Rattle.std.proofs.Common.{◌≡◌, ◌⊎◌, inl, inr, ℕ, List, [], ◌∷◌, length, ap, sym, ◌∙◌, ◌<◌, arith}
use Rattle.sfu_commands.specs.declared.words.Command.{Command}
use Rattle.sfu_commands.specs.declared.words.Command.TheVariants.{Run, Convert, Simulcast, Help, Check, Record, Trial, Cascade}
use Rattle.sfu_commands.specs.Check.{IsCheck}
use Rattle.sfu_commands.specs.Record.{IsRecord}
use Rattle.sfu_commands.specs.Convert.{IsConvert}
use Rattle.sfu_commands.specs.Help.{IsHelp}
use Rattle.sfu_commands.specs.StreamWords.{IsCascade, IsTrial}
use Rattle.stream_maker.specs.Stream.{Stream}
use Rattle.sfu_commands.specs.Words.{IsForm, IsRun, IsSimulcast, Says}
use Rattle.sfu_program.specs.Forms.{IsStatus}
use Rattle.sfu_together.specs.Together.{IsTogether}

clash : (a b : ℕ) → a ≡ b → a < b → ⊥
clash a b e low = omega arith

abbrev first_length : List (List ℕ) → ℕ
first_length [] = 0
first_length (word ∷ words) = length word

pub not_run : (words : List (List ℕ)) → IsTogether words → IsRun words → ⊥
not_run words t r = clash 3 8 (ap first_length (sym r ∙ t)) (omega arith)

pub not_help : (words : List (List ℕ)) → IsTogether words → IsHelp words → ⊥
not_help words t r = clash 4 8 (ap first_length (sym r ∙ t)) (omega arith)

pub not_convert : (words : List (List ℕ)) → IsTogether words → IsConvert words → ⊥
not_convert words t r = clash 7 8 (ap first_length (sym r ∙ t)) (omega arith)

pub not_simulcast : (words : List (List ℕ)) → IsTogether words → IsSimulcast words → ⊥
not_simulcast words t r = clash 8 9 (ap first_length (sym t ∙ r)) (omega arith)

pub not_check : (words : List (List ℕ)) (id : ℕ) → IsTogether words → IsCheck words id → ⊥
not_check words id t r = clash 1 2 (ap length (sym t ∙ r.2)) (omega arith)

pub not_record : (words : List (List ℕ)) (id : ℕ) → IsTogether words → IsRecord words id → ⊥
not_record words id t r = clash 1 2 (ap length (sym t ∙ r.2)) (omega arith)

not_said : (words : List (List ℕ)) (command : Command) → IsTogether words → Says words command → ⊥
not_said words Run t is = not_run words t is
not_said words Convert t is = not_convert words t is
not_said words Simulcast t is = not_simulcast words t is
not_said words Help t is = not_help words t is
not_said words (Check id) t is = not_check words id t is
not_said words (Record id) t is = not_record words id t is
not_said words (Trial frames start loss) t is = clash 1 4 (ap length (sym t ∙ is.words_are)) (omega arith)
not_said words (Cascade frames start loss) t is = clash 1 4 (ap length (sym t ∙ is.words_are)) (omega arith)

pub not_form : (words : List (List ℕ)) → IsTogether words → IsForm words → ⊥
not_form words t is = not_said words is.0 t is.1

pub not_trial : (words : List (List ℕ)) (s : Stream) → IsTogether words → IsTrial words s → ⊥
not_trial words s t is = clash 1 4 (ap length (sym t ∙ is.words_are)) (omega arith)

pub not_cascade : (words : List (List ℕ)) (s : Stream) → IsTogether words → IsCascade words s → ⊥
not_cascade words s t is = clash 1 4 (ap length (sym t ∙ is.words_are)) (omega arith)

-- the statuses of `together` are among the program's, without the one for words that aren't a command
pub is_status : (status : ℕ) → (status ≡ 0) ⊎ (status ≡ 3) ⊎ (status ≡ 4) ⊎ (status ≡ 5) ⊎ (status ≡ 6) → IsStatus status
is_status status (inl a) = inl a
is_status status (inr (inl a)) = inr (inr (inl a))
is_status status (inr (inr (inl a))) = inr (inr (inr (inl a)))
is_status status (inr (inr (inr (inl a)))) = inr (inr (inr (inr (inl a))))
is_status status (inr (inr (inr (inr a)))) = inr (inr (inr (inr (inr (inl a)))))

pub not_two : (status : ℕ) → (status ≡ 0) ⊎ (status ≡ 3) ⊎ (status ≡ 4) ⊎ (status ≡ 5) ⊎ (status ≡ 6) → status ≡ 2 → ⊥
not_two status (inl a) e = omega arith
not_two status (inr (inl a)) e = omega arith
not_two status (inr (inr (inl a))) e = omega arith
not_two status (inr (inr (inr (inl a)))) e = omega arith
not_two status (inr (inr (inr (inr a)))) e = omega arith
