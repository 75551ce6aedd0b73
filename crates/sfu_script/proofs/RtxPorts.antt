-- The numbers that are read for a port with a retransmission stream, and their meaning.
use Rattle.std.proofs.Common.{◌≡◌, ℕ, Bool, cond, List, [], ◌∷◌, length, slice_index_or, refl, sym, ap, ◌∙◌, arith, Option, Some, None}
use Rattle.sfu_script.specs.Ports.{is_apart, of_rtx}
use Rattle.sfu_script.specs.Reading.{◌>>=◌}
use Rattle.sfu_script.specs.declared.ports.PortRole.{PortRole}
use Rattle.sfu_script.specs.declared.ports.PortRole.TheVariants.{Rtx}

-- the role of the first four numbers
abbrev pub rtx_role : List ℕ → PortRole
rtx_role numbers = Rtx (slice_index_or numbers 0 0) (slice_index_or numbers 1 0) (slice_index_or numbers 2 0) (slice_index_or numbers 3 0)

abbrev pub chosen_role : List ℕ → Bool → Option PortRole
chosen_role numbers apart = cond apart (Some (rtx_role numbers)) None

four : (numbers : List ℕ) → length numbers ≡ 4 → of_rtx numbers ≡ chosen_role numbers (is_apart (rtx_role numbers))
four [] long = absurd (omega (arith, long))
four (s ∷ []) long = absurd (omega (arith, long))
four (s ∷ x ∷ []) long = absurd (omega (arith, long))
four (s ∷ x ∷ y ∷ []) long = absurd (omega (arith, long))
four (s ∷ x ∷ y ∷ p ∷ []) long = refl
four (s ∷ x ∷ y ∷ p ∷ more ∷ others) long = absurd (omega (arith, long))

pub rtx_by : (read : Option (List ℕ)) (numbers : List ℕ) (apart : Bool) → read ≡ Some numbers → length numbers ≡ 4 → is_apart (rtx_role numbers) ≡ apart → chosen_role numbers apart ≡ (read >>= of_rtx)
rtx_by read numbers apart is long test =
    ap (chosen_role numbers) (sym test) ∙ (sym (four numbers long) ∙ ap (λ (o : Option (List ℕ)). o >>= of_rtx) (sym is))
