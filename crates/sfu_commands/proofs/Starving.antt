-- A command that runs out of memory before its first read.
use Rattle.std.proofs.Common.{◌≡◌, inl, inr, ℕ, List, [], refl, sym, ap, subst, arith, Option, Some, None, Err}
use Rattle.std.specs.Prelude.{IfSome}
use Rattle.std.specs.Io.KnownBytes.{Appends}
use Rattle.std.proofs.KnownBytes.{Appends-nil, Consumes-nil}
use Rattle.sfu_driver.specs.declared.halt.Ending.{Ending}
use Rattle.sfu_driver.specs.declared.halt.Ending.TheVariants as ending
use Rattle.sfu_driver.specs.Outcome.{End}
use Rattle.sfu_driver.specs.declared.halt.Halt.TheVariants.{Starved}
use Rattle.sfu_driver.specs.declared.halt.Interruption.TheVariants.{Halted}
use Rattle.sfu_driver.proofs.Answering.{first_fault_by}
use Rattle.sfu_driver.specs.Statuses.{Completes, Due, Statuses, full_text, status_of}

if_some : {X : Type 0} (o : Option X) (P : X → Type 0) → ((x : X) → P x) → IfSome o P
if_some None P all = tt
if_some (Some x) P all = all x

no_ending : (why : Ending) → 6 ≡ status_of why → ⊥
no_ending ending.Outside e = absurd cc
no_ending ending.Complaint e = absurd cc
no_ending ending.Obu e = absurd cc

completes : (end : Option End) → Completes end 6
completes None = inr refl
completes (Some end) = inr refl

-- nothing is due for no bytes
pub starved_at_once : (whole part : List ℕ → Due) (left w : Option (List ℕ)) (g f : ℕ) → part [] ≡ record { text = []; end = None }
    → Statuses whole part left left w w g g f f 6
starved_at_once whole part left w g f none = record {
  done = λ e. absurd cc;
  source = λ e. absurd cc;
  judged = λ e. absurd cc;
  sink = λ e. absurd cc;
  unwritten = λ e. absurd cc;
  ended = λ why e. absurd (no_ending why e);
  decided = λ why e. absurd (no_ending why e);
  memory = λ e. if_some left _ (λ bytes. ([], [], Consumes-nil left, ap (λ (d : Due). d.end) none, wrote));
  prompt = if_some left _ (λ bytes. record {
    earlier = [];
    piece = [];
    consumed = Consumes-nil left;
    small = omega arith;
    goes = ap (λ (d : Due). d.end) none;
    wrote = λ some. absurd (omega arith);
  });
  begun = if_some left _ (λ bytes. ([], full_text (whole bytes), Appends-nil w, refl));
  only = inr (inr (inr (inl refl)));
  complete = λ a b. if_some left _ (λ bytes. completes (whole bytes).end);
  every = record {
    prompt = record { earlier = []; piece = []; consumed = Consumes-nil left; small = omega arith; goes = ap (λ (d : Due). d.end) none; wrote = λ some. absurd (omega arith) };
    bounded = omega arith;
    says = record {
      done = λ e. absurd cc;
      judged = λ e. absurd cc;
      unwritten = λ e. absurd cc;
      ended = λ why e. absurd (no_ending why e);
      memory = λ e. ([], [], refl, ap (λ (d : Due). d.end) none, wrote);
      begun = ([], full_text (whole []), Appends-nil w, refl);
    };
    complete = λ a b. completes (whole []).end;
    first_fault = first_fault_by g g f f (Err (Halted Starved)) (record { reading = refl; writing = refl });
  };
}
  where
    wrote : Appends w w (part []).text
    wrote = subst (λ (text : List ℕ). Appends w w text) (sym (ap (λ (d : Due). d.text) none)) (Appends-nil w)
