-- The verdicts of a timeline have falling numbers, and a book of them returns the causes of the timeline.
use Rattle.std.proofs.Common.{◌≡◌, ◌≤◌, ◌<◌, ℕ, ◌+◌, List, [], ◌∷◌, ap, ◌∙◌, Option, Some, Ok, Err, Bool, cond}
use Rattle.std.specs.Prelude.{nat_le}
use Rattle.std.specs.List.{AllByRecursion}
use Rattle.std.proofs.lemmas.Bool.{le-ltb, lt-leb}
use Rattle.sfu_base.specs.declared.call.Refusal.TheVariants.{Ahead, TooOld}
use Rattle.sfu_base.specs.declared.frame.FrameMeaning.{FrameMeaning}
use Rattle.sfu_base.specs.declared.frame.Step.{Step}
use Rattle.sfu_base.specs.declared.frame.Wish.{Wish}
use Rattle.forwarding_model.specs.forwarding.Causes.{cause_among, is_ahead, is_too_old, newest_number, number_or, oldest_asked, verdicts}
use Rattle.forwarding_model.specs.forwarding.Timeline.{Event, meanings_of}
use Rattle.forwarding_model.specs.forwarding.Timeline.Event.{WholeFrame, PlainPacket, WishChange, Take}
use Rattle.forwarding_model.specs.frames.TrackFrames.{IsOneTrack, Precedes}
use Rattle.cause_book.specs.Book.{AreFalling, IsAboveAll, IsAfter, judged}
use Rattle.cause_book.specs.Model.{HasCausesOf}
use Rattle.cause_book.proofs.Recent.{judged_recent}

rising : (f : FrameMeaning) (gs : List FrameMeaning) → AllByRecursion (Precedes f) gs → AllByRecursion (λ g. g.number < f.number) gs
rising f [] h = tt
rising f (g ∷ gs) h = (h.0.rises, rising f gs h.1)

asked : (steps : List Step) (n newest : ℕ) → newest_number steps ≡ Some newest → n ≤ newest → newest < n + 4096 → judged steps n ≡ Ok (cause_among steps n)
asked steps n newest e low young =
    ap (λ (o : Option ℕ). cond (is_ahead o n) (Err (Ahead o)) (cond (is_too_old o n) (Err (TooOld (oldest_asked (number_or o 0)))) (Ok (cause_among steps n)))) e
    ∙ ap (λ (b : Bool). cond b (Err (Ahead (Some newest))) (cond (nat_le (n + 4096) newest) (Err (TooOld (oldest_asked newest))) (Ok (cause_among steps n)))) (le-ltb newest n low)
    ∙ ap (λ (b : Bool). cond b (Err (TooOld (oldest_asked newest))) (Ok (cause_among steps n))) (lt-leb (n + 4096) newest young)

module _ {S : Type 0} where
  judged_below : (n : ℕ) (wish : Wish) (events : List (Event S)) → AllByRecursion (λ g. g.number < n) (meanings_of events) → IsAboveAll n (verdicts wish events)
  judged_below n wish [] h = tt
  judged_below n wish (WholeFrame frame ∷ past) h = (h.0, judged_below n wish past h.1)
  judged_below n wish (PlainPacket packet ∷ past) h = judged_below n wish past h
  judged_below n wish (WishChange changed ∷ past) h = judged_below n wish past h
  judged_below n wish (Take ∷ past) h = judged_below n wish past h

  falling : (wish : Wish) (events : List (Event S)) → IsOneTrack (meanings_of events) → AreFalling (verdicts wish events)
  falling wish [] h = tt
  falling wish (WholeFrame frame ∷ past) h =
      (judged_below frame.meaning.number wish past (rising frame.meaning (meanings_of past) h.1), falling wish past h.2)
  falling wish (PlainPacket packet ∷ past) h = falling wish past h
  falling wish (WishChange changed ∷ past) h = falling wish past h
  falling wish (Take ∷ past) h = falling wish past h

  pub keeps_causes : (wish : Wish) (events : List (Event S)) → IsOneTrack (meanings_of events)
      → AreFalling (verdicts wish events) × ((book : List Step) → IsAfter book (verdicts wish events) → HasCausesOf book wish events)
  keeps_causes wish events track =
      let falls : AreFalling (verdicts wish events) = falling wish events track in
      let same = λ (book : List Step) (n : ℕ) (at : IsAfter book (verdicts wish events)). ap (λ (steps : List Step). judged steps n) at ∙ judged_recent (verdicts wish events) n falls in (
        falls,
        λ book at. record {
          judged_by_all = λ n. same book n at;
          cause = λ n newest e low young. same book n at ∙ asked (verdicts wish events) n newest e low young;
        },
      )
