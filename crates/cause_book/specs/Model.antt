-- The law that a book returns the causes of the forwarding model. Own statements.
use Rattle.std.specs.Prelude.{◌≡◌, ◌<◌, ◌≤◌, ◌+◌, ℕ, List, Ok}
use Rattle.std.specs.declared.option.Option.TheVariants.{Some}
use Rattle.sfu_base.specs.declared.frame.Step.{Step}
use Rattle.sfu_base.specs.declared.frame.Wish.{Wish}
use Rattle.forwarding_model.specs.forwarding.Causes.{cause, newest_number, verdicts}
use Rattle.forwarding_model.specs.forwarding.Timeline.{Event, meanings_of}
use Rattle.forwarding_model.specs.frames.TrackFrames.{IsOneTrack}
use Rattle.cause_book.specs.Book.{AreFalling, IsAfter, judged}

-- a book with the verdicts on all frames of a timeline returns the causes of that timeline
pub record HasCausesOf {S : Type 0} (book : List Step) (wish : Wish) (events : List (Event S)) : Type 0 where
  pub judged_by_all : (n : ℕ) → judged book n ≡ judged (verdicts wish events) n
  pub cause : (n newest : ℕ) → newest_number (verdicts wish events) ≡ Some newest → n ≤ newest → newest < n + 4096 → judged book n ≡ Ok (cause wish events n)

-- the verdicts on the frames of one track have falling numbers, and a book in which they were written returns their causes
abbrev pub KeepsCauses : Type 0 → Type 0
KeepsCauses S = (wish : Wish) (events : List (Event S)) → IsOneTrack (meanings_of events)
    → AreFalling (verdicts wish events) × ((book : List Step) → IsAfter book (verdicts wish events) → HasCausesOf book wish events)
