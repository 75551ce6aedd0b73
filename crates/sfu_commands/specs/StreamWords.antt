-- The words of a command that makes a stream. Own rule.
use Rattle.std.specs.Prelude.{◌≡◌, ◌<◌, ◌≤◌, ◌^◌, ℕ, List, [], ◌∷◌, decimal, codes}
use Rattle.stream_maker.specs.Stream.{Stream}

-- the word is this number, in 64 bits
abbrev pub IsNumber : ℕ → List ℕ → Type 0
IsNumber n word = (n < 2 ^ 64) × (word ≡ decimal n)

-- the command's name, and then `N START LOSS`: the number of frames, the seed of the stream, and the packet loss in percent
pub record SaysStream (name : List ℕ) (words : List (List ℕ)) (s : Stream) : Type 0 where
  pub words_are : words ≡ name ∷ decimal s.frames ∷ decimal s.start ∷ decimal s.loss ∷ []
  pub some_frames : 1 ≤ s.frames
  pub few_frames : s.frames ≤ 1000000
  pub start : s.start < 2 ^ 64
  pub loss : s.loss ≤ 50

abbrev pub IsTrial : List (List ℕ) → Stream → Type 0
IsTrial words s = SaysStream (codes "trial") words s

abbrev pub IsCascade : List (List ℕ) → Stream → Type 0
IsCascade words s = SaysStream (codes "cascade") words s
