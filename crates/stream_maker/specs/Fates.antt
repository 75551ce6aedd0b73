-- What the network does to each packet (own rule). For each packet one word of 32 bits is drawn, by the generator PCG XSH RR 64/32
-- (O'Neill, 'PCG: a family of simple fast space-efficient statistically good algorithms for random number generation') on stream 0.
use Rattle.std.specs.Prelude.{ℕ, ◌/◌, ◌%◌, Bool, true, false, if◌then◌else◌, nat_lt}
use Rattle.rand_pcg.specs.Lcg.{Lcg, advance, started, increment_of}
use Rattle.rand_pcg.specs.Pcg.{multiplier_64, pcg32}
use Rattle.stream_maker.specs.declared.fate.Fate.{Fate}
use Rattle.stream_maker.specs.declared.fate.Fate.TheVariants.{Lost, Twice, Held, Once}

-- the first of these that applies decides; `loss` is a percentage
unfoldable pub fate_of : ℕ → ℕ → Fate
fate_of loss word =
    if nat_lt (word % 100) loss then Lost
    else if nat_lt (word / 100 % 100) loss then Twice
    else if nat_lt (word / 10000 % 100) loss then Held
    else Once

-- the generator of this seed
abbrev pub generator_of : ℕ → Lcg
generator_of start = started 64 multiplier_64 start (increment_of 64 0)

-- the word that a generator returns, and the generator after it
unfoldable pub word_of : Lcg → ℕ
word_of generator = (pcg32 generator).0

unfoldable pub after_word : Lcg → Lcg
after_word generator = (pcg32 generator).1

-- the generator of this seed after `count` words
unfoldable pub generator_at : ℕ → ℕ → Lcg
generator_at start count = advance 64 multiplier_64 count (generator_of start)

-- the word that follows `count` words
abbrev pub word_at : ℕ → ℕ → ℕ
word_at start count = word_of (generator_at start count)

abbrev pub is_lost : Fate → Bool
is_lost Lost = true
is_lost Twice = false
is_lost Held = false
is_lost Once = false

abbrev pub is_twice : Fate → Bool
is_twice Lost = false
is_twice Twice = true
is_twice Held = false
is_twice Once = false

abbrev pub is_to_be_held : Fate → Bool
is_to_be_held Lost = false
is_to_be_held Twice = false
is_to_be_held Held = true
is_to_be_held Once = false
