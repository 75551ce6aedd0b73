-- What has to be done over a link and a room, as a tree, and what was done, as a list of steps. Own rule. The code has neither of them.
use Rattle.std.specs.Prelude.{◌≡◌, ℕ, List, [], ◌∷◌, Option}

-- The next thing to do, and what follows it. This depends on the datagram that was received, if any, and on the moment after
-- the receive; or on the answer to a call. C is the type of calls, A the type of their answers, and D describes a datagram.
pub data Deed (C A D : Type 0) : Type 0 where
  Listen : (Option (List ℕ) → ℕ → Deed C A D) → Deed C A D
  Ask : C → (A → Deed C A D) → Deed C A D
  Post : D → Deed C A D → Deed C A D
  Over : Deed C A D

-- One thing that was done: a receive, with the moment after it; a call, with its answer; or a datagram that was sent.
pub data Step (C A : Type 0) : Type 0 where
  Heard : Option (List ℕ) → ℕ → Step C A
  Said : C → A → Step C A
  Posted : List ℕ → Step C A

-- a call with its answer
pub record Word (C A : Type 0) : Type 0 where
  pub call : C
  pub answer : A

module _ {C A D : Type 0} where
  -- The step is the next thing of the deed, and `rest` remains after it. `IsOne` says which bytes a datagram has.
  abbrev pub Does : (D → List ℕ → Type 0) → Deed C A D → Step C A → Deed C A D → Type 0
  Does IsOne (Listen f) (Heard got moment) rest = f got moment ≡ rest
  Does IsOne (Ask call f) (Said said answer) rest = (said ≡ call) × (f answer ≡ rest)
  Does IsOne (Post what next) (Posted sent) rest = IsOne what sent × (next ≡ rest)
  Does IsOne _ _ rest = ⊥

  -- the steps are the first ones of the deed, and `rest` remains
  abbrev pub Leads : (D → List ℕ → Type 0) → Deed C A D → List (Step C A) → Deed C A D → Type 0
  Leads IsOne d [] rest = d ≡ rest
  Leads IsOne d (s ∷ ss) rest = (e : Deed C A D) × Does IsOne d s e × Leads IsOne e ss rest

module _ {C A : Type 0} where
  -- what the receives returned, in order
  abbrev pub received_of : List (Step C A) → List (Option (List ℕ))
  received_of [] = []
  received_of (Heard got moment ∷ ss) = got ∷ received_of ss
  received_of (_ ∷ ss) = received_of ss

  -- the calls with their answers, in order
  abbrev pub said_of : List (Step C A) → List (Word C A)
  said_of [] = []
  said_of (Said call answer ∷ ss) = record { call = call; answer = answer } ∷ said_of ss
  said_of (_ ∷ ss) = said_of ss

  -- the datagrams that were sent, in order
  abbrev pub sent_of : List (Step C A) → List (List ℕ)
  sent_of [] = []
  sent_of (Posted packet ∷ ss) = packet ∷ sent_of ss
  sent_of (_ ∷ ss) = sent_of ss
