-- Steps one after another, and the link's report of them.
use Rattle.std.proofs.Common.{◌≡◌, ℕ, List, [], ◌∷◌, ◌++◌, refl, ap, sym, subst, append-nil, append_assoc, Option, Some, None}
use Rattle.sfu_base.specs.Links.{Traffic, with_more}
use Rattle.session_steps.specs.Deeds.{Deed, Step, Heard, Said, Posted, Word, Does, Leads, received_of, said_of, sent_of}
use Rattle.sfu_serve.specs.Doing.{AllFitBuffers, StarveWhereTheyMay}

pub more_twice : (us vs : List (Option (List ℕ))) (xs ys : List (List ℕ)) (traffic : Option Traffic) → with_more vs ys (with_more us xs traffic) ≡ with_more (us ++ vs) (xs ++ ys) traffic
more_twice us vs xs ys None = refl
more_twice us vs xs ys (Some traffic) = ap Some (λ i. record { received = append_assoc traffic.received us vs i; sent = append_assoc traffic.sent xs ys i })

pub more_none : (traffic : Option Traffic) → traffic ≡ with_more [] [] traffic
more_none None = refl
more_none (Some traffic) = ap Some (λ i. record { received = sym (append-nil traffic.received) i; sent = sym (append-nil traffic.sent) i })

pub all_fit : (us vs : List (Option (List ℕ))) → AllFitBuffers us → AllFitBuffers vs → AllFitBuffers (us ++ vs)
all_fit [] vs p q = q
all_fit (u ∷ us) vs p q = (p.0, all_fit us vs p.1 q)

module _ {C A : Type 0} (starved : A) (MayStarve : C → Type 0) where
  pub starve_append : (us vs : List (Word C A)) → StarveWhereTheyMay starved MayStarve us → StarveWhereTheyMay starved MayStarve vs → StarveWhereTheyMay starved MayStarve (us ++ vs)
  starve_append [] vs p q = q
  starve_append (u ∷ us) vs p q = (p.0, starve_append us vs p.1 q)

  -- the same if more calls may run out of memory
  pub starve_wider : (Wider : C → Type 0) (us : List (Word C A)) → ((call : C) → MayStarve call → Wider call) → StarveWhereTheyMay starved MayStarve us → StarveWhereTheyMay starved Wider us
  starve_wider Wider [] wide p = tt
  starve_wider Wider (u ∷ us) wide p = (λ was. wide u.call (p.0 was), starve_wider Wider us wide p.1)

module _ {C A D : Type 0} (IsOne : D → List ℕ → Type 0) where
  pub leads_on : (d : Deed C A D) (ss : List (Step C A)) (e : Deed C A D) (ts : List (Step C A)) (rest : Deed C A D) → Leads IsOne d ss e → Leads IsOne e ts rest → Leads IsOne d (ss ++ ts) rest
  leads_on d [] e ts rest p q = subst (λ (x : Deed C A D). Leads IsOne x ts rest) (sym p) q
  leads_on d (s ∷ ss) e ts rest p q = (p.0, p.1, leads_on p.0 ss e ts rest p.2 q)

  -- one step
  pub leads_by : (d : Deed C A D) (s : Step C A) (rest : Deed C A D) → Does IsOne d s rest → Leads IsOne d (s ∷ []) rest
  leads_by d s rest p = (rest, p, refl)

module _ {C A : Type 0} where
  pub received_append : (ss ts : List (Step C A)) → received_of (ss ++ ts) ≡ received_of ss ++ received_of ts
  received_append [] ts = refl
  received_append (Heard got moment ∷ ss) ts = ap (λ (l : List (Option (List ℕ))). got ∷ l) (received_append ss ts)
  received_append (Said call answer ∷ ss) ts = received_append ss ts
  received_append (Posted packet ∷ ss) ts = received_append ss ts

  pub said_append : (ss ts : List (Step C A)) → said_of (ss ++ ts) ≡ said_of ss ++ said_of ts
  said_append [] ts = refl
  said_append (Heard got moment ∷ ss) ts = said_append ss ts
  said_append (Said call answer ∷ ss) ts = ap (λ (l : List (Word C A)). record { call = call; answer = answer } ∷ l) (said_append ss ts)
  said_append (Posted packet ∷ ss) ts = said_append ss ts

  pub sent_append : (ss ts : List (Step C A)) → sent_of (ss ++ ts) ≡ sent_of ss ++ sent_of ts
  sent_append [] ts = refl
  sent_append (Heard got moment ∷ ss) ts = sent_append ss ts
  sent_append (Said call answer ∷ ss) ts = sent_append ss ts
  sent_append (Posted packet ∷ ss) ts = ap (λ (l : List (List ℕ)). packet ∷ l) (sent_append ss ts)
