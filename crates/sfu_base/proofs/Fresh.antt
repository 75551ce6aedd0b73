-- Links on which no call was made yet: the first one has no recorded traffic and no faults, and one more may be appended to them.
use Rattle.std.proofs.Common.{◌≡◌, List, [], ◌∷◌, ◌++◌, All, refl, ap, arith}
use Rattle.std.proofs.lemmas.List.Elements.{All-append, All-cons, All-nil}
use Rattle.sfu_base.specs.Links.{IsFresh, LinkInMemory, no_traffic}
use Rattle.sfu_base.specs.Ports.{first_link}

pub first_silent : (links : List LinkInMemory) → All IsFresh links → (first_link links).traffic ≡ no_traffic
first_silent [] fresh = refl
first_silent (link ∷ rest) fresh = ap (λ l. l.traffic) (fresh 0 link (omega arith))

pub first_quiet : (links : List LinkInMemory) → All IsFresh links → (first_link links).faults ≡ 0
first_quiet [] fresh = refl
first_quiet (link ∷ rest) fresh = ap (λ l. l.faults) (fresh 0 link (omega arith))

pub none_fresh : All IsFresh []
none_fresh = All-nil IsFresh

pub one_more_fresh : (links : List LinkInMemory) (link : LinkInMemory) → All IsFresh links → IsFresh link → All IsFresh (links ++ link ∷ [])
one_more_fresh links link all one = All-append IsFresh links (link ∷ []) all (All-cons IsFresh link [] one (All-nil IsFresh))
