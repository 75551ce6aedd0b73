-- Parts join exactly if their packets do.
use Rattle.std.proofs.Common.{◌≡◌, ◌↔◌, Bool, false, List, [], ◌∷◌, ◌++◌, map, refl, sym, ◌∙◌, ap}
use Rattle.obu_element.specs.Joins.{Flags, AreJoined, Join as PacketsJoin}
use Rattle.forwarding_model.specs.frames.Cuts.{Part, Join, JoinSoFar}
use Rattle.frame_assembly.specs.Joins.{flags_of}

-- the packets join after a packet that left an element open, or didn't
record JoinFrom (open_element : Bool) (packets : List Flags) : Type 0 where
  first : (p : Flags) (more : List Flags) → packets ≡ p ∷ more → p.continues ≡ open_element
  next : (front more : List Flags) (p q : Flags) → packets ≡ front ++ p ∷ q ∷ more → q.continues ≡ p.carries

none_next : (front more : List Flags) (p q : Flags) → [] ≡ front ++ p ∷ q ∷ more → ⊥
none_next [] more p q e = cc
none_next (f ∷ front) more p q e = cc

none_last : (front : List Flags) (p : Flags) → [] ≡ front ++ p ∷ [] → ⊥
none_last [] p e = cc
none_last (f ∷ front) p e = cc

packets_join : {X : Type 0} (o : Bool) (parts : List (Part X)) → JoinSoFar o parts → JoinFrom o (map flags_of parts)
packets_join o [] h = record { first = λ p more e. cc; next = λ front more p q e. absurd (none_next front more p q e) }
packets_join {X} o (part ∷ parts) h = by (packets_join part.carries parts h.1)
  where
    first : (p : Flags) (more : List Flags) → flags_of part ∷ map flags_of parts ≡ p ∷ more → p.continues ≡ o
    first p more e = let same : flags_of part ≡ p = cc in ap (λ (x : Flags). x.continues) (sym same) ∙ h.0

    next : JoinFrom part.carries (map flags_of parts) → (front more : List Flags) (p q : Flags) → flags_of part ∷ map flags_of parts ≡ front ++ p ∷ q ∷ more
        → q.continues ≡ p.carries
    next rest [] more p q e =
        let same : flags_of part ≡ p = cc in
        let tail : map flags_of parts ≡ q ∷ more = cc in
        rest.first q more tail ∙ ap (λ (x : Flags). x.carries) same
    next rest (f ∷ front) more p q e = rest.next front more p q cc

    by : JoinFrom part.carries (map flags_of parts) → JoinFrom o (flags_of part ∷ map flags_of parts)
    by rest = record { first = first; next = next rest }

parts_join : {X : Type 0} (o : Bool) (parts : List (Part X)) → JoinFrom o (map flags_of parts) → JoinSoFar o parts
parts_join o [] h = tt
parts_join o (part ∷ parts) h = (
  h.first (flags_of part) (map flags_of parts) refl,
  parts_join part.carries parts (record {
    first = λ q more e. h.next [] more (flags_of part) q (ap (λ (l : List Flags). flags_of part ∷ l) e);
    next = λ front more p q e. h.next (flags_of part ∷ front) more p q (ap (λ (l : List Flags). flags_of part ∷ l) e);
  }),
)

pub so_far : {X : Type 0} (parts : List (Part X)) → JoinSoFar false parts ↔ AreJoined (map flags_of parts)
so_far parts = (
  (λ h. let j = packets_join false parts h in record { first = j.first; next = j.next }),
  λ j. parts_join false parts (record { first = j.first; next = j.next }),
)

-- ---- and the last

is_so_far : {X : Type 0} (o : Bool) (parts : List (Part X)) → Join o parts → JoinSoFar o parts
is_so_far o [] h = tt
is_so_far o (part ∷ parts) h = (h.0, is_so_far part.carries parts h.1)

last_is_closed : {X : Type 0} (o : Bool) (parts : List (Part X)) → Join o parts → (front : List Flags) (p : Flags) → map flags_of parts ≡ front ++ p ∷ [] → p.carries ≡ false
last_is_closed o [] h front p e = absurd (none_last front p e)
last_is_closed o (part ∷ []) h [] p e = let same : flags_of part ≡ p = cc in ap (λ (x : Flags). x.carries) (sym same) ∙ h.1
last_is_closed o (part ∷ []) h (f ∷ front) p e = absurd (none_last front p cc)
last_is_closed o (part ∷ next ∷ more) h [] p e = cc
last_is_closed o (part ∷ next ∷ more) h (f ∷ front) p e = last_is_closed part.carries (next ∷ more) h.1 front p cc

closed : {X : Type 0} (o : Bool) (parts : List (Part X)) → JoinSoFar o parts → (parts ≡ [] → o ≡ false)
    → ((front : List Flags) (p : Flags) → map flags_of parts ≡ front ++ p ∷ [] → p.carries ≡ false) → Join o parts
closed o [] h none ends = none refl
closed {X} o (part ∷ parts) h none ends = (
  h.0,
  closed part.carries parts h.1
      (λ e. ends [] (flags_of part) (ap (λ (l : List (Part X)). flags_of part ∷ map flags_of l) e))
      (λ front p e. ends (flags_of part ∷ front) p (ap (λ (l : List Flags). flags_of part ∷ l) e)),
)

pub whole : {X : Type 0} (parts : List (Part X)) → Join false parts ↔ PacketsJoin (map flags_of parts)
whole parts = (
  (λ h. record { joined = (so_far parts).0 (is_so_far false parts h); closed = record { none = λ e. refl; last = last_is_closed false parts h } }),
  λ j. closed false parts ((so_far parts).1 j.joined) (λ e. refl) j.closed.last,
)
