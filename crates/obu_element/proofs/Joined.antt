-- One more packet at the end of a list of packets.
use Rattle.std.proofs.Common.{◌≡◌, ◌⊎◌, Bool, true, false, not, List, [], ◌∷◌, ◌++◌, refl, sym, ◌∙◌, ap, inl, inr}
use Rattle.obu_element.specs.Joins.{Flags, AreJoined, EndsWith, IsAfter, Join}

-- a list is empty, or has a last item
data Ending : List Flags → Type 0 where
  NoLast : Ending []
  HasLast : (front : List Flags) (q : Flags) → Ending (front ++ q ∷ [])

longer : (p : Flags) (ps : List Flags) → Ending ps → Ending (p ∷ ps)
longer p ps NoLast = HasLast [] p
longer p ps (HasLast front q) = HasLast (p ∷ front) q

ending : (ps : List Flags) → Ending ps
ending [] = NoLast
ending (p ∷ ps) = longer p ps (ending ps)

nothing_behind : (front more : List Flags) (p q : Flags) → front ++ p ∷ q ∷ more ≡ [] → ⊥
nothing_behind [] more p q e = cc
nothing_behind (f ∷ front) more p q e = cc

nothing_last : (front : List Flags) (p : Flags) → front ++ p ∷ [] ≡ [] → ⊥
nothing_last [] p e = cc
nothing_last (f ∷ front) p e = cc

-- the last item is the last item
same_last : (ps front : List Flags) (p q : Flags) → ps ++ p ∷ [] ≡ front ++ q ∷ [] → p ≡ q
same_last [] [] p q e = cc
same_last [] (f ∷ front) p q e = let rest : [] ≡ front ++ q ∷ [] = cc in absurd (nothing_last front q (sym rest))
same_last (x ∷ ps) [] p q e = let rest : ps ++ p ∷ [] ≡ [] = cc in absurd (nothing_last ps p rest)
same_last (x ∷ ps) (f ∷ front) p q e = same_last ps front p q cc

-- two consecutive packets are both among the earlier packets, or are the last earlier packet and the new one
record AreFormer (ps front more : List Flags) (a b : Flags) : Type 0 where
  rest : List Flags
  same : ps ≡ front ++ a ∷ b ∷ rest

record AreNew (ps front : List Flags) (p a b : Flags) : Type 0 where
  former : ps ≡ front ++ a ∷ []
  new : b ≡ p

neighbours : (ps front more : List Flags) (p a b : Flags) → ps ++ p ∷ [] ≡ front ++ a ∷ b ∷ more → AreFormer ps front more a b ⊎ AreNew ps front p a b
neighbours [] [] more p a b e = cc
neighbours (x ∷ []) [] more p a b e = inr (record { former = cc; new = cc })
neighbours (x ∷ y ∷ ps) [] more p a b e = inl (record { rest = ps; same = cc })
neighbours [] (f ∷ front) more p a b e = let rest : [] ≡ front ++ a ∷ b ∷ more = cc in absurd (nothing_behind front more a b (sym rest))
neighbours (x ∷ ps) (f ∷ front) more p a b e =
    let head : x ≡ f = cc in
    by (neighbours ps front more p a b cc) head
  where
    by : AreFormer ps front more a b ⊎ AreNew ps front p a b → x ≡ f → AreFormer (x ∷ ps) (f ∷ front) more a b ⊎ AreNew (x ∷ ps) (f ∷ front) p a b
    by (inl h) head = let tail = h.same in inl (record { rest = h.rest; same = cc })
    by (inr h) head = let tail = h.former in inr (record { former = cc; new = h.new })

first_again : (carries : Bool) (ps : List Flags) (p : Flags) → IsAfter carries ps → p.continues ≡ carries
    → (q : Flags) (more : List Flags) → ps ++ p ∷ [] ≡ q ∷ more → q.continues ≡ false
first_again carries [] p after goes_on q more e =
    let same : p ≡ q = cc in ap (λ (x : Flags). x.continues) (sym same) ∙ goes_on ∙ after.last.none refl
first_again carries (x ∷ ps) p after goes_on q more e =
    let same : x ≡ q = cc in ap (λ (x : Flags). x.continues) (sym same) ∙ after.joined.first x ps refl

next_again : (carries : Bool) (ps : List Flags) (p : Flags) → IsAfter carries ps → p.continues ≡ carries
    → (front more : List Flags) (a b : Flags) → ps ++ p ∷ [] ≡ front ++ a ∷ b ∷ more → b.continues ≡ a.carries
next_again carries ps p after goes_on front more a b e = by (neighbours ps front more p a b e)
  where
    by : AreFormer ps front more a b ⊎ AreNew ps front p a b → b.continues ≡ a.carries
    by (inl h) = after.joined.next front h.rest a b h.same
    by (inr h) = ap (λ (x : Flags). x.continues) h.new ∙ goes_on ∙ sym (after.last.last front a h.former)

pub one_more : (carries : Bool) (ps : List Flags) (p : Flags) → IsAfter carries ps → p.continues ≡ carries → IsAfter p.carries (ps ++ p ∷ [])
one_more carries ps p after goes_on = record {
  joined = record { first = first_again carries ps p after goes_on; next = next_again carries ps p after goes_on };
  last = record {
    none = λ e. absurd (nothing_last ps p e);
    last = λ front q e. ap (λ (x : Flags). x.carries) (sym (same_last ps front p q e));
  };
}

pub none_yet : IsAfter false []
none_yet = record {
  joined = record {
    first = λ p more e. cc;
    next = λ front more p q e. absurd (nothing_behind front more p q (sym e));
  };
  last = record { none = λ e. refl; last = λ front p e. absurd (nothing_last front p (sym e)) };
}

append_two : (front : List Flags) (q p : Flags) → (front ++ q ∷ []) ++ p ∷ [] ≡ front ++ q ∷ p ∷ []
append_two [] q p = refl
append_two (f ∷ front) q p = ap (λ (x : List Flags). f ∷ x) (append_two front q p)

pub goes_on : (carries : Bool) (ps : List Flags) (p : Flags) → IsAfter carries ps → AreJoined (ps ++ p ∷ []) → p.continues ≡ carries
goes_on carries ps p after joined = by ps (ending ps) after joined
  where
    by : (ps : List Flags) → Ending ps → IsAfter carries ps → AreJoined (ps ++ p ∷ []) → p.continues ≡ carries
    by [] NoLast after joined = joined.first p [] refl ∙ sym (after.last.none refl)
    by ps (HasLast front q) after joined = joined.next front [] q p (append_two front q p) ∙ after.last.last front q refl

pub one_end : (a b : Bool) (ps : List Flags) → EndsWith a ps → EndsWith b ps → a ≡ b
one_end a b ps ends also = by ps (ending ps) ends also
  where
    by : (ps : List Flags) → Ending ps → EndsWith a ps → EndsWith b ps → a ≡ b
    by [] NoLast ends also = ends.none refl ∙ sym (also.none refl)
    by ps (HasLast front q) ends also = sym (ends.last front q refl) ∙ also.last front q refl

pub closed : (carries : Bool) (ps : List Flags) → IsAfter carries ps → not carries ≡ true → Join ps
closed false ps after h = record { joined = after.joined; closed = after.last }
closed true ps after h = cc

pub closed_where_joined : (carries : Bool) (ps : List Flags) → IsAfter carries ps → Join ps → not carries ≡ true
closed_where_joined carries ps after joins = ap not (one_end carries false ps after.last joins.closed)
