-- The packets that a bundle's ring returns.
use Rattle.std.proofs.Common.{◌≡◌, ℕ, List, [], ◌∷◌, length, refl, sym, ap, ap₂, subst, ◌∙◌, Option, Some, None, Result, Ok, Err}
use Rattle.std.specs.Prelude.{◌==◌, IfOk, OnErr, OnOk, ◌↔◌}
use Rattle.std.specs.List.{find}
use Rattle.std.specs.Option.{option_map}
use Rattle.std.proofs.lemmas.List.{length-map}
use Rattle.std.proofs.lemmas.Option.{slice_get-map}
use Rattle.sfu_base.specs.declared.call.Refusal.{Refusal}
use Rattle.sfu_base.specs.declared.call.Refusal.TheVariants.{Empty, NotKept}
use Rattle.out_ring.specs.Ring.{Resends, ResendsIt, Ring, Sent, Takes, TakesFrom, oldest_in}
use Rattle.out_ring.specs.History.{GaveLately, GaveNoneLately, Gives, History, IsAfter, and_take, numbered}
use Rattle.out_ring.proofs.Numbers.{length-numbered, number-numbered}
use Rattle.simulcast.specs.declared.bundle.Bundle.{Bundle}
use Rattle.simulcast.specs.Made.{Made, passed_of, ring_history}
use Rattle.simulcast.specs.Bundle.{DrawsTo, IsBundle, RedrawsTo, again_of}

empty_by : (queue : List (List ℕ)) (old new : Ring) (why : Refusal) (before bytes : List ℕ) → TakesFrom queue old new (Err why) before bytes → why ≡ Empty
empty_by [] old new why before bytes h = let same : Err why ≡ Err Empty = h.0 in cc
empty_by (p ∷ rest) old new why before bytes h = absurd (let other : Err why ≡ Ok old.next = h.0 in cc)

pub drawn : (b c : Bundle) (m : Made) (result : Result ℕ Refusal) (before bytes : List ℕ) → IsBundle b m
    → c.number ≡ b.number → c.id ≡ b.id → c.legs.items ≡ b.legs.items → c.switch ≡ b.switch → c.renumbers ≡ b.renumbers → c.numbers ≡ b.numbers
    → Takes b.ring c.ring result before bytes → ((h : History) → IsAfter b.ring h → OnOk result (IsAfter c.ring (and_take h)))
    → ((h : History) → IsAfter b.ring h → IfOk result (λ n. Gives h h.takes (record { number = n; bytes = bytes })))
    → ((h : History) → IsAfter b.ring h → (result ≡ Err Empty) ↔ (h.takes ≡ length h.pushes)) → OnErr result (c.ring ≡ b.ring)
    → DrawsTo c m bytes result
drawn b c m (Ok n) before bytes is number id legs switch renumbers numbers takes after gives empty unchanged =
    let at = gives (ring_history m) is.ring_is in (
      record {
        number_is = number ∙ is.number_is;
        id_is = id ∙ is.id_is;
        legs_are = legs ∙ is.legs_are;
        switch_is = switch ∙ is.switch_is;
        renumbers_is = renumbers ∙ is.renumbers_is;
        numbers_are = λ e. numbers ∙ is.numbers_are e;
        ring_is = after (ring_history m) is.ring_is;
        ssrc_fits = is.ssrc_fits;
      },
      slice_get-map (λ (p : Sent). p.bytes) (numbered m.first m.ssrc (passed_of m)) m.draws ∙ ap (option_map (λ (p : Sent). p.bytes)) at,
      number-numbered m.first m.ssrc (passed_of m) m.draws (record { number = n; bytes = bytes }) at,
    )
drawn b c m (Err why) before bytes is number id legs switch renumbers numbers takes after gives empty unchanged =
    let none : why ≡ Empty = empty_by b.ring.queued b.ring c.ring why before bytes takes in (
      record {
        number_is = number ∙ is.number_is;
        id_is = id ∙ is.id_is;
        legs_are = legs ∙ is.legs_are;
        switch_is = switch ∙ is.switch_is;
        renumbers_is = renumbers ∙ is.renumbers_is;
        numbers_are = λ e. numbers ∙ is.numbers_are e;
        ring_is = subst (λ (r : Ring). IsAfter r (ring_history m)) (sym unchanged) is.ring_is;
        ssrc_fits = is.ssrc_fits;
      },
      none,
      (empty (ring_history m) is.ring_is).0 (ap Err none)
          ∙ sym (length-map (numbered m.first m.ssrc (passed_of m)) (λ (p : Sent). p.bytes) ∙ length-numbered m.first m.ssrc (passed_of m)),
    )

-- ---- redrawn packets

not_kept_by : (o : Option Sent) (ring : Ring) (why : Refusal) (before bytes : List ℕ) → ResendsIt o ring (Err why) before bytes → why ≡ NotKept (oldest_in ring.kept ring.next) ring.next
not_kept_by None ring why before bytes h = let same : Err why ≡ Err (NotKept (oldest_in ring.kept ring.next) ring.next) = h.0 in cc
not_kept_by (Some p) ring why before bytes h = absurd (let other : Err why ≡ Ok tt = h.0 in cc)

kept_by : (o : Option Sent) (ring : Ring) (before bytes : List ℕ) → ResendsIt o ring (Ok tt) before bytes → option_map (λ (p : Sent). p.bytes) o ≡ Some bytes
kept_by None ring before bytes h = absurd (let other : Ok tt ≡ Err (NotKept (oldest_in ring.kept ring.next) ring.next) = h.0 in cc)
kept_by (Some p) ring before bytes h = ap Some (sym h.1)

none_kept : (o : Option Sent) (ring : Ring) (why : Refusal) (before bytes : List ℕ) → ResendsIt o ring (Err why) before bytes → option_map (λ (p : Sent). p.bytes) o ≡ None
none_kept None ring why before bytes h = refl
none_kept (Some p) ring why before bytes h = absurd (let other : Err why ≡ Ok tt = h.0 in cc)

same_again : (b : Bundle) (m : Made) (n : ℕ) → IsBundle b m → again_of n m ≡ option_map (λ (p : Sent). p.bytes) (find (λ packet. packet.number == n) b.ring.kept)
same_again b m n is = ap (λ (kept : List Sent). option_map (λ (p : Sent). p.bytes) (find (λ packet. packet.number == n) kept)) (sym is.ring_is.kept)

pub redrawn : (b : Bundle) (m : Made) (n : ℕ) (result : Result (Unit {0}) Refusal) (before bytes : List ℕ) → IsBundle b m → Resends b.ring n result before bytes
    → ((h : History) → IsAfter b.ring h → OnOk result (GaveLately h (record { number = n; bytes = bytes }))) → ((h : History) → IsAfter b.ring h → OnErr result (GaveNoneLately h n))
    → RedrawsTo m n bytes result
redrawn b m n (Ok x) before bytes is resends lately none = (
  lately (ring_history m) is.ring_is,
  same_again b m n is ∙ kept_by (find (λ packet. packet.number == n) b.ring.kept) b.ring before bytes resends,
)
redrawn b m n (Err why) before bytes is resends lately none = (
  not_kept_by (find (λ packet. packet.number == n) b.ring.kept) b.ring why before bytes resends
      ∙ ap₂ (λ (kept : List Sent) (next : ℕ). NotKept (oldest_in kept next) next) is.ring_is.kept is.ring_is.next,
  none (ring_history m) is.ring_is,
  same_again b m n is ∙ none_kept (find (λ packet. packet.number == n) b.ring.kept) b.ring why before bytes resends,
)

-- ---- a buffer is unchanged if nothing is returned

pub draw_keeps : (queue : List (List ℕ)) (old new : Ring) (result : Result ℕ Refusal) (before bytes : List ℕ) → TakesFrom queue old new result before bytes → OnErr result (bytes ≡ before)
draw_keeps [] old new (Ok n) before bytes h = tt
draw_keeps [] old new (Err why) before bytes h = h.2
draw_keeps (p ∷ rest) old new (Ok n) before bytes h = tt
draw_keeps (p ∷ rest) old new (Err why) before bytes h = absurd (let other : Err why ≡ Ok old.next = h.0 in cc)

pub redraw_keeps : (o : Option Sent) (ring : Ring) (result : Result (Unit {0}) Refusal) (before bytes : List ℕ) → ResendsIt o ring result before bytes → OnErr result (bytes ≡ before)
redraw_keeps None ring (Ok x) before bytes h = tt
redraw_keeps None ring (Err why) before bytes h = h.1
redraw_keeps (Some p) ring (Ok x) before bytes h = tt
redraw_keeps (Some p) ring (Err why) before bytes h = absurd (let other : Err why ≡ Ok tt = h.0 in cc)
