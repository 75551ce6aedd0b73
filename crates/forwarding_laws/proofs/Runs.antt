-- The packets of a run that continues, and of one that ends, and how they are read.
use Rattle.std.proofs.Common.{◌≡◌, ◌⊎◌, inl, inr, ◌+◌, ◌%◌, ◌<◌, ℕ, suc, arith, Bool, true, false, List, [], ◌∷◌, ◌++◌, refl, sym, subst, ap, ◌∙◌, cond, true≢false, ◌&&◌, map, not, length}
use Rattle.std.specs.Prelude.{◌==◌, nat_lt}
use Rattle.std.specs.Bool.{beq}
use Rattle.std.proofs.lemmas.Bool.{eqb-true, ltb-true, and_parts}
use Rattle.std.specs.List.{AllByRecursion}
use Rattle.std.specs.declared.option.Option.{Option}
use Rattle.std.specs.declared.option.Option.TheVariants.{None, Some}
use Rattle.forwarding_model.specs.forwarding.Timeline.{Packet, Frame, rest_of}
use Rattle.forwarding_model.specs.frames.Reading.{Descriptor, Format, IsDescriptor, Joins, is_key_start}
use Rattle.forwarding_model.specs.frames.Cuts.{Part, Run, is_next, begun, continued}
use Rattle.forwarding_model.proofs.WholeCuts.{beq-true}
use Rattle.forwarding_model.specs.frames.Frames.{Force, ReadPacket, packet_of, part_of}
use Rattle.forwarding_laws.specs.frames.WholeFrames.{ReadsAs, Continues, AreContinuations}

-- the packets after the first, so far; `now` says whether the last of them left an element open
abbrev pub AreOpen : {S : Type 0} → Format S → S → ℕ → Bool → List (List ℕ) → Bool → Type 0
AreOpen format s number carries [] now = carries ≡ now
AreOpen format s number carries (x ∷ xs) now =
    (d : Descriptor _) × (joins : Joins) × Continues format s number carries x d joins × (d.end ≡ false) × AreOpen format s number joins.carries xs now

open_more : {S : Type 0} (format : Format S) (s : S) (number : ℕ) (carries now : Bool) (xs : List (List ℕ)) (x : List ℕ) (d : Descriptor S) (joins : Joins)
    → AreOpen format s number carries xs now → Continues format s number now x d joins → d.end ≡ false → AreOpen format s number carries (xs ++ x ∷ []) joins.carries
open_more format s number carries now [] x d joins o c l =
    (d, joins, record { reads = c.reads; start = c.start; numbered = c.numbered; continues = c.continues ∙ sym o }, l, refl)
open_more format s number carries now (y ∷ ys) x d joins o c l =
    (o.0, o.1, o.2, o.3, open_more format s number o.1.carries now ys x d joins o.4 c l)

open_ended : {S : Type 0} (format : Format S) (s : S) (number : ℕ) (carries now : Bool) (xs : List (List ℕ)) (x : List ℕ) (d : Descriptor S) (joins : Joins) (count : ℕ)
    → AreOpen format s number carries xs now → Continues format s number now x d joins → d.end ≡ true → joins.carries ≡ false → count + length xs < 512
    → AreContinuations format s number carries count (xs ++ x ∷ [])
open_ended format s number carries now [] x d joins count o c l e fits =
    (d, joins, record { reads = c.reads; start = c.start; numbered = c.numbered; continues = c.continues ∙ sym o }, omega arith, inl (l, e, refl))
open_ended format s number carries now (y ∷ ys) x d joins count o c l e fits =
    (o.0, o.1, o.2, omega arith, inr (o.3, open_ended format s number o.1.carries now ys x d joins (count + 1) o.4 c l e (omega arith)))

-- ---- what is known of a run

abbrev pub joins_of : {X : Type 0} → Part X → Joins
joins_of part = record { continues = part.continues; carries = part.carries }

abbrev pub rests_of : {S : Type 0} → List (Part (ReadPacket S)) → List (List ℕ)
rests_of parts = map rest_of (map packet_of parts)

rests-append : {S : Type 0} (xs : List (Part (ReadPacket S))) (x : Part (ReadPacket S)) → rests_of (xs ++ x ∷ []) ≡ rests_of xs ++ x.brings.packet.rest ∷ []
rests-append [] x = refl
rests-append (y ∷ ys) x = ap (λ l. y.brings.packet.rest ∷ l) (rests-append ys x)

length-rests : {S : Type 0} (xs : List (Part (ReadPacket S))) → length (rests_of xs) ≡ length xs
length-rests [] = refl
length-rests (x ∷ xs) = ap suc (length-rests xs)

abbrev pub AreBelow : {S : Type 0} → ℕ → List (Frame S) → Type 0
AreBelow n frames = AllByRecursion (λ x. x.meaning.number < n) frames

-- the first packet of a run, with this structure in force
pub record IsHead {S : Type 0} (format : Format S) (force : Force S) (s : S) (frames : List (Frame S)) (d : Descriptor S) (joins : Joins) (packet : Packet) : Type 0 where
  pub has : force.structure ≡ Some s
  pub read_with : Option S
  pub valid : IsDescriptor format read_with d
  pub start : d.start ≡ true
  pub continues : joins.continues ≡ false
  pub reads : (now : Option S) → (is_key_start d ≡ true) ⊎ (now ≡ Some s) → ReadsAs format now packet.rest d joins
  pub key_structure : is_key_start d ≡ true → d.structure ≡ Some s
  pub key_number : is_key_start d ≡ true → d.number ≡ force.start % 65536
  pub key_below : is_key_start d ≡ true → AreBelow force.start frames

abbrev pub IsHeadOf : {S : Type 0} → Format S → Force S → S → List (Frame S) → Part (ReadPacket S) → Type 0
IsHeadOf format force s frames first = IsHead format force s frames first.brings.descriptor (joins_of first) first.brings.packet

-- a run that continues
pub record IsOpenRun {S : Type 0} (format : Format S) (force : Force S) (frames : List (Frame S)) (run : Run (ReadPacket S)) : Type 0 where
  pub s : S
  pub head : IsHeadOf format force s frames run.first
  pub numbered : run.first.number ≡ run.first.brings.descriptor.number
  pub first_end : run.first.brings.descriptor.end ≡ false
  pub opens : AreOpen format s run.first.number run.first.carries (rests_of run.more) run.newest.carries

-- the packets of a run that ended, after the first
abbrev pub IsEnded : {S : Type 0} → Format S → S → Run (ReadPacket S) → Type 0
IsEnded format s run =
    ((run.first.brings.descriptor.end ≡ true) × (run.first.carries ≡ false) × (rests_of run.more ≡ []))
    ⊎ ((run.first.brings.descriptor.end ≡ false) × AreContinuations format s run.first.brings.descriptor.number run.first.carries 1 (rests_of run.more))

-- a run that continues or has ended
pub record IsRun {S : Type 0} (format : Format S) (force : Force S) (frames : List (Frame S)) (run : Run (ReadPacket S)) : Type 0 where
  pub s : S
  pub head : IsHeadOf format force s frames run.first
  pub goes_on : run.newest.end ≡ false → IsOpenRun format force frames run
  pub ends : run.newest.end ≡ true → run.newest.carries ≡ false → IsEnded format s run

abbrev pub KeepsRun : {S : Type 0} → Format S → Force S → List (Frame S) → Option (Run (ReadPacket S)) → Type 0
KeepsRun format force frames None = Unit {0}
KeepsRun format force frames (Some run) = IsRun format force frames run

-- the next packet depends only on the open frame
abbrev pub KeepsOpen : {S : Type 0} → Format S → Force S → List (Frame S) → Option (Run (ReadPacket S)) → Type 0
KeepsOpen format force frames None = Unit {0}
KeepsOpen format force frames (Some run) = run.newest.end ≡ false → IsOpenRun format force frames run

pub open_of : {S : Type 0} (format : Format S) (force : Force S) (frames : List (Frame S)) (o : Option (Run (ReadPacket S))) → KeepsRun format force frames o → KeepsOpen format force frames o
open_of format force frames None k = tt
open_of format force frames (Some run) k = k.goes_on

-- ---- a part that continues, and one that begins

pub continued_run : {S : Type 0} (format : Format S) (force : Force S) (frames : List (Frame S)) (o : Option (Run (ReadPacket S))) (d : Descriptor S) (joins : Joins) (packet : Packet)
    → KeepsOpen format force frames o → d.start ≡ false → ((s : S) → force.structure ≡ Some s → ReadsAs format (Some s) packet.rest d joins)
    → KeepsRun format force frames (continued o (part_of d joins packet))
continued_run format force frames None d joins packet k st reads = tt
continued_run {S} format force frames (Some run) d joins packet k st reads = go (is_next run (part_of d joins packet)) refl
  where
    part : Part (ReadPacket S)
    part = part_of d joins packet

    next : Run (ReadPacket S)
    next = record { first = run.first; more = run.more ++ part ∷ []; newest = part }

    taken : not run.newest.end ≡ true → d.number ≡ run.first.number → joins.continues ≡ run.newest.carries → length run.more + 1 < 512 → IsRun format force frames next
    taken opened number join fits =
        let old : IsOpenRun format force frames run = k (not_end run.newest.end opened) in
        let c : Continues format old.s run.first.number run.newest.carries packet.rest d joins
        = record { reads = reads old.s old.head.has; start = st; numbered = number; continues = join } in
        record {
          s = old.s;
          head = old.head;
          goes_on = λ l. record {
            s = old.s;
            head = old.head;
            numbered = old.numbered;
            first_end = old.first_end;
            opens = subst (λ xs. AreOpen format old.s run.first.number run.first.carries xs joins.carries) (sym (rests-append run.more part))
                (open_more format old.s run.first.number run.first.carries run.newest.carries (rests_of run.more) packet.rest d joins old.opens c l);
          };
          ends = λ l e. inr (
            old.first_end,
            subst (λ n. AreContinuations format old.s n run.first.carries 1 (rests_of next.more)) old.numbered
                (subst (AreContinuations format old.s run.first.number run.first.carries 1) (sym (rests-append run.more part))
                (open_ended format old.s run.first.number run.first.carries run.newest.carries (rests_of run.more) packet.rest d joins 1 old.opens c l e
                (omega (arith, fits, length-rests run.more)))),
          );
        }
      where
        not_end : (b : Bool) → not b ≡ true → b ≡ false
        not_end false h = refl
        not_end true h = absurd (true≢false (sym h))

    go : (b : Bool) → is_next run part ≡ b → KeepsRun format force frames (cond b (Some next) None)
    go false e = tt
    go true e =
        let a = and_parts (not run.newest.end) _ e in
        let b = and_parts (d.number == run.first.number) (beq joins.continues run.newest.carries && nat_lt (length run.more + 1) 512) a.1 in
        let c = and_parts (beq joins.continues run.newest.carries) (nat_lt (length run.more + 1) 512) b.1 in
        taken a.0 (eqb-true d.number run.first.number b.0) (beq-true joins.continues run.newest.carries c.0) (ltb-true _ _ c.1)

pub begun_run : {S : Type 0} (format : Format S) (force : Force S) (frames : List (Frame S)) (d : Descriptor S) (joins : Joins) (packet : Packet) (s : S)
    → (joins.continues ≡ false → IsHead format force s frames d joins packet)
    → KeepsRun format force frames (begun (part_of d joins packet))
begun_run {S} format force frames d joins packet s head = go joins.continues refl
  where
    part : Part (ReadPacket S)
    part = part_of d joins packet

    go : (b : Bool) → joins.continues ≡ b → KeepsRun format force frames (cond b None (Some (record { first = part; more = []; newest = part })))
    go true e = tt
    go false e =
        record {
          s = s;
          head = head e;
          goes_on = λ l. record { s = s; head = head e; numbered = refl; first_end = l; opens = refl };
          ends = λ l c. inl (l, c, refl);
        }
