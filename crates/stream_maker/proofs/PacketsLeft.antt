-- The packets that remain begin with the next one.
use Rattle.std.proofs.Common.{◌≡◌, ℕ, zero, suc, ◌+◌, ◌-◌, ◌<◌, Bool, true, false, cond, List, [], ◌∷◌, ◌++◌, map, drop, length, refl, sym, ap, ◌∙◌, arith}
use Rattle.std.proofs.lemmas.Bool.{eqb-true}
use Rattle.std.proofs.lemmas.List.{length-map}
use Rattle.std.proofs.Math.Seq.{drop-append_seam}
use Rattle.std.specs.List.{flat_map}
use Rattle.stream_maker.specs.declared.place.Place.{Place}
use Rattle.stream_maker.specs.Packets.{packet_count, numbers, parts_of, parts_from, placed}
use Rattle.stream_maker.specs.Bytes.{ends_frame}
use Rattle.stream_maker.specs.Left.{packets_from, place_after}

drop-numbers : {X : Type 0} (f : ℕ → X) (first count k : ℕ) (rest : List X) → k < count
    → drop k (map f (numbers first count) ++ rest) ≡ f (first + k) ∷ drop (suc k) (map f (numbers first count) ++ rest)
drop-numbers f first zero k rest h = absurd (omega arith)
drop-numbers f first (suc count) zero rest h =
    let e : first ≡ first + 0 = omega arith in
    ap (λ (n : ℕ). f n ∷ (map f (numbers (first + 1) count) ++ rest)) e
drop-numbers f first (suc count) (suc k) rest h =
    let e : first + 1 + k ≡ first + suc k = omega arith in
    drop-numbers f (first + 1) count k rest (omega arith)
    ∙ ap (λ (n : ℕ). f n ∷ drop (suc k) (map f (numbers (first + 1) count) ++ rest)) e

length-numbers : (first count : ℕ) → length (numbers first count) ≡ count
length-numbers first zero = refl
length-numbers first (suc count) = ap suc (length-numbers (first + 1) count)

length-parts_of : (frame : ℕ) → length (parts_of frame) ≡ packet_count frame
unfolding parts_of
length-parts_of frame =
    length-map (numbers 0 (packet_count frame)) (λ (part : ℕ). (frame, part)) ∙ length-numbers 0 (packet_count frame)

-- the parts from a frame on are its own and those of the frames after it
parts_from-frame : (frames frame : ℕ) → frame < frames
    → parts_from frame (frames - frame) ≡ parts_of frame ++ parts_from (frame + 1) (frames - (frame + 1))
unfolding parts_from
parts_from-frame frames frame h =
    let e : frames - frame ≡ suc (frames - (frame + 1)) = omega arith in
    ap (λ (n : ℕ). flat_map parts_of (numbers frame n)) e

drop-parts : (frame part : ℕ) (rest : List (ℕ × ℕ)) → part < packet_count frame
    → drop part (parts_of frame ++ rest) ≡ (frame, part) ∷ drop (suc part) (parts_of frame ++ rest)
unfolding parts_of
drop-parts frame part rest h =
    let f : ℕ → ℕ × ℕ = λ n. (frame, n) in
    let e : 0 + part ≡ part = omega arith in
    drop-numbers f 0 (packet_count frame) part rest h
    ∙ ap (λ (n : ℕ). f n ∷ drop (suc part) (map f (numbers 0 (packet_count frame)) ++ rest)) e

placed-cons : (frame part sequence : ℕ) (rest : List (ℕ × ℕ))
    → placed sequence ((frame, part) ∷ rest)
    ≡ (let p : Place = record { sequence = sequence; frame = frame; part = part } in p) ∷ placed (sequence + 1) rest
unfolding placed
placed-cons frame part sequence rest = refl

-- the parts after a packet, whether it ends its frame or not
behind : (frames : ℕ) (p : Place) (b : Bool) → ends_frame p ≡ b → p.frame < frames → p.part < packet_count p.frame
    → placed (p.sequence + 1) (drop (suc p.part) (parts_from p.frame (frames - p.frame)))
    ≡ packets_from frames (cond b (record { frame = p.frame + 1; part = 0; sequence = p.sequence + 1 }) (record { frame = p.frame; part = p.part + 1; sequence = p.sequence + 1 }))
unfolding packets_from
behind frames p true is h in_frame =
    let same : p.part ≡ packet_count p.frame - 1 = eqb-true p.part (packet_count p.frame - 1) is in
    let count : suc p.part ≡ length (parts_of p.frame) = omega (arith, length-parts_of p.frame) in
    let rest = parts_from (p.frame + 1) (frames - (p.frame + 1)) in
    let split : drop (suc p.part) (parts_from p.frame (frames - p.frame)) ≡ rest =
    ap (drop (suc p.part)) (parts_from-frame frames p.frame h) ∙ ap (λ (n : ℕ). drop n (parts_of p.frame ++ rest)) count
    ∙ drop-append_seam (parts_of p.frame) rest in
    ap (placed (p.sequence + 1)) split
behind frames p false is h in_frame =
    let e : suc p.part ≡ p.part + 1 = omega arith in
    ap (λ (n : ℕ). placed (p.sequence + 1) (drop n (parts_from p.frame (frames - p.frame)))) e

pub packets_from-next : (frames : ℕ) (p : Place) → p.frame < frames → p.part < packet_count p.frame
    → packets_from frames p ≡ p ∷ packets_from frames (place_after p)
unfolding packets_from
packets_from-next frames p h in_frame =
    let all = parts_from p.frame (frames - p.frame) in
    let rest = parts_from (p.frame + 1) (frames - (p.frame + 1)) in
    let split : all ≡ parts_of p.frame ++ rest = parts_from-frame frames p.frame h in
    let first : drop p.part all ≡ (p.frame, p.part) ∷ drop (suc p.part) all =
    ap (drop p.part) split ∙ drop-parts p.frame p.part rest in_frame
    ∙ ap (λ (xs : List (ℕ × ℕ)). (p.frame, p.part) ∷ drop (suc p.part) xs) (sym split) in
    ap (placed p.sequence) first ∙ placed-cons p.frame p.part p.sequence (drop (suc p.part) all)
    ∙ ap (λ (ps : List Place). p ∷ ps) (behind frames p (ends_frame p) refl h in_frame)

-- after the last frame no packet remains
pub packets_from-end : (frames : ℕ) (p : Place) → p.frame ≡ frames → p.part ≡ 0 → packets_from frames p ≡ []
unfolding packets_from parts_from placed
packets_from-end frames p e first =
    let none : frames - p.frame ≡ 0 = omega arith in rw (first, none) refl
