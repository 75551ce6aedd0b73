-- The text that was written is a prefix of a longer text.
use Rattle.std.proofs.Common.{◌≡◌, ◌≤◌, ℕ, ◌⊎◌, inl, inr, refl, List, [], ◌++◌, sym, ap, ◌∙◌, subst, arith, Option, Result, Ok, Err, append_assoc, append-nil, length-append}
use Rattle.std.specs.Prelude.{OnErr, OnOk}
use Rattle.std.specs.Io.KnownBytes.{Appends}
use Rattle.std.proofs.KnownBytes.{Appends-trans}
use Rattle.sfu_base.specs.Faults.{Rose}
use Rattle.sfu_driver.specs.Drive.{WritesEnd, WritesFront, WritesPart}

pub front_longer : (w w' : Option (List ℕ)) (xs ys : List ℕ) → WritesFront w w' xs → WritesFront w w' (xs ++ ys)
front_longer w w' xs ys part = (part.0, part.1 ++ ys, part.2, ap (λ (zs : List ℕ). zs ++ ys) part.3 ∙ append_assoc part.0 part.1 ys)

-- all of a text is a prefix of it
pub front_all : (w w' : Option (List ℕ)) (xs : List ℕ) → Appends w w' xs → WritesFront w w' xs
front_all w w' xs wrote = (xs, [], wrote, sym (append-nil xs))

-- ---- a strict prefix

pub part_longer : (w w' : Option (List ℕ)) (xs ys : List ℕ) → WritesPart w w' xs → WritesPart w w' (xs ++ ys)
part_longer w w' xs ys part = record {
  text = part.text;
  more = part.more ++ ys;
  wrote = part.wrote;
  split = ap (λ (zs : List ℕ). zs ++ ys) part.split ∙ append_assoc part.text part.more ys;
  missing = let some = part.missing in omega (arith, length-append part.more ys);
}

pub part_after : (w w1 w2 : Option (List ℕ)) (xs ys : List ℕ) → Appends w w1 xs → WritesPart w1 w2 ys → WritesPart w w2 (xs ++ ys)
part_after w w1 w2 xs ys wrote part = record {
  text = xs ++ part.text;
  more = part.more;
  wrote = Appends-trans w w1 w2 xs part.text wrote part.wrote;
  split = ap (λ (zs : List ℕ). xs ++ zs) part.split ∙ sym (append_assoc xs part.text part.more);
  missing = part.missing;
}

pub part_front : (w w' : Option (List ℕ)) (xs : List ℕ) → WritesPart w w' xs → WritesFront w w' xs
part_front w w' xs part = (part.text, part.more, part.wrote, part.split)

-- ---- a text, and then a last text

-- a count that rose in one of two calls rose over both together
pub rose_since : (a b c : ℕ) → a ≤ b → Rose b c → Rose a c
rose_since a b c le rose = omega arith

rose_or : (P : Type 0) (a b c : ℕ) → a ≤ b → Rose b c ⊎ P → Rose a c ⊎ P
rose_or P a b c le (inl rose) = inl (rose_since a b c le rose)
rose_or P a b c le (inr p) = inr p

pub end_after : (w w1 w2 : Option (List ℕ)) (f0 f1 f2 : ℕ) (xs ys last : List ℕ) → f0 ≤ f1 → Appends w w1 xs → WritesEnd w1 w2 f1 f2 ys last → WritesEnd w w2 f0 f2 (xs ++ ys) last
end_after w w1 w2 f0 f1 f2 xs ys last le wrote end = record {
  front = end.front;
  more = end.more;
  wrote = subst (Appends w w2) (sym (append_assoc xs ys end.front)) (Appends-trans w w1 w2 xs (ys ++ end.front) wrote end.wrote);
  split = end.split;
  whole = rose_or (end.more ≡ []) f0 f1 f2 le end.whole;
}

pub end_front : (w w' : Option (List ℕ)) (f f' : ℕ) (text last : List ℕ) → WritesEnd w w' f f' text last → WritesFront w w' (text ++ last)
end_front w w' f f' text last end =
    (text ++ end.front, end.more, end.wrote, ap (λ (xs : List ℕ). text ++ xs) end.split ∙ sym (append_assoc text end.front end.more))

-- only a last text
pub end_alone : {E : Type 0} (w w' : Option (List ℕ)) (f f' : ℕ) (last : List ℕ) (result : Result (Unit {0}) E) → OnOk result (Appends w w' last) → OnErr result (WritesPart w w' last) → OnErr result (Rose f f') → WritesEnd w w' f f' [] last
end_alone w w' f f' last (Ok x) wrote part rose = record { front = last; more = []; wrote = wrote; split = sym (append-nil last); whole = inr refl }
end_alone w w' f f' last (Err e) wrote part rose = record { front = part.text; more = part.more; wrote = part.wrote; split = part.split; whole = inl rose }

-- a text, and then a last text
pub end_behind : {E : Type 0} (w w1 w2 : Option (List ℕ)) (f0 f1 f2 : ℕ) (text last : List ℕ) (result : Result (Unit {0}) E) → f0 ≤ f1 → Appends w w1 text
    → OnOk result (Appends w1 w2 last) → OnErr result (WritesPart w1 w2 last) → OnErr result (Rose f1 f2) → WritesEnd w w2 f0 f2 text last
end_behind w w1 w2 f0 f1 f2 text last result le first wrote part rose =
    subst (λ (xs : List ℕ). WritesEnd w w2 f0 f2 xs last) (append-nil text) (end_after w w1 w2 f0 f1 f2 text [] last le first (end_alone w1 w2 f1 f2 last result wrote part rose))
