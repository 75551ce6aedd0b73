-- Encoded items are read back, whatever follows them, and items that were read had this encoding: from single items to the whole.
use Rattle.std.proofs.Common.{◌≡◌, ℕ, zero, suc, ◌≤◌, Bool, true, false, cond, List, [], ◌∷◌, ◌++◌, length, Option, Some, None, Result, Ok, Err, refl, sym, ap, subst, ◌∙◌, append_assoc, ◌⊎◌, inl, inr, arith}
use Rattle.std.specs.List.{flat_map, AllByRecursion}
use Rattle.dd_bits.specs.Sequences.{◌>>=◌, or_fault, repeat_at, until_at, going_on, until_spelled, EachAfter}

-- ---- one step after another

pub bind_ok : {A B E : Type 0} (r : Result A E) (f : A → Result B E) (y : B) → (r >>= f) ≡ Ok y → (x : A) × (r ≡ Ok x) × (f x ≡ Ok y)
bind_ok (Ok x) f y e = (x, refl, e)
bind_ok (Err d) f y e = absurd cc

-- the same for the parts that follow, which is cheaper if many steps follow each other
pub bind_then : {A B E Q : Type 0} (r : Result A E) (f : A → Result B E) (y : B) → (r >>= f) ≡ Ok y → ((x : A) → r ≡ Ok x → f x ≡ Ok y → Q) → Q
bind_then (Ok x) f y e go = go x refl e
bind_then (Err d) f y e go = absurd cc

pub bind_is : {A B E : Type 0} (r : Result A E) (f : A → Result B E) (x : A) (y : Result B E) → r ≡ Ok x → f x ≡ y → (r >>= f) ≡ y
bind_is r f x y e h = rw e h

-- the case that was chosen
pub chosen : {A : Type 0} (b : Bool) (x y z : A) → cond b x y ≡ z → ((b ≡ true) × (x ≡ z)) ⊎ ((b ≡ false) × (y ≡ z))
chosen true x y z e = inl (refl, e)
chosen false x y z e = inr (refl, e)

abbrev pub done : {A E : Type 0} → A → Result A E
done x = Ok x

pub ok_is : {A E : Type 0} (x y : A) → done {E = E} x ≡ done y → x ≡ y
ok_is x y e = cc

abbrev pub given : {A : Type 0} → A → Option A
given x = Some x

pub some_is : {A : Type 0} (x y : A) → given x ≡ given y → x ≡ y
some_is x y e = cc

pub or_fault_ok : {A E : Type 0} (e : E) (o : Option A) (x : A) → or_fault e o ≡ Ok x → o ≡ Some x
or_fault_ok e None x h = absurd cc
or_fault_ok {E = E} e (Some y) x h = ap given (ok_is {E = E} y x h)

-- ---- what is encoded is read back

pub repeat_again : {A E T : Type 0} (P : A → Type 0) (item : List T → Result (A × List T) E) (spell : A → List T) → ((x : A) (rest : List T) → P x → item (spell x ++ rest) ≡ Ok (x, rest))
    → (xs : List A) (rest : List T) → AllByRecursion P xs → repeat_at item (length xs) (flat_map spell xs ++ rest) ≡ Ok (xs, rest)
unfolding repeat_at
repeat_again P item spell each [] rest all = refl
repeat_again P item spell each (x ∷ xs) rest all =
    ap (repeat_at item (suc (length xs))) (append_assoc (spell x) (flat_map spell xs) rest) ∙ rw (each x (flat_map spell xs ++ rest) all.0, repeat_again P item spell each xs rest all.1) refl

-- n items
pub row_again : {A E T : Type 0} (P : A → Type 0) (item : List T → Result (A × List T) E) (spell : A → List T) → ((x : A) (rest : List T) → P x → item (spell x ++ rest) ≡ Ok (x, rest))
    → (n : ℕ) (xs : List A) (rest : List T) → (length xs ≡ n) × AllByRecursion P xs → repeat_at item n (flat_map spell xs ++ rest) ≡ Ok (xs, rest)
row_again P item spell each n xs rest h = ap (λ (n : ℕ). repeat_at item n (flat_map spell xs ++ rest)) (sym h.0) ∙ repeat_again P item spell each xs rest h.1

pub until_again : {A E T : Type 0} (R : A → A → Type 0) (next : A → List T → Result (Option A × List T) E) (full : E) (step : A → A → List T) (mark : List T)
    → ((before x : A) (rest : List T) → R before x → next before (step before x ++ rest) ≡ Ok (Some x, rest)) → ((before : A) (rest : List T) → next before (mark ++ rest) ≡ Ok (None, rest))
    → (capacity : ℕ) (before : A) (xs : List A) (rest : List T) → length xs ≤ capacity → EachAfter R before xs → until_at next full capacity before (until_spelled step mark before xs ++ rest) ≡ Ok (xs, rest)
unfolding until_at
until_again R next full step mark each ends zero before [] rest few steps = rw (ends before rest) refl
until_again R next full step mark each ends (suc capacity) before [] rest few steps = rw (ends before rest) refl
until_again R next full step mark each ends zero before (x ∷ xs) rest few steps = absurd (omega arith)
until_again R next full step mark each ends (suc capacity) before (x ∷ xs) rest few steps =
    ap (until_at next full (suc capacity) before) (append_assoc (step before x) (until_spelled step mark x xs) rest)
    ∙ rw (each before x (until_spelled step mark x xs ++ rest) steps.0, until_again R next full step mark each ends capacity x xs rest (omega arith) steps.1) refl

-- ---- what was read had this encoding

-- P holds for x, and the input was the bits or bytes of x and then the rest
abbrev pub Takes : {A T : Type 0} → (A → Type 0) → (A → List T) → List T → A × List T → Type 0
Takes P spell input x = P x.0 × (input ≡ spell x.0 ++ x.1)

abbrev pub TakesRow : {A T : Type 0} → (A → Type 0) → (A → List T) → ℕ → List T → List A × List T → Type 0
TakesRow P spell n input ys = (length ys.0 ≡ n) × AllByRecursion P ys.0 × (input ≡ flat_map spell ys.0 ++ ys.1)

pub repeat_found : {A E T : Type 0} (P : A → Type 0) (item : List T → Result (A × List T) E) (spell : A → List T) → ((input : List T) (x : A × List T) → item input ≡ Ok x → Takes P spell input x)
    → (n : ℕ) (input : List T) (ys : List A × List T) → repeat_at item n input ≡ Ok ys → TakesRow P spell n input ys
unfolding repeat_at
repeat_found {A = A} {E = E} {T = T} P item spell each zero input ys e = subst (λ (y : List A × List T). TakesRow P spell 0 input y) (ok_is {E = E} ([], input) ys e) (refl, tt, refl)
repeat_found {A = A} {E = E} {T = T} P item spell each (suc n) input ys e =
    let a = bind_ok (item input) (λ first. repeat_at item n first.1 >>= λ others. Ok (first.0 ∷ others.0, others.1)) ys e in
    let b = bind_ok (repeat_at item n a.0.1) (λ others. Ok (a.0.0 ∷ others.0, others.1)) ys a.2 in
    let here = each input a.0 a.1 in
    let all = repeat_found P item spell each n a.0.1 b.0 b.1 in
    subst (λ (y : List A × List T). TakesRow P spell (suc n) input y) (ok_is {E = E} (a.0.0 ∷ b.0.0, b.0.1) ys b.2)
    (ap suc all.0, (here.0, all.1), here.1 ∙ ap (λ (t : List T). spell a.0.0 ++ t) all.2 ∙ sym (append_assoc (spell a.0.0) (flat_map spell b.0.0) b.0.1))

abbrev pub TakesUntil : {A T : Type 0} → (A → A → Type 0) → (A → A → List T) → List T → ℕ → A → List T → List A × List T → Type 0
TakesUntil R step mark capacity before input ys = EachAfter R before ys.0 × (length ys.0 ≤ capacity) × (input ≡ until_spelled step mark before ys.0 ++ ys.1)

until_end : {A E T : Type 0} (R : A → A → Type 0) (step : A → A → List T) (mark : List T) (before : A) (full : E) (input : List T) (o : Option A × List T) (ys : List A × List T)
    → ((rest : List T) → o ≡ (None, rest) → input ≡ mark ++ rest) → going_on {E = E} (λ x rest. Err full) o ≡ Ok ys → TakesUntil R step mark 0 before input ys
until_end {A = A} {E = E} {T = T} R step mark before full input (None, rest) ys ends e = subst (λ (y : List A × List T). TakesUntil R step mark 0 before input y) (ok_is {E = E} ([], rest) ys e) (tt, omega arith, ends rest refl)
until_end R step mark before full input (Some x, rest) ys ends e = absurd cc

until_went : {A E T : Type 0} (R : A → A → Type 0) (step : A → A → List T) (mark : List T) (capacity : ℕ) (before : A) (input : List T) (more : A → List T → Result (List A × List T) E)
    → ((x : A) (rest : List T) (zs : List A × List T) → more x rest ≡ Ok zs → TakesUntil R step mark capacity x rest zs)
    → (o : Option A × List T) (ys : List A × List T) → ((x : A) (rest : List T) → o ≡ (Some x, rest) → R before x × (input ≡ step before x ++ rest)) → ((rest : List T) → o ≡ (None, rest) → input ≡ mark ++ rest)
    → going_on more o ≡ Ok ys → TakesUntil R step mark (suc capacity) before input ys
until_went {A = A} {E = E} {T = T} R step mark capacity before input more ih (None, rest) ys here ends e =
    subst (λ (y : List A × List T). TakesUntil R step mark (suc capacity) before input y) (ok_is {E = E} ([], rest) ys e) (tt, omega arith, ends rest refl)
until_went {A = A} {E = E} {T = T} R step mark capacity before input more ih (Some x, rest) ys here ends e =
    let b = bind_ok (more x rest) (λ others. Ok (x ∷ others.0, others.1)) ys e in
    let all = ih x rest b.0 b.1 in
    let first = here x rest refl in
    subst (λ (y : List A × List T). TakesUntil R step mark (suc capacity) before input y) (ok_is {E = E} (x ∷ b.0.0, b.0.1) ys b.2)
    ((first.0, all.0), omega (arith, all.1), first.1 ∙ ap (λ (t : List T). step before x ++ t) all.2 ∙ sym (append_assoc (step before x) (until_spelled step mark x b.0.0) b.0.1))

pub until_found : {A E T : Type 0} (R : A → A → Type 0) (next : A → List T → Result (Option A × List T) E) (full : E) (step : A → A → List T) (mark : List T)
    → ((before x : A) (input rest : List T) → next before input ≡ Ok (Some x, rest) → R before x × (input ≡ step before x ++ rest)) → ((before : A) (input rest : List T) → next before input ≡ Ok (None, rest) → input ≡ mark ++ rest)
    → (capacity : ℕ) (before : A) (input : List T) (ys : List A × List T) → until_at next full capacity before input ≡ Ok ys → TakesUntil R step mark capacity before input ys
unfolding until_at
until_found {A = A} {E = E} {T = T} R next full step mark each ends zero before input ys e =
    let a = bind_ok (next before input) (going_on (λ x rest. Err full)) ys e in
    until_end R step mark before full input a.0 ys (λ rest is. ends before input rest (a.1 ∙ ap (λ (o : Option A × List T). done {E = E} o) is)) a.2
until_found {A = A} {E = E} {T = T} R next full step mark each ends (suc capacity) before input ys e =
    let a = bind_ok (next before input) (going_on (until_at next full capacity)) ys e in
    until_went R step mark capacity before input (until_at next full capacity) (λ x rest zs h. until_found R next full step mark each ends capacity x rest zs h) a.0 ys (λ x rest is. each before x input rest (a.1 ∙ ap (λ (o : Option A × List T). done {E = E} o) is))
    (λ rest is. ends before input rest (a.1 ∙ ap (λ (o : Option A × List T). done {E = E} o) is)) a.2

-- ---- items that don't depend on the one before them

pub until_spelled-flat_map : {A T : Type 0} (spell : A → List T) (mark : List T) (before : A) (xs : List A) → until_spelled (λ before x. spell x) mark before xs ≡ flat_map spell xs ++ mark
until_spelled-flat_map spell mark before [] = refl
until_spelled-flat_map {T = T} spell mark before (x ∷ xs) = ap (λ (t : List T). spell x ++ t) (until_spelled-flat_map spell mark x xs) ∙ sym (append_assoc (spell x) (flat_map spell xs) mark)

pub each_after_all : {A : Type 0} (P : A → Type 0) (before : A) (xs : List A) → AllByRecursion P xs → EachAfter (λ before x. P x) before xs
each_after_all P before [] all = tt
each_after_all P before (x ∷ xs) all = (all.0, each_after_all P x xs all.1)

pub all_from_each_after : {A : Type 0} (P : A → Type 0) (before : A) (xs : List A) → EachAfter (λ before x. P x) before xs → AllByRecursion P xs
all_from_each_after P before [] each = tt
all_from_each_after P before (x ∷ xs) each = (each.0, all_from_each_after P x xs each.1)
