-- A seat's calls, one turn after another.
use Rattle.std.proofs.Common.{◌≡◌, ℕ, ◌+◌, ◌^◌, ◌<◌, ◌≤◌, Bool, false, List, [], ◌∷◌, ◌++◌, length, map, take, get_or, refl, ap, sym, subst, ◌∙◌, inl, inr, arith, append-nil, append_assoc, length-append}
use Rattle.std.proofs.lemmas.List.{map-append, take_more, take_all}
use mathlib.Core.List.{IsPrefix}
use Rattle.sfu_base.specs.declared.call.Call.{Call}
use Rattle.script_texts.specs.declared.journal.Entry as journal
use Rattle.turn_lock.specs.declared.history.Entry.{Entry}
use Rattle.turn_lock.specs.History.{entry, own_of}
use Rattle.turn_lock.specs.Known.{FindsWorn, Fits, KeepsSeat, Known, MakesTurn}
use Rattle.turn_lock.proofs.Lists.{prefix_self, prefix_trans}
use Rattle.sfu_together.specs.Turns.{entries_of}
use Rattle.port_config.specs.declared.actors.turns.Placed.{Placed}
use Rattle.sfu_together.specs.History.{journal_entry_of}
use Rattle.sfu_together.specs.Acting.{Acts, placed, placed_at, turn_of}
use Rattle.port_config.specs.actors.Places.{mine}
use Rattle.sfu_together.proofs.Placing.{mine_turn}

-- the seat has made the first calls, and stored its turns
pub record Turned (o k : Known Call) (calls : List Call) (i : ℕ) (kept : List Placed) : Type 0 where
  pub fits : Fits k
  pub keeps : KeepsSeat o k
  pub goes_on : IsPrefix o.seen k.seen
  pub made : k.own ≡ o.own ++ map (turn_of o.number) (take i calls)
  pub few : length k.own ≡ length o.own + i
  pub reported : mine o.number (placed k.seen) ≡ mine o.number (placed o.seen) ++ kept

pub none_turned : (o : Known Call) (calls : List Call) (kept : List Placed) → kept ≡ [] → Fits o → Turned o o calls 0 kept
none_turned o calls kept none fits = record {
  fits = fits;
  keeps = (refl, refl, refl, refl, refl, omega arith);
  goes_on = prefix_self o.seen;
  made = sym (append-nil o.own);
  few = omega arith;
  reported = sym (ap (λ (l : List Placed). mine o.number (placed o.seen) ++ l) none ∙ append-nil (mine o.number (placed o.seen)));
}

pub one_turned : (o k l : Known Call) (calls : List Call) (i : ℕ) (call : Call) (starved : Bool) (place : ℕ) (kept kept' : List Placed) (said : journal.Entry) (gives : List (Entry Call) → Type 0)
    → MakesTurn k l (entry k.number call starved) place gives → Fits l → starved ≡ false → ((h : List (Entry Call)) → gives h → said ≡ journal_entry_of (entries_of h) o.number call) → o.first ≡ 0
    → i < length calls → call ≡ get_or calls i call → kept' ≡ kept ++ record { place = place; entry = said } ∷ [] → Turned o k calls i kept → Turned o l calls (i + 1) kept'
one_turned o k l calls i call starved place kept kept' said gives turn fits fed reported first low at grown was =
    let n : ℕ = o.number in
    let h : List (Entry Call) = turn.1.0 in
    let e : Entry Call = entry k.number call starved in
    let number : k.number ≡ n = was.keeps.2 in
    let e_is : e ≡ turn_of n call = λ j. entry (number j) call (fed j) in
    let had : own_of n k.seen ≡ k.own = subst (λ (m : ℕ). own_of m k.seen ≡ k.own) number was.fits.own in
    let later : l.number ≡ n = turn.0.2 ∙ number in
    let has : own_of n l.seen ≡ k.own ++ e ∷ [] = subst (λ (m : ℕ). own_of m l.seen ≡ l.own) later fits.own ∙ turn.2 in
    let grew : mine n (placed l.seen) ≡ mine n (placed k.seen) ++ placed_at h e ∷ [] = mine_turn n k.seen h l.seen e k.own turn.1.1 turn.1.2 number had has in
    let base : l.first ≡ 0 = turn.0.1 ∙ (was.keeps.1 ∙ first) in
    let long : length l.seen ≡ length h + 1 = ap length turn.1.2 ∙ length-append h (e ∷ []) in
    let stands : place + 1 ≡ l.first + length l.seen = turn.3 in
    let here : length h ≡ place = omega arith in
    let same : placed_at h e ≡ record { place = place; entry = said } = λ j. record { place = here j; entry = (ap (λ (m : ℕ). journal_entry_of (entries_of h) m call) number ∙ sym (reported h turn.1.3)) j } in
    let more : IsPrefix k.seen l.seen = prefix_trans k.seen h l.seen turn.1.1 (e ∷ [], sym turn.1.2) in
    let found : k.found ≤ l.found = turn.0.5 in
    let before : o.found ≤ k.found = was.keeps.5 in record {
      fits = fits;
      keeps = (turn.0.0 ∙ was.keeps.0, turn.0.1 ∙ was.keeps.1, later, turn.0.3 ∙ was.keeps.3, turn.0.4 ∙ was.keeps.4, omega arith);
      goes_on = prefix_trans o.seen k.seen l.seen was.goes_on more;
      made = turn.2 ∙ ((λ j. was.made j ++ e_is j ∷ [])
          ∙ (append_assoc o.own (map (turn_of n) (take i calls)) (turn_of n call ∷ [])
          ∙ ap (λ (x : List (Entry Call)). o.own ++ x) (sym (map-append (turn_of n) (take i calls) (call ∷ [])) ∙ ap (map (turn_of n)) (ap (λ (x : Call). take i calls ++ x ∷ []) at ∙ sym (take_more calls i call low)))));
      few = ap length turn.2 ∙ (length-append k.own (e ∷ []) ∙ (let f = was.few in omega arith));
      reported = grew ∙ ((λ j. was.reported j ++ same j ∷ []) ∙ (append_assoc (mine n (placed o.seen)) kept (record { place = place; entry = said } ∷ []) ∙ ap (λ (x : List Placed). mine n (placed o.seen) ++ x) (sym grown)));
    }

pub all_turned : (o k : Known Call) (calls : List Call) (i : ℕ) (kept : List Placed) → length calls ≤ i → i ≤ length calls → Turned o k calls i kept → Acts o k calls kept
all_turned o k calls i kept whole within was = record {
  keeps = was.keeps;
  goes_on = was.goes_on;
  made = inl (was.made ∙ ap (λ (x : List Call). o.own ++ map (turn_of o.number) x) (take_all i calls whole));
  few = let f = was.few in omega arith;
  reported = was.reported;
}

-- the seat found all tickets of the lock drawn
pub worn_turned : (o k l : Known Call) (calls : List Call) (i : ℕ) (kept : List Placed) → i ≤ length calls → FindsWorn k l → Turned o k calls i kept → Acts o l calls kept
worn_turned o k l calls i kept within worn was = subst (λ (z : Known Call). Acts o z calls kept) (sym worn.0) (record {
  keeps = (was.keeps.0, was.keeps.1, was.keeps.2, was.keeps.3, was.keeps.4, (let f : o.found ≤ k.found = was.keeps.5 in let low : k.found ≤ 2 ^ 63 = worn.1 in omega arith));
  goes_on = was.goes_on;
  made = inr (omega arith);
  few = (let f = was.few in omega arith);
  reported = was.reported;
})
