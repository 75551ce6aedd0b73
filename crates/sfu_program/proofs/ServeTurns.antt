-- The turns of seat 0 before there is any other seat: its history has only its own calls.
use Rattle.std.proofs.Common.{◌≡◌, ◌^◌, ℕ, Bool, false, cond, List, [], ◌∷◌, ◌++◌, map, refl, sym, ap, subst, ◌∙◌, arith, eq-eqb, append-nil, append_assoc}
use Rattle.std.proofs.lemmas.List.{append_cancel_right, map-append}
use Rattle.atomic_table.specs.Seated.{TableId}
use Rattle.sfu_base.specs.declared.call.Call.{Call}
use Rattle.room_core.specs.History.{Entry as RoomEntry}
use Rattle.turn_lock.specs.declared.history.Entry.{Entry}
use Rattle.turn_lock.specs.History.{AllBelow, entry, own_of}
use Rattle.turn_lock.specs.Known.{FindsWorn, Fits, Known, MakesTurn}
use Rattle.sfu_serve.specs.History.{entries_of}
use Rattle.script_run.specs.Run.{entry_of, reply_line, run_text}
use Rattle.sfu_program.specs.ServeOpening.{HasMade, first_text, made_first, next_line}

-- a history with only seat 0 is that seat's own list
own_whole : (h : List (Entry Call)) → AllBelow 1 h → own_of 0 h ≡ h
own_whole [] low = refl
own_whole (e ∷ es) low =
    let k = low.0 in
    let z : e.seat ≡ 0 = omega arith in
    ap (λ (b : Bool). cond b (e ∷ own_of 0 es) (own_of 0 es)) (eq-eqb e.seat 0 z) ∙ ap (λ (l : List (Entry Call)). e ∷ l) (own_whole es low.1)

-- if seat 0 is the only one, it has seen only its own entries
own_seen : (k : Known Call) → Fits k → k.number ≡ 0 → k.count ≡ 1 → k.seen ≡ k.own
own_seen k fits number count =
    let low : AllBelow 1 k.seen = subst (λ (n : ℕ). AllBelow n k.seen) count (fits.below number) in
    sym (own_whole k.seen low) ∙ (ap (λ (n : ℕ). own_of n k.seen) (sym number) ∙ fits.own)

made_more : (calls : List Call) (call : Call) → made_first (calls ++ call ∷ []) ≡ made_first calls ++ entry 0 call false ∷ []
made_more calls call = map-append (λ c. entry 0 c false) calls (call ∷ [])

-- the room's entries of these turns
pub entries_made : (calls : List Call) → entries_of (made_first calls) ≡ map entry_of calls
entries_made [] = refl
entries_made (c ∷ cs) = ap (λ (l : List RoomEntry). entry_of c ∷ l) (entries_made cs)

module _ (lock : TableId) (calls : List Call) (k l : Known Call) (fits : Fits k) (fits' : Fits l) (made : HasMade lock calls k) where
  own_made : k.own ≡ made_first calls
  own_made = sym (own_seen k fits made.number_is made.count_is) ∙ made.seen_is

  module _ (call : Call) (starved : Bool) (place : ℕ) (gives : List (Entry Call) → Type 0) (turn : MakesTurn k l (entry k.number call starved) place gives) (fed : starved ≡ false) where
    same_entry : entry k.number call starved ≡ entry 0 call false
    same_entry = λ i. record { seat = made.number_is i; call = call; starved = fed i }

    seen_made : l.seen ≡ made_first calls ++ entry k.number call starved ∷ []
    seen_made = own_seen l fits' (turn.0.2 ∙ made.number_is) (turn.0.3 ∙ made.count_is) ∙ (turn.2 ∙ ap (λ (own : List (Entry Call)). own ++ entry k.number call starved ∷ []) own_made)

    -- the seat made one more call
    pub made_one : HasMade lock (calls ++ call ∷ []) l
    made_one = record {
      lock_is = turn.0.0 ∙ made.lock_is;
      first_is = turn.0.1 ∙ made.first_is;
      number_is = turn.0.2 ∙ made.number_is;
      count_is = turn.0.3 ∙ made.count_is;
      none_joined = turn.0.4 ∙ made.none_joined;
      seen_is = seen_made ∙ (ap (λ (e : Entry Call). made_first calls ++ e ∷ []) same_entry ∙ sym (made_more calls call));
    }

    -- the reply is the one after these calls
    pub given : gives (made_first calls)
    given =
        let same : turn.1.0 ≡ made_first calls = append_cancel_right turn.1.0 (made_first calls) (entry k.number call starved ∷ []) (sym turn.1.2 ∙ seen_made) in
        subst gives same turn.1.3

-- the seat found all tickets of the lock drawn
pub worn_made : (lock : TableId) (calls : List Call) (k l : Known Call) → HasMade lock calls k → FindsWorn k l → HasMade lock calls l × (l.found ≡ 2 ^ 63)
worn_made lock calls k l made worn = (
  record {
    lock_is = ap (λ (x : Known Call). x.lock) worn.0 ∙ made.lock_is;
    first_is = ap (λ (x : Known Call). x.first) worn.0 ∙ made.first_is;
    number_is = ap (λ (x : Known Call). x.number) worn.0 ∙ made.number_is;
    count_is = ap (λ (x : Known Call). x.count) worn.0 ∙ made.count_is;
    none_joined = ap (λ (x : Known Call). x.joined) worn.0 ∙ made.none_joined;
    seen_is = ap (λ (x : Known Call). x.seen) worn.0 ∙ made.seen_is;
  },
  ap (λ (x : Known Call). x.found) worn.0,
)

-- ---- texts

text_more : (calls : List Call) (call : Call) (h : List RoomEntry) → run_text (calls ++ call ∷ []) h ≡ run_text calls h ++ reply_line (h ++ map entry_of calls) call
text_more [] call h = append-nil (reply_line h call) ∙ ap (λ (past : List RoomEntry). reply_line past call) (sym (append-nil h))
text_more (c ∷ cs) call h =
    ap (λ (text : List ℕ). reply_line h c ++ text) (text_more cs call (h ++ entry_of c ∷ []) ∙ ap (λ (past : List RoomEntry). run_text cs (h ++ entry_of c ∷ []) ++ reply_line past call) (append_assoc h (entry_of c ∷ []) (map entry_of cs)))
    ∙ sym (append_assoc (reply_line h c) (run_text cs (h ++ entry_of c ∷ [])) (reply_line (h ++ map entry_of (c ∷ cs)) call))

-- one more line is due for one more call
pub first_more : (calls : List Call) (call : Call) → first_text (calls ++ call ∷ []) ≡ first_text calls ++ next_line calls call
first_more calls call = text_more calls call []
