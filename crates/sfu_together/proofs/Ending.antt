-- From the seats' own contracts to the one history of a script, and to its journal.
use Rattle.std.proofs.Common.{◌≡◌, ℕ, zero, suc, ◌+◌, ◌-◌, ◌*◌, ◌^◌, ◌<◌, ◌≤◌, List, [], ◌∷◌, ◌++◌, length, map, refl, ap, sym, subst, ◌∙◌, ⊎_elim, arith, append-nil, append_assoc}
use Rattle.std.specs.Prelude.{IsPermutation, sum_by}
use Rattle.std.proofs.lemmas.List.{append_cancel_left, map-append}
use Rattle.std.proofs.lemmas.List.Sorted.{IsPermutation-append_comm, IsPermutation-append_right, IsPermutation-trans}
use mathlib.Core.List.{IsPrefix}
use mathlib.Core.Option.{some, some-injective}
use lib.ListN.{get_elem?}
use Rattle.atomic_table.specs.Seated.{TableId}
use Rattle.atomic_table.proofs.Lists.{at_map}
use Rattle.sfu_base.specs.declared.call.Call.{Call}
use Rattle.script_texts.specs.declared.journal.Actors.{Actors}
use Rattle.script_texts.specs.declared.journal.Entry as journal
use Rattle.room_core.specs.WellFormed.{AreWellFormed}
use Rattle.room_core.proofs.Promising.{headline}
use Rattle.room_core.specs.History.{Entry as RoomEntry, accepted}
use Rattle.turn_lock.specs.declared.history.Entry.{Entry}
use Rattle.turn_lock.specs.declared.history.Joined.{Joined}
use Rattle.turn_lock.specs.History.{AllBelow, own_of}
use Rattle.turn_lock.specs.Known.{AllJoinedIn, Fits, Known, opened}
use Rattle.turn_lock.proofs.Lists.{prefix_trans, there}
use Rattle.turn_lock.proofs.Histories.{below_left, below_more, own_above, own_append}
use Rattle.sfu_together.specs.Turns.{entries_of, entry_of}
use Rattle.port_config.specs.declared.actors.turns.Placed.{Placed}
use Rattle.sfu_together.specs.declared.cast.Done.{Done}
use Rattle.sfu_together.specs.History.{IsJournal, IsMadeBy, made_by}
use Rattle.port_config.specs.actors.Counts.{count_of}
use Rattle.sfu_together.specs.Acting.{Acts, AreDone, HasJoined, counting, joined_as, kept_by, placed, turn_of}
use Rattle.port_config.specs.actors.Places.{AtPlaces, mine}
use Rattle.sfu_together.proofs.Counting.{few}
use Rattle.sfu_together.proofs.Histories.{made_entries, no_first, no_longer, only_first, own_entries, own_whole}
use Rattle.sfu_together.proofs.Placing.{all_at_places, journal_placed, mine_none, mine_same, nothing, placed_below}
use Rattle.port_config.proofs.Sorting.{parts, parts_all}

below_right : (n : ℕ) (xs ys : List (Entry Call)) → AllBelow n (xs ++ ys) → AllBelow n ys
below_right n [] ys low = low
below_right n (x ∷ xs) ys low = below_right n xs ys low.1

-- The facts before the lock is closed: about the first seat after the opening part, after the joins, and after the closing part.
pub record Ended (lock : TableId) (script : Actors) (root joined last : Known Call) (dones : List Done) (first_kept last_kept : List Placed) : Type 0 where
  pub opening : Acts (opened lock 0) root script.opening first_kept
  pub root_fits : Fits root
  pub done : AreDone root script.actors dones
  pub eight : length dones ≡ 8
  pub joins : HasJoined (counting root 9) dones joined
  pub joined_fits : Fits joined
  pub closing : Acts joined last script.closing last_kept
  pub last_fits : Fits last
  pub small : count_of script ≤ 100000

module _ {lock : TableId} {script : Actors} {root joined last : Known Call} {dones : List Done} {first_kept last_kept : List Placed} where
  root_below : Ended lock script root joined last dones first_kept last_kept → AllBelow 1 root.seen
  root_below e = let k = e.opening.keeps in subst (λ (n : ℕ). AllBelow n root.seen) k.3 (e.root_fits.below k.2)

  root_whole : Ended lock script root joined last dones first_kept last_kept → root.seen ≡ root.own
  root_whole e = let k = e.opening.keeps in sym (own_whole root.seen (root_below e)) ∙ subst (λ (n : ℕ). own_of n root.seen ≡ root.own) k.2 e.root_fits.own

  root_none : Ended lock script root joined last dones first_kept last_kept → (n : ℕ) → 0 < n → own_of n root.seen ≡ []
  root_none e n pos = own_above n root.seen (below_more 1 n root.seen pos (root_below e))

  joined_number : Ended lock script root joined last dones first_kept last_kept → joined.number ≡ 0
  joined_number e = e.joins.number ∙ e.opening.keeps.2

  joined_first : Ended lock script root joined last dones first_kept last_kept → joined.first ≡ 0
  joined_first e = e.joins.first ∙ e.opening.keeps.1

  joined_list : Ended lock script root joined last dones first_kept last_kept → joined.joined ≡ map joined_as dones
  joined_list e = e.joins.joined ∙ ap (λ (l : List (Joined Call)). l ++ map joined_as dones) e.opening.keeps.4

  last_number : Ended lock script root joined last dones first_kept last_kept → last.number ≡ 0
  last_number e = e.closing.keeps.2 ∙ joined_number e

  last_count : Ended lock script root joined last dones first_kept last_kept → last.count ≡ 9
  last_count e = e.closing.keeps.3 ∙ e.joins.count

  last_list : Ended lock script root joined last dones first_kept last_kept → last.joined ≡ map joined_as dones
  last_list e = e.closing.keeps.4 ∙ joined_list e

  last_below : Ended lock script root joined last dones first_kept last_kept → AllBelow 9 last.seen
  last_below e = subst (λ (n : ℕ). AllBelow n last.seen) (last_count e) (e.last_fits.below (last_number e))

  joined_own : Ended lock script root joined last dones first_kept last_kept → own_of 0 joined.seen ≡ root.own
  joined_own e = subst (λ (n : ℕ). own_of n joined.seen ≡ joined.own) (joined_number e) e.joined_fits.own ∙ e.joins.own

  last_own : Ended lock script root joined last dones first_kept last_kept → own_of 0 last.seen ≡ last.own
  last_own e = subst (λ (n : ℕ). own_of n last.seen ≡ last.own) (last_number e) e.last_fits.own

  -- ---- the actors' own entries

  done_number : Ended lock script root joined last dones first_kept last_kept → (i : ℕ) (d : Done) → get_elem? dones i ≡ some d → d.seat.number ≡ i + 1
  done_number e i d at = let k = (e.done i d at).2 in k.acts.keeps.2

  done_joined : Ended lock script root joined last dones first_kept last_kept → (i : ℕ) (d : Done) → get_elem? dones i ≡ some d → own_of (i + 1) joined.seen ≡ d.seat.own
  done_joined e i d at =
      let here : get_elem? joined.joined i ≡ some (joined_as d) = ap (λ (l : List (Joined Call)). get_elem? l i) (joined_list e) ∙ at_map joined_as dones i d at in
      subst (λ (n : ℕ). own_of n joined.seen ≡ d.seat.own) (done_number e i d at) (e.joined_fits.joined (joined_number e) i (joined_as d) here).1

  done_last : Ended lock script root joined last dones first_kept last_kept → (i : ℕ) (d : Done) → get_elem? dones i ≡ some d → own_of (i + 1) last.seen ≡ d.seat.own
  done_last e i d at =
      let here : get_elem? last.joined i ≡ some (joined_as d) = ap (λ (l : List (Joined Call)). get_elem? l i) (last_list e) ∙ at_map joined_as dones i d at in
      subst (λ (n : ℕ). own_of n last.seen ≡ d.seat.own) (done_number e i d at) (e.last_fits.joined (last_number e) i (joined_as d) here).1

  done_own : Ended lock script root joined last dones first_kept last_kept → (i : ℕ) (d : Done) → get_elem? dones i ≡ some d → own_of (i + 1) d.seat.seen ≡ d.seat.own
  done_own e i d at = let k = (e.done i d at).2 in subst (λ (n : ℕ). own_of n d.seat.seen ≡ d.seat.own) (done_number e i d at) k.fits.own

  -- ---- the lock always had a ticket left

  each_few : Ended lock script root joined last dones first_kept last_kept → (k : ℕ) → k < 9 → length (own_of k last.seen) ≤ 100000
  each_few e zero low =
      let a = e.opening.few in
      let b = e.closing.few in
      let c = ap length e.joins.own in
      let d = ap length (last_own e) in
      let s = e.small in omega arith
  each_few e (suc i) low =
      let at = there dones i (let eight = e.eight in omega arith) in
      let back = e.done i at.0 at.1 in
      let a = back.2.acts.few in
      let b : length back.0 ≤ sum_by length script.actors = no_longer script.actors i back.0 back.1 in
      let c : length (own_of (i + 1) last.seen) ≡ length at.0.seat.own = ap length (done_last e i at.0 at.1) in
      let n : suc i ≡ i + 1 = omega arith in
      let d : length (own_of (suc i) last.seen) ≡ length (own_of (i + 1) last.seen) = ap (λ (m : ℕ). length (own_of m last.seen)) n in
      let s = e.small in omega arith

  unworn : Ended lock script root joined last dones first_kept last_kept → last.found ≤ last.first + length last.seen → last.found < 2 ^ 63
  unworn e f =
      let long : length last.seen ≤ 9 * 100000 = few 9 100000 last.seen (last_below e) (each_few e) in
      let z : last.first ≡ 0 = e.closing.keeps.1 ∙ joined_first e in omega arith

  joined_unworn : Ended lock script root joined last dones first_kept last_kept → last.found ≤ last.first + length last.seen → joined.found < 2 ^ 63
  joined_unworn e f = let u = unworn e f in let k = e.closing.keeps.5 in omega arith

  root_made : Ended lock script root joined last dones first_kept last_kept → last.found ≤ last.first + length last.seen → root.own ≡ map (turn_of 0) script.opening
  root_made e f = ⊎_elim (λ made. made) (λ worn. absurd (let u = joined_unworn e f in let k = e.joins.found in omega arith)) e.opening.made

  last_made : Ended lock script root joined last dones first_kept last_kept → last.found ≤ last.first + length last.seen → last.own ≡ joined.own ++ map (turn_of 0) script.closing
  last_made e f = ⊎_elim (λ made. subst (λ (n : ℕ). last.own ≡ joined.own ++ map (turn_of n) script.closing) (joined_number e) made) (λ worn. absurd (let u = unworn e f in omega arith)) e.closing.made

  done_made : Ended lock script root joined last dones first_kept last_kept → last.found ≤ last.first + length last.seen → (i : ℕ) (d : Done) → get_elem? dones i ≡ some d → (calls : List Call) → get_elem? script.actors i ≡ some calls → d.seat.own ≡ map (turn_of (i + 1)) calls
  done_made e f i d at calls is =
      let back = e.done i d at in
      let same : back.0 ≡ calls = some-injective back.0 calls (sym back.1 ∙ is) in
      ⊎_elim (λ made. made ∙ ap (map (turn_of (i + 1))) same) (λ worn. absurd (let u = joined_unworn e f in let k = (e.joins.each i d at).0 in omega arith)) back.2.acts.made

  -- ---- the three parts of the history

  abbrev middle : Ended lock script root joined last dones first_kept last_kept → List (Entry Call)
  middle e = e.joins.goes_on.0

  abbrev rest : Ended lock script root joined last dones first_kept last_kept → List (Entry Call)
  rest e = e.closing.goes_on.0

  middle_none : (e : Ended lock script root joined last dones first_kept last_kept) → own_of 0 (middle e) ≡ []
  middle_none e = nothing (own_of 0 root.seen) (own_of 0 (middle e))
      (sym (own_append 0 root.seen (middle e)) ∙ (ap (own_of 0) e.joins.goes_on.1 ∙ (joined_own e ∙ (sym (root_whole e) ∙ sym (own_whole root.seen (root_below e))))))

  middle_own : (e : Ended lock script root joined last dones first_kept last_kept) → (i : ℕ) (d : Done) → get_elem? dones i ≡ some d → own_of (i + 1) (middle e) ≡ d.seat.own
  middle_own e i d at =
      let pos : 0 < i + 1 = omega arith in
      ap (λ (l : List (Entry Call)). l ++ own_of (i + 1) (middle e)) (sym (root_none e (i + 1) pos)) ∙ (sym (own_append (i + 1) root.seen (middle e)) ∙ (ap (own_of (i + 1)) e.joins.goes_on.1 ∙ done_joined e i d at))

  rest_none : (e : Ended lock script root joined last dones first_kept last_kept) → (k : ℕ) → 0 < k → k < 9 → own_of k (rest e) ≡ []
  rest_none e zero pos low = absurd (omega arith)
  rest_none e (suc i) pos low =
      let at = there dones i (let eight = e.eight in omega arith) in
      let n : i + 1 ≡ suc i = omega arith in
      subst (λ (m : ℕ). own_of m (rest e) ≡ []) n
      (nothing (own_of (i + 1) joined.seen) (own_of (i + 1) (rest e)) (sym (own_append (i + 1) joined.seen (rest e)) ∙ (ap (own_of (i + 1)) e.closing.goes_on.1 ∙ (done_last e i at.0 at.1 ∙ sym (done_joined e i at.0 at.1)))))

  last_split : (e : Ended lock script root joined last dones first_kept last_kept) → joined.seen ++ rest e ≡ last.seen
  last_split e = e.closing.goes_on.1

  joined_split : (e : Ended lock script root joined last dones first_kept last_kept) → root.seen ++ middle e ≡ joined.seen
  joined_split e = e.joins.goes_on.1

  rest_is : (e : Ended lock script root joined last dones first_kept last_kept) → last.found ≤ last.first + length last.seen → rest e ≡ map (turn_of 0) script.closing
  rest_is e f =
      let below : AllBelow 9 (rest e) = below_right 9 joined.seen (rest e) (subst (AllBelow 9) (sym (last_split e)) (last_below e)) in
      let whole : own_of 0 (rest e) ≡ rest e = own_whole (rest e) (only_first 9 (rest e) below (rest_none e)) in
      let all : joined.own ++ rest e ≡ joined.own ++ map (turn_of 0) script.closing =
      (λ i. (e.joins.own ∙ sym (joined_own e)) i ++ sym whole i) ∙ (sym (own_append 0 joined.seen (rest e)) ∙ (ap (own_of 0) (last_split e) ∙ (last_own e ∙ last_made e f))) in
      append_cancel_left joined.own (rest e) (map (turn_of 0) script.closing) all

  middle_below : (e : Ended lock script root joined last dones first_kept last_kept) → AllBelow 9 (middle e)
  middle_below e =
      let before : AllBelow 9 joined.seen = below_left 9 joined.seen (rest e) (subst (AllBelow 9) (sym (last_split e)) (last_below e)) in
      below_right 9 root.seen (middle e) (subst (AllBelow 9) (sym (joined_split e)) before)

  -- the history is one of the script's actors
  pub is_made : (e : Ended lock script root joined last dones first_kept last_kept) → last.found ≤ last.first + length last.seen → IsMadeBy script (entries_of last.seen)
  is_made e f = record {
    middle = entries_of (middle e);
    parts = ap entries_of (sym (last_split e) ∙ (λ i. sym (joined_split e) i ++ rest_is e f i))
        ∙ (map-append entry_of (root.seen ++ middle e) (map (turn_of 0) script.closing)
        ∙ ((λ i. (map-append entry_of root.seen (middle e) ∙ ap (λ (l : List RoomEntry). l ++ entries_of (middle e)) (ap entries_of (root_whole e ∙ root_made e f) ∙ made_entries 0 script.opening)) i ++ made_entries 0 script.closing i)
        ∙ append_assoc (map (made_by 0) script.opening) (entries_of (middle e)) (map (made_by 0) script.closing)));
    acts = λ i low calls is.
        let at = there dones i (let eight = e.eight in omega arith) in
        own_entries (i + 1) (middle e) ∙ (ap entries_of (middle_own e i at.0 at.1 ∙ done_made e f i at.0 at.1 calls is) ∙ made_entries (i + 1) calls);
    actors = no_first 8 (middle e) (middle_below e) (middle_none e);
  }

  -- ---- the stored entries

  mine_first : (e : Ended lock script root joined last dones first_kept last_kept) → mine 0 (placed last.seen) ≡ first_kept ++ last_kept
  mine_first e =
      let closing : mine 0 (placed last.seen) ≡ mine 0 (placed joined.seen) ++ last_kept = subst (λ (n : ℕ). mine n (placed last.seen) ≡ mine n (placed joined.seen) ++ last_kept) (joined_number e) e.closing.reported in
      let between : mine 0 (placed joined.seen) ≡ mine 0 (placed root.seen) = mine_same 0 root.seen joined.seen e.joins.goes_on (joined_own e ∙ (sym (root_whole e) ∙ sym (own_whole root.seen (root_below e)))) in
      closing ∙ ap (λ (l : List Placed). l ++ last_kept) (between ∙ e.opening.reported)

  mine_done : (e : Ended lock script root joined last dones first_kept last_kept) → (i : ℕ) (d : Done) → get_elem? dones i ≡ some d → d.kept.items ≡ mine (i + 1) (placed last.seen)
  mine_done e i d at =
      let acts = (e.done i d at).2.acts in
      let before : mine (i + 1) (placed root.seen) ≡ [] = mine_none [] (i + 1) root.seen (root_none e (i + 1) (omega arith)) in
      let reported : mine (i + 1) (placed d.seat.seen) ≡ d.kept.items = acts.reported ∙ ap (λ (l : List Placed). l ++ d.kept.items) before in
      let later : IsPrefix d.seat.seen last.seen = prefix_trans d.seat.seen joined.seen last.seen (e.joins.each i d at).1 e.closing.goes_on in
      sym reported ∙ sym (mine_same (i + 1) d.seat.seen last.seen later (done_last e i d at ∙ sym (done_own e i d at)))

parts_kept : (ps : List Placed) (ds : List Done) (n : ℕ) → ((i : ℕ) (d : Done) → get_elem? ds i ≡ some d → d.kept.items ≡ mine (n + i) ps) → parts n ps ++ kept_by ds ≡ parts (n + length ds) ps
parts_kept ps [] n each = append-nil (parts n ps) ∙ ap (λ (m : ℕ). parts m ps) (let q : n ≡ n + 0 = omega arith in q)
parts_kept ps (d ∷ ds) n each =
    let here : d.kept.items ≡ mine n ps = each 0 d refl ∙ ap (λ (m : ℕ). mine m ps) (let q : n + 0 ≡ n = omega arith in q) in
    let next : parts (suc n) ps ++ kept_by ds ≡ parts (suc n + length ds) ps = parts_kept ps ds (suc n) (λ i x at. each (suc i) x at ∙ ap (λ (m : ℕ). mine m ps) (let q : n + suc i ≡ suc n + i = omega arith in q)) in
    ap (λ (l : List Placed). parts n ps ++ (l ++ kept_by ds)) here ∙ (sym (append_assoc (parts n ps) (mine n ps) (kept_by ds)) ∙ (next ∙ ap (λ (m : ℕ). parts m ps) (let q : suc n + length ds ≡ n + suc (length ds) = omega arith in q)))

module _ {lock : TableId} {script : Actors} {root joined last : Known Call} {dones : List Done} {first_kept last_kept : List Placed} where
  all_parts : (e : Ended lock script root joined last dones first_kept last_kept) → parts 9 (placed last.seen) ≡ (first_kept ++ last_kept) ++ kept_by dones
  all_parts e =
      let ps = placed last.seen in
      let nine : 1 + length dones ≡ 9 = (let q = e.eight in omega arith) in
      let joint : parts 1 ps ++ kept_by dones ≡ parts (1 + length dones) ps = parts_kept ps dones 1 (λ i d at. mine_done e i d at ∙ ap (λ (m : ℕ). mine m ps) (let q : i + 1 ≡ 1 + i = omega arith in q)) in
      sym (joint ∙ ap (λ (m : ℕ). parts m ps) nine) ∙ ap (λ (l : List Placed). l ++ kept_by dones) (mine_first e)

  -- the stored entries are the turns of the history, in another order
  pub is_kept : (e : Ended lock script root joined last dones first_kept last_kept) → IsPermutation (placed last.seen) ((first_kept ++ kept_by dones) ++ last_kept)
  is_kept e =
      let moved : IsPermutation (placed last.seen) ((first_kept ++ last_kept) ++ kept_by dones) = subst (IsPermutation (placed last.seen)) (all_parts e) (parts_all 9 (placed last.seen) (placed_below [] last.seen (last_below e))) in
      let turned : IsPermutation ((first_kept ++ last_kept) ++ kept_by dones) ((first_kept ++ kept_by dones) ++ last_kept) =
      subst (λ (l : List Placed). IsPermutation l ((first_kept ++ kept_by dones) ++ last_kept)) (sym (append_assoc first_kept last_kept (kept_by dones)))
      (subst (λ (l : List Placed). IsPermutation (first_kept ++ (last_kept ++ kept_by dones)) l) (sym (append_assoc first_kept (kept_by dones) last_kept))
      (IsPermutation-append_right first_kept (last_kept ++ kept_by dones) (kept_by dones ++ last_kept) (IsPermutation-append_comm last_kept (kept_by dones)))) in
      IsPermutation-trans (placed last.seen) ((first_kept ++ last_kept) ++ kept_by dones) ((first_kept ++ kept_by dones) ++ last_kept) moved turned

  -- each other seat was joined
  pub came : (e : Ended lock script root joined last dones first_kept last_kept) → AllJoinedIn last
  came e n pos low =
      let i : ℕ = n - 1 in
      let c : last.count ≡ 9 = last_count e in
      let at = there dones i (let q = e.eight in omega arith) in
      (i, joined_as at.0, ap (λ (l : List (Joined Call)). get_elem? l i) (last_list e) ∙ at_map joined_as dones i at.0 at.1, (let k = done_number e i at.0 at.1 in omega arith))

pub ended_of : (lock : TableId) (script : Actors) (start root counted joined last : Known Call) (opening closing : List Call) (dones : List Done) (first_kept last_kept : List Placed)
    → start ≡ opened lock 0 → Acts start root opening first_kept → opening ≡ script.opening → Fits root → AreDone root script.actors dones → length dones ≡ 8 → counted ≡ counting root 9 → HasJoined counted dones joined → Fits joined
    → Acts joined last closing last_kept → closing ≡ script.closing → Fits last → count_of script ≤ 100000 → Ended lock script root joined last dones first_kept last_kept
ended_of lock script start root counted joined last opening closing dones first_kept last_kept new opens first_part root_fits done eight split joins joined_fits closes last_part last_fits small = record {
  opening = subst (λ (calls : List Call). Acts (opened lock 0) root calls first_kept) first_part (subst (λ (k : Known Call). Acts k root opening first_kept) new opens);
  root_fits = root_fits;
  done = done;
  eight = eight;
  joins = subst (λ (k : Known Call). HasJoined k dones joined) split joins;
  joined_fits = joined_fits;
  closing = subst (λ (calls : List Call). Acts joined last calls last_kept) last_part closes;
  last_fits = last_fits;
  small = small;
}

pub journal_reported : (lock : TableId) (script : Actors) (root joined last : Known Call) (dones : List Done) (first_kept last_kept kept : List Placed) (entries : List journal.Entry)
    → Ended lock script root joined last dones first_kept last_kept → last.found ≤ last.first + length last.seen → AreWellFormed (accepted (entries_of last.seen)) → kept ≡ (first_kept ++ kept_by dones) ++ last_kept
    → ((all : List Placed) → IsPermutation all kept → AtPlaces 0 all → entries ≡ map (λ turn. turn.entry) all) → IsJournal script entries
journal_reported lock script root joined last dones first_kept last_kept kept entries e found well is reported = record {
  history = entries_of last.seen;
  made = is_made e found;
  reported = reported (placed last.seen) (subst (IsPermutation (placed last.seen)) (sym is) (is_kept e)) (all_at_places last.seen) ∙ journal_placed [] last.seen;
  headline = headline (entries_of last.seen) well;
}
