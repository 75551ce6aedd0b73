-- Each step preserves the rule.
use Rattle.std.proofs.Common.{◌≡◌, ◌≢◌, ℕ, suc, ◌+◌, ◌-◌, ◌%◌, ◌^◌, ◌<◌, ◌≤◌, Bool, true, false, cond, eqb, ltb, List, [], ◌∷◌, ◌++◌, length, drop, set, slice_index, Some, Option, refl, ap, sym, subst, ◌∙◌, ⊎_elim, arith, append-nil, length-append, length-set, mod-eq_of_lt, ltb-true, ltb-false, eq-eqb, ne_eqb}
use mathlib.Core.List.{IsPrefix}
use mathlib.Core.Logic.{dite}
use mathlib.Core.Option.{Option as Maybe, none, some, some-injective, some-ne-none}
use native.Mathlib.Decide.{ℕ_discrete}
use lib.ListN.{get_elem?}
use lib.Seq.{set-get_or}
use prog.Atomic.{either}
use Rattle.atomic_table.specs.Table.{State, Me, step, keeps, takes, gives, stepped, put_back, rest, Allows, Splits, Joins, Final, Seen, opening}
use Rattle.atomic_table.proofs.Lists.{at_set, set_here, set_else, at_longer, at_last}
use Rattle.turn_lock.specs.declared.history.Entry.{Entry}
use Rattle.turn_lock.specs.declared.history.Joined.{Joined}
use Rattle.turn_lock.specs.declared.view.View.{View}
use Rattle.turn_lock.specs.declared.view.Stage.{Stage}
use Rattle.turn_lock.specs.declared.view.Stage.TheVariants.{Idle, Waiting, Holding, Spent}
use Rattle.turn_lock.specs.History.{own_of, AllBelow, AllJoined}
use Rattle.turn_lock.specs.Views.{HasTicket, IsLive, Sound, seeing, drawing, serving, counting, next_seat, first_seat, spent_seat, joining}
use Rattle.turn_lock.specs.Rule.{Queues, Knows, AtHome, Kept, drew, looked, served, peeked}
use Rattle.turn_lock.proofs.Lists.{prefix_self, prefix_more, prefix_shorter, prefix_whole, prefix_length, at_end, at_tail, tail_length, within, there, alone}
use Rattle.turn_lock.proofs.Histories.{own_append, own_here, own_else, own_same, own_between, below_append, below_prefix, below_more, own_above, joined_also, joined_append, joined_between, joined_none}

has_live : (t : ℕ) (st : Stage) → HasTicket t st → IsLive st
has_live t Idle h = tt
has_live t (Waiting u) h = tt
has_live t (Holding u) h = tt
has_live t Spent h = h

live_at : (st : Stage) (t : ℕ) → st ≡ Waiting t → IsLive st
live_at st t e = subst IsLive (sym e) tt

module _ {S C : Type 0} (stands : S → List (Entry C) → Type 0) (first : ℕ) where
  abbrev V : Type 0
  V = View C

  abbrev St : Type 0
  St = State (Option S) V

  abbrev M : Type 0
  M = Me (Option S) V

  abbrev Rule : St → Type 0
  Rule = Kept stands first

  abbrev base_of : (s : St) → Rule s → ℕ
  base_of s r = first + length r.log

  seats_stay : (P : ℕ → V → Type 0) (vs : List V) (me : ℕ) (w : V) → P me w → ((j : ℕ) (v : V) → j ≢ me → get_elem? vs j ≡ some v → P j v)
      → (j : ℕ) (v : V) → get_elem? (set vs me w) j ≡ some v → P j v
  seats_stay P vs me w mine others j v e = ⊎_elim (λ (t : (j ≡ me) × (w ≡ v)). subst (λ (x : ℕ × V). P x.0 x.1) (λ i. (sym t.0 i, t.1 i)) mine)
      (λ (t : (j ≢ me) × (get_elem? vs j ≡ some v)). others j v t.0 t.1) (at_set vs me j w v e)

  -- a live seat's view is at the place of its number
  numbered : (s : St) (r : Rule s) (j : ℕ) (v : V) → get_elem? s.views j ≡ some v → IsLive v.stage → v.number ≡ j
  numbered s r j v at alive = let k = r.live j v at alive in k.number

  serve_word : (s : St) (r : Rule s) → slice_index s.words 1 ≡ first + length r.log
  serve_word s r = ap (λ ws. slice_index ws 1) r.words

  next_word : (s : St) (r : Rule s) → slice_index s.words 0 ≡ first + length r.log + length r.queue
  next_word s r = ap (λ ws. slice_index ws 0) r.words

  -- a joined seat isn't a live one
  apart : (s : St) (r : Rule s) (id : ℕ) (v : V) → get_elem? s.views id ≡ some v → IsLive v.stage → (u : V) (i : ℕ) (x : Joined C) → get_elem? s.views 0 ≡ some u → get_elem? u.joined i ≡ some x → x.number ≢ id
  apart s r id v at alive u i x e f is = let g = r.gone u i x e f in
      let same : g.0 ≡ v = some-injective g.0 v (sym g.1 ∙ (ap (λ (n : ℕ). get_elem? s.views n) is ∙ at)) in
      subst IsLive (ap (λ (z : V). z.stage) (sym same) ∙ g.2) alive

  spent_still : (s : St) (r : Rule s) (id : ℕ) (v w : V) → get_elem? s.views id ≡ some v → IsLive v.stage → (u : V) (i : ℕ) (x : Joined C) → get_elem? s.views 0 ≡ some u → get_elem? u.joined i ≡ some x
      → (y : V) × (get_elem? (set s.views id w) x.number ≡ some y) × (y.stage ≡ Spent)
  spent_still s r id v w at alive u i x e f = let g = r.gone u i x e f in (g.0, set_else s.views id x.number w (apart s r id v at alive u i x e f) ∙ g.1, g.2)

  grown : (s : St) (r : Rule s) (id : ℕ) (v : V) (log' es : List (Entry C)) → log' ≡ r.log ++ es → get_elem? s.views id ≡ some v → IsLive v.stage → ((n : ℕ) → n ≢ id → own_of n es ≡ [])
      → (u : V) → get_elem? s.views 0 ≡ some u → AllJoined log' u.joined
  grown s r id v log' es grow at alive mine u e = joined_also r.log log' u.joined (λ i x f pos own. ap (own_of x.number) grow ∙ own_same x.number r.log es x.own own (mine x.number (apart s r id v at alive u i x e f))) (r.joined u e)

  -- A live seat moves from the view v to the view w, and the history grows by the seat's own entries es.
  moves : (s : St) (r : Rule s) (ws : List ℕ) (hs : List (Maybe (Option S))) (id : ℕ) (v w : V) (log' es : List (Entry C)) (queue : List ℕ) (slot : Maybe (Option S))
      → get_elem? s.views id ≡ some v → IsLive v.stage → IsLive w.stage
      → log' ≡ r.log ++ es → w.number ≡ v.number → w.joined ≡ v.joined
      → ((n : ℕ) → n ≢ id → own_of n es ≡ []) → AllBelow (length s.views) es
      → ws ≡ (first + length log' + length queue) ∷ (first + length log') ∷ []
      → first + length log' + length queue ≤ 2 ^ 63
      → first + length r.log + length r.queue ≤ first + length log' + length queue
      → hs ≡ slot ∷ []
      → AtHome stands (first + length log') log' (set s.views id w) slot
      → Knows first log' queue (length s.views) id w
      → ((j : ℕ) (u : V) → j ≢ id → get_elem? s.views j ≡ some u → Queues (first + length r.log) r.log r.queue j u.seen u.stage → Queues (first + length log') log' queue j u.seen u.stage)
      → ((i j : ℕ) → get_elem? queue i ≡ some j → (u : V) × (get_elem? (set s.views id w) j ≡ some u) × HasTicket (first + length log' + i) u.stage)
      → ((j : ℕ) × (u : V) × (get_elem? (set s.views id w) j ≡ some u) × IsLive u.stage × (u.seen ≡ log'))
      → (id ≡ 0 → AllJoined w.seen w.joined)
      → Rule record { words = ws; homes = hs; views = set s.views id w }
  moves s r ws hs id v w log' es queue slot at alive alive' grow num joins mine small words high more homes home knows others queued whole seen = record {
    log = log';
    queue = queue;
    slot = slot;
    words = words;
    high = high;
    homes = homes;
    home = home;
    live = λ j u e l. subst (λ (n : ℕ). Knows first log' queue n j u) (sym (length-set s.views id w))
        (seats_stay (λ j u. IsLive u.stage → Knows first log' queue (length s.views) j u) s.views id w (λ _. knows)
        (λ j u ne e l. let k = r.live j u e l in let f = k.found in record {
          base = k.base;
          number = k.number;
          seen = subst (IsPrefix u.seen) (sym grow) (prefix_more u.seen r.log es k.seen);
          beside = subst (IsPrefix u.beside) (sym grow) (prefix_more u.beside r.log es k.beside);
          own = ap (own_of u.number) grow ∙ own_same u.number r.log es u.own k.own (subst (λ (n : ℕ). own_of n es ≡ []) (sym k.number) (mine j ne));
          own_seen = k.own_seen;
          found = omega arith;
          count = k.count;
          queued = others j u ne e k.queued;
        }) j u e l);
    queued = queued;
    whole = whole;
    below = subst (λ (n : ℕ). AllBelow n log') (sym (length-set s.views id w)) (subst (AllBelow (length s.views)) (sym grow) (below_append (length s.views) r.log es r.below small));
    root = dite (ℕ_discrete 0 id)
        (λ e. (w, subst (λ (n : ℕ). get_elem? (set s.views id w) n ≡ some w) (sym e) (set_here s.views id w (within s.views id v at)), alive'))
        (λ ne. let root = r.root in (root.0, set_else s.views id 0 w ne ∙ root.1, root.2));
    joined = λ u e. ⊎_elim
        (λ (t : (0 ≡ id) × (w ≡ u)). subst (λ (z : V). AllJoined log' z.joined) t.1 (subst (AllJoined log') (sym joins) (grown s r id v log' es grow at alive mine v (subst (λ (n : ℕ). get_elem? s.views n ≡ some v) (sym t.0) at))))
        (λ (t : (0 ≢ id) × (get_elem? s.views 0 ≡ some u)). grown s r id v log' es grow at alive mine u t.1) (at_set s.views id 0 w u e);
    joined_seen = λ u e. ⊎_elim
        (λ (t : (0 ≡ id) × (w ≡ u)). subst (λ (z : V). AllJoined z.seen z.joined) t.1 (seen (sym t.0)))
        (λ (t : (0 ≢ id) × (get_elem? s.views 0 ≡ some u)). r.joined_seen u t.1) (at_set s.views id 0 w u e);
    gone = λ u i x e f. ⊎_elim
        (λ (t : (0 ≡ id) × (w ≡ u)). spent_still s r id v w at alive v i x (subst (λ (n : ℕ). get_elem? s.views n ≡ some v) (sym t.0) at) (ap (λ (l : List (Joined C)). get_elem? l i) (sym joins) ∙ (ap (λ (z : V). get_elem? z.joined i) t.1 ∙ f)))
        (λ (t : (0 ≢ id) × (get_elem? s.views 0 ≡ some u)). spent_still s r id v w at alive u i x t.1 f) (at_set s.views id 0 w u e);
  }

  -- the slot is unchanged if the seat that moves doesn't have the value
  home_stays : (vs : List V) (serve : ℕ) (log : List (Entry C)) (id : ℕ) (v w : V) (slot : Maybe (Option S)) → get_elem? vs id ≡ some v → ¬ (v.stage ≡ Holding serve)
      → AtHome stands serve log vs slot → AtHome stands serve log (set vs id w) slot
  home_stays vs serve log id v w none at free h =
      (h.0, h.1, set_else vs id h.0 w (λ e. free (ap (λ (z : V). z.stage) (some-injective v h.1 (sym at ∙ (ap (λ (n : ℕ). get_elem? vs n) (sym e) ∙ h.2))) ∙ h.3)) ∙ h.2, h.3)
  home_stays vs serve log id v w (some y) at free h = h

  -- some live seat has seen everything, even after one seat moves to a view that has seen as much
  whole_stays : (vs : List V) (log : List (Entry C)) (id : ℕ) (v w : V) → get_elem? vs id ≡ some v → IsLive w.stage → w.seen ≡ v.seen
      → ((j : ℕ) × (u : V) × (get_elem? vs j ≡ some u) × IsLive u.stage × (u.seen ≡ log))
      → ((j : ℕ) × (u : V) × (get_elem? (set vs id w) j ≡ some u) × IsLive u.stage × (u.seen ≡ log))
  whole_stays vs log id v w at alive same h = dite (ℕ_discrete h.0 id)
      (λ e. (id, w, set_here vs id w (within vs id v at), alive, same ∙ (ap (λ (z : V). z.seen) (some-injective v h.1 (sym at ∙ (ap (λ (n : ℕ). get_elem? vs n) (sym e) ∙ h.2))) ∙ h.4)))
      (λ ne. (h.0, h.1, set_else vs id h.0 w ne ∙ h.2, h.3, h.4))

  -- a step that doesn't change the queue, the history and the stage
  quiet : (s : St) (r : Rule s) (id : ℕ) (v w : V) → get_elem? s.views id ≡ some v → IsLive v.stage → w.stage ≡ v.stage → w.number ≡ v.number → w.joined ≡ v.joined → w.seen ≡ v.seen → ¬ (v.stage ≡ Holding (first + length r.log))
      → Knows first r.log r.queue (length s.views) id w
      → Rule record { words = s.words; homes = s.homes; views = set s.views id w }
  quiet s r id v w at alive stage num joins same free knows =
      let alive' : IsLive w.stage = subst IsLive (sym stage) alive in
      moves s r s.words s.homes id v w r.log [] r.queue r.slot at alive alive' (sym (append-nil r.log)) num joins (λ n ne. refl) tt r.words r.high (omega arith) r.homes
      (home_stays s.views (first + length r.log) r.log id v w r.slot at free r.home)
      knows
      (λ j u ne e q. q)
      (λ i j e. let q = r.queued i j e in dite (ℕ_discrete j id)
      (λ is. let u : q.0 ≡ v = some-injective q.0 v (sym q.1 ∙ (ap (λ (n : ℕ). get_elem? s.views n) is ∙ at)) in (
        w,
        subst (λ (n : ℕ). get_elem? (set s.views id w) n ≡ some w) (sym is) (set_here s.views id w (within s.views id v at)),
        subst (HasTicket (first + length r.log + i)) (ap (λ (z : V). z.stage) u ∙ sym stage) q.2,
      ))
      (λ ne. (q.0, set_else s.views id j w ne ∙ q.1, q.2)))
      (whole_stays s.views r.log id v w at alive' same r.whole)
      (λ e. subst (λ (x : List (Entry C) × List (Joined C)). AllJoined x.0 x.1) (λ i. (sym same i, sym joins i)) (r.joined_seen v (subst (λ (n : ℕ). get_elem? s.views n ≡ some v) e at)))

  -- each seat has the same place in a longer queue
  queues_on : (serve : ℕ) (log : List (Entry C)) (queue more : List ℕ) (j : ℕ) (seen : List (Entry C)) (st : Stage) → Queues serve log queue j seen st → Queues serve log (queue ++ more) j seen st
  queues_on serve log queue more j seen Idle q = tt
  queues_on serve log queue more j seen (Waiting t) q = (q.0, at_longer queue more (t - serve) j q.1)
  queues_on serve log queue more j seen (Holding t) q = (q.0, at_longer queue more 0 j q.1, q.2)
  queues_on serve log queue more j seen Spent q = q

  pub draws : (slots id : ℕ) (me : M) (t : ℕ) → me.0.stage ≡ Idle → t < 2 ^ 63 → Allows Rule slots id me 0 (λ n. either (eqb n t) (t + 1) n) (drew (step slots 0 t (t + 1) none) me)
  draws slots id me t idle small s r _ at _ =
      let n : ℕ = slice_index s.words 0 in
      let v : V = me.0 in
      let alive : IsLive v.stage = subst IsLive (sym idle) tt in
      let k = r.live id v at alive in
      let is : n ≡ first + length r.log + length r.queue = next_word s r in
      let high : first + length r.log + length r.queue ≤ 2 ^ 63 = r.high in
      let free : ¬ (v.stage ≡ Holding (first + length r.log)) = λ e. subst (HasTicket (first + length r.log)) (sym e ∙ idle) refl in
      let found : v.found ≤ first + length r.log + length r.queue = k.found in
      dite (ℕ_discrete n t)
      (λ hit. let w : V = drawing v n (Waiting n) in
      let more : length (r.queue ++ id ∷ []) ≡ length r.queue + 1 = length-append r.queue (id ∷ []) in
      let m : t + 1 ≡ first + length r.log + length (r.queue ++ id ∷ []) = omega arith in
      let place : n - (first + length r.log) ≡ length r.queue = omega arith in (
        w,
        keeps,
        tt,
        subst (λ (b : Bool). Rule (stepped s 0 (either b (t + 1) n) id me.1 w keeps)) (sym (eq-eqb n t hit))
            (moves s r (set s.words 0 (t + 1)) s.homes id v w r.log [] (r.queue ++ id ∷ []) r.slot at alive tt (sym (append-nil r.log)) refl refl (λ n ne. refl) tt
            (ap (λ (ws : List ℕ). set ws 0 (t + 1)) r.words ∙ ap (λ (x : ℕ). x ∷ (first + length r.log) ∷ []) m) (omega arith) (omega arith) r.homes
            (home_stays s.views (first + length r.log) r.log id v w r.slot at free r.home)
            record {
              base = k.base;
              number = k.number;
              seen = k.seen;
              beside = k.beside;
              own = k.own;
              own_seen = k.own_seen;
              found = omega arith;
              count = k.count;
              queued = (omega arith, ap (get_elem? (r.queue ++ id ∷ [])) place ∙ at_last r.queue id (length r.queue) refl);
            }
            (λ j u ne e q. queues_on (first + length r.log) r.log r.queue (id ∷ []) j u.seen u.stage q)
            (λ i j e. ⊎_elim
            (λ (old : get_elem? r.queue i ≡ some j). let q = r.queued i j old in
            (q.0, set_else s.views id j w (λ same. subst (HasTicket (first + length r.log + i)) (ap (λ (z : V). z.stage) (some-injective q.0 v (sym q.1 ∙ (ap (λ (x : ℕ). get_elem? s.views x) same ∙ at))) ∙ idle) q.2) ∙ q.1, q.2))
            (λ (new : (i ≡ length r.queue) × (id ≡ j)). let last = new.0 in
            (w, subst (λ (x : ℕ). get_elem? (set s.views id w) x ≡ some w) new.1 (set_here s.views id w (within s.views id v at)), omega arith))
            (at_end r.queue id j i e))
            (whole_stays s.views r.log id v w at tt refl r.whole)
            (λ e. r.joined_seen v (subst (λ (n : ℕ). get_elem? s.views n ≡ some v) e at))),
        (omega arith, (λ _. refl), λ ne. absurd (ne hit)),
      ))
      (λ miss. let w : V = drawing v n v.stage in (
        w,
        keeps,
        tt,
        subst (λ (b : Bool). Rule (stepped s 0 (either b (t + 1) n) id me.1 w keeps)) (sym (ne_eqb n t miss))
            (subst (λ (ws : List ℕ). Rule record { words = ws; homes = s.homes; views = set s.views id w }) (sym (set-get_or s.words 0 0))
            (quiet s r id v w at alive refl refl refl refl free record {
              base = k.base;
              number = k.number;
              seen = k.seen;
              beside = k.beside;
              own = k.own;
              own_seen = k.own_seen;
              found = omega arith;
              count = k.count;
              queued = k.queued;
            })),
        (omega arith, (λ e. absurd (miss e)), λ _. refl),
      ))

  -- the value is in the slot if no seat has it
  at_home : (serve : ℕ) (log : List (Entry C)) (vs : List V) (slot : Maybe (Option S)) → AtHome stands serve log vs slot → ((j : ℕ) (u : V) → get_elem? vs j ≡ some u → ¬ (u.stage ≡ Holding serve)) → (x : S) × (slot ≡ some (Some x)) × stands x log
  at_home serve log vs none h nobody = absurd (nobody h.0 h.1 h.2 h.3)
  at_home serve log vs (some y) h nobody = (h.0, ap some h.1, h.2)

  -- two views at one place are the same
  one_view : (vs : List V) (i j : ℕ) (u v : V) → get_elem? vs i ≡ some u → get_elem? vs j ≡ some v → i ≡ j → u ≡ v
  one_view vs i j u v p q e = some-injective u v (sym p ∙ (ap (λ (n : ℕ). get_elem? vs n) e ∙ q))

  at_root : (s : St) (r : Rule s) (id : ℕ) (v : V) → get_elem? s.views id ≡ some v → IsLive v.stage → v.number ≡ 0 → get_elem? s.views 0 ≡ some v
  at_root s r id v at alive z = subst (λ (n : ℕ). get_elem? s.views n ≡ some v) (sym (numbered s r id v at alive) ∙ z) at

  -- what a live seat would know if it had seen h
  sound_of : (s : St) (r : Rule s) (id : ℕ) (v w : V) → get_elem? s.views id ≡ some v → IsLive v.stage → w.number ≡ v.number → w.count ≡ v.count → w.joined ≡ v.joined → own_of v.number w.seen ≡ w.own → IsPrefix w.seen r.log → w.found ≡ v.found → (v.number ≡ 0 → AllJoined w.seen v.joined) → Sound w
  sound_of s r id v w at alive num count joins own pre found rest = let k = r.live id v at alive in record {
    found = let before = k.found in let high = r.high in omega (arith, found);
    own = ap (λ (n : ℕ). own_of n w.seen) num ∙ own;
    below = λ z. subst (λ (n : ℕ). AllBelow n w.seen) (sym (count ∙ k.count (sym num ∙ z))) (below_prefix (length s.views) w.seen r.log pre r.below);
    joined = λ z. subst (AllJoined w.seen) (sym joins) (rest (sym num ∙ z));
    counts = λ z. let here = within s.views id v at in let many = k.count (sym num ∙ z) in omega (arith, count);
  }

  pub looks : (slots id : ℕ) (me : M) (t : ℕ) → me.0.stage ≡ Waiting t → me.1 ≡ [] → Allows Rule slots id me 1 (λ n. n) (looked stands (step slots 1 0 0 none) me)
  looks slots id me t wait none_held s r _ at _ =
      let n : ℕ = slice_index s.words 1 in
      let v : V = me.0 in
      let alive : IsLive v.stage = subst IsLive (sym wait) tt in
      let k = r.live id v at alive in
      let serve : ℕ = first + length r.log in
      let is : n ≡ serve = serve_word s r in
      let q : (serve ≤ t) × (get_elem? r.queue (t - serve) ≡ some id) = subst (Queues serve r.log r.queue id v.seen) wait k.queued in
      dite (ℕ_discrete n t)
      (λ hit. let first_place : t - serve ≡ 0 = omega arith in
      let front : get_elem? r.queue 0 ≡ some id = ap (get_elem? r.queue) (sym first_place) ∙ q.1 in
      let nobody : (j : ℕ) (u : V) → get_elem? s.views j ≡ some u → ¬ (u.stage ≡ Holding serve) = λ j u e hold. let ku = r.live j u e (subst IsLive (sym hold) tt) in
      let qu : (serve ≡ serve) × (get_elem? r.queue 0 ≡ some j) × (u.seen ≡ r.log) = subst (Queues serve r.log r.queue j u.seen) hold ku.queued in
      let same : j ≡ id = some-injective j id (sym qu.1 ∙ front) in
      let both : Holding serve ≡ Waiting t = sym hold ∙ (ap (λ (z : V). z.stage) (one_view s.views j id u v e at same) ∙ wait) in cc in
      let held = at_home serve r.log s.views r.slot r.home nobody in
      let w : V = seeing v r.log (Holding n) in (
        w,
        takes 0 (Some held.0),
        ap (λ hs. get_elem? hs 0) r.homes ∙ ap some held.1,
        moves s r (set s.words 1 n) (set s.homes 0 none) id v w r.log [] r.queue none at alive tt (sym (append-nil r.log)) refl refl (λ n ne. refl) tt
            (set-get_or s.words 1 0 ∙ r.words) r.high (omega arith) (ap (λ (hs : List (Maybe (Option S))). set hs 0 none) r.homes)
            (id, w, set_here s.views id w (within s.views id v at), ap Holding is)
            record {
              base = k.base;
              number = k.number;
              seen = prefix_self r.log;
              beside = k.beside;
              own = k.own;
              own_seen = k.own;
              found = k.found;
              count = k.count;
              queued = (is, front, refl);
            }
            (λ j u ne e q. q)
            (λ i j e. let q = r.queued i j e in dite (ℕ_discrete j id)
            (λ same. let ticket : serve + i ≡ t = subst (HasTicket (serve + i)) (ap (λ (z : V). z.stage) (one_view s.views j id q.0 v q.1 at same) ∙ wait) q.2 in
            (w, subst (λ (x : ℕ). get_elem? (set s.views id w) x ≡ some w) (sym same) (set_here s.views id w (within s.views id v at)), ticket ∙ sym hit))
            (λ ne. (q.0, set_else s.views id j w ne ∙ q.1, q.2)))
            (id, w, set_here s.views id w (within s.views id v at), tt, refl)
            (λ e. r.joined v (subst (λ (n : ℕ). get_elem? s.views n ≡ some v) e at)),
        (
          (λ _. (
            r.log,
            held.0,
            k.seen,
            held.2,
            ap (λ (b : ℕ). b + length r.log) k.base ∙ sym is,
            (λ i. (w, (0, Some held.0) ∷ none_held i)),
            sound_of s r id v w at alive refl refl refl k.own (prefix_self r.log) refl (λ z. r.joined v (at_root s r id v at alive z)),
          )),
          λ ne. absurd (ne (wait ∙ ap Waiting (sym hit))),
        ),
      ))
      (λ miss. (
        v,
        keeps,
        tt,
        subst (λ (ws : List ℕ). Rule record { words = ws; homes = s.homes; views = set s.views id v }) (sym (set-get_or s.words 1 0))
            (quiet s r id v v at alive refl refl refl refl (λ e. let both : Waiting t ≡ Holding serve = sym wait ∙ e in cc) k),
        ((λ e. let both : Waiting t ≡ Waiting n = sym wait ∙ e in let same : t ≡ n = cc in absurd (miss (sym same))), λ _. refl),
      ))

  pub peeks : (slots id : ℕ) (me : M) → me.0.stage ≡ Idle → Allows Rule slots id me 1 (λ n. n) (peeked (step slots 1 0 0 none) me)
  peeks slots id me idle s r _ at _ =
      let v : V = me.0 in
      let alive : IsLive v.stage = subst IsLive (sym idle) tt in
      let k = r.live id v at alive in (
        v,
        keeps,
        tt,
        subst (λ (ws : List ℕ). Rule record { words = ws; homes = s.homes; views = set s.views id v }) (sym (set-get_or s.words 1 0))
            (quiet s r id v v at alive refl refl refl refl (λ e. let both : Idle ≡ Holding (first + length r.log) = sym idle ∙ e in cc) k),
        (refl, sound_of s r id v v at alive refl refl refl k.own_seen k.seen refl (λ z. r.joined_seen v (at_root s r id v at alive z)), (r.log, k.seen, k.beside)),
      )

  -- after the seat at the front of the queue was served, each other seat is one place nearer
  queues_shift : (serve next : ℕ) (log log' : List (Entry C)) (queue : List ℕ) (id j : ℕ) (seen : List (Entry C)) → next ≡ serve + 1 → get_elem? queue 0 ≡ some id → j ≢ id → (st : Stage) → Queues serve log queue j seen st → Queues next log' (drop 1 queue) j seen st
  queues_shift serve next log log' queue id j seen up front ne Idle q = tt
  queues_shift serve next log log' queue id j seen up front ne (Waiting t) q =
      let below : serve ≤ t = q.0 in
      dite (ℕ_discrete t serve)
      (λ e. let here : t - serve ≡ 0 = omega arith in absurd (ne (some-injective j id (sym q.1 ∙ (ap (get_elem? queue) here ∙ front)))))
      (λ other. let place : suc (t - next) ≡ t - serve = omega arith in (omega arith, at_tail queue (t - next) ∙ (ap (get_elem? queue) place ∙ q.1)))
  queues_shift serve next log log' queue id j seen up front ne (Holding t) q = absurd (ne (some-injective j id (sym q.1 ∙ front)))
  queues_shift serve next log log' queue id j seen up front ne Spent q = q

  pub serves : (slots id : ℕ) (me : M) (t : ℕ) (e : Entry C) (y : S) → me.0.stage ≡ Holding t → me.1 ≡ (0, Some y) ∷ [] → e.seat ≡ me.0.number → stands y (me.0.seen ++ e ∷ [])
      → Allows Rule slots id me 1 (λ n. (n + 1) % 2 ^ 64) (served (e ∷ []) (step slots 1 1 0 none) me)
  serves slots id me t e y hold held by stood s r _ at _ =
      let n : ℕ = slice_index s.words 1 in
      let v : V = me.0 in
      let alive : IsLive v.stage = subst IsLive (sym hold) tt in
      let k = r.live id v at alive in
      let serve : ℕ = first + length r.log in
      let is : n ≡ serve = serve_word s r in
      let q : (t ≡ serve) × (get_elem? r.queue 0 ≡ some id) × (v.seen ≡ r.log) = subst (Queues serve r.log r.queue id v.seen) hold k.queued in
      let log' : List (Entry C) = r.log ++ e ∷ [] in
      let long : length log' ≡ length r.log + 1 = length-append r.log (e ∷ []) in
      let queue' : List ℕ = drop 1 r.queue in
      let short : length queue' + 1 ≡ length r.queue = tail_length r.queue id q.1 in
      let high : first + length r.log + length r.queue ≤ 2 ^ 63 = r.high in
      let next : ℕ = first + length log' in
      let up : next ≡ serve + 1 = omega arith in
      let small : n + 1 < 2 ^ 64 = omega arith in
      let wrapped : (n + 1) % 2 ^ 64 ≡ next = mod-eq_of_lt small ∙ omega arith in
      let w : V = serving v (e ∷ []) in
      let number : v.number ≡ id = k.number in
      let found : v.found ≤ first + length r.log + length r.queue = k.found in
      let here : get_elem? (set s.views id w) id ≡ some w = set_here s.views id w (within s.views id v at) in
      let inside : id < length s.views = within s.views id v at in (
        w,
        gives,
        tt,
        moves s r (set s.words 1 ((n + 1) % 2 ^ 64)) (put_back s.homes me.1) id v w log' (e ∷ []) queue' (some (Some y)) at alive tt refl refl refl
            (λ m ne. own_else m e (λ z. ne (sym z ∙ (by ∙ number)))) (omega arith, tt)
            (ap (λ (ws : List ℕ). set ws 1 ((n + 1) % 2 ^ 64)) r.words ∙ (λ i. (let a : first + length r.log + length r.queue ≡ next + length queue' = omega arith in a) i ∷ wrapped i ∷ []))
            (omega arith) (omega arith)
            (ap (put_back s.homes) held ∙ ap (λ (hs : List (Maybe (Option S))). set hs 0 (some (Some y))) r.homes)
            (y, refl, subst (λ (l : List (Entry C)). stands y (l ++ e ∷ [])) q.2 stood)
            record {
              base = k.base;
              number = k.number;
              seen = subst (λ (l : List (Entry C)). IsPrefix (l ++ e ∷ []) log') (sym q.2) (prefix_self log');
              beside = prefix_more v.beside r.log (e ∷ []) k.beside;
              own = own_append v.number r.log (e ∷ []) ∙ (λ i. k.own i ++ own_here v.number e by i);
              own_seen = own_append v.number v.seen (e ∷ []) ∙ (λ i. k.own_seen i ++ own_here v.number e by i);
              found = omega arith;
              count = k.count;
              queued = tt;
            }
            (λ j u ne _ p. queues_shift serve next r.log log' r.queue id j u.seen up q.1 ne u.stage p)
            (λ i j f. let p = r.queued (suc i) j (sym (at_tail r.queue i) ∙ f) in (
              p.0,
              set_else s.views id j w (λ same. let ticket : serve + suc i ≡ t = subst (HasTicket (serve + suc i)) (ap (λ (z : V). z.stage) (one_view s.views j id p.0 v p.1 at same) ∙ hold) p.2 in let at_front = q.0 in omega arith) ∙ p.1,
              subst (λ (m : ℕ). HasTicket m p.0.stage) (let m : serve + suc i ≡ next + i = omega arith in m) p.2,
            ))
            (id, w, here, tt, ap (λ (l : List (Entry C)). l ++ e ∷ []) q.2)
            (λ z. joined_also v.seen (v.seen ++ e ∷ []) v.joined (λ i x f pos own. own_same x.number v.seen (e ∷ []) x.own own (own_else x.number e (λ m. let a : e.seat ≡ id = by ∙ number in omega arith)))
            (r.joined_seen v (subst (λ (n : ℕ). get_elem? s.views n ≡ some v) z at))),
        ((λ i. (w, ap rest held i)), is ∙ (λ i. (sym k.base) i + length (sym q.2 i))),
      )

  home_longer : (serve : ℕ) (log : List (Entry C)) (vs more : List V) (slot : Maybe (Option S)) → AtHome stands serve log vs slot → AtHome stands serve log (vs ++ more) slot
  home_longer serve log vs more none h = (h.0, h.1, at_longer vs more h.0 h.1 h.2, h.3)
  home_longer serve log vs more (some y) h = h

  pub splits : (id : ℕ) (v : V) → v.number ≡ 0 → v.stage ≡ Idle → Splits Rule id v (counting v) (next_seat v)
  splits id v first_one idle s r at =
      let alive : IsLive v.stage = subst IsLive (sym idle) tt in
      let k = r.live id v at alive in
      let serve : ℕ = first + length r.log in
      let w : V = counting v in
      let x : V = next_seat v in
      let many : ℕ = length s.views in
      let count : v.count ≡ many = k.count first_one in
      let inside : id < many = within s.views id v at in
      let zero_is : id ≡ 0 = sym k.number ∙ first_one in
      let wide : length (set s.views id w) ≡ many = length-set s.views id w in
      let wider : length (set s.views id w ++ x ∷ []) ≡ many + 1 = length-append (set s.views id w) (x ∷ []) ∙ ap (λ (n : ℕ). n + 1) wide in
      let here : get_elem? (set s.views id w) id ≡ some w = set_here s.views id w inside in
      let top : get_elem? (set s.views id w ++ x ∷ []) 0 ≡ some w = subst (λ (n : ℕ). get_elem? (set s.views id w ++ x ∷ []) n ≡ some w) zero_is (at_longer (set s.views id w) (x ∷ []) id w here) in
      let at0 : get_elem? s.views 0 ≡ some v = subst (λ (n : ℕ). get_elem? s.views n ≡ some v) zero_is at in record {
        log = r.log;
        queue = r.queue;
        slot = r.slot;
        words = r.words;
        high = r.high;
        homes = r.homes;
        home = home_longer serve r.log (set s.views id w) (x ∷ []) r.slot (home_stays s.views serve r.log id v w r.slot at (λ e. let both : Idle ≡ Holding serve = sym idle ∙ e in cc) r.home);
        live = λ j u e l. subst (λ (n : ℕ). Knows first r.log r.queue n j u) (sym wider)
            (⊎_elim
            (λ (old : get_elem? (set s.views id w) j ≡ some u). seats_stay (λ j u. IsLive u.stage → Knows first r.log r.queue (many + 1) j u) s.views id w
            (λ _. record {
              base = k.base;
              number = k.number;
              seen = k.seen;
              beside = k.beside;
              own = k.own;
              own_seen = k.own_seen;
              found = k.found;
              count = λ _. omega arith;
              queued = k.queued;
            })
            (λ j u ne f l. let ku = r.live j u f l in let number : u.number ≡ j = ku.number in record {
              base = ku.base;
              number = ku.number;
              seen = ku.seen;
              beside = ku.beside;
              own = ku.own;
              own_seen = ku.own_seen;
              found = ku.found;
              count = λ z. absurd (ne (sym number ∙ (z ∙ sym zero_is)));
              queued = ku.queued;
            }) j u old l)
            (λ (new : (j ≡ length (set s.views id w)) × (x ≡ u)). subst (λ (z : V). Knows first r.log r.queue (many + 1) j z) new.1 record {
              base = k.base;
              number = let place = new.0 in omega arith;
              seen = k.seen;
              beside = (r.log, refl);
              own = own_above v.count r.log (subst (λ (n : ℕ). AllBelow n r.log) (sym count) r.below);
              own_seen = own_above v.count v.seen (subst (λ (n : ℕ). AllBelow n v.seen) (sym count) (below_prefix many v.seen r.log k.seen r.below));
              found = omega arith;
              count = λ z. absurd (omega arith);
              queued = tt;
            })
            (at_end (set s.views id w) x u j e));
        queued = λ i j e. let q = r.queued i j e in
            (q.0, at_longer (set s.views id w) (x ∷ []) j q.0 (set_else s.views id j w (λ same. subst (HasTicket (serve + i)) (ap (λ (z : V). z.stage) (one_view s.views j id q.0 v q.1 at same) ∙ idle) q.2) ∙ q.1), q.2);
        whole = let p = whole_stays s.views r.log id v w at alive refl r.whole in (p.0, p.1, at_longer (set s.views id w) (x ∷ []) p.0 p.1 p.2, p.3, p.4);
        below = below_more many (length (set s.views id w ++ x ∷ [])) r.log (omega arith) r.below;
        root = (w, top, alive);
        joined = λ u e. subst (λ (z : V). AllJoined r.log z.joined) (some-injective w u (sym top ∙ e)) (r.joined v at0);
        joined_seen = λ u e. subst (λ (z : V). AllJoined z.seen z.joined) (some-injective w u (sym top ∙ e)) (r.joined_seen v at0);
        gone = λ u i y e f. let g = spent_still s r id v w at alive v i y at0 (ap (λ (z : V). get_elem? z.joined i) (some-injective w u (sym top ∙ e)) ∙ f) in
            (g.0, at_longer (set s.views id w) (x ∷ []) y.number g.0 g.1, g.2);
      }

  longer_within : (b : Bool) (xs ys zs : List (Entry C)) → IsPrefix xs zs → IsPrefix ys zs → IsPrefix (cond b ys xs) zs
  longer_within true xs ys zs p q = q
  longer_within false xs ys zs p q = p

  longer_both : (b : Bool) (xs ys zs : List (Entry C)) → ltb (length xs) (length ys) ≡ b → IsPrefix xs zs → IsPrefix ys zs → IsPrefix xs (cond b ys xs) × IsPrefix ys (cond b ys xs)
  longer_both true xs ys zs e p q = let le : length xs < length ys = ltb-true _ _ e in (prefix_shorter xs ys zs p q (omega arith), prefix_self ys)
  longer_both false xs ys zs e p q = let le : length ys ≤ length xs = ltb-false _ _ e in (prefix_self xs, prefix_shorter ys xs zs q p le)

  -- a prefix that begins with the whole list is the whole list
  longest : (xs ys zs : List (Entry C)) → IsPrefix xs ys → IsPrefix ys zs → xs ≡ zs → ys ≡ zs
  longest xs ys zs p q e = prefix_whole ys zs q (let le : length xs ≤ length ys = prefix_length xs ys p in omega (arith, ap length e))

  pub joins : (id : ℕ) (v : V) (other : ℕ) (w : V) → v.number ≡ 0 → v.stage ≡ Idle → w.stage ≡ Idle → 0 < w.number → Joins Rule id v other w (joining v w) spent_seat
  joins id v other w first_one idle idle' pos s r at ne there =
      let alive : IsLive v.stage = subst IsLive (sym idle) tt in
      let alive' : IsLive w.stage = subst IsLive (sym idle') tt in
      let b : V = joining v w in
      let gone : V = spent_seat in
      let at' : get_elem? s.views other ≡ some w = sym (set_else s.views id other b ne) ∙ there in
      let k = r.live id v at alive in
      let k' = r.live other w at' alive' in
      let serve : ℕ = first + length r.log in
      let vs : List V = set s.views id b in
      let us : List V = set vs other gone in
      let inside : id < length s.views = within s.views id v at in
      let wide : length us ≡ length s.views = length-set vs other gone ∙ length-set s.views id b in
      let zero_is : id ≡ 0 = sym k.number ∙ first_one in
      let here : get_elem? vs id ≡ some b = set_here s.views id b inside in
      let kept : get_elem? us id ≡ some b = set_else vs other id gone (λ e. ne (sym e)) ∙ here in
      let top : get_elem? us 0 ≡ some b = subst (λ (n : ℕ). get_elem? us n ≡ some b) zero_is kept in
      let at0 : get_elem? s.views 0 ≡ some v = subst (λ (n : ℕ). get_elem? s.views n ≡ some v) zero_is at in
      let long : IsPrefix b.seen r.log = longer_within (ltb (length v.seen) (length w.seen)) v.seen w.seen r.log k.seen k'.seen in
      let both : IsPrefix v.seen b.seen × IsPrefix w.seen b.seen = longer_both (ltb (length v.seen) (length w.seen)) v.seen w.seen r.log refl k.seen k'.seen in
      let stays : (j : ℕ) (u : V) → get_elem? s.views j ≡ some u → ¬ (u.stage ≡ Idle) → get_elem? us j ≡ some u = λ j u e busy.
      set_else vs other j gone (λ same. busy (ap (λ (z : V). z.stage) (one_view s.views j other u w e at' same) ∙ idle')) ∙ (set_else s.views id j b (λ same. busy (ap (λ (z : V). z.stage) (one_view s.views j id u v e at same) ∙ idle)) ∙ e) in
      let f : v.found ≤ serve + length r.queue = k.found in
      let f' : w.found ≤ serve + length r.queue = k'.found in record {
        log = r.log;
        queue = r.queue;
        slot = r.slot;
        words = r.words;
        high = r.high;
        homes = r.homes;
        home = home_stays vs serve r.log other w gone r.slot there (λ e. let x : Idle ≡ Holding serve = sym idle' ∙ e in cc)
            (home_stays s.views serve r.log id v b r.slot at (λ e. let x : Idle ≡ Holding serve = sym idle ∙ e in cc) r.home);
        live = λ j u e l. subst (λ (n : ℕ). Knows first r.log r.queue n j u) (sym wide)
            (seats_stay (λ j u. IsLive u.stage → Knows first r.log r.queue (length s.views) j u) vs other gone (λ l. absurd l)
            (λ j u _ e l. seats_stay (λ j u. IsLive u.stage → Knows first r.log r.queue (length s.views) j u) s.views id b
            (λ _. record {
              base = k.base;
              number = k.number;
              seen = long;
              beside = longer_within (ltb (length v.seen) (length w.seen)) w.seen v.seen r.log k'.seen k.seen;
              own = k.own;
              own_seen = own_between v.number v.seen b.seen r.log v.own both.0 long k.own_seen k.own;
              found = omega arith;
              count = k.count;
              queued = subst (Queues serve r.log r.queue id b.seen) (sym idle) tt;
            })
            (λ j u _ e l. r.live j u e l) j u e l) j u e l);
        queued = λ i j e. let q = r.queued i j e in (q.0, stays j q.0 q.1 (λ busy. subst (HasTicket (serve + i)) busy q.2), q.2);
        whole = let p = r.whole in dite (ℕ_discrete p.0 id)
            (λ same. (id, b, kept, alive, longest v.seen b.seen r.log both.0 long (ap (λ (z : V). z.seen) (one_view s.views id p.0 v p.1 at p.2 (sym same)) ∙ p.4)))
            (λ apart. dite (ℕ_discrete p.0 other)
            (λ same. (id, b, kept, alive, longest w.seen b.seen r.log both.1 long (ap (λ (z : V). z.seen) (one_view s.views other p.0 w p.1 at' p.2 (sym same)) ∙ p.4)))
            (λ apart'. (p.0, p.1, set_else vs other p.0 gone apart' ∙ (set_else s.views id p.0 b apart ∙ p.2), p.3, p.4)));
        below = subst (λ (n : ℕ). AllBelow n r.log) (sym wide) r.below;
        root = (b, top, alive);
        joined = λ u e. subst (λ (z : V). AllJoined r.log z.joined) (some-injective b u (sym top ∙ e)) (joined_append r.log v.joined _ (r.joined v at0) (pos, k'.own));
        joined_seen = λ u e. subst (λ (z : V). AllJoined z.seen z.joined) (some-injective b u (sym top ∙ e))
            (joined_append b.seen v.joined _ (joined_between v.seen b.seen r.log v.joined both.0 long (r.joined_seen v at0) (r.joined v at0)) (pos, own_between w.number w.seen b.seen r.log w.own both.1 long k'.own_seen k'.own));
        gone = λ u i x e f. ⊎_elim
            (λ (old : get_elem? v.joined i ≡ some x). let g = r.gone v i x at0 old in (g.0, stays x.number g.0 g.1 (λ z. let both : Spent ≡ Idle = sym g.2 ∙ z in cc), g.2))
            (λ (new : (i ≡ length v.joined) × (record { number = w.number; own = w.own } ≡ x)). (
              gone,
              subst (λ (n : ℕ). get_elem? us n ≡ some gone) (sym k'.number ∙ ap (λ (z : Joined C). z.number) new.1) (set_here vs other gone (within vs other w there)),
              refl,
            ))
            (at_end v.joined record { number = w.number; own = w.own } x i (ap (λ (z : V). get_elem? z.joined i) (some-injective b u (sym top ∙ e)) ∙ f));
      }

  pub starts : (x : S) → stands x [] → first ≤ 2 ^ 63 → Rule (opening (first ∷ first ∷ []) (Some x ∷ []) (first_seat first))
  starts x stood small = record {
    log = [];
    queue = [];
    slot = some (Some x);
    words = λ i. (let a : first ≡ first + 0 + 0 = omega arith in a) i ∷ (let a : first ≡ first + 0 = omega arith in a) i ∷ [];
    high = omega arith;
    homes = refl;
    home = (x, refl, stood);
    live = λ j u e l. let t = alone (first_seat first) u j e in subst (λ (x : ℕ × V). Knows first [] [] 1 x.0 x.1) (λ i. (sym t.0 i, t.1 i)) record {
      base = refl;
      number = refl;
      seen = ([], refl);
      beside = ([], refl);
      own = refl;
      own_seen = refl;
      found = omega arith;
      count = λ _. refl;
      queued = tt;
    };
    queued = λ i j e. absurd (some-ne-none j (sym e));
    whole = (0, first_seat first, refl, tt, refl);
    below = tt;
    root = (first_seat first, refl, tt);
    joined = λ u e. subst (λ (z : V). AllJoined [] z.joined) (some-injective (first_seat first) u e) (joined_none []);
    joined_seen = λ u e. subst (λ (z : V). AllJoined z.seen z.joined) (some-injective (first_seat first) u e) (joined_none []);
    gone = λ u i x e f. absurd (some-ne-none x (sym (ap (λ (z : V). get_elem? z.joined i) (some-injective (first_seat first) u e) ∙ f)));
  }

  -- if each other seat was joined, the value is in the slot and represents what the first seat has seen
  pub closes : (id : ℕ) (v : V) (ws : List ℕ) (xs : List (Option S)) → v.number ≡ 0 → v.stage ≡ Idle → ((n : ℕ) → 0 < n → n < v.count → (i : ℕ) × (x : Joined C) × (get_elem? v.joined i ≡ some x) × (x.number ≡ n))
      → Final (Seen Rule id v) ws xs → (x : S) × (get_elem? xs 0 ≡ some (Some x)) × stands x v.seen × (v.found ≤ v.base + length v.seen)
  closes id v ws xs first_one idle all end =
      let s : St = end.0 in
      let r : Rule s = end.1.0 in
      let at : get_elem? s.views id ≡ some v = end.1.1 in
      let alive : IsLive v.stage = subst IsLive (sym idle) tt in
      let k = r.live id v at alive in
      let serve : ℕ = first + length r.log in
      let at0 = at_root s r id v at alive first_one in
      let only : (j : ℕ) (u : V) → get_elem? s.views j ≡ some u → IsLive u.stage → u ≡ v = λ j u e l. dite (ℕ_discrete j 0)
      (λ z. one_view s.views j 0 u v e at0 z)
      (λ nz. let inside : j < length s.views = within s.views j u e in let count : v.count ≡ length s.views = k.count first_one in
      let has = all j (omega arith) (omega arith) in
      absurd (apart s r j u e l v has.0 has.1 at0 has.2 has.3)) in
      let nobody : (j : ℕ) (u : V) → get_elem? s.views j ≡ some u → ¬ (u.stage ≡ Holding serve) = λ j u e hold.
      let both : Holding serve ≡ Idle = sym hold ∙ (ap (λ (z : V). z.stage) (only j u e (subst IsLive (sym hold) tt)) ∙ idle) in cc in
      let held = at_home serve r.log s.views r.slot r.home nobody in
      let empty : length r.queue ≡ 0 = dite (ℕ_discrete (length r.queue) 0) (λ z. z)
      (λ nz. let front = there r.queue 0 (omega arith) in let q = r.queued 0 front.0 front.1 in
      absurd (subst (HasTicket (serve + 0)) (ap (λ (z : V). z.stage) (only front.0 q.0 q.1 (has_live (serve + 0) q.0.stage q.2)) ∙ idle) q.2)) in
      let p = r.whole in
      let seen : v.seen ≡ r.log = ap (λ (z : V). z.seen) (sym (only p.0 p.1 p.2 p.3)) ∙ p.4 in
      let found : v.found ≤ first + length r.log + length r.queue = k.found in (
        held.0,
        end.4 0 (Some held.0) (ap (λ hs. get_elem? hs 0) r.homes ∙ ap some held.1),
        subst (stands held.0) (sym seen) held.2,
        omega (arith, ap length seen, k.base),
      )
