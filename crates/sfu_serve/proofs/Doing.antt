-- A deed continues: by another part of it, and by one step.
use Rattle.std.proofs.Common.{◌≡◌, ◌⊎◌, inl, inr, ℕ, ◌+◌, ◌≤◌, Bool, if◌then◌else◌, List, [], ◌∷◌, ◌++◌, length, refl, ap, sym, subst, ◌∙◌, arith, append-nil, append_assoc, length-append, Option}
use Rattle.sfu_base.specs.Links.{Traffic, with_more}
use Rattle.turn_lock.specs.declared.history.Entry.{Entry}
use mathlib.Core.List.{IsPrefix}
use Rattle.turn_lock.specs.History.{own_of, entry}
use Rattle.turn_lock.proofs.Lists.{prefix_more, prefix_self, prefix_trans}
use Rattle.turn_lock.specs.Known.{Known, KeepsSeat, Fits, MakesTurn, FindsWorn}
use Rattle.session_steps.specs.Deeds.{Deed, Listen, Ask, Post, Heard, Said, Posted, Word, received_of, said_of, sent_of}
use Rattle.sfu_serve.specs.Words.{word_at, words_of}
use Rattle.sfu_serve.specs.Doing.{AllFitBuffers, FitsBuffer, IsDone, StarveWhereTheyMay}
use Rattle.sfu_serve.proofs.Words.{words_turn}
use Rattle.sfu_serve.proofs.Steps.{more_twice, more_none, all_fit, leads_on, leads_by, received_append, said_append, sent_append, starve_append, starve_wider}

pub keeps_on : {C : Type 0} (j k l : Known C) → KeepsSeat j k → KeepsSeat k l → KeepsSeat j l
keeps_on j k l p q = (q.0 ∙ p.0, q.1 ∙ p.1, q.2 ∙ p.2, q.3 ∙ p.3, q.4 ∙ p.4, (let a = p.5 in let b = q.5 in omega (arith, a, b)))

module _ {C A D : Type 0} (reply : List (Entry C) → C → A) (starved : A) (MayStarve : C → Type 0) (IsOne : D → List ℕ → Type 0) (Holds : List (Entry C) → Type 0) where
  abbrev Done : Deed C A D → Deed C A D → Known C → Known C → Option Traffic → Option Traffic → ℕ → ℕ → ℕ → Type 0
  Done whole rest old new traffic traffic' before after turns = IsDone reply starved MayStarve IsOne Holds whole rest old new traffic traffic' before after turns

  still_holds : (a b c : List (Entry C)) → (b ≡ a) ⊎ Holds b → (c ≡ b) ⊎ Holds c → (c ≡ a) ⊎ Holds c
  still_holds a b c before (inr holds) = inr holds
  still_holds a b c (inl same) (inl again) = inl (again ∙ same)
  still_holds a b c (inr holds) (inl again) = inr (subst Holds (sym again) holds)

  -- nothing is done yet
  pub begins : (whole : Deed C A D) (old : Known C) (traffic : Option Traffic) (faults : ℕ) → Fits old → Done whole whole old old traffic traffic faults faults 0
  begins whole old traffic faults fits = record {
    steps = [];
    leads = refl;
    words = sym (append-nil (words_of reply starved old.number old.seen));
    memory = tt;
    grows = prefix_self old.seen;
    holds = inl refl;
    link = more_none traffic;
    short = tt;
    count = refl;
    faults = refl;
    seat = (refl, refl, refl, refl, refl, omega arith);
    fits = fits;
  }

  -- a part is done after the parts before it
  pub joins : (whole mid rest : Deed C A D) (a b c : Known C) (traffic traffic' traffic'' : Option Traffic) (x y z m n : ℕ)
      → Done whole mid a b traffic traffic' x y m → Done mid rest b c traffic' traffic'' y z n → Done whole rest a c traffic traffic'' x z (m + n)
  joins whole mid rest a b c traffic traffic' traffic'' x y z m n p q = record {
    steps = p.steps ++ q.steps;
    leads = leads_on IsOne whole p.steps mid q.steps rest p.leads q.leads;
    words = q.words ∙ (ap (λ (l : List (Word C A)). l ++ said_of q.steps) p.words ∙ (append_assoc (words_of reply starved a.number a.seen) (said_of p.steps) (said_of q.steps)
        ∙ ap (λ (l : List (Word C A)). words_of reply starved a.number a.seen ++ l) (sym (said_append p.steps q.steps))));
    memory = subst (StarveWhereTheyMay starved MayStarve) (sym (said_append p.steps q.steps)) (starve_append starved MayStarve (said_of p.steps) (said_of q.steps) p.memory q.memory);
    grows = prefix_trans a.seen b.seen c.seen p.grows q.grows;
    holds = still_holds a.seen b.seen c.seen p.holds q.holds;
    link = q.link ∙ (ap (with_more (received_of q.steps) (sent_of q.steps)) p.link ∙ (more_twice (received_of p.steps) (received_of q.steps) (sent_of p.steps) (sent_of q.steps) traffic
        ∙ (λ i. with_more (sym (received_append p.steps q.steps) i) (sym (sent_append p.steps q.steps) i) traffic)));
    short = subst AllFitBuffers (sym (received_append p.steps q.steps)) (all_fit (received_of p.steps) (received_of q.steps) p.short q.short);
    count = ap length (received_append p.steps q.steps) ∙ (length-append (received_of p.steps) (received_of q.steps) ∙ (λ i. p.count i + q.count i));
    faults = q.faults ∙ p.faults;
    seat = keeps_on a b c p.seat q.seat;
    fits = q.fits;
  }

  -- one receive
  pub hears : (f : Option (List ℕ) → ℕ → Deed C A D) (got : Option (List ℕ)) (moment : ℕ) (now : Known C) (traffic traffic' : Option Traffic) (faults faults' : ℕ)
      → Fits now → FitsBuffer got → traffic' ≡ with_more (got ∷ []) [] traffic → faults' ≡ faults → Done (Listen f) (f got moment) now now traffic traffic' faults faults' 1
  hears f got moment now traffic traffic' faults faults' fits short link calm = record {
    steps = Heard got moment ∷ [];
    leads = leads_by IsOne (Listen f) (Heard got moment) (f got moment) refl;
    words = sym (append-nil (words_of reply starved now.number now.seen));
    memory = tt;
    grows = prefix_self now.seen;
    holds = inl refl;
    link = link;
    short = (short, tt);
    count = refl;
    faults = calm;
    seat = (refl, refl, refl, refl, refl, omega arith);
    fits = fits;
  }

  -- one datagram is sent
  pub posts : (what : D) (packet : List ℕ) (next : Deed C A D) (now : Known C) (traffic traffic' : Option Traffic) (faults faults' : ℕ)
      → Fits now → IsOne what packet → traffic' ≡ with_more [] (packet ∷ []) traffic → faults' ≡ faults → Done (Post what next) next now now traffic traffic' faults faults' 0
  posts what packet next now traffic traffic' faults faults' fits is link calm = record {
    steps = Posted packet ∷ [];
    leads = leads_by IsOne (Post what next) (Posted packet) next (is, refl);
    words = sym (append-nil (words_of reply starved now.number now.seen));
    memory = tt;
    grows = prefix_self now.seen;
    holds = inl refl;
    link = link;
    short = tt;
    count = refl;
    faults = calm;
    seat = (refl, refl, refl, refl, refl, omega arith);
    fits = fits;
  }

  -- one call: its entry follows a history, and its answer is that of this history
  pub says : (call : C) (f : A → Deed C A D) (answer : A) (is_starved : Bool) (gives : List (Entry C) → Type 0) (place : ℕ) (old new : Known C) (traffic : Option Traffic) (faults : ℕ)
      → Fits old → MakesTurn old new (entry old.number call is_starved) place gives → ((h : List (Entry C)) → gives h → (if is_starved then starved else reply h call) ≡ answer)
      → ((h : List (Entry C)) → gives h → answer ≡ starved → MayStarve call) → ((h : List (Entry C)) → gives h → Holds (h ++ entry old.number call is_starved ∷ [])) → Fits new
      → Done (Ask call f) (f answer) old new traffic traffic faults faults 0
  says call f answer is_starved gives place old new traffic faults fits t told_by starved_by holds_by fits' =
      let h : List (Entry C) = t.1.0 in
      let e : Entry C = entry old.number call is_starved in
      let w : Word C A = record { call = call; answer = answer } in
      let has : own_of old.number new.seen ≡ old.own ++ e ∷ [] = ap (λ (m : ℕ). own_of m new.seen) (sym t.0.2) ∙ (fits'.own ∙ t.2) in
      let turn : words_of reply starved old.number new.seen ≡ words_of reply starved old.number old.seen ++ word_at reply starved h e ∷ [] =
      words_turn reply starved old.number old.seen h new.seen e old.own t.1.1 t.1.2 refl fits.own has in
      let all : words_of reply starved old.number new.seen ≡ words_of reply starved old.number old.seen ++ w ∷ [] =
      turn ∙ ap (λ (a : A). words_of reply starved old.number old.seen ++ record { call = call; answer = a } ∷ []) (told_by h t.1.3) in
      record {
        steps = Said call answer ∷ [];
        leads = leads_by IsOne (Ask call f) (Said call answer) (f answer) (refl, refl);
        words = ap (λ (m : ℕ). words_of reply starved m new.seen) t.0.2 ∙ all;
        memory = (starved_by h t.1.3, tt);
        grows = subst (IsPrefix old.seen) (sym t.1.2) (prefix_more old.seen h (e ∷ []) t.1.1);
        holds = inr (subst Holds (sym t.1.2) (holds_by h t.1.3));
        link = more_none traffic;
        short = tt;
        count = refl;
        faults = refl;
        seat = t.0;
        fits = fits';
      }

  -- a failing call on the link leaves its traffic, and everything that was done before it
  pub still : (whole rest : Deed C A D) (old new : Known C) (traffic traffic' traffic'' : Option Traffic) (faults faults' turns : ℕ)
      → Done whole rest old new traffic traffic' faults faults' turns → traffic'' ≡ traffic' → Done whole rest old new traffic traffic'' faults faults turns
  still whole rest old new traffic traffic' traffic'' faults faults' turns d same = record {
    steps = d.steps;
    leads = d.leads;
    words = d.words;
    memory = d.memory;
    grows = d.grows;
    holds = d.holds;
    link = same ∙ d.link;
    short = d.short;
    count = d.count;
    faults = refl;
    seat = d.seat;
    fits = d.fits;
  }

  -- a turn that found all tickets drawn changes only the number found
  pub stays : (whole rest : Deed C A D) (old new new' : Known C) (traffic traffic' : Option Traffic) (faults faults' turns : ℕ)
      → Done whole rest old new traffic traffic' faults faults' turns → FindsWorn new new' → Fits new' → Done whole rest old new' traffic traffic' faults faults' turns
  stays whole rest old new new' traffic traffic' faults faults' turns d w fits =
      let s : KeepsSeat new new' = (
        ap (λ (k : Known C). k.lock) w.0,
        ap (λ (k : Known C). k.first) w.0,
        ap (λ (k : Known C). k.number) w.0,
        ap (λ (k : Known C). k.count) w.0,
        ap (λ (k : Known C). k.joined) w.0,
        subst (λ (n : ℕ). new.found ≤ n) (sym (ap (λ (k : Known C). k.found) w.0)) w.1,
      ) in
      record {
        steps = d.steps;
        leads = d.leads;
        words = ap (λ (k : Known C). words_of reply starved k.number k.seen) w.0 ∙ d.words;
        memory = d.memory;
        grows = subst (IsPrefix old.seen) (sym (ap (λ (k : Known C). k.seen) w.0)) d.grows;
        holds = still_holds old.seen new.seen new'.seen d.holds (inl (ap (λ (k : Known C). k.seen) w.0));
        link = d.link;
        short = d.short;
        count = d.count;
        faults = d.faults;
        seat = keeps_on old new new' d.seat s;
        fits = fits;
      }

module _ {C A D : Type 0} (reply : List (Entry C) → C → A) (starved : A) (MayStarve Wider : C → Type 0) (IsOne : D → List ℕ → Type 0) (Holds : List (Entry C) → Type 0) where
  -- more calls may run out of memory
  pub widens : (whole rest : Deed C A D) (old new : Known C) (traffic traffic' : Option Traffic) (faults faults' turns : ℕ) → ((call : C) → MayStarve call → Wider call)
      → IsDone reply starved MayStarve IsOne Holds whole rest old new traffic traffic' faults faults' turns → IsDone reply starved Wider IsOne Holds whole rest old new traffic traffic' faults faults' turns
  widens whole rest old new traffic traffic' faults faults' turns wide d = record {
    steps = d.steps;
    leads = d.leads;
    words = d.words;
    memory = starve_wider starved MayStarve Wider (said_of d.steps) wide d.memory;
    grows = d.grows;
    holds = d.holds;
    link = d.link;
    short = d.short;
    count = d.count;
    faults = d.faults;
    seat = d.seat;
    fits = d.fits;
  }
