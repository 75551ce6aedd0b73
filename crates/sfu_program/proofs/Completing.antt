-- The consequences of each command's clauses if nothing outside failed.
use Rattle.std.proofs.Common.{◌≡◌, ◌⊎◌, inl, inr, ⊎_elim, ℕ, ◌+◌, ◌&&◌, Bool, true, List, [], ◌∷◌, ◌++◌, refl, sym, ap, ◌∙◌, subst, arith, append-nil, Option, Some, None}
use Rattle.std.specs.Prelude.{IfSome}
use Rattle.std.specs.Io.KnownBytes.{Appends, IsAtEnd}
use Rattle.std.proofs.KnownBytes.{Consumes-whole}
use Rattle.sfu_base.specs.Faults.{Rose}
use Rattle.sfu_base.specs.Links.{Traffic}
use Rattle.sfu_base.specs.declared.call.Call.{Call}
use Rattle.turn_lock.specs.declared.history.Entry as turn
use Rattle.script_texts.specs.WholeLines.{fault_line}
use Rattle.port_config.specs.ports.Reading.{ReadsNoSetup, read_due, read_part}
use Rattle.port_config.specs.ports.Script.{configuration_of}
use Rattle.sfu_script.specs.declared.ports.PortLine.{PortLine}
use Rattle.sfu_serve.specs.declared.ends.SessionEnd.{SessionEnd}
use Rattle.sfu_serve.specs.declared.ends.SessionEnd.TheVariants.{AllTurns, LinkFault, Worn}
use Rattle.sfu_serve.specs.declared.run.Ended.{Ended}
use Rattle.sfu_serve.specs.Runs.{AreSessions, Before}
use Rattle.sfu_driver.specs.declared.halt.Ending.{Ending}
use Rattle.sfu_driver.specs.declared.halt.Ending.TheVariants.{Outside, Complaint, Obu}
use Rattle.sfu_driver.specs.Drive.{WritesEnd, end_by, outside_end}
use Rattle.sfu_driver.specs.Exchange.{Exchange, exchange_by}
use Rattle.sfu_driver.specs.Outcome.{End}
use Rattle.sfu_driver.specs.Statuses.{Due, Statuses, full_text, last_text, status_of}
use Rattle.sfu_commands.specs.Help.{ShowsUsage, usage_text}
use Rattle.sfu_program.specs.Complete.{EndsAs, Finishes, IsInside, NoneRose, all_turns, serve_due, unless_fault}
use Rattle.sfu_program.specs.Serve.{ActsOn, Serves, afters}
use Rattle.sfu_program.specs.ServeEnds.{all_made, ends_of, ends_text, is_all}
use Rattle.sfu_program.specs.ServeOpening.{first_text}
use Rattle.sfu_program.specs.ServePorts.{AreFresh, PortsSeen}

if_some : (left : Option (List ℕ)) (P Q : List ℕ → Type 0) → ((b : List ℕ) → P b → Q b) → IfSome left P → IfSome left Q
if_some None P Q f p = tt
if_some (Some b) P Q f p = f b p

-- ---- a command that reads its input unit by unit

none_ends : (d : Due) (x : Exchange) (status : ℕ) → status ≡ 0 → IsAtEnd x.left' × (d.end ≡ None) × Appends x.written x.written' d.text → EndsAs d.end x status × Appends x.written x.written' (full_text d)
none_ends d x status zero h = (
  subst (λ (e : Option End). EndsAs e x status) (sym h.1) (zero, h.0),
  subst (λ (t : List ℕ). Appends x.written x.written' t) (sym (ap (λ (e : Option End). d.text ++ last_text e) h.1 ∙ append-nil d.text)) h.2,
)

some_ends : (d : Due) (x : Exchange) (status : ℕ) (why : Ending) (last : List ℕ) → status ≡ status_of why → d.end ≡ Some (end_by why last) → WritesEnd x.written x.written' x.writes x.writes' d.text last → ¬ (Rose x.writes x.writes')
    → EndsAs d.end x status × Appends x.written x.written' (full_text d)
some_ends d x status why last same is w quiet =
    let nothing : w.more ≡ [] = ⊎_elim (λ (r : Rose x.writes x.writes'). absurd (quiet r)) (λ (n : w.more ≡ []). n) w.whole in
    let all : last ≡ w.front = w.split ∙ (ap (λ (l : List ℕ). w.front ++ l) nothing ∙ append-nil w.front) in (
      subst (λ (e : Option End). EndsAs e x status) (sym is) same,
      subst (λ (t : List ℕ). Appends x.written x.written' t) (sym (ap (λ (e : Option End). d.text ++ last_text e) is ∙ ap (λ (l : List ℕ). d.text ++ l) all)) w.wrote,
    )

abbrev Says : (List ℕ → Due) → (List ℕ → Due) → Exchange → ℕ → Type 0
Says whole part x status = Statuses whole part x.left x.left' x.written x.written' x.reads x.reads' x.writes x.writes' status

finishes : (whole part : List ℕ → Due) (x : Exchange) (status : ℕ) → Says whole part x status → ¬ (Rose x.reads x.reads') → ¬ (Rose x.writes x.writes') → Finishes whole x status
finishes whole part x status s calm quiet = by s.only
  where
    by : (status ≡ 0) ⊎ (status ≡ 3) ⊎ (status ≡ 4) ⊎ (status ≡ 6) ⊎ ((bytes : List ℕ) × (end : End) × ((whole bytes).end ≡ Some end) × (status ≡ status_of end.why)) → Finishes whole x status
    by (inl zero) = inr (if_some x.left _ _ (λ b h. none_ends (whole b) x status zero h) (s.done zero))
    by (inr (inl three)) = absurd (calm (s.source three))
    by (inr (inr (inl four))) = absurd (quiet (s.sink four))
    by (inr (inr (inr (inl six)))) = inl six
    by (inr (inr (inr (inr e)))) = inr (if_some x.left _ _ (λ b h. some_ends (whole b) x status e.1.why h.0 e.3 h.1 h.2 quiet) (s.ended e.1.why e.3))

by_ending : (why : Ending) (status : ℕ) → status ≡ status_of why → IsInside status
by_ending Outside status e = inr (inr (inl e))
by_ending Complaint status e = inr (inr (inr (inr (inl e))))
by_ending Obu status e = inr (inr (inr (inr (inr e))))

-- its status says nothing about the outside, whatever the source reports
inside : (whole part : List ℕ → Due) (x : Exchange) (status : ℕ) → Says whole part x status → ¬ (Rose x.reads x.reads') → ¬ (Rose x.writes x.writes') → IsInside status
inside whole part x status s calm quiet = by s.only
  where
    by : (status ≡ 0) ⊎ (status ≡ 3) ⊎ (status ≡ 4) ⊎ (status ≡ 6) ⊎ ((bytes : List ℕ) × (end : End) × ((whole bytes).end ≡ Some end) × (status ≡ status_of end.why)) → IsInside status
    by (inl zero) = inl zero
    by (inr (inl three)) = absurd (calm (s.source three))
    by (inr (inr (inl four))) = absurd (quiet (s.sink four))
    by (inr (inr (inr (inl six)))) = inr (inr (inr (inl six)))
    by (inr (inr (inr (inr e)))) = by_ending e.1.why status e.3

module _ (whole part : List ℕ → Due) (left left' w w' : Option (List ℕ)) (g g' f f' status : ℕ) (s : Statuses whole part left left' w w' g g' f f' status) where
  pub unit_finishes : ¬ (Rose g g') → ¬ (Rose f f') → Finishes whole (exchange_by left left' w w' g g' f f') status
  unit_finishes = finishes whole part (exchange_by left left' w w' g g' f f') status s

  pub unit_inside : ¬ (Rose g g') → ¬ (Rose f f') → IsInside status
  unit_inside = inside whole part (exchange_by left left' w w' g g' f f') status s

-- ---- commands that read nothing

-- a command that writes one text: its status, and what was written
pub summary_shows : (text : List ℕ) (w w' : Option (List ℕ)) (f f' status : ℕ) → (status ≡ 0) ⊎ (status ≡ 4) ⊎ (status ≡ 6) → (status ≡ 4 → Rose f f') → (status ≡ 0 → Appends w w' text) → ¬ (Rose f f')
    → (status ≡ 6) ⊎ ((status ≡ 0) × Appends w w' text)
summary_shows text w w' f f' status (inl zero) sink done quiet = inr (zero, done zero)
summary_shows text w w' f f' status (inr (inl four)) sink done quiet = absurd (quiet (sink four))
summary_shows text w w' f f' status (inr (inr six)) sink done quiet = inl six

pub summary_inside : (f f' status : ℕ) → (status ≡ 0) ⊎ (status ≡ 4) ⊎ (status ≡ 6) → (status ≡ 4 → Rose f f') → ¬ (Rose f f') → IsInside status
summary_inside f f' status (inl zero) sink quiet = inl zero
summary_inside f f' status (inr (inl four)) sink quiet = absurd (quiet (sink four))
summary_inside f f' status (inr (inr six)) sink quiet = inr (inr (inr (inl six)))

module _ (w w' : Option (List ℕ)) (f f' status : ℕ) (s : ShowsUsage w w' f f' status) (quiet : ¬ (Rose f f')) where
  pub usage_shows : (status ≡ 0) × Appends w w' usage_text
  usage_shows = by s.only
    where
      by : (status ≡ 0) ⊎ (status ≡ 4) → (status ≡ 0) × Appends w w' usage_text
      by (inl zero) = (zero, s.done zero)
      by (inr four) = absurd (quiet (s.sink four))

  pub usage_inside : IsInside status
  usage_inside = inl usage_shows.0

-- ---- `serve`

one_made : (end : SessionEnd) (others : Bool) → is_all end && others ≡ true → (end ≡ AllTurns) × (others ≡ true)
one_made AllTurns others is = (refl, is)
one_made (LinkFault turn) others is = absurd (cc is)
one_made Worn others is = absurd (cc is)

all_ends : {L : Type 0} (traffic : L → Option Traffic) (faults : L → ℕ) (limit found : ℕ) (history : List (turn.Entry Call)) (number : ℕ) (lines : List PortLine) (jobs : List Before) (ended : List (Ended L))
    → AreFresh lines jobs → AreSessions limit found history number jobs (afters traffic faults ended) → all_made (ends_of ended) ≡ true → ends_of ended ≡ all_turns lines
all_ends traffic faults limit found history number [] [] [] fresh are made = refl
all_ends traffic faults limit found history number [] [] (e ∷ es) fresh are made = absurd are
all_ends traffic faults limit found history number [] (j ∷ js) ended fresh are made = absurd fresh
all_ends traffic faults limit found history number (l ∷ ls) [] ended fresh are made = absurd fresh
all_ends traffic faults limit found history number (l ∷ ls) (j ∷ js) [] fresh are made = absurd are
all_ends traffic faults limit found history number (l ∷ ls) (j ∷ js) (e ∷ es) fresh are made =
    let both = one_made e.end (all_made (ends_of es)) made in
    λ i. both.0 i ∷ all_ends traffic faults limit found history (number + 1) ls js es fresh.1 are.1 both.1 i

-- no configuration was read
read_nothing : (fault : Option ℕ) (text : List ℕ) (x : Exchange) (status : ℕ) → (status ≡ 3) ⊎ (status ≡ 5) ⊎ (status ≡ 6) → EndsAs (outside_end fault_line fault) x status × Appends x.written x.written' (last_text (outside_end fault_line fault))
    → EndsAs (outside_end fault_line fault) x status × Appends x.written x.written' (unless_fault fault text ++ last_text (outside_end fault_line fault))
read_nothing None text x status (inl three) h = absurd (let zero = h.0.0 in omega arith)
read_nothing None text x status (inr (inl five)) h = absurd (let zero = h.0.0 in omega arith)
read_nothing None text x status (inr (inr six)) h = absurd (let zero = h.0.0 in omega arith)
read_nothing (Some line) text x status only h = h

-- a configuration was read, and all texts were written
wrote_all : (fault : Option ℕ) (text : List ℕ) (x : Exchange) (status : ℕ) → fault ≡ None → status ≡ 0 → IsAtEnd x.left' → Appends x.written x.written' text
    → EndsAs (outside_end fault_line fault) x status × Appends x.written x.written' (unless_fault fault text ++ last_text (outside_end fault_line fault))
wrote_all None text x status none zero end wrote = ((zero, end), subst (λ (t : List ℕ). Appends x.written x.written' t) (sym (append-nil text)) wrote)
wrote_all (Some line) text x status none zero end wrote = absurd (cc none)

module _ {L : Type 0} (traffic : L → Option Traffic) (faults name : L → ℕ) (limit : ℕ) (x : Exchange) (old new : PortsSeen L) (status : ℕ) (none : NoneRose x old.faults new.faults) where
  unread : ReadsNoSetup x.left x.left' x.written x.written' x.reads x.reads' x.writes x.writes' status → Finishes serve_due x status
  unread r = ⊎_elim (λ (six : status ≡ 6). inl six)
      (λ (h : IfSome x.left (λ bytes. EndsAs (read_due bytes).end x status × Appends x.written x.written' (full_text (read_due bytes)))).
      inr (if_some x.left _ _ (λ b e. read_nothing (configuration_of b).fault _ x status r.only e) h))
      (finishes read_due read_part x status r.statuses none.reads none.writes)

  acted : ActsOn traffic faults name limit x.left x.left' x.written x.written' x.writes x.writes' old new status → Finishes serve_due x status
  acted on = by on.acts.only
    where
      by : (status ≡ 0) ⊎ (status ≡ 4) ⊎ (status ≡ 6) ⊎ (status ≡ 7) → Finishes serve_due x status
      by (inl zero) =
          let setup = (configuration_of on.bytes).setup in
          let done = on.acts.done zero in
          let ends : ends_of done.0 ≡ all_turns setup.ports = all_ends traffic faults limit 0 done.1.served.history 1 setup.ports done.1.jobs done.0 done.1.fresh done.1.served.each done.2 in
          inr (Consumes-whole x.left x.left' on.bytes (λ bytes. EndsAs (serve_due bytes).end x status × Appends x.written x.written' (full_text (serve_due bytes))) on.consumed on.at_end
          (wrote_all (configuration_of on.bytes).fault _ x status on.whole zero on.at_end
          (subst (λ (e : List SessionEnd). Appends x.written x.written' (first_text setup.calls ++ ends_text 1 e)) ends done.3)))
      by (inr (inl four)) = absurd (none.writes (on.acts.sink four))
      by (inr (inr (inl six))) = inl six
      by (inr (inr (inr seven))) = absurd (none.ports (on.acts.ports seven))

  pub serve_finishes : Serves traffic faults name limit x old new status → Finishes serve_due x status
  serve_finishes s = ⊎_elim (λ (no : ReadsNoSetup x.left x.left' x.written x.written' x.reads x.reads' x.writes x.writes' status × (new ≡ old)). unread no.0) acted s.came

  pub serve_inside : Serves traffic faults name limit x old new status → IsInside status
  serve_inside s = by (s.complete none.reads none.writes none.ports)
    where
      by : (status ≡ 0) ⊎ (status ≡ 5) ⊎ (status ≡ 6) → IsInside status
      by (inl zero) = inl zero
      by (inr (inl five)) = inr (inr (inl five))
      by (inr (inr six)) = inr (inr (inr (inl six)))
