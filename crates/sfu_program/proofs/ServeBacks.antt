-- Ports that are bound and released, one after another.
use Rattle.std.proofs.Common.{◌≡◌, ◌⊎◌, inl, inr, ◌<◌, ◌≤◌, ◌+◌, ℕ, List, [], ◌∷◌, ◌++◌, length, map, refl, sym, ap, ◌∙◌, arith, Option, Some, None, append-nil, append_assoc}
use Rattle.sfu_base.specs.Faults.{Rose}
use Rattle.sfu_base.specs.Ports.{CountsBack, after_back}
use Rattle.sfu_script.specs.declared.ports.PortLine.{PortLine}
use Rattle.sfu_base.specs.Links.{Traffic}
use Rattle.sfu_serve.specs.declared.run.Job.{Job}
use Rattle.sfu_serve.specs.Runs.{Before}
use Rattle.sfu_program.specs.ServePorts.{AreFresh, AreNamedFrom, IsFresh, NoFault, SomeFault, after_backs, befores}

-- one more line, and its job
pub fresh_more : (lines : List PortLine) (jobs : List Before) (line : PortLine) (job : Before) → AreFresh lines jobs → IsFresh line job → AreFresh (lines ++ line ∷ []) (jobs ++ job ∷ [])
fresh_more [] [] line job all one = (one, tt)
fresh_more [] (j ∷ js) line job all one = absurd all
fresh_more (l ∷ ls) [] line job all one = absurd all
fresh_more (l ∷ ls) (j ∷ js) line job all one = (all.0, fresh_more ls js line job all.1 one)

module _ {L : Type 0} (name : L → ℕ) where
  -- one more port was bound
  pub named_more : (n : ℕ) (links : List L) (link : L) → AreNamedFrom name n links → name link ≡ n + length links → AreNamedFrom name n (links ++ link ∷ [])
  named_more n [] link all is = (omega (arith, is), tt)
  named_more n (l ∷ ls) link all is = (all.0, named_more (n + 1) ls link all.1 (omega (arith, is)))

  -- links that have the same names
  pub named_as : {J E : Type 0} (f : J → L) (g : E → L) (n : ℕ) (js : List J) (es : List E) → map (λ e. name (g e)) es ≡ map (λ j. name (f j)) js → AreNamedFrom name n (map f js) → AreNamedFrom name n (map g es)
  named_as f g n [] [] same all = tt
  named_as f g n [] (e ∷ es) same all = absurd (cc same)
  named_as f g n (j ∷ js) [] same all = absurd (cc same)
  named_as f g n (j ∷ js) (e ∷ es) same all =
      let here : name (g e) ≡ name (f j) = cc same in
      let others : map (λ e. name (g e)) es ≡ map (λ j. name (f j)) js = cc same in
      (here ∙ all.0, named_as f g (n + 1) js es others all.1)

module _ {L : Type 0} where
  pub backs_none : (traffic : Option (List L)) → traffic ≡ after_backs [] traffic
  backs_none None = refl
  backs_none (Some others) = ap (λ (x : List L). Some x) (sym (append-nil others))

  -- one more port was released
  pub backs_more : (ports : List L) (port : L) (traffic : Option (List L)) → after_back port (after_backs ports traffic) ≡ after_backs (ports ++ port ∷ []) traffic
  backs_more ports port None = refl
  backs_more ports port (Some others) = ap (λ (x : List L). Some x) (append_assoc others ports (port ∷ []))

  fault_last : (faults : L → ℕ) (links : List L) (link : L) → SomeFault faults (links ++ link ∷ []) → SomeFault faults links ⊎ (0 < faults link)
  fault_last faults [] link (inl here) = inr here
  fault_last faults [] link (inr none) = absurd none
  fault_last faults (l ∷ ls) link (inl here) = inl (inl here)
  fault_last faults (l ∷ ls) link (inr later) = go (fault_last faults ls link later)
    where
      go : SomeFault faults ls ⊎ (0 < faults link) → SomeFault faults (l ∷ ls) ⊎ (0 < faults link)
      go (inl some) = inl (inr some)
      go (inr here) = inr here

  -- the count rose if one of the links has faults
  pub rose_more : (faults : L → ℕ) (links : List L) (link : L) (first before now : ℕ) → first ≤ before → (SomeFault faults links → Rose first before) → CountsBack (faults link) before now
      → SomeFault faults (links ++ link ∷ []) → Rose first now
  rose_more faults links link first before now le rose counts some = go (fault_last faults links link some)
    where
      go : SomeFault faults links ⊎ (0 < faults link) → Rose first now
      go (inl earlier) = let r = rose earlier in let n = counts.never_falls in omega arith
      go (inr here) = let r = counts.rises here in omega arith

  no_fault_last : (faults : L → ℕ) (links : List L) (link : L) → NoFault faults (links ++ link ∷ []) → NoFault faults links × (faults link ≡ 0)
  no_fault_last faults [] link none = (tt, none.0)
  no_fault_last faults (l ∷ ls) link none = let rest = no_fault_last faults ls link none.1 in ((none.0, rest.0), rest.1)

  -- the count is unchanged if none of the links has faults
  pub calm_more : (faults : L → ℕ) (links : List L) (link : L) (first before now : ℕ) → (NoFault faults links → before ≡ first) → CountsBack (faults link) before now → NoFault faults (links ++ link ∷ []) → now ≡ first
  calm_more faults links link first before now calm counts none = let both = no_fault_last faults links link none in counts.stays both.1 ∙ calm both.0

-- ports that were just bound have no faults
pub fresh_quiet : {L : Type 0} (traffic : L → Option Traffic) (faults : L → ℕ) (lines : List PortLine) (jobs : List (Job L)) → AreFresh lines (befores traffic faults jobs) → NoFault faults (map (λ job. job.link) jobs)
fresh_quiet traffic faults lines [] fresh = tt
fresh_quiet traffic faults [] (job ∷ jobs) fresh = absurd fresh
fresh_quiet traffic faults (line ∷ lines) (job ∷ jobs) fresh = (fresh.0.quiet, fresh_quiet traffic faults lines jobs fresh.1)
