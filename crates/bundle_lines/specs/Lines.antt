-- The meaning of lines in scripts with bundles: the table of lines. Own rule.
use Rattle.std.specs.Prelude.{◌≡◌, ℕ, ◌⊎◌, List, [], ◌∷◌, map, take, codes}
use Rattle.script_texts.specs.Grammar.{Place, Word, Number, Ssrc, Spells}
use Rattle.script_texts.specs.Lines.{places}
use Rattle.bundle_lines.specs.declared.line.BundleLine.{BundleLine}
use Rattle.bundle_lines.specs.declared.line.BundleLine.TheVariants.{Room, Bundle, Choose, Pump, Draw, Redraw}

-- the places of a line; a bundle's line has only the first `count` legs
abbrev pub line_places : BundleLine → List Place
line_places (Room call) = places call
line_places (Bundle bundle id ssrc first legs count) =
    Word (codes "bundle") ∷ Number 32 bundle ∷ Number 8 id ∷ Ssrc ssrc ∷ Number 16 first ∷ map (λ leg. Number 32 leg) (take count legs)
line_places (Choose bundle leg) = Word (codes "choose") ∷ Number 32 bundle ∷ Number 8 leg ∷ []
line_places (Pump bundle) = Word (codes "pump") ∷ Number 32 bundle ∷ []
line_places (Draw bundle) = Word (codes "draw") ∷ Number 32 bundle ∷ []
line_places (Redraw bundle seq) = Word (codes "redraw") ∷ Number 32 bundle ∷ Number 16 seq ∷ []

-- The first two numbers are legs and the third is 0, or all three are legs.
abbrev pub AreLegs : List ℕ → ℕ → Type 0
AreLegs (one ∷ two ∷ three ∷ []) count = ((count ≡ 2) × (three ≡ 0)) ⊎ (count ≡ 3)
AreLegs legs count = ⊥

abbrev pub HasLegs : BundleLine → Type 0
HasLegs (Bundle bundle id ssrc first legs count) = AreLegs legs count
HasLegs said = Unit {0}

-- The line has this meaning: it is a call's line, or a line about a bundle; a new bundle has two or three legs.
pub record IsBundleLine (said : BundleLine) (line : List ℕ) : Type 0 where
  pub legs : HasLegs said
  pub spelled : Spells (line_places said) line
