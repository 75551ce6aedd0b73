-- The greatest layers, template by template.
use Rattle.std.proofs.Common.{◌≡◌, ℕ, ◌+◌, ◌<◌, max, Bool, true, false, cond, List, [], ◌∷◌, length, drop, get_or, Option, Some, None, refl, sym, ap, ◌∙◌, arith}
use Rattle.std.specs.List.{filter}
use Rattle.std.proofs.lemmas.List.{drop_more}
use Rattle.sfu_base.specs.declared.frame.Wish.{Wish}
use Rattle.dd_structure.specs.TemplateStructure.{Template}
use Rattle.dd_structure.specs.Pair.{joined, layer_where, greatest_of}

joined_assoc : (a b c : Option Wish) → joined (joined a b) c ≡ joined a (joined b c)
joined_assoc None b c = refl
joined_assoc (Some a) None c = refl
joined_assoc (Some a) (Some b) None = refl
joined_assoc (Some a) (Some b) (Some c) =
    let s : max (max a.spatial b.spatial) c.spatial ≡ max a.spatial (max b.spatial c.spatial) = omega arith in
    let t : max (max a.temporal b.temporal) c.temporal ≡ max a.temporal (max b.temporal c.temporal) = omega arith in
    rw (s, t) refl

-- one more template among those that are present
greatest_more : (t : Template) (ts : List Template) → greatest_of (t ∷ ts) ≡ joined (layer_where true t.layer) (greatest_of ts)
greatest_more t [] =
    let s : max t.layer.spatial 0 ≡ t.layer.spatial = omega arith in
    let e : max t.layer.temporal 0 ≡ t.layer.temporal = omega arith in
    rw (s, e) refl
greatest_more t (u ∷ ts) = refl

filtered : (p : Template → Bool) (t : Template) (ts : List Template) → greatest_of (filter p (t ∷ ts)) ≡ joined (layer_where (p t) t.layer) (greatest_of (filter p ts))
filtered p t ts = by_test (p t)
  where
    by_test : (b : Bool) → greatest_of (cond b (t ∷ filter p ts) (filter p ts)) ≡ joined (layer_where b t.layer) (greatest_of (filter p ts))
    by_test true = greatest_more t (filter p ts)
    by_test false = refl

-- a step of a loop over the templates
pub pair_step : (p : Template → Bool) (ts : List Template) (i : ℕ) (d : Template) (best total : Option Wish) → i < length ts → joined best (greatest_of (filter p (drop i ts))) ≡ total
    → joined (joined best (layer_where (p (get_or ts i d)) (get_or ts i d).layer)) (greatest_of (filter p (drop (i + 1) ts))) ≡ total
pair_step p ts i d best total lt e =
    joined_assoc best (layer_where (p (get_or ts i d)) (get_or ts i d).layer) (greatest_of (filter p (drop (i + 1) ts)))
    ∙ ap (joined best) (sym (ap (λ (xs : List Template). greatest_of (filter p xs)) (drop_more ts i d lt) ∙ filtered p (get_or ts i d) (drop (i + 1) ts))) ∙ e
