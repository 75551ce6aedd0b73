-- A packet with another mask if it can be remasked, and otherwise unchanged.
use Rattle.std.proofs.Common.{◌≡◌, ℕ, List, sym, ap, Option, None, Some}
use Rattle.dd_structure.specs.TemplateStructure.{TemplateStructure}
use Rattle.packet_format.specs.Remasked.{or_same, remasked, remasked_bytes}

pub filled_new : (id mask : ℕ) (force : Option TemplateStructure) (bytes new : List ℕ) → remasked id force mask bytes ≡ Some new → new ≡ remasked_bytes id force mask bytes
filled_new id mask force bytes new is = sym (ap (λ (o : Option (List ℕ)). or_same o bytes) is)

pub filled_same : (id mask : ℕ) (force : Option TemplateStructure) (bytes : List ℕ) → remasked id force mask bytes ≡ None → bytes ≡ remasked_bytes id force mask bytes
filled_same id mask force bytes is = sym (ap (λ (o : Option (List ℕ)). or_same o bytes) is)
