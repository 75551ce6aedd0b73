-- The value that the fields of a table represent, and what always holds for these fields.
use Rattle.std.specs.Prelude.{◌≡◌, ◌+◌, ◌<◌, ◌≤◌, ◌^◌, IfSome, None}
use Rattle.forwarding_model.specs.frames.Frames.{Force}
use Rattle.dd_structure.specs.TemplateStructure.{TemplateStructure}
use Rattle.dd_structure.specs.Spelling.{IsWellFormed}
use Rattle.dd_layout.specs.Layouts.{layout_of}
use Rattle.frame_table.specs.declared.table.FrameTable.TheInside.{Inside}

abbrev pub in_force : Inside → Force TemplateStructure
in_force t = record { structure = t.structure; mask = t.mask; epoch = t.epoch; start = t.start; newest = t.newest }

-- the kept layout is that of the structure
pub record IsLaidOut (t : Inside) (s : TemplateStructure) : Type 0 where
  pub targets : t.target_count ≡ s.target_count
  pub chains : t.chain_count ≡ s.chain_count
  pub pairs : t.pairs ≡ (layout_of s).pairs
  pub guards : t.guards ≡ (layout_of s).guards
  pub mask : t.mask < 2 ^ s.target_count
  pub well_formed : IsWellFormed s

pub record IsKept (t : Inside) : Type 0 where
  pub laid_out : IfSome t.structure (IsLaidOut t)
  pub before : t.structure ≡ None → t.epoch ≡ 0
  pub epochs : t.epoch ≤ t.start + 1
  pub start : t.start ≤ t.newest
