-- The structure that is in some arrays.
use Rattle.std.specs.Prelude.{◌≡◌, ℕ, ◌≤◌, List, length, take, map}
use Rattle.sfu_base.specs.declared.frame.Dti.{Dti}
use Rattle.dd_structure.specs.declared.layer.Layer.{Layer}
use Rattle.dd_structure.specs.declared.columns.Columns.{Columns}
use Rattle.dd_structure.specs.declared.columns.Distances.{Distances}
use Rattle.dd_structure.specs.declared.columns.Resolutions.{Resolutions}
use Rattle.dd_structure.specs.TemplateStructure.{TemplateStructure, templates_of}
use Rattle.dd_structure.specs.Reading.{guard_count}
use Rattle.dd_structure.specs.Spelling.{IsWellFormed}

abbrev pub distances_in : Distances → List ℕ
distances_in d = take d.count d.items

abbrev pub resolutions_in : Resolutions → List (ℕ × ℕ)
resolutions_in r = take r.count r.items

abbrev pub layer_column : Columns → List Layer
layer_column c = take c.template_count c.layers

abbrev pub indication_column : Columns → List (List Dti)
indication_column c = map (take c.target_count) (take c.template_count c.indications)

abbrev pub distance_column : Columns → List (List ℕ)
distance_column c = map distances_in (take c.template_count c.distances)

abbrev pub link_column : Columns → List (List ℕ)
link_column c = map (take c.chain_count) (take c.template_count c.links)

abbrev pub structure_of : Columns → TemplateStructure
structure_of c = record {
  offset = c.offset;
  target_count = c.target_count;
  chain_count = c.chain_count;
  templates = templates_of (layer_column c) (indication_column c) (distance_column c) (link_column c);
  guards = take (guard_count c.chain_count c.target_count) c.guards;
  resolutions = resolutions_in c.resolutions;
}

-- each count is at most the length of its array
pub record IsWithin (c : Columns) : Type 0 where
  pub some_target : 1 ≤ c.target_count
  pub targets : c.target_count ≤ 32
  pub chains : c.chain_count ≤ c.target_count
  pub templates : c.template_count ≤ 64
  pub layers : length c.layers ≡ 64
  pub indications : length c.indications ≡ 64
  pub distances : length c.distances ≡ 64
  pub links : length c.links ≡ 64

pub record IsWhole (c : Columns) : Type 0 where
  pub within : IsWithin c
  pub well_formed : IsWellFormed (structure_of c)

-- the columns are equal in all used entries, provided that both have the same counts
pub record HaveSameFields (a b : Columns) : Type 0 where
  pub layers : take a.template_count a.layers ≡ take a.template_count b.layers
  pub indications : map (take a.target_count) (take a.template_count a.indications) ≡ map (take a.target_count) (take a.template_count b.indications)
  pub distances : map distances_in (take a.template_count a.distances) ≡ map distances_in (take a.template_count b.distances)
  pub links : map (take a.chain_count) (take a.template_count a.links) ≡ map (take a.chain_count) (take a.template_count b.links)
  pub guards : take (guard_count a.chain_count a.target_count) a.guards ≡ take (guard_count a.chain_count a.target_count) b.guards
  pub resolutions : resolutions_in a.resolutions ≡ resolutions_in b.resolutions

pub record HaveSameCounts (a b : Columns) : Type 0 where
  pub offset : a.offset ≡ b.offset
  pub targets : a.target_count ≡ b.target_count
  pub chains : a.chain_count ≡ b.chain_count
  pub templates : a.template_count ≡ b.template_count
