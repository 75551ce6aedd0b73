-- How the packets of a layered track are read, by the id of the header extension element that has the dependency descriptor: the format of
-- `packet_format`, not unfolded, so that no proof above it opens a grammar.
use Rattle.std.specs.Prelude.{ℕ}
use Rattle.forwarding_model.specs.frames.Reading.{Format}
use Rattle.dd_structure.specs.TemplateStructure.{TemplateStructure}
use Rattle.packet_format.specs.Formats.{format_of as the_format}

unfoldable pub format_of : ℕ → Format TemplateStructure
format_of id = the_format id
