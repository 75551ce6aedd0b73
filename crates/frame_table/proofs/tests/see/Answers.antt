use Rattle.std.proofs.Common.{◌≡◌, ◌<◌, ◌^◌, ℕ, Option, Some, None, Ok, subst, arith}
use Rattle.std.specs.Prelude.{IfSome}
use Rattle.dd_structure.specs.TemplateStructure.{TemplateStructure}
use Rattle.dd_descriptor.specs.Reading.{descriptor_at}
use Rattle.dd_descriptor.specs.Seen.{content_of}
use Rattle.frame_table.proofs.tests.see.Goals as goal

pub see-requires-clause-read : goal.see-requires-clause-read
see-requires-clause-read c = record {
  bytes = c.args.bytes.now;
  reads = subst (λ (f : Option TemplateStructure). descriptor_at c.args.bytes.now f ≡ Ok (content_of f c.in-Ok.descriptor)) c.force.ensures c.in-Ok.ensures.read;
  few = c.in-Ok.ensures.few;
}

pub see-requires-clause-bound : goal.see-requires-clause-bound
see-requires-clause-bound c = small c.args.table.now.structure c.args.table.now.newest c.requires
  where
    small : (o : Option TemplateStructure) (n : ℕ) → n < 2 ^ 62 → IfSome o (λ _. n < 2 ^ 63)
    small None n low = tt
    small (Some s) n low = omega (arith, low)
