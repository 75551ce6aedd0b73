use Rattle.std.proofs.Common.{ℕ, ◌%◌, ◌^◌, List, ◌++◌, length, refl, sym, ap, ◌∙◌}
use Rattle.std.specs.Int.{to_le_bytes, w16, w32}
use Rattle.std.specs.List.{flat_map}
use Rattle.ivf_recorder.specs.Units.{rate_bytes, signature, unit_bytes, units_of}
use Rattle.ivf_recorder.proofs.file.IvfFile.set_size.Goals as goal

pub returns : goal.returns
returns c = record {
  updated = λ size contents is.
      let w = to_le_bytes w16 (size.width % 65536) in
      let h = to_le_bytes w16 (size.height % 65536) in
      let rest = rate_bytes ++ (to_le_bytes w32 (length (units_of contents) % 2 ^ 32) ++ (to_le_bytes w32 0 ++ flat_map unit_bytes (units_of contents))) in
      let first = c.put_at.ensures.put signature w (h ++ rest) is.bytes refl (sym (ap length c.to_le_bytes.ensures)) in
      let second = c.put_at-2.ensures.put (signature ++ to_le_bytes w16 (c.args.width % 65536)) h rest
      (first ∙ ap (λ (x : List ℕ). signature ++ (x ++ (h ++ rest))) c.to_le_bytes.ensures) refl (sym (ap length c.to_le_bytes-2.ensures)) in
      record {
        bytes = second ∙ ap (λ (x : List ℕ). (signature ++ to_le_bytes w16 (c.args.width % 65536)) ++ (x ++ rest)) c.to_le_bytes-2.ensures;
        count = is.count;
        newest = is.newest;
      };
}
