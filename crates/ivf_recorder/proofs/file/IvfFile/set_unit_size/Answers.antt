use Rattle.std.proofs.Common.{◌≡◌, ℕ, ◌-◌, ◌%◌, ◌^◌, List, ◌++◌, length, sym, ap, ◌∙◌, arith}
use Rattle.std.specs.Int.{to_le_bytes, w32}
use Rattle.ivf_recorder.proofs.file.IvfFile.set_unit_size.Goals as goal

pub returns-clause-updated : goal.returns-clause-updated
returns-clause-updated c = λ front size rest e at four.
    let n : c.len.result ≡ length c.args.self.now.bytes.items = omega arith in
    c.put_at.ensures.put front size rest e at (four ∙ sym (ap length c.to_le_bytes.ensures))
    ∙ ap (λ (x : List ℕ). front ++ (x ++ rest))
    (c.to_le_bytes.ensures ∙ ap (λ (l : ℕ). to_le_bytes w32 ((l - c.args.self.now.at - 12) % 2 ^ 32)) n)
