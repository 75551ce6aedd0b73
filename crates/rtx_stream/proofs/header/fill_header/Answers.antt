use Rattle.std.proofs.Common.{is_some}
use Rattle.rtx_stream.proofs.LaidOut.{first_of, put_together, tail_laid}
use Rattle.rtx_stream.proofs.header.fill_header.Goals as goal

pub returns-clause-header : goal.returns-clause-header
returns-clause-header c is =
    let p = c.args.read.now in
    put_together _ _ _ _ _ _ _ _ _ _ _ _ _ _ _ _ _ c.fill.ensures c.append.ensures c.append-2.ensures c.append-3.ensures c.append-4.ensures
    (c.without_padding_bit.ensures (is_some is.filler) (is_some p.profile) is.csrc_words is.few_csrcs (first_of _ _ is))
    c.marked.ensures c.to_be_bytes.ensures c.to_be_bytes-2.ensures c.to_be_bytes-3.ensures (tail_laid _ _ is _ (c.header_len.ensures is))
