use Rattle.rtx_stream.proofs.Originals.{bare_where_unpadded, one_bare}
use Rattle.rtx_stream.proofs.laws.a_packet_without_padding_is_bare.Goals as goal

pub returns-clause-one : goal.returns-clause-one
returns-clause-one c packet bare other = one_bare c.a_packet_is_read.ensures.fields packet bare other

pub returns-clause-same : goal.returns-clause-same
returns-clause-same c packet bare = bare_where_unpadded packet bare
