-- A repeated call does what its last try did, since the earlier tries changed nothing that contracts see.
use Rattle.std.specs.Prelude.{ℕ, List, None, Some, Result, Ok, Err, ◌++◌}
use Rattle.std.proofs.Common.{◌∙◌, sym, ap}
use Rattle.std.specs.Prelude.{Option}
use Rattle.std.specs.Io.KnownBytes.{Appends, Consumes, Keeps, ReadConsumes, WriteAppends}
use Rattle.std.proofs.KnownBytes.{Keeps-trans}

pub keeps_on : (a b c : Option (List ℕ)) → Keeps a b → Keeps b c → Keeps a c
keeps_on a b c p q = Keeps-trans a b c p q

consumes_after : (a b c : Option (List ℕ)) (bytes : List ℕ) → Keeps a b → Consumes b c bytes → Consumes a c bytes
consumes_after None b c bytes p q = tt
consumes_after (Some x) None c bytes p q = absurd p
consumes_after (Some x) (Some y) None bytes p q = absurd q
consumes_after (Some x) (Some y) (Some z) bytes p q = sym p ∙ q

appends_after : (a b c : Option (List ℕ)) (bytes : List ℕ) → Keeps a b → Appends b c bytes → Appends a c bytes
appends_after None b c bytes p q = tt
appends_after (Some x) None c bytes p q = absurd p
appends_after (Some x) (Some y) None bytes p q = absurd q
appends_after (Some x) (Some y) (Some z) bytes p q = q ∙ ap (λ l. l ++ bytes) p

pub reads_after : {E : Type 0} (a b c : Option (List ℕ)) (r : Result ℕ E) (buf : List ℕ) → Keeps a b → ReadConsumes b c r buf → ReadConsumes a c r buf
reads_after a b c (Ok n) buf p q = (consumes_after a b c _ p q.0, q.1)
reads_after a b c (Err e) buf p q = Keeps-trans a b c p q

pub writes_after : {E : Type 0} (a b c : Option (List ℕ)) (r : Result ℕ E) (piece : List ℕ) → Keeps a b → WriteAppends b c r piece → WriteAppends a c r piece
writes_after a b c (Ok n) piece p q = appends_after a b c _ p q
writes_after a b c (Err e) piece p q = Keeps-trans a b c p q
