-- The kinds of errors of a UDP socket that pass with the network's state. Own rule: UDP loses datagrams, so such an error loses one.
use Rattle.std.specs.Prelude.{Bool, true, false}
use Rattle.std.specs.declared.io.ErrorKind.{ErrorKind}
use Rattle.std.specs.declared.io.ErrorKind.TheVariants.{AddrNotAvailable, ConnectionRefused, ConnectionReset, HostUnreachable, NetworkDown, NetworkUnreachable, OutOfMemory, PermissionDenied, TimedOut}

-- a datagram was lost on its way, or the network doesn't accept one now
abbrev pub is_lost : ErrorKind → Bool
is_lost AddrNotAvailable = true
is_lost ConnectionRefused = true
is_lost ConnectionReset = true
is_lost HostUnreachable = true
is_lost NetworkDown = true
is_lost NetworkUnreachable = true
is_lost OutOfMemory = true
is_lost PermissionDenied = true
is_lost TimedOut = true
is_lost _ = false
