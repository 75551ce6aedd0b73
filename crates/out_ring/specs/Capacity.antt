-- What contracts see of a store of packets that rings share.
use Rattle.std.specs.Prelude.{ℕ}

pub record Capacity : Type 0 where
  pub all : ℕ  -- how many packets it has buffers for, shared or not
  pub free : ℕ  -- how many of those buffers are free
