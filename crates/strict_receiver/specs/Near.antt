-- Distances to the frames that a frame may refer to. AV1 RTP payload format, Appendix A (frame_fdiff).
use Rattle.std.specs.Prelude.{◌&&◌, ℕ, List, Bool, nat_le, take}
use Rattle.std.specs.List.{list_all}

abbrev pub is_near : ℕ → Bool
is_near d = nat_le 1 d && nat_le d 4096

-- the first `count` distances are 1 to 4,096
abbrev pub are_near : ℕ → List ℕ → Bool
are_near count distances = list_all is_near (take count distances)
