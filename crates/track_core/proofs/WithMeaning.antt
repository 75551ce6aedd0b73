-- What an item made, with the meaning that the track keeps and without it.
use Rattle.std.proofs.Common.{◌≡◌, ◌≤◌, ℕ, refl}
use Rattle.sfu_base.specs.declared.frame.FrameMeaning.{FrameMeaning}
use Rattle.track_core.specs.declared.track.Advance.{Advance}
use Rattle.track_core.specs.declared.track.Advance.TheVariants as advance
use Rattle.track_core.specs.declared.track.Made.TheVariants as made
use Rattle.track_core.specs.Track.{gives, has_given, with_meaning}
use Rattle.track_core.proofs.Counted.{HasFew}

pub given_with_meaning : (meaning : FrameMeaning) (a : Advance) → has_given a ≡ gives (with_meaning meaning a)
given_with_meaning meaning advance.Idle = refl
given_with_meaning meaning advance.Nothing = refl
given_with_meaning meaning advance.Packet = refl
given_with_meaning meaning advance.Frame = refl

pub idle_with_meaning : (meaning : FrameMeaning) (a : Advance) → with_meaning meaning a ≡ made.Idle → a ≡ advance.Idle
idle_with_meaning meaning advance.Idle e = refl
idle_with_meaning meaning advance.Nothing e = absurd (cc)
idle_with_meaning meaning advance.Packet e = absurd (cc)
idle_with_meaning meaning advance.Frame e = absurd (let none : made.Frame meaning ≡ made.Idle = e in cc)

pub packet_with_meaning : (meaning : FrameMeaning) (a : Advance) → with_meaning meaning a ≡ made.Packet → a ≡ advance.Packet
packet_with_meaning meaning advance.Idle e = absurd (cc)
packet_with_meaning meaning advance.Nothing e = absurd (cc)
packet_with_meaning meaning advance.Packet e = refl
packet_with_meaning meaning advance.Frame e = absurd (let none : made.Frame meaning ≡ made.Packet = e in cc)

pub few_with_meaning : (meaning : FrameMeaning) (a : Advance) (n : ℕ) → (a ≡ advance.Frame → n ≤ 512) → HasFew (with_meaning meaning a) n
few_with_meaning meaning advance.Idle n few = tt
few_with_meaning meaning advance.Nothing n few = tt
few_with_meaning meaning advance.Packet n few = tt
few_with_meaning meaning advance.Frame n few = few refl
