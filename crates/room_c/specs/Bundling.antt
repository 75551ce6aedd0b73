-- The effects of the functions on bundles.
use Rattle.std.specs.Prelude.{◌≡◌, ℕ, List, ◌⊎◌, ◌<◌, length, Option, Some, None, Result}
use Rattle.simulcast.specs.declared.fault.BundleFault.{BundleFault}
use Rattle.simulcast.specs.declared.pumped.Pumped.{Pumped}
use Rattle.simulcast.specs.Made.{Made}
use Rattle.simulcast.specs.Bundles.{Bundled, BundlesHeadline, Chooses, Draws, PleasesReceivers, PumpsOne, Redraws, StarvesBy}
use Rattle.room_c.specs.declared.code.Code.TheVariants.{NoRoom}
use Rattle.room_c.specs.declared.home.Home.{Home}
use Rattle.room_c.specs.declared.plain_reply.PlainReply.{PlainReply}
use Rattle.room_c.specs.Recording.{never, unrecorded}
use Rattle.room_c.specs.Numbers.{bare_of, done_reply, drawn_reply, pumped_reply}

-- Through a handle with a room, the relation holds between the room before and the
-- room after. Through a handle without one, the reply says so, and nothing changes.
abbrev pub Through : (Home → Home → PlainReply → Type 0) → Option Home → Option Home → PlainReply → Type 0
Through does None new rc = (rc ≡ bare_of NoRoom) × (new ≡ None)
Through does (Some old) None rc = ⊥
Through does (Some old) (Some new) rc = does old new rc

-- This bundle is made, unless the call is refused.
pub record MakesAs (made : Made) (old new : Home) (rc : PlainReply) : Type 0 where
  pub answer : Result (Unit {0}) BundleFault
  pub bundled : Bundled unrecorded old.bundles new.bundles made answer
  pub reply_is : rc ≡ done_reply answer

abbrev pub Makes : Made → Option Home → Option Home → PlainReply → Type 0
Makes made old new rc = Through (MakesAs made) old new rc

-- The leg of the bundle is chosen, unless the call is refused. The room doesn't run out of memory.
pub record ChoosesAs (number leg : ℕ) (old new : Home) (rc : PlainReply) : Type 0 where
  pub answer : Result (Unit {0}) BundleFault
  pub chooses : Chooses unrecorded old.bundles new.bundles number leg answer
  pub memory : StarvesBy never old.bundles answer
  pub reply_is : rc ≡ done_reply answer

abbrev pub ChoosesLegOf : (number leg : ℕ) → Option Home → Option Home → PlainReply → Type 0
ChoosesLegOf number leg old new rc = Through (ChoosesAs number leg) old new rc

-- The bundle's legs are drained by its rule, and a strict receiver has no complaint about the packets that the bundles send.
pub record PumpsAs (number : ℕ) (old new : Home) (rc : PlainReply) : Type 0 where
  pub answer : Result Pumped BundleFault
  pub pumps : PumpsOne unrecorded old.bundles new.bundles number answer
  pub pleases : PleasesReceivers unrecorded new.bundles
  pub headline : BundlesHeadline unrecorded new.bundles
  pub memory : StarvesBy never old.bundles answer
  pub reply_is : rc ≡ pumped_reply answer

abbrev pub Pumps : ℕ → Option Home → Option Home → PlainReply → Type 0
Pumps number old new rc = Through (PumpsAs number) old new rc

-- The bundle's next packet is drawn into the scratch.
pub record DrawsAs (number : ℕ) (old new : Home) (rc : PlainReply) : Type 0 where
  pub answer : Result ℕ BundleFault
  pub draws : Draws unrecorded old.bundles new.bundles number new.scratch.packet answer
  pub reply_is : rc ≡ drawn_reply (length new.scratch.packet) answer

abbrev pub DrawsFrom : ℕ → Option Home → Option Home → PlainReply → Type 0
DrawsFrom number old new rc = Through (DrawsAs number) old new rc

-- The packet that was drawn with this sequence number is in the scratch again, and no bundle changes.
pub record RedrawsAs (number seq : ℕ) (old new : Home) (rc : PlainReply) : Type 0 where
  pub answer : Result (Unit {0}) BundleFault
  pub redraws : Redraws unrecorded old.bundles number seq new.scratch.packet answer
  pub same : new.bundles ≡ old.bundles
  pub reply_is : rc ≡ drawn_reply (length new.scratch.packet) answer

abbrev pub RedrawsFrom : (number seq : ℕ) → Option Home → Option Home → PlainReply → Type 0
RedrawsFrom number seq old new rc = Through (RedrawsAs number seq) old new rc

-- a bundle can't have this number of legs
abbrev pub IsNoCount : List ℕ → Type 0
IsNoCount legs = (length legs < 2) ⊎ (3 < length legs)
