-- The question of which subscribers of a track have packets queued. Own rule.
use Rattle.std.specs.Prelude.{◌≡◌, ℕ, List, Option, Some, None, length}
use Rattle.room_core.specs.History.{Entry, accepted}
use Rattle.room_core.specs.Ready.{AreReady}
use Rattle.room_core.specs.Serves.{Stands}
use Rattle.room_c.specs.declared.code.Code.TheVariants.{NoRoom, Ready}
use Rattle.room_c.specs.declared.home.Home.{Home}
use Rattle.room_c.specs.declared.plain_reply.PlainReply.{PlainReply}
use Rattle.room_c.specs.Recording.{unrecorded}
use Rattle.room_c.specs.Numbers.{bare_of, one_of}

-- For every history that the room represents: the list has numbers of such subscribers,
-- each once, and has all of them unless it is full. The reply has their count.
pub record ReportsReady (home : Home) (track limit : ℕ) (rc : PlainReply) (listed : List ℕ) : Type 0 where
  pub asks : (history : List Entry) → Stands unrecorded home.bundles.room history → AreReady track limit (accepted history) listed
  pub exact : rc ≡ one_of Ready (length listed)

-- if the handle has no room, nothing is written
abbrev pub AsksReady : Option Home → (track limit : ℕ) → PlainReply → (listed : List ℕ) → Type 0
AsksReady None track limit rc listed = rc ≡ bare_of NoRoom
AsksReady (Some home) track limit rc listed = ReportsReady home track limit rc listed
