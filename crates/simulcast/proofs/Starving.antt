-- If a call that allocates no memory runs out of memory, the recorder did.
use Rattle.std.proofs.Common.{◌≡◌, ◌⊎◌, inl, inr, Bool, true}
use Rattle.std.specs.Prelude.{IsTrue}
use Rattle.sfu_base.specs.Answer.{is_starved}
use Rattle.sfu_base.specs.declared.call.Call.{Call}
use Rattle.sfu_base.specs.declared.call.Reply.{Reply}
use Rattle.room_core.specs.declared.room.Room.{Room}
use Rattle.room_core.specs.Content.{TakesMemory}
use Rattle.room_core.specs.Serves.{MemoryHasCause, recorder_may_refuse}

pub starved_by : {R : Type 0} (may_refuse : R → Bool) (room : Room R) (c : Call) (given : Reply) → (TakesMemory c → ⊥) → MemoryHasCause may_refuse room c given
    → is_starved given ≡ true → IsTrue (recorder_may_refuse may_refuse room)
starved_by {R} may_refuse room c given none cause starved = go (cause starved)
  where
    go : TakesMemory c ⊎ IsTrue (recorder_may_refuse may_refuse room) → IsTrue (recorder_may_refuse may_refuse room)
    go (inl takes) = absurd (none takes)
    go (inr refuses) = refuses
