-- A call that leaves nothing in the scratch has the effects of the room's `serve`, including those on the scratch.
use Rattle.std.proofs.Common.{ℕ, Ok, refl}
use Rattle.sfu_base.specs.declared.call.Call.{Call}
use Rattle.sfu_base.specs.declared.call.Reply.{Reply}
use Rattle.sfu_base.specs.declared.call.Scratch.{Scratch}
use Rattle.room_core.specs.Serves.{DoesAsServe}
use Rattle.room_core.specs.declared.recorder.KeepNone.{KeepNone}
use Rattle.simulcast.specs.Bundles.{CallsWhole}
use Rattle.simulcast.specs.declared.bundles.Bundles.{Bundles}
use Rattle.room_c.specs.Recording.{never, unrecorded}

pub whole_of : (old new : Bundles KeepNone) (seat : ℕ) (call : Call) (reply : Reply) (s : Scratch) → DoesAsServe unrecorded never old.room new.room seat call reply
    → CallsWhole unrecorded never old new seat call s s (Ok reply)
whole_of old new seat call reply s d = record {
  serves = d.serves s.packet s.names;
  headline = d.headline;
  memory = d.memory;
  last = d.last;
  recorder = d.recorder;
  packet = λ n. refl;
  names = λ n. refl;
  sendable = λ is. absurd (d.sends_none is);
}
