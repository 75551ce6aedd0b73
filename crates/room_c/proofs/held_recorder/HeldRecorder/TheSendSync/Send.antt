-- What a handle owns may go to another thread, as a `Box<Tape>` may.
use mir.Raw.{raw}
use base.Fraction.{full_share}
use base.Shift.{Keyless}
use denote.Exit.{Exit, unchanged, leaves, hidden, under}
use denote.Memory.{lone}
use denote.RattleType.{RattleType}
use denote.RawPtr.{Ptr, block_ptr, null_ptr, lies_at}
use denote.Struct.Struct.{exits_of}
use denote.Struct.Owning.{shape, fields, to}
use denote.Param.Send.{IsSend, AllSend, Quiet, part_keyless, owning_send, struct_send, sendable}
use Rattle.std.specs.Prelude.{Option, Some, None}
use Rattle.std.specs.Global.{Global}
use Rattle.std.proofs.Crossing as heap
use Rattle.std.proofs.alloc.Global.TheSendSync as handle
use Rattle.room_c.specs.Owned.{tape_owned}
use Rattle.room_c.specs.contracts.tape.Tape as Home
use Rattle.room_c.proofs.tape.Tape.TheSendSync.{the_send as home}
use Rattle.room_c.specs.contracts.held_recorder.HeldRecorder.{the_row, the_type}

quiet : {D X : Type 0} (along : D → X) (e : Exit X) → Quiet e → Quiet (hidden (under along e))
quiet along unchanged q = λ x w. tt
quiet along (leaves L l S s r₀) q = λ d. q (along d)

lies : (R : RattleType) → IsSend R → (p : Ptr) (x : R.Denot) → Keyless (lies_at R full_share p x)
lies R s (block_ptr b o) x = part_keyless R s full_share x b o
lies R s null_ptr x = tt

owned : (alloc : Global) (p : Ptr) (o : Option (Home.the_row).Denot) → Keyless (tape_owned alloc p o)
owned alloc p None = tt
owned alloc p (Some x) = (lies Home.the_row home p x, heap.frees.frees alloc (raw (lone Home.the_row.mir)) p)

pub send : IsSend the_row
send =
    let all : AllSend (fields the_type) = (search sendable, (handle.the_field_send, tt)) in
    owning_send the_type all (λ d. owned d.alloc d.at d.tape)
    (λ k. quiet (to the_type) (exits_of k (fields the_type)) ((struct_send (shape the_type) all).leaving k))
