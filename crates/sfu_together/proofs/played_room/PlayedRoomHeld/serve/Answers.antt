use Rattle.std.specs.Prelude.{Option}
use Rattle.std.proofs.Common.{◌≡◌, List, [], ◌∷◌, sym, subst}
use Rattle.std.proofs.lemmas.List.{map-append}
use Rattle.sfu_base.specs.Answer.{is_starved}
use Rattle.room_core.specs.History.{Entry}
use Rattle.room_core.specs.Noted.{Noted}
use Rattle.room_core.specs.Serves.{Stands}
use Rattle.room_core.specs.declared.room.Room.{Room}
use Rattle.turn_lock.specs.History.{entry}
use Rattle.sfu_together.specs.Turns.{entry_of, entries_of}
use Rattle.sfu_together.proofs.played_room.PlayedRoomHeld.serve.Goals as goal

-- a room that represents a history represents an equal one
stands_too : {R : Type 0} {noted : R → Option (List Noted)} {room : Room R} {one other : List Entry} → one ≡ other → Stands noted room one → Stands noted room other
stands_too {R} {noted} {room} same = subst (λ (entries : List Entry). Stands noted room entries) same

pub returns : goal.returns
returns c = λ history stands.
    let e = entry c.args.seat c.args.call.now (is_starved c.serve.result) in
    let before = entries_of history in (
      stands_too (sym (map-append entry_of history (e ∷ []))) (c.serve.ensures.serves.stands before stands),
      c.serve.ensures.serves.answered before stands,
    )
