use Rattle.std.proofs.Common.{◌++◌, [], ◌∷◌, ℕ, List, sym, ap, ◌∙◌}
use Rattle.sfu_base.specs.Answer.{is_starved}
use Rattle.script_texts.specs.Replies.{answer_text}
use Rattle.room_core.specs.History.{Entry, reply_of}
use Rattle.sfu_program.proofs.ServeTurns.{entries_made, given, made_one}
use Rattle.sfu_program.proofs.serve.opening.make_call.Goals as goal

pub returns-in-Ok-add_reply-clause-made : goal.returns-in-Ok-add_reply-clause-made
returns-in-Ok-add_reply-clause-made g c = λ calls made.
    let turn = c.in-Ok.ensures.ok in
    let reply = c.in-Ok.turn.reply in
    let fed = sym c.wants_memory.ensures ∙ c.if-wants_memory.false in
    let gives = given c.args.turns.now calls c.args.seat.now c.turn.new.seat c.requires.fits c.turn.ensures.fits made c.args.call.now (is_starved reply) c.in-Ok.turn.place _ turn fed in (
      made_one c.args.turns.now calls c.args.seat.now c.turn.new.seat c.requires.fits c.turn.ensures.fits made c.args.call.now (is_starved reply) c.in-Ok.turn.place _ turn fed,
      c.in-Ok-add_reply.ensures.ok
          ∙ ap (λ (text : List ℕ). c.args.ready.now ++ (text ++ 10 ∷ [])) (ap answer_text (gives.answered fed ∙ ap (λ (h : List Entry). reply_of h c.args.call.now) (entries_made calls))),
    )
