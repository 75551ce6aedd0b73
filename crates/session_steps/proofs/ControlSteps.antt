-- The steps of a controller's session.
use Rattle.std.proofs.Common.{◌≡◌, ◌<◌, ℕ, zero, suc, Bool, true, false, List, Option, cond, refl, ap, sym, ◌∙◌, arith}
use Rattle.std.specs.Prelude.{None, Some, codes, is_some}
use Rattle.sfu_base.specs.Answer.{answer_of}
use Rattle.sfu_base.specs.Links.{datagram}
use Rattle.sfu_base.specs.declared.call.Call.{Call}
use Rattle.sfu_base.specs.declared.call.Reply.{Reply}
use Rattle.sfu_script.specs.Replies.{IsShort, answer_text}
use Rattle.session_steps.specs.declared.session.Output.TheVariants.{Packet}
use Rattle.session_steps.specs.Controlling.{controlling, controlling_calls}
use Rattle.session_steps.specs.Datagrams.{control_call, fault_line, if_control, is_control, text_for}
use Rattle.session_steps.specs.Sessions.{answers, control_deed}
use Rattle.session_steps.specs.Stepping.{GoesOn, IsReplyIn, Waits, answered, heard}

pub waits : (turns : ℕ) → Waits (control_deed turns) turns
waits zero = tt
waits (suc turns) = tt

-- the reply to a datagram that isn't a line
pub faults : (said read : Option Call) (turns : ℕ) (came : Bool) (bytes out : List ℕ) (moment : ℕ) → Waits (controlling said 0) 0 → came ≡ true → read ≡ control_call bytes → is_some read ≡ false → out ≡ codes "fault line"
    → GoesOn (heard (controlling said (suc turns)) (datagram came bytes) moment) (controlling read turns) out Packet
faults None None turns true bytes out moment waits did has none is = (fault_line, ap (λ (o : Option Call). answers o (control_deed turns)) (sym has), is)
faults (Some said) read turns came bytes out moment waits did has none is = absurd waits
faults None (Some said) turns came bytes out moment waits did has none is = absurd (cc none)
faults None None turns false bytes out moment waits did has none is = absurd (cc did)

only_control : (b : Bool) (said other : Call) → is_control said ≡ b → cond b (Some said) None ≡ Some other → is_control other ≡ true
only_control true said other e is = let same : said ≡ other = cc is in ap is_control (sym same) ∙ e
only_control false said other e is = absurd (cc is)

-- a call that is read from a control line is a control call
pub controls_only : (o : Option Call) (said : Call) → if_control o ≡ Some said → is_control said ≡ true
controls_only None said is = absurd (cc is)
controls_only (Some other) said is = only_control (is_control other) other said refl is

-- the answer to a line's call is a text
pub short : (said : Option Call) (given : Reply) (bytes names : List ℕ) → if_control said ≡ said → IsReplyIn (controlling said 0) given bytes names → IsShort given
short None given bytes names is replied = absurd replied
short (Some said) given bytes names is replied = replied.text (controls_only (Some said) said is)

pub says : (said : Option Call) (turns : ℕ) (given : Reply) (bytes names out : List ℕ) → IsReplyIn (controlling said 0) given bytes names → out ≡ answer_text (answer_of given bytes names)
    → GoesOn (answered (controlling said turns) (answer_of given bytes names)) (control_deed turns) out Packet
says None turns given bytes names out replied is = absurd replied
says (Some said) turns given bytes names out replied is = (text_for (answer_of given bytes names), refl, is)

pub fewer : (said : Option Call) (given : Reply) (bytes names : List ℕ) → IsReplyIn (controlling said 0) given bytes names → 0 < controlling_calls said
fewer None given bytes names replied = absurd replied
fewer (Some said) given bytes names replied = omega arith
