-- The rest of a deed after a call's reply, and by what is due.
use Rattle.std.proofs.Common.{◌≡◌, ◌≢◌, ℕ, ◌+◌, ◌%◌, Bool, true, if◌then◌else◌, ◌&&◌, List, [], ◌∷◌, length, Option, refl, ap}
use Rattle.std.specs.Prelude.{Some}
use Rattle.sfu_base.specs.Answer.{Named, KeyIs, answer_of}
use Rattle.sfu_base.specs.declared.call.Reply.{Reply}
use Rattle.sfu_base.specs.declared.call.Reply.TheVariants as reply
use Rattle.rtx_stream.specs.declared.retransmission.Rtx.{Rtx}
use Rattle.session_steps.specs.Deeds.{Post}
use Rattle.session_steps.specs.Datagrams.{Bytes, NackFor, PliFor}
use Rattle.session_steps.specs.Sessions.{Doing, sends_on, resends, resent, nacks, is_due, pleads}

-- ---- a packet was returned, or not

pub sends_packet : (given : Reply) (bytes numbers : List ℕ) (more next : Doing) → given ≡ reply.Packet → sends_on (answer_of given bytes numbers) more next ≡ Post (Bytes bytes) more
sends_packet given bytes numbers more next is = ap (λ (r : Reply). sends_on (answer_of r bytes numbers) more next) is

pub resends_packet : (way : Option Rtx) (number : ℕ) (given : Reply) (bytes numbers : List ℕ) (next : ℕ → Doing) → given ≡ reply.Packet
    → resends way number (answer_of given bytes numbers) next ≡ Post (resent way number bytes) (next ((number + 1) % 65536))
resends_packet way number given bytes numbers next is = ap (λ (r : Reply). resends way number (answer_of r bytes numbers) next) is

-- ---- missing numbers

pub nacks_some : (ssrc : ℕ) (names : List ℕ) (next : Doing) → length names ≢ 0 → nacks ssrc (Named names) next ≡ Post (NackFor ssrc names) next
nacks_some ssrc [] next some = absurd (some refl)
nacks_some ssrc (name ∷ names) next some = refl

pub nacks_names : (ssrc : ℕ) (given : Reply) (bytes numbers : List ℕ) (next : Doing) → given ≡ reply.Names → nacks ssrc (answer_of given bytes numbers) next ≡ nacks ssrc (Named numbers) next
nacks_names ssrc given bytes numbers next is = ap (λ (r : Reply). nacks ssrc (answer_of r bytes numbers) next) is

-- ---- a key frame

pub pleads_key : (ssrc moment : ℕ) (pleaded : Option ℕ) (given : Reply) (wanted : Bool) (bytes numbers : List ℕ) (next : Option ℕ → Doing) → given ≡ reply.Key wanted
    → pleads ssrc moment pleaded (answer_of given bytes numbers) next ≡ pleads ssrc moment pleaded (KeyIs wanted) next
pleads_key ssrc moment pleaded given wanted bytes numbers next is = ap (λ (r : Reply). pleads ssrc moment pleaded (answer_of r bytes numbers) next) is

both_due : (wanted due : Bool) (post later : Doing) → wanted ≡ true → due ≡ true → (if wanted && due then post else later) ≡ post
both_due wanted due post later w d = (λ i. if w i && d i then post else later)

pub pleads_now : (ssrc moment : ℕ) (pleaded : Option ℕ) (wanted : Bool) (next : Option ℕ → Doing) → wanted ≡ true → is_due 500 moment pleaded ≡ true
    → pleads ssrc moment pleaded (KeyIs wanted) next ≡ Post (PliFor ssrc) (next (Some moment))
pleads_now ssrc moment pleaded wanted next w d = both_due wanted (is_due 500 moment pleaded) (Post (PliFor ssrc) (next (Some moment))) (next pleaded) w d
