-- If no packet is queued for the active leg, a key start of the chosen leg is forwarded.
use Rattle.std.proofs.Common.{◌≡◌, ℕ, List, [], ◌∷◌, ◌++◌, refl, sym, ap, ◌∙◌}
use Rattle.std.proofs.lemmas.List.{append-nil, append_assoc}
use Rattle.room_core.specs.Given.{given_to}
use Rattle.room_core.specs.History.{accepted}
use Rattle.room_core.specs.SentBytes.{going_out}
use Rattle.room_core.proofs.Promising.{headline}
use Rattle.leg_switch.specs.Marks.{marks_of}
use Rattle.leg_switch.proofs.Ending.{active_gave, key_starts_go_out}
use Rattle.simulcast.specs.Changes.{KeyStartsGoOut, standing_of}
use Rattle.simulcast.proofs.LastPackets.{last_ends}
use Rattle.simulcast.proofs.Waiting.{all_out}

pub change_happens : KeyStartsGoOut
change_happens s active n key formed legs is at none key_is =
    let leg = legs active n at in
    let gave = active_gave (marks_of s.made.id) s.made.events active is in
    let numbered = (headline s.history formed).all n leg.subscriber leg.live in
    let out : given_to n (accepted s.history) ++ [] ≡ going_out n leg.subscriber (accepted s.history) =
    all_out (accepted s.history) n leg.subscriber [] (record { live = leg.live; numbered = numbered; waits = none }) in
    let whole : going_out n leg.subscriber (accepted s.history) ≡ (leg.before ++ gave.0) ++ gave.1 ∷ [] =
    sym out ∙ append-nil (given_to n (accepted s.history)) ∙ leg.given_is ∙ ap (λ (l : List (List ℕ)). leg.before ++ l) gave.2
    ∙ sym (append_assoc leg.before gave.0 (gave.1 ∷ [])) in
    key_starts_go_out (marks_of s.made.id) s.made.events active (standing_of s.made).chosen gave.0 gave.1 key is refl gave.2
    (last_ends (accepted s.history) formed s.made.id n leg.subscriber leg.live leg.kind_is (leg.before ++ gave.0) gave.1 whole) key_is
