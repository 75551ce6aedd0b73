-- A strict receiver that has no complaint about some packets has none about a prefix of them.
use Rattle.std.proofs.Common.{◌≡◌, ℕ, List, [], ◌∷◌, ◌++◌, take, drop, map, refl, sym, ap, ◌∙◌, Option, None, Some}
use Rattle.std.proofs.lemmas.List.{map-append, take-append-drop}
use Rattle.forwarding_model.specs.declared.complaint.Complaint.{Complaint}
use Rattle.forwarding_model.specs.forwarding.Timeline.{Packet}
use Rattle.forwarding_model.specs.frames.Reading.{Format}
use Rattle.forwarding_model.specs.Receiver.{Receiver, complaint, complaint_of, receive, receive_all}
use Rattle.forwarding_model.specs.Receiver.Receiver.{Waiting, Receiving, Complaining}

module _ {S : Type 0} (format : Format S) where
  keeps_complaining : (c : Complaint) (came : List (Option Packet)) → receive_all format (Complaining c) came ≡ Complaining c
  keeps_complaining c [] = refl
  keeps_complaining c (None ∷ came) = keeps_complaining c came
  keeps_complaining c (Some p ∷ came) = keeps_complaining c came

  front_pleases : (r : Receiver S) (xs ys : List (Option Packet)) → complaint_of (receive_all format r (xs ++ ys)) ≡ None → complaint_of (receive_all format r xs) ≡ None
  front_pleases Waiting [] ys h = refl
  front_pleases (Receiving r) [] ys h = refl
  front_pleases (Complaining c) [] ys h = absurd (let no : Some c ≡ None = sym (ap complaint_of (keeps_complaining c ys)) ∙ h in cc)
  front_pleases r (x ∷ xs) ys h = front_pleases (receive format r x) xs ys h

  -- about the first packets, if there is no complaint about all packets
  pub first_please : (f : List ℕ → Option Packet) (k : ℕ) (came : List (List ℕ)) → complaint format (map f came) ≡ None → complaint format (map f (take k came)) ≡ None
  first_please f k came h =
      front_pleases Waiting (map f (take k came)) (map f (drop k came))
      (ap (complaint format) (sym (map-append f (take k came) (drop k came)) ∙ ap (map f) (take-append-drop k came)) ∙ h)
