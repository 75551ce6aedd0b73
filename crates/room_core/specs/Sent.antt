-- The packets of a frame that are sent to a subscriber with a target, before numbering, by the kind of the track. Own
-- rules, over AV1 RTP payload format, Appendix A (active_decode_targets_bitmask). There is no other definition of it:
-- all statements about a subscriber cite it, and so does the code that queues a frame. A plain track has no frames.
use Rattle.std.specs.Prelude.{ℕ, ◌==◌, ◌||◌, Bool, false, if◌then◌else◌, List, [], ◌∷◌, Option, Some}
use Rattle.sfu_base.specs.declared.call.Kind.{Kind}
use Rattle.sfu_base.specs.declared.call.Kind.TheVariants.{Plain, Layered}
use Rattle.sfu_base.specs.declared.frame.FrameMeaning.{FrameMeaning}
use Rattle.forwarding_model.specs.declared.target.CurrentTarget.{CurrentTarget}
use Rattle.forwarding_model.specs.declared.target.CurrentTarget.TheVariants.{Open, Closed}
use Rattle.forwarding_model.specs.forwarding.Selection.{open_target}
use Rattle.forwarding_model.specs.forwarding.Timeline.{Packet}
use Rattle.forwarding_model.specs.forwarding.Outgoing.{Sender, send_marked}
use Rattle.dd_structure.specs.TemplateStructure.{TemplateStructure}
use Rattle.target_selector.specs.Masks.{mask_for}
use Rattle.packet_format.specs.Remasked.{remasked_packet}
use Rattle.packet_format.specs.CarriedMask.{carries_mask}

-- ---- the first packet

-- the frame opened the target
abbrev pub opens : FrameMeaning → CurrentTarget → Bool
opens f (Open target opened) = opened == f.number
opens f (Closed reason) = false

-- the first packet's descriptor carries a structure or a mask
abbrev pub carries_mask_first : ℕ → List Packet → Bool
carries_mask_first id [] = false
carries_mask_first id (packet ∷ rest) = carries_mask id packet.rest

-- only the first packet gets another mask
abbrev pub remasked_first : ℕ → Option TemplateStructure → ℕ → List Packet → List Packet
remasked_first id force mask [] = []
remasked_first id force mask (packet ∷ rest) = remasked_packet id force mask packet ∷ rest

-- ---- the frame

-- The packets are sent with the marker at the frame's end, as every sender of the forwarding model does. The first packet
-- gets the mask of the subscriber's targets if the frame opens the target, or if the packet carries a structure or a mask.
unfoldable pub layered_sent : ℕ → Sender TemplateStructure
layered_sent id frame target =
    send_marked (record frame {
      packets =
          if opens frame.meaning target || carries_mask_first id frame.packets
          then remasked_first id (Some frame.structure) (mask_for frame.meaning (open_target target)) frame.packets
          else frame.packets;
    }) target

abbrev pub sent : Kind → Sender TemplateStructure
sent Plain = send_marked
sent (Layered id) = layered_sent id
