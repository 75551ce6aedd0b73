-- The state of a chain at a frame (AV1 RTP payload format, Appendix A: decode_target_protected_by, frame_chain_fdiff). Own
-- rule: a distance of 0 doesn't break the chain, nor does a distance to a frame before the one at which the target was opened.
use Rattle.std.specs.Prelude.{◌≡◌, ◌-◌, ◌==◌, ◌||◌, ℕ, List, Bool, true, false, if◌then◌else◌, map}
use Rattle.std.specs.Int.{bit_at}
use Rattle.sfu_base.specs.declared.frame.FrameMeaning.{FrameMeaning}
use Rattle.forwarding_model.specs.forwarding.Selection.{chain_link, is_link_broken}
use Rattle.forwarding_model.specs.forwarding.Standing.{has_below as has_frame_below}
use Rattle.ref_window.specs.Numbers.{AreBelow, IsAboveAll, held_of}
use Rattle.chain_state.specs.declared.LinkState.{LinkState}
use Rattle.chain_state.specs.declared.LinkState.TheVariants.{Intact, Broken}

-- the state of the chain that protects the target, which was opened at the frame `opened`;
-- the first argument says for each distance whether the frame at that distance was forwarded
abbrev pub link_of : (ℕ → Bool) → FrameMeaning → ℕ → ℕ → LinkState
link_of has f target opened = if is_link_broken has f target opened then Broken (f.number - chain_link f target) else Intact

abbrev pub number_of : FrameMeaning → ℕ
number_of f = f.number

abbrev pub numbers_of : List FrameMeaning → List ℕ
numbers_of frames = map number_of frames

-- there are no chains, or bit d of the mask is set, where d is the target's distance in its chain
abbrev pub is_linked : FrameMeaning → ℕ → ℕ → Bool
is_linked f target mask = f.chain_count == 0 || bit_at mask (chain_link f target) == 1

-- Suppose that the test holds, that f is above all forwarded frames, and that each bit of the
-- mask stands for one of them. Then the chain is intact, whichever frame opened the target.
abbrev pub LinkedIsIntact : Type 0
LinkedIsIntact = (frames : List FrameMeaning) (f : FrameMeaning) (target opened mask : ℕ) → AreBelow (held_of (numbers_of frames)) f.number mask
    → IsAboveAll f.number (numbers_of frames) → is_linked f target mask ≡ true → is_link_broken (has_frame_below frames f.number) f target opened ≡ false
