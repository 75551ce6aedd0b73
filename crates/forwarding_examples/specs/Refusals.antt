-- Examples that definitions in the laws reject or accept. A definition that occurs only in conclusions could become weaker, and one that occurs
-- only in assumptions narrower, and without these examples no check would fail. Own statements, over small timelines that are also in `Rows`.
use Rattle.std.specs.Prelude.{◌≡◌, ◌==◌, ℕ, List, [], ◌∷◌, if◌then◌else◌, length}
use Rattle.sfu_base.specs.declared.frame.FrameMeaning.{FrameMeaning}
use Rattle.sfu_base.specs.declared.frame.Dti.TheVariants.{Required, Switch}
use Rattle.sfu_base.specs.declared.frame.Step.{Step}
use Rattle.sfu_base.specs.declared.frame.Verdict.{Verdict}
use Rattle.sfu_base.specs.declared.frame.Verdict.TheVariants.{Passed, Reference, Link, Unopened}
use Rattle.std.specs.Prelude.{Bool, true, false}
use Rattle.std.specs.declared.option.Option.TheVariants.{Some}
use Rattle.forwarding_model.specs.forwarding.Timeline.Event.{PlainPacket, WishChange, Take}
use Rattle.forwarding_model.specs.forwarding.Standing.{Standing, standing}
use Rattle.forwarding_model.specs.forwarding.Causes.{IsPath, HaveCauses}
use Rattle.forwarding_model.specs.forwarding.Decodable.{IsDecodable}
use Rattle.forwarding_laws.specs.forwarding.Restart.{IsLinked, IsOpenAndLinked, IsRestart}
use Rattle.forwarding_model.specs.declared.target.CurrentTarget.TheVariants.{Open, Closed}
use Rattle.forwarding_model.specs.declared.target.Reason.TheVariants.{NotOpened}
use Rattle.forwarding_model.specs.frames.Frames.Item.{Missing, Arrived}
use Rattle.forwarding_laws.specs.forwarding.Since.{EachFrameSince}
use Rattle.forwarding_examples.specs.Rows.{joined_at_10, key_a, key_c, layers_wish, packet, upper_c}
use Rattle.forwarding_model.specs.History.Entry.{Released, Joined, Aimed, Asked}
use Rattle.forwarding_laws.specs.histories.HistoryWords.{NoneJoins}

abbrev pub step : ℕ → Verdict → Step
step number verdict = record { number = number; verdict = verdict }

-- no path is empty, ends too early, continues after a root, names a frame other than the next step's, or has numbers that don't fall
abbrev pub EmptyIsNoPath : Type 0
EmptyIsNoPath = IsPath [] → ⊥

abbrev pub PassedIsNoRoot : Type 0
PassedIsNoRoot = IsPath (step 1 Passed ∷ []) → ⊥

abbrev pub ReferenceIsNoRoot : Type 0
ReferenceIsNoRoot = IsPath (step 3 (Reference 2) ∷ []) → ⊥

abbrev pub LinkIsNoRoot : Type 0
LinkIsNoRoot = IsPath (step 3 (Link 3 2) ∷ []) → ⊥

abbrev pub LatePassedIsNoRoot : Type 0
LatePassedIsNoRoot = IsPath (step 3 (Reference 2) ∷ step 2 Passed ∷ []) → ⊥

abbrev pub RootsEndPaths : Type 0
RootsEndPaths = IsPath (step 3 (Unopened 1) ∷ step 2 (Unopened 1) ∷ []) → ⊥

abbrev pub PassedLeadsNowhere : Type 0
PassedLeadsNowhere = IsPath (step 3 Passed ∷ step 2 (Unopened 1) ∷ []) → ⊥

abbrev pub PathsNameTheNext : Type 0
PathsNameTheNext = IsPath (step 3 (Reference 2) ∷ step 1 (Unopened 1) ∷ []) → ⊥

abbrev pub LaterStepsNameTheNext : Type 0
LaterStepsNameTheNext = IsPath (step 4 (Reference 3) ∷ step 3 (Reference 2) ∷ step 1 (Unopened 1) ∷ []) → ⊥

abbrev pub LaterStepsFall : Type 0
LaterStepsFall = IsPath (step 4 (Reference 2) ∷ step 2 (Reference 3) ∷ step 3 (Unopened 1) ∷ []) → ⊥

abbrev pub EqualNumbersDontFall : Type 0
EqualNumbersDontFall = IsPath (step 2 (Reference 2) ∷ step 2 (Unopened 1) ∷ []) → ⊥

abbrev pub PathsFall : Type 0
PathsFall = IsPath (step 2 (Reference 3) ∷ step 3 (Unopened 1) ∷ []) → ⊥

-- a step whose verdict isn't the cause of its number
abbrev pub OthersAreNoCauses : Type 0
OthersAreNoCauses = HaveCauses (λ n. Passed) (step 3 (Reference 2) ∷ []) → ⊥

abbrev pub LaterOthersAreNoCauses : Type 0
LaterOthersAreNoCauses = HaveCauses (λ n. Reference 2) (step 3 (Reference 2) ∷ step 2 (Unopened 1) ∷ []) → ⊥

abbrev pub CausesOfOthersDontCount : Type 0
CausesOfOthersDontCount = HaveCauses (λ n. if n == 3 then Reference 2 else Unopened 1) (step 2 (Reference 2) ∷ []) → ⊥

-- a frame with this number and these references
abbrev pub plain_frame : Bool → ℕ → List ℕ → FrameMeaning
plain_frame key number refs =
    record {
      number = number;
      start = 1;
      epoch = 1;
      spatial = 0;
      temporal = 0;
      key = key;
      mask = 1;
      target_count = 1;
      dtis = Required ∷ [];
      pairs = Some (layers_wish 0 0) ∷ [];
      chain_count = 0;
      guards = [];
      links = [];
      ref_count = length refs;
      refs = refs;
    }

-- frame 3 isn't decodable without frame 2, to which it refers; a frame without references isn't decodable without a key frame; a frame that isn't
-- in the list isn't decodable
abbrev pub LacksReference : Type 0
LacksReference = IsDecodable (plain_frame false 3 (1 ∷ []) ∷ plain_frame true 1 [] ∷ []) (plain_frame false 3 (1 ∷ [])) → ⊥

-- frame 4, which refers to frame 3, isn't decodable either
abbrev pub LacksFartherReference : Type 0
LacksFartherReference =
    IsDecodable (plain_frame false 4 (1 ∷ []) ∷ plain_frame false 3 (1 ∷ []) ∷ plain_frame true 1 [] ∷ []) (plain_frame false 4 (1 ∷ [])) → ⊥

-- a frame with three references isn't decodable if the middle one is missing
abbrev pub LacksMiddleReference : Type 0
LacksMiddleReference =
    IsDecodable (plain_frame false 4 (3 ∷ 2 ∷ 3 ∷ []) ∷ plain_frame true 1 [] ∷ []) (plain_frame false 4 (3 ∷ 2 ∷ 3 ∷ [])) → ⊥

abbrev pub LacksKeyFrame : Type 0
LacksKeyFrame = IsDecodable (plain_frame false 3 [] ∷ []) (plain_frame false 3 []) → ⊥

abbrev pub IsNotThere : Type 0
IsNotThere = IsDecodable (plain_frame true 1 [] ∷ []) (plain_frame true 2 []) → ⊥

-- frame 4 is neither a switch nor a key frame, so it isn't a restart, although all its references passed
abbrev pub no_restart : FrameMeaning
no_restart = plain_frame false 4 (3 ∷ [])

abbrev pub after_key : Standing
after_key = standing {S = ℕ} (layers_wish 1 0) (key_a 1 1 ∷ [])

abbrev pub OthersAreNoRestart : Type 0
OthersAreNoRestart = IsRestart after_key no_restart → ⊥

-- a key frame that refers to a frame that didn't pass isn't a restart
abbrev pub IncompleteIsNoRestart : Type 0
IncompleteIsNoRestart = IsRestart after_key (plain_frame true 4 (2 ∷ [])) → ⊥

-- a switch for a target that it doesn't open isn't a restart: a frame of the lower layer is a switch for target 1, but target 0, which is better, is open
abbrev pub after_upper : Standing
after_upper = standing {S = ℕ} (layers_wish 1 0) (upper_c 2 1 1 (1 ∷ []) ∷ key_c 1 1 ∷ [])

abbrev pub lower_meaning : FrameMeaning
lower_meaning =
    record {
      number = 3;
      start = 1;
      epoch = 1;
      spatial = 0;
      temporal = 0;
      key = false;
      mask = 3;
      target_count = 2;
      dtis = Required ∷ Switch ∷ [];
      pairs = Some (layers_wish 1 0) ∷ Some (layers_wish 0 0) ∷ [];
      chain_count = 2;
      guards = 1 ∷ 0 ∷ [];
      links = 2 ∷ 1 ∷ [];
      ref_count = 1;
      refs = 2 ∷ [];
    }

abbrev pub SwitchesMustOpen : Type 0
SwitchesMustOpen = IsRestart after_upper lower_meaning → ⊥

-- a target isn't linked if the frame that its chain names didn't pass
abbrev pub LostLinkIsNoLink : Type 0
LostLinkIsNoLink = IsLinked (λ d. false) (record lower_meaning { links = 1 ∷ 1 ∷ [] }) 0 1 → ⊥

-- this also holds if there is one chain, and the link names the opening frame itself
abbrev pub LinkToTheOpeningCounts : Type 0
LinkToTheOpeningCounts = IsLinked (λ d. false) (record lower_meaning { chain_count = 1; guards = 0 ∷ 0 ∷ []; links = 1 ∷ [] }) 0 2 → ⊥

-- A target that was open doesn't stay open if its link is lost. A frame that opens nothing leaves no other target open. A frame that opens a
-- target is its opening frame. No frame passes in a closed target.
abbrev pub LostLinkIsNotKept : Type 0
LostLinkIsNotKept =
    IsOpenAndLinked (λ d. false) true (layers_wish 1 0) (record lower_meaning { links = 1 ∷ 1 ∷ [] }) (Open 0 1) (Open 0 1) → ⊥

abbrev pub NothingOpensUnlessOpened : Type 0
NothingOpensUnlessOpened = IsOpenAndLinked (λ d. true) true (layers_wish 1 0) lower_meaning (Open 0 1) (Open 1 3) → ⊥

abbrev pub OpenedIsOpenFromThere : Type 0
OpenedIsOpenFromThere = IsOpenAndLinked (λ d. true) true (layers_wish 1 0) lower_meaning (Closed (NotOpened 1)) (Open 1 2) → ⊥

abbrev pub ClosedIsNotOpen : Type 0
ClosedIsNotOpen = IsOpenAndLinked (λ d. true) true (layers_wish 1 0) no_restart (Closed (NotOpened 1)) (Closed (NotOpened 1)) → ⊥

-- `EachFrameSince` includes each frame of the newest part
abbrev pub FramesSinceCount : Type 0
FramesSinceCount = EachFrameSince {S = ℕ} (λ before later. ⊥) (key_a 1 1 ∷ []) [] → ⊥

abbrev pub OlderFramesSinceCount : Type 0
OlderFramesSinceCount = EachFrameSince {S = ℕ} (λ before later. later.meaning.number ≡ 3) (key_a 3 2 ∷ key_a 1 1 ∷ []) [] → ⊥

abbrev pub FramesBehindEventsCount : Type 0
FramesBehindEventsCount =
    EachFrameSince {S = ℕ} (λ before later. ⊥) (Take ∷ WishChange (layers_wish 0 0) ∷ PlainPacket (packet true) ∷ key_a 1 1 ∷ []) [] → ⊥

-- for each frame, it sees exactly the events before that frame
abbrev pub SinceLooksBefore : Type 0
SinceLooksBefore =
    EachFrameSince {S = ℕ} (λ before later. before ≡ Take ∷ key_a 1 1 ∷ []) (Take ∷ key_a 3 2 ∷ Take ∷ []) (key_a 1 1 ∷ [])

-- `NoneJoins` holds if only other subscribers join, and packets, wishes and requests come; it doesn't hold if this number joins
abbrev pub OthersMayJoin : Type 0
OthersMayJoin =
    NoneJoins 1
    (Asked 1 ∷ Aimed 1 (layers_wish 0 0) ∷ Joined 3 joined_at_10 ∷ Released (Arrived (packet true) ∷ Missing ∷ []) ∷ Joined 0 joined_at_10
    ∷ Aimed 2 (layers_wish 0 0) ∷ Asked 2 ∷ [])

abbrev pub JoiningIsNoted : Type 0
JoiningIsNoted = NoneJoins 1 (Asked 2 ∷ Joined 1 joined_at_10 ∷ []) → ⊥
