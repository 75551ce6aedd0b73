-- The effect of a track's items, one after another, on each of its subscribers.
use Rattle.std.proofs.Common.{◌≡◌, ℕ, Bool, true, false, ◌&&◌, ◌||◌, List, [], ◌∷◌, ◌++◌, refl, sym, ap, subst, ◌∙◌, Option, Some, None, slice_get}
use Rattle.std.specs.Prelude.{not}
use Rattle.std.specs.List.{list_any}
use Rattle.sfu_base.specs.declared.call.Kind.{Kind}
use Rattle.sfu_base.specs.declared.call.Kind.TheVariants.{Plain, Layered}
use Rattle.sfu_base.specs.declared.frame.FrameMeaning.{FrameMeaning}
use Rattle.reorder_window.specs.Events.{Piece, Got, Gone}
use Rattle.forwarding_model.specs.forwarding.Timeline.{Frame, meanings_of}
use Rattle.forwarding_model.specs.forwarding.Timeline.Event.{WholeFrame, PlainPacket}
use Rattle.forwarding_model.specs.frames.TrackFrames.{IsOneTrack}
use Rattle.forwarding_model.specs.frames.Frames.{Item, frames_since, in_front, made_by_item, state_after}
use Rattle.forwarding_model.specs.History.{frame_events}
use Rattle.dd_structure.specs.TemplateStructure.{TemplateStructure}
use Rattle.packet_format.specs.Packets.{packet_of}
use Rattle.room_core.specs.Formats.{format_of}
use Rattle.room_core.specs.Items.{and_pieces}
use Rattle.track_core.specs.Track.{Seen, structure_in}
use Rattle.track_core.specs.Pieces.{item_of}
use Rattle.room_core.specs.Stepping.{IsFrameMade, IsMade, Steps, StepsOn, WorksOff, kind_by}
use Rattle.track_core.specs.declared.track.Made.TheVariants as made
use Rattle.room_core.specs.declared.feed.Feed.{Feed}
use Rattle.room_core.specs.declared.live.LiveSubscriber.{LiveSubscriber}
use Rattle.room_core.specs.Follows.{Follows, FollowsFrame, FollowsPacket, Happened, frame_by}
use Rattle.room_core.specs.Passing.{Both, FollowsOn, IsPassed, PassedTo, StayOneTrack, WorkedOff, WorkedOne, WorksOffFrom, released_as}
use Rattle.room_core.specs.Views.{makes_key}
use Rattle.room_core.proofs.Stepping.{kind_stays}

-- ---- maps over the table

both_same : (R : LiveSubscriber → LiveSubscriber → Type 0) (o : Option LiveSubscriber) → ((s : LiveSubscriber) → R s s) → Both R o o
both_same R None r = tt
both_same R (Some s) r = r s

both_trans : (R S T : LiveSubscriber → LiveSubscriber → Type 0) (o p q : Option LiveSubscriber) → ((a b c : LiveSubscriber) → R a b → S b c → T a c)
    → Both R o p → Both S p q → Both T o q
both_trans R S T None None None t r s = tt
both_trans R S T None None (Some c) t r s = absurd s
both_trans R S T None (Some b) q t r s = absurd r
both_trans R S T (Some a) None q t r s = absurd r
both_trans R S T (Some a) (Some b) None t r s = absurd s
both_trans R S T (Some a) (Some b) (Some c) t r s = t a b c r s

both_weaker : (R S : LiveSubscriber → LiveSubscriber → Type 0) (o p : Option LiveSubscriber) → ((a b : LiveSubscriber) → R a b → S a b) → Both R o p → Both S o p
both_weaker R S None None w r = tt
both_weaker R S None (Some b) w r = absurd r
both_weaker R S (Some a) None w r = absurd r
both_weaker R S (Some a) (Some b) w r = w a b r

-- if nothing happens to a part, nothing happens to the table
pub passed_none : (R : Feed → Feed → Type 0) (number : ℕ) (f : ℕ → Option LiveSubscriber) → ((feed : Feed) → R feed feed) → PassedTo R number f f
passed_none R number f r n = both_same (IsPassed R number) (f n) (λ s. record { track = refl; resent = refl; passed = λ same. r s.feed.value; other = λ none. refl })

pub passed_then : (R S T : Feed → Feed → Type 0) (number : ℕ) (f g h : ℕ → Option LiveSubscriber) → ((a b c : Feed) → R a b → S b c → T a c)
    → PassedTo R number f g → PassedTo S number g h → PassedTo T number f h
passed_then R S T number f g h t r s n =
    both_trans (IsPassed R number) (IsPassed S number) (IsPassed T number) (f n) (g n) (h n)
    (λ a b c p q. record {
      track = q.track ∙ p.track;
      resent = q.resent ∙ p.resent;
      passed = λ same. t a.feed.value b.feed.value c.feed.value (p.passed same) (q.passed (p.track ∙ same));
      other = λ none. q.other (λ same. none (sym p.track ∙ same)) ∙ p.other none;
    })
    (r n) (s n)

pub passed_weaker : (R S : Feed → Feed → Type 0) (number : ℕ) (f g : ℕ → Option LiveSubscriber) → ((a b : Feed) → R a b → S a b) → PassedTo R number f g → PassedTo S number f g
passed_weaker R S number f g w r n =
    both_weaker (IsPassed R number) (IsPassed S number) (f n) (g n)
    (λ a b p. record { track = p.track; resent = p.resent; passed = λ same. w a.feed.value b.feed.value (p.passed same); other = p.other }) (r n)

-- ---- the meaning of one item's result for a subscriber

pub record NothingMade (kind : Kind) (older done : List Item) (item : Item) : Type 0 where
  pub released : released_as kind older (item ∷ done) ≡ released_as kind older done
  pub key : makes_key kind older (item ∷ done) ≡ makes_key kind older done

pub record PacketMade (kind : Kind) (older done : List Item) (item : Item) (bytes : List ℕ) : Type 0 where
  pub released : released_as kind older (item ∷ done) ≡ PlainPacket (packet_of bytes) ∷ released_as kind older done
  pub key : makes_key kind older (item ∷ done) ≡ makes_key kind older done

pub record FrameMade (kind : Kind) (older done : List Item) (item : Item) (meaning : FrameMeaning) (track : Seen) : Type 0 where
  pub structure : TemplateStructure
  pub in_force : structure_in track.layers ≡ Some structure
  pub released : released_as kind older (item ∷ done) ≡ WholeFrame (frame_by meaning structure track.packets) ∷ released_as kind older done
  pub key : makes_key kind older (item ∷ done) ≡ (meaning.key || makes_key kind older done)
  pub one_track : (events : List Happened) → StayOneTrack kind older events → IsOneTrack (meanings_of (released_as kind older (item ∷ done) ++ events))

none_made : (id : ℕ) (older done : List Item) (item : Item) (o : Option (Frame TemplateStructure)) (new : Seen)
    → (made_by_item (format_of id) (state_after (format_of id) (done ++ older)) item).frame ≡ o → IsFrameMade o made.Nothing new → NothingMade (Layered id) older done item
none_made id older done item None new e h = record {
  released = ap (λ (o : Option (Frame TemplateStructure)). frame_events (in_front o (frames_since (format_of id) older done))) e;
  key = ap (λ (o : Option (Frame TemplateStructure)). list_any (λ frame. frame.meaning.key) (in_front o (frames_since (format_of id) older done))) e;
}
none_made id older done item (Some frame) new e h = absurd (let none : made.Nothing ≡ made.Frame frame.meaning = h.0 in cc)

pub nothing_made : (kind : Kind) (older done : List Item) (piece : Piece) (new : Seen) → IsMade kind (done ++ older) piece made.Nothing new
    → NothingMade kind older done (item_of piece)
nothing_made Plain older done (Got h) new m = absurd (let none : made.Nothing ≡ made.Packet = m.0 in cc)
nothing_made Plain older done (Gone from to) new m = record { released = refl; key = refl }
nothing_made (Layered id) older done piece new m = none_made id older done (item_of piece) _ new refl m

no_packet : (o : Option (Frame TemplateStructure)) (new : Seen) → IsFrameMade o made.Packet new → ⊥
no_packet None new h = cc
no_packet (Some frame) new h = let none : made.Packet ≡ made.Frame frame.meaning = h.0 in cc

only_one : (bytes first : List ℕ) (packets : List (List ℕ)) → packets ≡ bytes ∷ [] → slice_get packets 0 ≡ Some first → bytes ≡ first
only_one bytes first [] e at = cc
only_one bytes first (p ∷ ps) e at = let one : p ≡ bytes = cc in let two : p ≡ first = cc in sym one ∙ two

pub packet_made : (kind : Kind) (older done : List Item) (piece : Piece) (new : Seen) (bytes : List ℕ) → IsMade kind (done ++ older) piece made.Packet new
    → slice_get new.packets 0 ≡ Some bytes → PacketMade kind older done (item_of piece) bytes
packet_made Plain older done (Got h) new bytes m at = record {
  released = ap (λ (b : List ℕ). let e : Happened = PlainPacket (packet_of b) in e ∷ released_as Plain older done) (only_one h.bytes bytes new.packets m.1 at);
  key = refl;
}
packet_made Plain older done (Gone from to) new bytes m at = absurd (let none : made.Packet ≡ made.Nothing = m in cc)
packet_made (Layered id) older done piece new bytes m at = absurd (no_packet _ new m)

same_meaning : (a b : FrameMeaning) → made.Frame a ≡ made.Frame b → a ≡ b
same_meaning a b e = cc

frame_made_by : (id : ℕ) (older done : List Item) (item : Item) (o : Option (Frame TemplateStructure)) (meaning : FrameMeaning) (new : Seen)
    → (made_by_item (format_of id) (state_after (format_of id) (done ++ older)) item).frame ≡ o → IsFrameMade o (made.Frame meaning) new
    → FrameMade (Layered id) older done item meaning new
frame_made_by id older done item None meaning new e h = absurd (let none : made.Frame meaning ≡ made.Nothing = h in cc)
frame_made_by id older done item (Some frame) meaning new e h =
    let is : frame.meaning ≡ meaning = sym (same_meaning meaning frame.meaning h.0) in
    let same : frame ≡ frame_by meaning frame.structure new.packets =
    ap (λ (m : FrameMeaning). let f : Frame TemplateStructure = record { meaning = m; structure = frame.structure; packets = frame.packets } in f) is
    ∙ ap (λ ps. let f : Frame TemplateStructure = record { meaning = meaning; structure = frame.structure; packets = ps } in f) h.1 in
    record {
      structure = frame.structure;
      in_force = h.2;
      released = ap (λ (o : Option (Frame TemplateStructure)). frame_events (in_front o (frames_since (format_of id) older done))) (e ∙ ap Some same);
      key = ap (λ (o : Option (Frame TemplateStructure)). list_any (λ frame. frame.meaning.key) (in_front o (frames_since (format_of id) older done))) (e ∙ ap Some same);
      one_track = λ events stay. stay (item ∷ done);
    }

pub frame_made : (kind : Kind) (older done : List Item) (piece : Piece) (meaning : FrameMeaning) (new : Seen) → IsMade kind (done ++ older) piece (made.Frame meaning) new
    → FrameMade kind older done (item_of piece) meaning new
frame_made Plain older done (Got h) meaning new m = absurd (let none : made.Frame meaning ≡ made.Packet = m.0 in cc)
frame_made Plain older done (Gone from to) meaning new m = absurd (let none : made.Frame meaning ≡ made.Nothing = m in cc)
frame_made (Layered id) older done piece meaning new m = frame_made_by id older done (item_of piece) _ meaning new refl m

-- ---- and its effect on a subscriber

nothing_follows : (kind : Kind) (older done : List Item) (item : Item) (feed : Feed) → NothingMade kind older done item → FollowsOn kind older done (item ∷ done) feed feed
nothing_follows kind older done item feed m to events stay h = subst (λ (l : List Happened). Follows kind feed to (l ++ events)) (sym m.released) h

packet_follows : (kind : Kind) (older done : List Item) (item : Item) (bytes : List ℕ) (old new : Feed) → PacketMade kind older done item bytes → FollowsPacket old new bytes
    → FollowsOn kind older done (item ∷ done) old new
packet_follows kind older done item bytes old new m f to events stay h =
    subst (λ (l : List Happened). Follows kind new to (l ++ events)) (sym m.released) (f kind to (released_as kind older done ++ events) h)

frame_follows : (kind : Kind) (older done : List Item) (item : Item) (meaning : FrameMeaning) (track : Seen) (old new : Feed) → kind_by track.layers ≡ kind
    → FrameMade kind older done item meaning track → FollowsFrame old new meaning track → FollowsOn kind older done (item ∷ done) old new
frame_follows kind older done item meaning track old new is m f to events stay h =
    subst (λ (l : List Happened). Follows kind new to (l ++ events)) (sym m.released)
    (f kind to m.structure (released_as kind older done ++ events) is m.in_force
    (subst (λ (l : List Happened). IsOneTrack (meanings_of (l ++ events))) m.released (m.one_track events stay)) h)

-- ---- one piece

pub one_idle : (old new : Seen) (number : ℕ) (f : ℕ → Option LiveSubscriber) (plea : Bool) → Steps old new made.Idle → WorkedOff old new number f f plea plea
one_idle old new number f plea h = go old.window.waiting refl h.on
  where
    go : (w : List Piece) → old.window.waiting ≡ w → StepsOn w old new made.Idle → WorkedOff old new number f f plea plea
    go [] e s = record {
      stays = h.stays;
      idle = s.1;
      works = λ events older done at.
          subst (λ (w : List Piece). WorksOffFrom events (kind_by old.layers) new number f f plea plea older done (and_pieces w done)) (sym e)
          (record {
            at = s.2 events (done ++ older) at;
            passed = passed_none (FollowsOn (kind_by old.layers) older done done) number f (λ feed to events stay h. h);
            plea_is = λ p is. is;
          });
    }
    go (piece ∷ rest) e s = absurd (s.0 refl)

pub one_nothing : (old new : Seen) (number : ℕ) (f : ℕ → Option LiveSubscriber) (plea : Bool) → Steps old new made.Nothing → WorkedOne old new number f f plea plea
one_nothing old new number f plea h = go old.window.waiting refl h.on
  where
    go : (w : List Piece) → old.window.waiting ≡ w → StepsOn w old new made.Nothing → WorkedOne old new number f f plea plea
    go [] e s = absurd (let none : made.Nothing ≡ made.Idle = s.0 in cc)
    go (piece ∷ rest) e s = record {
      stays = h.stays;
      piece = piece;
      rest = rest;
      waited = e;
      waits = s.1;
      works = λ events older done at.
          let kind : Kind = kind_by old.layers in
          let w : WorksOff events old new piece made.Nothing (done ++ older) = s.2 events (done ++ older) at in
          let m : NothingMade kind older done (item_of piece) = nothing_made kind older done piece new w.made in
          record {
            at = w.at;
            passed = passed_none (FollowsOn kind older done (item_of piece ∷ done)) number f (λ feed. nothing_follows kind older done (item_of piece) feed m);
            plea_is = λ p is. is ∙ ap (λ (b : Bool). p && not b) (sym m.key);
          };
    }

pub one_packet : (old new : Seen) (number : ℕ) (f g : ℕ → Option LiveSubscriber) (plea : Bool) (bytes : List ℕ) → Steps old new made.Packet → slice_get new.packets 0 ≡ Some bytes
    → PassedTo (λ a b. FollowsPacket a b bytes) number f g → WorkedOne old new number f g plea plea
one_packet old new number f g plea bytes h first passed = go old.window.waiting refl h.on
  where
    go : (w : List Piece) → old.window.waiting ≡ w → StepsOn w old new made.Packet → WorkedOne old new number f g plea plea
    go [] e s = absurd (let none : made.Packet ≡ made.Idle = s.0 in cc)
    go (piece ∷ rest) e s = record {
      stays = h.stays;
      piece = piece;
      rest = rest;
      waited = e;
      waits = s.1;
      works = λ events older done at.
          let kind : Kind = kind_by old.layers in
          let w : WorksOff events old new piece made.Packet (done ++ older) = s.2 events (done ++ older) at in
          let m : PacketMade kind older done (item_of piece) bytes = packet_made kind older done piece new bytes w.made first in
          record {
            at = w.at;
            passed = passed_weaker (λ a b. FollowsPacket a b bytes) (FollowsOn kind older done (item_of piece ∷ done)) number f g
                (λ a b. packet_follows kind older done (item_of piece) bytes a b m) passed;
            plea_is = λ p is. is ∙ ap (λ (b : Bool). p && not b) (sym m.key);
          };
    }

plea_by : (plea key made : Bool) → (plea && not made && not key) ≡ (plea && not (key || made))
plea_by true true true = refl
plea_by true true false = refl
plea_by true false true = refl
plea_by true false false = refl
plea_by false key made = refl

pub one_frame : (old new : Seen) (number : ℕ) (f g : ℕ → Option LiveSubscriber) (plea plea' : Bool) (meaning : FrameMeaning) → Steps old new (made.Frame meaning)
    → plea' ≡ (plea && not meaning.key) → PassedTo (λ a b. FollowsFrame a b meaning new) number f g → WorkedOne old new number f g plea plea'
one_frame old new number f g plea plea' meaning h ends passed = go old.window.waiting refl h.on
  where
    go : (w : List Piece) → old.window.waiting ≡ w → StepsOn w old new (made.Frame meaning) → WorkedOne old new number f g plea plea'
    go [] e s = absurd (let none : made.Frame meaning ≡ made.Idle = s.0 in cc)
    go (piece ∷ rest) e s = record {
      stays = h.stays;
      piece = piece;
      rest = rest;
      waited = e;
      waits = s.1;
      works = λ events older done at.
          let kind : Kind = kind_by old.layers in
          let w : WorksOff events old new piece (made.Frame meaning) (done ++ older) = s.2 events (done ++ older) at in
          let m : FrameMade kind older done (item_of piece) meaning new = frame_made kind older done piece meaning new w.made in
          record {
            at = w.at;
            passed = passed_weaker (λ a b. FollowsFrame a b meaning new) (FollowsOn kind older done (item_of piece ∷ done)) number f g
                (λ a b. frame_follows kind older done (item_of piece) meaning new a b (kind_stays old.layers new.layers h.stays.id) m) passed;
            plea_is = λ p is.
                ends ∙ ap (λ (b : Bool). b && not meaning.key) is ∙ plea_by p meaning.key (makes_key kind older done) ∙ ap (λ (b : Bool). p && not b) (sym m.key);
          };
    }

-- ---- one piece, and the rest

pub one_and_rest : (old mid new : Seen) (number : ℕ) (f g h : ℕ → Option LiveSubscriber) (plea plea' plea'' : Bool)
    → WorkedOne old mid number f g plea plea' → WorkedOff mid new number g h plea' plea'' → WorkedOff old new number f h plea plea''
one_and_rest old mid new number f g h plea plea' plea'' one rest = record {
  stays = record {
    ssrc = rest.stays.ssrc ∙ one.stays.ssrc;
    hold = rest.stays.hold ∙ one.stays.hold;
    id = rest.stays.id ∙ one.stays.id;
  };
  idle = rest.idle;
  works = λ events older done at.
      let kind : Kind = kind_by old.layers in
      let item : Item = item_of one.piece in
      let w = one.works events older done at in
      let v : WorksOffFrom events kind new number g h plea' plea'' older (item ∷ done) (and_pieces old.window.waiting done) =
      subst (λ (k : Kind). WorksOffFrom events k new number g h plea' plea'' older (item ∷ done) (and_pieces old.window.waiting done)) (kind_stays old.layers mid.layers one.stays.id)
      (subst (λ (ps : List Piece). WorksOffFrom events (kind_by mid.layers) new number g h plea' plea'' older (item ∷ done) (and_pieces ps done)) (sym one.waited)
      (subst (λ (ps : List Piece). WorksOffFrom events (kind_by mid.layers) new number g h plea' plea'' older (item ∷ done) (and_pieces ps (item ∷ done))) one.waits (rest.works events older (item ∷ done) w.at))) in
      record {
        at = v.at;
        passed = passed_then (FollowsOn kind older done (item ∷ done)) (FollowsOn kind older (item ∷ done) (and_pieces old.window.waiting done))
            (FollowsOn kind older done (and_pieces old.window.waiting done)) number f g h (λ a b c p q to events stay x. q to events stay (p to events stay x)) w.passed v.passed;
        plea_is = λ p is. v.plea_is p (w.plea_is p is);
      };
}
