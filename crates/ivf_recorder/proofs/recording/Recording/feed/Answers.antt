use Rattle.std.proofs.Common.{◌≡◌, ℕ, [], ◌∷◌, ◌++◌, Option, None, Some, Result, Ok, Err, true, false, take, length, refl, sym, ap, subst, ◌∙◌, arith}
use Rattle.std.specs.Result.{OnOk, is_err}
use Rattle.sfu_base.specs.declared.NoMemory.{NoMemory}
use Rattle.std.proofs.lemmas.List.{length-append, take_at}
use Rattle.strict_receiver.specs.Receivers.{Seen, StandsFor as ReceiverStandsFor, complaint_over}
use Rattle.ivf_recorder.specs.declared.fault.RecordFault.{RecordFault}
use Rattle.ivf_recorder.specs.declared.recording.Recording.{Recording}
use Rattle.ivf_recorder.specs.Files.{IsFileOf}
use Rattle.ivf_recorder.specs.Frames.{are_sound, contents_over, fault_over, gathered_over, size_over}
use Rattle.ivf_recorder.specs.Recorders.{Feeds, Holds}
use Rattle.ivf_recorder.specs.Taken.{HasTaken, IsReadable}
use Rattle.ivf_recorder.proofs.SmallUnits.{packet_pushed}
use Rattle.ivf_recorder.proofs.Feeding.{back_items, feeds_again, feeds_complaint, holds_back, holds_more, reads, same_file, sound_before}
use Rattle.ivf_recorder.proofs.recording.Recording.feed.Goals as goal

no_some : (o : Option RecordFault) → ((f : RecordFault) → o ≡ Some f → ⊥) → o ≡ None
no_some None h = refl
no_some (Some f) h = absurd (h f refl)

pub returns-in-Some-clause-feeds : goal.returns-in-Some-clause-feeds
returns-in-Some-clause-feeds c = λ history stands. feeds_again c.args.self.now history c.args.packet.now c.in-Some.fault c.requires c.in-Some.is stands

pub back_to-requires-clause-within : goal.back_to-requires-clause-within
back_to-requires-clause-within c =
    let grown = c.make_ready.ensures.grown in
    let old = c.args.self.now.frame in
    let e = ap (take c.mark-mark.result.cuts) grown.cuts_are ∙ take_at old.cuts.items grown.cuts c.mark-mark.result.cuts (omega arith) in
    rw (e, c.mark-mark.ensures.bytes) old.within

pub back_to-requires-clause-bytes : goal.back_to-requires-clause-bytes
back_to-requires-clause-bytes c =
    let grown = c.make_ready.ensures.grown in
    let e = ap length grown.bytes_are in
    let l = length-append c.args.self.now.frame.bytes.items grown.bytes in
    omega arith

pub returns-then-is_err-clause-feeds : goal.returns-then-is_err-clause-feeds
returns-then-is_err-clause-feeds c = λ history stands.
    let old = c.args.self.now in
    let mid = c.make_ready.new.self in
    let made = c.make_ready.ensures in
    let none : old.fault ≡ None = no_some old.fault c.in_default.not-Some in
    let bytes = back_items c.mark-mark.result.bytes old.frame.bytes.items made.grown.bytes mid.frame.bytes.items c.back_to.new.self.bytes.items made.grown.bytes_are (omega arith) c.back_to.ensures.bytes in
    let cuts = back_items c.mark-mark.result.cuts old.frame.cuts.items made.grown.cuts mid.frame.cuts.items c.back_to.new.self.cuts.items made.grown.cuts_are (omega arith) c.back_to.ensures.cuts in
    let goes = stands.goes none in (
      record {
        fault = made.fault ∙ (stands.fault ∙ ap (λ (s : Seen). fault_over s.id history) (sym made.receiver));
        file =
            subst (λ (s : Seen). IsFileOf mid.file (size_over s.id history) (contents_over s.id history)) (sym made.receiver)
            (same_file old.file mid.file (size_over old.receiver.id history) (contents_over old.receiver.id history) made.file stands.file);
        goes = λ _. record {
          receiver = subst (λ (s : Seen). ReceiverStandsFor s history) (sym made.receiver) goes.receiver;
          frame =
              subst (λ (s : Seen). Holds c.back_to.new.self (gathered_over s.id history).unfinished) (sym made.receiver)
              (holds_back old.frame c.back_to.new.self (gathered_over old.receiver.id history).unfinished bytes cuts (c.back_to.ensures.timestamp ∙ c.mark-mark.ensures.timestamp) goes.frame);
        };
        short = stands.short;
      },
      none,
    )

not_err : {P : Type 0} (r : Result (Unit {0}) NoMemory) → false ≡ is_err r → OnOk r P → P
not_err (Ok x) e h = h
not_err (Err x) e h = absurd cc

pub returns-in-Ok-clause-feeds : goal.returns-in-Ok-clause-feeds
returns-in-Ok-clause-feeds c = λ history stands.
    let old = c.args.self.now in
    let packet = c.args.packet.now in
    let mid = c.make_ready.new.self in
    let made = c.make_ready.ensures in
    let none : old.fault ≡ None = no_some old.fault c.in_default.not-Some in
    let goes = stands.goes none in
    let there : ReceiverStandsFor mid.receiver history = subst (λ (s : Seen). ReceiverStandsFor s history) (sym made.receiver) goes.receiver in
    let i : c.feed.new.self.id ≡ old.receiver.id = c.feed.ensures.id ∙ ap (λ (s : Seen). s.id) made.receiver in
    let calm : complaint_over old.receiver.id (history ++ packet ∷ []) ≡ None =
    ap (λ (s : Seen). complaint_over s.id (history ++ packet ∷ [])) (sym made.receiver) ∙ sym (c.in-Ok.ensures.answer history there) in
    let taken : IsReadable packet → HasTaken old.frame mid.frame packet =
    not_err {P = IsReadable packet → HasTaken old.frame mid.frame packet} c.make_ready.result c.if-is_err.ensures.value made.taken in
    subst (λ (o : Option RecordFault). Feeds o old.receiver.id c.end_frame.new.self history packet c.end_frame.result) (sym none)
    (subst (λ (n : ℕ). Feeds None n c.end_frame.new.self history packet c.end_frame.result) i (c.end_frame.ensures.ends history packet (record {
      receiver = c.feed.ensures.stands history there;
      calm = subst (λ (n : ℕ). complaint_over n (history ++ packet ∷ []) ≡ None) (sym i) calm;
      sound = subst (λ (n : ℕ). are_sound (gathered_over n history).frames ≡ true) (sym i) (sound_before old.receiver.id history packet (sym stands.fault ∙ none));
      frame =
          subst (λ (n : ℕ). Holds mid.frame ((gathered_over n history).unfinished ++ packet ∷ [])) (sym i)
          (holds_more old.frame mid.frame (gathered_over old.receiver.id history).unfinished packet goes.frame (taken (reads old.receiver.id history packet calm)));
      file =
          subst (λ (n : ℕ). IsFileOf mid.file (size_over n history) (contents_over n history)) (sym i)
          (same_file old.file mid.file (size_over old.receiver.id history) (contents_over old.receiver.id history) made.file stands.file);
      fault = made.fault ∙ none;
      short = packet_pushed history packet stands.short c.requires;
    })))

pub returns-in-Err-clause-feeds : goal.returns-in-Err-clause-feeds
returns-in-Err-clause-feeds c = λ history stands.
    let old = c.args.self.now in
    let packet = c.args.packet.now in
    let mid = c.make_ready.new.self in
    let made = c.make_ready.ensures in
    let none : old.fault ≡ None = no_some old.fault c.in_default.not-Some in
    let goes = stands.goes none in
    let there : ReceiverStandsFor mid.receiver history = subst (λ (s : Seen). ReceiverStandsFor s history) (sym made.receiver) goes.receiver in
    let i : c.feed.new.self.id ≡ old.receiver.id = c.feed.ensures.id ∙ ap (λ (s : Seen). s.id) made.receiver in
    let complaint : complaint_over old.receiver.id (history ++ packet ∷ []) ≡ Some c.in-Err.complaint =
    ap (λ (s : Seen). complaint_over s.id (history ++ packet ∷ [])) (sym made.receiver) ∙ sym (c.in-Err.ensures.answer history there) in
    let new = c.fail.new.self in
    feeds_complaint new old.fault old.receiver.id history packet c.in-Err.complaint c.fail.result c.fail.ensures.result
    (ap (λ (r : Recording). r.receiver.id) c.fail.ensures.rest ∙ i) (c.fail.ensures.fault ∙ ap (λ (f : RecordFault). Some f) (sym c.fail.ensures.result))
    (subst (λ (r : Recording). IsFileOf r.file (size_over old.receiver.id history) (contents_over old.receiver.id history)) (sym c.fail.ensures.rest)
    (same_file old.file mid.file (size_over old.receiver.id history) (contents_over old.receiver.id history) made.file stands.file))
    (sound_before old.receiver.id history packet (sym stands.fault ∙ none)) complaint (packet_pushed history packet stands.short c.requires)
