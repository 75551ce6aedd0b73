-- A line is read as a call as the grammar says, and no other line is.
use Rattle.std.proofs.Common.{◌≡◌, ℕ, Bool, true, false, cond, List, [], ◌∷◌, ◌++◌, refl, sym, ap, ◌∙◌, subst, arith, Option, Some, None}
use Rattle.std.specs.Prelude.{codes}
use Rattle.std.specs.Option.{option_map_or}
use Rattle.std.specs.Str.{bytes_eq}
use Rattle.std.proofs.lemmas.Slice.Eq.{bytes_eq-Decides}
use Rattle.sfu_base.specs.declared.call.Call.{Call}
use Rattle.sfu_base.specs.declared.call.Call.TheVariants.{Publish, Unpublish, Packet, Tick, Join, Leave, Aim, Take, Resend, Missing, KeyWanted, Plead, Why}
use Rattle.sfu_base.specs.declared.call.Kind.TheVariants.{Plain, Layered}
use Rattle.script_texts.specs.Lines.{IsLine}
use Rattle.sfu_script.specs.Commands.{track_command_of, subscriber_command_of}
use Rattle.sfu_script.specs.Reading.{◌>>=◌, cut}
use Rattle.sfu_script.specs.ReadLines.{track_call_of, subscriber_call_of, command_of, call_of, of_one, of_two, of_three, of_six}
use Rattle.sfu_script.specs.declared.commands.TrackCommand.{TrackCommand}
use Rattle.sfu_script.specs.declared.commands.TrackCommand.TheVariants as of_track
use Rattle.sfu_script.specs.declared.commands.SubscriberCommand.{SubscriberCommand}
use Rattle.sfu_script.specs.declared.commands.SubscriberCommand.TheVariants as of_subscriber
use Rattle.sfu_script.specs.declared.fields.Field.TheVariants.{Number8, Number16, Number32, Number64, Ssrc}
use Rattle.sfu_script.proofs.Options.{bind_some, some_same}
use Rattle.sfu_script.proofs.Spaces.{cut_found}
use Rattle.sfu_script.proofs.Arities.{one_read, two_read, three_read, six_read}
use Rattle.sfu_script.proofs.FieldLaws.{fields_again}
use Rattle.sfu_script.proofs.PublishLine.{publish_found, plain_again, layered_again}
use Rattle.sfu_script.proofs.PacketLine.{packet_found, packet_again}

-- the line is the word and the text after it
abbrev Behind : List ℕ → List ℕ → Call → Type 0
Behind word rest call = IsLine call (word ++ 32 ∷ rest)

-- a name among others names its command
pick : {C : Type 0} (name : C → List ℕ) (word : List ℕ) (one command : C) (test : Bool) (other : Option C) → bytes_eq word (name one) ≡ test
    → (other ≡ Some command → word ≡ name command) → cond test (Some one) other ≡ Some command → word ≡ name command
pick name word one command true other is later e = (bytes_eq-Decides word (name one)).0 is ∙ ap name (some_same one command e)
pick name word one command false other is later e = later e

no_name : {C : Type 0} (name : C → List ℕ) (word : List ℕ) (command : C) → None ≡ Some command → word ≡ name command
no_name name word command e = cc

abbrev track_word : TrackCommand → List ℕ
track_word of_track.Publish = codes "publish"
track_word of_track.Unpublish = codes "unpublish"
track_word of_track.Packet = codes "packet"
track_word of_track.Tick = codes "tick"
track_word of_track.Missing = codes "missing"
track_word of_track.Key = codes "key"

abbrev subscriber_word : SubscriberCommand → List ℕ
subscriber_word of_subscriber.Join = codes "join"
subscriber_word of_subscriber.Leave = codes "leave"
subscriber_word of_subscriber.Aim = codes "aim"
subscriber_word of_subscriber.Take = codes "take"
subscriber_word of_subscriber.Resend = codes "resend"
subscriber_word of_subscriber.Plead = codes "plead"
subscriber_word of_subscriber.Why = codes "why"

track_named : (word : List ℕ) (command : TrackCommand) → track_command_of word ≡ Some command → word ≡ track_word command
track_named word command =
    pick track_word word of_track.Publish command _ _ refl (pick track_word word of_track.Unpublish command _ _ refl
    (pick track_word word of_track.Packet command _ _ refl (pick track_word word of_track.Tick command _ _ refl
    (pick track_word word of_track.Missing command _ _ refl (pick track_word word of_track.Key command _ _ refl (no_name track_word word command))))))

subscriber_named : (word : List ℕ) (command : SubscriberCommand) → subscriber_command_of word ≡ Some command → word ≡ subscriber_word command
subscriber_named word command =
    pick subscriber_word word of_subscriber.Join command _ _ refl (pick subscriber_word word of_subscriber.Leave command _ _ refl
    (pick subscriber_word word of_subscriber.Aim command _ _ refl (pick subscriber_word word of_subscriber.Take command _ _ refl
    (pick subscriber_word word of_subscriber.Resend command _ _ refl (pick subscriber_word word of_subscriber.Plead command _ _ refl
    (pick subscriber_word word of_subscriber.Why command _ _ refl (no_name subscriber_word word command)))))))

-- ---- a line that is read is written like this

track_found : (command : TrackCommand) (rest : List ℕ) (call : Call) → track_call_of command rest ≡ Some call → Behind (track_word command) rest call
track_found of_track.Publish rest call e = publish_found rest call e
track_found of_track.Unpublish rest call e =
    let h = one_read (Number32 ∷ []) rest (λ t. Unpublish t) call e in
    subst (Behind (codes "unpublish") rest) h.2 (codes "unpublish", rest, refl, h.1, refl)
track_found of_track.Packet rest call e = packet_found rest call e
track_found of_track.Tick rest call e =
    let h = two_read (Number32 ∷ Number64 ∷ []) rest (λ t m. Tick t m) call e in
    subst (Behind (codes "tick") rest) h.3 (codes "tick", rest, refl, h.2, refl)
track_found of_track.Missing rest call e =
    let h = one_read (Number32 ∷ []) rest (λ t. Missing t) call e in
    subst (Behind (codes "missing") rest) h.2 (codes "missing", rest, refl, h.1, refl)
track_found of_track.Key rest call e =
    let h = one_read (Number32 ∷ []) rest (λ t. KeyWanted t) call e in
    subst (Behind (codes "key") rest) h.2 (codes "key", rest, refl, h.1, refl)

subscriber_found : (command : SubscriberCommand) (rest : List ℕ) (call : Call) → subscriber_call_of command rest ≡ Some call
    → Behind (subscriber_word command) rest call
subscriber_found of_subscriber.Join rest call e =
    let h = six_read (Number32 ∷ Number32 ∷ Ssrc ∷ Number16 ∷ Number8 ∷ Number8 ∷ []) rest
    (λ s t x f p q. Join s t x f (record { spatial = p; temporal = q })) call e in
    subst (Behind (codes "join") rest) h.7 (codes "join", rest, refl, h.6, refl)
subscriber_found of_subscriber.Leave rest call e =
    let h = one_read (Number32 ∷ []) rest (λ s. Leave s) call e in
    subst (Behind (codes "leave") rest) h.2 (codes "leave", rest, refl, h.1, refl)
subscriber_found of_subscriber.Aim rest call e =
    let h = three_read (Number32 ∷ Number8 ∷ Number8 ∷ []) rest (λ s p q. Aim s (record { spatial = p; temporal = q })) call e in
    subst (Behind (codes "aim") rest) h.4 (codes "aim", rest, refl, h.3, refl)
subscriber_found of_subscriber.Take rest call e =
    let h = one_read (Number32 ∷ []) rest (λ s. Take s) call e in
    subst (Behind (codes "take") rest) h.2 (codes "take", rest, refl, h.1, refl)
subscriber_found of_subscriber.Resend rest call e =
    let h = two_read (Number32 ∷ Number16 ∷ []) rest (λ s q. Resend s q) call e in
    subst (Behind (codes "resend") rest) h.3 (codes "resend", rest, refl, h.2, refl)
subscriber_found of_subscriber.Plead rest call e =
    let h = one_read (Number32 ∷ []) rest (λ s. Plead s) call e in
    subst (Behind (codes "plead") rest) h.2 (codes "plead", rest, refl, h.1, refl)
subscriber_found of_subscriber.Why rest call e =
    let h = two_read (Number32 ∷ Number64 ∷ []) rest (λ s n. Why s n) call e in
    subst (Behind (codes "why") rest) h.3 (codes "why", rest, refl, h.2, refl)

-- a call was found after the word of a track's command, or after that of a subscriber's command
command_found : (word rest : List ℕ) (call : Call) (t : Option TrackCommand) (s : Option SubscriberCommand) → track_command_of word ≡ t → subscriber_command_of word ≡ s
    → option_map_or (λ command. track_call_of command rest) t (s >>= (λ command. subscriber_call_of command rest)) ≡ Some call → Behind word rest call
command_found word rest call (Some command) s named other e =
    subst (λ (w : List ℕ). Behind w rest call) (sym (track_named word command named)) (track_found command rest call e)
command_found word rest call None (Some command) other named e =
    subst (λ (w : List ℕ). Behind w rest call) (sym (subscriber_named word command named)) (subscriber_found command rest call e)
command_found word rest call None None other named e = cc

pub call_found : (line : List ℕ) (call : Call) → call_of line ≡ Some call → IsLine call line
call_found line call e =
    let a = bind_some (cut line) (λ parts. command_of parts.0 parts.1) call e in
    subst (λ (text : List ℕ). IsLine call text) (sym (cut_found line a.0 a.1)) (command_found (a.0).0 (a.0).1 call _ _ refl refl a.2)

-- ---- a line that is written like this is read

-- the line is its first word and the rest
begun : (line word rest wanted : List ℕ) → word ≡ wanted → line ≡ word ++ 32 ∷ rest → line ≡ wanted ++ 32 ∷ rest
begun line word rest wanted is e = e ∙ ap (λ (w : List ℕ). w ++ 32 ∷ rest) is

-- the numbers that are read are those of the call
made : (o : Option (List ℕ)) (numbers : List ℕ) (f : List ℕ → Option Call) (call : Call) → o ≡ Some numbers → f numbers ≡ Some call → (o >>= f) ≡ Some call
made o numbers f call is e = ap (λ (x : Option (List ℕ)). x >>= f) is ∙ e

pub call_again : (call : Call) (line : List ℕ) → IsLine call line → call_of line ≡ Some call
call_again (Publish track Plain ssrc hold) line h =
    ap call_of (begun line h.0 h.1 (codes "publish") h.2 h.4) ∙ plain_again track ssrc hold h.1 h.3
call_again (Publish track (Layered id) ssrc hold) line h =
    ap call_of (begun line h.0 h.1 (codes "publish") h.2 h.4) ∙ layered_again track ssrc hold id h.1 h.3
call_again (Unpublish track) line h =
    ap call_of (begun line h.0 h.1 (codes "unpublish") h.2 h.4)
    ∙ made _ (track ∷ []) (of_one (λ t. Unpublish t)) _ (fields_again (Number32 ∷ []) (track ∷ []) h.1 refl (omega arith) h.3) refl
call_again (Packet track moment bytes) line h =
    ap call_of (begun line h.0 h.1 (codes "packet") h.2 h.4) ∙ packet_again track moment bytes h.1 h.3
call_again (Tick track moment) line h =
    ap call_of (begun line h.0 h.1 (codes "tick") h.2 h.4)
    ∙ made _ (track ∷ moment ∷ []) (of_two (λ t m. Tick t m)) _ (fields_again (Number32 ∷ Number64 ∷ []) (track ∷ moment ∷ []) h.1 refl (omega arith) h.3) refl
call_again (Join subscriber track ssrc first wish) line h =
    ap call_of (begun line h.0 h.1 (codes "join") h.2 h.4)
    ∙ made _ (subscriber ∷ track ∷ ssrc ∷ first ∷ wish.spatial ∷ wish.temporal ∷ [])
    (of_six (λ s t x f p q. Join s t x f (record { spatial = p; temporal = q }))) _
    (fields_again (Number32 ∷ Number32 ∷ Ssrc ∷ Number16 ∷ Number8 ∷ Number8 ∷ []) (subscriber ∷ track ∷ ssrc ∷ first ∷ wish.spatial ∷ wish.temporal ∷ [])
    h.1 refl (omega arith) h.3) refl
call_again (Leave subscriber) line h =
    ap call_of (begun line h.0 h.1 (codes "leave") h.2 h.4)
    ∙ made _ (subscriber ∷ []) (of_one (λ s. Leave s)) _ (fields_again (Number32 ∷ []) (subscriber ∷ []) h.1 refl (omega arith) h.3) refl
call_again (Aim subscriber wish) line h =
    ap call_of (begun line h.0 h.1 (codes "aim") h.2 h.4)
    ∙ made _ (subscriber ∷ wish.spatial ∷ wish.temporal ∷ []) (of_three (λ s p q. Aim s (record { spatial = p; temporal = q }))) _
    (fields_again (Number32 ∷ Number8 ∷ Number8 ∷ []) (subscriber ∷ wish.spatial ∷ wish.temporal ∷ []) h.1 refl (omega arith) h.3) refl
call_again (Take subscriber) line h =
    ap call_of (begun line h.0 h.1 (codes "take") h.2 h.4)
    ∙ made _ (subscriber ∷ []) (of_one (λ s. Take s)) _ (fields_again (Number32 ∷ []) (subscriber ∷ []) h.1 refl (omega arith) h.3) refl
call_again (Resend subscriber seq) line h =
    ap call_of (begun line h.0 h.1 (codes "resend") h.2 h.4)
    ∙ made _ (subscriber ∷ seq ∷ []) (of_two (λ s q. Resend s q)) _ (fields_again (Number32 ∷ Number16 ∷ []) (subscriber ∷ seq ∷ []) h.1 refl (omega arith) h.3) refl
call_again (Missing track) line h =
    ap call_of (begun line h.0 h.1 (codes "missing") h.2 h.4)
    ∙ made _ (track ∷ []) (of_one (λ t. Missing t)) _ (fields_again (Number32 ∷ []) (track ∷ []) h.1 refl (omega arith) h.3) refl
call_again (KeyWanted track) line h =
    ap call_of (begun line h.0 h.1 (codes "key") h.2 h.4)
    ∙ made _ (track ∷ []) (of_one (λ t. KeyWanted t)) _ (fields_again (Number32 ∷ []) (track ∷ []) h.1 refl (omega arith) h.3) refl
call_again (Plead subscriber) line h =
    ap call_of (begun line h.0 h.1 (codes "plead") h.2 h.4)
    ∙ made _ (subscriber ∷ []) (of_one (λ s. Plead s)) _ (fields_again (Number32 ∷ []) (subscriber ∷ []) h.1 refl (omega arith) h.3) refl
call_again (Why subscriber number) line h =
    ap call_of (begun line h.0 h.1 (codes "why") h.2 h.4)
    ∙ made _ (subscriber ∷ number ∷ []) (of_two (λ s n. Why s n)) _ (fields_again (Number32 ∷ Number64 ∷ []) (subscriber ∷ number ∷ []) h.1 refl (omega arith) h.3) refl

pub one_call : (one other : Call) (line : List ℕ) → IsLine one line → IsLine other line → one ≡ other
one_call one other line h k = some_same one other (sym (call_again one line h) ∙ call_again other line k)
