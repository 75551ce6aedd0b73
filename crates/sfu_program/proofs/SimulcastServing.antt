-- What a server does with the results of its bundles' calls.
use Rattle.std.proofs.Common.{◌≡◌, inl, inr, ℕ, ◌≤◌, Bool, true, false, List, [], ◌∷◌, ◌++◌, length, refl, sym, ap, subst, ◌∙◌, Result, Ok, Err, arith, length-append}
use Rattle.std.specs.Prelude.{OnErr, OnOk}
use Rattle.sfu_base.specs.Answer.{answer_of, is_starved}
use Rattle.sfu_base.specs.declared.call.Call.{Call}
use Rattle.sfu_base.specs.declared.call.Reply.{Reply}
use Rattle.script_texts.specs.Replies.{answer_text}
use Rattle.sfu_driver.specs.declared.halt.Ending.{Ending}
use Rattle.sfu_driver.specs.declared.halt.Halt.{Halt}
use Rattle.sfu_driver.specs.declared.halt.Halt.TheVariants.{Ended, Starved}
use Rattle.sfu_driver.specs.Drive.{Judges}
use Rattle.sfu_driver.specs.Outcome.{writes}
use Rattle.script_run.specs.Run.{unrecorded}
use Rattle.room_core.specs.declared.recorder.KeepNone.{KeepNone}
use Rattle.simulcast.specs.declared.bundles.Bundles.{Bundles}
use Rattle.simulcast.specs.declared.fault.BundleFault.{BundleFault}
use Rattle.simulcast.specs.declared.fault.BundleFault.TheVariants.{NoMemory}
use Rattle.simulcast.specs.Answers.{Answered, room_called}
use Rattle.simulcast.specs.Bundles.{Calls, Simulcast, StandsFor}
use Rattle.simulcast.proofs.Answers.{Answers, HasAnswered, call_answers, call_refuses}
use Rattle.sfu_program.specs.declared.bundling.server.BundleServer.{BundleServer}
use Rattle.sfu_program.specs.SimulcastServing.{ServesLine}
use Rattle.sfu_program.specs.SimulcastTexts.{answered_text, fault_text, replied}

-- a text was appended to the output so far; or memory ran out, and nothing was appended
pub record IsPut (text ready ready' : List ℕ) (result : Result (Unit {0}) Halt) : Type 0 where
  pub ok : OnOk result (ready' ≡ ready ++ (text ++ 10 ∷ []))
  pub err : OnErr result (ready' ≡ ready)
  pub only : OnErr result (result ≡ Err Starved)

abbrev halted : Halt → Result (Unit {0}) Halt
halted why = Err why

no_ending : {P : Type 0} (why : Ending) → halted (Ended why) ≡ halted Starved → P
no_ending why e = absurd (cc e)

grown : (text ready ready' : List ℕ) (result : Result (Unit {0}) Halt) → IsPut text ready ready' result → length ready ≤ length ready'
grown text ready ready' (Ok x) put = let longer = ap length put.ok in let sum = length-append ready (text ++ 10 ∷ []) in omega (arith, longer, sum)
grown text ready ready' (Err why) put = let same = ap length put.err in omega (arith, same)

-- the bundles' call had this result, and its text was appended
module _ {A : Type 0} (call : Simulcast → Answered A) (text : A → List ℕ) (old new : BundleServer) (mid : Bundles KeepNone) (same : new.bundles ≡ mid) (ready ready' : List ℕ) where
  judged : (h : Simulcast) (came : Result A BundleFault) (result : Result (Unit {0}) Halt) → HasAnswered unrecorded mid (call h) came → IsPut (answered_text text came) ready ready' result
      → Judges (λ (server : BundleServer) (h : Simulcast). StandsFor unrecorded server.bundles h) (writes (replied text (call h)).reply (replied text (call h)).after) new ready ready' result
  judged h came (Ok x) answered put = (
    (call h).after,
    refl,
    subst (λ (b : Bundles KeepNone). StandsFor unrecorded b (call h).after) (sym same) answered.stands,
    put.ok ∙ ap (λ (r : Result A BundleFault). ready ++ (answered_text text r ++ 10 ∷ [])) answered.is,
  )
  judged h came (Err (Ended why)) answered put = no_ending why put.only
  judged h came (Err Starved) answered put = put.err

  starved : (h : Simulcast) (result : Result (Unit {0}) Halt) → result ≡ Err Starved → OnErr result (ready' ≡ ready)
      → Judges (λ (server : BundleServer) (h : Simulcast). StandsFor unrecorded server.bundles h) (writes (replied text (call h)).reply (replied text (call h)).after) new ready ready' result
  starved h (Ok x) is err = absurd (let other : Ok x ≡ Err Starved = is in cc)
  starved h (Err (Ended why)) is err = no_ending why is
  starved h (Err Starved) is err = err

  serves_line : (came : Result A BundleFault) (result : Result (Unit {0}) Halt) → ((h : Simulcast) → StandsFor unrecorded old.bundles h → Answers unrecorded mid (call h) came)
      → (came ≡ Err NoMemory → result ≡ Err Starved) → IsPut (answered_text text came) ready ready' result
      → ServesLine (λ (h : Simulcast). replied text (call h)) old new ready ready' result
  serves_line came result answers wants put = record { judges = λ h stands. by h (answers h stands); grows = grown (answered_text text came) ready ready' result put }
    where
      by : (h : Simulcast) → Answers unrecorded mid (call h) came
          → Judges (λ (server : BundleServer) (h : Simulcast). StandsFor unrecorded server.bundles h) (writes (replied text (call h)).reply (replied text (call h)).after) new ready ready' result
      by h (inl none) = starved h result (wants none) put.err
      by h (inr answered) = judged h came result answered put

  pub serves_ok : (answer : A) (result : Result (Unit {0}) Halt) → ((h : Simulcast) → StandsFor unrecorded old.bundles h → Answers unrecorded mid (call h) (Ok answer)) → IsPut (text answer) ready ready' result
      → ServesLine (λ (h : Simulcast). replied text (call h)) old new ready ready' result
  serves_ok answer result answers put = serves_line (Ok answer) result answers (λ e. absurd (cc e)) put

  pub serves_err : (why : BundleFault) (result : Result (Unit {0}) Halt) → ((h : Simulcast) → StandsFor unrecorded old.bundles h → Answers unrecorded mid (call h) (Err why))
      → (why ≡ NoMemory → result ≡ Err Starved) → IsPut (fault_text why) ready ready' result → ServesLine (λ (h : Simulcast). replied text (call h)) old new ready ready' result
  serves_err why result answers wants put = serves_line (Err why) result answers (λ e. wants (let other : Err why ≡ Err NoMemory = e in cc)) put

-- a call on the room
module _ (call : Call) (old new : BundleServer) (mid : Bundles KeepNone) (same : new.bundles ≡ mid) (ready ready' : List ℕ) (result : Result (Unit {0}) Halt) where
  pub serves_call : (reply : Reply) (bytes numbers : List ℕ) → Calls unrecorded old.bundles mid 0 call bytes numbers (Ok reply) → (is_starved reply ≡ true → result ≡ Err Starved)
      → IsPut (answer_text (answer_of reply bytes numbers)) ready ready' result → ServesLine (λ (h : Simulcast). replied answer_text (room_called call h)) old new ready ready' result
  serves_call reply bytes numbers calls wants put = by (is_starved reply) refl
    where
      by : (b : Bool) → is_starved reply ≡ b → ServesLine (λ (h : Simulcast). replied answer_text (room_called call h)) old new ready ready' result
      by true is = record {
        judges = λ h stands. starved (room_called call) answer_text old new mid same ready ready' h result (wants is) put.err;
        grows = grown (answer_text (answer_of reply bytes numbers)) ready ready' result put;
      }
      by false is = record {
        judges = λ h stands.
            judged (room_called call) answer_text old new mid same ready ready' h (Ok (answer_of reply bytes numbers)) result
            (call_answers unrecorded mid h call reply bytes numbers (calls h stands) is) put;
        grows = grown (answer_text (answer_of reply bytes numbers)) ready ready' result put;
      }

  pub refuses_call : (why : BundleFault) (bytes numbers : List ℕ) → Calls unrecorded old.bundles mid 0 call bytes numbers (Err why) → (why ≡ NoMemory → result ≡ Err Starved)
      → IsPut (fault_text why) ready ready' result → ServesLine (λ (h : Simulcast). replied answer_text (room_called call h)) old new ready ready' result
  refuses_call why bytes numbers calls wants put =
      serves_err (room_called call) answer_text old new mid same ready ready' why result (λ h stands. inr (call_refuses unrecorded mid h call why bytes numbers (calls h stands))) wants put
