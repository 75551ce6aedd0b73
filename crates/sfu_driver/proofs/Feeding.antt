-- The effect of pieces, one after another, of a flush, and of an end.
use Rattle.std.proofs.Common.{◌≡◌, ◌<◌, ◌≤◌, inl, ℕ, ◌-◌, List, [], ◌∷◌, ◌++◌, length, take, drop, refl, sym, ap, ◌∙◌, subst, arith, Option, Result, Ok, Err, append_assoc, append-nil}
use Rattle.std.specs.Prelude.{IsOk, OnErr, OnOk}
use Rattle.std.specs.Io.KnownBytes.{Appends, Consumes, Keeps}
use Rattle.std.proofs.KnownBytes.{Appends-trans, Appends-nil, Consumes-kept, Consumes-nil, Consumes-trans}
use Rattle.std.proofs.lemmas.List.{take_rest, take-append-drop}
use Rattle.std.proofs.Math.Seq.{take-append_seam, drop-append_seam}
use Rattle.sfu_base.specs.Faults.{Rose}
use Rattle.sfu_driver.specs.declared.halt.Ending.{Ending}
use Rattle.sfu_driver.specs.declared.halt.Halt.{Halt}
use Rattle.sfu_driver.specs.declared.halt.Halt.TheVariants.{Ended, Starved}
use Rattle.sfu_driver.specs.declared.halt.Interruption.{Interruption}
use Rattle.sfu_driver.specs.declared.halt.Interruption.TheVariants.{SourceFault, SinkFault, Halted}
use Rattle.sfu_driver.specs.Outcome.{End, Outcome, takes}
use Rattle.sfu_driver.specs.Drive.{Fed, Feeds, FeedsBy, Halts, Judges, Nexts, Stopped, Took, WritesEnd, WritesPart, end_by}
use Rattle.sfu_driver.proofs.Takes.{takes_front, takes_ok}
use Rattle.sfu_driver.specs.Reads.{BeginsWith, most_bytes}
use Rattle.sfu_driver.proofs.Fronts.{end_after, part_after, part_longer, rose_since}

-- ---- bytes after others

-- the text for the first bytes comes before the text for the others
whole_on : {S : Type 0} (byte : S → ℕ → Outcome S) (s q : S) (xs ys r0 r1 flushed : List ℕ) → (takes byte s xs).result ≡ Ok q → r0 ++ (takes byte s xs).text ≡ flushed ++ r1
    → r0 ++ (takes byte s (xs ++ ys)).text ≡ flushed ++ (r1 ++ (takes byte q ys).text)
whole_on {S} byte s q xs ys r0 r1 flushed goes whole =
    ap (λ (o : Outcome S). r0 ++ o.text) (takes_ok byte s q xs ys goes)
    ∙ sym (append_assoc r0 (takes byte s xs).text (takes byte q ys).text)
    ∙ ap (λ (zs : List ℕ). zs ++ (takes byte q ys).text) whole
    ∙ append_assoc flushed r1 (takes byte q ys).text

fed_on : {U S : Type 0} (stands : U → S → Type 0) (byte : S → ℕ → Outcome S) (s : S) (u1 u2 : U) (xs ys r0 r1 r2 : List ℕ) (w0 w1 w2 : Option (List ℕ)) (a : Fed stands byte s xs u1 r0 r1 w0 w1)
    → Fed stands byte a.later ys u2 r1 r2 w1 w2 → Fed stands byte s (xs ++ ys) u2 r0 r2 w0 w2
fed_on {U} {S} stands byte s u1 u2 xs ys r0 r1 r2 w0 w1 w2 a b = record {
  later = b.later;
  goes = ap (λ (o : Outcome S). o.result) (takes_ok byte s a.later xs ys a.goes) ∙ b.goes;
  at = b.at;
  flushed = a.flushed ++ b.flushed;
  wrote = Appends-trans w0 w1 w2 a.flushed b.flushed a.wrote b.wrote;
  whole = whole_on byte s a.later xs ys r0 r1 a.flushed a.goes a.whole ∙ ap (λ (zs : List ℕ). a.flushed ++ zs) b.whole ∙ sym (append_assoc a.flushed b.flushed r2);
}

ok_on : {S : Type 0} (byte : S → ℕ → Outcome S) (s q : S) (xs ys : List ℕ) → (takes byte s xs).result ≡ Ok q → IsOk ((takes byte q ys).result) → IsOk ((takes byte s (xs ++ ys)).result)
ok_on {S} byte s q xs ys goes ok = subst (λ (r : Result S End). IsOk r) (sym (ap (λ (o : Outcome S). o.result) (takes_ok byte s q xs ys goes))) ok

wrote_on : {S : Type 0} (byte : S → ℕ → Outcome S) (s q : S) (xs ys r0 r1 flushed : List ℕ) (w0 w1 w2 : Option (List ℕ)) → (takes byte s xs).result ≡ Ok q → r0 ++ (takes byte s xs).text ≡ flushed ++ r1
    → Appends w0 w1 flushed → Appends w1 w2 (r1 ++ (takes byte q ys).text) → Appends w0 w2 (r0 ++ (takes byte s (xs ++ ys)).text)
wrote_on byte s q xs ys r0 r1 flushed w0 w1 w2 goes whole first wrote =
    subst (Appends w0 w2) (sym (whole_on byte s q xs ys r0 r1 flushed goes whole)) (Appends-trans w0 w1 w2 flushed (r1 ++ (takes byte q ys).text) first wrote)

stopped_on : {U S : Type 0} (wants : S → Type 0) (stands : U → S → Type 0) (byte : S → ℕ → Outcome S) (s : S) (u1 : U) (xs ys r0 r1 : List ℕ) (w0 w1 w2 : Option (List ℕ)) (f0 f1 f2 : ℕ) (stop : Interruption) → f0 ≤ f1
    → (a : Fed stands byte s xs u1 r0 r1 w0 w1) → Stopped wants stop byte a.later ys r1 w1 w2 f1 f2 → Stopped wants stop byte s (xs ++ ys) r0 w0 w2 f0 f2
stopped_on wants stands byte s u1 xs ys r0 r1 w0 w1 w2 f0 f1 f2 SourceFault le a b = (ok_on byte s a.later xs ys a.goes b.0, wrote_on byte s a.later xs ys r0 r1 a.flushed w0 w1 w2 a.goes a.whole a.wrote b.1)
stopped_on wants stands byte s u1 xs ys r0 r1 w0 w1 w2 f0 f1 f2 SinkFault le a b = (
  rose_since f0 f1 f2 le b.0,
  subst (WritesPart w0 w2) (sym (whole_on byte s a.later xs ys r0 r1 a.flushed a.goes a.whole)) (part_after w0 w1 w2 a.flushed (r1 ++ (takes byte a.later ys).text) a.wrote b.1),
)
stopped_on {U} {S} wants stands byte s u1 xs ys r0 r1 w0 w1 w2 f0 f1 f2 (Halted (Ended why)) le a b = (
  b.0,
  ap (λ (o : Outcome S). o.result) (takes_ok byte s a.later xs ys a.goes) ∙ b.1,
  subst (λ (text : List ℕ). WritesEnd w0 w2 f0 f2 text b.0) (sym (whole_on byte s a.later xs ys r0 r1 a.flushed a.goes a.whole))
      (end_after w0 w1 w2 f0 f1 f2 a.flushed (r1 ++ (takes byte a.later ys).text) b.0 le a.wrote b.2),
)
stopped_on {U} {S} wants stands byte s u1 xs ys r0 r1 w0 w1 w2 f0 f1 f2 (Halted Starved) le a b = record {
  writes = record {
    front = xs ++ b.writes.front;
    more = b.writes.more;
    split = ap (λ (zs : List ℕ). xs ++ zs) b.writes.split ∙ sym (append_assoc xs b.writes.front b.writes.more);
    goes = ok_on byte s a.later xs b.writes.front a.goes b.writes.goes;
    wrote = wrote_on byte s a.later xs b.writes.front r0 r1 a.flushed w0 w1 w2 a.goes a.whole a.wrote b.writes.wrote;
  };
  later = b.later;
  goes = ap (λ (o : Outcome S). o.result) (takes_ok byte s a.later xs b.writes.front a.goes) ∙ b.goes;
  at = b.at;
}

pub feeds_on : {U S : Type 0} (wants stands : U → S → Type 0) (byte : S → ℕ → Outcome S) (u0 u1 u2 : U) (xs ys r0 r1 r2 : List ℕ) (w0 w1 w2 : Option (List ℕ)) (f0 f1 f2 : ℕ) (result : Result (Unit {0}) Interruption) → f0 ≤ f1
    → Feeds wants stands byte u0 xs u1 r0 r1 w0 w1 f0 f1 (Ok tt) → Feeds wants stands byte u1 ys u2 r1 r2 w1 w2 f1 f2 result → Feeds wants stands byte u0 (xs ++ ys) u2 r0 r2 w0 w2 f0 f2 result
feeds_on wants stands byte u0 u1 u2 xs ys r0 r1 r2 w0 w1 w2 f0 f1 f2 (Ok _) le first second s stand =
    let a = first s stand in fed_on stands byte s u1 u2 xs ys r0 r1 r2 w0 w1 w2 a (second a.later a.at)
feeds_on wants stands byte u0 u1 u2 xs ys r0 r1 r2 w0 w1 w2 f0 f1 f2 (Err stop) le first second s stand =
    let a = first s stand in stopped_on (wants u2) stands byte s u1 xs ys r0 r1 w0 w1 w2 f0 f1 f2 stop le a (second a.later a.at)

-- ---- more bytes after those in whose text the sink failed

pub feeds_longer : {U S : Type 0} (wants stands : U → S → Type 0) (byte : S → ℕ → Outcome S) (u u' : U) (xs ys r r' : List ℕ) (w w' : Option (List ℕ)) (f f' : ℕ)
    → Feeds wants stands byte u xs u' r r' w w' f f' (Err SinkFault) → Feeds wants stands byte u (xs ++ ys) u' r r' w w' f f' (Err SinkFault)
feeds_longer wants stands byte u u' xs ys r r' w w' f f' feeds s stand =
    let b = feeds s stand in
    let more = takes_front byte s xs ys in
    (b.0, subst (WritesPart w w') (append_assoc r (takes byte s xs).text more.0 ∙ ap (λ (text : List ℕ). r ++ text) (sym more.1)) (part_longer w w' (r ++ (takes byte s xs).text) more.0 b.1))

-- ---- no bytes

pub feeds_none : {U S : Type 0} (wants stands : U → S → Type 0) (byte : S → ℕ → Outcome S) (u : U) (r : List ℕ) (w : Option (List ℕ)) (f f' : ℕ) → Feeds wants stands byte u [] u r r w w f f' (Ok tt)
feeds_none wants stands byte u r w f f' s stand = record { later = s; goes = refl; at = stand; flushed = []; wrote = Appends-nil w; whole = append-nil r }

pub flush_feeds : {U S : Type 0} (wants stands : U → S → Type 0) (byte : S → ℕ → Outcome S) (u : U) (r r' : List ℕ) (w w' : Option (List ℕ)) (f f' : ℕ) → Appends w w' r → r' ≡ [] → Feeds wants stands byte u [] u r r' w w' f f' (Ok tt)
flush_feeds wants stands byte u r r' w w' f f' wrote empty s stand = record { later = s; goes = refl; at = stand; flushed = r; wrote = wrote; whole = ap (λ (zs : List ℕ). r ++ zs) (sym empty) }

pub flush_fails : {U S : Type 0} (wants stands : U → S → Type 0) (byte : S → ℕ → Outcome S) (u u' : U) (r r' : List ℕ) (w w' : Option (List ℕ)) (f f' : ℕ) → WritesPart w w' r → Rose f f' → Feeds wants stands byte u [] u' r r' w w' f f' (Err SinkFault)
flush_fails wants stands byte u u' r r' w w' f f' part rose s stand = (rose, subst (WritesPart w w') (sym (append-nil r)) part)

-- all ready texts were written, or a part of them
pub flush_does : {U S : Type 0} (wants stands : U → S → Type 0) (byte : S → ℕ → Outcome S) (u : U) (r r' : List ℕ) (w w' : Option (List ℕ)) (f f' : ℕ) (result : Result (Unit {0}) Interruption)
    → OnOk result (Appends w w' r) → OnOk result (r' ≡ []) → OnErr result (result ≡ Err SinkFault) → OnErr result (WritesPart w w' r) → OnErr result (Rose f f') → Feeds wants stands byte u [] u r r' w w' f f' result
flush_does wants stands byte u r r' w w' f f' (Ok _) wrote empty fault part rose = flush_feeds wants stands byte u r r' w w' f f' wrote empty
flush_does {U} {S} wants stands byte u r r' w w' f f' (Err stop) wrote empty fault part rose =
    let same : SinkFault ≡ stop = cc in
    let P : Interruption → Type 0 = λ x. Feeds wants stands byte u [] u r r' w w' f f' (Err x) in subst P same (flush_fails wants stands byte u u r r' w w' f f' part rose)

-- the same after other bytes
pub feeds_then : {U S : Type 0} (wants stands : U → S → Type 0) (byte : S → ℕ → Outcome S) (u0 u1 u2 : U) (xs r0 r1 r2 : List ℕ) (w0 w1 w2 : Option (List ℕ)) (f0 f1 f2 : ℕ) (result : Result (Unit {0}) Interruption) → f0 ≤ f1
    → Feeds wants stands byte u0 xs u1 r0 r1 w0 w1 f0 f1 (Ok tt) → Feeds wants stands byte u1 [] u2 r1 r2 w1 w2 f1 f2 result → Feeds wants stands byte u0 xs u2 r0 r2 w0 w2 f0 f2 result
feeds_then {U} {S} wants stands byte u0 u1 u2 xs r0 r1 r2 w0 w1 w2 f0 f1 f2 result le first second =
    let P : List ℕ → Type 0 = λ bytes. Feeds wants stands byte u0 bytes u2 r0 r2 w0 w2 f0 f2 result in
    subst P (append-nil xs) (feeds_on wants stands byte u0 u1 u2 xs [] r0 r1 r2 w0 w1 w2 f0 f1 f2 result le first second)

-- ---- a unit

pub next_feeds : {U S : Type 0} (wants stands : U → S → Type 0) (byte : S → ℕ → Outcome S) (u u' : U) (piece r r' : List ℕ) (count : ℕ) (w : Option (List ℕ)) (f f' : ℕ)
    → ((s : S) → stands u s → Nexts stands byte s piece u' r r' (Ok count)) → Feeds wants stands byte u (take count piece) u' r r' w w f f' (Ok tt)
next_feeds wants stands byte u u' piece r r' count w f f' nexts s stand =
    let j = nexts s stand in record { later = j.0; goes = j.1; at = j.2; flushed = []; wrote = Appends-nil w; whole = sym j.3 }

-- a text that was ready, and a text after it
behind_mark : (r r' text : List ℕ) (mark : ℕ) → mark ≡ length r → r' ≡ r ++ text → (take mark r' ≡ r) × (drop mark r' ≡ text)
behind_mark r r' text mark at is = (
  ap (λ (n : ℕ). take n r') at ∙ ap (λ (xs : List ℕ). take (length r) xs) is ∙ take-append_seam r text,
  ap (λ (n : ℕ). drop n r') at ∙ ap (λ (xs : List ℕ). drop (length r) xs) is ∙ drop-append_seam r text,
)

next_stops : {U S : Type 0} (wants : S → Type 0) (stands : U → S → Type 0) (byte : S → ℕ → Outcome S) (s : S) (u' : U) (piece r r' : List ℕ) (mark : ℕ) (w w' : Option (List ℕ)) (f f' : ℕ) (why : Halt) (stop : Interruption) → mark ≡ length r
    → wants s → Judges stands (takes byte s piece) u' r r' (Err why) → Halts stop why (take mark r') (drop mark r') w w' f f' → Stopped wants stop byte s piece r w w' f f'
next_stops wants stands byte s u' piece r r' mark w w' f f' why SourceFault at here j h = absurd h
next_stops wants stands byte s u' piece r r' mark w w' f f' (Ended why) SinkFault at here j h =
    (h.0, part_longer w w' r (takes byte s piece).text (subst (WritesPart w w') (behind_mark r r' j.0 mark at j.2).0 h.1))
next_stops wants stands byte s u' piece r r' mark w w' f f' Starved SinkFault at here j h =
    (h.0, part_longer w w' r (takes byte s piece).text (subst (WritesPart w w') (behind_mark r r' [] mark at (j ∙ sym (append-nil r))).0 h.1))
next_stops {U} {S} wants stands byte s u' piece r r' mark w w' f f' (Ended why) (Halted (Ended other)) at here j h =
    let parts = behind_mark r r' j.0 mark at j.2 in
    let same : why ≡ other = let e = h.0 in cc in
    let text : take mark r' ≡ r ++ (takes byte s piece).text = parts.0 ∙ sym (ap (λ (o : Outcome S). r ++ o.text) j.1 ∙ append-nil r) in (
      j.0,
      ap (λ (o : Outcome S). o.result) j.1 ∙ ap (λ (e : Ending). let result : Result S End = Err (end_by e j.0) in result) same,
      subst (λ (xs : List ℕ). WritesEnd w w' f f' (r ++ (takes byte s piece).text) xs) parts.1 (subst (λ (xs : List ℕ). WritesEnd w w' f f' xs (drop mark r')) text h.1),
    )
next_stops wants stands byte s u' piece r r' mark w w' f f' Starved (Halted (Ended other)) at here j h = let e = h.0 in absurd cc
next_stops wants stands byte s u' piece r r' mark w w' f f' (Ended why) (Halted Starved) at here j h = let e = h.0 in absurd cc
next_stops wants stands byte s u' piece r r' mark w w' f f' Starved (Halted Starved) at here j h =
    let wrote : Appends w w' r = subst (Appends w w') (behind_mark r r' [] mark at (j ∙ sym (append-nil r))).0 h.1 in
    record {
      writes = record { front = []; more = piece; split = refl; goes = refl; wrote = subst (Appends w w') (sym (append-nil r)) wrote };
      later = s;
      goes = refl;
      at = inl here;
    }

pub next_halts : {U S : Type 0} (wants stands : U → S → Type 0) (byte : S → ℕ → Outcome S) (u u' : U) (piece r r' r2 : List ℕ) (mark : ℕ) (w w' : Option (List ℕ)) (f f' : ℕ) (why : Halt) (stop : Interruption) → mark ≡ length r
    → ((s : S) → stands u s → wants u' s) → ((s : S) → stands u s → Nexts stands byte s piece u' r r' (Err why)) → Halts stop why (take mark r') (drop mark r') w w' f f' → Feeds wants stands byte u piece u' r r2 w w' f f' (Err stop)
next_halts wants stands byte u u' piece r r' r2 mark w w' f f' why stop at here nexts h s stand = next_stops (wants u') stands byte s u' piece r r' mark w w' f f' why stop at (here s stand) (nexts s stand) h

-- ---- the text that was written

-- for every result of the bytes, some text was written
pub some_by : {U S : Type 0} (wants stands : U → S → Type 0) (byte : S → ℕ → Outcome S) (s : S) (bytes : List ℕ) (u' : U) (r r' : List ℕ) (w w' : Option (List ℕ)) (f f' : ℕ) (result : Result (Unit {0}) Interruption)
    → FeedsBy wants stands byte s bytes u' r r' w w' f f' result → (text : List ℕ) × Appends w w' text
some_by wants stands byte s bytes u' r r' w w' f f' (Ok _) b = (b.flushed, b.wrote)
some_by wants stands byte s bytes u' r r' w w' f f' (Err SourceFault) b = (r ++ (takes byte s bytes).text, b.1)
some_by wants stands byte s bytes u' r r' w w' f f' (Err SinkFault) b = (b.1.text, b.1.wrote)
some_by wants stands byte s bytes u' r r' w w' f f' (Err (Halted (Ended why))) b = ((r ++ (takes byte s bytes).text) ++ b.2.front, b.2.wrote)
some_by wants stands byte s bytes u' r r' w w' f f' (Err (Halted Starved)) b = (r ++ (takes byte s b.writes.front).text, b.writes.wrote)

-- nothing is ready: all texts that are due were written
pub all_flushed : {U S : Type 0} (stands : U → S → Type 0) (byte : S → ℕ → Outcome S) (s : S) (bytes : List ℕ) (u' : U) (r r' : List ℕ) (w w' : Option (List ℕ)) → r ≡ [] → r' ≡ []
    → Fed stands byte s bytes u' r r' w w' → Appends w w' (takes byte s bytes).text
all_flushed stands byte s bytes u' r r' w w' none empty a =
    let text = (takes byte s bytes).text in
    subst (Appends w w') (sym (ap (λ (xs : List ℕ). xs ++ text) (sym none) ∙ a.whole ∙ ap (λ (xs : List ℕ). a.flushed ++ xs) empty ∙ append-nil a.flushed)) a.wrote

pub goes_ok : {S : Type 0} (r : Result S End) (s : S) → r ≡ Ok s → IsOk r
goes_ok {S} r s is = subst (λ (x : Result S End). IsOk x) (sym is) refl

-- ---- the source

abbrev pub took_none : {U S : Type 0} (wants stands : U → S → Type 0) (byte : S → ℕ → Outcome S) (u : U) (r : List ℕ) (left w : Option (List ℕ)) (f f' : ℕ) → Took wants stands byte u u r r left left w w f f' (Ok tt)
took_none wants stands byte u r left w f f' = record {
  earlier = [];
  piece = [];
  consumed = Consumes-nil left;
  small = omega arith;
  bounded = omega arith;
  first = λ s stand. (refl, [], Appends-nil w);
  feeds = feeds_none wants stands byte u r w f f';
}

-- a further piece was taken, after bytes all of whose texts were written
abbrev pub took_on : {U S : Type 0} (wants stands : U → S → Type 0) (byte : S → ℕ → Outcome S) (u0 u1 u2 : U) (r0 r1 r2 : List ℕ) (left0 left1 left2 w0 w1 w2 : Option (List ℕ)) (f0 f1 f2 : ℕ) (piece : List ℕ) (result : Result (Unit {0}) Interruption) → f0 ≤ f1
    → r0 ≡ [] → r1 ≡ [] → length piece ≤ 65536
    → (took : Took wants stands byte u0 u1 r0 r1 left0 left1 w0 w1 f0 f1 (Ok tt)) → length (took.earlier ++ took.piece) < most_bytes → Consumes left1 left2 piece → Feeds wants stands byte u1 piece u2 r1 r2 w1 w2 f1 f2 result
    → Took wants stands byte u0 u2 r0 r2 left0 left2 w0 w2 f0 f2 result
took_on wants stands byte u0 u1 u2 r0 r1 r2 left0 left1 left2 w0 w1 w2 f0 f1 f2 piece result le none empty small took bounded consumed feeds = record {
  earlier = took.earlier ++ took.piece;
  piece = piece;
  consumed = Consumes-trans left0 left1 left2 (took.earlier ++ took.piece) piece took.consumed consumed;
  small = small;
  bounded = bounded;
  first = λ s stand.
      let bytes = took.earlier ++ took.piece in
      let a = took.feeds s stand in
      let more = some_by wants stands byte a.later piece u2 r1 r2 w1 w2 f1 f2 result (feeds a.later a.at) in
      (goes_ok (takes byte s bytes).result a.later a.goes, more.0, Appends-trans w0 w1 w2 (takes byte s bytes).text more.0 (all_flushed stands byte s bytes u1 r0 r1 w0 w1 none empty a) more.1);
  feeds = feeds_on wants stands byte u0 u1 u2 (took.earlier ++ took.piece) piece r0 r1 r2 w0 w1 w2 f0 f1 f2 result le took.feeds feeds;
}

-- Bytes were taken, no more than the units have so far, and a piece was read after them. The first read returned `first`.
pub record HasRead {U S : Type 0} (wants stands : U → S → Type 0) (byte : S → ℕ → Outcome S) (old new : U) (ready ready' : List ℕ) (left left' written written' : Option (List ℕ)) (faults faults' : ℕ) (piece first : List ℕ) (most : ℕ) : Type 0 where
  pub before : Option (List ℕ)
  pub took : Took wants stands byte old new ready ready' left before written written' faults faults' (Ok tt)
  pub read : Consumes before left' piece
  pub far : length (took.earlier ++ took.piece) ≤ most
  pub begins : BeginsWith first ((took.earlier ++ took.piece) ++ piece)

-- nothing was read after the bytes that were taken
abbrev pub took_all : {U S : Type 0} (wants stands : U → S → Type 0) (byte : S → ℕ → Outcome S) (u0 u1 : U) (r0 r1 : List ℕ) (left left1 left2 w0 w1 : Option (List ℕ)) (f0 f1 : ℕ) (result : Result (Unit {0}) Interruption)
    → Took wants stands byte u0 u1 r0 r1 left left1 w0 w1 f0 f1 result → Consumes left1 left2 [] → Took wants stands byte u0 u1 r0 r1 left left2 w0 w1 f0 f1 result
took_all wants stands byte u0 u1 r0 r1 left left1 left2 w0 w1 f0 f1 result took none = record {
  earlier = took.earlier;
  piece = took.piece;
  consumed = subst (Consumes left left2) (append-nil (took.earlier ++ took.piece)) (Consumes-trans left left1 left2 (took.earlier ++ took.piece) [] took.consumed none);
  small = took.small;
  bounded = took.bounded;
  first = took.first;
  feeds = took.feeds;
}

-- the source failed after bytes all of whose texts were written
abbrev pub took_fails : {U S : Type 0} (wants stands : U → S → Type 0) (byte : S → ℕ → Outcome S) (u0 u1 : U) (r0 r1 : List ℕ) (left left1 left2 w0 w1 : Option (List ℕ)) (f0 f1 : ℕ)
    → r1 ≡ [] → Took wants stands byte u0 u1 r0 r1 left left1 w0 w1 f0 f1 (Ok tt) → Keeps left1 left2 → Took wants stands byte u0 u1 r0 r1 left left2 w0 w1 f0 f1 (Err SourceFault)
took_fails wants stands byte u0 u1 r0 r1 left left1 left2 w0 w1 f0 f1 empty took keeps = record {
  earlier = took.earlier;
  piece = took.piece;
  consumed = Consumes-kept left left1 left2 (took.earlier ++ took.piece) took.consumed keeps;
  small = took.small;
  bounded = took.bounded;
  first = took.first;
  feeds = λ s stand.
      let bytes = took.earlier ++ took.piece in
      let a = took.feeds s stand in
      (goes_ok (takes byte s bytes).result a.later a.goes, subst (Appends w0 w1) (sym (a.whole ∙ ap (λ (xs : List ℕ). a.flushed ++ xs) empty ∙ append-nil a.flushed)) a.wrote);
}

-- ---- a piece is the bytes taken and the bytes left

pub split_piece : (front rest piece : List ℕ) (n : ℕ) → front ++ rest ≡ piece → (front ++ take n rest) ++ take (length rest - n) (drop n rest) ≡ piece
split_piece front rest piece n joined =
    ap (λ (xs : List ℕ). (front ++ take n rest) ++ xs) (take_rest rest n) ∙ append_assoc front (take n rest) (drop n rest) ∙ ap (λ (xs : List ℕ). front ++ xs) (take-append-drop n rest) ∙ joined

pub all_of : (front rest piece : List ℕ) → front ++ rest ≡ piece → length rest ≡ 0 → front ≡ piece
all_of front [] piece joined none = sym (append-nil front) ∙ joined
all_of front (b ∷ rest) piece joined none = absurd (omega arith)
