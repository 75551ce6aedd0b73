-- One more frame in a file, as the code appends it.
use Rattle.std.proofs.Common.{◌≡◌, ℕ, ◌+◌, ◌-◌, ◌%◌, ◌^◌, ◌≤◌, Bool, true, List, [], ◌∷◌, ◌++◌, length, Option, Some, None, refl, sym, ap, subst, ◌∙◌}
use Rattle.std.specs.Int.{to_le_bytes, w32, w64}
use Rattle.ivf_recorder.specs.declared.file.Growth.TheVariants.{Grown, TooLong}
use Rattle.ivf_recorder.specs.declared.file.IvfFile.{IvfFile}
use Rattle.ivf_recorder.specs.Added.{Adds, BeginsUnit, Grows, HasSameUnit, IsNextTime, SetsUnit, SetsUnitSize, content, timestamp_in}
use Rattle.ivf_recorder.specs.Files.{HasNewest, IsFileOf, IsNewest}
use Rattle.ivf_recorder.specs.Laid.{Lays}
use Rattle.ivf_recorder.specs.Obus.{Obu, all_bytes}
use Rattle.ivf_recorder.specs.Units.{RecordedFrame, Size, delimiter, most_unit}
use Rattle.ivf_recorder.proofs.FileLemmas.{apart_file, joined_file, new_unit}

-- the newest unit with these numbers, if they are the file's
newest_of : (file : IvfFile) (timestamp time at : ℕ) (contents : List RecordedFrame) → file.begun ≡ true → file.timestamp ≡ timestamp → file.time ≡ time → file.at ≡ at
    → IsNewest timestamp time at contents → HasNewest file.begun file.timestamp file.time file.at contents
newest_of file timestamp time at contents begun same_timestamp same_time same_at n =
    subst (λ (b : Bool). HasNewest b file.timestamp file.time file.at contents) (sym begun)
    (subst (λ (t : ℕ). IsNewest t file.time file.at contents) (sym same_timestamp)
    (subst (λ (t : ℕ). IsNewest timestamp t file.at contents) (sym same_time)
    (subst (λ (a : ℕ). IsNewest timestamp time a contents) (sym same_at) n)))

pub file_grown : (old new : IvfFile) (timestamp : Option ℕ) (o : Option (List Obu)) (mid : List ℕ) (size : Size) (contents : List RecordedFrame) → Lays true [] o old.bytes.items mid
    → IsFileOf old size contents → old.begun ≡ true → timestamp_in timestamp ≡ old.timestamp → length mid - old.at - 12 ≤ most_unit
    → SetsUnitSize old.at mid new.bytes.items → HasSameUnit old new → Grows Grown timestamp o size contents new
file_grown old new timestamp None mid size contents lays is begun same fits updated unit = absurd lays
file_grown old new timestamp (Some obus) mid size contents lays is begun same fits updated unit =
    let n : IsNewest old.timestamp old.time old.at contents = subst (λ (b : Bool). HasNewest b old.timestamp old.time old.at contents) begun is.newest in
    let j = joined_file size contents (content timestamp obus) old.timestamp old.time old.at old.bytes.items mid n is.bytes lays new.bytes.items (sym same) fits updated in
    record {
      bytes = j.bytes;
      count = unit.count ∙ (is.count ∙ ap (λ (l : ℕ). l % 2 ^ 32) (sym j.count));
      newest = newest_of new old.timestamp old.time old.at (contents ++ content timestamp obus ∷ []) (unit.begun ∙ begun) unit.timestamp unit.time unit.at j.newest;
    }

pub file_apart : (old new : IvfFile) (timestamp : Option ℕ) (at time : ℕ) (o : Option (List Obu)) (front mid : List ℕ) (size : Size) (contents : List RecordedFrame)
    → Lays true front o old.bytes.items mid → front ≡ to_le_bytes w32 0 ++ (to_le_bytes w64 time ++ delimiter) → IsFileOf old size contents
    → ((obus : List Obu) → o ≡ Some obus → BeginsUnit contents (content timestamp obus)) → IsNextTime contents (timestamp_in timestamp) time
    → at ≡ length old.bytes.items → SetsUnit at old.count mid new.bytes.items
    → new.begun ≡ true → new.at ≡ at → new.timestamp ≡ timestamp_in timestamp → new.time ≡ time → new.count ≡ (old.count + 1) % 2 ^ 32
    → Adds true timestamp o size contents new
file_apart old new timestamp at time None front mid size contents lays head is apart next start updated begun same_at same_timestamp same_time same_count = absurd lays
file_apart old new timestamp at time (Some obus) front mid size contents lays head is apart next start updated begun same_at same_timestamp same_time same_count =
    let one = content timestamp obus in
    let us = new_unit old.begun contents one old.timestamp old.time old.at time is.newest (apart obus refl) next in
    let a = apart_file size contents one time old.count old.bytes.items mid new.bytes.items is.bytes is.count us
    (lays ∙ ap (λ (x : List ℕ). old.bytes.items ++ (x ++ all_bytes obus)) head)
    (subst (λ (x : ℕ). SetsUnit x old.count mid new.bytes.items) start updated) in
    record {
      bytes = a.bytes;
      count = same_count ∙ a.counted;
      newest = newest_of new one.timestamp time (length old.bytes.items) (contents ++ one ∷ []) begun same_timestamp same_time (same_at ∙ start) a.newest;
    }

some_is : (obus other : List Obu) → Some obus ≡ Some other → obus ≡ other
some_is obus other e = cc

pub after_long : (result : Bool) (timestamp : Option ℕ) (o : Option (List Obu)) (size : Size) (contents : List RecordedFrame) (mid new : IvfFile) → Grows TooLong timestamp o size contents mid
    → (IsFileOf mid size contents → ((obus : List Obu) → o ≡ Some obus → BeginsUnit contents (content timestamp obus)) → Adds result timestamp o size contents new)
    → Adds result timestamp o size contents new
after_long result timestamp None size contents mid new grows then = absurd grows
after_long result timestamp (Some obus) size contents mid new grows then =
    then grows.0 (λ other e. subst (λ (x : List Obu). BeginsUnit contents (content timestamp x)) (some_is obus other e) grows.1)
