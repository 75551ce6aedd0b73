-- A written file is read back.
use Rattle.std.proofs.Common.{◌≡◌, ℕ, zero, suc, ◌+◌, ◌-◌, ◌*◌, ◌/◌, ◌%◌, ◌^◌, ◌==◌, ◌<◌, ◌≤◌, Bool, true, false, cond, nat_lt, List, [], ◌∷◌, ◌++◌, length, map, take, drop, Option, Some, None, refl, sym, ap, ap₂, subst, ◌∙◌, arith, append_assoc}
use Rattle.std.specs.Prelude.{nat_le, slice_index}
use Rattle.std.specs.Int.{to_le_bytes, w32, w64}
use Rattle.std.specs.Option.{option_map}
use Rattle.std.specs.List.{AllByRecursion, flat_map}
use Rattle.std.proofs.lemmas.Grind.{common_steps}
use Rattle.std.proofs.lemmas.List.{length-append, length-take}
use Rattle.obu_element.specs.declared.obu_header.ObuFault.{ObuFault}
use Rattle.obu_element.specs.declared.obu_header.ObuFault.TheVariants as fault
use Rattle.obu_element.specs.Reading.{first_fault, has_size_in, header_of}
use Rattle.av1_payload.specs.Leb.{AreGroups, IsLength, leb_bytes, number_of}
use Rattle.ivf_recorder.specs.Elements.{elements_over}
use Rattle.ivf_recorder.specs.Frames.{WholeFrame, before_fault, content_of, contents_of, contents_over, first_timestamp, gathered_over, ivf_over, obus_before_fault, obus_of_frames, obus_over, size_over}
use Rattle.ivf_recorder.specs.Leb.{least_leb, leb_within}
use Rattle.ivf_recorder.specs.Obus.{Obu, all_bytes, both, is_left_out, obu_bytes, obu_unless, obu_with, obus_in, obus_of, payload_in, unless_left_out}
use Rattle.ivf_recorder.specs.ReadFiles.{AreLaid, AreUnits, IsFileWith, IsObu}
use Rattle.ivf_recorder.specs.Units.{RecordedFrame, TemporalUnit, begins, delimiter, grown, header, joins, next_time, unit_bytes, units_from, units_of}
use Rattle.ivf_recorder.proofs.Laying.{all_more}
use Rattle.ivf_recorder.proofs.Lebs.{leb_more, leb_small}

-- ---- size fields

abbrev Fits : ℕ → ℕ → Type 0
Fits zero n = n < 128
Fits (suc more) n = Fits more (n / 128)

record Groups (more n : ℕ) : Type 0 where
  groups : List ℕ
  written : leb_bytes groups ≡ leb_within more n
  small : AreGroups groups
  spelled : number_of groups ≡ n
  some : 0 < length groups
  few : length groups ≤ more + 1

one_group : (more n : ℕ) → n < 128 → Groups more n
one_group more n lt = record { groups = n ∷ []; written = sym (leb_small more n lt); small = (lt, tt); spelled = omega arith; some = omega arith; few = omega arith }

groups_of : (more n : ℕ) → Fits more n → Groups more n
groups_of zero n fits = one_group zero n fits
groups_of (suc more) n fits = go (groups_of more (n / 128) fits) (nat_lt n 128) refl
  where
    front : (g : ℕ) (gs : List ℕ) → 0 < length gs → leb_bytes (g ∷ gs) ≡ (128 + g) ∷ leb_bytes gs
    front g [] e = absurd (omega arith)
    front g (h ∷ gs) e = refl

    go : Groups more (n / 128) → (b : Bool) → nat_lt n 128 ≡ b → Groups (suc more) n
    go r true is = one_group (suc more) n (grind (arith, common_steps))
    go r false is =
        let le : 128 ≤ n = grind (arith, common_steps) in
        let s = r.spelled in
        let f = r.few in
        record {
          groups = n % 128 ∷ r.groups;
          written = front (n % 128) r.groups r.some ∙ (ap (λ (x : List ℕ). (128 + n % 128) ∷ x) r.written ∙ sym (leb_more more (suc more) n refl le));
          small = (omega arith, r.small);
          spelled = ap (λ (x : ℕ). n % 128 + 128 * x) s ∙ omega arith;
          some = omega arith;
          few = omega arith;
        }

size_groups : (n : ℕ) → n < 2 ^ 32 → (groups : List ℕ) × (leb_bytes groups ≡ least_leb n) × IsLength groups n
size_groups n lt =
    let g = groups_of 4 n (omega arith) in
    let f = g.few in
    (g.groups, g.written, record { some = g.some; few = omega arith; small = g.small; spelled = g.spelled; below = lt })

-- ---- OBUs

payload_within : (o : Obu) (os : List Obu) → length o.payload ≤ length (all_bytes (o ∷ os))
payload_within o os =
    let a = length-append (obu_bytes o) (all_bytes os) in
    let b = length-append o.extension (least_leb (length o.payload) ++ o.payload) in
    let c = length-append (least_leb (length o.payload)) o.payload in
    omega arith

others_within : (o : Obu) (os : List Obu) → length (all_bytes os) ≤ length (all_bytes (o ∷ os))
others_within o os = let a = length-append (obu_bytes o) (all_bytes os) in omega arith

pub laid_all : (obus : List Obu) → AllByRecursion IsObu obus → length (all_bytes obus) < 2 ^ 32 → AreLaid obus (all_bytes obus)
laid_all [] good lt = refl
laid_all (o ∷ os) good lt =
    let p = payload_within o os in
    let q = others_within o os in
    let g = size_groups (length o.payload) (omega arith) in (
      g.0,
      all_bytes os,
      ap (λ (x : List ℕ). (o.first + 2) ∷ x)
          (append_assoc o.extension (least_leb (length o.payload) ++ o.payload) (all_bytes os)
          ∙ ap (λ (x : List ℕ). o.extension ++ x) (append_assoc (least_leb (length o.payload)) o.payload (all_bytes os) ∙ ap (λ (x : List ℕ). x ++ (o.payload ++ all_bytes os)) (sym g.1))),
      g.2,
      good.0,
      laid_all os good.1 (omega arith),
    )

-- an element that is an OBU
not_forbidden : (a : ℕ) (b : Bool) (o : Option ObuFault) → nat_le 128 a ≡ b → cond {A = Option ObuFault} b (Some fault.Forbidden) o ≡ None → (a < 128) × (o ≡ None)
not_forbidden a true o is e = absurd cc
not_forbidden a false o is e = (grind (arith, common_steps), e)

not_cut : (c : Bool) → cond {A = Option ObuFault} c (Some fault.Cut) None ≡ None → c ≡ false
not_cut true e = absurd cc
not_cut false e = refl

bit_of : (n : ℕ) (c : Bool) → (n % 2 == 1) ≡ c → cond {A = ℕ} c 1 0 ≡ n % 2
bit_of n true e = grind (arith, common_steps)
bit_of n false e = grind (arith, common_steps)

len_less : (c : Bool) → cond {A = ℕ} c 2 1 - 1 ≡ cond {A = ℕ} c 1 0
len_less true = refl
len_less false = refl

record HeaderFacts (element : List ℕ) : Type 0 where
  allowed : slice_index element 0 < 128
  extended : length (take ((header_of element).len - 1) (drop 1 element)) ≡ slice_index element 0 / 4 % 2

header_facts : (element : List ℕ) → first_fault element ≡ None → HeaderFacts element
unfolding first_fault
header_facts [] e = absurd cc
header_facts (a ∷ []) e =
    let f = not_forbidden a (nat_le 128 a) _ refl e in
    let c = not_cut (a / 4 % 2 == 1) f.1 in
    let l = length-take ((header_of (a ∷ [])).len - 1) (drop 1 (a ∷ [])) in
    let b = bit_of (a / 4) (a / 4 % 2 == 1) refl in
    let z : cond {A = ℕ} (a / 4 % 2 == 1) 1 0 ≡ 0 = rw c refl in
    record { allowed = f.0; extended = omega arith }
header_facts (a ∷ d ∷ more) e =
    let f = not_forbidden a (nat_le 128 a) _ refl e in
    let l = length-take ((header_of (a ∷ d ∷ more)).len - 1) (d ∷ more) in
    let b = bit_of (a / 4) (a / 4 % 2 == 1) refl in
    let k = len_less (a / 4 % 2 == 1) in
    record { allowed = f.0; extended = l ∙ (let m : (header_of (a ∷ d ∷ more)).len - 1 ≤ 1 = one_at_most (a / 4 % 2 == 1) in omega arith) }
  where
    one_at_most : (c : Bool) → cond {A = ℕ} c 2 1 - 1 ≤ 1
    one_at_most true = omega arith
    one_at_most false = omega arith

sizeless_facts : (n : ℕ) (c : Bool) → (n / 2 % 2 == 1) ≡ c → n < 128 → (n - cond c 2 0 < 128) × ((n - cond c 2 0) / 2 % 2 ≡ 0) × ((n - cond c 2 0) / 4 % 2 ≡ n / 4 % 2)
sizeless_facts n true e lt = let b : n / 2 % 2 ≡ 1 = grind (arith, common_steps) in (omega arith, omega arith, omega arith)
sizeless_facts n false e lt = let b : n / 2 % 2 ≡ 0 = grind (arith, common_steps) in (omega arith, omega arith, omega arith)

good_with : (element payload : List ℕ) → first_fault element ≡ None → IsObu (obu_with element payload)
good_with element payload e =
    let h = header_facts element e in
    let s = sizeless_facts (slice_index element 0) (slice_index element 0 / 2 % 2 == 1) refl h.allowed in
    record { allowed = s.0; sizeless = s.1; extended = h.extended ∙ sym s.2 }

good_one : (element : List ℕ) (obus : List Obu) → obus_of element ≡ Some obus → AllByRecursion IsObu obus
good_one [] obus e = subst (AllByRecursion IsObu) (some_is [] obus e) tt
  where
    some_is : (x y : List Obu) → Some x ≡ Some y → x ≡ y
    some_is x y e = cc
good_one (b ∷ bs) obus e = by_fault (first_fault (b ∷ bs)) refl e
  where
    by_out : (out : Bool) (o : Obu) → IsObu o → Some (cond {A = List Obu} out [] (o ∷ [])) ≡ Some obus → AllByRecursion IsObu obus
    by_out true o good e = (let s : [] ≡ obus = cc in subst (AllByRecursion IsObu) s tt)
    by_out false o good e = (let s : o ∷ [] ≡ obus = cc in subst (AllByRecursion IsObu) s (good, tt))

    by_payload : first_fault (b ∷ bs) ≡ None → (p : Option (List ℕ)) → unless_left_out (option_map (obu_with (b ∷ bs)) p) ≡ Some obus → AllByRecursion IsObu obus
    by_payload none None e = absurd cc
    by_payload none (Some payload) e = by_out (is_left_out (obu_with (b ∷ bs) payload)) (obu_with (b ∷ bs) payload) (good_with (b ∷ bs) payload none) e

    by_fault : (f : Option ObuFault) → first_fault (b ∷ bs) ≡ f → unless_left_out (obu_unless f (b ∷ bs)) ≡ Some obus → AllByRecursion IsObu obus
    by_fault (Some f) is e = absurd cc
    by_fault None is e = by_payload is (payload_in (has_size_in (b ∷ bs)) (drop (header_of (b ∷ bs)).len (b ∷ bs))) e

good_both : (os ps : List Obu) → AllByRecursion IsObu os → AllByRecursion IsObu ps → AllByRecursion IsObu (os ++ ps)
good_both [] ps a b = b
good_both (o ∷ os) ps a b = (a.0, good_both os ps a.1 b)

good_all : (elements : List (List ℕ)) (obus : List Obu) → obus_in elements ≡ Some obus → AllByRecursion IsObu obus
good_all [] obus e = (let s : [] ≡ obus = cc in subst (AllByRecursion IsObu) s tt)
good_all (element ∷ elements) obus e = go (good_all elements) (obus_of element) (obus_in elements) refl refl e
  where
    go : ((ps : List Obu) → obus_in elements ≡ Some ps → AllByRecursion IsObu ps) → (x y : Option (List Obu)) → obus_of element ≡ x → obus_in elements ≡ y → both x y ≡ Some obus → AllByRecursion IsObu obus
    go rest None y a b e = absurd cc
    go rest (Some os) None a b e = absurd cc
    go rest (Some os) (Some ps) a b e = (let s : os ++ ps ≡ obus = cc in subst (AllByRecursion IsObu) s (good_both os ps (good_one element os a) (rest ps b)))

-- ---- units

-- a frame that is recorded
record Held : Type 0 where
  timestamp : ℕ
  obus : List Obu

abbrev content : Held → RecordedFrame
content held = record { timestamp = held.timestamp; bytes = all_bytes held.obus }

abbrev obus_held : List Held → List Obu
obus_held helds = flat_map (λ (h : Held). h.obus) helds

abbrev AllGood : List Held → Type 0
AllGood helds = AllByRecursion (λ (h : Held). AllByRecursion IsObu h.obus) helds

abbrev IsSmall : TemporalUnit → Type 0
IsSmall unit = length unit.bytes < 2 ^ 32

record UnitsRead (units : List TemporalUnit) (obus : List Obu) : Type 0 where
  groups : List (List Obu)
  are : AreUnits groups (flat_map unit_bytes units)
  all : obus ≡ flat_map (λ (unit : List Obu). unit) groups
  count : length groups ≡ length units

unit_read : (unit : TemporalUnit) (os : List Obu) (units : List TemporalUnit) (obus : List Obu) → unit.bytes ≡ delimiter ++ all_bytes os → AllByRecursion IsObu os → IsSmall unit → UnitsRead units obus
    → UnitsRead (unit ∷ units) (os ++ obus)
unit_read unit os units obus is good small r = record {
  groups = os ∷ r.groups;
  are =
      (let len : length unit.bytes ≡ length (delimiter ++ all_bytes os) = ap length is in
      let size : length unit.bytes % 2 ^ 32 ≡ length (delimiter ++ all_bytes os) = omega arith in (
        unit.time,
        all_bytes os,
        flat_map unit_bytes units,
        append_assoc (to_le_bytes w32 (length unit.bytes % 2 ^ 32)) (to_le_bytes w64 unit.time ++ unit.bytes) (flat_map unit_bytes units)
            ∙ (ap (λ (x : List ℕ). to_le_bytes w32 (length unit.bytes % 2 ^ 32) ++ x) (append_assoc (to_le_bytes w64 unit.time) unit.bytes (flat_map unit_bytes units))
            ∙ ap₂ (λ (n : ℕ) (x : List ℕ). to_le_bytes w32 n ++ (to_le_bytes w64 unit.time ++ (x ++ flat_map unit_bytes units))) size is),
        omega arith,
        laid_all os good (omega arith),
        r.are,
      ));
  all = ap (λ (x : List Obu). os ++ x) r.all;
  count = ap suc r.count;
}

units_read : (unit : TemporalUnit) (os : List Obu) (helds : List Held) → unit.bytes ≡ delimiter ++ all_bytes os → AllByRecursion IsObu os → AllGood helds
    → AllByRecursion IsSmall (units_from unit (map content helds)) → UnitsRead (units_from unit (map content helds)) (os ++ obus_held helds)
units_read unit os [] is good all small = unit_read unit os [] [] is good small.0 (record { groups = []; are = refl; all = refl; count = refl })
units_read unit os (h ∷ helds) is good all small = go (λ v ws i g s. units_read v ws helds i g all.1 s) (joins unit (content h)) small
  where
    go : ((v : TemporalUnit) (ws : List Obu) → v.bytes ≡ delimiter ++ all_bytes ws → AllByRecursion IsObu ws → AllByRecursion IsSmall (units_from v (map content helds)) → UnitsRead (units_from v (map content helds)) (ws ++ obus_held helds))
        → (b : Bool) → AllByRecursion IsSmall (cond {A = List TemporalUnit} b (units_from (grown unit (content h)) (map content helds)) (unit ∷ units_from (begins (next_time unit (content h)) (content h)) (map content helds)))
        → UnitsRead (cond {A = List TemporalUnit} b (units_from (grown unit (content h)) (map content helds)) (unit ∷ units_from (begins (next_time unit (content h)) (content h)) (map content helds))) (os ++ (h.obus ++ obus_held helds))
    go rest true small =
        subst (UnitsRead (units_from (grown unit (content h)) (map content helds))) (append_assoc os h.obus (obus_held helds))
        (rest (grown unit (content h)) (os ++ h.obus)
        (ap (λ (x : List ℕ). x ++ all_bytes h.obus) is ∙ (append_assoc delimiter (all_bytes os) (all_bytes h.obus) ∙ ap (λ (x : List ℕ). delimiter ++ x) (sym (all_more os h.obus))))
        (good_both os h.obus good all.0) small)
    go rest false small =
        unit_read unit os (units_from (begins (next_time unit (content h)) (content h)) (map content helds)) (h.obus ++ obus_held helds) is good small.0
        (rest (begins (next_time unit (content h)) (content h)) h.obus refl all.0 small.1)

all_units : (helds : List Held) → AllGood helds → AllByRecursion IsSmall (units_of (map content helds)) → UnitsRead (units_of (map content helds)) (obus_held helds)
all_units [] all small = record { groups = []; are = refl; all = refl; count = refl }
all_units (h ∷ helds) all small = units_read (begins 0 (content h)) h.obus helds refl all.0 all.1 small

-- ---- frames

record Recorded (frames : List WholeFrame) : Type 0 where
  helds : List Held
  contents : contents_of frames ≡ map content helds
  obus : obus_of_frames frames ≡ obus_held helds
  good : AllGood helds

recorded : (frames : List WholeFrame) → Recorded frames
recorded [] = record { helds = []; contents = refl; obus = refl; good = tt }
recorded (f ∷ frames) = go (recorded frames) (obus_in (elements_over f.packets)) refl
  where
    content_is : (o : Option (List Obu)) → obus_in (elements_over f.packets) ≡ o → content_of f ≡ option_map (λ obus. record { timestamp = first_timestamp f.packets; bytes = all_bytes obus }) o
    content_is o e = ap (option_map (λ obus. record { timestamp = first_timestamp f.packets; bytes = all_bytes obus })) e

    go : Recorded frames → (o : Option (List Obu)) → obus_in (elements_over f.packets) ≡ o → Recorded (f ∷ frames)
    go r None e = record {
      helds = [];
      contents = ap (λ (c : Option RecordedFrame). before_fault c (contents_of frames)) (content_is None e);
      obus = ap (λ (o : Option (List Obu)). obus_before_fault o (obus_of_frames frames)) e;
      good = tt;
    }
    go r (Some os) e =
        record {
          helds = record { timestamp = first_timestamp f.packets; obus = os } ∷ r.helds;
          contents = ap (λ (c : Option RecordedFrame). before_fault c (contents_of frames)) (content_is (Some os) e) ∙ ap (λ (x : List RecordedFrame). record { timestamp = first_timestamp f.packets; bytes = all_bytes os } ∷ x) r.contents;
          obus = ap (λ (o : Option (List Obu)). obus_before_fault o (obus_of_frames frames)) e ∙ ap (λ (x : List Obu). os ++ x) r.obus;
          good = (good_all (elements_over f.packets) os e, r.good);
        }

pub read_back : (id : ℕ) (history : List (List ℕ)) → AllByRecursion IsSmall (units_of (contents_over id history)) → IsFileWith (ivf_over id history) (obus_over id history)
read_back id history small =
    let r = recorded (gathered_over id history).frames in
    let u = all_units r.helds r.good (subst (λ (x : List RecordedFrame). AllByRecursion IsSmall (units_of x)) r.contents small) in
    record {
      size = size_over id history;
      units = u.groups;
      body = flat_map unit_bytes (units_of (map content r.helds));
      laid =
          ap (λ (x : List RecordedFrame). header (size_over id history) (length (units_of x)) (flat_map unit_bytes (units_of x))) r.contents
          ∙ ap (λ (n : ℕ). header (size_over id history) n (flat_map unit_bytes (units_of (map content r.helds)))) (sym u.count);
      are = u.are;
      all = r.obus ∙ u.all;
    }
