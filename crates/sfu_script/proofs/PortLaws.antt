-- A line of a port is read as the grammar says, and no other line is.
use Rattle.std.proofs.Common.{◌≡◌, ◌<◌, ℕ, ◌^◌, ◌/◌, ◌%◌, Bool, true, false, cond, List, [], ◌∷◌, ◌++◌, get_or, refl, sym, ap, ◌∙◌, arith, subst, Option, Some, None}
use Rattle.std.specs.Prelude.{codes, decimal, IsTrue}
use Rattle.std.specs.Int.{from_be_bytes, to_be_bytes, w32}
use Rattle.std.specs.Char.{is_ascii_digit}
use Rattle.std.specs.Str.{bytes_eq}
use Rattle.std.proofs.lemmas.Fmt.{digits_decimal}
use Rattle.std.proofs.lemmas.Nat.{from_be_bytes-to_be_bytes_4, be_bytes_4}
use Rattle.std.proofs.lemmas.Slice.Eq.{bytes_eq-Decides}
use Rattle.sfu_base.specs.declared.address.Address.{Address}
use Rattle.script_texts.specs.Grammar.{Place, Fills, Spells, address_text}
use Rattle.script_texts.specs.Grammar.{Address as AddressPlace}
use Rattle.sfu_script.specs.Ports.{ip_of, address_of, publisher_of, subscriber_of, is_apart, of_rtx, rtx_of, named_role_of, role_of, addressed, port_of, role_places, IsPortLine}
use Rattle.sfu_script.specs.Reading.{◌>>=◌, cut, cut_at, field, number_of}
use Rattle.sfu_script.specs.Fields.{fields_of, places_of}
use Rattle.sfu_script.specs.declared.fields.Field.{Field}
use Rattle.sfu_script.specs.declared.fields.Field.TheVariants.{Number8, Number32, Ssrc}
use Rattle.sfu_script.specs.declared.ports.PortLine.{PortLine}
use Rattle.sfu_script.specs.declared.ports.PortRole.{PortRole}
use Rattle.sfu_script.specs.declared.ports.PortRole.TheVariants.{Publisher, Subscriber, Control, Rtx}
use Rattle.sfu_script.proofs.Arities.{two_read}
use Rattle.sfu_script.proofs.FieldLaws.{fields_again, fields_found}
use Rattle.sfu_script.proofs.Filled.{number_found, number_again, four_bytes}
use Rattle.sfu_script.proofs.Options.{bind_some, chosen, some_same}
use Rattle.sfu_script.proofs.Parsing.{own}
use Rattle.sfu_script.proofs.Spaces.{lacks, lacks_digits, lacks_both, cut_at_found, cut_at_again, cut_found, no_space}
use Rattle.script_texts.proofs.Written.{four_below}
use Rattle.sfu_script.proofs.Steps.{field_found, field_again}
use Rattle.hex.specs.Hex.{IsBytes}

-- ---- addresses

decimal_lacks : (mark n : ℕ) → is_ascii_digit mark ≡ false → n < 2 ^ 64 → lacks mark (decimal n) ≡ true
decimal_lacks mark n fails small = lacks_digits mark fails (decimal n) (digits_decimal own n small)

octet_read : (n : ℕ) → n < 256 → number_of 8 (decimal n) ≡ Some n
octet_read n h = (number_again 8 n (decimal n) (omega arith) (h, refl)).1

-- four numbers with dots between them
abbrev dotted : ℕ → ℕ → ℕ → ℕ → List ℕ
dotted a b c d = decimal a ++ 46 ∷ (decimal b ++ 46 ∷ (decimal c ++ 46 ∷ decimal d))

dotted_again : (a b c d : ℕ) → a < 256 → b < 256 → c < 256 → d < 256 → ip_of (dotted a b c d) ≡ Some (from_be_bytes w32 (a ∷ b ∷ c ∷ d ∷ []))
unfolding ip_of
dotted_again a b c d p q r s =
    let first = cut_at_again 46 (decimal a) (decimal b ++ 46 ∷ (decimal c ++ 46 ∷ decimal d)) (decimal_lacks 46 a refl (omega arith)) in
    let second = cut_at_again 46 (decimal b) (decimal c ++ 46 ∷ decimal d) (decimal_lacks 46 b refl (omega arith)) in
    let third = cut_at_again 46 (decimal c) (decimal d) (decimal_lacks 46 c refl (omega arith)) in
    let na = octet_read a p in
    let nb = octet_read b q in
    let nc = octet_read c r in
    let nd = octet_read d s in
    rw (first, second, third, na, nb, nc, nd) refl

dotted_lacks : (a b c d : ℕ) → a < 256 → b < 256 → c < 256 → d < 256 → lacks 58 (dotted a b c d) ≡ true
dotted_lacks a b c d p q r s =
    let la = decimal_lacks 58 a refl (omega arith) in
    let lb = decimal_lacks 58 b refl (omega arith) in
    let lc = decimal_lacks 58 c refl (omega arith) in
    let ld = decimal_lacks 58 d refl (omega arith) in
    lacks_both 58 (decimal a) (46 ∷ (decimal b ++ 46 ∷ (decimal c ++ 46 ∷ decimal d))) la
    (lacks_both 58 (decimal b) (46 ∷ (decimal c ++ 46 ∷ decimal d)) lb (lacks_both 58 (decimal c) (46 ∷ decimal d) lc ld))

address_again : (ip port : ℕ) → ip < 2 ^ 32 → port < 2 ^ 16 → address_of (address_text ip port) ≡ Some (record { ip = ip; port = port })
unfolding address_of
address_again ip port h k =
    let p : ip / 16777216 % 256 < 256 = omega arith in
    let q : ip / 65536 % 256 < 256 = omega arith in
    let r : ip / 256 % 256 < 256 = omega arith in
    let s : ip % 256 < 256 = omega arith in
    let parts = cut_at_again 58 (dotted (ip / 16777216 % 256) (ip / 65536 % 256) (ip / 256 % 256) (ip % 256)) (decimal port)
    (dotted_lacks (ip / 16777216 % 256) (ip / 65536 % 256) (ip / 256 % 256) (ip % 256) p q r s) in
    let host = dotted_again (ip / 16777216 % 256) (ip / 65536 % 256) (ip / 256 % 256) (ip % 256) p q r s in
    let whole : from_be_bytes w32 (ip / 16777216 % 256 ∷ ip / 65536 % 256 ∷ ip / 256 % 256 ∷ ip % 256 ∷ []) ≡ ip = from_be_bytes-to_be_bytes_4 ip h in
    let number = (number_again 16 port (decimal port) (omega arith) (k, refl)).1 in
    rw (parts, host, number, whole) refl

-- the words are the numbers
host_is : (word : List ℕ) (f g h : List ℕ × List ℕ) (a b c d : ℕ) → word ≡ f.0 ++ 46 ∷ f.1 → f.1 ≡ g.0 ++ 46 ∷ g.1 → g.1 ≡ h.0 ++ 46 ∷ h.1
    → f.0 ≡ decimal a → g.0 ≡ decimal b → h.0 ≡ decimal c → h.1 ≡ decimal d → word ≡ dotted a b c d
host_is word f g h a b c d p q r na nb nc nd =
    p ∙ ap (λ (rest : List ℕ). f.0 ++ 46 ∷ rest) (q ∙ ap (λ (rest : List ℕ). g.0 ++ 46 ∷ rest) r)
    ∙ ap (λ (x : List ℕ). x ++ 46 ∷ (g.0 ++ 46 ∷ (h.0 ++ 46 ∷ h.1))) na ∙ ap (λ (x : List ℕ). decimal a ++ 46 ∷ (x ++ 46 ∷ (h.0 ++ 46 ∷ h.1))) nb
    ∙ ap (λ (x : List ℕ). decimal a ++ 46 ∷ (decimal b ++ 46 ∷ (x ++ 46 ∷ h.1))) nc
    ∙ ap (λ (x : List ℕ). decimal a ++ 46 ∷ (decimal b ++ 46 ∷ (decimal c ++ 46 ∷ x))) nd

-- the four bytes are those of the address
same_bytes : (a b c d ip : ℕ) → a < 256 → b < 256 → c < 256 → d < 256 → from_be_bytes w32 (a ∷ b ∷ c ∷ d ∷ []) ≡ ip
    → (ip < 2 ^ 32) × (dotted a b c d ≡ dotted (ip / 16777216 % 256) (ip / 65536 % 256) (ip / 256 % 256) (ip % 256))
same_bytes a b c d ip p q r s e =
    let small : IsBytes (a ∷ b ∷ c ∷ d ∷ []) = four_below a b c d p q r s in
    let is : to_be_bytes w32 ip ≡ a ∷ b ∷ c ∷ d ∷ [] = be_bytes_4 (a ∷ b ∷ c ∷ d ∷ []) ip refl small (sym e) in (
      subst (λ (x : ℕ). x < 2 ^ 32) e (four_bytes (a ∷ b ∷ c ∷ d ∷ []) refl small),
      ap (λ (xs : List ℕ). dotted (get_or xs 0 0) (get_or xs 1 0) (get_or xs 2 0) (get_or xs 3 0)) (sym is),
    )

ip_found : (word : List ℕ) (ip : ℕ) → ip_of word ≡ Some ip
    → (ip < 2 ^ 32) × (word ≡ dotted (ip / 16777216 % 256) (ip / 65536 % 256) (ip / 256 % 256) (ip % 256))
unfolding ip_of
ip_found word ip e =
    let first = bind_some (cut_at 46 word) _ ip e in
    let second = bind_some (cut_at 46 (first.0).1) _ ip first.2 in
    let third = bind_some (cut_at 46 (second.0).1) _ ip second.2 in
    let a = bind_some (number_of 8 (first.0).0) _ ip third.2 in
    let b = bind_some (number_of 8 (second.0).0) _ ip a.2 in
    let c = bind_some (number_of 8 (third.0).0) _ ip b.2 in
    let d = bind_some (number_of 8 (third.0).1) _ ip c.2 in
    let fa = number_found 8 (first.0).0 a.0 (omega arith) a.1 in
    let fb = number_found 8 (second.0).0 b.0 (omega arith) b.1 in
    let fc = number_found 8 (third.0).0 c.0 (omega arith) c.1 in
    let fd = number_found 8 (third.0).1 d.0 (omega arith) d.1 in
    let same = same_bytes a.0 b.0 c.0 d.0 ip fa.0 fb.0 fc.0 fd.0 (some_same _ ip d.2) in (
      same.0,
      host_is word first.0 second.0 third.0 a.0 b.0 c.0 d.0 (cut_at_found 46 word first.0 first.1) (cut_at_found 46 (first.0).1 second.0 second.1)
          (cut_at_found 46 (second.0).1 third.0 third.1) fa.1 fb.1 fc.1 fd.1 ∙ same.1,
    )

address_found : (word : List ℕ) (x : Address) → address_of word ≡ Some x → Fills (AddressPlace x.ip x.port) word
unfolding address_of
address_found word x e =
    let parts = bind_some (cut_at 58 word) _ x e in
    let host = bind_some (ip_of (parts.0).0) _ x parts.2 in
    let port = bind_some (number_of 16 (parts.0).1) _ x host.2 in
    let same : record { ip = host.0; port = port.0 } ≡ x = some_same _ x port.2 in
    let h = ip_found (parts.0).0 host.0 host.1 in
    let k = number_found 16 (parts.0).1 port.0 (omega arith) port.1 in
    subst (λ (y : Address). Fills (AddressPlace y.ip y.port) word) same (
      h.0,
      k.0,
      cut_at_found 58 word parts.0 parts.1 ∙ ap (λ (front : List ℕ). front ++ 58 ∷ (parts.0).1) h.1
          ∙ ap (λ (back : List ℕ). dotted (host.0 / 16777216 % 256) (host.0 / 65536 % 256) (host.0 / 256 % 256) (host.0 % 256) ++ 58 ∷ back) k.1,
    )

address_no_space : (ip port : ℕ) → port < 2 ^ 16 → no_space (address_text ip port) ≡ true
address_no_space ip port k =
    let la = decimal_lacks 32 (ip / 16777216 % 256) refl (omega arith) in
    let lb = decimal_lacks 32 (ip / 65536 % 256) refl (omega arith) in
    let lc = decimal_lacks 32 (ip / 256 % 256) refl (omega arith) in
    let ld = decimal_lacks 32 (ip % 256) refl (omega arith) in
    let lp = decimal_lacks 32 port refl (omega arith) in
    lacks_both 32 (dotted (ip / 16777216 % 256) (ip / 65536 % 256) (ip / 256 % 256) (ip % 256)) (58 ∷ decimal port)
    (lacks_both 32 (decimal (ip / 16777216 % 256)) (46 ∷ (decimal (ip / 65536 % 256) ++ 46 ∷ (decimal (ip / 256 % 256) ++ 46 ∷ decimal (ip % 256)))) la
    (lacks_both 32 (decimal (ip / 65536 % 256)) (46 ∷ (decimal (ip / 256 % 256) ++ 46 ∷ decimal (ip % 256))) lb
    (lacks_both 32 (decimal (ip / 256 % 256)) (46 ∷ decimal (ip % 256)) lc ld))) lp

-- ---- a line that is read is written like this

-- the role in the text
abbrev Says : PortRole → List ℕ → Type 0
Says role text = IsTrue (is_apart role) × Spells (role_places role) text

named_found : (test : Bool) (here other : Option PortRole) (role : PortRole) (P : Type 0) → (test ≡ true → here ≡ Some role → P)
    → (other ≡ Some role → P) → cond test here other ≡ Some role → P
named_found true here other role P first then e = first refl e
named_found false here other role P first then e = then e

last_found : (test : Bool) (here : Option PortRole) (role : PortRole) (P : Type 0) → (test ≡ true → here ≡ Some role → P) → cond test here None ≡ Some role → P
last_found true here role P first e = first refl e
last_found false here role P first e = cc

apart_found : (test : Bool) (made role : PortRole) → is_apart made ≡ test → cond test (Some made) None ≡ Some role → IsTrue (is_apart made) × (made ≡ role)
apart_found true made role is e = (is, some_same made role e)
apart_found false made role is e = cc

rtx_found : (numbers : List ℕ) (role : PortRole) → of_rtx numbers ≡ Some role
    → (s x y p : ℕ) × (numbers ≡ s ∷ x ∷ y ∷ p ∷ []) × IsTrue (is_apart (Rtx s x y p)) × (Rtx s x y p ≡ role)
rtx_found [] role e = cc
rtx_found (s ∷ []) role e = cc
rtx_found (s ∷ x ∷ []) role e = cc
rtx_found (s ∷ x ∷ y ∷ []) role e = cc
rtx_found (s ∷ x ∷ y ∷ p ∷ []) role e = let a = apart_found (is_apart (Rtx s x y p)) (Rtx s x y p) role refl e in (s, x, y, p, refl, a.0, a.1)
rtx_found (s ∷ x ∷ y ∷ p ∷ more ∷ others) role e = cc

abbrev rtx_fields : List Field
rtx_fields = Number32 ∷ Ssrc ∷ Ssrc ∷ Number8 ∷ []

rtx_read : (word rest : List ℕ) (role : PortRole) → word ≡ codes "rtx" → rtx_of rest ≡ Some role → Says role (word ++ 32 ∷ rest)
rtx_read word rest role is e =
    let r = bind_some (fields_of rtx_fields rest) of_rtx role e in
    let p = rtx_found r.0 role r.2 in
    let h : Spells (places_of rtx_fields (p.0 ∷ p.1 ∷ p.2 ∷ p.3 ∷ [])) rest = subst (λ (ns : List ℕ). Spells (places_of rtx_fields ns) rest) p.4 (fields_found rtx_fields rest r.0 r.1) in
    subst (λ (x : PortRole). Says x (word ++ 32 ∷ rest)) p.6 (p.5, (word, rest, is, h, refl))

role_named : (word rest : List ℕ) (role : PortRole) → named_role_of word rest ≡ Some role → Says role (word ++ 32 ∷ rest)
role_named word rest role =
    named_found (bytes_eq word (codes "publisher")) (publisher_of rest) _ role (Says role (word ++ 32 ∷ rest))
    (λ is e.
    let h = two_read (Number32 ∷ Ssrc ∷ []) rest (λ track ssrc. Publisher track ssrc) role e in
    subst (λ (x : PortRole). Says x (word ++ 32 ∷ rest)) h.3 (refl, (word, rest, (bytes_eq-Decides word (codes "publisher")).0 is, h.2, refl)))
    (named_found (bytes_eq word (codes "subscriber")) (subscriber_of rest) _ role (Says role (word ++ 32 ∷ rest))
    (λ is e.
    let h = two_read (Number32 ∷ Ssrc ∷ []) rest (λ subscriber ssrc. Subscriber subscriber ssrc) role e in
    subst (λ (x : PortRole). Says x (word ++ 32 ∷ rest)) h.3 (refl, (word, rest, (bytes_eq-Decides word (codes "subscriber")).0 is, h.2, refl)))
    (last_found (bytes_eq word (codes "rtx")) (rtx_of rest) role (Says role (word ++ 32 ∷ rest))
    (λ is e. rtx_read word rest role ((bytes_eq-Decides word (codes "rtx")).0 is) e)))

role_case : (test : Bool) (rest : List ℕ) (role : PortRole) → bytes_eq rest (codes "control") ≡ test
    → cond test (Some Control) (cut rest >>= (λ parts. named_role_of parts.0 parts.1)) ≡ Some role → Says role rest
role_case true rest role is e =
    subst (λ (x : PortRole). Says x rest) (some_same Control role e) (refl, (bytes_eq-Decides rest (codes "control")).0 is)
role_case false rest role is e =
    let a = bind_some (cut rest) (λ parts. named_role_of parts.0 parts.1) role e in
    subst (λ (text : List ℕ). Says role text) (sym (cut_found rest a.0 a.1)) (role_named (a.0).0 (a.0).1 role a.2)

role_found : (rest : List ℕ) (role : PortRole) → role_of rest ≡ Some role → Says role rest
unfolding role_of
role_found rest role e = role_case (bytes_eq rest (codes "control")) rest role refl e

address_before : (role : PortRole) (ip port : ℕ) (text word rest : List ℕ) → Fills (AddressPlace ip port) word → Spells (role_places role) rest → text ≡ word ++ 32 ∷ rest
    → Spells (AddressPlace ip port ∷ role_places role) text
address_before (Publisher track ssrc) ip port text word rest f h e = (word, rest, f, h, e)
address_before (Subscriber subscriber ssrc) ip port text word rest f h e = (word, rest, f, h, e)
address_before Control ip port text word rest f h e = (word, rest, f, h, e)
address_before (Rtx subscriber ssrc rtx_ssrc payload_type) ip port text word rest f h e = (word, rest, f, h, e)

abbrev behind_places : PortLine → List Place
behind_places port = AddressPlace port.local.ip port.local.port ∷ AddressPlace port.peer.ip port.peer.port ∷ role_places port.role

addressed_found : (rest : List ℕ) (port : PortLine) → addressed rest ≡ Some port → IsTrue (is_apart port.role) × Spells (behind_places port) rest
unfolding addressed
addressed_found rest port e =
    let a = bind_some (field address_of rest) _ port e in
    let b = bind_some (field address_of (a.0).1) _ port a.2 in
    let r = bind_some (role_of (b.0).1) _ port b.2 in
    let same : record { local = (a.0).0; peer = (b.0).0; role = r.0 } ≡ port = some_same _ port r.2 in
    let first = field_found address_of rest a.0 a.1 in
    let second = field_found address_of (a.0).1 b.0 b.1 in
    let role = role_found (b.0).1 r.0 r.1 in
    subst (λ (p : PortLine). IsTrue (is_apart p.role) × Spells (behind_places p) rest) same (
      role.0,
      (
        first.0,
        (a.0).1,
        address_found first.0 (a.0).0 first.1,
        address_before r.0 ((b.0).0).ip ((b.0).0).port (a.0).1 second.0 (b.0).1 (address_found second.0 (b.0).0 second.1) role.1 second.2,
        first.2,
      ),
    )

pub port_found : (line : List ℕ) (port : PortLine) → port_of line ≡ Some port → IsPortLine port line
port_found line port e =
    let a = bind_some (cut line) (λ parts. cond (bytes_eq parts.0 (codes "port")) (addressed parts.1) None) port e in
    let c = chosen (bytes_eq (a.0).0 (codes "port")) (addressed (a.0).1) port a.2 in
    let behind = addressed_found (a.0).1 port c.1 in
    (behind.0, ((a.0).0, (a.0).1, (bytes_eq-Decides (a.0).0 (codes "port")).0 c.0, behind.1, cut_found line a.0 a.1))

-- ---- a line that is written like this is read

begun : (text word rest wanted : List ℕ) → word ≡ wanted → text ≡ word ++ 32 ∷ rest → text ≡ wanted ++ 32 ∷ rest
begun text word rest wanted is e = e ∙ ap (λ (w : List ℕ). w ++ 32 ∷ rest) is

role_again : (role : PortRole) (rest : List ℕ) → IsTrue (is_apart role) → Spells (role_places role) rest → role_of rest ≡ Some role
unfolding role_of
role_again (Publisher track ssrc) rest apart h =
    let read = fields_again (Number32 ∷ Ssrc ∷ []) (track ∷ ssrc ∷ []) h.1 refl (omega arith) h.3 in
    ap role_of (begun rest h.0 h.1 (codes "publisher") h.2 h.4) ∙ rw read refl
role_again (Subscriber subscriber ssrc) rest apart h =
    let read = fields_again (Number32 ∷ Ssrc ∷ []) (subscriber ∷ ssrc ∷ []) h.1 refl (omega arith) h.3 in
    ap role_of (begun rest h.0 h.1 (codes "subscriber") h.2 h.4) ∙ rw read refl
role_again Control rest apart h = ap role_of h
role_again (Rtx subscriber ssrc rtx_ssrc payload_type) rest apart h =
    let read = fields_again rtx_fields (subscriber ∷ ssrc ∷ rtx_ssrc ∷ payload_type ∷ []) h.1 refl (omega arith) h.3 in
    ap role_of (begun rest h.0 h.1 (codes "rtx") h.2 h.4) ∙ (ap (λ (o : Option (List ℕ)). o >>= of_rtx) read ∙ ap (λ (b : Bool). cond b (Some (Rtx subscriber ssrc rtx_ssrc payload_type)) None) apart)

address_spelled : (ip port : ℕ) (word rest text : List ℕ) → Fills (AddressPlace ip port) word → text ≡ word ++ 32 ∷ rest
    → field address_of text ≡ Some (record { ip = ip; port = port }, rest)
address_spelled ip port word rest text f e =
    field_again address_of word rest text (record { ip = ip; port = port }) (ap no_space f.2 ∙ address_no_space ip port f.1)
    (ap address_of f.2 ∙ address_again ip port f.0 f.1) e

after_address : (role : PortRole) (ip port : ℕ) (text : List ℕ) → Spells (AddressPlace ip port ∷ role_places role) text
    → (rest : List ℕ) × (field address_of text ≡ Some (record { ip = ip; port = port }, rest)) × Spells (role_places role) rest
after_address (Publisher track ssrc) ip port text h = (h.1, address_spelled ip port h.0 h.1 text h.2 h.4, h.3)
after_address (Subscriber subscriber ssrc) ip port text h = (h.1, address_spelled ip port h.0 h.1 text h.2 h.4, h.3)
after_address Control ip port text h = (h.1, address_spelled ip port h.0 h.1 text h.2 h.4, h.3)
after_address (Rtx subscriber ssrc rtx_ssrc payload_type) ip port text h = (h.1, address_spelled ip port h.0 h.1 text h.2 h.4, h.3)

addressed_again : (rest : List ℕ) (port : PortLine) → IsTrue (is_apart port.role) → Spells (behind_places port) rest → addressed rest ≡ Some port
unfolding addressed
addressed_again rest port apart h =
    let first = address_spelled port.local.ip port.local.port h.0 h.1 rest h.2 h.4 in
    let second = after_address port.role port.peer.ip port.peer.port h.1 h.3 in
    let peer = second.1 in
    let role = role_again port.role second.0 apart second.2 in
    rw (first, peer, role) refl

pub port_again : (line : List ℕ) (port : PortLine) → IsPortLine port line → port_of line ≡ Some port
port_again line port is =
    let h = is.1 in
    ap port_of (begun line h.0 h.1 (codes "port") h.2 h.4) ∙ addressed_again h.1 port is.0 h.3
