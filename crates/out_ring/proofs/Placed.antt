-- The packets that are held, in their pages.
use Rattle.std.proofs.Common.{◌≡◌, ◌<◌, ◌≤◌, inl, inr, ℕ, zero, suc, ◌+◌, ◌-◌, ◌*◌, Bool, List, [], ◌∷◌, ◌++◌, length, map, take, drop, get_or, refl, sym, ap, ap₂, subst, ◌∙◌, arith, Option, Some, None, slice_get, length-drop}
use Rattle.std.proofs.lemmas.Bool.{cases_lt, cases_order}
use Rattle.std.proofs.lemmas.List.{length_push}
use Rattle.std.proofs.lemmas.Option.{slice_get_within}
use Rattle.rtp_packet.specs.Faults.{first_fault}
use Rattle.out_ring.specs.declared.heads.Head.{Head}
use Rattle.out_ring.specs.Pages.{IsOrder, Writes, copy_at, place_of}
use Rattle.out_ring.specs.Slots.{ArePlaced, HasCopy, IsPlaced, bytes_by, packet_in}
use Rattle.out_ring.proofs.Lists.{item_after_drop}
use Rattle.out_ring.proofs.Paged.{begun, place_begun, read_grown}

-- ---- lists

pub item_in_front : {X : Type 0} (xs : List X) (y x : X) (i : ℕ) → i < length xs → slice_get (xs ++ y ∷ []) i ≡ Some x → slice_get xs i ≡ Some x
item_in_front [] y x i lt e = absurd (omega (arith, lt))
item_in_front (z ∷ xs) y x zero lt e = e
item_in_front (z ∷ xs) y x (suc i) lt e = item_in_front xs y x i (omega (arith, lt)) e

pub item_at_end : {X : Type 0} (xs : List X) (y x : X) (i : ℕ) → length xs ≤ i → slice_get (xs ++ y ∷ []) i ≡ Some x → (i ≡ length xs) × (y ≡ x)
item_at_end [] y x zero above e = (refl, (let same : y ≡ x = cc e in same))
item_at_end [] y x (suc i) above e = absurd (cc e)
item_at_end (z ∷ xs) y x zero above e = absurd (omega (arith, above))
item_at_end (z ∷ xs) y x (suc i) above e = let rest = item_at_end xs y x i (omega (arith, above)) e in (ap suc rest.0, rest.1)

-- two functions give the same list if they agree at its items
pub map_same : {X Y : Type 0} (f g : X → Y) (xs : List X) → ((i : ℕ) (x : X) → slice_get xs i ≡ Some x → f x ≡ g x) → map f xs ≡ map g xs
map_same f g [] same = refl
map_same f g (x ∷ xs) same = ap₂ (λ y ys. y ∷ ys) (same 0 x refl) (map_same f g xs (λ i z e. same (suc i) z e))

-- ---- packets

-- a copy matters only where the packet isn't shared
packet_same : (bytes new : List ℕ) (head : Head) → (head.shared ≡ None → copy_at new head.location ≡ copy_at bytes head.location)
    → packet_in new head ≡ packet_in bytes head
packet_same bytes new head same = ap (λ (packet : List ℕ). record { bytes = packet; marker = head.marker }) (go head.shared refl)
  where
    go : (o : Option (List ℕ)) → head.shared ≡ o → bytes_by o (copy_at new head.location) ≡ bytes_by o (copy_at bytes head.location)
    go None none = same none
    go (Some packet) some = refl

copy_kept : (bytes new : List ℕ) (head : Head) → length bytes ≤ length new → (head.shared ≡ None → copy_at new head.location ≡ copy_at bytes head.location)
    → HasCopy bytes head → HasCopy new head
copy_kept bytes new head more same copy = record {
  there = λ none. let there = copy.there none in omega (arith, there, more);
  reads = λ none. ap first_fault (same none) ∙ copy.reads none;
  fits = copy.fits;
  above = copy.above;
  within = copy.within;
}

-- ---- none or fewer are held

pub none_placed : (bytes : List ℕ) (order : List ℕ) (filled : ℕ) (heads : List Head) → length heads ≡ 0 → ArePlaced bytes order filled heads
none_placed bytes order filled heads none = record {
  each = λ i head e. let lt = slice_get_within heads i head e in absurd (omega (arith, lt, none));
  later = λ i j head newer le e f. let lt = slice_get_within heads i head e in absurd (omega (arith, lt, none));
}

pub fewer_placed : (bytes : List ℕ) (order : List ℕ) (filled count : ℕ) (heads : List Head) → ArePlaced bytes order filled heads
    → ArePlaced bytes order filled (drop count heads)
fewer_placed bytes order filled count heads placed = record {
  each = λ i head e.
      subst (IsPlaced bytes order filled head)
      (let same : length heads - suc (count + i) ≡ length (drop count heads) - suc i = omega (arith, length-drop count heads) in same)
      (placed.each (count + i) head (sym (item_after_drop heads count i) ∙ e));
  later = λ i j head newer le e f.
      placed.later (count + i) (count + j) head newer (omega (arith, le)) (sym (item_after_drop heads count i) ∙ e) (sym (item_after_drop heads count j) ∙ f);
}

-- ---- one more is held

abbrev place : List ℕ → Head → ℕ
place order head = place_of order head.location.page

-- the newest packet is in the current page
one_more : (bytes new : List ℕ) (order : List ℕ) (filled more : ℕ) (heads : List Head) (last : Head)
    → ArePlaced bytes order filled heads → filled + more ≤ 49152 → more ≤ 1536 → length bytes ≤ length new
    → ((i : ℕ) (head : Head) → slice_get heads i ≡ Some head → head.shared ≡ None → copy_at new head.location ≡ copy_at bytes head.location)
    → HasCopy new last → place order last ≡ 48 → last.location.at + last.location.size ≤ 49152 * last.location.page + (filled + more)
    → ArePlaced new order (filled + more) (heads ++ last ∷ [])
one_more bytes new order filled more heads last placed fits small size same copy current below = record { each = each; later = later }
  where
    count : length (heads ++ last ∷ []) ≡ length heads + 1
    count = length_push heads last

    each : (i : ℕ) (head : Head) → slice_get (heads ++ last ∷ []) i ≡ Some head
        → IsPlaced new order (filled + more) head (length (heads ++ last ∷ []) - suc i)
    each i head e = elim (cases_lt i (length heads)) [
      | inl lt ↦
          let at = item_in_front heads last head i lt e in
          let is = placed.each i head at in
          let few = is.few in
          record {
            copy = copy_kept bytes new head size (same i head at) is.copy;
            page = is.page;
            below = λ here. let under = is.below here in omega (arith, under);
            few = omega (arith, few, small, count, lt);
          }
      | inr above ↦
          let end = item_at_end heads last head i above e in
          subst (λ (h : Head). IsPlaced new order (filled + more) h (length (heads ++ last ∷ []) - suc i)) end.1
          (record {
            copy = copy;
            page = omega (arith, current);
            below = λ here. below;
            few = omega (arith, current, fits);
          })
    ]

    later : (i j : ℕ) (head newer : Head) → i ≤ j → slice_get (heads ++ last ∷ []) i ≡ Some head → slice_get (heads ++ last ∷ []) j ≡ Some newer
        → place order head ≤ place order newer
    later i j head newer le e f = elim (cases_lt j (length heads)) [
      | inl lt ↦ placed.later i j head newer le (item_in_front heads last head i (omega (arith, lt, le)) e) (item_in_front heads last newer j lt f)
      | inr above ↦
          let end = item_at_end heads last newer j above f in
          let there = (each i head e).page in
          let same_place = ap (place order) end.1 in
          omega (arith, there, same_place, current)
    ]

-- ---- a copy is written

module _ (bytes new : List ℕ) (order : List ℕ) (filled current at : ℕ) (packet : List ℕ) (heads : List Head) (is : IsOrder order)
    (last : current ≡ get_or order 48 0) (placed : ArePlaced bytes order filled heads) (fits : filled + length packet ≤ 49152)
    (next : at ≡ 49152 * current + filled) (end : at + length packet ≤ length bytes) (wrote : Writes bytes at packet new) where
  here : place_of order current ≡ 48
  here = ap (place_of order) last ∙ is.apart 48 (omega arith)

  copies_stay : (i : ℕ) (head : Head) → slice_get heads i ≡ Some head → head.shared ≡ None → copy_at new head.location ≡ copy_at bytes head.location
  copies_stay i head e none =
      let p = placed.each i head e in
      let above = p.copy.above in
      let within = p.copy.within in
      elim (cases_order head.location.page current) [
        | inl same ↦
            let below = p.below (ap (place_of order) same ∙ here) in
            wrote.before head.location.at head.location.size (omega (arith, below, same, next))
        | inr other ↦ elim other [
          | inl before ↦ wrote.before head.location.at head.location.size (omega (arith, before, within, next))
          | inr behind ↦ wrote.behind head.location.at head.location.size (omega (arith, behind, above, fits, next))
        ]
      ]

  pub packets_stay : map (packet_in new) heads ≡ map (packet_in bytes) heads
  packets_stay = map_same (packet_in new) (packet_in bytes) heads (λ i head e. packet_same bytes new head (copies_stay i head e))

  pub written_placed : (marker : Bool) → length packet ≤ 1536 → first_fault packet ≡ None
      → ArePlaced new order (filled + length packet)
      (heads ++ record { shared = None; location = record { at = at; size = length packet; page = current }; marker = marker } ∷ [])
  written_placed marker small reads =
      let same = wrote.size in
      one_more bytes new order filled (length packet) heads
      (record { shared = None; location = record { at = at; size = length packet; page = current }; marker = marker })
      placed fits small (omega (arith, same)) copies_stay
      (record {
        there = λ none. omega (arith, same, end);
        reads = λ none. ap first_fault wrote.there ∙ reads;
        fits = small;
        above = omega (arith, next);
        within = omega (arith, next, fits);
      })
      here (omega (arith, next))

-- ---- a shared packet

pub shared_placed : (bytes : List ℕ) (order : List ℕ) (at : ℕ) (heads : List Head) (packet : List ℕ) (marker : Bool) → IsOrder order
    → 49152 * get_or order 48 0 ≤ at → at ≤ 49152 * get_or order 48 0 + 49152 → ArePlaced bytes order (at - 49152 * get_or order 48 0) heads
    → ArePlaced bytes order (at - 49152 * get_or order 48 0)
    (heads ++ record { shared = Some packet; location = record { at = at; size = 0; page = get_or order 48 0 }; marker = marker } ∷ [])
shared_placed bytes order at heads packet marker is above below placed =
    let last : Head = record { shared = Some packet; location = record { at = at; size = 0; page = get_or order 48 0 }; marker = marker } in
    let filled : ℕ = at - 49152 * get_or order 48 0 in
    subst (λ (n : ℕ). ArePlaced bytes order n (heads ++ last ∷ [])) (let e : filled + 0 ≡ filled = omega arith in e)
    (one_more bytes bytes order filled 0 heads last placed (omega (arith, above, below)) (omega arith) (omega arith) (λ i head e none. refl)
    (record {
      there = λ none. absurd (cc none);
      reads = λ none. absurd (cc none);
      fits = omega arith;
      above = above;
      within = omega (arith, below);
    })
    (is.apart 48 (omega arith)) (omega (arith, above)))

-- ---- bytes are appended

module _ (bytes new : List ℕ) (order : List ℕ) (filled : ℕ) (heads : List Head) (placed : ArePlaced bytes order filled heads)
    (same : take (length bytes) new ≡ bytes) (more : length bytes ≤ length new) where
  grown : (i : ℕ) (head : Head) → slice_get heads i ≡ Some head → head.shared ≡ None → copy_at new head.location ≡ copy_at bytes head.location
  grown i head e none =
      let there = (placed.each i head e).copy.there none in
      read_grown bytes new head.location.at head.location.size same (omega (arith, there))

  pub packets_grown : map (packet_in new) heads ≡ map (packet_in bytes) heads
  packets_grown = map_same (packet_in new) (packet_in bytes) heads (λ i head e. packet_same bytes new head (grown i head e))

  pub placed_grown : ArePlaced new order filled heads
  placed_grown = record {
    each = λ i head e.
        let p = placed.each i head e in
        record { copy = copy_kept bytes new head more (grown i head e) p.copy; page = p.page; below = p.below; few = p.few };
    later = placed.later;
  }

pub placed_same : (bytes bytes' : List ℕ) (order order' : List ℕ) (filled filled' : ℕ) (heads heads' : List Head)
    → bytes' ≡ bytes → order' ≡ order → filled' ≡ filled → heads' ≡ heads → ArePlaced bytes order filled heads → ArePlaced bytes' order' filled' heads'
placed_same bytes bytes' order order' filled filled' heads heads' b o f h placed =
    subst (λ (x : List ℕ). ArePlaced x order' filled' heads') (sym b)
    (subst (λ (x : List ℕ). ArePlaced bytes x filled' heads') (sym o)
    (subst (λ (x : ℕ). ArePlaced bytes order x heads') (sym f)
    (subst (λ (x : List Head). ArePlaced bytes order filled x) (sym h) placed)))

-- ---- a page is begun

pub placed_begun : (bytes : List ℕ) (order : List ℕ) (filled unused : ℕ) (heads : List Head) → IsOrder order → ArePlaced bytes order filled heads
    → 47616 < filled → unused < 49 → ((i : ℕ) (head : Head) → slice_get heads i ≡ Some head → unused < place_of order head.location.page)
    → ArePlaced bytes (begun order unused) 0 heads
placed_begun bytes order filled unused heads is placed used small below = record {
  each = λ i head e.
      let p = placed.each i head e in
      let few = p.few in
      let page = p.page in
      let lt = below i head e in
      let now = moved i head e in
      record {
        copy = p.copy;
        page = omega (arith, now, page);
        below = λ at. absurd (omega (arith, at, now, page, lt));
        few = omega (arith, few, now, used, lt);
      };
  later = λ i j head newer le e f.
      let before = placed.later i j head newer le e f in
      let now = moved i head e in
      let then = moved j newer f in
      omega (arith, before, now, then);
}
  where
    moved : (i : ℕ) (head : Head) → slice_get heads i ≡ Some head → place_of (begun order unused) head.location.page ≡ place_of order head.location.page - 1
    moved i head e = place_begun order unused head.location.page is small (below i head e) (placed.each i head e).page

-- the place right before that of the oldest packet's page
pub record IsUnused (order : List ℕ) (place : ℕ) (heads : List Head) : Type 0 where
  pub some : 0 < place
  pub small : place < 49
  pub before : (i : ℕ) (head : Head) → slice_get heads i ≡ Some head → place - 1 < place_of order head.location.page

pub unused_before : (bytes : List ℕ) (order : List ℕ) (filled held : ℕ) (heads : List Head) (oldest : Head) → length heads ≡ 1536 → held < 1536
    → ArePlaced bytes order filled (drop (1536 - held) heads) → 47616 < filled → slice_get heads (1536 - held) ≡ Some oldest
    → IsUnused order (place_of order oldest.location.page) (drop (1536 - held) heads)
unused_before bytes order filled held heads oldest full few placed used at = record {
  some = some;
  small = is.page;
  before = λ i head e. let later = placed.later 0 i oldest head (omega arith) first e in omega (arith, later, some);
}
  where
    first : slice_get (drop (1536 - held) heads) 0 ≡ Some oldest
    first =
        item_after_drop heads (1536 - held) 0 ∙ ap (slice_get heads) (let e : 1536 - held + 0 ≡ 1536 - held = omega arith in e) ∙ at

    is : IsPlaced bytes order filled oldest (length (drop (1536 - held) heads) - 1)
    is = placed.each 0 oldest first

    some : 0 < place_of order oldest.location.page
    some = let p = is.few in omega (arith, p, used, few, full, length-drop (1536 - held) heads)
