-- What a caller concludes for the headline, over the definitions alone.
use Rattle.std.proofs.Common.{◌≡◌, ℕ, ◌≤◌, List, length, map, Option, Some, None, Bor, sym, ap, ◌∙◌, slice_get, true}
use Rattle.std.proofs.lemmas.List.{length-map}
use Rattle.std.proofs.lemmas.Option.{slice_get-map}
use Rattle.std.specs.Option.{option_map}
use Rattle.std.specs.Prelude.{◌↔◌, Bool, Result, Ok, Err, IsOk, IsSome, IfSome, is_err}
use Rattle.std.specs.declared.cmp.Ordering.{Ordering}
use Rattle.rkyv_btree_base.specs.Archiving.{Archival}
use Rattle.rkyv_btree_base.specs.Archives.{WrittenIsHeld}
use Rattle.rkyv_btree_base.specs.Entries.{now_of, now_of_key}
use Rattle.rkyv_btree_base.specs.Image.{root_image}
use Rattle.rkyv_btree_base.specs.Kept.{OnlyAppended}
use Rattle.rkyv_btree_base.specs.Kind.{Kind, IsLawful}
use Rattle.rkyv_btree_base.specs.Layout.{layout_of}
use Rattle.rkyv_btree_base.specs.Read.{read_map, entry_at, map_tree}
use Rattle.rkyv_btree_base.specs.Rounding.{round_up}
use Rattle.rkyv_btree_base.specs.SmallestMaps.{IsSmallestArchive, BuildsSmallest, BuildsSmallestSet}
use Rattle.rkyv_btree_base.specs.Scalars.{unit_kind}
use Rattle.rkyv_btree_base.specs.Sets.{unit_archival, unit_entries}
use Rattle.rkyv_btree_base.specs.Whole.{fresh}
use Rattle.rkyv_btree_base.specs.Writing.{Writing, Wrote, position, last_end}
use Rattle.rkyv_btree_base.proofs.MapLaws.{map_laws}
use Rattle.rkyv_btree.specs.Map.{IsMap}
use Rattle.rkyv_btree.specs.Places.{FindsPlace, PutsEntry}
use Rattle.rkyv_btree.specs.Put.{value_place}
use Rattle.rkyv_btree.specs.EntryPlaces.{entry_places}
use Rattle.rkyv_btree.specs.Search.{IsSearch, OrderedBy, AnyHit, IsHit}
use Rattle.examples.specs.Headline.{IsSmallestOf, IsArchiveOfItems, IsArchiveOfKeys, IsLookedUp, IsSealed}

-- what a writer from position 0 on holds, once a tree and its map were appended
module _ {M N R S : Type 0} (K V : Kind) (E : ℕ) (KA : Archival M R) (VA : Archival N S) (held : WrittenIsHeld) (start mid last : Writing) (root len pos : ℕ) (bytes : List ℕ) where
  pub smallest_written : start ≡ fresh → (entries : List (M × N)) → len ≡ length entries → IsSmallestArchive K V E KA VA start entries root mid → OnlyAppended start mid → Wrote mid (root_image (position mid) root len) last → position last ≤ last_end → pos ≡ round_up (position mid) 4 → bytes ≡ last.contents →
      IsSmallestOf K V E KA VA entries bytes pos
  smallest_written begun entries count smallest only wrote end at is key value =
      let there = held start mid last root len (ap (λ (s : Writing). s.base) begun) only wrote end in
      rw (at, is) (smallest key value last.contents (round_up (position mid) 4) (rw count at there))

  module _ {P : Type 0} (steps : P → Option (Bor M × Bor N) → P → Type 0) (iter : P) where
    pub items_archived : start ≡ fresh → BuildsSmallest K V E KA VA now_of steps iter len (λ w. w) start mid root → OnlyAppended start mid → Wrote mid (root_image (position mid) root len) last → position last ≤ last_end → pos ≡ round_up (position mid) 4 → bytes ≡ last.contents →
        IsArchiveOfItems K V E KA VA steps iter len bytes pos
    items_archived begun builds only wrote end at is = record {
      items = builds.0.items;
      all = builds.0.all;
      count = builds.0.count;
      smallest = smallest_written begun (map now_of builds.0.items) (sym (length-map builds.0.items now_of ∙ builds.0.count)) builds.1 only wrote end at is;
    }

-- so of a set
pub keys_archived : {M R P : Type 0} (K : Kind) (E : ℕ) (KA : Archival M R) (held : WrittenIsHeld) (start mid last : Writing) (root len pos : ℕ) (bytes : List ℕ) (steps : P → Option (Bor M) → P → Type 0) (iter : P) → start ≡ fresh → BuildsSmallestSet K E KA now_of_key steps iter len (λ w. w) start mid root → OnlyAppended start mid → Wrote mid (root_image (position mid) root len) last → position last ≤ last_end → pos ≡ round_up (position mid) 4 → bytes ≡ last.contents →
    IsArchiveOfKeys K E KA steps iter len bytes pos
keys_archived K E KA held start mid last root len pos bytes steps iter begun builds only wrote end at is = record {
  keys = builds.0.keys;
  all = builds.0.all;
  count = builds.0.count;
  smallest = smallest_written K unit_kind E KA unit_archival held start mid last root len pos bytes begun (unit_entries now_of_key builds.0.keys) (sym (length-map builds.0.keys (λ k. (k.now, tt)) ∙ builds.0.count)) builds.1 only wrote end at is;
}

module _ (K V : Kind) (E : ℕ) (k : IsLawful K) (v : IsLawful V) (b : List ℕ) (pos : ℕ) (m : List (K.Value × V.Value)) (is : IsMap K V E b pos m) where
  -- the list that bytes are a map of is the one that is read
  pub list_read : read_map K V E b pos ≡ m
  list_read = sym ((map_laws K V E k v).is_read b 0 pos pos is.0 m is.1)

  module _ (comparison : K.Value → Ordering) where
    -- what a search returns is what is looked up in the list
    pub list_looked_up : (found : Option (K.Value × V.Value)) → IsSearch (λ e. comparison e.0) (entry_at K V E b) (map_tree (layout_of K V E) b pos) found → IsLookedUp (λ e. comparison e.0) m found
    list_looked_up found search = record { hit = rw list_read at search.hit; complete = rw list_read at search.complete }

    -- and what a lookup returns
    pub list_found : (found : Option (K.Value × V.Value)) → IfSome found (IsHit (λ e. comparison e.0) (read_map K V E b pos))
        → (OrderedBy (λ e. comparison e.0) (read_map K V E b pos) → (IsSome found ↔ AnyHit (λ e. comparison e.0) (read_map K V E b pos))) → IsLookedUp (λ e. comparison e.0) m found
    list_found found hit complete = record { hit = rw list_read at hit; complete = rw list_read at complete }

    -- where a search finds no entry, none is equal
    pub none_equal : FindsPlace K V E b pos comparison None → OrderedBy (λ e. comparison e.0) m → AnyHit (λ e. comparison e.0) m → ⊥
    none_equal finds ordered hit = cc (((list_looked_up None finds.search).complete ordered).1 hit)

    -- own bytes that are put over the value that a search finds
    pub one_sealed : (c own : List ℕ) (e : ℕ × ℕ) → FindsPlace K V E b pos comparison (Some e) → PutsEntry K V E b pos e own c → IsSealed K V E b pos comparison own m c true
    one_sealed c own e finds puts =
        let i = finds.entry.0 in
        let number = finds.entry.1 in
        let is_there : slice_get m i ≡ Some (entry_at K V E b e) = ap (λ (xs : List (K.Value × V.Value)). slice_get xs i) (sym list_read) ∙ slice_get-map (entry_at K V E b) (entry_places K V E b pos) i ∙ ap (option_map (entry_at K V E b)) number in
        (i, value_place K V E e, entry_at K V E b e, is_there, finds.search.hit.0, puts.bytes, (is.0, puts.accepted i 0 pos is.0 m number is.1))

-- where a call refuses, and refuses no map, there is none
pub none_accepted : {T F X : Type 0} {Is : X → Type 0} (result : Result T F) (fault : F) → result ≡ Err fault → ((m : X) → Is m → IsOk result) → (m : X) → Is m → ⊥
none_accepted result fault is all m h = cc (rw is at (all m h))

-- no call both accepts and refuses
pub not_both : {T F : Type 0} (result : Result T F) (refused : Bool) → IsOk result → refused ≡ is_err result → refused ≡ true → ⊥
not_both (Ok x) refused ok is h = cc (sym is ∙ h)
not_both (Err f) refused ok is h = cc ok
