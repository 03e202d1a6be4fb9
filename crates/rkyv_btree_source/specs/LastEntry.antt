-- The last entry of a map in a source: which one it is, why it is refused, and how many bytes are read for it.
use Rattle.std.specs.List.{last_or}
use Rattle.std.specs.Option.{option_map}
use Rattle.std.specs.Prelude.{◌≡◌, ℕ, suc, ◌+◌, ◌*◌, IfErr, IfOk, List, Option, Some, None, Result, Ok, Err, pos}
use Rattle.rkyv_btree_format.specs.Read.{read_map}
use Rattle.rkyv_btree_portable.specs.Kind.{Kind}
use Rattle.rkyv_btree_portable.specs.declared.check.Portable
use Rattle.rkyv_btree_portable.specs.declared.refusal.Refusal.{Refusal}
use Rattle.rkyv_btree_portable.specs.declared.refusal.Refusal.TheVariants.{TooDeep}
use Rattle.rkyv_btree_source.specs.Reading.{IfRefused}
use Rattle.rkyv_btree_source.specs.declared.fault.SourceFault.{SourceFault}
use Rattle.rkyv_btree_unverified.specs.Steps.{ChildGives, HeadGives, NodeGives}
use Rattle.rkyv_btree_unverified.specs.Walks.{EntryRefuses, NoMap}
use Rattle.rkyv_btree_view.specs.Map.{IsMap}
use Rattle.rkyv_btree_view.specs.View.{view_entry}
use Rattle.rkyv_btree_view.specs.declared.view.View.{View}
use Rattle.rkyv_btree_walk.specs.EntryPlaces.{entry_places}

-- the most bytes that are read for the last entry, where a node has so many and the map ends at `end`: the map's own bytes, a node on each of
-- 32 levels, the node of the entry again, and its key and its value
unfoldable pub most_for_last : (node end : ℕ) → ℕ
most_for_last node end = 8 + 33 * node + 2 * end

module _ (K V : Kind) (E : ℕ) (b : List ℕ) where
  -- why the end of the node at p in front of hi is refused: the node is, or the pointer to the child after its entries
  pub data EndRefuses (hi p : ℕ) (r : Refusal) : Type 0 where
    refused_node : NodeGives K V E b hi p (Err r) → EndRefuses hi p r
    refused_child : {count : ℕ} → NodeGives K V E b hi p (Ok count) → ChildGives K V E b hi p count (Err r) → EndRefuses hi p r

  module _ (at : ℕ) where
    -- the node at p is the root of the map at a position, or so many last children below it; what leads to it is at hi
    pub data IsLastChild : (levels hi p : ℕ) → Type 0 where
      last_root : {q : ℕ} → HeadGives K V E b at (Ok (Some q)) → IsLastChild 0 at q
      last_below : {levels hi p count q : ℕ} → IsLastChild levels hi p → NodeGives K V E b hi p (Ok count) → ChildGives K V E b hi p count (Ok (Some q))
          → IsLastChild (suc levels) p q

    -- the last of the entries to which the pointers lead, by its node and its number there
    abbrev pub last_place : Option (ℕ × ℕ)
    last_place = last_or None (entry_places K V E b at)

    module _ (KR VR : List ℕ → ℕ → ℕ → ℕ → Refusal → Type 0) where
      -- why the last entry is refused: something on the way to it is, or the entry
      pub data LastRefuses : Refusal → Type 0 where
        refused_own : {r : Refusal} → HeadGives K V E b at (Err r) → LastRefuses r
        refused_end : {levels hi p : ℕ} {r : Refusal} → IsLastChild levels hi p → EndRefuses hi p r → LastRefuses r
        refused_deep : {hi p : ℕ} → IsLastChild 32 hi p → LastRefuses (TooDeep (pos p))
        refused_last : {e : ℕ × ℕ} {r : Refusal} → last_place ≡ Some e → EntryRefuses K V E b KR VR e r → LastRefuses r

      -- and then the bytes are no map
      pub record LastFails (r : Refusal) : Type 0 where
        pub refuses : LastRefuses r
        pub no_map : NoMap K V E b at

module _ {A B : Type 0} {k : Portable.Ghosts A} {v : Portable.Ghosts B} (E : ℕ) (KR VR : List ℕ → ℕ → ℕ → ℕ → Refusal → Type 0) (b : List ℕ) (at : ℕ) {F : Type 0} where
  -- a call gives the last entry
  pub record ReadsLast (result : Result (Option (View A k × View B v)) (SourceFault F)) : Type 0 where
    -- it is the last of those to which the pointers lead, in any bytes
    pub last : IfOk result (λ found. option_map view_entry found ≡ last_or None (read_map k.kind v.kind E b at))
    -- and that of a map
    pub on_map : (m : List (k.kind.Value × v.kind.Value)) → IsMap k.kind v.kind E b at m → IfOk result (λ found. option_map view_entry found ≡ last_or None m)
    pub refused : IfErr result (IfRefused (LastFails k.kind v.kind E b at KR VR))
