-- What an archive becomes where the value of a key is set.
use Rattle.std.specs.Prelude.{◌≡◌, ℕ, ◌+◌, ◌≤◌, ◌↔◌, Bool, true, false, IsTrue, List, map, Contains, MatchOption, slice_get}
use Rattle.std.specs.Int.{w32, to_le_bytes}
use Rattle.std.specs.Option.{IsSomeAnd}
use Rattle.std.specs.Ordering.{nat_cmp}
use Rattle.rkyv_btree_portable.specs.Scalars.{u32_kind}
use Rattle.rkyv_btree_seal.specs.Places.{IsNumber}
use Rattle.rkyv_btree_seal.specs.Put.{put_bytes, put_value, value_place}
use Rattle.rkyv_btree_walk.specs.Search.{OrderedBy}
use Rattle.btreearc_commands.specs.Opening.{IsArchive, root_of, place_in_archive}

-- where the value of an entry stands
abbrev pub value_start : ℕ × ℕ → ℕ
value_start place = value_place u32_kind u32_kind 5 place

-- the archive b of these entries has become c: the entry at a place, which is entry i and has the key, has this value; its
-- value's four own bytes stand before the root, and no other byte is another
pub record IsSet (key value : ℕ) (entries : List (ℕ × ℕ)) (b : List ℕ) (place : ℕ × ℕ) (c : List ℕ) : Type 0 where
  pub i : ℕ
  pub number : IsNumber u32_kind u32_kind 5 b (root_of b) i place
  pub has_key : IsSomeAnd (slice_get entries i) (λ e. e.0 ≡ key)
  pub before : value_start place + 4 ≤ root_of b
  pub bytes : c ≡ put_bytes b (value_start place) (to_le_bytes w32 value)
  pub archive : IsArchive c (put_value entries i value)

-- the entry that a search for the key finds has this value, and the result says whether there is one; if there is none, no byte
-- is another. Where along the list come keys before the key, then keys equal to it, then keys past it, one is found exactly
-- if the key is among them
pub record SetsValue (key value : ℕ) (entries : List (ℕ × ℕ)) (b c : List ℕ) (found : Bool) : Type 0 where
  pub set : MatchOption (place_in_archive b key) ((found ≡ false) × (c ≡ b)) (λ place. (found ≡ true) × IsSet key value entries b place c)
  pub complete : OrderedBy (λ e. nat_cmp key e.0) entries → (IsTrue found ↔ Contains (map (λ e. e.0) entries) key)
