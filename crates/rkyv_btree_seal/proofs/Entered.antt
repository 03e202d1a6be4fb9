-- What stands at an entry of a map, and what a write over its value makes of the map.
use Rattle.std.proofs.Common.{◌≡◌, ℕ, ◌+◌, ◌≤◌, ◌<◌, IsTrue, List, length, sym, subst, arith, Some, slice_get}
use Rattle.rkyv_btree_portable.specs.Bytes.{bytes_at}
use Rattle.rkyv_btree_portable.specs.InPlace.{LiesAlone, IsOwn, value_of}
use Rattle.rkyv_btree_portable.specs.Kind.{Kind, IsLawful}
use Rattle.rkyv_btree_format.specs.Layout.{layout_of, leaf_size}
use Rattle.rkyv_btree_verify.specs.Map.{map_kind}
use Rattle.rkyv_btree_format.specs.Read.{read_map, map_tree}
use Rattle.rkyv_btree_format.specs.Spells.{Accepted}
use Rattle.rkyv_btree_portable.specs.Views.{stands}
use Rattle.rkyv_btree_portable.specs.laws.Views.{means_read, stands_of, fitting_of}
use Rattle.rkyv_btree_format.proofs.Local.{key_room}
use Rattle.rkyv_btree_verify.proofs.MapLaws.{map_laws}
use Rattle.rkyv_btree_format.proofs.Sizes.{room_of, sound_of}
use Rattle.rkyv_btree_seal.specs.Alone.{StandsAlone}
use Rattle.rkyv_btree_seal.specs.Places.{IsEntry, PutsEntry}
use Rattle.rkyv_btree_seal.specs.Put.{key_place, value_place, put_bytes, put_value, WritesEntry}
use Rattle.rkyv_btree_walk.specs.EntryPlaces.{entry_places}
use Rattle.rkyv_btree_seal.proofs.Maps.{writes_values}
use Rattle.rkyv_btree_seal.proofs.Standing.{entry_stands}

module _ (K V : Kind) (E : ℕ) (k : IsLawful K) (v : IsLawful V) (alone : LiesAlone V) (b : List ℕ) (at : ℕ) (h : IsTrue (stands (map_kind K V E) b at)) (i : ℕ) (e : ℕ × ℕ) (is : slice_get (entry_places K V E b at) i ≡ Some e) where
  -- its key and its value stand, the key before the value
  pub record EntryIs : Type 0 where
    pub index : e.1 < E
    pub short : length b ≤ 4294967295
    pub near : e.0 + leaf_size (layout_of K V E) ≤ length b
    pub key : IsTrue (stands K b (key_place K V E e))
    pub key_first : key_place K V E e + K.size ≤ value_place K V E e
    pub value : StandsAlone V b (value_place K V E e)

  accepted : Accepted K V E b 0 at at (means_read (map_laws K V E k v) b at h).left (read_map K V E b at)
  accepted = (means_read (map_laws K V E k v) b at h).means

  written : WritesEntry K V E b 0 at at (means_read (map_laws K V E k v) b at h).left (read_map K V E b at) i e
  written = writes_values K V E k v (fitting_of (map_kind K V E) b at h) alone b 0 at at _ (read_map K V E b at) accepted i e is

  pub entry_is : EntryIs
  entry_is =
      let fits = fitting_of (map_kind K V E) b at h in
      let room = room_of K V E k v fits in
      let run = entry_stands K V E b k v at h i e is e.1 (omega arith) (omega arith) in
      let first = key_room (layout_of K V E) e.1 (sound_of K V E k v fits) run.2 in
      record {
        index = run.2;
        short = accepted.short;
        near = run.1;
        key = run.0.key;
        key_first = omega (arith, first);
        value = record { fitting = room.value; inside = written.within; is_own = written.is_own };
      }

  -- it means its key and its value
  pub entry_means : slice_get (read_map K V E b at) i ≡ Some (K.read b (key_place K V E e), value_of V (bytes_at b (value_place K V E e) V.size))
  entry_means = written.means

-- other own bytes over an entry's value put what they mean into the map, which stands as it stood
module _ (K V : Kind) (E : ℕ) (k : IsLawful K) (v : IsLawful V) (alone : LiesAlone V) (b : List ℕ) (at : ℕ) (h : IsTrue (stands (map_kind K V E) b at)) (e : ℕ × ℕ) (entry : IsEntry K V E b at e) (own c : List ℕ) (o : IsOwn V own) (made : c ≡ put_bytes b (value_place K V E e) own) where
  accepted_put : (i lo hi left : ℕ) (m : List (K.Value × V.Value)) → slice_get (entry_places K V E b at) i ≡ Some e → Accepted K V E b lo hi at left m → Accepted K V E c lo hi at left (put_value m i (value_of V own))
  accepted_put i lo hi left m is a =
      let put = (writes_values K V E k v (fitting_of (map_kind K V E) b at h) alone b lo hi at left m a i e is).writes own o in
      subst (λ (bytes : List ℕ). Accepted K V E bytes lo hi at left (put_value m i (value_of V own))) (sym made) put.accepted

  here : Accepted K V E b 0 at at (means_read (map_laws K V E k v) b at h).left (read_map K V E b at)
  here = (means_read (map_laws K V E k v) b at h).means

  pub puts : PutsEntry K V E b at e own c
  puts = record {
    entry = entry;
    bytes = made;
    list = λ i is. sym ((map_laws K V E k v).is_read c 0 at at _ _ (accepted_put i 0 at _ _ is here));
    accepted = accepted_put;
    tree =
        let written = writes_values K V E k v (fitting_of (map_kind K V E) b at h) alone b 0 at at _ (read_map K V E b at) here entry.0 e entry.1 in
        subst (λ (bytes : List ℕ). map_tree (layout_of K V E) bytes at ≡ map_tree (layout_of K V E) b at) (sym made) (written.writes own o).tree;
  }

  pub put_stands : IsTrue (stands (map_kind K V E) c at)
  put_stands = stands_of (map_laws K V E k v) (fitting_of (map_kind K V E) b at h) c 0 at at _ _ (accepted_put entry.0 0 at _ _ entry.1 here)
