-- What a write over a value makes of an archive.
use Rattle.std.proofs.Common.{◌≡◌, ℕ, ◌+◌, ◌≤◌, List, ◌++◌, length, take, drop, Some, None, refl, sym, ap, subst, ◌∙◌, arith, length-append, length-drop, length-take-le}
use Rattle.std.proofs.lemmas.Option.{slice_get-map}
use Rattle.std.specs.Option.{option_map}
use Rattle.std.specs.declared.cmp.Ordering.{Ordering}
use Rattle.rkyv_btree_format.specs.Layout.{layout_of}
use Rattle.rkyv_btree_format.specs.OwnBytes.{IsArchiveOf, own_at}
use Rattle.rkyv_btree_format.specs.Read.{entry_at, map_tree, read_map}
use Rattle.rkyv_btree_format.specs.Spells.{Accepted}
use Rattle.rkyv_btree_portable.specs.InPlace.{value_of}
use Rattle.rkyv_btree_portable.specs.Kind.{Kind}
use Rattle.rkyv_btree_seal.specs.Places.{FindsPlace, PutsEntry}
use Rattle.rkyv_btree_seal.specs.Put.{put_bytes, put_value, value_place, WritesValues}
use Rattle.rkyv_btree_shape.specs.Tree.{list}
use Rattle.rkyv_btree_verify.specs.Map.{map_kind}
use Rattle.rkyv_btree_writer.specs.Archiving.{Archival}
use Rattle.btreekv_types.specs.Overwriting.{HasNone, PutsOver, PutsText}
use Rattle.btreekv_types.specs.Typed.{AreValues, items_by}
use Rattle.btreekv_types.proofs.Meant.{key_meant, key_text_meant}

-- a list stays as long where some of its bytes are replaced by as many others
put_length : (b own : List ℕ) (at : ℕ) → at + length own ≤ length b → length (put_bytes b at own) ≡ length b
put_length b own at room =
    let front = length-take-le at b (omega arith) in
    let back = length-drop (at + length own) b in
    let tail = length-append own (drop (at + length own) b) in
    let all = length-append (take at b) (own ++ drop (at + length own) b) in
    omega arith

module _ (K V : Kind) (b : List ℕ) (comparison : K.Value → Ordering) (is : IsArchiveOf (map_kind K V 5) b (read_map K V 5 b (own_at (map_kind K V 5) b))) where
  -- the value of the entry at the place that is found is the new one
  pub puts_over : (writes : WritesValues K V 5) (own c : List ℕ) (e : ℕ × ℕ) → length own ≡ V.size → FindsPlace K V 5 b (own_at (map_kind K V 5) b) comparison (Some e)
      → PutsEntry K V 5 b (own_at (map_kind K V 5) b) e own c → PutsOver K V b comparison own (value_place K V 5 e) c
  puts_over writes own c e size finds puts =
      let at : ℕ = own_at (map_kind K V 5) b in
      let m : List (K.Value × V.Value) = read_map K V 5 b at in
      let i : ℕ = puts.entry.0 in
      let there = writes b 0 at at is.left m is.means i e puts.entry.1 in
      let within = there.within in
      let inside : value_place K V 5 e + length own ≤ length b = omega (arith, within, size) in
      let same : length c ≡ length b = ap length puts.bytes ∙ put_length b own (value_place K V 5 e) inside in
      let root : at ≡ own_at (map_kind K V 5) c = omega (arith, same) in
      let room = is.room in
      record {
        entries = m;
        old = is;
        entry = entry_at K V 5 b e;
        found = ap (option_map (entry_at K V 5 b)) (sym finds.probed);
        index = i;
        there = slice_get-map (entry_at K V 5 b) (list (map_tree (layout_of K V 5) b at)) i ∙ ap (option_map (entry_at K V 5 b)) puts.entry.1;
        inside = inside;
        bytes = puts.bytes;
        archive = record {
          room = omega (arith, same, room);
          left = is.left;
          means = subst (λ (p : ℕ). Accepted K V 5 c 0 p p is.left (put_value m i (value_of V own))) root (puts.accepted i 0 at is.left m puts.entry.1 is.means);
        };
      }

  -- and where none is found there is none
  pub has_none : FindsPlace K V 5 b (own_at (map_kind K V 5) b) comparison None → HasNone K V b comparison
  has_none finds = ((read_map K V 5 b (own_at (map_kind K V 5) b), is), ap (option_map (entry_at K V 5 b)) (sym finds.probed))

-- and so is the value of a text
module _ {X R A Y S B : Type 0} {KA : Archival X R} {K : Kind} {key_order : A → A → Ordering} {key_at : List ℕ → ℕ → A} {key_of : X → A} {VA : Archival Y S} {V : Kind} {value_order : B → B → Ordering} {value_at : List ℕ → ℕ → B} {value_of_native : Y → B}
    (key_to : K.Value → A) (value_to : V.Value → B) (keys : AreValues KA K key_order key_at key_of key_to) (values : AreValues VA V value_order value_at value_of_native value_to)
    (name : List ℕ) (IsKey : A → Type 0) (key_text : A → List ℕ) (IsMapped : B → Type 0) (value_text : B → List ℕ) (input key value : List ℕ) where
  pub puts_text : (k : X) (v : Y) (own : List ℕ) (start count : ℕ) (new : List ℕ) → IsKey (key_of k) → key_text (key_of k) ≡ key → IsMapped (value_of_native v) → value_text (value_of_native v) ≡ value → value_at own 0 ≡ value_of_native v → length own ≡ count
      → PutsOver K V input (K.order (keys.same.to (KA.meaning k))) own start new → PutsText K V name (items_by IsKey key_text key_to) (items_by IsMapped value_text value_to) input key value start count new
  puts_text k v own start count new is_key key_is is_value value_is reads size puts =
      let is : value_to (value_of V own) ≡ value_of_native v = sym (values.read own 0) ∙ reads in
      record {
        asked = keys.same.to (KA.meaning k);
        is_key = (key_meant key_to value_to keys values IsKey key_text IsMapped value_text k is_key, key_text_meant key_to value_to keys values IsKey key_text IsMapped value_text k key key_is);
        put = value_of V own;
        is_value = (subst IsMapped (sym is) is_value, ap value_text is ∙ value_is);
        own = own;
        means = refl;
        size = size;
        puts = puts;
      }
