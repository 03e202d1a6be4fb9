-- A write over one value of a map makes it the map with that value put in.
use Rattle.std.proofs.Common.{◌≡◌, ℕ, ◌+◌, ◌≤◌, inl, inr, IsTrue, List, length, sym, ap, subst, ◌∙◌, refl, arith, Some, slice_get}
use Rattle.std.proofs.lemmas.Bool.{eq-eqb, ne_eqb}
use Rattle.std.proofs.lemmas.Option.{slice_get-map}
use Rattle.std.specs.Option.{option_map}
use Rattle.rkyv_btree_portable.specs.Bytes.{bytes_at, number_at}
use Rattle.rkyv_btree_portable.specs.InPlace.{IsOwn, value_of}
use Rattle.rkyv_btree_portable.specs.Kind.{Kind, IsLawful}
use Rattle.rkyv_btree_format.specs.Layout.{layout_of, are_fitting}
use Rattle.rkyv_btree_format.specs.Read.{tree_of, map_tree, entry_at}
use Rattle.rkyv_btree_format.specs.Spells.{Accepted}
use Rattle.rkyv_btree_portable.specs.laws.Numbers.{number_same, place_same}
use Rattle.rkyv_btree_format.proofs.Readings.{map_is_read}
use Rattle.rkyv_btree_verify.proofs.Root.{spelled_within}
use Rattle.rkyv_btree_format.proofs.Unique.{map_unique}
use Rattle.rkyv_btree_portable.specs.InPlace.{LiesAlone}
use Rattle.rkyv_btree_seal.specs.Put.{put_bytes, put_value, value_place, WritesValues}
use Rattle.rkyv_btree_walk.specs.EntryPlaces.{entry_places}
use Rattle.rkyv_btree_seal.proofs.Kept.{own_value}
use Rattle.rkyv_btree_seal.proofs.Puts.{length-put_value, get_put, Wrote, wrote, wrote_none, wrote_own, later}
use Rattle.rkyv_btree_seal.proofs.Trees.{tree_put}

module _ (K V : Kind) (E : ℕ) (b c : List ℕ) (k : IsLawful K) (v : IsLawful V) (alone : LiesAlone V) (fits : IsTrue (are_fitting K V E)) (short : length c ≤ 4294967295) (e : ℕ × ℕ) (q : ℕ) (place : q ≡ value_place K V E e) (made : Wrote b c q V.size) (new : IsOwn V (bytes_at b q V.size) → IsOwn V (bytes_at c q V.size)) where
  -- what is accepted after the write over the value of entry number i
  record MapPut (lo hi at left i : ℕ) (m : List (K.Value × V.Value)) : Type 0 where
    accepted : Accepted K V E c lo hi at left (put_value m i (own_value V c q))
    same : map_tree (layout_of K V E) b at ≡ map_tree (layout_of K V E) c at
    is_own : IsOwn V (bytes_at b q V.size)
    past : q + V.size ≤ at

  map_put : (lo hi at left i : ℕ) (m : List (K.Value × V.Value)) → Accepted K V E b lo hi at left m → slice_get (entry_places K V E b at) i ≡ Some e → MapPut lo hi at left i m
  unfolding tree_of
  map_put lo hi at left i m a is =
      let s = layout_of K V E in
      let n = number_at b (at + 4) 4 in
      let before = a.before in
      let room = a.room in
      let long = made.long in
      elim a.root [
        | inl h ↦ absurd (cc (rw (eq-eqb n 0 h.0) at is))
        | inr h ↦
            let r = h.1 in
            let t = tree_put K V E b c k v alone fits short e q place made new r.tree 32 lo hi r.start i r.levels (omega arith) r.spelled (rw (ne_eqb n 0 h.0, r.leads) at is) in
            let inside = spelled_within K V E b lo hi r.start r.tree r.spelled in
            let past : q + V.size ≤ at = omega (arith, t.past, inside.1) in
            let len = number_same b c (at + 4) (later made (at + 4) (at + 4 + 4) (omega arith) (omega arith)) in
            let leads = place_same b c at (later made at (at + 4) (omega arith) (omega arith)) in
            record {
              accepted = record {
                short = short;
                window = a.window;
                before = a.before;
                aligned = a.aligned;
                room = omega arith;
                root = inr (
                  λ none. h.0 (len ∙ none),
                  record {
                    start = r.start;
                    tree = t.tree;
                    leads = sym leads ∙ r.leads;
                    spelled = t.spelled;
                    levels = omega (arith, t.levels_kept, r.levels);
                    means = ap (λ l. put_value l i (own_value V c q)) r.means ∙ sym t.means;
                    total = length-put_value m i (own_value V c q) ∙ r.total ∙ len;
                    left = r.left ∙ ap (λ (n : ℕ). r.start + n) (sym t.size);
                  },
                );
              };
              same = rw (← len, ← leads, ne_eqb n 0 h.0, r.leads) t.same;
              is_own = t.is_own;
              past = past;
            }
      ]

pub writes_values : (K V : Kind) (E : ℕ) → IsLawful K → IsLawful V → IsTrue (are_fitting K V E) → LiesAlone V → WritesValues K V E
writes_values K V E k v fits alone b lo hi at left m a i e is =
    let q = value_place K V E e in
    -- the write that changes nothing tells what stands there
    let none = map_put K V E b b k v alone fits a.short e q refl (wrote_none b q V.size) (λ own. own) lo hi at left i m a is in
    let past = none.past in
    let room = a.room in
    let within : q + V.size ≤ length b = omega arith in
    let read : slice_get m i ≡ Some (entry_at K V E b e) =
    ap (λ l. slice_get l i) (map_is_read K V E b k.is_read v.is_read lo hi at left m a) ∙ slice_get-map (entry_at K V E b) (entry_places K V E b at) i ∙ ap (option_map (entry_at K V E b)) is in
    let same = (map_unique K V E b k.one_meaning v.one_meaning lo hi at left left m _ a none.accepted).1 in
    let put = get_put m i (entry_at K V E b e) (own_value V b q) read in
    record {
      before = none.past;
      within = within;
      is_own = none.is_own;
      means = ap (λ l. slice_get l i) same ∙ put;
      writes = λ own o.
          let made = wrote b q own V.size o.size within in
          let there = wrote_own b q own V.size o.size within in
          let long = made.long in
          let short = a.short in
          let r = map_put K V E b (put_bytes b q own) k v alone fits (omega arith) e q refl made (λ old. subst (IsOwn V) (sym there) o) lo hi at left i m a is in
          record {
            accepted = subst (λ (w : List ℕ). Accepted K V E (put_bytes b q own) lo hi at left (put_value m i (value_of V w))) there r.accepted;
            tree = sym r.same;
          };
    }
