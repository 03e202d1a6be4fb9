-- Two values in so many bytes are archived by what archives both, and so are tuples.
use Rattle.std.specs.Prelude.{◌≡◌, ℕ, ◌+◌, ◌≤◌, ◌^◌, ◌&&◌, Bool, ◌++◌, length, nat_lt}
use Rattle.std.proofs.Common.{arith, ap, subst, ◌∙◌, length-append}
use Rattle.rkyv_btree_archive.specs.TupleArchival.{joined_archival}
use Rattle.rkyv_btree_archive.specs.laws.EntryArchived.{same_offset}
use Rattle.rkyv_btree_compound.specs.Joined.{joined_end, joined_kind, IsLaidOut}
use Rattle.rkyv_btree_compound.specs.Tuples.{front_kind, tuple_size, tuple_kind}
use Rattle.rkyv_btree_compound.specs.laws.JoinedLaws.{fitting_joined, key_before, joined_of_parts}
use Rattle.rkyv_btree_portable.specs.Bytes.{Holds}
use Rattle.rkyv_btree_portable.specs.Entry.{value_offset, entry_align}
use Rattle.rkyv_btree_portable.specs.Kind.{Kind}
use Rattle.rkyv_btree_portable.specs.Rounding.{round_up}
use Rattle.rkyv_btree_portable.specs.Standing.{IsAligned}
use Rattle.rkyv_btree_portable.specs.laws.Holding.{Holds-front, Holds-back, tail_length, tail_held}
use Rattle.rkyv_btree_portable.specs.laws.Rounding.{aligned_left, aligned_right, aligned_add, round_up-aligned}
use Rattle.rkyv_btree_writer.proofs.WriteRuns.{appended-append, reach_split}
use Rattle.rkyv_btree_writer.specs.Archiving.{Archival, Matches, IsArchived}
use Rattle.rkyv_btree_writer.specs.Writing.{AllReach, appended}

-- two values whose parts lie alike
module _ (K V A B : Kind) (k : Matches K A) (v : Matches V B) where
  pub same_end : joined_end K V ≡ joined_end A B
  same_end = let offset = same_offset K V A B k v in let a = v.size in cc

  pub same_alignment : entry_align K V ≡ entry_align A B
  same_alignment = let a = k.align in let b = v.align in cc

  pub same_joined : (m n : ℕ) → m ≡ n → Matches (joined_kind K V m) (joined_kind A B n)
  same_joined m n same = record {
    to = λ e. (k.to e.0, v.to e.1);
    size = same;
    align = same_alignment;
    fits = fitting K.is_fitting A.is_fitting V.is_fitting B.is_fitting m n k.fits v.fits same;
    means = λ b lo hi at left e p.
        let l = p.lies in
        record {
          lies = record { short = l.short; inside = omega arith; aligned = subst (λ a. IsAligned a at) same_alignment l.aligned; forward = l.forward; kept = l.kept; before = l.before };
          parts = record {
            between = p.parts.between;
            key = k.means b lo hi at p.parts.between e.0 p.parts.key;
            value = subst (λ n. B.Means b p.parts.between hi (at + n) left (v.to e.1)) (same_offset K V A B k v) (v.means b p.parts.between hi (at + value_offset K V) left e.1 p.parts.value);
          };
        };
  }
    where
      fitting : (a a2 b b2 : Bool) (m n : ℕ) → a ≡ a2 → b ≡ b2 → m ≡ n → (a && b && nat_lt m (2 ^ 32)) ≡ (a2 && b2 && nat_lt n (2 ^ 32))
      fitting a a2 b b2 m n p q r = cc

-- the first fields of two tuples, and tuples, whose fields lie alike
module _ {K L A B : Kind} (front : Matches K A) (last : Matches L B) where
  pub same_next : Matches (front_kind K L) (front_kind A B)
  same_next = same_joined K L A B front last (joined_end K L) (joined_end A B) (same_end K L A B front last)

  pub same_tuple_size : tuple_size K L ≡ tuple_size A B
  same_tuple_size = ap (λ n. round_up n (entry_align K L)) (same_end K L A B front last) ∙ ap (round_up (joined_end A B)) (same_alignment K L A B front last)

  pub same_tuple : Matches (tuple_kind K L) (tuple_kind A B)
  same_tuple = same_joined K L A B front last (tuple_size K L) (tuple_size A B) same_tuple_size

module _ {X M N R S : Type 0} (K : Archival M R) (V : Archival N S) (pair : X → M × N) (size : ℕ) (room : joined_end K.kind V.kind ≤ size) (k : IsLaidOut K.kind) (v : IsLaidOut V.kind) (is_key : IsArchived K) (is_value : IsArchived V) where
  pub joined_archived : IsArchived (joined_archival K V size pair)
  joined_archived x from at writes r own is_in w o =
      let offset = value_offset K.kind V.kind in
      let mid = from + length (appended w.first) in
      let end = from + length (appended writes) in
      let key = is_key (pair x).0 from at w.first r.key o.own_key is_in.0 w.key o.key in
      let value = is_value (pair x).1 mid (at + offset) w.second r.value o.own_value is_in.1 w.value o.value in
      let front : length o.own_key ≤ offset = omega (arith, key.0, key_before K.kind V.kind k v) in
      let back : offset + length o.own_value ≤ size = omega (arith, value.0, room) in (
        ap length o.parts ∙ tail_length o.own_key o.own_value offset size front back,
        λ fits b reach short aligned before inside held there.
            let fitting = fitting_joined K.kind V.kind size fits in
            let reached = reach_split w.first w.second (subst AllReach w.both reach) in
            let both : appended writes ≡ appended w.first ++ appended w.second = ap appended w.both ∙ appended-append w.first w.second in
            let split : Holds b from (appended w.first ++ appended w.second) = subst (Holds b from) both held in
            let long : length (appended writes) ≡ length (appended w.first) + length (appended w.second) = ap length both ∙ length-append (appended w.first) (appended w.second) in
            let parts = tail_held o.own_key o.own_value offset size front back b at (subst (Holds b at) o.parts there) in
            let key_room = key_before K.kind V.kind k v in
            let value_room = room in
            let km = key.1 fitting.key b reached.0 short (aligned_left at k.alignment v.alignment aligned) (omega arith) (omega arith) (Holds-front b from (appended w.first) (appended w.second) split) parts.0 in
            let place = aligned_add V.kind.align at offset (aligned_right at k.alignment v.alignment aligned) (round_up-aligned K.kind.size V.kind.align) in
            let vm = value.1 fitting.value b reached.1 short place (omega arith) (omega arith) (Holds-back b from (appended w.first) (appended w.second) split) parts.1 in
            let kl = k.lies _ _ _ _ _ _ km.1 in
            let kw = k.widens b from mid at km.0 from end (K.meaning (pair x).0) (omega arith) (omega arith) before km.1 in
            let vw = v.widens b mid (mid + length (appended w.second)) (at + offset) vm.0 kw.0 end (V.meaning (pair x).1) (omega arith) (omega arith) (omega arith) vm.1 in
            (vw.0, joined_of_parts K.kind V.kind k v size room b from end at vw.0 (K.meaning (pair x).0) (V.meaning (pair x).1) before (record { short = short; room = inside; aligned = aligned }) (record { between = kw.0; key = kw.2; value = vw.2 })),
      )
