-- A key with its value is archived by what archives both.
use Rattle.std.specs.Prelude.{◌≡◌, ℕ, ◌+◌, ◌≤◌, ◌^◌, ◌&&◌, Bool, ◌++◌, length, nat_lt}
use Rattle.std.proofs.Common.{arith, ap, subst, ◌∙◌, length-append}
use Rattle.rkyv_btree_writer.specs.Archiving.{Archival, Matches, IsArchived}
use Rattle.rkyv_btree_portable.specs.Bytes.{Holds}
use Rattle.rkyv_btree_portable.specs.Entry.{value_offset, entry_align, entry_size, entry_kind}
use Rattle.rkyv_btree_archive.specs.EntryArchival.{entry_archival}
use Rattle.rkyv_btree_portable.specs.Kind.{Kind, IsLawful}
use Rattle.rkyv_btree_portable.specs.laws.Rounding.{aligned_left, aligned_right, aligned_add, round_up-aligned}
use Rattle.rkyv_btree_portable.specs.Standing.{IsAligned}
use Rattle.rkyv_btree_writer.specs.Writing.{AllReach, appended}
use Rattle.rkyv_btree_portable.specs.laws.EntryLaws.{fitting_entry, key_inside, value_inside, entry_of_parts}
use Rattle.rkyv_btree_writer.proofs.WriteRuns.{appended-append, reach_split}
use Rattle.rkyv_btree_portable.specs.laws.Holding.{Holds-front, Holds-back, tail_length, tail_held}

-- the layouts of two entries whose keys and values lie alike
module _ (K V A B : Kind) (k : Matches K A) (v : Matches V B) where
  pub same_offset : value_offset K V ≡ value_offset A B
  same_offset = let a = k.size in let b = v.align in cc

  pub same_size : entry_size K V ≡ entry_size A B
  same_size = let offset = same_offset in let a = v.size in let b = k.align in let c = v.align in cc

  same_align : entry_align K V ≡ entry_align A B
  same_align = let a = k.align in let b = v.align in cc

  pub same_entry : Matches (entry_kind K V) (entry_kind A B)
  same_entry = record {
    to = λ e. (k.to e.0, v.to e.1);
    size = same_size;
    align = same_align;
    fits = fitting K.is_fitting A.is_fitting V.is_fitting B.is_fitting (entry_size K V) (entry_size A B) k.fits v.fits same_size;
    means = λ b lo hi at left e m.
        let l = m.lies in
        let size = same_size in
        record {
          lies = record { short = l.short; inside = omega arith; aligned = subst (λ a. IsAligned a at) same_align l.aligned; forward = l.forward; kept = l.kept; before = l.before };
          parts = record {
            between = m.parts.between;
            key = k.means b lo hi at m.parts.between e.0 m.parts.key;
            value = subst (λ n. B.Means b m.parts.between hi (at + n) left (v.to e.1)) same_offset (v.means b m.parts.between hi (at + value_offset K V) left e.1 m.parts.value);
          };
        };
  }
    where
      fitting : (a a2 b b2 : Bool) (m n : ℕ) → a ≡ a2 → b ≡ b2 → m ≡ n → (a && b && nat_lt m (2 ^ 32)) ≡ (a2 && b2 && nat_lt n (2 ^ 32))
      fitting a a2 b b2 m n p q r = cc

module _ {X M N R S : Type 0} (K : Archival M R) (V : Archival N S) (pair : X → M × N) (k : IsLawful K.kind) (v : IsLawful V.kind) (is_key : IsArchived K) (is_value : IsArchived V) where
  pub entry_archived : IsArchived (entry_archival K V pair)
  entry_archived x from at writes r own is_in w o =
      let offset = value_offset K.kind V.kind in
      let mid = from + length (appended w.first) in
      let end = from + length (appended writes) in
      let key = is_key (pair x).0 from at w.first r.key o.own_key is_in.0 w.key o.key in
      let value = is_value (pair x).1 mid (at + offset) w.second r.value o.own_value is_in.1 w.value o.value in
      let front : length o.own_key ≤ offset = omega (arith, key.0, key_inside K.kind V.kind k v) in
      let back : offset + length o.own_value ≤ entry_size K.kind V.kind = omega (arith, value.0, value_inside K.kind V.kind k v) in (
        ap length o.parts ∙ tail_length o.own_key o.own_value offset (entry_size K.kind V.kind) front back,
        λ fits b reach short aligned before inside held there.
            let fitting = fitting_entry K.kind V.kind fits in
            let reached = reach_split w.first w.second (subst AllReach w.both reach) in
            let both : appended writes ≡ appended w.first ++ appended w.second = ap appended w.both ∙ appended-append w.first w.second in
            let split : Holds b from (appended w.first ++ appended w.second) = subst (Holds b from) both held in
            let long : length (appended writes) ≡ length (appended w.first) + length (appended w.second) = ap length both ∙ length-append (appended w.first) (appended w.second) in
            let parts = tail_held o.own_key o.own_value offset (entry_size K.kind V.kind) front back b at (subst (Holds b at) o.parts there) in
            let key_room = key_inside K.kind V.kind k v in
            let value_room = value_inside K.kind V.kind k v in
            let km = key.1 fitting.key b reached.0 short (aligned_left at k.alignment v.alignment aligned) (omega arith) (omega arith) (Holds-front b from (appended w.first) (appended w.second) split) parts.0 in
            let place = aligned_add V.kind.align at offset (aligned_right at k.alignment v.alignment aligned) (round_up-aligned K.kind.size V.kind.align) in
            let vm = value.1 fitting.value b reached.1 short place (omega arith) (omega arith) (Holds-back b from (appended w.first) (appended w.second) split) parts.1 in
            let kl = k.lies _ _ _ _ _ _ km.1 in
            let kw = k.widens b from mid at km.0 from end (K.meaning (pair x).0) (omega arith) (omega arith) before km.1 in
            let vw = v.widens b mid (mid + length (appended w.second)) (at + offset) vm.0 kw.0 end (V.meaning (pair x).1) (omega arith) (omega arith) (omega arith) vm.1 in
            (vw.0, entry_of_parts K.kind V.kind k v b from end at vw.0 (K.meaning (pair x).0) (V.meaning (pair x).1) before (record { short = short; room = inside; aligned = aligned }) (record { between = kw.0; key = kw.2; value = vw.2 })),
      )
