-- Pairs that are brought from a source, whose parts lie in their own bytes alone.
use Rattle.std.proofs.Common.{◌≡◌, ◌∙◌, ℕ, ◌+◌, ◌%◌, ◌≤◌, IsTrue, List, length, ap, sym, subst, arith, refl}
use Rattle.std.proofs.Math.Nat.{zero-mod}
use Rattle.rkyv_btree_portable.specs.Bytes.{bytes_at}
use Rattle.rkyv_btree_portable.specs.Entry.{entry_align, entry_kind, entry_size, value_offset, MeansEntry, RefusesEntry, bad_key, bad_value, misplaced_entry}
use Rattle.rkyv_btree_portable.specs.InPlace.{LiesAlone, value_of}
use Rattle.rkyv_btree_portable.specs.Kind.{Kind, IsLawful}
use Rattle.rkyv_btree_portable.specs.declared.refusal.Refusal.TheVariants.{Misaligned, BadEntry}
use Rattle.rkyv_btree_portable.specs.Refusing.{HasPlace, unaligned}
use Rattle.rkyv_btree_portable.specs.Views.{stands}
use Rattle.rkyv_btree_portable.specs.laws.EntryLaws.{entry_laws, entry_of_parts, key_inside, value_inside}
use Rattle.rkyv_btree_portable.specs.laws.Rounding.{aligned_add, aligned_left, aligned_right, round_up-aligned}
use Rattle.rkyv_btree_portable.specs.laws.Standing.{bytes_at-bytes_at}
use Rattle.rkyv_btree_portable.specs.laws.Views.{stands_of}
use Rattle.rkyv_btree_source.specs.Reading.{IsPart}

-- own bytes that are a value of such a type are one wherever they lie, the same
pub moved : (T : Kind) → IsLawful T → LiesAlone T → (b c : List ℕ) (lo hi at left lo2 hi2 place : ℕ) (v : T.Value) → T.Means b lo hi at left v → length c ≤ 4294967295 → lo2 ≤ hi2 → hi2 ≤ place
    → place % T.align ≡ 0 → place + T.size ≤ length c → bytes_at c place T.size ≡ bytes_at b at T.size → T.Means c lo2 hi2 place lo2 v
moved T law alone b c lo hi at left lo2 hi2 place v m short window before aligned inside same =
    let own = alone.is_own b lo hi at left v m in
    let lies = law.lies b lo hi at left v m in
    let here = own.means b lo hi at lies.short (omega (arith, lies.forward, lies.kept)) lies.before lies.aligned lies.inside refl in
    let value : value_of T (bytes_at b at T.size) ≡ v = (law.one_meaning b lo hi at lo left _ v here m).1 in
    subst (λ (w : T.Value). T.Means c lo2 hi2 place lo2 w) value (own.means c lo2 hi2 place short window before aligned inside same)

module _ (K V : Kind) (k : IsLawful K) (v : IsLawful V) (ka : LiesAlone K) (va : LiesAlone V) (b own : List ℕ) (at : ℕ) (part : IsPart b own at) (size : length own ≡ entry_size K V) where
  pub refuses_odd : ¬ (at % entry_align K V ≡ 0) → RefusesEntry K V b 0 at at (Misaligned at)
  refuses_odd odd = let inside = part.inside in misplaced_entry (unaligned part.short (omega (arith, size, inside)) odd)

  module _ (aligned : at % entry_align K V ≡ 0) (room : List ℕ) (short : length room ≤ 4294967295) (inside : entry_size K V ≤ length room) (held : bytes_at room 0 (entry_size K V) ≡ own) where
    has_place : HasPlace b (entry_size K V) (entry_align K V) at
    has_place = let there = part.inside in record { short = part.short; room = omega (arith, size, there); aligned = aligned }

    -- the parts of both are the same
    same_part : (from count : ℕ) → from + count ≤ entry_size K V → bytes_at room from count ≡ bytes_at b (at + from) count
    same_part from count low =
        let there : bytes_at b at (entry_size K V) ≡ own = ap (bytes_at b at) (sym size) ∙ sym part.same in
        let start : from ≡ 0 + from = omega arith in
        ap (λ n. bytes_at room n count) start
        ∙ (sym (bytes_at-bytes_at room 0 (entry_size K V) from count low) ∙ (ap (λ x. bytes_at x from count) (held ∙ sym there) ∙ bytes_at-bytes_at b at (entry_size K V) from count low))

    key_same : bytes_at room 0 K.size ≡ bytes_at b at K.size
    key_same =
        let low = key_inside K V k v in
        let last = value_inside K V k v in
        let start : at + 0 ≡ at = omega arith in
        same_part 0 K.size (omega (arith, low, last)) ∙ ap (λ n. bytes_at b n K.size) start

    value_same : bytes_at room (value_offset K V) V.size ≡ bytes_at b (at + value_offset K V) V.size
    value_same = same_part (value_offset K V) V.size (value_inside K V k v)

    value_aligned : (at + value_offset K V) % V.align ≡ 0
    value_aligned = aligned_add V.align at (value_offset K V) (aligned_right at k.alignment v.alignment aligned) (round_up-aligned K.size V.align)

    key_to : (x : K.Value) → K.Means room 0 0 0 0 x → K.Means b 0 at at 0 x
    key_to x m =
        let low = key_inside K V k v in
        let last = value_inside K V k v in
        let there = has_place.room in
        moved K k ka room b 0 0 0 0 0 at at x m part.short (omega arith) (omega arith) (aligned_left at k.alignment v.alignment aligned) (omega (arith, low, last, there)) (sym key_same)

    value_to : (y : V.Value) → V.Means room 0 0 (value_offset K V) 0 y → V.Means b 0 at (at + value_offset K V) 0 y
    value_to y m =
        let last = value_inside K V k v in
        let there = has_place.room in
        moved V v va room b 0 0 (value_offset K V) 0 0 at (at + value_offset K V) y m part.short (omega arith) (omega arith) value_aligned (omega (arith, last, there)) (sym value_same)

    pub refuses_key : ((x : K.Value) → ¬ K.Means room 0 0 0 0 x) → RefusesEntry K V b 0 at at (BadEntry at)
    refuses_key none =
        let low = key_inside K V k v in
        let last = value_inside K V k v in
        bad_key has_place (λ left x m. none x (moved K k ka b room 0 at at left 0 0 0 x m short (omega arith) (omega arith) (zero-mod K.align) (omega (arith, low, last, inside)) key_same))

    module _ (x : K.Value) (mx : K.Means room 0 0 0 0 x) where
      pub refuses_value : ((y : V.Value) → ¬ V.Means room 0 0 (value_offset K V) 0 y) → RefusesEntry K V b 0 at at (BadEntry (at + value_offset K V))
      refuses_value none =
          let last = value_inside K V k v in
          bad_value has_place (key_to x mx)
          (λ left y m. none y (moved V v va b room 0 at (at + value_offset K V) left 0 0 (value_offset K V) y m short (omega arith) (omega arith) (round_up-aligned K.size V.align) (omega (arith, last, inside)) value_same))

      module _ (y : V.Value) (my : V.Means room 0 0 (value_offset K V) 0 y) where
        pub means_there : MeansEntry K V b 0 at at 0 (x, y)
        means_there = entry_of_parts K V k v b 0 at at 0 x y (omega arith) has_place (record { between = 0; key = key_to x mx; value = value_to y my })

        pub valid_there : IsTrue (entry_kind K V).is_fitting → IsTrue (stands (entry_kind K V) b at)
        valid_there fits = stands_of (entry_laws K V k v) fits b 0 at at 0 (x, y) means_there

-- a pair in the room
module _ (K V : Kind) (k : IsLawful K) (v : IsLawful V) (room : List ℕ) (short : length room ≤ 4294967295) (inside : entry_size K V ≤ length room) (x : K.Value) (mx : K.Means room 0 0 0 0 x) (y : V.Value)
    (my : V.Means room 0 0 (value_offset K V) 0 y) where
  means_here : MeansEntry K V room 0 0 0 0 (x, y)
  means_here =
      let start : value_offset K V ≡ 0 + value_offset K V = omega arith in
      entry_of_parts K V k v room 0 0 0 0 x y (omega arith) (record { short = short; room = omega (arith, inside); aligned = zero-mod (entry_align K V) })
      (record { between = 0; key = mx; value = subst (λ (n : ℕ). V.Means room 0 0 n 0 y) start my })

  pub valid_here : IsTrue (entry_kind K V).is_fitting → IsTrue (stands (entry_kind K V) room 0)
  valid_here fits = stands_of (entry_laws K V k v) fits room 0 0 0 0 (x, y) means_here

  -- it reads as the one in the source
  pub reads_here : (b : List ℕ) (at : ℕ) → MeansEntry K V b 0 at at 0 (x, y) → (entry_kind K V).read room 0 ≡ (entry_kind K V).read b at
  reads_here b at m = sym ((entry_laws K V k v).is_read room 0 0 0 0 (x, y) means_here) ∙ (entry_laws K V k v).is_read b 0 at at 0 (x, y) m
