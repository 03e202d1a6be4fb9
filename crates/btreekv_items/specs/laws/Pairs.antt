-- What pairs owe as items.
use Rattle.std.specs.Ordering.{ordering_then}
use Rattle.std.specs.Prelude.{◌≡◌, ◌≢◌, ℕ, List, [], ◌∷◌, ◌++◌, drop, get_or}
use Rattle.std.specs.declared.cmp.Ordering.{Ordering}
use Rattle.std.proofs.Common.{refl, sym, ap, ◌∙◌}
use Rattle.std.proofs.lemmas.List.Elements.{All-head, All-tail}
use Rattle.btreekv_items.specs.Items.{IsSpelledApart, SameValues}
use Rattle.btreekv_items.specs.Pairs.{HasNoComma, IsPairOf, IsWithoutComma, pair_at, pair_text}
use Rattle.btreekv_items.specs.declared.item.BytesStyle.{BytesStyle}
use Rattle.btreekv_items.specs.laws.Joined.{joined_same}
use Rattle.rkyv_btree_archive.specs.EntryArchival.{entry_archival}
use Rattle.rkyv_btree_archive.specs.laws.EntryArchived.{same_size}
use Rattle.rkyv_btree_compound.specs.Joined.{joined_kind}
use Rattle.rkyv_btree_portable.specs.Entry.{entry_kind, entry_size, value_offset}
use Rattle.rkyv_btree_portable.specs.Kind.{Kind}
use Rattle.rkyv_btree_writer.specs.Archiving.{Archival, Matches}

-- texts that are cut at their first comma have the same parts
pub same_parts : (xs ys rs ts : List ℕ) → HasNoComma xs → HasNoComma rs → xs ++ 44 ∷ ys ≡ rs ++ 44 ∷ ts → (xs ≡ rs) × (ys ≡ ts)
same_parts [] ys [] ts none none2 e = (refl, ap (drop 1) e)
same_parts [] ys (r ∷ rs) ts none none2 e = absurd (All-head (λ byte. byte ≢ 44) r rs none2 (sym (ap (λ l. get_or l 0 0) e)))
same_parts (x ∷ xs) ys [] ts none none2 e = absurd (All-head (λ byte. byte ≢ 44) x xs none (ap (λ l. get_or l 0 0) e))
same_parts (x ∷ xs) ys (r ∷ rs) ts none none2 e =
    let head : x ≡ r = ap (λ l. get_or l 0 0) e in
    let parts = same_parts xs ys rs ts (All-tail (λ byte. byte ≢ 44) x xs none) (All-tail (λ byte. byte ≢ 44) r rs none2) (ap (drop 1) e) in
    (ap (λ y. y ∷ xs) head ∙ ap (λ l. r ∷ l) parts.0, parts.1)

pub pair_apart : {A B : Type 0} {IsFirst : A → Type 0} {IsSecond : B → Type 0} {first : BytesStyle → A → List ℕ} {second : BytesStyle → B → List ℕ}
    → IsWithoutComma IsFirst first → IsSpelledApart IsFirst first → IsSpelledApart IsSecond second
    → IsSpelledApart (IsPairOf IsFirst IsSecond) (pair_text first second)
pair_apart {first = first} {second = second} none apart apart2 style x y is is2 e =
    let parts = same_parts (first style x.0) (second style x.1) (first style y.0) (second style y.1) (none style x.0 is.0) (none style y.0 is2.0) e in
    let one = apart style x.0 y.0 is.0 is2.0 parts.0 in
    let other = apart2 style x.1 y.1 is.1 is2.1 parts.1 in
    ap (λ a. (a, x.1)) one ∙ ap (λ b. (y.0, b)) other

-- an entry is both values in its size
entries_match : (K V A B : Kind) → Matches (joined_kind K V (entry_size K V)) (joined_kind A B (entry_size A B)) → Matches (entry_kind K V) (entry_kind A B)
entries_match K V A B both = record {
  to = both.to;
  size = both.size;
  align = both.align;
  fits = both.fits;
  means = λ b lo hi at left e m.
      let joined = both.means b lo hi at left e (record { lies = m.lies; parts = m.parts }) in
      record { lies = joined.lies; parts = joined.parts };
}

module _ {X Y R S A B : Type 0} {T : Archival X R} {U : Archival Y S} {kind kind2 : Kind} {IsFirst : A → Type 0} {IsSecond : B → Type 0}
    {order : A → A → Ordering} {order2 : B → B → Ordering} {value_at : List ℕ → ℕ → A} {value_at2 : List ℕ → ℕ → B} {native_value : X → A} {native_value2 : Y → B}
    {native_order : X → X → Ordering} {native_order2 : Y → Y → Ordering} (first : SameValues T kind IsFirst order value_at native_value native_order)
    (second : SameValues U kind2 IsSecond order2 value_at2 native_value2 native_order2) where
  pub pair_same : SameValues (entry_archival T U (λ (pair : X × Y). pair)) (entry_kind kind kind2) (IsPairOf IsFirst IsSecond)
      (λ x y. ordering_then (order x.0 y.0) (order2 x.1 y.1)) (pair_at (value_offset kind kind2) value_at value_at2) (λ pair. (native_value pair.0, native_value2 pair.1))
      (λ x y. ordering_then (native_order x.0 y.0) (native_order2 x.1 y.1))
  unfolding entries_match
  pair_same =
      let both = joined_same first second (λ pair. pair) (entry_size T.kind U.kind) (entry_size kind kind2) (same_size T.kind U.kind kind kind2 first.same second.same) in
      record {
        same = entries_match T.kind U.kind kind kind2 both.same;
        to = both.to;
        from = both.from;
        from_to = both.from_to;
        to_from = both.to_from;
        read = both.read;
        meant = λ b lo hi at left e bytes m. both.meant b lo hi at left e bytes (record { lies = m.lies; parts = m.parts });
        native = both.native;
        ordered = both.ordered;
        natively = both.natively;
      }
