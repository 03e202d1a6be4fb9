-- The keys and the values of an archive are of its types.
use Rattle.std.proofs.Common.{◌≡◌, ℕ, ◌+◌, List, [], ◌∷◌, ◌++◌, sym, ap, subst, ◌∙◌, inl, inr}
use Rattle.std.specs.List.{AllByRecursion}
use Rattle.std.specs.declared.cmp.Ordering.{Ordering}
use Rattle.btreekv_items.specs.Bytes.{AreBytes}
use Rattle.btreekv_items.specs.Items.{SameValues}
use Rattle.rkyv_btree_format.specs.OwnBytes.{IsArchiveOf}
use Rattle.rkyv_btree_format.specs.Spells.{Accepted, Entries, Spells, SpellsChild, SpellsRow}
use Rattle.rkyv_btree_portable.specs.Kind.{IsLawful, Kind}
use Rattle.rkyv_btree_shape.specs.Tree.{Child, Row, Tree, absent, child, child_list, inner, last, leaf, list, row_entries, row_list, step}
use Rattle.rkyv_btree_verify.specs.Map.{map_kind}
use Rattle.rkyv_btree_writer.specs.Archiving.{Archival}
use Rattle.btreekv_types.specs.Typed.{AreValues}

pub all_append : {X : Type 0} (P : X → Type 0) (xs ys : List X) → AllByRecursion P xs → AllByRecursion P ys → AllByRecursion P (xs ++ ys)
all_append P [] ys h k = k
all_append P (x ∷ xs) ys h k = (h.0, all_append P xs ys h.1 k)

-- what holds of all that bytes mean holds of each entry of a map
module _ (K V : Kind) (E : ℕ) (b : List ℕ) (IsKey : K.Value → Type 0) (IsMapped : V.Value → Type 0)
    (keys : (lo hi at left : ℕ) (v : K.Value) → K.Means b lo hi at left v → IsKey v) (values : (lo hi at left : ℕ) (v : V.Value) → V.Means b lo hi at left v → IsMapped v) where
  abbrev Is : K.Value × V.Value → Type 0
  Is e = IsKey e.0 × IsMapped e.1

  entries_are : (p i lo lo2 : ℕ) (m : List (K.Value × V.Value)) → Entries K V E b p i lo lo2 m → AllByRecursion Is m
  entries_are p i lo lo2 [] h = tt
  entries_are p i lo lo2 (e ∷ es) h = ((keys _ _ _ _ e.0 h.2, values _ _ _ _ e.1 h.3), entries_are p (i + 1) h.1 lo2 es h.4)

  mutual
    tree_are : (lo hi p : ℕ) (t : Tree (K.Value × V.Value)) → Spells K V E b lo hi p t → AllByRecursion Is (list t)
    tree_are lo hi p (leaf m) h = entries_are p 0 lo h.3 m h.4
    tree_are lo hi p (inner row) h = row_are p 0 lo h.2 row h.3 (entries_are p 0 h.2 h.4 (row_entries row) h.5)

    row_are : (p i lo mid : ℕ) (row : Row (K.Value × V.Value)) → SpellsRow K V E b p i lo mid row → AllByRecursion Is (row_entries row) → AllByRecursion Is (row_list row)
    row_are p i lo mid (last c) h all = child_are p i lo mid c h
    row_are p i lo mid (step c e row) h all = all_append Is (child_list c) (e ∷ row_list row) (child_are p i lo h.0 c h.1) (all.0, row_are p (i + 1) h.0 mid row h.2 all.1)

    child_are : (p i lo next : ℕ) (c : Child (K.Value × V.Value)) → SpellsChild K V E b p i lo next c → AllByRecursion Is (child_list c)
    child_are p i lo next absent h = tt
    child_are p i lo next (child t) h = tree_are lo p h.0 t h.2

  accepted_are : (lo hi at left : ℕ) (m : List (K.Value × V.Value)) → Accepted K V E b lo hi at left m → AllByRecursion Is m
  accepted_are lo hi at left m a =
      elim a.root [
        | inl h ↦ subst (AllByRecursion Is) (sym h.1) tt
        | inr h ↦ subst (AllByRecursion Is) (sym h.1.means) (tree_are _ _ h.1.start h.1.tree h.1.spelled)
      ]

  pub archived_are : (m : List (K.Value × V.Value)) → IsArchiveOf (map_kind K V E) b m → AllByRecursion Is m
  archived_are m is = accepted_are _ _ _ _ m is.means

-- what bytes mean is a value of the type
pub is_value : {X R A : Type 0} {T : Archival X R} {kind : Kind} {order : A → A → Ordering} {value_at : List ℕ → ℕ → A} {native_value : X → A} {native_order : X → X → Ordering} {IsValue : A → Type 0}
    → SameValues T kind IsValue order value_at native_value native_order → IsLawful kind → (to : kind.Value → A) → AreValues T kind order value_at native_value to
    → (b : List ℕ) → AreBytes b → (lo hi at left : ℕ) (v : kind.Value) → kind.Means b lo hi at left v → IsValue (to v)
is_value {A = A} {kind = kind} {IsValue = IsValue} same laws to values b bytes lo hi at left v means =
    let read : v ≡ kind.read b at = laws.is_read b lo hi at left v means in
    let alike : same.to v ≡ to v = ap same.to read ∙ (sym (same.read b at) ∙ (values.read b at ∙ ap to (sym read))) in
    subst IsValue alike (same.meant b lo hi at left v bytes means)
