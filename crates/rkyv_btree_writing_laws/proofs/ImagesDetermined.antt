-- Where what keys and values mean determines how they are archived, what entries mean determines the image of a tree.
use Rattle.std.proofs.Common.{◌≡◌, ℕ, ◌+◌, List, [], ◌∷◌, ◌++◌, map, Option, Some, refl, sym, ap, subst, ◌∙◌}
use Rattle.rkyv_btree_writing_laws.specs.Determined.{IsDetermined}
use Rattle.rkyv_btree_format.specs.Layout.{NodeLayout, key_at, value_at, align}
use Rattle.rkyv_btree_portable.specs.InPlace.{OwnBytes}
use Rattle.rkyv_btree_portable.specs.Rounding.{round_up}
use Rattle.rkyv_btree_shape.proofs.Mapped.{entries_mapped}
use Rattle.rkyv_btree_shape.specs.Mapped.{mapped, mapped_row, mapped_child}
use Rattle.rkyv_btree_shape.specs.Tree.{Tree, leaf, inner, Row, last, step, Child, absent, child, row_entries}
use Rattle.rkyv_btree_writer.specs.Archiving.{Archival}
use Rattle.rkyv_btree_writer.specs.Writing.{Write}
use Rattle.rkyv_btree_writing_laws.specs.Entries.{AreResolved, EntriesResolved}
use Rattle.rkyv_btree_writing_laws.specs.Image.{leaf_image, inner_image}
use Rattle.rkyv_btree_writing_laws.specs.Imaged.{end_of, EntryImage, EntriesImage, NodeImage, TreeImage, RowImage, ChildImage}

-- own bytes of values that mean the same
module _ {X R : Type 0} (T : Archival X R) (d : IsDetermined T) where
  resolved_alike : (at : ℕ) (xs ys : List X) (rs : List R) (owns others : List (List ℕ)) → map T.meaning xs ≡ map T.meaning ys → AreResolved T at xs rs owns → AreResolved T at ys rs others → owns ≡ others
  resolved_alike at [] [] rs owns others mean a b = a.1 ∙ sym b.1
  resolved_alike at [] (y ∷ ys) rs owns others mean a b = absurd (cc mean)
  resolved_alike at (x ∷ xs) [] rs owns others mean a b = absurd (cc mean)
  resolved_alike at (x ∷ xs) (y ∷ ys) rs owns others mean a b =
      let here : T.meaning x ≡ T.meaning y = cc mean in
      let later : map T.meaning xs ≡ map T.meaning ys = cc mean in
      let first : a.0 ≡ b.0 = cc (a.6, b.6) in
      let rest : a.1 ≡ b.1 = cc (a.6, b.6) in
      let own = d.resolved x y b.0 at a.2 b.2 here (subst (λ (r : R). T.Resolves x r at a.2) first a.4) b.4 in
      let more = resolved_alike (at + T.kind.size) xs ys b.1 a.3 b.3 later (subst (λ (qs : List R). AreResolved T (at + T.kind.size) xs qs a.3) rest a.5) b.5 in
      a.7 ∙ (ap (λ (z : List ℕ). z ∷ a.3) own ∙ (ap (λ (zs : List (List ℕ)). b.2 ∷ zs) more ∙ sym b.7))

-- two columns determine the own bytes of entries
columns_alike : (owns others : List OwnBytes) → map (λ o. o.0) owns ≡ map (λ o. o.0) others → map (λ o. o.1) owns ≡ map (λ o. o.1) others → owns ≡ others
columns_alike [] [] hk hv = refl
columns_alike [] (p ∷ others) hk hv = absurd (cc hk)
columns_alike (o ∷ owns) [] hk hv = absurd (cc hk)
columns_alike (o ∷ owns) (p ∷ others) hk hv =
    let a : o.0 ≡ p.0 = cc hk in
    let b : o.1 ≡ p.1 = cc hv in
    let c : map (λ (z : OwnBytes). z.0) owns ≡ map (λ (z : OwnBytes). z.0) others = cc hk in
    let d : map (λ (z : OwnBytes). z.1) owns ≡ map (λ (z : OwnBytes). z.1) others = cc hv in
    ap (λ (z : List ℕ). (z, o.1) ∷ owns) a ∙ (ap (λ (z : List ℕ). (p.0, z) ∷ owns) b ∙ ap (λ (zs : List OwnBytes). p ∷ zs) (columns_alike owns others c d))

module _ {M N R S : Type 0} (K : Archival M R) (V : Archival N S) where
  -- what an entry means
  abbrev pub entry_means : M × N → K.kind.Value × V.kind.Value
  entry_means x = (K.meaning x.0, V.meaning x.1)

  -- what entries mean, their keys and their values do
  keys_mean : (xs ys : List (M × N)) → map (entry_means) xs ≡ map (entry_means) ys → map K.meaning (map (λ x. x.0) xs) ≡ map K.meaning (map (λ x. x.0) ys)
  keys_mean [] [] same = refl
  keys_mean [] (y ∷ ys) same = absurd (cc same)
  keys_mean (x ∷ xs) [] same = absurd (cc same)
  keys_mean (x ∷ xs) (y ∷ ys) same =
      let both : entry_means x ≡ entry_means y = cc same in
      let here : K.meaning x.0 ≡ K.meaning y.0 = ap (λ m. m.0) both in
      let later = keys_mean xs ys (cc same) in
      cc (here, later)

  values_mean : (xs ys : List (M × N)) → map (entry_means) xs ≡ map (entry_means) ys → map V.meaning (map (λ x. x.1) xs) ≡ map V.meaning (map (λ x. x.1) ys)
  values_mean [] [] same = refl
  values_mean [] (y ∷ ys) same = absurd (cc same)
  values_mean (x ∷ xs) [] same = absurd (cc same)
  values_mean (x ∷ xs) (y ∷ ys) same =
      let both : entry_means x ≡ entry_means y = cc same in
      let here : V.meaning x.1 ≡ V.meaning y.1 = ap (λ m. m.1) both in
      let later = values_mean xs ys (cc same) in
      cc (here, later)

module _ {M N R S : Type 0} (s : NodeLayout) (K : Archival M R) (V : Archival N S) (k : IsDetermined K) (v : IsDetermined V) where
  entry_determined : (from : ℕ) (x y : M × N) (writes others : List Write) (r p : R) (q o : S) → entry_means K V x ≡ entry_means K V y → EntryImage K V from x writes r q → EntryImage K V from y others p o → (writes ≡ others) × (r ≡ p) × (q ≡ o)
  entry_determined from x y writes others r p q o mean a b =
      let key = k.serialised x.0 y.0 from a.first b.first r p (ap (λ m. m.0) mean) a.key b.key in
      let value = v.serialised x.1 y.1 (end_of from b.first) a.second b.second q o (ap (λ m. m.1) mean) (subst (λ (ws : List Write). V.Writes x.1 (end_of from ws) a.second q) key.0 a.value) b.value in
      (a.both ∙ (ap (λ (ws : List Write). ws ++ a.second) key.0 ∙ (ap (λ (ws : List Write). b.first ++ ws) value.0 ∙ sym b.both)), key.1, value.1)

  entries_determined : (from : ℕ) (xs ys : List (M × N)) (writes others : List Write) (rs ps : List R) (qs os : List S) → map (entry_means K V) xs ≡ map (entry_means K V) ys → EntriesImage K V from xs writes rs qs → EntriesImage K V from ys others ps os → (writes ≡ others) × (rs ≡ ps) × (qs ≡ os)
  entries_determined from [] [] writes others rs ps qs os mean a b = (a.0 ∙ sym b.0, a.1 ∙ sym b.1, a.2 ∙ sym b.2)
  entries_determined from [] (y ∷ ys) writes others rs ps qs os mean a b = absurd (cc mean)
  entries_determined from (x ∷ xs) [] writes others rs ps qs os mean a b = absurd (cc mean)
  entries_determined from (x ∷ xs) (y ∷ ys) writes others rs ps qs os mean a b =
      let one = entry_determined from x y a.0 b.0 a.2 b.2 a.3 b.3 (cc mean) a.6 b.6 in
      let rest = entries_determined (end_of from b.0) xs ys a.1 b.1 a.4 b.4 a.5 b.5 (cc mean) (subst (λ (ws : List Write). EntriesImage K V (end_of from ws) xs a.1 a.4 a.5) one.0 a.7) b.7 in (
        a.8 ∙ (ap (λ (ws : List Write). ws ++ a.1) one.0 ∙ (ap (λ (ws : List Write). b.0 ++ ws) rest.0 ∙ sym b.8)),
        a.9 ∙ (ap (λ (z : R). z ∷ a.4) one.1 ∙ (ap (λ (zs : List R). b.2 ∷ zs) rest.1 ∙ sym b.9)),
        a.10 ∙ (ap (λ (z : S). z ∷ a.5) one.2 ∙ (ap (λ (zs : List S). b.3 ∷ zs) rest.2 ∙ sym b.10)),
      )

  owns_determined : (root : ℕ) (xs ys : List (M × N)) (keys : List R) (values : List S) (owns others : List OwnBytes) → map (entry_means K V) xs ≡ map (entry_means K V) ys → EntriesResolved s K V root xs keys values owns → EntriesResolved s K V root ys keys values others → owns ≡ others
  owns_determined root xs ys keys values owns others mean a b =
      columns_alike owns others
      (resolved_alike K k (root + key_at s 0) (map (λ x. x.0) xs) (map (λ x. x.0) ys) keys (map (λ o. o.0) owns) (map (λ o. o.0) others) (keys_mean K V xs ys mean) a.own_keys b.own_keys)
      (resolved_alike V v (root + value_at s 0) (map (λ x. x.1) xs) (map (λ x. x.1) ys) values (map (λ o. o.1) owns) (map (λ o. o.1) others) (values_mean K V xs ys mean) a.own_values b.own_values)

  node_determined : (image : ℕ → List OwnBytes → List Write) (from : ℕ) (xs ys : List (M × N)) (writes others : List Write) (root place : ℕ) → map (entry_means K V) xs ≡ map (entry_means K V) ys → NodeImage s K V image from xs writes root → NodeImage s K V image from ys others place → (writes ≡ others) × (root ≡ place)
  node_determined image from xs ys writes others root place mean a b =
      let entries = entries_determined from xs ys a.before b.before a.keys b.keys a.values b.values mean a.entries b.entries in
      let same : root ≡ place = a.place ∙ (ap (λ (ws : List Write). round_up (end_of from ws) (align s)) entries.0 ∙ sym b.place) in
      let there : EntriesResolved s K V place xs b.keys b.values a.owns = subst (λ (n : ℕ). EntriesResolved s K V n xs b.keys b.values a.owns) same (subst (λ (rs : List R). EntriesResolved s K V root xs rs b.values a.owns) entries.1 (subst (λ (qs : List S). EntriesResolved s K V root xs a.keys qs a.owns) entries.2 a.resolved)) in
      let owns = owns_determined place xs ys b.keys b.values a.owns b.owns mean there b.resolved in
      (a.both ∙ (ap (λ (ws : List Write). ws ++ image (end_of from ws) a.owns) entries.0 ∙ (ap (λ (os : List OwnBytes). b.before ++ image (end_of from b.before) os) owns ∙ sym b.both)), same)

  mutual
    tree_determined : (from : ℕ) (t u : Tree (M × N)) (writes others : List Write) (root place : ℕ) → mapped (entry_means K V) t ≡ mapped (entry_means K V) u → TreeImage s K V from t writes root → TreeImage s K V from u others place → (writes ≡ others) × (root ≡ place)
    tree_determined from (leaf xs) (leaf ys) writes others root place mean a b = node_determined (leaf_image s) from xs ys writes others root place (cc mean) a b
    tree_determined from (leaf xs) (inner other) writes others root place mean a b = absurd (cc mean)
    tree_determined from (inner row) (leaf ys) writes others root place mean a b = absurd (cc mean)
    tree_determined from (inner row) (inner other) writes others root place mean a b =
        let below : mapped_row (entry_means K V) row ≡ mapped_row (entry_means K V) other = cc mean in
        let rows = row_determined from row other a.0 b.0 a.2 b.2 below a.3 b.3 in
        let entries = sym (entries_mapped (entry_means K V) row) ∙ (ap row_entries below ∙ entries_mapped (entry_means K V) other) in
        let first : NodeImage s K V (λ (n : ℕ) (owns : List OwnBytes). inner_image s n owns b.2) (end_of from b.0) (row_entries row) a.1 root = subst (λ (ws : List Write). NodeImage s K V (λ (n : ℕ) (owns : List OwnBytes). inner_image s n owns b.2) (end_of from ws) (row_entries row) a.1 root) rows.0 (subst (λ (rs : List (Option ℕ)). NodeImage s K V (λ (n : ℕ) (owns : List OwnBytes). inner_image s n owns rs) (end_of from a.0) (row_entries row) a.1 root) rows.1 a.4) in
        let node = node_determined (λ (n : ℕ) (owns : List OwnBytes). inner_image s n owns b.2) (end_of from b.0) (row_entries row) (row_entries other) a.1 b.1 root place entries first b.4 in
        (a.5 ∙ (ap (λ (ws : List Write). ws ++ a.1) rows.0 ∙ (ap (λ (ws : List Write). b.0 ++ ws) node.0 ∙ sym b.5)), node.1)

    row_determined : (from : ℕ) (row other : Row (M × N)) (writes others : List Write) (roots places : List (Option ℕ)) → mapped_row (entry_means K V) row ≡ mapped_row (entry_means K V) other → RowImage s K V from row writes roots → RowImage s K V from other others places → (writes ≡ others) × (roots ≡ places)
    row_determined from (last c) (last d) writes others roots places mean a b =
        let one = images_are_determined from c d writes others a.0 b.0 (cc mean) a.1 b.1 in
        (one.0, a.2 ∙ (ap (λ (r : Option ℕ). r ∷ []) one.1 ∙ sym b.2))
    row_determined from (last c) (step d y other) writes others roots places mean a b = absurd (cc mean)
    row_determined from (step c x row) (last d) writes others roots places mean a b = absurd (cc mean)
    row_determined from (step c x row) (step d y other) writes others roots places mean a b =
        let one = images_are_determined from c d a.0 b.0 a.2 b.2 (cc mean) a.4 b.4 in
        let rest = row_determined (end_of from b.0) row other a.1 b.1 a.3 b.3 (cc mean) (subst (λ (ws : List Write). RowImage s K V (end_of from ws) row a.1 a.3) one.0 a.5) b.5 in (
          a.6 ∙ (ap (λ (ws : List Write). ws ++ a.1) one.0 ∙ (ap (λ (ws : List Write). b.0 ++ ws) rest.0 ∙ sym b.6)),
          a.7 ∙ (ap (λ (r : Option ℕ). r ∷ a.3) one.1 ∙ (ap (λ (rs : List (Option ℕ)). b.2 ∷ rs) rest.1 ∙ sym b.7)),
        )

    -- from one position, trees that mean the same have one image and one root
    pub images_are_determined : (from : ℕ) (c d : Child (M × N)) (writes others : List Write) (root place : Option ℕ) → mapped_child (entry_means K V) c ≡ mapped_child (entry_means K V) d → ChildImage s K V from c writes root → ChildImage s K V from d others place → (writes ≡ others) × (root ≡ place)
    images_are_determined from absent absent writes others root place mean a b = (a.0 ∙ sym b.0, a.1 ∙ sym b.1)
    images_are_determined from absent (child other) writes others root place mean a b = absurd (cc mean)
    images_are_determined from (child tree) absent writes others root place mean a b = absurd (cc mean)
    images_are_determined from (child tree) (child other) writes others root place mean a b =
        let one = tree_determined from tree other writes others a.0 b.0 (cc mean) a.1 b.1 in
        (one.0, a.2 ∙ (ap Some one.1 ∙ sym b.2))
