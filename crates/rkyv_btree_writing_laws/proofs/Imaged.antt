-- Where values lie in their own bytes alone, what is written of a tree is its image.
use Rattle.std.proofs.Common.{◌≡◌, ℕ, ◌+◌, ◌<◌, ◌∙◌, IsTrue, true, List, [], ◌∷◌, ◌++◌, length, map, Option, Some, inl, inr, refl, sym, ap, subst, arith}
use Rattle.std.proofs.lemmas.List.{length-map}
use Rattle.rkyv_btree_writer.specs.Archiving.{Archival, IsUnserialised, plain_archival}
use Rattle.rkyv_btree_writer.specs.Padding.{padding}
use Rattle.rkyv_btree_writing_laws.specs.Image.{leaf_bytes, leaf_image, inner_write, inner_image, tree_image, row_image, child_image, tree_end, row_end, child_end, tree_root, child_root, row_roots}
use Rattle.rkyv_btree_portable.specs.InPlace.{IsOwn, OwnBytes, AreOwn}
use Rattle.rkyv_btree_portable.specs.Kind.{Kind, IsLawful}
use Rattle.rkyv_btree_format.specs.Layout.{layout_of, are_fitting, align, leaf_size, inner_size}
use Rattle.rkyv_btree_portable.specs.Rounding.{round_up}
use Rattle.rkyv_btree_shape.specs.Tree.{Tree, leaf, inner, Row, last, step, Child, absent, child, row_entries, HasShape, RowHasShape, ChildHasShape}
use Rattle.rkyv_btree_writer.specs.Writing.{Writing, Write, position, Wrote, Stopped}
use Rattle.rkyv_btree_writing_laws.specs.Entries.{IsSerialised, AreSerialised, AreUnserialised, AreResolved, AreUnresolved, EntriesUnresolved}
use Rattle.rkyv_btree_writing_laws.specs.Written.{NodeWritten, NodeStopped, in_entries, in_padding, past_end, in_own_bytes, in_node, TreeWritten, RowWritten, ChildWritten, TreeStopped, RowStopped, ChildStopped}
use Rattle.rkyv_btree_writer.specs.declared.fault.Fault.{Fault}
use Rattle.rkyv_btree_writer.specs.declared.fault.Fault.TheVariants.{Length, LengthOverflow, PositionOverflow, OffsetOverflow, Writer, Memory, Entry, OutOfOrder}
use Rattle.rkyv_btree_writer.specs.declared.fault.ResolveFault.{ResolveFault}
use Rattle.rkyv_btree_writer.specs.declared.fault.ResolveFault.TheVariants as resolving
use Rattle.rkyv_btree_writing_laws.proofs.Leaves.{leaf_bytes_length}
use Rattle.rkyv_btree_shape.proofs.Mapped.{entries_mapped}
use Rattle.rkyv_btree_shape.specs.Mapped.{mapped, mapped_row, mapped_child}
use Rattle.rkyv_btree_writing_laws.proofs.NodesHeld.{inner_length, length-roots}
use Rattle.rkyv_btree_writer.proofs.WriteRuns.{appended-position, wrote-none, wrote-both, stopped-behind, stopped-front, stopped-one}

-- nothing was written, and so the position is the same
still : (s t : Writing) → Wrote s [] t → position t ≡ position s
still s t w = appended-position s [] t w.done ∙ omega arith

stopped-none : {X : Type 0} (s : Writing) (writes : List Write) (fault : Fault X) (t : Writing) → writes ≡ [] → Stopped s writes fault t → ⊥
stopped-none s writes fault t none h = absurd (omega (arith, ap length (sym none ∙ h.parts), length-more h.made h.next h.rest))
  where
    length-more : (made : List Write) (next : Write) (rest : List Write) → 0 < length (made ++ next ∷ rest)
    length-more [] next rest = omega arith
    length-more (x ∷ made) next rest = omega arith

module _ {X : Type 0} (kind : Kind) (meaning : X → kind.Value) (IsIn : X → Type 0) (own : X → List ℕ) where
  one_still : (s : Writing) (x : X) (r : Unit {0}) (t : Writing) → IsSerialised (plain_archival kind meaning IsIn own) s x r t → Wrote s [] t
  one_still s x r t h = subst (λ (ws : List Write). Wrote s ws t) h.allowed h.wrote

  never : {F : Type 0} (x : X) (s : Writing) (fault : Fault F) (t : Writing) → IsUnserialised (plain_archival kind meaning IsIn own) x s fault t → ⊥
  never x s (Length m) t h = h
  never x s LengthOverflow t h = h.0
  never {F} x s PositionOverflow t h = stopped-none {X = F} s h.0 PositionOverflow t h.1 h.2
  never {F} x s OffsetOverflow t h = stopped-none {X = F} s h.0 OffsetOverflow t h.1 h.2
  never x s (Writer error) t h = stopped-none s h.0 (Writer error) t h.1 h.2
  never x s (Memory error) t h = h.0
  never x s (Entry fault) t h = h.0
  never x s (OutOfOrder index) t h = h

  resolved : (at : ℕ) (xs : List X) (rs : List (Unit {0})) (owns : List (List ℕ)) → AreResolved (plain_archival kind meaning IsIn own) at xs rs owns → owns ≡ map own xs
  resolved at [] rs owns h = h.1
  resolved at (x ∷ xs) rs owns h = h.7 ∙ (ap (λ (z : List ℕ). z ∷ h.3) h.4 ∙ ap (λ (zs : List (List ℕ)). own x ∷ zs) (resolved (at + kind.size) xs h.1 h.3 h.5))

  all_resolved : (at : ℕ) (xs : List X) (rs : List (Unit {0})) (fault : ResolveFault) → AreUnresolved (plain_archival kind meaning IsIn own) at xs rs fault → ⊥
  all_resolved at [] rs fault h = h
  all_resolved at (x ∷ xs) rs resolving.LengthOverflow (r, others, e, inl h) = h
  all_resolved at (x ∷ xs) rs resolving.OffsetOverflow (r, others, e, inl h) = h
  all_resolved at (x ∷ xs) rs fault (r, others, e, inr h) = all_resolved (at + kind.size) xs others fault h.2

module _ {M N : Type 0} (K V : Kind) (E : ℕ) (k : IsLawful K) (v : IsLawful V) (fits : IsTrue (are_fitting K V E)) (key_meaning : M → K.Value) (value_meaning : N → V.Value) (KeyIn : M → Type 0) (ValueIn : N → Type 0) (key : M → List ℕ) (value : N → List ℕ) (key_own : (x : M) → IsOwn K (key x)) (value_own : (x : N) → IsOwn V (value x)) where
  abbrev KA : Archival M (Unit {0})
  KA = plain_archival K key_meaning KeyIn key

  abbrev VA : Archival N (Unit {0})
  VA = plain_archival V value_meaning ValueIn value

  -- the own bytes of an entry
  abbrev pub own_of : M × N → OwnBytes
  own_of x = (key x.0, value x.1)

  are_own : (xs : List (M × N)) → AreOwn K V (map own_of xs)
  are_own [] = tt
  are_own (x ∷ xs) = (key_own x.0, value_own x.1, are_own xs)

  columns : (owns : List OwnBytes) (xs : List (M × N)) → map (λ o. o.0) owns ≡ map key (map (λ x. x.0) xs) → map (λ o. o.1) owns ≡ map value (map (λ x. x.1) xs) → owns ≡ map own_of xs
  columns [] [] hk hv = refl
  columns [] (x ∷ xs) hk hv = absurd (cc hk)
  columns (o ∷ owns) [] hk hv = absurd (cc hk)
  columns (o ∷ owns) (x ∷ xs) hk hv =
      let a : o.0 ≡ key x.0 = cc hk in
      let b : o.1 ≡ value x.1 = cc hv in
      let c : map (λ (z : OwnBytes). z.0) owns ≡ map key (map (λ z. z.0) xs) = cc hk in
      let d : map (λ (z : OwnBytes). z.1) owns ≡ map value (map (λ z. z.1) xs) = cc hv in
      ap (λ (z : List ℕ). (z, o.1) ∷ owns) a ∙ (ap (λ (z : List ℕ). (key x.0, z) ∷ owns) b ∙ ap (λ (zs : List OwnBytes). own_of x ∷ zs) (columns owns xs c d))

  entries_still : (s : Writing) (xs : List (M × N)) (rs ss : List (Unit {0})) (t : Writing) → AreSerialised KA VA s xs rs ss t → Wrote s [] t
  entries_still s [] rs ss t h = subst (λ (u : Writing). Wrote s [] u) (sym h.0) (wrote-none s)
  entries_still s (x ∷ xs) rs ss t h =
      wrote-both s [] h.4 [] t (one_still K key_meaning KeyIn key s x.0 h.0 h.4 h.6) (wrote-both h.4 [] h.5 [] t (one_still V value_meaning ValueIn value h.4 x.1 h.1 h.5 h.7) (entries_still h.5 xs h.2 h.3 t h.8))

  entries_never : {F : Type 0} (s : Writing) (xs : List (M × N)) (fault : Fault F) (t : Writing) → AreUnserialised KA VA s xs fault t → ⊥
  entries_never s [] fault t h = h
  entries_never s (x ∷ xs) fault t (inl h) = never K key_meaning KeyIn key x.0 s fault t h
  entries_never s (x ∷ xs) fault t (inr (inl h)) = never V value_meaning ValueIn value x.1 h.1 fault t h.3
  entries_never s (x ∷ xs) fault t (inr (inr h)) = entries_never h.3 xs fault t h.6

  own_never : (root : ℕ) (xs : List (M × N)) (rs ss : List (Unit {0})) (fault : ResolveFault) → EntriesUnresolved (layout_of K V E) KA VA root xs rs ss fault → ⊥
  own_never root xs rs ss fault (inl h) = all_resolved K key_meaning KeyIn key _ (map (λ x. x.0) xs) rs fault h
  own_never root xs rs ss fault (inr h) = all_resolved V value_meaning ValueIn value _ (map (λ x. x.1) xs) ss fault h

  node_written : (image : ℕ → List OwnBytes → List Write) (size : ℕ) (s : Writing) (xs : List (M × N)) (root : ℕ) (t : Writing) → NodeWritten (layout_of K V E) KA VA image size s xs root t →
      Wrote s (image (position s) (map own_of xs)) t × (root ≡ round_up (position s) (align (layout_of K V E))) × (position t ≡ root + size)
  node_written image size s xs root t h =
      let quiet = entries_still s xs h.entries.keys h.entries.values h.mid h.entries.serialised in
      let here = still s h.mid quiet in
      let owns = columns h.owns xs (resolved K key_meaning KeyIn key _ (map (λ x. x.0) xs) h.entries.keys (map (λ o. o.0) h.owns) h.entries.resolved.own_keys) (resolved V value_meaning ValueIn value _ (map (λ x. x.1) xs) h.entries.values (map (λ o. o.1) h.owns) h.entries.resolved.own_values) in (
        wrote-both s [] h.mid (image (position s) (map own_of xs)) t quiet (subst (λ (n : ℕ). Wrote h.mid (image n (map own_of xs)) t) here (subst (λ (os : List OwnBytes). Wrote h.mid (image (position h.mid) os) t) owns h.wrote)),
        h.entries.place ∙ ap (λ n. round_up n (align (layout_of K V E))) here,
        h.end,
      )

  -- a node's write stands after its padding, and has the node's size
  node_stopped : {F : Type 0} (image : ℕ → List OwnBytes → List Write) (write : ℕ → List OwnBytes → Write) (size : ℕ) (s : Writing) (xs : List (M × N)) (fault : Fault F) (t : Writing) → ((at : ℕ) (owns : List OwnBytes) → image at owns ≡ padding (align (layout_of K V E)) at ++ write at owns ∷ []) →
      ((at : ℕ) → length (write at (map own_of xs)).bytes ≡ size) → NodeStopped (layout_of K V E) KA VA image size s xs fault t → Stopped s (image (position s) (map own_of xs)) fault t
  node_stopped image write size s xs fault t is long (in_entries h) = absurd (entries_never s xs fault t h)
  node_stopped image write size s xs fault t is long (in_padding keys values mid h stopped) =
      let quiet = entries_still s xs keys values mid h in
      let here = still s mid quiet in
      let pad = padding (align (layout_of K V E)) (position s) in
      subst (λ (ws : List Write). Stopped s ws fault t) (sym (is (position s) (map own_of xs)))
      (stopped-front s pad (write (position s) (map own_of xs) ∷ []) fault t (stopped-behind s [] mid pad fault t quiet (subst (λ (n : ℕ). Stopped mid (padding (align (layout_of K V E)) n) fault t) here stopped)))
  node_stopped {F} image write size s xs fault t is long (past_end keys values padded e past) =
      let quiet = entries_still s xs keys values padded.mid padded.serialised in
      let here = still s padded.mid quiet in
      let pad = padding (align (layout_of K V E)) (position s) in
      let node = write (position s) (map own_of xs) in
      let before : Wrote s pad t = wrote-both s [] padded.mid pad t quiet (subst (λ (n : ℕ). Wrote padded.mid (padding (align (layout_of K V E)) n) t) here padded.padded) in
      subst (λ (f : Fault F). Stopped s (image (position s) (map own_of xs)) f t) (sym e)
      (subst (λ (ws : List Write). Stopped {E = F} s ws PositionOverflow t) (sym (is (position s) (map own_of xs)))
      (stopped-behind {E = F} s pad t (node ∷ []) PositionOverflow t before (stopped-one {E = F} t node PositionOverflow t (refl, omega (arith, past, long (position s))))))
  node_stopped image write size s xs fault t is long (in_own_bytes keys values padded cause e h) = absurd (own_never _ xs keys values cause h)
  node_stopped image write size s xs fault t is long (in_node root owns mid entries stopped) =
      let quiet = entries_still s xs entries.keys entries.values mid entries.serialised in
      let here = still s mid quiet in
      let same = columns owns xs (resolved K key_meaning KeyIn key _ (map (λ x. x.0) xs) entries.keys (map (λ o. o.0) owns) entries.resolved.own_keys) (resolved V value_meaning ValueIn value _ (map (λ x. x.1) xs) entries.values (map (λ o. o.1) owns) entries.resolved.own_values) in
      stopped-behind s [] mid (image (position s) (map own_of xs)) fault t quiet (subst (λ (n : ℕ). Stopped mid (image n (map own_of xs)) fault t) here (subst (λ (os : List OwnBytes). Stopped mid (image (position mid) os) fault t) same stopped))

  mutual
    pub tree_written : (s : Writing) (tree : Tree (M × N)) (root : ℕ) (t : Writing) → TreeWritten (layout_of K V E) KA VA s tree root t →
        Wrote s (tree_image (layout_of K V E) (position s) (mapped own_of tree)) t × (root ≡ tree_root (layout_of K V E) (position s) (mapped own_of tree)) × (position t ≡ tree_end (layout_of K V E) (position s) (mapped own_of tree))
    tree_written s (leaf xs) root t h =
        let node = node_written (leaf_image (layout_of K V E)) (leaf_size (layout_of K V E)) s xs root t h in
        (node.0, node.1, omega (arith, node.1, node.2))
    tree_written s (inner row) root t h =
        let n = layout_of K V E in
        let rows = row_written s row h.0 h.1 h.2 in
        let end = row_end n (position s) (mapped_row own_of row) in
        let roots = row_roots n (position s) (mapped_row own_of row) in
        let node = node_written (λ (at : ℕ) (owns : List OwnBytes). inner_image n at owns h.0) (inner_size n) h.1 (row_entries row) root t h.3 in
        let image = row_image n (position s) (mapped_row own_of row) in
        let entries = entries_mapped own_of row in (
          wrote-both s image h.1 (inner_image n end (row_entries (mapped_row own_of row)) roots) t rows.0
              (subst (λ (os : List OwnBytes). Wrote h.1 (inner_image n end os roots) t) (sym entries) (subst (λ (rs : List (Option ℕ)). Wrote h.1 (inner_image n end (map own_of (row_entries row)) rs) t) rows.1 (subst (λ (m : ℕ). Wrote h.1 (inner_image n m (map own_of (row_entries row)) h.0) t) rows.2 node.0))),
          node.1 ∙ ap (λ m. round_up m (align n)) rows.2,
          node.2 ∙ ap (λ m. m + inner_size n) (node.1 ∙ ap (λ m. round_up m (align n)) rows.2),
        )

    row_written : (s : Writing) (row : Row (M × N)) (roots : List (Option ℕ)) (t : Writing) → RowWritten (layout_of K V E) KA VA s row roots t →
        Wrote s (row_image (layout_of K V E) (position s) (mapped_row own_of row)) t × (roots ≡ row_roots (layout_of K V E) (position s) (mapped_row own_of row)) × (position t ≡ row_end (layout_of K V E) (position s) (mapped_row own_of row))
    row_written s (last c) roots t h =
        let one = child_written s c h.0 t h.1 in
        (one.0, h.2 ∙ ap (λ (r : Option ℕ). r ∷ []) one.1, one.2)
    row_written s (step c x row) roots t h =
        let n = layout_of K V E in
        let one = child_written s c h.0 h.2 h.3 in
        let rest = row_written h.2 row h.1 t h.4 in
        let mid = child_end n (position s) (mapped_child own_of c) in (
          wrote-both s (child_image n (position s) (mapped_child own_of c)) h.2 (row_image n mid (mapped_row own_of row)) t one.0 (subst (λ (m : ℕ). Wrote h.2 (row_image n m (mapped_row own_of row)) t) one.2 rest.0),
          h.5 ∙ (ap (λ (r : Option ℕ). r ∷ h.1) one.1 ∙ ap (λ (rs : List (Option ℕ)). child_root n (position s) (mapped_child own_of c) ∷ rs) (rest.1 ∙ ap (λ m. row_roots n m (mapped_row own_of row)) one.2)),
          rest.2 ∙ ap (λ m. row_end n m (mapped_row own_of row)) one.2,
        )

    pub child_written : (s : Writing) (c : Child (M × N)) (root : Option ℕ) (t : Writing) → ChildWritten (layout_of K V E) KA VA s c root t →
        Wrote s (child_image (layout_of K V E) (position s) (mapped_child own_of c)) t × (root ≡ child_root (layout_of K V E) (position s) (mapped_child own_of c)) × (position t ≡ child_end (layout_of K V E) (position s) (mapped_child own_of c))
    child_written s absent root t h = (subst (λ (u : Writing). Wrote s [] u) (sym h.1) (wrote-none s), h.0, ap position h.1)
    child_written s (child tree) root t h =
        let one = tree_written s tree h.0 t h.1 in
        (one.0, h.2 ∙ ap Some one.1, one.2)

  mutual
    tree_stopped : {F : Type 0} (s : Writing) (tree : Tree (M × N)) (fault : Fault F) (t : Writing) → HasShape E tree → TreeStopped (layout_of K V E) KA VA s tree fault t → Stopped s (tree_image (layout_of K V E) (position s) (mapped own_of tree)) fault t
    tree_stopped s (leaf xs) fault t is h =
        let n = layout_of K V E in
        node_stopped (leaf_image n) (λ (at : ℕ) (owns : List OwnBytes). record { bytes = leaf_bytes n owns; reaches = true }) (leaf_size n) s xs fault t (λ at owns. refl)
        (λ at. leaf_bytes_length K V E k v fits (map own_of xs) (are_own xs) (omega (arith, length-map xs own_of, is))) h
    tree_stopped s (inner row) fault t is (inl h) =
        let n = layout_of K V E in
        let mapped = mapped_row own_of row in
        stopped-front s (row_image n (position s) mapped) (inner_image n (row_end n (position s) mapped) (row_entries mapped) (row_roots n (position s) mapped)) fault t (row_stopped s row fault t is.1 h)
    tree_stopped s (inner row) fault t is (inr h) =
        let n = layout_of K V E in
        let mapped = mapped_row own_of row in
        let rows = row_written s row h.0 h.1 h.2 in
        let end = row_end n (position s) mapped in
        let roots = row_roots n (position s) mapped in
        let entries = entries_mapped own_of row in
        let count : length h.0 ≡ E + 1 = ap length rows.1 ∙ (length-roots n (position s) mapped ∙ omega (arith, ap length entries, length-map (row_entries row) own_of, is.0)) in
        let node = node_stopped (λ (at : ℕ) (owns : List OwnBytes). inner_image n at owns h.0) (λ (at : ℕ) (owns : List OwnBytes). inner_write n (round_up at (align n)) owns h.0) (inner_size n) h.1 (row_entries row) fault t (λ at owns. refl)
        (λ at. inner_length K V E k v fits (round_up at (align n)) (map own_of (row_entries row)) h.0 (are_own (row_entries row)) (length-map (row_entries row) own_of ∙ is.0) count) h.3 in
        stopped-behind s (row_image n (position s) mapped) h.1 (inner_image n end (row_entries mapped) roots) fault t rows.0
        (subst (λ (os : List OwnBytes). Stopped h.1 (inner_image n end os roots) fault t) (sym entries) (subst (λ (rs : List (Option ℕ)). Stopped h.1 (inner_image n end (map own_of (row_entries row)) rs) fault t) rows.1 (subst (λ (m : ℕ). Stopped h.1 (inner_image n m (map own_of (row_entries row)) h.0) fault t) rows.2 node)))

    row_stopped : {F : Type 0} (s : Writing) (row : Row (M × N)) (fault : Fault F) (t : Writing) → RowHasShape E row → RowStopped (layout_of K V E) KA VA s row fault t → Stopped s (row_image (layout_of K V E) (position s) (mapped_row own_of row)) fault t
    row_stopped s (last c) fault t is h = child_stopped s c fault t is h
    row_stopped s (step c x row) fault t is (inl h) =
        let n = layout_of K V E in
        stopped-front s (child_image n (position s) (mapped_child own_of c)) (row_image n (child_end n (position s) (mapped_child own_of c)) (mapped_row own_of row)) fault t (child_stopped s c fault t is.0 h)
    row_stopped s (step c x row) fault t is (inr h) =
        let n = layout_of K V E in
        let one = child_written s c h.0 h.1 h.2 in
        stopped-behind s (child_image n (position s) (mapped_child own_of c)) h.1 (row_image n (child_end n (position s) (mapped_child own_of c)) (mapped_row own_of row)) fault t one.0
        (subst (λ (m : ℕ). Stopped h.1 (row_image n m (mapped_row own_of row)) fault t) one.2 (row_stopped h.1 row fault t is.1 h.3))

    pub child_stopped : {F : Type 0} (s : Writing) (c : Child (M × N)) (fault : Fault F) (t : Writing) → ChildHasShape E c → ChildStopped (layout_of K V E) KA VA s c fault t → Stopped s (child_image (layout_of K V E) (position s) (mapped_child own_of c)) fault t
    child_stopped s absent fault t is h = absurd h
    child_stopped s (child tree) fault t is h = tree_stopped s tree fault t is h
