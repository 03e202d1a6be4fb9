-- What a writer took of a tree that is stopped is told by positions: how far the tree came, and what stopped it there.
use Rattle.std.proofs.Common.{◌≡◌, ℕ, ◌+◌, ◌≤◌, ◌⊎◌, true, IsTrue, List, [], ◌∷◌, ◌++◌, length, Option, inl, inr, refl, sym, ap, subst, arith}
use Rattle.rkyv_btree_writing_laws.proofs.Kept.{then_begins, wrote_begins}
use Rattle.rkyv_btree_format.specs.Layout.{NodeLayout, layout_of, are_fitting, align, leaf_size, inner_size}
use Rattle.rkyv_btree_portable.specs.InPlace.{OwnBytes}
use Rattle.rkyv_btree_portable.specs.Kind.{Kind, IsLawful}
use Rattle.rkyv_btree_portable.specs.Rounding.{round_up}
use Rattle.rkyv_btree_portable.specs.laws.Holding.{length-zeros}
use Rattle.rkyv_btree_shape.specs.Tree.{Tree, leaf, inner, Row, last, step, Child, absent, child, row_entries, HasShape, RowHasShape, ChildHasShape}
use Rattle.rkyv_btree_writer.specs.Archiving.{Archival, IsArchived, Matches, BeginsWith, StopsIn, IsUnserialised}
use Rattle.rkyv_btree_writer.specs.Causes.{HasCauses}
use Rattle.rkyv_btree_writer.specs.Padding.{padding}
use Rattle.rkyv_btree_writer.specs.Writing.{Writing, Write, position, Wrote, Stopped}
use Rattle.rkyv_btree_writer.specs.declared.fault.EntryFault.{EntryFault}
use Rattle.rkyv_btree_writer.specs.declared.fault.Fault.{Fault}
use Rattle.rkyv_btree_writer.specs.declared.fault.Fault.TheVariants.{Length, LengthOverflow, PositionOverflow, OffsetOverflow, Writer, Memory, Entry, OutOfOrder}
use Rattle.rkyv_btree_writer.specs.declared.fault.ResolveFault.{ResolveFault}
use Rattle.rkyv_btree_writer.specs.declared.fault.ResolveFault.TheVariants as resolving
use Rattle.rkyv_btree_writer.proofs.WriteRuns.{stopped-front, stopped-behind, stopped-one}
use Rattle.rkyv_btree_writing_laws.specs.Entries.{AreSerialised, AreUnserialised, EntriesResolved, EntriesUnresolved, as_fault}
use Rattle.rkyv_btree_writing_laws.specs.Image.{leaf_bytes, leaf_image, inner_write, inner_image}
use Rattle.rkyv_btree_writing_laws.specs.Imaged.{end_of, unresolved_write, EntriesUpTo, EntriesRefuse, RowImage, TreeUpTo, RowUpTo, ChildUpTo, NodeBegins, of_entries, of_node, of_unresolved, ChildBegins, ChildRefuses}
use Rattle.rkyv_btree_writing_laws.specs.Written.{AreInNode, NodeStopped, in_entries, in_padding, past_end, in_own_bytes, in_node, TreeStopped, RowStopped, ChildStopped}
use Rattle.rkyv_btree_writing_laws.proofs.NodesDecided.{serialised_lengths, entries_decided, leaf_sized, inner_sized}
use Rattle.rkyv_btree_writing_laws.proofs.TreesImaged.{wrote-end, entry_imaged, entries_imaged, in_node_imaged, row_imaged, child_imaged}

-- the places for children of a row
pub image_roots : {M N R S : Type 0} (s : NodeLayout) (K : Archival M R) (V : Archival N S) (from : ℕ) (row : Row (M × N)) (writes : List Write) (roots : List (Option ℕ)) → RowImage s K V from row writes roots → length roots ≡ length (row_entries row) + 1
image_roots s K V from (last c) writes roots h = ap length h.2
image_roots s K V from (step c x row) writes roots h = omega (arith, ap length h.7, image_roots s K V (end_of from h.0) row h.1 h.3 h.5)

-- what is known of the writes before a stop stays known after other writes
module _ {X M N R S : Type 0} (s : NodeLayout) (K : Archival M R) (V : Archival N S) (fault : Fault X) (Leaves : Writing → List Write → Writing → Type 0) (behind : (from : Writing) (first : List Write) (mid : Writing) (rest : List Write) (to : Writing) → Wrote from first mid → Leaves mid rest to → Leaves from (first ++ rest) to) where
  -- entries, by what stops a key or a value
  module _ (Key : M → ℕ → List Write → Type 0) (Value : N → ℕ → List Write → Type 0) (at_key : (x : M) (from to : Writing) → IsUnserialised K x from fault to → (writes : List Write) × Key x (position from) writes × Leaves from writes to) (at_value : (x : N) (from to : Writing) → IsUnserialised V x from fault to → (writes : List Write) × Value x (position from) writes × Leaves from writes to) where
    entries_up_to : (from : Writing) (xs : List (M × N)) (to : Writing) → AreUnserialised K V from xs fault to → (writes : List Write) × EntriesUpTo K V Key Value (position from) xs writes × Leaves from writes to
    entries_up_to from [] to h = absurd h
    entries_up_to from (x ∷ xs) to (inl h) =
        let one = at_key x.0 from to h in
        (one.0, inl one.1, one.2)
    entries_up_to from (x ∷ xs) to (inr (inl h)) =
        let key = h.2 in
        let one = at_value x.1 h.1 to h.3 in
        let here = subst (λ (n : ℕ). Value x.1 n one.0) (wrote-end from key.writes h.1 key.wrote) one.1 in
        (key.writes ++ one.0, inr (inl (key.writes, one.0, h.0, key.allowed, here, refl)), behind from key.writes h.1 one.0 to key.wrote one.2)
    entries_up_to from (x ∷ xs) to (inr (inr h)) =
        let one = entry_imaged K V from h.2 h.3 x h.0 h.1 h.4 h.5 in
        let rest = entries_up_to h.3 xs to h.6 in
        let here = subst (λ (n : ℕ). EntriesUpTo K V Key Value n xs rest.0) (wrote-end from one.0 h.3 one.2) rest.1 in
        (one.0 ++ rest.0, inr (inr (one.0, rest.0, h.0, h.1, one.1, here, refl)), behind from one.0 h.3 rest.0 to one.2 rest.2)

  -- trees, by what stops a leaf or an inner node
  module _ (Node : (ℕ → List OwnBytes → List Write) → ℕ → ℕ → List (M × N) → List Write → Type 0) (at_leaf : (from : Writing) (xs : List (M × N)) (to : Writing) → length xs ≤ s.E → NodeStopped s K V (leaf_image s) (leaf_size s) from xs fault to → (writes : List Write) × Node (leaf_image s) (leaf_size s) (position from) xs writes × Leaves from writes to) (at_inner : (roots : List (Option ℕ)) (from : Writing) (xs : List (M × N)) (to : Writing) → length xs ≡ s.E → length roots ≡ s.E + 1 → NodeStopped s K V (λ at owns. inner_image s at owns roots) (inner_size s) from xs fault to → (writes : List Write) × Node (λ at owns. inner_image s at owns roots) (inner_size s) (position from) xs writes × Leaves from writes to) where
    mutual
      tree_up_to : (from : Writing) (t : Tree (M × N)) (to : Writing) → HasShape s.E t → TreeStopped s K V from t fault to → (writes : List Write) × TreeUpTo s K V Node (position from) t writes × Leaves from writes to
      tree_up_to from (leaf xs) to is h = at_leaf from xs to is h
      tree_up_to from (inner row) to is (inl h) =
          let one = row_up_to from row to is.1 h in
          (one.0, inl one.1, one.2)
      tree_up_to from (inner row) to is (inr h) =
          let image : ℕ → List OwnBytes → List Write = λ at owns. inner_image s at owns h.0 in
          let before = row_imaged s K V from row h.0 h.1 h.2 in
          let count = image_roots s K V (position from) row before.0 h.0 before.1 in
          let node = at_inner h.0 h.1 (row_entries row) to is.0 (omega (arith, count, is.0)) h.3 in
          let here = subst (λ (n : ℕ). Node image (inner_size s) n (row_entries row) node.0) (wrote-end from before.0 h.1 before.2) node.1 in
          (before.0 ++ node.0, inr (before.0, node.0, h.0, before.1, here, refl), behind from before.0 h.1 node.0 to before.2 node.2)

      row_up_to : (from : Writing) (row : Row (M × N)) (to : Writing) → RowHasShape s.E row → RowStopped s K V from row fault to → (writes : List Write) × RowUpTo s K V Node (position from) row writes × Leaves from writes to
      row_up_to from (last c) to is h = child_up_to from c to is h
      row_up_to from (step c x row) to is (inl h) =
          let one = child_up_to from c to is.0 h in
          (one.0, inl one.1, one.2)
      row_up_to from (step c x row) to is (inr h) =
          let one = child_imaged s K V from c h.0 h.1 h.2 in
          let rest = row_up_to h.1 row to is.1 h.3 in
          let here = subst (λ (n : ℕ). RowUpTo s K V Node n row rest.0) (wrote-end from one.0 h.1 one.2) rest.1 in
          (one.0 ++ rest.0, inr (one.0, rest.0, h.0, one.1, here, refl), behind from one.0 h.1 rest.0 to one.2 rest.2)

      child_up_to : (from : Writing) (c : Child (M × N)) (to : Writing) → ChildHasShape s.E c → ChildStopped s K V from c fault to → (writes : List Write) × ChildUpTo s K V Node (position from) c writes × Leaves from writes to
      child_up_to from absent to is h = absurd h
      child_up_to from (child t) to is h = tree_up_to from t to is h

-- a fault of a write: the next one doesn't fit, doesn't reach, or failed
abbrev pub IsOfWrite : {X : Type 0} → Fault X → Type 0
IsOfWrite PositionOverflow = Unit {0}
IsOfWrite OffsetOverflow = Unit {0}
IsOfWrite (Writer error) = Unit {0}
IsOfWrite _ = ⊥

stops_in : {X Y R : Type 0} (T : Archival Y R) (fault : Fault X) → IsOfWrite fault → (x : Y) (from to : Writing) → IsUnserialised T x from fault to → StopsIn T x from fault to
stops_in T (Length mismatch) is x from to h = absurd is
stops_in T LengthOverflow is x from to h = absurd is
stops_in T PositionOverflow is x from to h = h
stops_in T OffsetOverflow is x from to h = h
stops_in T (Writer error) is x from to h = h
stops_in T (Memory error) is x from to h = absurd is
stops_in T (Entry fault) is x from to h = absurd is
stops_in T (OutOfOrder index) is x from to h = absurd is

unresolved_size : (cause : ResolveFault) (size : ℕ) → length (unresolved_write cause size).bytes ≡ size
unresolved_size resolving.LengthOverflow size = length-zeros size
unresolved_size resolving.OffsetOverflow size = length-zeros size

-- a node that a fault of a write stops, where it is told whether its entries are resolved, and how long it is then
module _ {X M N R S : Type 0} (s : NodeLayout) (K : Archival M R) (V : Archival N S) (fault : Fault X) (is : IsOfWrite fault) (image : ℕ → List OwnBytes → List Write) (node : ℕ → List OwnBytes → Write) (size : ℕ) (image_is : (at : ℕ) (owns : List OwnBytes) → image at owns ≡ padding (align s) at ++ node at owns ∷ []) (xs : List (M × N)) (long : (from : Writing) (root : ℕ) (owns : List OwnBytes) (mid : Writing) (at : ℕ) → AreInNode s K V from xs root owns mid → length (node at owns).bytes ≡ size)
    (decided : (root : ℕ) (keys : List R) (values : List S) → length keys ≡ length xs → length values ≡ length xs → ((owns : List OwnBytes) × EntriesResolved s K V root xs keys values owns) ⊎ ((cause : ResolveFault) × EntriesUnresolved s K V root xs keys values cause)) where
  abbrev Begins : Writing → Writing → Type 0
  Begins from to = (writes : List Write) × NodeBegins s K V image size (position from) xs writes × Stopped from writes fault to

  -- in the node's own writes
  resolved_begins : (from : Writing) (root : ℕ) (owns : List OwnBytes) (mid to : Writing) → AreInNode s K V from xs root owns mid → Stopped mid (image (position mid) owns) fault to → Begins from to
  resolved_begins from root owns mid to there stopped =
      let before = in_node_imaged s K V image from xs root owns mid there in
      (before.0 ++ image (position mid) owns, of_node root before.1, stopped-behind from before.0 mid (image (position mid) owns) fault to before.2 stopped)

  -- in the padding, or at a write that stands for the node's
  unresolved_begins : (from : Writing) (keys : List R) (values : List S) (mid to : Writing) (cause : ResolveFault) → AreSerialised K V from xs keys values mid → EntriesUnresolved s K V (round_up (position mid) (align s)) xs keys values cause → Stopped mid (padding (align s) (position mid) ++ unresolved_write cause size ∷ []) fault to → Begins from to
  unresolved_begins from keys values mid to cause serialised unresolved stopped =
      let before = entries_imaged K V from xs keys values mid serialised in
      let here = wrote-end from before.0 mid before.2 in
      let tail = padding (align s) (position mid) ++ unresolved_write cause size ∷ [] in (
        before.0 ++ tail,
        of_unresolved keys values before.0 cause before.1 (subst (λ (n : ℕ). EntriesUnresolved s K V (round_up n (align s)) xs keys values cause) here unresolved) (ap (λ (n : ℕ). before.0 ++ (padding (align s) n ++ unresolved_write cause size ∷ [])) here),
        stopped-behind from before.0 mid tail fault to before.2 stopped,
      )

  -- before it can be said which
  open_begins : (from : Writing) (keys : List R) (values : List S) (mid to : Writing) → AreSerialised K V from xs keys values mid → ((next : Write) → length next.bytes ≡ size → Stopped mid (padding (align s) (position mid) ++ next ∷ []) fault to) → Begins from to
  open_begins from keys values mid to serialised stopped = go (decided (round_up (position mid) (align s)) keys values many.0 many.1)
    where
      many : (length keys ≡ length xs) × (length values ≡ length xs)
      many = serialised_lengths K V from xs keys values mid serialised

      go : ((owns : List OwnBytes) × EntriesResolved s K V (round_up (position mid) (align s)) xs keys values owns) ⊎ ((cause : ResolveFault) × EntriesUnresolved s K V (round_up (position mid) (align s)) xs keys values cause) → Begins from to
      go (inl h) =
          let root = round_up (position mid) (align s) in
          let there : AreInNode s K V from xs root h.0 mid = record { keys = keys; values = values; serialised = serialised; place = refl; resolved = h.1 } in
          resolved_begins from root h.0 mid to there
          (subst (λ (writes : List Write). Stopped mid writes fault to) (sym (image_is (position mid) h.0)) (stopped (node (position mid) h.0) (long from root h.0 mid (position mid) there)))
      go (inr h) = unresolved_begins from keys values mid to h.0 serialised h.1 (stopped (unresolved_write h.0 size) (unresolved_size h.0 size))

  -- own bytes that can't be told are no fault of a write but where a pointer doesn't reach
  stray : (cause : ResolveFault) (to : Writing) → fault ≡ as_fault cause → Stopped to (unresolved_write cause size ∷ []) fault to
  stray resolving.LengthOverflow to e = absurd (subst (λ (f : Fault X). IsOfWrite f) e is)
  stray resolving.OffsetOverflow to e = subst (λ (f : Fault X). Stopped to (unresolved_write resolving.OffsetOverflow size ∷ []) f to) (sym e) (stopped-one {E = X} to (unresolved_write resolving.OffsetOverflow size) OffsetOverflow to (refl, refl))

  node_begins : (from to : Writing) → NodeStopped s K V image size from xs fault to → Begins from to
  node_begins from to (in_entries h) =
      let one = entries_up_to s K V fault (λ a ws b. Stopped a ws fault b) (λ a first mid rest b. stopped-behind a first mid rest fault b) K.Begins V.Begins (stops_in K fault is) (stops_in V fault is) from xs to h in
      (one.0, of_entries one.1, one.2)
  node_begins from to (in_padding keys values mid h stopped) = open_begins from keys values mid to h (λ next sized. stopped-front mid (padding (align s) (position mid)) (next ∷ []) fault to stopped)
  node_begins from to (past_end keys values padded e past) =
      let mid = padded.mid in
      let pad = padding (align s) (position mid) in
      open_begins from keys values mid to padded.serialised
      (λ next sized. subst (λ (f : Fault X). Stopped mid (pad ++ next ∷ []) f to) (sym e) (stopped-behind {E = X} mid pad to (next ∷ []) PositionOverflow to padded.padded (stopped-one {E = X} to next PositionOverflow to (refl, omega (arith, past, sized)))))
  node_begins from to (in_own_bytes keys values padded cause e unresolved) =
      let mid = padded.mid in
      let there = subst (λ (n : ℕ). EntriesUnresolved s K V n xs keys values cause) padded.place unresolved in
      unresolved_begins from keys values mid to cause padded.serialised there (stopped-behind mid (padding (align s) (position mid)) to (unresolved_write cause size ∷ []) fault to padded.padded (stray cause to e))
  node_begins from to (in_node root owns mid there stopped) = resolved_begins from root owns mid to there stopped

module _ {M N R S : Type 0} (K V : Kind) (E : ℕ) (k : IsLawful K) (v : IsLawful V) (fits : IsTrue (are_fitting K V E)) (KA : Archival M R) (VA : Archival N S) (key : Matches KA.kind K) (value : Matches VA.kind V) (ka : IsArchived KA) (va : IsArchived VA) (kc : HasCauses KA) (vc : HasCauses VA) where
  -- a child that a fault of a write stops: what it begins to write, of which some writes were made, and the next was refused
  pub child_stops : {X : Type 0} (fault : Fault X) → IsOfWrite fault → (from : Writing) (c : Child (M × N)) (to : Writing) → ChildHasShape E c → ChildStopped (layout_of K V E) KA VA from c fault to →
      (writes : List Write) × ChildBegins (layout_of K V E) KA VA (position from) c writes × Stopped from writes fault to
  child_stops fault is from c to shape h =
      let s = layout_of K V E in
      child_up_to s KA VA fault (λ a ws b. Stopped a ws fault b) (λ a first mid rest b. stopped-behind a first mid rest fault b) (NodeBegins s KA VA)
      (λ start xs end few.
      node_begins s KA VA fault is (leaf_image s) (λ at owns. record { bytes = leaf_bytes s owns; reaches = true }) (leaf_size s) (λ at owns. refl) xs
      (λ begin root owns mid at there. leaf_sized K V E k v fits KA VA key value ka va begin xs root owns mid there few)
      (λ root keys values. entries_decided s KA VA kc vc root xs keys values) start end)
      (λ roots start xs end full whole.
      node_begins s KA VA fault is (λ at owns. inner_image s at owns roots) (λ at owns. inner_write s (round_up at (align s)) owns roots) (inner_size s) (λ at owns. refl) xs
      (λ begin root owns mid at there. inner_sized K V E k v fits KA VA key value ka va begin xs root owns mid there (round_up at (align s)) roots full whole)
      (λ root keys values. entries_decided s KA VA kc vc root xs keys values) start end)
      from c to shape h

-- what a writer held stays in front, whatever is written
abbrev Kept : Writing → List Write → Writing → Type 0
Kept from writes to = BeginsWith to from

kept_behind : (from : Writing) (first : List Write) (mid : Writing) (rest : List Write) (to : Writing) → Wrote from first mid → Kept mid rest to → Kept from (first ++ rest) to
kept_behind from first mid rest to wrote kept = then_begins from mid to (wrote_begins from first mid wrote) kept

-- a child of which an entry refuses itself
module _ (X : Type 0) {M N R S : Type 0} (s : NodeLayout) (K : Archival M R) (V : Archival N S) (fault : EntryFault) where
  node_refuses : (image : ℕ → List OwnBytes → List Write) (size : ℕ) (from : Writing) (xs : List (M × N)) (to : Writing) → NodeStopped s K V {E = X} image size from xs (Entry fault) to → (writes : List Write) × EntriesRefuse K V fault (position from) xs writes × Kept from writes to
  node_refuses image size from xs to (in_entries h) =
      entries_up_to {X = X} s K V (Entry fault) Kept kept_behind (λ x at writes. K.Refuses x at fault × (writes ≡ [])) (λ x at writes. V.Refuses x at fault × (writes ≡ []))
      (λ x start end stopped. ([], (stopped.0, refl), stopped.1)) (λ x start end stopped. ([], (stopped.0, refl), stopped.1)) from xs to h
  node_refuses image size from xs to (in_padding keys values mid h stopped) = absurd stopped.refused
  node_refuses image size from xs to (past_end keys values padded e past) = absurd (cc e)
  node_refuses image size from xs to (in_own_bytes keys values padded cause e unresolved) = absurd (told cause e)
    where
      told : (cause : ResolveFault) → Entry fault ≡ as_fault {E = X} cause → ⊥
      told resolving.LengthOverflow e = absurd (cc e)
      told resolving.OffsetOverflow e = absurd (cc e)
  node_refuses image size from xs to (in_node root owns mid there stopped) = absurd stopped.refused

  pub child_refuses : (from : Writing) (c : Child (M × N)) (to : Writing) → ChildHasShape s.E c → ChildStopped s K V {E = X} from c (Entry fault) to → ChildRefuses s K V (position from) c fault × BeginsWith to from
  child_refuses from c to shape h =
      let one = child_up_to {X = X} s K V (Entry fault) Kept kept_behind (λ image size at xs writes. EntriesRefuse K V fault at xs writes)
      (λ start xs end few. node_refuses (leaf_image s) (leaf_size s) start xs end)
      (λ roots start xs end full whole. node_refuses (λ at owns. inner_image s at owns roots) (inner_size s) start xs end) from c to shape h in
      ((one.0, one.1), one.2)
