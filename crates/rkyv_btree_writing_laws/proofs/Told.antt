-- Where a fault that no write tells stops a tree, there is an entry of the tree that tells it: one with a length past 32
-- bits, or one that asks for memory.
use Rattle.std.proofs.Common.{◌≡◌, ◌≢◌, ℕ, ◌+◌, ◌⊎◌, List, [], ◌∷◌, ◌++◌, map, inl, inr, refl, arith}
use Rattle.std.specs.List.{Any, Contains}
use Rattle.std.specs.declared.alloc.AllocError.{AllocError}
use Rattle.std.proofs.lemmas.List.Elements.{Contains-append_left, Contains-append_right, Contains-append_cases}
use Rattle.rkyv_btree_format.specs.Layout.{NodeLayout, key_at, value_at, leaf_size, inner_size}
use Rattle.rkyv_btree_portable.specs.InPlace.{OwnBytes}
use Rattle.rkyv_btree_shape.specs.Tree.{Tree, leaf, inner, Row, last, step, Child, absent, child, list, row_list, child_list, row_entries}
use Rattle.rkyv_btree_writer.specs.Archiving.{Archival, IsTooLong, IsUnresolved, IsUnserialised, BeginsWith}
use Rattle.rkyv_btree_writer.specs.Causes.{HasCauses}
use Rattle.rkyv_btree_writer.specs.Writing.{Writing, Write, Refused}
use Rattle.rkyv_btree_writer.specs.declared.fault.Fault.{Fault}
use Rattle.rkyv_btree_writer.specs.declared.fault.Fault.TheVariants.{LengthOverflow, PositionOverflow, Memory}
use Rattle.rkyv_btree_writer.specs.declared.fault.ResolveFault.{ResolveFault}
use Rattle.rkyv_btree_writer.specs.declared.fault.ResolveFault.TheVariants as resolving
use Rattle.rkyv_btree_writing_laws.specs.Entries.{AreUnserialised, AreUnresolved, EntriesUnresolved, as_fault}
use Rattle.rkyv_btree_writing_laws.specs.Image.{leaf_image, inner_image}
use Rattle.rkyv_btree_writing_laws.specs.Written.{NodeStopped, in_entries, in_padding, past_end, in_own_bytes, in_node, TreeStopped, RowStopped, ChildStopped}
use Rattle.rkyv_btree_writer.proofs.FieldRuns.{unfit_long}
use Rattle.rkyv_btree_writing_laws.proofs.TreesKept.{stops_begin}

-- what is told of a key or a value that isn't serialised or resolved for a fault, which no write tells
pub record IsTold {X M N R S : Type 0} (KA : Archival M R) (VA : Archival N S) (fault : Fault X) (Key : M → Type 0) (Value : N → Type 0) : Type 0 where
  pub key : (x : M) (s t : Writing) → IsUnserialised KA x s fault t → Key x
  pub value : (x : N) (s t : Writing) → IsUnserialised VA x s fault t → Value x
  pub own_key : (x : M) (r : R) (at : ℕ) (cause : ResolveFault) → fault ≡ as_fault cause → IsUnresolved KA x r at cause → Key x
  pub own_value : (x : N) (r : S) (at : ℕ) (cause : ResolveFault) → fault ≡ as_fault cause → IsUnresolved VA x r at cause → Value x
  pub write : (s : Writing) (next : Write) (t : Writing) → Refused fault s next t → ⊥
  pub position : fault ≢ PositionOverflow

-- where something holds of one of a list
at_one : {A : Type 0} (P : A → Type 0) (xs : List A) (x : A) → Contains xs x → P x → Any P xs
at_one P xs x there p = (there.0, x, there.1, there.2, p)

here : {A : Type 0} (P : A → Type 0) (x : A) (xs : List A) → P x → Any P (x ∷ xs)
here P x xs p = (0, x, omega arith, refl, p)

left : {A : Type 0} (P : A → Type 0) (xs ys : List A) → Any P xs → Any P (xs ++ ys)
left P xs ys h = at_one P (xs ++ ys) h.1 (Contains-append_left xs ys h.1 (h.0, h.2, h.3)) h.4

right : {A : Type 0} (P : A → Type 0) (xs ys : List A) → Any P ys → Any P (xs ++ ys)
right P xs ys h = at_one P (xs ++ ys) h.1 (Contains-append_right xs ys h.1 (h.0, h.2, h.3)) h.4

-- an entry of a node is one of its tree
in_row : {A : Type 0} (P : A → Type 0) (row : Row A) → Any P (row_entries row) → Any P (row_list row)
in_row P (last c) h = absurd (omega (arith, h.2))
in_row {A} P (step c y row) h = go (Contains-append_cases (y ∷ []) (row_entries row) h.1 (h.0, h.2, h.3)) (λ later. in_row P row (at_one P (row_entries row) h.1 later h.4))
  where
    go : Contains (y ∷ []) h.1 ⊎ Contains (row_entries row) h.1 → (Contains (row_entries row) h.1 → Any P (row_list row)) → Any P (child_list c ++ y ∷ row_list row)
    go (inl first) more = right P (child_list c) (y ∷ row_list row) (left P (y ∷ []) (row_list row) (at_one P (y ∷ []) h.1 first h.4))
    go (inr later) more = right P (child_list c) (y ∷ row_list row) (right P (y ∷ []) (row_list row) (more later))

unresolved_one : {A Y R : Type 0} (T : Archival Y R) (value : A → Y) (P : A → Type 0) (cause : ResolveFault) → ((x : A) (r : R) (at : ℕ) → IsUnresolved T (value x) r at cause → P x) → (at : ℕ) (xs : List A) (rs : List R) → AreUnresolved T at (map value xs) rs cause → Any P xs
unresolved_one T value P cause told at [] rs h = absurd h
unresolved_one T value P cause told at (x ∷ xs) rs (r, others, e, inl h) = here P x xs (told x r at h)
unresolved_one T value P cause told at (x ∷ xs) rs (r, others, e, inr h) = right P (x ∷ []) xs (unresolved_one T value P cause told (at + T.kind.size) xs others h.2)

module _ {X M N R S : Type 0} (s : NodeLayout) (KA : Archival M R) (VA : Archival N S) (fault : Fault X) (Key : M → Type 0) (Value : N → Type 0) (told : IsTold KA VA fault Key Value) where
  -- one of the two tells it
  abbrev Tells : M × N → Type 0
  Tells x = Key x.0 ⊎ Value x.1

  entries_told : (from : Writing) (xs : List (M × N)) (t : Writing) → AreUnserialised KA VA from xs fault t → Any Tells xs
  entries_told from [] t h = absurd h
  entries_told from (x ∷ xs) t (inl h) = here Tells x xs (inl (told.key x.0 from t h))
  entries_told from (x ∷ xs) t (inr (inl h)) = here Tells x xs (inr (told.value x.1 h.1 t h.3))
  entries_told from (x ∷ xs) t (inr (inr h)) = right Tells (x ∷ []) xs (entries_told h.3 xs t h.6)

  own_told : (root : ℕ) (xs : List (M × N)) (keys : List R) (values : List S) (cause : ResolveFault) → fault ≡ as_fault cause → EntriesUnresolved s KA VA root xs keys values cause → Any Tells xs
  own_told root xs keys values cause e (inl h) = unresolved_one KA (λ x. x.0) Tells cause (λ x r at u. inl (told.own_key x.0 r at cause e u)) (root + key_at s 0) xs keys h
  own_told root xs keys values cause e (inr h) = unresolved_one VA (λ x. x.1) Tells cause (λ x r at u. inr (told.own_value x.1 r at cause e u)) (root + value_at s 0) xs values h

  node_told : (image : ℕ → List OwnBytes → List Write) (size : ℕ) (from : Writing) (xs : List (M × N)) (t : Writing) → NodeStopped s KA VA image size from xs fault t → Any Tells xs
  node_told image size from xs t (in_entries h) = entries_told from xs t h
  node_told image size from xs t (in_padding keys values mid h stopped) = absurd (told.write stopped.mid stopped.next t stopped.refused)
  node_told image size from xs t (past_end keys values h e past) = absurd (told.position e)
  node_told image size from xs t (in_own_bytes keys values h cause e unresolved) = own_told _ xs keys values cause e unresolved
  node_told image size from xs t (in_node root owns mid h stopped) = absurd (told.write stopped.mid stopped.next t stopped.refused)

  mutual
    tree_told : (from : Writing) (tree : Tree (M × N)) (t : Writing) → TreeStopped s KA VA from tree fault t → Any Tells (list tree)
    tree_told from (leaf xs) t h = node_told (leaf_image s) (leaf_size s) from xs t h
    tree_told from (inner row) t (inl h) = row_told from row t h
    tree_told from (inner row) t (inr h) = in_row Tells row (node_told (λ (at : ℕ) (owns : List OwnBytes). inner_image s at owns h.0) (inner_size s) h.1 (row_entries row) t h.3)

    row_told : (from : Writing) (row : Row (M × N)) (t : Writing) → RowStopped s KA VA from row fault t → Any Tells (row_list row)
    row_told from (last c) t h = child_told from c t h
    row_told from (step c x row) t (inl h) = left Tells (child_list c) (x ∷ row_list row) (child_told from c t h)
    row_told from (step c x row) t (inr h) = right Tells (child_list c) (x ∷ row_list row) (right Tells (x ∷ []) (row_list row) (row_told h.1 row t h.3))

    pub child_told : (from : Writing) (c : Child (M × N)) (t : Writing) → ChildStopped s KA VA from c fault t → Any (λ x. Key x.0 ⊎ Value x.1) (child_list c)
    child_told from absent t h = absurd h
    child_told from (child tree) t h = tree_told from tree t h

-- no fault of resolving is one of memory
memory_apart : {X : Type 0} (error : AllocError) (cause : ResolveFault) → Memory error ≡ as_fault {E = X} cause → ⊥
memory_apart error resolving.LengthOverflow e = absurd (cc e)
memory_apart error resolving.OffsetOverflow e = absurd (cc e)

module _ (X : Type 0) {M N R S : Type 0} (s : NodeLayout) (KA : Archival M R) (VA : Archival N S) (from : Writing) (c : Child (M × N)) (t : Writing) where
  -- a length is past 32 bits
  pub long_entry : HasCauses KA → HasCauses VA → ChildStopped s KA VA {E = X} from c LengthOverflow t → Any (λ x. IsTooLong KA x.0 ⊎ IsTooLong VA x.1) (child_list c) × BeginsWith t from
  long_entry kc vc h =
      let fault : Fault X = LengthOverflow in (
        child_told s KA VA fault (λ x. IsTooLong KA x) (λ x. IsTooLong VA x)
            (record {
              key = λ x s t h. h.0;
              value = λ x s t h. h.0;
              own_key = λ x r at cause e u. long KA kc x r at cause e u;
              own_value = λ x r at cause e u. long VA vc x r at cause e u;
              write = λ s next t h. h;
              position = λ e. absurd (cc e);
            })
            from c t h,
        stops_begin s KA VA from c fault t h,
      )
    where
      long : {Y Q : Type 0} (T : Archival Y Q) → HasCauses T → (x : Y) (r : Q) (at : ℕ) (cause : ResolveFault) → LengthOverflow ≡ as_fault {E = X} cause → IsUnresolved T x r at cause → IsTooLong T x
      long T causes x r at resolving.LengthOverflow e u = causes.long x r at (unfit_long (T.fields x r at) u)
      long T causes x r at resolving.OffsetOverflow e u = absurd (cc e)

  -- memory is asked for
  pub growing_entry : (error : AllocError) → ChildStopped s KA VA {E = X} from c (Memory error) t → Any (λ x. KA.Grows x.0 ⊎ VA.Grows x.1) (child_list c) × BeginsWith t from
  growing_entry error h =
      let fault : Fault X = Memory error in (
        child_told s KA VA fault KA.Grows VA.Grows
            (record {
              key = λ x s t h. h.0;
              value = λ x s t h. h.0;
              own_key = λ x r at cause e u. absurd (memory_apart {X = X} error cause e);
              own_value = λ x r at cause e u. absurd (memory_apart {X = X} error cause e);
              write = λ s next t h. h;
              position = λ e. absurd (cc e);
            })
            from c t h,
        stops_begin s KA VA from c fault t h,
      )
