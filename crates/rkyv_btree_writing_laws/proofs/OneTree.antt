-- What was built is the one left-complete tree.
use Rattle.std.proofs.Common.{◌≡◌, ℕ, ◌<◌, ◌≤◌, List, [], ◌∷◌, length, map, Option, Result, Ok, Err, IfOk, unwrap_or, sym, ap, ◌∙◌, subst, arith}
use Rattle.std.specs.Iterator.{Drains}
use Rattle.std.specs.Map.Iter.{TakesFirst, deref}
use Rattle.std.proofs.lemmas.List.{length-map}
use Rattle.rkyv_btree_portable.specs.Kind.{Kind}
use Rattle.rkyv_btree_portable.specs.Scalars.{unit_kind}
use Rattle.rkyv_btree_format.specs.Layout.{NodeLayout, layout_of}
use Rattle.rkyv_btree_shape.specs.Plan.{plan}
use Rattle.rkyv_btree_shape.specs.Tree.{child}
use Rattle.rkyv_btree_shape.proofs.Smallest.{plan_is_left_complete, one_left_complete}
use Rattle.rkyv_btree_writer.specs.Archiving.{Archival}
use Rattle.rkyv_btree_writer.specs.Writing.{Writing, position}
use Rattle.rkyv_btree_writer.specs.declared.fault.Fault.{Fault}
use Rattle.rkyv_btree_writing_laws.specs.Imaged.{TreeImage}
use Rattle.rkyv_btree_writing_laws.specs.OneTree.{IsOneTree, OneTreeWritten, BuildsOneTree, BuildsOneTreeSet}
use Rattle.rkyv_btree_writing_laws.specs.Serialising.{Built, BuildsTree}
use Rattle.rkyv_btree_writing_laws.specs.Sets.{unit_archival, unit_entries, BuildsSet}
use Rattle.rkyv_btree_format.specs.Units.{with_units}
use Rattle.rkyv_btree_writing_laws.proofs.TreeSerialised.{keys_shown}
use Rattle.rkyv_btree_writing_laws.proofs.TreesImaged.{child_imaged}
use Rattle.rkyv_btree_writing_laws.specs.Entries.{now_of_key}

one_tree : {X : Type 0} (E : ℕ) (xs : List X) → 1 ≤ E → 0 < length xs → IsOneTree E xs (plan E xs)
one_tree {X} E xs e some = let p = plan_is_left_complete X E e xs some in record { complete = p.0; holds = p.1; only = λ other complete holds. one_left_complete X E e other complete ∙ ap (plan E) holds }

one_tree_written : {M N R S : Type 0} (s : NodeLayout) (K : Archival M R) (V : Archival N S) (from : Writing) (xs : List (M × N)) (root : ℕ) (to : Writing) → 1 ≤ s.E → 0 < length xs → Built s K V from xs root to → OneTreeWritten s K V from xs root to
one_tree_written s K V from [] root to e some b = absurd (omega arith)
one_tree_written {M} {N} s K V from (x ∷ xs) root to e some b =
    let written = child_imaged s K V from (child (plan s.E (x ∷ xs))) b.place to b.written in
    let here : written.1.0 ≡ root = sym (b.root_is ∙ ap (λ (o : Option ℕ). unwrap_or o 0) written.1.2) in
    record {
      tree = plan s.E (x ∷ xs);
      one = one_tree s.E (x ∷ xs) e some;
      image = written.0;
      is_image = subst (TreeImage s K V (position from) (plan s.E (x ∷ xs)) written.0) here written.1.1;
      wrote = written.2;
    }

-- so is that of the items of an iterator
pub builds_one_tree : {I M N R S P Q : Type 0} (K V : Kind) (E : ℕ) (KA : Archival M R) (VA : Archival N S) (borrowed : I → M × N) (steps : P → Option I → P → Type 0) (iter : P) (claim : ℕ) (state : Q → Writing) (before after : Q) (root : ℕ) → 1 ≤ E → BuildsTree K V E KA VA borrowed steps iter claim state before after root → BuildsOneTree K V E KA VA borrowed steps iter claim state before after root
builds_one_tree K V E KA VA borrowed steps iter claim state before after root e built =
    (built, λ some. one_tree_written (layout_of K V E) KA VA (state before) (map borrowed built.items) root (state after) e (omega (arith, some, built.count, length-map built.items borrowed)) built.built)

-- and of a set's keys
pub builds_one_tree_set : {I M R P Q : Type 0} (K : Kind) (E : ℕ) (KA : Archival M R) (borrowed : I → M) (steps : P → Option I → P → Type 0) (iter : P) (claim : ℕ) (state : Q → Writing) (before after : Q) (root : ℕ) → 1 ≤ E → BuildsSet K E KA borrowed steps iter claim state before after root → BuildsOneTreeSet K E KA borrowed steps iter claim state before after root
builds_one_tree_set {M = M} K E KA borrowed steps iter claim state before after root e built =
    (built, λ some. one_tree_written (layout_of K unit_kind E) KA unit_archival (state before) (unit_entries borrowed built.keys) root (state after) e (omega (arith, some, built.count, length-map {B = M × Unit {0}} built.keys (λ k. (borrowed k, tt)))) built.built)

-- an iterator over a list gives no other items
pub list_one_tree : {I M N R S P Q F : Type 0} (A B : Kind) (E : ℕ) (K : Archival M R) (V : Archival N S) (entries : List (M × N)) (borrowed : I → M × N) (steps : P → Option I → P → Type 0) (iter : P) (claim : ℕ) (state : Q → Writing) (before after : Q) → ((items : List I) → Drains steps iter items → map borrowed items ≡ entries) → claim ≡ length entries →
    (result : Result ℕ (Fault F)) → IfOk result (BuildsOneTree A B E K V borrowed steps iter claim state before after) → IfOk result (λ root. 0 < length entries → OneTreeWritten (layout_of A B E) K V (state before) entries root (state after))
list_one_tree A B E K V entries borrowed steps iter claim state before after drains count (Err fault) h = tt
list_one_tree {M = M} {N = N} A B E K V entries borrowed steps iter claim state before after drains count (Ok root) h = λ some.
    subst (λ (xs : List (M × N)). OneTreeWritten (layout_of A B E) K V (state before) xs root (state after)) (drains h.0.items h.0.all) (h.1 (omega (arith, count, some)))

pub keys_one_tree : {M R Q F : Type 0} (A : Kind) (E : ℕ) (K : Archival M R) (keys : List M) (claim : ℕ) (state : Q → Writing) (before after : Q) → claim ≡ length keys →
    (result : Result ℕ (Fault F)) → IfOk result (BuildsOneTreeSet A E K now_of_key (TakesFirst deref) keys claim state before after) → IfOk result (λ root. 0 < length keys → OneTreeWritten (layout_of A unit_kind E) K unit_archival (state before) (with_units keys) root (state after))
keys_one_tree A E K keys claim state before after count (Err fault) h = tt
keys_one_tree {M = M} A E K keys claim state before after count (Ok root) h = λ some.
    subst (λ (xs : List (M × Unit {0})). OneTreeWritten (layout_of A unit_kind E) K unit_archival (state before) xs root (state after)) (keys_shown keys h.0.keys h.0.all) (h.1 (omega (arith, count, some)))
