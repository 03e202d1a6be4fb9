-- The pointers and the length of a node, and where it stands after its padding.
use Rattle.std.proofs.Common.{◌≡◌, ℕ, ◌+◌, ◌*◌, ◌<◌, Bool, true, ◌&&◌, IsTrue, List, [], ◌∷◌, ◌++◌, length, refl, subst, arith, Option, Some, None}
use Rattle.std.proofs.lemmas.Bool.Decides.{nat_tests}
use Rattle.std.proofs.lemmas.List.{length-append}
use Rattle.rkyv_btree_portable.specs.Bytes.{Holds}
use Rattle.rkyv_btree_writer.specs.Padding.{padding}
use Rattle.rkyv_btree_writing_laws.specs.Image.{pointers, pointers_reach, inner_bytes, entry_bytes, child_end, row_roots}
use Rattle.rkyv_btree_portable.specs.InPlace.{OwnBytes, AreOwn}
use Rattle.rkyv_btree_portable.specs.Kind.{Kind, IsLawful}
use Rattle.rkyv_btree_format.specs.Layout.{NodeLayout, layout_of, are_fitting, align, len_at, inner_size}
use Rattle.rkyv_btree_writer.specs.Pointers.{FitsOffset, pointer, no_pointer, offset_fits}
use Rattle.rkyv_btree_portable.specs.Rounding.{round_up}
use Rattle.rkyv_btree_portable.specs.laws.Rounding.{alignment_positive}
use Rattle.rkyv_btree_shape.specs.Tree.{Row, last, step, row_entries}
use Rattle.rkyv_btree_writer.specs.Writing.{Write, appended}
use Rattle.rkyv_btree_format.proofs.Sizes.{room_of}
use Rattle.rkyv_btree_format.proofs.Aligned.{alignment}
use Rattle.rkyv_btree_writer.proofs.WriteRuns.{appended-append}
use Rattle.rkyv_btree_portable.specs.laws.Holding.{Holds-front, Holds-back, Holds-at, tail_length}
use Rattle.rkyv_btree_writing_laws.proofs.Leaves.{length-padding, entries_end}

-- the first of some pointers, and the rest
pub offset_reaches : (at root : ℕ) (more : Bool) → (offset_fits at root && more) ≡ true → FitsOffset at root × (more ≡ true)
offset_reaches at root more h = ((grind (arith, nat_tests), grind (arith, nat_tests)), grind (arith, nat_tests))

pub pointers_rest : (b : List ℕ) (at : ℕ) (root : Option ℕ) (roots : List (Option ℕ)) → Holds b at (pointers at (root ∷ roots)) → Holds b (at + 4) (pointers (at + 4) roots)
pointers_rest b at None roots h = Holds-back b at no_pointer (pointers (at + 4) roots) h
pointers_rest b at (Some root) roots h = Holds-back b at (pointer at root) (pointers (at + 4) roots) h

pub reach_rest : (at : ℕ) (root : Option ℕ) (roots : List (Option ℕ)) → pointers_reach at (root ∷ roots) ≡ true → pointers_reach (at + 4) roots ≡ true
reach_rest at None roots h = h
reach_rest at (Some root) roots h = (offset_reaches at root (pointers_reach (at + 4) roots) h).1

pub length-pointers : (at : ℕ) (roots : List (Option ℕ)) → length (pointers at roots) ≡ 4 * length roots
length-pointers at [] = refl
length-pointers at (None ∷ roots) = omega (arith, length-pointers (at + 4) roots, length-append no_pointer (pointers (at + 4) roots))
length-pointers at (Some root ∷ roots) = omega (arith, length-pointers (at + 4) roots, length-append (pointer at root) (pointers (at + 4) roots))

pub length-roots : (s : NodeLayout) (at : ℕ) (row : Row OwnBytes) → length (row_roots s at row) ≡ length (row_entries row) + 1
length-roots s at (last c) = refl
length-roots s at (step c x row) = omega (arith, length-roots s (child_end s at c) row)

module _ (K V : Kind) (E : ℕ) (k : IsLawful K) (v : IsLawful V) (fits : IsTrue (are_fitting K V E)) where
  positive : 0 < align (layout_of K V E)
  positive = alignment_positive (alignment K V E k v)

  pub inner_length : (at : ℕ) (xs : List OwnBytes) (roots : List (Option ℕ)) → AreOwn K V xs → length xs ≡ E → length roots ≡ E + 1 → length (inner_bytes (layout_of K V E) at xs roots) ≡ inner_size (layout_of K V E)
  inner_length at xs roots own full whole =
      let s = layout_of K V E in
      let room = (room_of K V E k v fits).parts.pointers in
      tail_length (entry_bytes s 1 xs) (pointers (at + len_at s) roots) (len_at s) (inner_size s) (entries_end K V E k v fits 1 xs own (omega arith)) (omega (arith, length-pointers (at + len_at s) roots))

  -- a node after its padding
  pub node_there : (b : List ℕ) (w : ℕ) (node : Write) → Holds b w (appended (padding (align (layout_of K V E)) w ++ node ∷ [])) → Holds b (round_up w (align (layout_of K V E))) node.bytes
  node_there b w node held =
      let pad = padding (align (layout_of K V E)) w in
      let both : Holds b w (appended pad ++ (node.bytes ++ [])) = subst (Holds b w) (appended-append pad (node ∷ [])) held in
      Holds-at b (w + length (appended pad)) (round_up w (align (layout_of K V E))) node.bytes (omega (arith, length-padding (align (layout_of K V E)) w positive)) (Holds-front b (w + length (appended pad)) node.bytes [] (Holds-back b w (appended pad) (node.bytes ++ []) both))
