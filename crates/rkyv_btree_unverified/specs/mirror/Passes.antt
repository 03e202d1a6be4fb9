-- What a lookup asks of the nodes that it meets, and what is known where it goes on. This mirrors the code.
use Rattle.std.specs.Prelude.{◌≡◌, ℕ, zero, suc, ◌+◌, ◌≤◌, ◌<◌, ◌%◌, List, Option, Some, None, Result, Ok, Err, false, min, slice_index}
use Rattle.std.specs.declared.cmp.Ordering.{Ordering}
use Rattle.std.specs.declared.cmp.Ordering.TheVariants.{Equal}
use Rattle.rkyv_btree_portable.specs.Kind.{Kind}
use Rattle.rkyv_btree_format.specs.Layout.{NodeLayout, layout_of, leaf_size, inner_size, align}
use Rattle.rkyv_btree_portable.specs.declared.refusal.Refusal.{Refusal}
use Rattle.rkyv_btree_unverified.specs.Lookups.{TreeGives}
use Rattle.rkyv_btree_unverified.specs.Steps.{HasRoom}
use Rattle.rkyv_btree_walk.specs.Nodes.{is_leaf, entry_count, child_place}
use Rattle.rkyv_btree_walk.specs.mirror.Node.{EntryStands, TreeStands, RunStands}
use Rattle.rkyv_btree_walk.specs.mirror.Search.{searched}
use Rattle.rkyv_btree_unverified.specs.declared.search.Halt.{Halt}
use Rattle.rkyv_btree_unverified.specs.declared.search.Next.{Next}
use Rattle.rkyv_btree_unverified.specs.declared.search.Next.TheVariants.{Hit, Miss, Down}
use Rattle.rkyv_btree_unverified.specs.declared.search.Halt.TheVariants.{Found, Below}

module _ (s : NodeLayout) (b : List ℕ) where
  -- the node at p passes the checks of a node in front of hi
  pub record NodePasses (hi p : ℕ) : Type 0 where
    pub leaf_room : p + leaf_size s ≤ hi
    pub aligned : p % align s ≡ 0
    pub kind : is_leaf s b p ≡ false → slice_index b p ≡ 1
    pub inner_room : is_leaf s b p ≡ false → p + inner_size s ≤ hi
    pub count : entry_count s b p ≤ s.E

  -- so do all nodes of the tree at p, of at most so many levels
  unfoldable pub TreePasses : ℕ → ℕ → ℕ → Type 0
  TreePasses zero hi p = ⊥
  TreePasses (suc levels) hi p = NodePasses hi p × ((i q : ℕ) → i ≤ s.E → child_place s b p i ≡ Some q → TreePasses levels p q)

-- the tree at p passes all checks, and its entries stand
pub record Passes (K V : Kind) (E : ℕ) (b : List ℕ) (levels hi p : ℕ) : Type 0 where
  pub stands : TreeStands K V E b levels p
  pub passes : TreePasses (layout_of K V E) b levels hi p

-- what is known of where a search stops, among `count` entries of the node at p
abbrev pub HaltStands : (K V : Kind) → ℕ → List ℕ → ℕ → ℕ → Halt → Type 0
HaltStands K V E b p count (Found i) = EntryStands K V E b (p, i) × (i < count)
HaltStands K V E b p count (Below i) = i ≤ count

-- how many of the entries were asked by then
abbrev pub comparisons_by : ℕ → Halt → ℕ
comparisons_by count (Found i) = i + 1
comparisons_by count (Below i) = min (i + 1) count

-- what is known of where a search goes on after the node at p
abbrev pub NextStands : (K V : Kind) → ℕ → List ℕ → ℕ → Next → Type 0
NextStands K V E b p (Hit i) = RunStands K V E b p i (i + 1)
NextStands K V E b p Miss = Unit {0}
NextStands K V E b p (Down q) = HasRoom K V E p q

-- what the search of the node's tree returns, in front of hi and with m levels below the node
abbrev pub NextGives : (K V : Kind) (E : ℕ) → List ℕ → (K.Value → Ordering) → (KRefuses VRefuses : List ℕ → ℕ → ℕ → ℕ → Refusal → Type 0)
    → ℕ → ℕ → ℕ → Result Next Refusal → Type 0
NextGives K V E b comparison KR VR m hi p (Err e) = TreeGives K V E b comparison KR VR (suc m) hi p (Err e)
NextGives K V E b comparison KR VR m hi p (Ok (Hit i)) = TreeGives K V E b comparison KR VR (suc m) hi p (Ok (Some (p, i)))
NextGives K V E b comparison KR VR m hi p (Ok Miss) = TreeGives K V E b comparison KR VR (suc m) hi p (Ok None)
NextGives K V E b comparison KR VR m hi p (Ok (Down q)) =
    (r : Result (Option (ℕ × ℕ)) Refusal) → TreeGives K V E b comparison KR VR m p q r → TreeGives K V E b comparison KR VR (suc m) hi p r

-- where the node's tree passes, with m levels below the node, so does the tree in which the search goes on
abbrev pub NextPasses : (K V : Kind) → ℕ → List ℕ → ℕ → ℕ → Next → Type 0
NextPasses K V E b m p (Hit i) = Unit {0}
NextPasses K V E b m p Miss = Unit {0}
NextPasses K V E b m p (Down q) = Passes K V E b m p q

-- and this is what the search of the node's tree finds
abbrev pub NextFinds : (s : NodeLayout) → List ℕ → (ℕ × ℕ → Ordering) → ℕ → ℕ → Option (ℕ × ℕ) → Next → Type 0
NextFinds s b comparison m p found (Hit i) = found ≡ Some (p, i)
NextFinds s b comparison m p found Miss = found ≡ None
NextFinds s b comparison m p found (Down q) = found ≡ (searched s b comparison m q).0

-- an entry that is found gives Equal
abbrev pub NextEqual : (ℕ × ℕ → Ordering) → ℕ → Next → Type 0
NextEqual comparison p (Hit i) = comparison (p, i) ≡ Equal
NextEqual comparison p Miss = Unit {0}
NextEqual comparison p (Down q) = Unit {0}

-- where the node's tree passes, these are all that its search asks, or the tree in which it goes on asks the rest
abbrev pub NextCounts : (s : NodeLayout) → List ℕ → (ℕ × ℕ → Ordering) → ℕ → ℕ → ℕ → ℕ → Next → Type 0
NextCounts s b comparison m before after all (Hit i) = after ≡ before + all
NextCounts s b comparison m before after all Miss = after ≡ before + all
NextCounts s b comparison m before after all (Down q) = after + (searched s b comparison m q).1 ≡ before + all
