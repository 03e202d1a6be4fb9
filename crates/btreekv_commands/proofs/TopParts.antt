-- The parts of an archive that its first levels are: each node and key of these is among them, and all lie in the archive.
use Rattle.std.proofs.Common.{◌≡◌, ◌≢◌, nat_eq, ℕ, pos, subst, zero, suc, ◌+◌, ◌≤◌, ◌<◌, ◌⊎◌, inl, inr, List, [], ◌∷◌, ◌++◌, Contains, length, Option, Some, None, IsTrue, false, refl, sym, ap, ◌∙◌, arith, append_assoc}
use Rattle.std.proofs.lemmas.Bool.{cases_Bool, cases_lt, ne_eqb}
use Rattle.std.proofs.lemmas.List.{append-nil}
use Rattle.std.proofs.lemmas.List.Elements.{Contains-append_left, Contains-append_right, Contains-append_cases, Contains-push, Contains-push_cases}
use Rattle.std.specs.Int.RustNames.{unsigned_abs}
use Rattle.rkyv_btree_portable.specs.Bytes.{number_at, place_at}
use Rattle.rkyv_btree_portable.specs.Text.{text_kind}
use Rattle.rkyv_btree_portable.specs.Views.{stands}
use Rattle.rkyv_btree_portable.specs.declared.check.Window.{Window}
use Rattle.rkyv_btree_portable.specs.laws.TextLaws.{text_laws}
use Rattle.rkyv_btree_portable.specs.laws.Views.{means_read}
use Rattle.rkyv_btree_format.specs.Layout.{key_at}
use Rattle.rkyv_btree_format.specs.OwnBytes.{own_at}
use Rattle.rkyv_btree_format.specs.Spells.{Accepted}
use Rattle.rkyv_btree_walk.specs.Below.{root_place}
use Rattle.rkyv_btree_walk.specs.Nodes.{child_place, entry_count, is_leaf}
use Rattle.rkyv_btree_walk.proofs.Nodes.{spelled_stands}
use Rattle.btreekv_commands.specs.Lines.{Entry}
use Rattle.btreekv_commands.specs.Nodes.{node_part, part, text_layout, text_part}
use Rattle.btreekv_commands.specs.Opening.{IsArchive, texts}
use Rattle.btreekv_commands.specs.Top.{IsOnTop}
use Rattle.btreekv_commands.specs.mirror.Levels.{HasNode, HasTree, key_parts, of_child, of_children, top_parts, tree_parts}
use Rattle.btreekv_commands.proofs.Fits.{texts_fit}
use Rattle.btreekv_commands.proofs.NodeSizes.{has_node, has_child}

pub contains_head : (x : Window) (xs : List Window) → Contains (x ∷ xs) x
contains_head x xs = (0, omega arith, refl)

pub contains_tail : (y : Window) (xs : List Window) (x : Window) → Contains xs x → Contains (y ∷ xs) x
contains_tail y xs x h = Contains-append_right (y ∷ []) xs x h

pub contains_cases : (y : Window) (xs : List Window) (x : Window) → Contains (y ∷ xs) x → (y ≡ x) ⊎ Contains xs x
contains_cases y xs x (zero, few, is) = inl is
contains_cases y xs x (suc k, few, is) = inr (k, omega arith, is)

pub contains_none : (x : Window) → Contains [] x → ⊥
contains_none x h = let few = h.1 in omega arith

-- a part of the archive
pub record IsPart (b : List ℕ) (p : Window) : Type 0 where
  pub order : p.lo ≤ p.hi
  pub inside : p.hi ≤ length b

module _ (b : List ℕ) where
  -- of no level there is nothing
  pub no_levels : (levels p : ℕ) (xs : List Window) → levels ≡ 0 → xs ≡ xs ++ tree_parts b levels p
  unfolding tree_parts
  no_levels zero p xs e = sym (append-nil xs)
  no_levels (suc levels) p xs e = absurd (omega arith)

  -- a node, its keys and its children's parts are those of its tree
  pub tree_joined : (m levels p n : ℕ) (old one two three : List Window) → levels ≡ suc m → n ≡ 6 → one ≡ old ++ node_part b p ∷ [] → two ≡ one ++ key_parts b p (entry_count text_layout b p)
      → three ≡ two ++ of_children b (tree_parts b m) p n → three ≡ old ++ tree_parts b levels p
  unfolding tree_parts
  tree_joined m levels p n old one two three more six first second third =
      let keys = key_parts b p (entry_count text_layout b p) in
      let below = of_children b (tree_parts b m) p 6 in
      let last : three ≡ two ++ below = third ∙ ap (λ k. two ++ of_children b (tree_parts b m) p k) six in
      let both : two ≡ old ++ node_part b p ∷ keys = second ∙ (ap (λ z. z ++ keys) first ∙ append_assoc old (node_part b p ∷ []) keys) in
      let all : three ≡ old ++ tree_parts b (suc m) p = last ∙ (ap (λ z. z ++ below) both ∙ append_assoc old (node_part b p ∷ keys) below) in
      all ∙ ap (λ k. old ++ tree_parts b k p) (sym more)

  key_among : (p n i : ℕ) → i < n → Contains (key_parts b p n) (text_part b (p + key_at text_layout i))
  key_among p zero i few = absurd (omega arith)
  key_among p (suc n) i few =
      let last = text_part b (p + key_at text_layout n) in
      elim (cases_lt i n) [
        | inl before ↦ Contains-append_left (key_parts b p n) (last ∷ []) _ (key_among p n i before)
        | inr here ↦ let same : i ≡ n = omega arith in rw same (Contains-push (key_parts b p n) last)
      ]

  child_among : (f : ℕ → List Window) (p n i c : ℕ) (x : Window) → i < n → child_place text_layout b p i ≡ Some c → Contains (f c) x → Contains (of_children b f p n) x
  child_among f p zero i c x few to h = absurd (omega arith)
  child_among f p (suc n) i c x few to h =
      elim (cases_lt i n) [
        | inl before ↦ Contains-append_left (of_children b f p n) _ x (child_among f p n i c x before to h)
        | inr here ↦
            let same : i ≡ n = omega arith in
            Contains-append_right (of_children b f p n) (of_child b f (child_place text_layout b p n)) x (rw (← same, to) h)
      ]

  -- the parts of a node on the first levels are among those of the tree
  pub node_among : (levels p q : ℕ) (x : Window) → IsOnTop b levels p q → Contains (node_part b q ∷ key_parts b q (entry_count text_layout b q)) x → Contains (tree_parts b levels p) x
  unfolding tree_parts
  node_among zero p q x on h = absurd on
  node_among (suc levels) p q x (inl here) h =
      Contains-append_left (node_part b p ∷ key_parts b p (entry_count text_layout b p)) _ x (subst (λ z. Contains (node_part b z ∷ key_parts b z (entry_count text_layout b z)) x) here h)
  node_among (suc levels) p q x (inr on) h =
      Contains-append_right (node_part b p ∷ key_parts b p (entry_count text_layout b p)) _ x
      (child_among (tree_parts b levels) p 6 on.0 on.1 x (let few = on.2 in omega arith) on.3 (node_among levels on.1 q x on.4 h))

  pub key_of : (q i : ℕ) → i < entry_count text_layout b q → Contains (node_part b q ∷ key_parts b q (entry_count text_layout b q)) (text_part b (q + key_at text_layout i))
  key_of q i few = contains_tail _ _ _ (key_among q (entry_count text_layout b q) i few)

  -- the bytes of a text are before it
  text_inside : (at : ℕ) → IsTrue (stands text_kind b at) → IsPart b (text_part b at)
  text_inside at h =
      let m = (means_read text_laws b at h).means in
      let start : unsigned_abs (place_at b at) ≡ m.start = ap unsigned_abs m.range.leads in
      let ends = m.range.ends in
      let kept = m.lies.kept in
      let inside = m.lies.inside in
      record { order = omega arith; inside = omega (arith, start) }

  keys_inside : (p n : ℕ) (x : Window) → HasNode b p → n ≤ entry_count text_layout b p → Contains (key_parts b p n) x → IsPart b x
  keys_inside p zero x node few h = absurd (contains_none x h)
  keys_inside p (suc n) x node few h =
      elim (Contains-push_cases (key_parts b p n) (text_part b (p + key_at text_layout n)) x h) [
        | inl before ↦ keys_inside p n x node (omega arith) before
        | inr here ↦ rw (← here) (text_inside (p + key_at text_layout n) (node.entries n (omega arith)).key)
      ]

  node_inside : (p : ℕ) → HasNode b p → IsPart b (node_part b p)
  node_inside p node =
      elim (cases_Bool (is_leaf text_layout b p)) [
        | inl leaf ↦ rw leaf (record { order = omega arith; inside = node.leaf_inside })
        | inr inner ↦ rw inner (record { order = omega arith; inside = node.inner_inside inner })
      ]

  below_inside : (f : ℕ → List Window) (p n : ℕ) (x : Window) → HasTree b p → n ≤ 6 → ((c : ℕ) → HasTree b c → Contains (f c) x → IsPart b x) → Contains (of_children b f p n) x → IsPart b x
  below_inside f p zero x tree few each h = absurd (contains_none x h)
  below_inside f p (suc n) x tree few each h =
      elim (Contains-append_cases (of_children b f p n) (of_child b f (child_place text_layout b p n)) x h) [
        | inl before ↦ below_inside f p n x tree (omega arith) each before
        | inr here ↦ of_one (child_place text_layout b p n) refl here
      ]
    where
      of_one : (o : Option ℕ) → child_place text_layout b p n ≡ o → Contains (of_child b f o) x → IsPart b x
      of_one None e h = absurd (contains_none x h)
      of_one (Some c) e h = each c (has_child b p n c tree (omega arith) e) h

  -- all parts of a tree lie in the archive
  tree_inside : (levels p : ℕ) (x : Window) → HasTree b p → Contains (tree_parts b levels p) x → IsPart b x
  unfolding tree_parts
  tree_inside zero p x tree h = absurd (contains_none x h)
  tree_inside (suc levels) p x tree h =
      let keys = key_parts b p (entry_count text_layout b p) in
      let node = has_node b p tree in
      elim (contains_cases (node_part b p) (keys ++ of_children b (tree_parts b levels) p 6) x h) [
        | inl here ↦ rw (← here) (node_inside p node)
        | inr after ↦ elim (Contains-append_cases keys (of_children b (tree_parts b levels) p 6) x after) [
          | inl key ↦ keys_inside p (entry_count text_layout b p) x node (omega arith) key
          | inr below ↦ below_inside (tree_parts b levels) p 6 x tree (omega arith) (λ c t. tree_inside levels c x t) below
        ]
      ]

  -- the root is where the pointer of the map leads
  pub root_leads : (start root : ℕ) → number_at b (own_at texts b + 4) 4 ≢ 0 → place_at b (own_at texts b) ≡ pos start → root_place b (own_at texts b) ≡ Some root → start ≡ root
  root_leads start root some leads to =
      let is_some : nat_eq (number_at b (own_at texts b + 4) 4) 0 ≡ false = ne_eqb (number_at b (own_at texts b + 4) 4) 0 some in
      cc (rw (is_some, leads) at to)

  -- the tree of an archive can be read
  pub archive_tree : (m : List Entry) (root : ℕ) → IsArchive b m → root_place b (own_at texts b) ≡ Some root → HasTree b root
  archive_tree m root is to =
      let at = own_at texts b in
      let a : Accepted text_kind text_kind 5 b 0 at at is.left m = is.means in
      elim a.root [
        | inl none ↦ absurd (cc (rw none.0 at to))
        | inr some ↦
            let r = some.1 in
            let same : r.start ≡ root = root_leads r.start root some.0 r.leads to in
            rw (← same) (32, spelled_stands text_kind text_kind 5 b text_laws text_laws texts_fit r.tree 32 0 at r.start r.spelled r.levels (let room = a.room in omega arith))
      ]

  pub top_inside : (m : List Entry) (levels : ℕ) (x : Window) → IsArchive b m → Contains (top_parts b levels) x → IsPart b x
  top_inside m levels x is h =
      let at = own_at texts b in
      let room = is.room in
      elim (contains_cases (part at (at + 8)) (of_child b (tree_parts b levels) (root_place b at)) x h) [
        | inl here ↦ rw (← here) (record { order = omega arith; inside = omega arith })
        | inr tree ↦ of_root (root_place b at) refl tree
      ]
    where
      of_root : (o : Option ℕ) → root_place b (own_at texts b) ≡ o → Contains (of_child b (tree_parts b levels) o) x → IsPart b x
      of_root None e h = absurd (contains_none x h)
      of_root (Some root) e h = tree_inside levels root x (archive_tree m root is e) h
