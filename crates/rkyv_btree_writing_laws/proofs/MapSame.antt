-- Where one kind's bytes mean what another's do, maps of the one mean the same lists as maps of the other.
use Rattle.std.specs.Prelude.{◌≡◌, ℕ, ◌+◌, List, [], ◌∷◌, length, map, Some, None, pos}
use Rattle.std.proofs.Common.{arith, ap, subst, sym, refl, inl, inr, ◌∙◌}
use Rattle.std.proofs.lemmas.List.{length-map}
use Rattle.rkyv_btree_portable.specs.Bytes.{number_at, target_at}
use Rattle.rkyv_btree_portable.specs.Kind.{Kind}
use Rattle.rkyv_btree_format.specs.Layout.{NodeLayout, layout_of, are_fitting, key_at, value_at, len_at, leaf_size, inner_size, pointer_at}
use Rattle.rkyv_btree_format.specs.Spells.{IsNodeAt, Entries, Spells, SpellsRow, SpellsChild, SpellsRoot, Accepted, root_size}
use Rattle.rkyv_btree_shape.proofs.Mapped.{list_mapped, height_mapped, entries_mapped}
use Rattle.rkyv_btree_shape.specs.Mapped.{mapped, mapped_row, mapped_child}
use Rattle.rkyv_btree_shape.specs.Tree.{Tree, leaf, inner, Row, last, step, Child, absent, child, row_entries}
use Rattle.rkyv_btree_verify.specs.Map.{map_kind}
use Rattle.rkyv_btree_writer.specs.Archiving.{Matches}

same_size : {X Y : Type 0} (f : X → Y) (s : NodeLayout) (t : Tree X) → root_size s (mapped f t) ≡ root_size s t
same_size f s (leaf m) = refl
same_size f s (inner row) = refl

module _ (K V A B : Kind) (E : ℕ) (k : Matches K A) (v : Matches V B) where
  abbrev to : K.Value × V.Value → A.Value × B.Value
  to e = (k.to e.0, v.to e.1)

  pub same_layout : layout_of K V E ≡ layout_of A B E
  same_layout = let a = k.size in let b = k.align in let c = v.size in let d = v.align in cc

  same_fitting : are_fitting K V E ≡ are_fitting A B E
  unfolding are_fitting
  same_fitting = let a = k.fits in let b = v.fits in let c = ap inner_size same_layout in cc

  module _ (b : List ℕ) where
    same_entries : (p i lo lo2 : ℕ) (m : List (K.Value × V.Value)) → Entries K V E b p i lo lo2 m → Entries A B E b p i lo lo2 (map to m)
    same_entries p i lo lo2 [] h = h
    same_entries p i lo lo2 (e ∷ es) h = (
      h.0,
      h.1,
      subst (λ (s : NodeLayout). A.Means b lo p (p + key_at s i) h.0 (k.to e.0)) same_layout (k.means b lo p (p + key_at (layout_of K V E) i) h.0 e.0 h.2),
      subst (λ (s : NodeLayout). B.Means b h.0 p (p + value_at s i) h.1 (v.to e.1)) same_layout (v.means b h.0 p (p + value_at (layout_of K V E) i) h.1 e.1 h.3),
      same_entries p (i + 1) h.1 lo2 es h.4,
    )

    mutual
      same_tree : (lo hi p : ℕ) (t : Tree (K.Value × V.Value)) → Spells K V E b lo hi p t → Spells A B E b lo hi p (mapped to t)
      same_tree lo hi p (leaf m) h = (
        subst (λ (s : NodeLayout). IsNodeAt s b lo hi p 0 (leaf_size s)) same_layout h.0,
        subst (λ (s : NodeLayout). number_at b (p + len_at s) 4 ≡ length m) same_layout h.1 ∙ sym (length-map m to),
        omega (arith, length-map m to, h.2),
        h.3,
        same_entries p 0 lo h.3 m h.4,
      )
      same_tree lo hi p (inner row) h = (
        subst (λ (s : NodeLayout). IsNodeAt s b lo hi p 1 (inner_size s)) same_layout h.0,
        ap length (entries_mapped to row) ∙ (length-map (row_entries row) to ∙ h.1),
        h.2,
        same_row p 0 lo h.2 row h.3,
        h.4,
        subst (Entries A B E b p 0 h.2 h.4) (sym (entries_mapped to row)) (same_entries p 0 h.2 h.4 (row_entries row) h.5),
      )

      same_row : (p i lo mid : ℕ) (row : Row (K.Value × V.Value)) → SpellsRow K V E b p i lo mid row → SpellsRow A B E b p i lo mid (mapped_row to row)
      same_row p i lo mid (last c) h = same_child p i lo mid c h
      same_row p i lo mid (step c e row) h = (h.0, same_child p i lo h.0 c h.1, same_row p (i + 1) h.0 mid row h.2)

      same_child : (p i lo next : ℕ) (c : Child (K.Value × V.Value)) → SpellsChild K V E b p i lo next c → SpellsChild A B E b p i lo next (mapped_child to c)
      same_child p i lo next absent h = (subst (λ (s : NodeLayout). target_at b (p + pointer_at s i) ≡ None) same_layout h.0, h.1)
      same_child p i lo next (child t) h = (
        h.0,
        subst (λ (s : NodeLayout). target_at b (p + pointer_at s i) ≡ Some (pos h.0)) same_layout h.1,
        same_tree lo p h.0 t h.2,
        h.3 ∙ (ap (λ (s : NodeLayout). h.0 + root_size s t) same_layout ∙ ap (λ n. h.0 + n) (sym (same_size to (layout_of A B E) t))),
      )

    same_root : (lo hi at lo2 : ℕ) (m : List (K.Value × V.Value)) → SpellsRoot K V E b lo hi at lo2 m → SpellsRoot A B E b lo hi at lo2 (map to m)
    same_root lo hi at lo2 m h = record {
      start = h.start;
      tree = mapped to h.tree;
      leads = h.leads;
      spelled = same_tree lo hi h.start h.tree h.spelled;
      levels = omega (arith, height_mapped to h.tree, h.levels);
      means = ap (map to) h.means ∙ sym (list_mapped to h.tree);
      total = length-map m to ∙ h.total;
      left = h.left ∙ (ap (λ (s : NodeLayout). h.start + root_size s h.tree) same_layout ∙ ap (λ n. h.start + n) (sym (same_size to (layout_of A B E) h.tree)));
    }

    same_accepted : (lo hi at lo2 : ℕ) (m : List (K.Value × V.Value)) → Accepted K V E b lo hi at lo2 m → Accepted A B E b lo hi at lo2 (map to m)
    same_accepted lo hi at lo2 m h = record {
      short = h.short;
      window = h.window;
      before = h.before;
      aligned = h.aligned;
      room = h.room;
      root = elim h.root [
        | inl none ↦ inl (none.0, ap (map to) none.1, none.2)
        | inr some ↦ inr (some.0, same_root lo hi at lo2 m some.1)
      ];
    }

  pub same_map : Matches (map_kind K V E) (map_kind A B E)
  same_map = record {
    to = map to;
    size = refl;
    align = refl;
    fits = same_fitting;
    means = λ b lo hi at left m h. same_accepted b lo hi at left m h;
  }
