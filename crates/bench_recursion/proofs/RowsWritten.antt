-- A node's children, one after another, with what their entries write.
use Rattle.std.proofs.Common.{◌≡◌, ℕ, zero, suc, ◌+◌, ◌-◌, ◌<◌, ◌≤◌, min, List, [], ◌∷◌, ◌++◌, length, map, take, drop, get_or, sym, subst, refl, ◌∙◌, Option, Some, inl, inr, arith}
use Rattle.std.proofs.lemmas.List.{append_assoc, append-nil, take_rest}
use Rattle.rkyv_btree_writer.specs.declared.fault.Fault.{Fault}
use Rattle.rkyv_btree_writer.specs.Archiving.{Archival}
use Rattle.rkyv_btree_writing_laws.specs.Image.{inner_image}
use Rattle.rkyv_btree_portable.specs.InPlace.{OwnBytes}
use Rattle.rkyv_btree_format.specs.Layout.{NodeLayout, inner_size}
use Rattle.rkyv_btree_shape.specs.Plan.{row_plan}
use Rattle.rkyv_btree_shape.specs.Tree.{Row, Child, inner, last, step, child, row_entries}
use Rattle.rkyv_btree_writer.specs.Writing.{Writing}
use Rattle.rkyv_btree_writing_laws.specs.Written.{RowWritten, ChildWritten, NodeWritten, RowStopped, ChildStopped, TreeStopped, NodeStopped}
use Rattle.rkyv_btree_shape.proofs.PlanLaws.{row_plan_last}
use Rattle.bench_recursion.proofs.Rows.{plan-turn}

module _ {M N R S : Type 0} (e : NodeLayout) (K : Archival M R) (V : Archival N S) where
  -- if what is left of a row is written, the whole row is; and likewise if it is stopped
  pub record RowSoFar (X : Type 0) (whole : Row (M × N)) (s0 : Writing) (row : Row (M × N)) (s : Writing) (xs : List (M × N)) (roots : List (Option ℕ)) : Type 0 where
    pub wrote : (others : List (Option ℕ)) (t : Writing) → RowWritten e K V s row others t → RowWritten e K V s0 whole (roots ++ others) t
    pub stopped : (fault : Fault X) (t : Writing) → RowStopped e K V s row fault t → RowStopped e K V s0 whole fault t
    pub entries : row_entries whole ≡ xs ++ row_entries row

  pub row-more : {X : Type 0} {whole row : Row (M × N)} {s0 s u : Writing} {c : Child (M × N)} {x : M × N} {xs : List (M × N)} {roots : List (Option ℕ)} (at : Option ℕ) →
      RowSoFar X whole s0 (step c x row) s xs roots → ChildWritten e K V s c at u → RowSoFar X whole s0 row u (xs ++ x ∷ []) (roots ++ at ∷ [])
  row-more {X} {whole} {row} {s0} {s} {u} {c} {x} {xs} {roots} at so w = record {
    wrote = λ others t h. subst (λ (qs : List (Option ℕ)). RowWritten e K V s0 whole qs t) (sym (append_assoc roots (at ∷ []) others)) (so.wrote (at ∷ others) t (at, others, u, w, h, refl));
    stopped = λ fault t h. so.stopped fault t (inr (at, u, w, h));
    entries = so.entries ∙ sym (append_assoc xs (x ∷ []) (row_entries row));
  }

  -- a child that isn't written
  pub row-stopped : {X : Type 0} {whole row : Row (M × N)} {s0 s t : Writing} {c : Child (M × N)} {x : M × N} {xs : List (M × N)} {roots : List (Option ℕ)} {fault : Fault X} →
      RowSoFar X whole s0 (step c x row) s xs roots → ChildStopped e K V s c fault t → TreeStopped e K V s0 (inner whole) fault t
  row-stopped {X} {whole} {row} {s0} {s} {t} {c} {x} {xs} {roots} {fault} so h = inl (so.stopped fault t (inl h))

  pub last-stopped : {X : Type 0} {whole : Row (M × N)} {s0 s t : Writing} {c : Child (M × N)} {xs : List (M × N)} {roots : List (Option ℕ)} {fault : Fault X} →
      RowSoFar X whole s0 (last c) s xs roots → ChildStopped e K V s c fault t → TreeStopped e K V s0 (inner whole) fault t
  last-stopped {X} {whole} {s0} {s} {t} {c} {xs} {roots} {fault} so h = inl (so.stopped fault t h)

  -- the whole row and its node
  pub inner-written : {X : Type 0} {whole : Row (M × N)} {s0 s u v : Writing} {c : Child (M × N)} {xs : List (M × N)} {roots : List (Option ℕ)} (at : Option ℕ) (root : ℕ) →
      RowSoFar X whole s0 (last c) s xs roots → ChildWritten e K V s c at u → NodeWritten e K V (λ (n : ℕ) (owns : List OwnBytes). inner_image e n owns (roots ++ at ∷ [])) (inner_size e) u xs root v →
      ChildWritten e K V s0 (child (inner whole)) (Some root) v
  inner-written {X} {whole} {s0} {s} {u} {v} {c} {xs} {roots} at root so w node =
      (root, (roots ++ at ∷ [], u, so.wrote (at ∷ []) u (at, w, refl), subst (λ (ys : List (M × N)). NodeWritten e K V (λ (n : ℕ) (owns : List OwnBytes). inner_image e n owns (roots ++ at ∷ [])) (inner_size e) u ys root v) (sym (so.entries ∙ append-nil xs)) node), refl)

  pub inner-stopped : {X : Type 0} {whole : Row (M × N)} {s0 s u v : Writing} {c : Child (M × N)} {xs : List (M × N)} {roots : List (Option ℕ)} {fault : Fault X} (at : Option ℕ) →
      RowSoFar X whole s0 (last c) s xs roots → ChildWritten e K V s c at u → NodeStopped e K V {E = X} (λ (n : ℕ) (owns : List OwnBytes). inner_image e n owns (roots ++ at ∷ [])) (inner_size e) u xs fault v →
      TreeStopped e K V s0 (inner whole) fault v
  inner-stopped {X} {whole} {s0} {s} {u} {v} {c} {xs} {roots} {fault} at so w node =
      inr (roots ++ at ∷ [], u, so.wrote (at ∷ []) u (at, w, refl), subst (λ (ys : List (M × N)). NodeStopped e K V {E = X} (λ (n : ℕ) (owns : List OwnBytes). inner_image e n owns (roots ++ at ∷ [])) (inner_size e) u ys fault v) (sym (so.entries ∙ append-nil xs)) node)

  pub turn-so-far : {X : Type 0} {I : Type 0} {whole : Row (M × N)} {s0 s : Writing} {xs : List (M × N)} {roots : List (Option ℕ)} (own : I → M × N) (plan : List (M × N) → Child (M × N)) (base full rest n start size took end : ℕ) (items : List I) (d : I) →
      0 < n → took ≡ min rest full → size ≡ (base - 1) + took → end ≡ start + size → end < length items →
      RowSoFar X whole s0 (row_plan plan base full n rest (map own (drop start items))) s xs roots →
      RowSoFar X whole s0 (step (plan (map own (take size (drop start items)))) (own (get_or items end d)) (row_plan plan base full (n - 1) (rest - took) (map own (drop (end + 1) items)))) s xs roots
  turn-so-far {X} {I} {whole} {s0} {s} {xs} {roots} own plan base full rest n start size took end items d some took_is size_is place inside so =
      subst (λ (row : Row (M × N)). RowSoFar X whole s0 row s xs roots) (plan-turn own plan base full rest n start size took end items d some took_is size_is place inside) so

  -- after other names of the entries and children
  pub so-far-as : {X : Type 0} {whole row : Row (M × N)} {s0 s : Writing} {xs ys : List (M × N)} {roots others : List (Option ℕ)} → RowSoFar X whole s0 row s xs roots → ys ≡ xs → others ≡ roots → RowSoFar X whole s0 row s ys others
  so-far-as {X} {whole} {row} {s0} {s} {xs} {ys} {roots} {others} so ents rts =
      subst (λ (zs : List (M × N)). RowSoFar X whole s0 row s zs others) (sym ents) (subst (λ (zs : List (Option ℕ)). RowSoFar X whole s0 row s xs zs) (sym rts) so)

  pub last-so-far : {X : Type 0} {I : Type 0} {whole : Row (M × N)} {s0 s : Writing} {xs : List (M × N)} {roots : List (Option ℕ)} (own : I → M × N) (plan : List (M × N) → Child (M × N)) (base full rest n start : ℕ) (items : List I) → n ≤ 0 →
      RowSoFar X whole s0 (row_plan plan base full n rest (map own (drop start items))) s xs roots → RowSoFar X whole s0 (last (plan (map own (take (length items - start) (drop start items))))) s xs roots
  last-so-far {X} {I} {whole} {s0} {s} {xs} {roots} own plan base full rest zero start items none so =
      subst (λ (ys : List I). RowSoFar X whole s0 (last (plan (map own ys))) s xs roots) (sym (take_rest items start)) (subst (λ (row : Row (M × N)). RowSoFar X whole s0 row s xs roots) (row_plan_last plan base full rest (map own (drop start items))) so)
  last-so-far own plan base full rest (suc n) start items none so = absurd (omega arith)
