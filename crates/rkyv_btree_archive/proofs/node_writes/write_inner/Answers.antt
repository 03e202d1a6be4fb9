use Rattle.std.proofs.Common.{◌+◌, ◌≤◌, ◌∙◌, ◌++◌, [], ◌∷◌, List, ℕ, map, inl, inr, refl, ap, sym, subst, vec_capacity}
use Rattle.std.proofs.lemmas.Result.{err_from_is_err_and}
use Rattle.rkyv_btree_writer.specs.Padding.{padding}
use Rattle.rkyv_btree_writing_laws.specs.Image.{inner_bytes, inner_write, inner_image}
use Rattle.rkyv_btree_portable.specs.InPlace.{OwnBytes}
use Rattle.rkyv_btree_format.specs.Layout.{layout_of, align, inner_size}
use Rattle.rkyv_btree_writing_laws.specs.Entries.{EntriesUnresolved, as_fault, both_borrowed}
use Rattle.rkyv_btree_writing_laws.specs.Written.{NodeStopped, in_own_bytes}
use Rattle.rkyv_btree_writer.specs.Writing.{Write, Appended, Refused, position}
use Rattle.rkyv_btree_writer.specs.declared.fault.Fault.{Fault}
use Rattle.rkyv_btree_writer.specs.declared.fault.Fault.TheVariants.{OffsetOverflow}
use Rattle.rkyv_btree_writing_laws.proofs.NodesWritten.{node_written, node_refused}
use Rattle.rkyv_btree_archive.proofs.Pieces.{own_long, front_is}
use Rattle.rkyv_btree_archive.proofs.Numbers.{no_less_twice, no_more}
use Rattle.rkyv_btree_archive.proofs.node_writes.write_inner.Goals as goal

pub returns-in_err-root-clause-err : goal.returns-in_err-root-clause-err
returns-in_err-root-clause-err g c =
    let nodes = layout_of g.K.Portable.kind g.V.Portable.kind g.row.E in
    let xs = map (both_borrowed g.BKU.Borrow.borrowed g.BVU.Borrow.borrowed) c.args.entries.now in
    let image : ℕ → List OwnBytes → List Write = λ at owns. inner_image nodes at owns (c.args.children.now ++ c.args.last ∷ []) in
    let p = err_from_is_err_and c.from_residual.result c.from_residual.ensures.1 in
    rw (p.1, p.2) (subst (λ (n : ℕ). NodeStopped nodes g.KU.Archive.archival g.VU.Archive.archival image n (g.W.Writer.state c.args.writer.now) xs c.in_err-root.field-0.0 (g.W.Writer.state c.begin_node.new.writer)) c.inner_size-size.ensures.value (c.in_err-root.ensures.err image))

pub returns-in-Err-clause-err : goal.returns-in-Err-clause-err
returns-in-Err-clause-err g c =
    let nodes = layout_of g.K.Portable.kind g.V.Portable.kind g.row.E in
    let from = g.W.Writer.state c.args.writer.now in
    let to = g.W.Writer.state c.begin_node.new.writer in
    let keys = c.begin_node.new.keys.items in
    let values = c.begin_node.new.values.items in
    let xs = map (both_borrowed g.BKU.Borrow.borrowed g.BVU.Borrow.borrowed) c.args.entries.now in
    let roots = c.args.children.now ++ c.args.last ∷ [] in
    let root = c.in_ok-root.root in
    let padded = c.in_ok-root.ensures.ok in
    let place = c.in_ok-root.ensures.place in
    let image = λ (at : ℕ) (owns : List OwnBytes). inner_image nodes at owns roots in
    let cause = c.in-Err.fault in
    elim c.in-Err.ensures.err [
      | inl unresolved ↦ in_own_bytes keys values padded cause c.fault_of.ensures (subst (λ (n : ℕ). EntriesUnresolved nodes g.KU.Archive.archival g.VU.Archive.archival n xs keys values cause) place unresolved)
      | inr far ↦
          let owns = far.0 in
          let is = ap (λ (n : ℕ). padding (align nodes) (position padded.mid) ++ inner_write nodes n owns roots ∷ []) (sym (place ∙ padded.place)) in
          let stopped = node_refused nodes g.KU.Archive.archival g.VU.Archive.archival from to xs keys values padded root owns place far.1 image (inner_size nodes) (inner_write nodes root owns roots) is {E = g.row.W-Error.Denot} OffsetOverflow to (refl, far.3) in
          subst (λ (f : Fault g.row.W-Error.Denot). NodeStopped nodes g.KU.Archive.archival g.VU.Archive.archival image (inner_size nodes) from xs f to) (sym (c.fault_of.ensures ∙ ap as_fault far.2)) stopped
    ]

pub returns-clause-ok : goal.returns-clause-ok
returns-clause-ok g c =
    let nodes = layout_of g.K.Portable.kind g.V.Portable.kind g.row.E in
    let from = g.W.Writer.state c.args.writer.now in
    let to = g.W.Writer.state c.begin_node.new.writer in
    let t = g.W.Writer.state c.put.new.writer in
    let roots = c.args.children.now ++ c.args.last ∷ [] in
    let root = c.in_ok-root.root in
    let padded = c.in_ok-root.ensures.ok in
    let place = c.in_ok-root.ensures.place in
    let made = c.in-Ok.ensures.ok in
    let is = ap (λ (n : ℕ). padding (align nodes) (position padded.mid) ++ inner_write nodes n made.0 roots ∷ []) (sym (place ∙ padded.place)) in
    node_written nodes g.KU.Archive.archival g.VU.Archive.archival from to (map (both_borrowed g.BKU.Borrow.borrowed g.BVU.Borrow.borrowed) c.args.entries.now) c.begin_node.new.keys.items c.begin_node.new.values.items padded root made.0 place made.1 (λ at owns. inner_image nodes at owns roots) (inner_size nodes) (inner_write nodes root made.0 roots) is
    t made.3 (own_long (inner_bytes nodes root made.0 roots) c.put_inner.new.node.items c.args.scratch.now.node.items (inner_size nodes) (inner_size nodes) (no_more _ _ refl) c.requires.free.node_room made.2 c.put_inner.ensures.len) (subst (λ (bytes : List ℕ). Appended to bytes t) (front_is c.inner_size-size.result (inner_size nodes) (inner_size nodes) (inner_bytes nodes root made.0 roots) c.as_slice.result.now c.put_inner.new.node.items c.args.scratch.now.node.items c.inner_size-size.ensures.value (no_more _ _ refl) c.requires.free.node_room c.as_slice.ensures.value made.2 c.put_inner.ensures.len) c.in_ok-put.ensures.ok)

pub returns-in_err-put-clause-err : goal.returns-in_err-put-clause-err
returns-in_err-put-clause-err g c =
    let nodes = layout_of g.K.Portable.kind g.V.Portable.kind g.row.E in
    let from = g.W.Writer.state c.args.writer.now in
    let to = g.W.Writer.state c.begin_node.new.writer in
    let t = g.W.Writer.state c.put.new.writer in
    let roots = c.args.children.now ++ c.args.last ∷ [] in
    let root = c.in_ok-root.root in
    let padded = c.in_ok-root.ensures.ok in
    let place = c.in_ok-root.ensures.place in
    let made = c.in-Ok.ensures.ok in
    let write = inner_write nodes root made.0 roots in
    let is = ap (λ (n : ℕ). padding (align nodes) (position padded.mid) ++ inner_write nodes n made.0 roots ∷ []) (sym (place ∙ padded.place)) in
    let fault = c.in_err-put.field-0.0 in
    let p = err_from_is_err_and c.from_residual-in_err-put.result c.from_residual-in_err-put.ensures.1 in
    rw (p.1, p.2) (node_refused nodes g.KU.Archive.archival g.VU.Archive.archival from to (map (both_borrowed g.BKU.Borrow.borrowed g.BVU.Borrow.borrowed) c.args.entries.now) c.begin_node.new.keys.items c.begin_node.new.values.items padded root made.0 place made.1 (λ at owns. inner_image nodes at owns roots) (inner_size nodes) write is
    fault t (subst (λ (bytes : List ℕ). Refused fault to (record { bytes = bytes; reaches = write.reaches }) t) (front_is c.inner_size-size.result (inner_size nodes) (inner_size nodes) (inner_bytes nodes root made.0 roots) c.as_slice.result.now c.put_inner.new.node.items c.args.scratch.now.node.items c.inner_size-size.ensures.value (no_more _ _ refl) c.requires.free.node_room c.as_slice.ensures.value made.2 c.put_inner.ensures.len) (c.in_err-put.ensures.err write.reaches)))

pub returns-clause-free : goal.returns-clause-free
returns-clause-free g c = record {
  no_keys = c.in-Ok.ensures.spent.0;
  no_values = c.in-Ok.ensures.spent.1;
  key_room = no_less_twice _ _ _ _ c.requires.free.key_room c.begin_node.ensures.key_room c.put_inner.ensures.key_room;
  value_room = no_less_twice _ _ _ _ c.requires.free.value_room c.begin_node.ensures.value_room c.put_inner.ensures.value_room;
  node_room = subst (λ n. inner_size (layout_of g.K.Portable.kind g.V.Portable.kind g.row.E) ≤ n) (sym c.put_inner.ensures.len) c.requires.free.node_room;
}

pub begin_node-requires-clause-no_keys : goal.begin_node-requires-clause-no_keys
begin_node-requires-clause-no_keys g c = c.requires.free.no_keys

pub begin_node-requires-clause-no_values : goal.begin_node-requires-clause-no_values
begin_node-requires-clause-no_values g c = c.requires.free.no_values

pub begin_node-requires-clause-key_room : goal.begin_node-requires-clause-key_room
begin_node-requires-clause-key_room g c = subst (λ n. n ≤ vec_capacity c.args.scratch.now.keys) (sym c.requires.entries) c.requires.free.key_room

pub begin_node-requires-clause-value_room : goal.begin_node-requires-clause-value_room
begin_node-requires-clause-value_room g c = subst (λ n. n ≤ vec_capacity c.args.scratch.now.values) (sym c.requires.entries) c.requires.free.value_room

pub put_inner-requires-clause-entries : goal.put_inner-requires-clause-entries
put_inner-requires-clause-entries g c = c.requires.entries

pub put_inner-requires-clause-keys : goal.put_inner-requires-clause-keys
put_inner-requires-clause-keys g c = c.in_ok-root.ensures.keys ∙ c.requires.entries

pub put_inner-requires-clause-values : goal.put_inner-requires-clause-values
put_inner-requires-clause-values g c = c.in_ok-root.ensures.values ∙ c.requires.entries

pub put_inner-requires-clause-children : goal.put_inner-requires-clause-children
put_inner-requires-clause-children g c = c.requires.children

pub put_inner-requires-clause-room : goal.put_inner-requires-clause-room
put_inner-requires-clause-room g c = c.requires.free.node_room

pub put_inner-requires-clause-end : goal.put_inner-requires-clause-end
put_inner-requires-clause-end g c = subst (λ n. c.in_ok-root.root + n ≤ 4294967295) c.inner_size-size.ensures.value c.in_ok-root.ensures.end

pub returns-clause-last : goal.returns-clause-last
returns-clause-last g c = c.in_ok-put.ensures.end
