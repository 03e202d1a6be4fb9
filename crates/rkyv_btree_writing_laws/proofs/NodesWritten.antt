-- Nodes after the padding before them.
use Rattle.std.proofs.Common.{◌≡◌, ℕ, ◌∙◌, true, List, [], ◌∷◌, ◌++◌, length, sym, subst, arith}
use Rattle.rkyv_btree_writer.specs.Archiving.{Archival}
use Rattle.rkyv_btree_writer.specs.Padding.{padding}
use Rattle.rkyv_btree_portable.specs.InPlace.{OwnBytes}
use Rattle.rkyv_btree_format.specs.Layout.{NodeLayout, align}
use Rattle.rkyv_btree_writer.specs.Writing.{Writing, Write, Appended, Wrote, Stopped, Refused, position}
use Rattle.rkyv_btree_writing_laws.specs.Entries.{EntriesResolved}
use Rattle.rkyv_btree_writing_laws.specs.Written.{AreInNode, IsPadded, NodeWritten, NodeStopped, in_node}
use Rattle.rkyv_btree_writer.specs.declared.fault.Fault.{Fault}
use Rattle.rkyv_btree_writer.proofs.WriteRuns.{appended-position, wrote-both, wrote-one, stopped-behind, stopped-one}

module _ {M N R S : Type 0} (s : NodeLayout) (K : Archival M R) (V : Archival N S) (from to : Writing) (xs : List (M × N)) (keys : List R) (values : List S) (padded : IsPadded s K V from xs keys values to) (root : ℕ) (owns : List OwnBytes) (place : root ≡ position to) (resolved : EntriesResolved s K V root xs keys values owns) (image : ℕ → List OwnBytes → List Write) (size : ℕ) (node : Write) (is : image (position padded.mid) owns ≡ padding (align s) (position padded.mid) ++ node ∷ []) where
  in_place : AreInNode s K V from xs root owns padded.mid
  in_place = record { keys = keys; values = values; serialised = padded.serialised; place = place ∙ padded.place; resolved = resolved }

  -- the node's one write was made
  pub node_written : (t : Writing) → node.reaches ≡ true → length node.bytes ≡ size → Appended to node.bytes t → NodeWritten s K V image size from xs root t
  node_written t reach len appended = record {
    owns = owns;
    mid = padded.mid;
    entries = in_place;
    wrote = subst (λ (writes : List Write). Wrote padded.mid writes t) (sym is) (wrote-both padded.mid (padding (align s) (position padded.mid)) to (node ∷ []) t padded.padded (wrote-one to node t reach appended));
    end = omega (arith, appended-position to node.bytes t appended, len, place);
  }

  -- it was refused
  pub node_refused : {E : Type 0} (fault : Fault E) (t : Writing) → Refused fault to node t → NodeStopped s K V image size from xs fault t
  node_refused fault t refused = in_node root owns padded.mid in_place (subst (λ (writes : List Write). Stopped padded.mid writes fault t) (sym is) (stopped-behind padded.mid (padding (align s) (position padded.mid)) to (node ∷ []) fault t padded.padded (stopped-one to node fault t refused)))
