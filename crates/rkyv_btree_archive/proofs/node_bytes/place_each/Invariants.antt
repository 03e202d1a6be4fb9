use Rattle.std.proofs.Common.{◌≡◌, ℕ, ◌+◌, ◌*◌, ◌≤◌, List, length, map, drop, reverse, vec_capacity}
use Rattle.std.specs.List.{flat_map, splice}
use Rattle.rkyv_btree_writing_laws.proofs.Resolving.{ResolvedSoFar}
use Rattle.rkyv_btree_archive.proofs.node_bytes.place_each.Given as goal

abbrev pub invariant-loop-entry : goal.invariant-loop-entry
invariant-loop-entry g l =
    let size = g.H.Part.Archived.Portable.kind.size in
    record {
      done : (owns : List (List ℕ)) × ResolvedSoFar g.H.Part.Archive.archival l.pos (map g.H.Half.part l.entries) l.fn.resolvers.items l.at (map g.H.Half.part (drop l.entry-index l.entries)) (reverse l.resolvers.items) owns
          × (length (flat_map (λ b. b) owns) ≡ l.entry-index * size)
          × (l.node ≡ splice l.fn.node l.start (l.start + length (flat_map (λ b. b) owns)) (flat_map (λ b. b) owns));
      at : l.at ≡ l.pos + l.entry-index * size;
      place : l.place ≡ l.start + l.entry-index * size;
      left : length l.resolvers.items + l.entry-index ≡ length l.entries;
      kept : vec_capacity l.fn.resolvers ≤ vec_capacity l.resolvers;
    }
