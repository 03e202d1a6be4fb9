-- A map that was written into an empty vector is an archive: its own bytes are the last eight.
use Rattle.std.proofs.Common.{◌≡◌, ℕ, ◌-◌, [], List, length, map, Option, refl, subst, arith}
use Rattle.rkyv_btree_archive.specs.ListArchives.{IsArchivedMap, IsArchivedSet}
use Rattle.rkyv_btree_format.specs.Spells.{Accepted}
use Rattle.rkyv_btree_portable.specs.Kind.{Kind}
use Rattle.rkyv_btree_portable.specs.Scalars.{unit_kind}
use Rattle.rkyv_btree_writer.specs.Archiving.{Archival}
use Rattle.rkyv_btree_writer.specs.Writing.{Writing}
use Rattle.rkyv_btree_writing_laws.specs.Building.{IsMapWritten, IsSetWritten}
use Rattle.rkyv_btree_writing_laws.specs.SmallestMaps.{IsSmallestMap, entry_value, map_at}
use Rattle.rkyv_btree_writing_laws.specs.Whole.{fresh}

module _ {I M N R S P : Type 0} (K V : Kind) (E : ℕ) (KA : Archival M R) (VA : Archival N S) (borrowed : I → M × N) (steps : P → Option I → P → Type 0) (iter : P) where
  pub map_archived : (claim at : ℕ) (after : Writing) (bytes : List ℕ) → IsMapWritten K V E KA VA borrowed steps iter claim (λ w. w) fresh after at → bytes ≡ after.contents
      → IsArchivedMap K V E KA VA borrowed steps iter bytes
  map_archived claim at after bytes h same =
      let b = after.contents in
      let base = h.went.1.base in
      let end = h.end in
      let here : at ≡ length b - 8 = omega (arith, base, end) in
      rw same (record {
        items = h.items;
        all = h.all;
        room = omega (arith, base, end);
        smallest = λ key value. subst (λ (p : ℕ). (left : ℕ) × (a : Accepted K V E b 0 p p left (map (entry_value K V E KA VA key value) (map borrowed h.items))) × IsSmallestMap (map_at a)) here (h.smallest key value [] refl);
      })

module _ {I M R P : Type 0} (K : Kind) (E : ℕ) (KA : Archival M R) (borrowed : I → M) (steps : P → Option I → P → Type 0) (iter : P) where
  pub set_archived : (claim at : ℕ) (after : Writing) (bytes : List ℕ) → IsSetWritten K E KA borrowed steps iter claim (λ w. w) fresh after at → bytes ≡ after.contents
      → IsArchivedSet K E KA borrowed steps iter bytes
  set_archived claim at after bytes h same =
      let b = after.contents in
      let base = h.went.1.base in
      let end = h.end in
      let here : at ≡ length b - 8 = omega (arith, base, end) in
      rw same (record {
        keys = h.keys;
        all = h.all;
        room = omega (arith, base, end);
        smallest = λ key. subst (λ (p : ℕ). (left : ℕ) × (a : Accepted K unit_kind E b 0 p p left (map (λ k. (key.to (KA.meaning (borrowed k)), tt)) h.keys)) × IsSmallestMap (map_at a)) here (h.smallest key [] refl);
      })
