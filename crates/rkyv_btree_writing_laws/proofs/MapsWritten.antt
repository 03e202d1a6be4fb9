-- A tree that was built, and the map that was written after it, are a map that was written.
use Rattle.std.proofs.Common.{◌≡◌, ℕ, ◌+◌, ◌∷◌, [], ◌++◌, List, length, map, Option, Result, Ok, Err, IfOk, IfErr, inr, refl, ap, sym, subst, ◌∙◌, arith}
use Rattle.std.proofs.lemmas.List.{length-append, length-map}
use Rattle.rkyv_btree_format.specs.Spells.{Accepted}
use Rattle.rkyv_btree_portable.specs.Kind.{Kind}
use Rattle.rkyv_btree_portable.specs.Rounding.{round_up}
use Rattle.rkyv_btree_portable.specs.Scalars.{unit_kind}
use Rattle.rkyv_btree_writer.proofs.WriteRuns.{appended-append}
use Rattle.rkyv_btree_writer.specs.Archiving.{Archival, Matches, itself}
use Rattle.rkyv_btree_writer.specs.Padding.{padding}
use Rattle.rkyv_btree_writer.specs.Writing.{Write, Writing, Wrote, appended, position}
use Rattle.rkyv_btree_writer.specs.declared.fault.Fault.{Fault}
use Rattle.rkyv_btree_writing_laws.proofs.Accepting.{root_length, written_is_held_after}
use Rattle.rkyv_btree_writing_laws.proofs.Kept.{then_begins, went_begins, went_on}
use Rattle.rkyv_btree_writing_laws.proofs.Leaves.{length-padding}
use Rattle.rkyv_btree_writing_laws.specs.Archives.{HoldsArchive}
use Rattle.rkyv_btree_writing_laws.specs.Building.{IsBuilt, IsBuiltSet, IsMapUnwritten, IsMapWritten, IsRootUnwritten, IsRootWritten, IsSetUnwritten, IsSetWritten}
use Rattle.rkyv_btree_writing_laws.specs.Image.{root_bytes, root_image, root_reaches}
use Rattle.rkyv_btree_writing_laws.specs.Sets.{unit_archival, unit_entries}
use Rattle.rkyv_btree_writing_laws.specs.SmallestMaps.{IsSmallestMap, entry_value, map_at}

-- a map ends eight bytes after its position
pub root_end : (mid to : Writing) (root n : ℕ) → Wrote mid (root_image (position mid) root n) to → position to ≡ round_up (position mid) 4 + 8
root_end mid to root n wrote =
    let at = round_up (position mid) 4 in
    let pad = padding 4 (position mid) in
    let own = root_bytes at root n in
    let write : Write = record { bytes = own; reaches = root_reaches at root n } in
    omega (
      arith,
      wrote.done.base,
      ap length wrote.done.contents,
      length-append mid.contents (appended (pad ++ write ∷ [])),
      ap length (appended-append pad (write ∷ [])),
      length-append (appended pad) (own ++ []),
      length-append own [],
      root_length at root n,
      length-padding 4 (position mid) (omega arith),
    )

module _ {I M N R S P Q : Type 0} (K V : Kind) (E : ℕ) (KA : Archival M R) (VA : Archival N S)
    (borrowed : I → M × N) (steps : P → Option I → P → Type 0) (iter : P) (claim : ℕ) (state : Q → Writing) (before mid after : Q) where
  map_written : (root at : ℕ) → IsBuilt K V E KA VA borrowed steps iter claim state before mid root → IsRootWritten claim root (state mid) (state after) at
      → IsMapWritten K V E KA VA borrowed steps iter claim state before after at
  map_written root at built done =
      let is = built.smallest in
      let entries = map borrowed is.0.items in
      let count : claim ≡ length entries = sym (length-map is.0.items borrowed ∙ is.0.count) in
      let wrote : Wrote (state mid) (root_image (position (state mid)) root (length entries)) (state after) =
      subst (λ n. Wrote (state mid) (root_image (position (state mid)) root n) (state after)) count done.wrote in
      record {
        items = is.0.items;
        all = is.0.all;
        smallest = λ key value front base.
            let b = front ++ (state after).contents in
            let held : HoldsArchive b (state before) (state mid) root (round_up (position (state mid)) 4) (length entries) =
            written_is_held_after front (state before) (state mid) (state after) root (length entries) base built.went wrote done.last in
            is.1 key value b at (subst (λ p. HoldsArchive b (state before) (state mid) root p (length entries)) (sym done.pos) held);
        end = omega (arith, done.pos, root_end (state mid) (state after) root (length entries) wrote);
        went = went_on (state before) (state mid) (state after) built.went done.went;
      }

  pub result_written : {F : Type 0} (result : Result ℕ (Fault F)) (root : ℕ) → IsBuilt K V E KA VA borrowed steps iter claim state before mid root
      → IfOk result (IsRootWritten claim root (state mid) (state after)) → IfOk result (IsMapWritten K V E KA VA borrowed steps iter claim state before after)
  result_written (Err fault) root built done = tt
  result_written (Ok at) root built done = map_written root at built done

  pub result_unwritten : {F : Type 0} (result : Result ℕ (Fault F)) (root : ℕ) → IsBuilt K V E KA VA borrowed steps iter claim state before mid root
      → IfErr result (IsRootUnwritten claim root (state mid) (state after)) → IfErr result (IsMapUnwritten K V E KA VA borrowed steps iter claim state before after)
  result_unwritten (Ok at) root built failed = tt
  result_unwritten (Err fault) root built failed = record {
    cause = inr (mid, root, built.written, failed.cause);
    kept = then_begins (state before) (state mid) (state after) (went_begins (state before) (state mid) built.went) failed.kept;
  }

-- the entries of keys mean what the keys do, each with a ()
unit_meant : {I M R : Type 0} (K : Kind) (E : ℕ) (KA : Archival M R) (key : Matches KA.kind K) (borrowed : I → M) (keys : List I)
    → map (entry_value K unit_kind E KA unit_archival key (itself unit_kind)) (unit_entries borrowed keys) ≡ map (λ k. (key.to (KA.meaning (borrowed k)), tt)) keys
unit_meant K E KA key borrowed [] = refl
unit_meant K E KA key borrowed (k ∷ ks) = ap (λ z. (key.to (KA.meaning (borrowed k)), tt) ∷ z) (unit_meant K E KA key borrowed ks)

module _ {I M R P Q : Type 0} (K : Kind) (E : ℕ) (KA : Archival M R) (borrowed : I → M) (steps : P → Option I → P → Type 0) (iter : P)
    (claim : ℕ) (state : Q → Writing) (before mid after : Q) where
  set_written : (root at : ℕ) → IsBuiltSet K E KA borrowed steps iter claim state before mid root → IsRootWritten claim root (state mid) (state after) at
      → IsSetWritten K E KA borrowed steps iter claim state before after at
  set_written root at built done =
      let is = built.smallest in
      let entries = unit_entries borrowed is.0.keys in
      let count : claim ≡ length entries = sym (length-map is.0.keys (λ k. (borrowed k, tt)) ∙ is.0.count) in
      let wrote : Wrote (state mid) (root_image (position (state mid)) root (length entries)) (state after) =
      subst (λ n. Wrote (state mid) (root_image (position (state mid)) root n) (state after)) count done.wrote in
      record {
        keys = is.0.keys;
        all = is.0.all;
        smallest = λ key front base.
            let b = front ++ (state after).contents in
            let held : HoldsArchive b (state before) (state mid) root (round_up (position (state mid)) 4) (length entries) =
            written_is_held_after front (state before) (state mid) (state after) root (length entries) base built.went wrote done.last in
            subst (λ m. (left : ℕ) × (a : Accepted K unit_kind E b 0 at at left m) × IsSmallestMap (map_at a)) (unit_meant K E KA key borrowed is.0.keys)
            (is.1 key (itself unit_kind) b at (subst (λ p. HoldsArchive b (state before) (state mid) root p (length entries)) (sym done.pos) held));
        end = omega (arith, done.pos, root_end (state mid) (state after) root (length entries) wrote);
        went = went_on (state before) (state mid) (state after) built.went done.went;
      }

  pub result_set_written : {F : Type 0} (result : Result ℕ (Fault F)) (root : ℕ) → IsBuiltSet K E KA borrowed steps iter claim state before mid root
      → IfOk result (IsRootWritten claim root (state mid) (state after)) → IfOk result (IsSetWritten K E KA borrowed steps iter claim state before after)
  result_set_written (Err fault) root built done = tt
  result_set_written (Ok at) root built done = set_written root at built done

  pub result_set_unwritten : {F : Type 0} (result : Result ℕ (Fault F)) (root : ℕ) → IsBuiltSet K E KA borrowed steps iter claim state before mid root
      → IfErr result (IsRootUnwritten claim root (state mid) (state after)) → IfErr result (IsSetUnwritten K E KA borrowed steps iter claim state before after)
  result_set_unwritten (Ok at) root built failed = tt
  result_set_unwritten (Err fault) root built failed = record {
    cause = inr (mid, root, built.written, failed.cause);
    kept = then_begins (state before) (state mid) (state after) (went_begins (state before) (state mid) built.went) failed.kept;
  }
