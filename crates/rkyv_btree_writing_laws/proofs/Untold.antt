-- A tree isn't stopped by a fault that neither its entries nor its writes tell: a wrong count, keys out of order, or refused
-- memory where no entry asks for any.
use Rattle.std.proofs.Common.{◌≡◌, ℕ, ◌⊎◌, inl, inr, subst, alloc_error}
use Rattle.rkyv_btree_format.specs.Layout.{NodeLayout}
use Rattle.rkyv_btree_shape.specs.Tree.{Child}
use Rattle.rkyv_btree_writer.specs.Archiving.{Archival}
use Rattle.rkyv_btree_writer.specs.Writing.{Writing}
use Rattle.rkyv_btree_writer.specs.declared.fault.Fault.{Fault}
use Rattle.rkyv_btree_writer.specs.declared.fault.Fault.TheVariants.{Length, Memory, OutOfOrder}
use Rattle.rkyv_btree_writer.specs.declared.fault.IteratorLengthMismatch.{IteratorLengthMismatch}
use Rattle.rkyv_btree_writer.specs.declared.fault.ResolveFault.{ResolveFault}
use Rattle.rkyv_btree_writer.specs.declared.fault.ResolveFault.TheVariants as resolving
use Rattle.rkyv_btree_writing_laws.specs.Entries.{as_fault}
use Rattle.rkyv_btree_writing_laws.specs.Kept.{NeverGrows}
use Rattle.rkyv_btree_writing_laws.specs.Written.{ChildStopped}
use Rattle.rkyv_btree_writing_laws.proofs.Told.{child_told, growing_entry}

neither : ⊥ ⊎ ⊥ → ⊥
neither (inl h) = h
neither (inr h) = h

counted_apart : {X : Type 0} (m : IteratorLengthMismatch) (cause : ResolveFault) → Length m ≡ as_fault {E = X} cause → ⊥
counted_apart m resolving.LengthOverflow e = absurd (cc e)
counted_apart m resolving.OffsetOverflow e = absurd (cc e)

ordered_apart : {X : Type 0} (index : ℕ) (cause : ResolveFault) → OutOfOrder index ≡ as_fault {E = X} cause → ⊥
ordered_apart index resolving.LengthOverflow e = absurd (cc e)
ordered_apart index resolving.OffsetOverflow e = absurd (cc e)

module _ (X : Type 0) {M N R S : Type 0} (s : NodeLayout) (KA : Archival M R) (VA : Archival N S) (from : Writing) (c : Child (M × N)) (t : Writing) where
  -- a wrong count
  pub uncounted : (m : IteratorLengthMismatch) → ChildStopped s KA VA {E = X} from c (Length m) t → ⊥
  uncounted m h =
      let fault : Fault X = Length m in
      neither
      (child_told s KA VA fault (λ x. ⊥) (λ x. ⊥)
      (record {
        key = λ x s t h. h;
        value = λ x s t h. h;
        own_key = λ x r at cause e u. counted_apart {X = X} m cause e;
        own_value = λ x r at cause e u. counted_apart {X = X} m cause e;
        write = λ s next t h. h;
        position = λ e. absurd (cc e);
      })
      from c t h).4

  -- keys out of order
  pub unordered : (index : ℕ) → ChildStopped s KA VA {E = X} from c (OutOfOrder index) t → ⊥
  unordered index h =
      let fault : Fault X = OutOfOrder index in
      neither
      (child_told s KA VA fault (λ x. ⊥) (λ x. ⊥)
      (record {
        key = λ x s t h. h;
        value = λ x s t h. h;
        own_key = λ x r at cause e u. ordered_apart {X = X} index cause e;
        own_value = λ x r at cause e u. ordered_apart {X = X} index cause e;
        write = λ s next t h. h;
        position = λ e. absurd (cc e);
      })
      from c t h).4

  -- refused memory, for which no entry asks
  pub unasked : (fault : Fault X) → fault ≡ Memory alloc_error → NeverGrows KA → NeverGrows VA → ChildStopped s KA VA from c fault t → t ≡ from
  unasked fault is k v h =
      let entry = (growing_entry X s KA VA from c t alloc_error (subst (λ (f : Fault X). ChildStopped s KA VA from c f t) is h)).0 in
      absurd (none entry.1.0 entry.1.1 entry.4)
    where
      none : (x : M) (y : N) → KA.Grows x ⊎ VA.Grows y → ⊥
      none x y (inl grows) = k x grows
      none x y (inr grows) = v y grows
