-- A tuple has one refusal at most, and none where it means something, by the refusals of its first fields.
use Rattle.std.specs.Prelude.{◌≡◌, ℕ, List}
use Rattle.std.proofs.Common.{refl}
use Rattle.rkyv_btree_compound.specs.Joined.{joined_kind, IsLaidOut}
use Rattle.rkyv_btree_compound.specs.Tuples.{tuple_align, tuple_size, front_kind, tuple_kind, RefusesFirst, bad_first, RefusesFields, bad_front, bad_last, RefusesTuple, misplaced_tuple, bad_field}
use Rattle.rkyv_btree_compound.specs.laws.JoinedLaws.{same_window}
use Rattle.rkyv_btree_portable.specs.declared.refusal.Refusal.{Refusal}
use Rattle.rkyv_btree_portable.specs.Kind.{Kind}
use Rattle.rkyv_btree_portable.specs.Refusing.{AreRefusals, MeansNothing}
use Rattle.rkyv_btree_portable.specs.laws.Refusing.{misplaced_once, not_misplaced, place_of}

module _ (K : Kind) where
  none_first : (buf : List ℕ) (lo hi at : ℕ) (e : Refusal) → RefusesFirst K buf lo hi at e → MeansNothing K buf lo hi at
  none_first buf lo hi at e (bad_first none) = none

  one_first : (buf : List ℕ) (lo hi at : ℕ) {e d : Refusal} → RefusesFirst K buf lo hi at e → RefusesFirst K buf lo hi at d → e ≡ d
  one_first buf lo hi at (bad_first none) (bad_first none2) = refl

  pub first_refusals : AreRefusals K (RefusesFirst K)
  first_refusals = record { no_meaning = none_first; one_refusal = λ buf lo hi at e d. one_first buf lo hi at }

module _ (P L : Kind) (p : IsLaidOut P) (l : IsLaidOut L) {RefusesFront : List ℕ → ℕ → ℕ → ℕ → Refusal → Type 0} (front : AreRefusals P RefusesFront) where
  no_fields : (size : ℕ) (buf : List ℕ) (lo hi at : ℕ) (e : Refusal) → RefusesFields P L RefusesFront buf lo hi at e → MeansNothing (joined_kind P L size) buf lo hi at
  no_fields size buf lo hi at e (bad_front bad) left x m = front.no_meaning buf lo hi at e bad m.parts.between x.0 m.parts.key
  no_fields size buf lo hi at e (bad_last {mid} {x = y} means none) left x m =
      none left x.1 (same_window P L p l buf lo hi at mid m.parts.between left y x.0 x.1 means m.parts.key m.parts.value)

  one_field : (buf : List ℕ) (lo hi at : ℕ) {e d : Refusal} → RefusesFields P L RefusesFront buf lo hi at e → RefusesFields P L RefusesFront buf lo hi at d → e ≡ d
  one_field buf lo hi at (bad_front {e} bad) (bad_front {e = d} bad2) = front.one_refusal buf lo hi at e d bad bad2
  one_field buf lo hi at (bad_front {e} bad) (bad_last {mid} {x} means none) = absurd (front.no_meaning buf lo hi at e bad mid x means)
  one_field buf lo hi at (bad_last {mid} {x} means none) (bad_front {e} bad) = absurd (front.no_meaning buf lo hi at e bad mid x means)
  one_field buf lo hi at (bad_last means none) (bad_last means2 none2) = refl

  pub fields_refusals : AreRefusals (front_kind P L) (RefusesFields P L RefusesFront)
  fields_refusals = record { no_meaning = no_fields (front_kind P L).size; one_refusal = λ buf lo hi at e d. one_field buf lo hi at }

  no_tuple : (buf : List ℕ) (lo hi at : ℕ) (e : Refusal) → RefusesTuple P L RefusesFront buf lo hi at e → MeansNothing (tuple_kind P L) buf lo hi at
  no_tuple buf lo hi at e (misplaced_tuple q) left x m = not_misplaced buf (tuple_size P L) (tuple_align P L) at (place_of buf (tuple_size P L) (tuple_align P L) at m.lies) q
  no_tuple buf lo hi at e (bad_field has bad) left x m = no_fields (tuple_size P L) buf lo hi at e bad left x m

  one_refusal : (buf : List ℕ) (lo hi at : ℕ) {e d : Refusal} → RefusesTuple P L RefusesFront buf lo hi at e → RefusesTuple P L RefusesFront buf lo hi at d → e ≡ d
  one_refusal buf lo hi at (misplaced_tuple q) (misplaced_tuple r) = misplaced_once buf (tuple_size P L) (tuple_align P L) at q r
  one_refusal buf lo hi at (misplaced_tuple q) (bad_field has bad) = absurd (not_misplaced buf (tuple_size P L) (tuple_align P L) at has q)
  one_refusal buf lo hi at (bad_field has bad) (misplaced_tuple q) = absurd (not_misplaced buf (tuple_size P L) (tuple_align P L) at has q)
  one_refusal buf lo hi at (bad_field has bad) (bad_field has2 bad2) = one_field buf lo hi at bad bad2

  pub tuple_refusals : AreRefusals (tuple_kind P L) (RefusesTuple P L RefusesFront)
  tuple_refusals = record { no_meaning = no_tuple; one_refusal = λ buf lo hi at e d. one_refusal buf lo hi at }
