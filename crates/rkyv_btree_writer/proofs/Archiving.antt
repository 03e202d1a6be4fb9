-- Values that lie in their own bytes alone are archived by them.
use Rattle.std.specs.Prelude.{◌≡◌, ℕ, ◌+◌, List, [], ◌++◌, length}
use Rattle.std.proofs.Common.{refl, subst, sym, ap, inl, arith, ◌∙◌}
use Rattle.rkyv_btree_portable.specs.Bytes.{bytes_at}
use Rattle.rkyv_btree_portable.specs.InPlace.{IsOwn, NativeForm, IsFaithful, value_of}
use Rattle.rkyv_btree_portable.specs.Kind.{Kind}
use Rattle.rkyv_btree_portable.specs.Plain.{plain_kind}
use Rattle.rkyv_btree_writer.specs.Archiving.{IsArchived, own_archival, native_archival}
use Rattle.rkyv_btree_writer.specs.Causes.{HasCauses}
use Rattle.rkyv_btree_writer.specs.Writing.{Write, appended}
use Rattle.rkyv_btree_writer.specs.declared.fault.EntryFault.{EntryFault}

-- values whose own bytes are told, and mean them
pub archived_where : {X : Type 0} (kind : Kind) (meaning : X → kind.Value) (IsIn : X → Type 0) (own : X → List ℕ) (Refuses : X → ℕ → EntryFault → Type 0) → ((x : X) → IsIn x → IsOwn kind (own x)) → ((x : X) → IsIn x → value_of kind (own x) ≡ meaning x) → IsArchived (own_archival kind meaning IsIn own Refuses)
archived_where kind meaning IsIn own Refuses is_own meant x from at writes r bytes is_in wrote is = (
  ap length is ∙ (is_own x is_in).size,
  λ fits b reach short aligned before inside held there.
      let told = is_own x is_in in
      let none : length (appended writes) ≡ 0 = ap (λ ws. length (appended ws)) wrote in
      let same : bytes_at b at kind.size ≡ own x = ap (bytes_at b at) (sym ((ap length is) ∙ told.size)) ∙ (there ∙ is) in
      (from, subst (λ v. kind.Means b from (from + length (appended writes)) at from v) (meant x is_in) (told.means b from (from + length (appended writes)) at short (omega (arith, none)) before aligned inside same)),
)

-- native values of a faithful form, of which none refuses itself
pub native_archived : {X : Type 0} (form : NativeForm X) → IsFaithful form → IsArchived (native_archival form)
native_archived form faithful = archived_where (plain_kind form.plain) form.meaning form.IsIn form.own_bytes (λ x from fault. ⊥) (λ x is_in. faithful.is_own x) faithful.means

-- they tell of nothing that lies elsewhere, and their writes are none
pub own_causes : {X : Type 0} (kind : Kind) (meaning : X → kind.Value) (IsIn : X → Type 0) (own : X → List ℕ) (Refuses : X → ℕ → EntryFault → Type 0) → HasCauses (own_archival kind meaning IsIn own Refuses)
own_causes kind meaning IsIn own Refuses = record {
  fits = λ x r at. (λ resolved. tt, λ all. (own x, refl));
  inside = λ x r at. tt;
  held = λ b x from at writes r bytes is_in wrote resolved there. tt;
  long = λ x r at none. none;
  short = λ fits x from at writes r bytes wrote resolved none. none;
  goes = λ x from. inl ([], tt, refl);
  begun = λ x from writes none. inl ([], tt, ap (λ (ws : List Write). ws ++ []) none);
}

pub native_causes : {X : Type 0} (form : NativeForm X) → HasCauses (native_archival form)
native_causes form = own_causes (plain_kind form.plain) form.meaning form.IsIn form.own_bytes (λ x from fault. ⊥)
