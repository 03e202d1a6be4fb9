-- What a lookup finds in a strict map of numbers after changes.
use Rattle.std.proofs.Common.{◌≡◌, ℕ, List, [], ◌∷◌, Option, Some, None, refl, sym, ap, ◌∙◌}
use Rattle.std.proofs.lemmas.Cmp.{nat_cmp_total}
use Rattle.std.proofs.lemmas.Map.Lookups.{exact_unsigned}
use Rattle.std.specs.BTreeMap.{is_at}
use Rattle.std.specs.Map.{lookup}
use Rattle.std.specs.Option.{option_map}
use Rattle.std.specs.Ordering.{nat_cmp}
use Rattle.rkyv_btree_base.proofs.MapLaws.{map_laws}
use Rattle.rkyv_btree_base.specs.Archiving.{itself, native_archival}
use Rattle.rkyv_btree_base.specs.Increasing.{Increasing}
use Rattle.rkyv_btree_base.specs.Natives.{u32_form}
use Rattle.rkyv_btree_base.specs.Read.{read_map}
use Rattle.rkyv_btree_base.specs.Scalars.{u32_kind}
use Rattle.rkyv_btree_base.specs.laws.Scalars.{u32_laws}
use Rattle.rkyv_btree.specs.Strict.{IsStrictMap}
use Rattle.rkyv_btree_update.proofs.Changed.{last_word_counts}
use Rattle.rkyv_btree_update.specs.Natives.{IsLent}
use Rattle.rkyv_btree_update.specs.Updated.{changes_meant, last_word, updated}
use Rattle.rkyv_btree_update.specs.declared.change.Change.{Change}
use Rattle.rkyv_btree_update.specs.declared.change.Change.TheVariants.{Put, Delete}

-- numbers are read and ordered as themselves
abbrev pub number_lent : IsLent (native_archival u32_form) u32_kind (λ x. x) nat_cmp u32_kind.read nat_cmp
number_lent = record {
  same = itself u32_kind;
  meant = λ v. v;
  of_value = λ v. v;
  means = λ x. refl;
  reads = λ b at. refl;
  back = λ v. refl;
  compared = λ x y. refl;
  alike = λ x y. refl;
  total = nat_cmp_total;
  exact = exact_unsigned;
}

itself_meant : (cs : List (ℕ × Change ℕ)) → changes_meant (λ n. n) (λ n. n) cs ≡ cs
itself_meant [] = refl
itself_meant ((k, Put v) ∷ cs) = ap (λ zs. (k, Put v) ∷ zs) (itself_meant cs)
itself_meant ((k, Delete) ∷ cs) = ap (λ zs. (k, Delete) ∷ zs) (itself_meant cs)

itself_mapped : (o : Option ℕ) → option_map (λ n. n) o ≡ o
itself_mapped None = refl
itself_mapped (Some n) = refl

-- a key has what the changes say of it, or else what it had
pub found_after : (b : List ℕ) (at key : ℕ) (old : List (ℕ × ℕ)) (cs : List (ℕ × Change ℕ))
    → IsStrictMap u32_kind u32_kind 5 b at (updated nat_cmp old (changes_meant (λ n. n) (λ n. n) cs)) → Increasing nat_cmp old → Increasing nat_cmp cs
    → option_map (λ n. n) (lookup (is_at (nat_cmp key)) (read_map u32_kind u32_kind 5 b at)) ≡ last_word (lookup (is_at (nat_cmp key)) cs) (lookup (is_at (nat_cmp key)) old)
found_after b at key old cs strict h increase =
    let read = (map_laws u32_kind u32_kind 5 u32_laws u32_laws).is_read b 0 at at strict.map.0 _ strict.map.1 in
    itself_mapped (lookup (is_at (nat_cmp key)) (read_map u32_kind u32_kind 5 b at))
    ∙ ap (lookup (is_at (nat_cmp key))) (sym read ∙ ap (updated nat_cmp old) (itself_meant cs))
    ∙ last_word_counts nat_cmp_total key cs old h increase
