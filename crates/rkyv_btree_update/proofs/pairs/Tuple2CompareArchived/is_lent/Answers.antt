-- A pair shows what both parts show.
use Rattle.std.proofs.Common.{◌≡◌, ◌+◌, refl, subst}
use Rattle.std.proofs.lemmas.Cmp.{on_total, then_total}
use Rattle.std.proofs.lemmas.Map.Lookups.{exact_pairs}
use Rattle.rkyv_btree_writer.specs.Archiving.{Matches}
use Rattle.rkyv_btree_portable.specs.Entry.{entry_kind, value_offset}
use Rattle.rkyv_btree_portable.specs.Kind.{Kind}
use Rattle.rkyv_btree_archive.specs.laws.EntryArchived.{same_entry, same_offset}
use Rattle.rkyv_btree_update.proofs.pairs.Tuple2CompareArchived.is_lent.Goals as goal

-- entries match part by part
module _ (K V A B : Kind) (k : Matches K A) (v : Matches V B) where
  abbrev match_both : Matches (entry_kind K V) (entry_kind A B)
  match_both =
      let entry = same_entry K V A B k v in
      record {
        to = λ e. (k.to e.0, v.to e.1);
        size = entry.size;
        align = entry.align;
        fits = entry.fits;
        means = λ b lo hi at left e m. record {
          lies = (entry.means b lo hi at left e m).lies;
          parts = record {
            between = m.parts.between;
            key = k.means b lo hi at m.parts.between e.0 m.parts.key;
            value = subst (λ n. B.Means b m.parts.between hi (at + n) left (v.to e.1)) (same_offset K V A B k v) (v.means b m.parts.between hi (at + value_offset K V) left e.1 m.parts.value);
          };
        };
      }

both : {A B : Type 0} (a c : A) (b d : B) → a ≡ c → b ≡ d → ◌≡◌ {A = A × B} (a, b) (c, d)
both a c b d p q = rw (p, q) refl

pub returns : goal.returns
returns g c =
    let x = c.is_lent.ensures in
    let y = c.is_lent-2.ensures in
    record {
      same = match_both _ _ _ _ x.same y.same;
      meant = λ s. (x.meant s.0, y.meant s.1);
      of_value = λ v. (x.of_value v.0, y.of_value v.1);
      means = λ p. both _ _ _ _ (x.means p.0) (y.means p.1);
      reads = λ b at. both _ _ _ _ (x.reads b at) (y.reads b _);
      back = λ v. both _ _ _ _ (x.back v.0) (y.back v.1);
      compared = λ p q. rw (x.compared p.0 q.0, y.compared p.1 q.1) refl;
      alike = λ s t. rw (x.alike s.0 t.0, y.alike s.1 t.1) refl;
      total = then_total (on_total (λ s. s.0) x.total) (on_total (λ s. s.1) y.total);
      exact = exact_pairs g.X.CompareArchived.order g.Y.CompareArchived.order x.exact y.exact;
    }
