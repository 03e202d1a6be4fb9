-- A vector is archived by what archives its elements.
use Rattle.std.specs.Prelude.{◌≡◌, ℕ, ◌+◌, ◌*◌, ◌≤◌, ◌&&◌, Bool, IsTrue, List, [], ◌∷◌, ◌++◌, length, map, nat_lt}
use Rattle.std.specs.List.{All, flat_map}
use Rattle.std.proofs.Common.{arith, refl, sym, ap, subst, ◌∙◌, length-append}
use Rattle.std.proofs.Math.Nat.{suc-mul}
use Rattle.std.proofs.lemmas.List.{append-nil, length-map}
use Rattle.std.proofs.lemmas.List.Elements.{All-head, All-tail}
use Rattle.rkyv_btree_archive.specs.VectorArchival.{ElementsImage, vector_archival}
use Rattle.rkyv_btree_compound.specs.Elements.{Elements}
use Rattle.rkyv_btree_compound.specs.Vectors.{vector_kind}
use Rattle.rkyv_btree_compound.specs.laws.ElementLaws.{after_one}
use Rattle.rkyv_btree_compound.specs.laws.VectorLaws.{fitting_vector}
use Rattle.rkyv_btree_portable.specs.Bytes.{Holds}
use Rattle.rkyv_btree_portable.specs.Kind.{Kind, IsLawful}
use Rattle.rkyv_btree_portable.specs.Rounding.{round_up}
use Rattle.rkyv_btree_portable.specs.Standing.{IsAligned}
use Rattle.rkyv_btree_portable.specs.Text.{text_len}
use Rattle.rkyv_btree_portable.specs.laws.Holding.{Holds-front, Holds-back, Holds-at}
use Rattle.rkyv_btree_portable.specs.laws.Rounding.{alignment_positive, aligned_add, round_up-aligned, le-round_up}
use Rattle.rkyv_btree_writer.proofs.TextArchived.{text_leads, text_count}
use Rattle.rkyv_btree_writer.proofs.WriteRuns.{appended-append, reach_split}
use Rattle.rkyv_btree_writer.specs.Archiving.{Archival, Matches, IsArchived}
use Rattle.rkyv_btree_writer.specs.Padding.{padding}
use Rattle.rkyv_btree_writer.specs.TextArchival.{text_own}
use Rattle.rkyv_btree_writer.specs.Writing.{Write, AllReach, appended}
use Rattle.rkyv_btree_writing_laws.proofs.Leaves.{length-padding}
use Rattle.rkyv_btree_writing_laws.specs.Entries.{AreResolved}
use Rattle.rkyv_btree_writing_laws.specs.Imaged.{end_of}

-- two vectors whose elements lie alike
module _ (K A : Kind) (k : Matches K A) where
  pub same_elements : (b : List ℕ) (lo hi at left : ℕ) (vs : List K.Value) → Elements K b lo hi at left vs → Elements A b lo hi at left (map k.to vs)
  same_elements b lo hi at left [] m = m
  same_elements b lo hi at left (v ∷ vs) m = (m.0, k.means b lo hi at m.0 v m.1, subst (λ n. Elements A b m.0 hi (at + n) left (map k.to vs)) k.size (same_elements b m.0 hi (at + K.size) left vs m.2))

  fitting : (a a2 : Bool) (m n : ℕ) → a ≡ a2 → m ≡ n → (a && nat_lt 0 m) ≡ (a2 && nat_lt 0 n)
  fitting a a2 m n p q = cc

  pub same_vector : Matches (vector_kind K) (vector_kind A)
  same_vector = record {
    to = map k.to;
    size = refl;
    align = refl;
    fits = fitting K.is_fitting A.is_fitting K.size A.size k.fits k.size;
    means = λ b lo hi at left vs m. record {
      lies = m.lies;
      start = m.start;
      after = m.after;
      leads = m.leads;
      count = length-map vs k.to ∙ m.count;
      from = m.from;
      elements = same_elements b lo m.start m.start m.after vs m.elements;
      ends = m.ends ∙ ap (λ n. m.start + text_len b at * n) k.size;
    };
  }

-- the own bytes of values one after another
abbrev pub joined : List (List ℕ) → List ℕ
joined = flat_map (λ own. own)

module _ {M R : Type 0} (T : Archival M R) (t : IsLawful T.kind) (is_value : IsArchived T) where
  -- how many own bytes elements have
  pub row_length : (from at : ℕ) (xs : List M) (writes : List Write) (rs : List R) (owns : List (List ℕ)) → ElementsImage T from xs writes rs → AreResolved T at xs rs owns → All T.IsIn xs → length (joined owns) ≡ length xs * T.kind.size
  row_length from at [] writes rs owns h a is_in = ap (λ os. length (joined os)) a.1 ∙ omega arith
  row_length from at (x ∷ xs) writes rs owns h a is_in =
      let first : a.0 ≡ h.2 = cc (a.6, h.7) in
      let others : a.1 ≡ h.3 = cc (a.6, h.7) in
      let own = (is_value x from at h.0 h.2 a.2 (All-head T.IsIn x xs is_in) h.4 (subst (λ r. T.Resolves x r at a.2) first a.4)).0 in
      let rest = row_length (end_of from h.0) (at + T.kind.size) xs h.1 h.3 a.3 h.5 (subst (λ qs. AreResolved T (at + T.kind.size) xs qs a.3) others a.5) (All-tail T.IsIn x xs is_in) in
      ap (λ os. length (joined os)) a.7 ∙ omega (arith, length-append a.2 (joined a.3), own, rest, suc-mul (length xs) T.kind.size)

  -- what a buffer means that holds what elements write, and their own bytes after that
  pub elements_meant : IsTrue T.kind.is_fitting → (b : List ℕ) (lo p from at : ℕ) (xs : List M) (writes : List Write) (rs : List R) (owns : List (List ℕ)) → ElementsImage T from xs writes rs → AreResolved T at xs rs owns → All T.IsIn xs → AllReach writes → length b ≤ 4294967295 → lo ≤ from → from + length (appended writes) ≤ p → p ≤ at → IsAligned T.kind.align at →
      at + length xs * T.kind.size ≤ length b → Holds b from (appended writes) → Holds b at (joined owns) → (left : ℕ) × Elements T.kind b lo p at left (map T.meaning xs)
  elements_meant fits b lo p from at [] writes rs owns h a is_in reach short low high before aligned inside held there = (lo, refl)
  elements_meant fits b lo p from at (x ∷ xs) writes rs owns h a is_in reach short low high before aligned inside held there =
      let first : a.0 ≡ h.2 = cc (a.6, h.7) in
      let others : a.1 ≡ h.3 = cc (a.6, h.7) in
      let split : appended writes ≡ appended h.0 ++ appended h.1 = ap appended h.6 ∙ appended-append h.0 h.1 in
      let long = ap length split ∙ length-append (appended h.0) (appended h.1) in
      let reaches = reach_split h.0 h.1 (subst AllReach h.6 reach) in
      let outlying = subst (Holds b from) split held in
      let own = subst (λ os. Holds b at (joined os)) a.7 there in
      let place : at + length xs * T.kind.size + T.kind.size ≤ length b = omega (arith, inside, after_one at (length xs) T.kind.size) in
      let value = is_value x from at h.0 h.2 a.2 (All-head T.IsIn x xs is_in) h.4 (subst (λ r. T.Resolves x r at a.2) first a.4) in
      let m = value.1 fits b reaches.0 short aligned (omega (arith, long)) (omega arith) (Holds-front b from (appended h.0) (appended h.1) outlying) (Holds-front b at a.2 (joined a.3) own) in
      let l = t.lies _ _ _ _ _ _ m.1 in
      let wide = t.widens b from (end_of from h.0) at m.0 lo p (T.meaning x) low (omega (arith, long)) before m.1 in
      let rest = elements_meant fits b wide.0 p (end_of from h.0) (at + T.kind.size) xs h.1 h.3 a.3 h.5 (subst (λ qs. AreResolved T (at + T.kind.size) xs qs a.3) others a.5) (All-tail T.IsIn x xs is_in) reaches.1 short (omega (arith, wide.1, l.kept)) (omega (arith, long, high)) (omega arith) (aligned_add T.kind.align at T.kind.size aligned t.whole) (omega arith)
      (Holds-back b from (appended h.0) (appended h.1) outlying) (Holds-at b (at + length a.2) (at + T.kind.size) (joined a.3) (omega (arith, value.0)) (Holds-back b at a.2 (joined a.3) own)) in
      (rest.0, (wide.0, wide.2, rest.1))

  module _ {X : Type 0} (elements : X → List M) where
    pub vector_archived : IsArchived (vector_archival T elements)
    vector_archived x from at writes start own is_in w is = (
      ap length is.1,
      λ fits b reach short aligned before inside held there.
          let xs = elements x in
          let mid = end_of from w.first in
          let flat = joined w.row.owns in
          let pads = appended (padding T.kind.align mid) in
          let positive = alignment_positive t.alignment in
          let pad = length-padding T.kind.align mid positive in
          let back : appended w.second ≡ pads ++ (flat ++ []) = ap appended w.row.image ∙ appended-append (padding T.kind.align mid) _ in
          let split : appended writes ≡ appended w.first ++ (pads ++ (flat ++ [])) = ap appended w.both ∙ (appended-append w.first w.second ∙ ap (λ bs. appended w.first ++ bs) back) in
          let size = row_length from (round_up mid T.kind.align) xs w.first w.rs w.row.owns w.elements w.row.resolved is_in in
          let long = ap length split ∙ (length-append (appended w.first) (pads ++ (flat ++ [])) ∙ ap (λ n. length (appended w.first) + n) (length-append pads (flat ++ []) ∙ ap (λ n. length pads + n) (ap length (append-nil flat)))) in
          let end : from + length (appended writes) ≡ start + length xs * T.kind.size = omega (arith, long, pad, size, w.place) in
          let whole = subst (Holds b from) split held in
          let row = Holds-at b (mid + length pads) (round_up mid T.kind.align) flat (omega (arith, pad)) (Holds-front b (mid + length pads) flat [] (Holds-back b mid pads (flat ++ []) (Holds-back b from (appended w.first) (pads ++ (flat ++ [])) whole))) in
          let reaches = reach_split w.first w.second (subst AllReach w.both reach) in
          let above = le-round_up mid T.kind.align positive in
          let m = elements_meant (fitting_vector T.kind fits).element b from (round_up mid T.kind.align) from (round_up mid T.kind.align) xs w.first w.rs w.row.owns w.elements w.row.resolved is_in reaches.0 short (omega arith) above (omega arith) (round_up-aligned mid T.kind.align) (omega (arith, end, w.place)) (Holds-front b from (appended w.first) (pads ++ (flat ++ [])) whole) row in
          let own_at : Holds b at (text_own at start (length xs)) = subst (Holds b at) is.1 there in
          let leads = text_leads b at start (length xs) is.0 short inside own_at (omega (arith, end)) in
          let count = text_count b at start (length xs) is.0 short inside own_at in (
            start + length xs * T.kind.size,
            record {
              lies = record { short = short; inside = inside; aligned = aligned; forward = omega (arith, end); kept = omega (arith, end); before = before };
              start = start;
              after = m.0;
              leads = leads;
              count = length-map xs T.meaning ∙ sym count;
              from = omega (arith, w.place, above);
              elements = subst (λ s. Elements T.kind b from s s m.0 (map T.meaning xs)) (sym w.place) m.1;
              ends = ap (λ n. start + n * T.kind.size) (sym count);
            },
          ),
    )
