-- Values resolved one after another.
use Rattle.std.proofs.Common.{◌≡◌, ℕ, suc, ◌+◌, ◌<◌, ◌≤◌, List, [], ◌∷◌, ◌++◌, length, map, take, drop, get_or, inl, inr, refl, sym, ap, subst, ◌∙◌}
use Rattle.std.proofs.lemmas.List.{append_assoc, append-nil, drop_more, drop_all, nil_from_length, take_at, length-append, length-map}
use Rattle.std.proofs.lemmas.Grind.{flat_map-append}
use Rattle.std.proofs.lemmas.List.Folds.{flat_map-map}
use Rattle.std.specs.Int.{w32, to_le_bytes}
use Rattle.std.specs.List.{flat_map}
use Rattle.rkyv_btree_writer.specs.Archiving.{Archival, IsUnresolved}
use Rattle.rkyv_btree_portable.specs.Bytes.{filled}
use Rattle.rkyv_btree_writing_laws.specs.Image.{entry_bytes, leaf_bytes}
use Rattle.rkyv_btree_portable.specs.InPlace.{OwnBytes}
use Rattle.rkyv_btree_format.specs.Layout.{NodeLayout, keys_at, values_at, key_at, value_at, len_at, leaf_size}
use Rattle.rkyv_btree_writing_laws.specs.Entries.{AreResolved, AreUnresolved, EntriesResolved, EntriesUnresolved}
use Rattle.rkyv_btree_writer.specs.declared.fault.ResolveFault.{ResolveFault}

-- a part that was written after the old bytes
pub placed : (old whole own post tail : List ℕ) (n start : ℕ) → take start whole ≡ old → n ≡ length old + length own → take n ((take start whole ++ (own ++ post)) ++ tail) ≡ old ++ own
placed old whole own post tail n start front len =
    ap (λ z. take n ((z ++ (own ++ post)) ++ tail)) front
    ∙ (ap (λ z. take n (z ++ tail)) (sym (append_assoc old own post))
    ∙ (ap (take n) (append_assoc (old ++ own) post tail) ∙ take_at (old ++ own) (post ++ tail) n (length-append old own ∙ sym len)))

-- all values from a position on are resolved as far as those that are left
pub record ResolvedSoFar {X R : Type 0} (T : Archival X R) (pos : ℕ) (all : List X) (given : List R) (at : ℕ) (xs : List X) (rs : List R) (done : List (List ℕ)) : Type 0 where
  pub goes : (owns : List (List ℕ)) → AreResolved T at xs rs owns → AreResolved T pos all given (done ++ owns)
  pub stops : (fault : ResolveFault) → AreUnresolved T at xs rs fault → AreUnresolved T pos all given fault

pub none_so_far : {X R : Type 0} (T : Archival X R) (pos : ℕ) (all : List X) (given : List R) → ResolvedSoFar T pos all given pos all given []
none_so_far T pos all given = record { goes = λ owns h. h; stops = λ fault h. h }

pub one_more : {X R : Type 0} (T : Archival X R) (pos : ℕ) (all : List X) (given : List R) (at next : ℕ) (x : X) (xs : List X) (r : R) (rs : List R) (own : List ℕ) (done : List (List ℕ)) → ResolvedSoFar T pos all given at (x ∷ xs) (r ∷ rs) done → T.Resolves x r at own → next ≡ at + T.kind.size → ResolvedSoFar T pos all given next xs rs (done ++ own ∷ [])
one_more T pos all given at next x xs r rs own done so is place = record {
  goes = λ owns h. subst (λ z. AreResolved T pos all given z) (sym (append_assoc done (own ∷ []) owns)) (so.goes (own ∷ owns) (r, rs, own, owns, is, subst (λ n. AreResolved T n xs rs owns) place h, refl, refl));
  stops = λ fault h. so.stops fault (r, rs, refl, inr (own, is, subst (λ n. AreUnresolved T n xs rs fault) place h));
}

pub joined_more : (done : List (List ℕ)) (own old items new : List ℕ) → items ≡ old ++ flat_map (λ b. b) done → new ≡ items ++ own → new ≡ old ++ flat_map (λ b. b) (done ++ own ∷ [])
joined_more done own old items new before after =
    after ∙ (ap (λ z. z ++ own) before ∙ (append_assoc old (flat_map (λ b. b) done) own ∙ ap (λ z. old ++ z) (ap (λ z. flat_map (λ b. b) done ++ z) (sym (append-nil own)) ∙ sym (flat_map-append (λ b. b) done (own ∷ [])))))

-- the next of items, whose values are resolved
pub next_resolved : {I X R : Type 0} (T : Archival X R) (value : I → X) (pos : ℕ) (all : List X) (given : List R) (at next i : ℕ) (items : List I) (d item : I) (r : R) (old rs : List R) (own : List ℕ) (done : List (List ℕ)) → i < length items → item ≡ get_or items i d → old ≡ r ∷ rs → T.Resolves (value item) r at own → next ≡ at + T.kind.size →
    ResolvedSoFar T pos all given at (map value (drop i items)) old done → ResolvedSoFar T pos all given next (map value (drop (i + 1) items)) rs (done ++ own ∷ [])
next_resolved T value pos all given at next i items d item r old rs own done inside is given_is resolves place so =
    let cut : map value (drop i items) ≡ value item ∷ map value (drop (i + 1) items) = ap (map value) (drop_more items i d inside) ∙ ap (λ y. value y ∷ map value (drop (i + 1) items)) (sym is) in
    one_more T pos all given at next (value item) (map value (drop (i + 1) items)) r rs own done
    (subst (λ ys. ResolvedSoFar T pos all given at ys (r ∷ rs) done) cut (subst (λ zs. ResolvedSoFar T pos all given at (map value (drop i items)) zs done) given_is so)) resolves place

-- the next of items isn't resolved
pub next_unresolved : {I X R : Type 0} (T : Archival X R) (value : I → X) (pos : ℕ) (all : List X) (given : List R) (at i : ℕ) (items : List I) (d item : I) (r : R) (old rs : List R) (done : List (List ℕ)) (fault : ResolveFault) → i < length items → item ≡ get_or items i d → old ≡ r ∷ rs → IsUnresolved T (value item) r at fault →
    ResolvedSoFar T pos all given at (map value (drop i items)) old done → AreUnresolved T pos all given fault
next_unresolved T value pos all given at i items d item r old rs done fault inside is given_is stopped so =
    let cut : map value (drop i items) ≡ value item ∷ map value (drop (i + 1) items) = ap (map value) (drop_more items i d inside) ∙ ap (λ y. value y ∷ map value (drop (i + 1) items)) (sym is) in
    so.stops fault (subst (λ ys. AreUnresolved T at ys old fault) (sym cut) (r, rs, given_is, inl stopped))

pub all_resolved : {I X R : Type 0} (T : Archival X R) (value : I → X) (pos : ℕ) (all : List X) (given : List R) (at i : ℕ) (items : List I) (rs : List R) (done : List (List ℕ)) → length items ≤ i → length rs ≡ 0 → ResolvedSoFar T pos all given at (map value (drop i items)) rs done → AreResolved T pos all given done
all_resolved T value pos all given at i items rs done end none so =
    let left : map value (drop i items) ≡ [] = ap (map value) (drop_all i items end) in
    subst (AreResolved T pos all given) (append-nil done) (so.goes [] (subst (λ xs. AreResolved T at xs rs []) (sym left) (nil_from_length rs none, refl)))

pub resolved_length : {X R : Type 0} (T : Archival X R) (at : ℕ) (xs : List X) (rs : List R) (owns : List (List ℕ)) → AreResolved T at xs rs owns → length owns ≡ length xs
resolved_length T at [] rs owns h = ap length h.1
resolved_length T at (x ∷ xs) rs owns h = ap length h.7 ∙ ap suc (resolved_length T (at + T.kind.size) xs h.1 h.3 h.5)

-- two columns as the own bytes of entries
abbrev pub paired : List (List ℕ) → List (List ℕ) → List OwnBytes
paired [] vs = []
paired (k ∷ ks) [] = []
paired (k ∷ ks) (v ∷ vs) = (k, v) ∷ paired ks vs

pub paired_keys : (ks vs : List (List ℕ)) → length ks ≡ length vs → map (λ o. o.0) (paired ks vs) ≡ ks
paired_keys [] vs h = refl
paired_keys (k ∷ ks) [] h = absurd (cc h)
paired_keys (k ∷ ks) (v ∷ vs) h = ap (λ z. k ∷ z) (paired_keys ks vs (cc h))

pub paired_values : (ks vs : List (List ℕ)) → length ks ≡ length vs → map (λ o. o.1) (paired ks vs) ≡ vs
paired_values [] [] h = refl
paired_values [] (v ∷ vs) h = absurd (cc h)
paired_values (k ∷ ks) [] h = absurd (cc h)
paired_values (k ∷ ks) (v ∷ vs) h = ap (λ z. v ∷ z) (paired_values ks vs (cc h))

pub keys_borrowed : {I M N : Type 0} (borrowed : I → M × N) (xs : List I) → map (λ x. x.0) (map borrowed xs) ≡ map (λ x. (borrowed x).0) xs
keys_borrowed borrowed [] = refl
keys_borrowed borrowed (x ∷ xs) = ap (λ z. (borrowed x).0 ∷ z) (keys_borrowed borrowed xs)

pub values_borrowed : {I M N : Type 0} (borrowed : I → M × N) (xs : List I) → map (λ x. x.1) (map borrowed xs) ≡ map (λ x. (borrowed x).1) xs
values_borrowed borrowed [] = refl
values_borrowed borrowed (x ∷ xs) = ap (λ z. (borrowed x).1 ∷ z) (values_borrowed borrowed xs)

module _ {I M N R S : Type 0} (s : NodeLayout) (K : Archival M R) (V : Archival N S) (borrowed : I → M × N) where
  -- both columns of a node's entries
  pub both_resolved : (pos k v : ℕ) (xs : List I) (keys : List R) (values : List S) (kowns vowns : List (List ℕ)) → k ≡ pos + key_at s 0 → v ≡ pos + value_at s 0 → AreResolved K k (map (λ x. (borrowed x).0) xs) keys kowns → AreResolved V v (map (λ x. (borrowed x).1) xs) values vowns → EntriesResolved s K V pos (map borrowed xs) keys values (paired kowns vowns)
  both_resolved pos k v xs keys values kowns vowns ek ev hk hv =
      let same : length kowns ≡ length vowns = resolved_length K k (map (λ x. (borrowed x).0) xs) keys kowns hk ∙ (length-map xs (λ x. (borrowed x).0) ∙ sym (resolved_length V v (map (λ x. (borrowed x).1) xs) values vowns hv ∙ length-map xs (λ x. (borrowed x).1))) in
      record {
        own_keys = subst (λ os. AreResolved K (pos + key_at s 0) (map (λ x. x.0) (map borrowed xs)) keys os) (sym (paired_keys kowns vowns same)) (subst (λ ys. AreResolved K (pos + key_at s 0) ys keys kowns) (sym (keys_borrowed borrowed xs)) (subst (λ n. AreResolved K n (map (λ x. (borrowed x).0) xs) keys kowns) ek hk));
        own_values = subst (λ os. AreResolved V (pos + value_at s 0) (map (λ x. x.1) (map borrowed xs)) values os) (sym (paired_values kowns vowns same)) (subst (λ ys. AreResolved V (pos + value_at s 0) ys values vowns) (sym (values_borrowed borrowed xs)) (subst (λ n. AreResolved V n (map (λ x. (borrowed x).1) xs) values vowns) ev hv));
      }

  pub key_unresolved : (pos k : ℕ) (xs : List I) (keys : List R) (values : List S) (fault : ResolveFault) → k ≡ pos + key_at s 0 → AreUnresolved K k (map (λ x. (borrowed x).0) xs) keys fault → EntriesUnresolved s K V pos (map borrowed xs) keys values fault
  key_unresolved pos k xs keys values fault ek h = inl (subst (λ ys. AreUnresolved K (pos + key_at s 0) ys keys fault) (sym (keys_borrowed borrowed xs)) (subst (λ n. AreUnresolved K n (map (λ x. (borrowed x).0) xs) keys fault) ek h))

  pub value_unresolved : (pos v : ℕ) (xs : List I) (keys : List R) (values : List S) (fault : ResolveFault) → v ≡ pos + value_at s 0 → AreUnresolved V v (map (λ x. (borrowed x).1) xs) values fault → EntriesUnresolved s K V pos (map borrowed xs) keys values fault
  value_unresolved pos v xs keys values fault ev h = inr (subst (λ ys. AreUnresolved V (pos + value_at s 0) ys values fault) (sym (values_borrowed borrowed xs)) (subst (λ n. AreUnresolved V n (map (λ x. (borrowed x).1) xs) values fault) ev h))

-- the bytes of a node's kind and entries, part by part
pub filled_columns : (s : NodeLayout) (kind k v : ℕ) (kowns vowns : List (List ℕ)) (b0 b1 b2 b3 b4 b5 : List ℕ) → length kowns ≡ length vowns → k ≡ keys_at s → v ≡ values_at s → b0 ≡ [] → b1 ≡ b0 ++ kind ∷ [] → b2 ≡ filled b1 k → b3 ≡ b2 ++ flat_map (λ b. b) kowns → b4 ≡ filled b3 v → b5 ≡ b4 ++ flat_map (λ b. b) vowns → b5 ≡ entry_bytes s kind (paired kowns vowns)
filled_columns s kind k v kowns vowns b0 b1 b2 b3 b4 b5 same ek ev e0 e1 e2 e3 e4 e5 =
    let owns = paired kowns vowns in
    let keys : flat_map (λ (o : OwnBytes). o.0) owns ≡ flat_map (λ b. b) kowns = sym (flat_map-map (λ b. b) (λ (o : OwnBytes). o.0) owns) ∙ ap (flat_map (λ b. b)) (paired_keys kowns vowns same) in
    let values : flat_map (λ (o : OwnBytes). o.1) owns ≡ flat_map (λ b. b) vowns = sym (flat_map-map (λ b. b) (λ (o : OwnBytes). o.1) owns) ∙ ap (flat_map (λ b. b)) (paired_values kowns vowns same) in
    rw (keys, values)
    (e5 ∙ ap (λ z. z ++ flat_map (λ b. b) vowns)
    (e4 ∙ ap (filled b3) ev ∙ ap (λ z. filled z (values_at s))
    (e3 ∙ ap (λ z. z ++ flat_map (λ b. b) kowns)
    (e2 ∙ ap (filled b1) ek ∙ ap (λ z. filled z (keys_at s)) (e1 ∙ ap (λ z. z ++ kind ∷ []) e0)))))

pub entries_length : {M N R S : Type 0} (s : NodeLayout) (K : Archival M R) (V : Archival N S) (pos : ℕ) (xs : List (M × N)) (keys : List R) (values : List S) (owns : List OwnBytes) → EntriesResolved s K V pos xs keys values owns → length owns ≡ length xs
entries_length s K V pos xs keys values owns h = sym (length-map owns (λ o. o.0)) ∙ (resolved_length K (pos + key_at s 0) (map (λ x. x.0) xs) keys (map (λ o. o.0) owns) h.own_keys ∙ length-map xs (λ x. x.0))

-- a leaf's bytes, after its kind and entries
pub filled_leaf : (s : NodeLayout) (owns : List OwnBytes) (count len size : ℕ) (b0 b1 b2 b3 : List ℕ) → count ≡ length owns → len ≡ len_at s → size ≡ leaf_size s → b0 ≡ entry_bytes s 0 owns → b1 ≡ filled b0 len → b2 ≡ b1 ++ to_le_bytes w32 count → b3 ≡ filled b2 size → b3 ≡ leaf_bytes s owns
filled_leaf s owns count len size b0 b1 b2 b3 ec el es e0 e1 e2 e3 =
    e3 ∙ ap (filled b2) es ∙ ap (λ z. filled z (leaf_size s))
    (e2 ∙ ap (λ n. b1 ++ to_le_bytes w32 n) ec ∙ ap (λ z. z ++ to_le_bytes w32 (length owns)) (e1 ∙ ap (filled b0) el ∙ ap (λ z. filled z (len_at s)) e0))
