-- Entries serialised one after another.
use Rattle.std.proofs.Common.{◌≡◌, ℕ, ◌+◌, ◌<◌, ◌≤◌, List, [], ◌∷◌, ◌++◌, length, map, drop, get_or, inl, inr, refl, sym, ap, subst, ◌∙◌}
use Rattle.std.proofs.lemmas.List.{append_assoc, append-nil, drop_more, drop_all}
use Rattle.rkyv_btree_writer.specs.Archiving.{Archival, IsUnserialised}
use Rattle.rkyv_btree_writing_laws.specs.Entries.{IsSerialised, AreSerialised, AreUnserialised}
use Rattle.rkyv_btree_writer.specs.Writing.{Writing}
use Rattle.rkyv_btree_writer.specs.declared.fault.Fault.{Fault}

-- all entries are serialised from a state on as far as those that are left
pub record SerialisedSoFar (F : Type 0) {M N R S : Type 0} (K : Archival M R) (V : Archival N S) (from : Writing) (all : List (M × N)) (now : Writing) (xs : List (M × N)) (keys : List R) (values : List S) : Type 0 where
  pub goes : (ks : List R) (vs : List S) (to : Writing) → AreSerialised K V now xs ks vs to → AreSerialised K V from all (keys ++ ks) (values ++ vs) to
  pub stops : (fault : Fault F) (to : Writing) → AreUnserialised K V now xs fault to → AreUnserialised K V from all fault to

module _ {I M N R S : Type 0} (F : Type 0) (K : Archival M R) (V : Archival N S) (borrowed : I → M × N) (from : Writing) (all : List (M × N)) where
  one_serialised : (now mid next : Writing) (x : M × N) (xs : List (M × N)) (r : R) (s : S) (keys : List R) (values : List S) → SerialisedSoFar F K V from all now (x ∷ xs) keys values → IsSerialised K now x.0 r mid → IsSerialised V mid x.1 s next → SerialisedSoFar F K V from all next xs (keys ++ r ∷ []) (values ++ s ∷ [])
  one_serialised now mid next x xs r s keys values so key value = record {
    goes = λ ks vs to h.
        subst (λ zs. AreSerialised K V from all zs ((values ++ s ∷ []) ++ vs) to) (sym (append_assoc keys (r ∷ []) ks))
        (subst (λ zs. AreSerialised K V from all (keys ++ r ∷ ks) zs to) (sym (append_assoc values (s ∷ []) vs)) (so.goes (r ∷ ks) (s ∷ vs) to (r, s, ks, vs, mid, next, key, value, h, refl, refl)));
    stops = λ fault to h. so.stops fault to (inr (inr (r, s, mid, next, key, value, h)));
  }

  cut : (items : List I) (i : ℕ) (d item : I) → i < length items → item ≡ get_or items i d → map borrowed (drop i items) ≡ borrowed item ∷ map borrowed (drop (i + 1) items)
  cut items i d item inside is = ap (map borrowed) (drop_more items i d inside) ∙ ap (λ y. borrowed y ∷ map borrowed (drop (i + 1) items)) (sym is)

  pub next_serialised : (items : List I) (i : ℕ) (d item : I) (now mid next : Writing) (r : R) (s : S) (keys more : List R) (values more2 : List S) → i < length items → item ≡ get_or items i d → more ≡ keys ++ r ∷ [] → more2 ≡ values ++ s ∷ [] → SerialisedSoFar F K V from all now (map borrowed (drop i items)) keys values →
      IsSerialised K now (borrowed item).0 r mid → IsSerialised V mid (borrowed item).1 s next → SerialisedSoFar F K V from all next (map borrowed (drop (i + 1) items)) more more2
  next_serialised items i d item now mid next r s keys more values more2 inside is ek ev so key value =
      subst (λ zs. SerialisedSoFar F K V from all next (map borrowed (drop (i + 1) items)) zs more2) (sym ek) (subst (λ zs. SerialisedSoFar F K V from all next (map borrowed (drop (i + 1) items)) (keys ++ r ∷ []) zs) (sym ev)
      (one_serialised now mid next (borrowed item) (map borrowed (drop (i + 1) items)) r s keys values (subst (λ zs. SerialisedSoFar F K V from all now zs keys values) (cut items i d item inside is) so) key value))

  pub value_unserialised : (items : List I) (i : ℕ) (d item : I) (now mid to : Writing) (r : R) (keys : List R) (values : List S) (fault : Fault F) → i < length items → item ≡ get_or items i d → SerialisedSoFar F K V from all now (map borrowed (drop i items)) keys values → IsSerialised K now (borrowed item).0 r mid → IsUnserialised V (borrowed item).1 mid fault to → AreUnserialised K V from all fault to
  value_unserialised items i d item now mid to r keys values fault inside is so key h =
      (subst (λ zs. SerialisedSoFar F K V from all now zs keys values) (cut items i d item inside is) so).stops fault to (inr (inl (r, mid, key, h)))

  pub all_serialised : (items : List I) (i : ℕ) (to : Writing) (keys : List R) (values : List S) → length items ≤ i → SerialisedSoFar F K V from all to (map borrowed (drop i items)) keys values → AreSerialised K V from all keys values to
  all_serialised items i to keys values end so =
      let none : map borrowed (drop i items) ≡ [] = ap (map borrowed) (drop_all i items end) in
      subst (λ zs. AreSerialised K V from all zs values to) (append-nil keys) (subst (λ zs. AreSerialised K V from all (keys ++ []) zs to) (append-nil values)
      (so.goes [] [] to (subst (λ xs. AreSerialised K V to xs [] [] to) (sym none) (refl, refl, refl))))
