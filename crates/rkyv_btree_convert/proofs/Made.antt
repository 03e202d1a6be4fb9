-- What comes of entries that are taken in turn, into a map or a list.
use Rattle.std.proofs.Common.{◌≡◌, ℕ, List, [], ◌∷◌, map, sym, ap, ◌∙◌}
use Rattle.std.specs.List.{fold}
use Rattle.std.specs.Prelude.{Result, Ok, Err}
use Rattle.std.specs.Result.{result_map_both}
use Rattle.rkyv_btree_writer.specs.declared.fault.EntryFault.{EntryFault}
use Rattle.rkyv_btree_portable.specs.Kind.{Kind}
use Rattle.rkyv_btree_format.specs.Layout.{layout_of}
use Rattle.rkyv_btree_format.specs.Read.{map_tree, read_map}
use Rattle.rkyv_btree_shape.specs.Tree.{list}
use Rattle.rkyv_btree_convert.specs.declared.deserialize.DeserializeFault.{DeserializeFault}
use Rattle.rkyv_btree_convert.specs.declared.deserialize.DeserializeFault.TheVariants.{Memory, Entry}
use Rattle.rkyv_btree_convert.specs.Deserializing.{IsByMeaning, IsRefused, all, both}
use Rattle.rkyv_btree_convert.specs.Maps.{decoded_entries}
use Rattle.rkyv_btree_convert.specs.laws.Maps.{given_by_meaning}
use Rattle.rkyv_btree_convert.proofs.Puts.{take_all, all_taken}

module _ (K V : Kind) (E : ℕ) {A B M : Type 0} {key : List ℕ → ℕ → Result A EntryFault} {value : List ℕ → ℕ → Result B EntryFault} (k : IsByMeaning K key) (v : IsByMeaning V value) (step : M → A × B → M) (none : M) where
  -- what an entry gives, by what its key and its value mean
  abbrev pub gives : K.Value × V.Value → Result (A × B) EntryFault
  gives e = both (k.of_value e.0) (v.of_value e.1)

  -- what all entries make, or the first fault
  abbrev pub made_of : List ℕ → ℕ → Result M EntryFault
  made_of b at = result_map_both (fold step none) (λ fault. fault) (decoded_entries K V E key value b at)

  -- `m` was made of the map at a position, and `rest` is left to be taken
  pub record IsMade (b : List ℕ) (at : ℕ) (m : M) (rest : List (K.Value × V.Value)) : Type 0 where
    pub start : M
    pub entries : List (K.Value × V.Value)
    pub empty : start ≡ none
    pub all : entries ≡ read_map K V E b at
    pub comes : take_all step m (map gives rest) ≡ take_all step start (map gives entries)

  module _ (b : List ℕ) (at : ℕ) (m : M) (rest : List (K.Value × V.Value)) (made : IsMade b at m rest) where
    gives_rest : made_of b at ≡ take_all step m (map gives rest)
    gives_rest =
        ap (λ given. result_map_both (fold step none) (λ fault. fault) (all given)) (given_by_meaning K V E k.of_value v.of_value k.by_value v.by_value b (list (map_tree (layout_of K V E) b at)))
        ∙ sym (all_taken step none (map gives (read_map K V E b at)))
        ∙ ap (λ xs. take_all step none (map gives xs)) (sym made.all)
        ∙ ap (λ start. take_all step start (map gives made.entries)) (sym made.empty)
        ∙ sym made.comes

    pub all_made : rest ≡ [] → made_of b at ≡ Ok m
    all_made none = gives_rest ∙ ap (λ xs. take_all step m (map gives xs)) none

    -- the next entry, whose parts are read at these places, is refused
    pub next_refused : (c d : List ℕ) (p q : ℕ) (more : List (K.Value × V.Value)) → rest ≡ (K.read c p, V.read d q) ∷ more → (fault : DeserializeFault) → IsRefused (both (key c p) (value d q)) fault
        → IsRefused (made_of b at) fault
    next_refused c d p q more next (Memory error) refused = tt
    next_refused c d p q more next (Entry fault) refused =
        let given : gives (K.read c p, V.read d q) ≡ Err fault = rw (← k.by_value c p, ← v.by_value d q) refused in
        gives_rest
        ∙ ap (λ xs. take_all step m (map gives xs)) next
        ∙ ap (λ x. take_all step m (x ∷ map gives more)) given

    -- the next entry, whose parts are read at these places, is taken
    pub next_taken : (c d : List ℕ) (p q : ℕ) (more : List (K.Value × V.Value)) → rest ≡ (K.read c p, V.read d q) ∷ more → (e : A × B) → both (key c p) (value d q) ≡ Ok e → (n : M) → n ≡ step m e
        → take_all step n (map gives more) ≡ take_all step made.start (map gives made.entries)
    next_taken c d p q more next e given n taken =
        let gave : gives (K.read c p, V.read d q) ≡ Ok e = rw (← k.by_value c p, ← v.by_value d q) given in
        ap (λ n. take_all step n (map gives more)) taken
        ∙ sym (ap (λ x. take_all step m (x ∷ map gives more)) gave)
        ∙ sym (ap (λ xs. take_all step m (map gives xs)) next)
        ∙ made.comes
