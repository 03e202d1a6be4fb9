-- What a lookup returns in bytes that nobody has validated. It goes from step to step, and fails at the first that gives an error.
use Rattle.std.specs.Option.{option_map}
use Rattle.std.specs.Prelude.{◌≡◌, ℕ, suc, zero, IsTrue, List, Option, Some, None, Result, Ok, Err, pos}
use Rattle.std.specs.declared.cmp.Ordering.{Ordering}
use Rattle.std.specs.declared.cmp.Ordering.TheVariants.{Equal}
use Rattle.rkyv_btree_portable.specs.Kind.{Kind}
use Rattle.rkyv_btree_format.specs.Read.{entry_at}
use Rattle.rkyv_btree_portable.specs.declared.refusal.Refusal.{Refusal}
use Rattle.rkyv_btree_portable.specs.declared.refusal.Refusal.TheVariants.{TooDeep}
use Rattle.rkyv_btree_portable.specs.Views.{stands}
use Rattle.rkyv_btree_unverified.specs.Steps.{value_place, Then, NodeGives, ChildGives, HeadGives, KeysGive, Gives}
use Rattle.rkyv_btree_unverified.specs.declared.search.Halt.{Halt}
use Rattle.rkyv_btree_unverified.specs.declared.search.Halt.TheVariants.{Found, Below}
use Rattle.rkyv_btree_view.specs.Lookup.{found_at}
use Rattle.rkyv_btree_view.specs.Map.{IsMap}

module _ (K V : Kind) (E : ℕ) (b : List ℕ) (comparison : K.Value → Ordering) (KRefuses VRefuses : List ℕ → ℕ → ℕ → ℕ → Refusal → Type 0) where
  -- what the search returns that goes on with a child, whose search is given; and one that goes on at an entry of the node at p
  abbrev pub AtChild : (ℕ → Result (Option (ℕ × ℕ)) Refusal → Type 0) → Option ℕ → Result (Option (ℕ × ℕ)) Refusal → Type 0
  AtChild below None r = r ≡ Ok None
  AtChild below (Some q) r = below q r

  abbrev pub AtHalt : (ℕ → Result (Option (ℕ × ℕ)) Refusal → Type 0) → ℕ → ℕ → Halt → Result (Option (ℕ × ℕ)) Refusal → Type 0
  AtHalt below hi p (Found i) r = r ≡ Ok (Some (p, i))
  AtHalt below hi p (Below i) r = Then (ChildGives K V E b hi p i) (AtChild below) r

  -- what the search returns of the tree at p in front of hi, of at most so many levels
  unfoldable pub TreeGives : ℕ → ℕ → ℕ → Result (Option (ℕ × ℕ)) Refusal → Type 0
  TreeGives zero hi p r = r ≡ Err (TooDeep (pos p))
  TreeGives (suc levels) hi p r = Then (NodeGives K V E b hi p) (λ n. Then (KeysGive K V E b comparison KRefuses VRefuses p n) (AtHalt (TreeGives levels p) hi p)) r

  -- what a lookup in the map at a position returns: the node and the number of an entry, none, or an error
  abbrev pub LookupGives : ℕ → Result (Option (ℕ × ℕ)) Refusal → Type 0
  LookupGives at r = Then (HeadGives K V E b at) (AtChild (TreeGives 32 at)) r

  -- what it returns where the tree may have at most so many levels
  abbrev pub LookupGivesWithin : ℕ → ℕ → Result (Option (ℕ × ℕ)) Refusal → Type 0
  LookupGivesWithin levels at r = Then (HeadGives K V E b at) (AtChild (TreeGives levels at)) r

  -- such a lookup finds nothing, or what is at this place of the entry
  abbrev pub FindsAt : ℕ → {P : Type 0} → (ℕ × ℕ → P) → Option P → Type 0
  FindsAt at of result = (entry : Option (ℕ × ℕ)) × LookupGives at (Ok entry) × (result ≡ option_map of entry)

module _ (K V : Kind) (E : ℕ) (KRefuses VRefuses : List ℕ → ℕ → ℕ → ℕ → Refusal → Type 0) where
  -- a lookup returns one thing
  abbrev pub LookupsAreDetermined : Type 0
  LookupsAreDetermined =
      (b : List ℕ) (comparison : K.Value → Ordering) (at : ℕ) (r s : Result (Option (ℕ × ℕ)) Refusal)
      → LookupGives K V E b comparison KRefuses VRefuses at r → LookupGives K V E b comparison KRefuses VRefuses at s → r ≡ s

  -- the entry that it returns has a valid key, which gives Equal, and a valid value
  abbrev pub FoundIsValid : Type 0
  FoundIsValid =
      (b : List ℕ) (comparison : K.Value → Ordering) (at : ℕ) (e : ℕ × ℕ) → LookupGives K V E b comparison KRefuses VRefuses at (Ok (Some e))
      → Gives K V E b comparison Equal e × IsTrue (stands V b (value_place K V E e))

  -- in an accepted map it returns no error, and finds what a lookup in a view of the map finds
  abbrev pub MapsAreSearched : Type 0
  MapsAreSearched =
      (b : List ℕ) (comparison : K.Value → Ordering) (at : ℕ) (m : List (K.Value × V.Value)) (r : Result (Option (ℕ × ℕ)) Refusal)
      → IsMap K V E b at m → LookupGives K V E b comparison KRefuses VRefuses at r
      → (entry : Option (ℕ × ℕ)) × (r ≡ Ok entry) × (option_map (entry_at K V E b) entry ≡ found_at K V E b at comparison)
