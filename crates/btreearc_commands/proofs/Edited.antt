-- What a write over a value makes of an archive.
use Rattle.std.proofs.Common.{◌≡◌, ℕ, ◌+◌, ◌≤◌, ◌<◌, ◌^◌, ◌↔◌, Bool, true, false, IsTrue, List, ◌++◌, length, take, drop, map, get_or, Option, Some, None, Contains, MatchOption, is_some, refl, sym, ap, subst, ◌∙◌, arith, length-append, length-drop, length-take-le}
use Rattle.std.specs.Int.{w32, to_le_bytes}
use Rattle.std.specs.Option.{option_map}
use Rattle.std.specs.Ordering.{nat_cmp}
use Rattle.std.specs.declared.cmp.Ordering.TheVariants.{Equal}
use Rattle.std.proofs.lemmas.Bool.Decides.{nat_tests}
use Rattle.std.proofs.lemmas.List.{get_or-map, length-map}
use Rattle.rkyv_btree_portable.specs.InPlace.{value_of}
use Rattle.rkyv_btree_format.specs.Read.{entry_at}
use Rattle.rkyv_btree_portable.specs.Scalars.{u32_kind}
use Rattle.rkyv_btree_format.specs.Spells.{Accepted}
use Rattle.rkyv_btree_portable.specs.laws.Natives.{u32_faithful}
use Rattle.rkyv_btree_portable.specs.laws.Scalars.{u32_laws}
use Rattle.rkyv_btree_format.proofs.Readings.{map_is_read}
use Rattle.rkyv_btree_seal.specs.Places.{FindsPlace, PutsEntry, SetsFound}
use Rattle.rkyv_btree_seal.specs.Put.{put_bytes, put_value, WritesValues}
use Rattle.rkyv_btree_walk.specs.Search.{AnyHit, OrderedBy}
use Rattle.btreearc_commands.specs.Opening.{IsArchive, root_of}
use Rattle.btreearc_commands.specs.Setting.{IsSet, SetsValue, value_start}

-- numbers that compare as equal are equal
pub equal_is : (n m : ℕ) → nat_cmp n m ≡ Equal → m ≡ n
equal_is n m h = grind (arith, nat_tests)

pub is_equal : (n m : ℕ) → m ≡ n → nat_cmp n m ≡ Equal
is_equal n m h = grind (arith, nat_tests)

-- a list stays as long where four of its bytes are replaced by four others
same_length : (b own_bytes : List ℕ) (at : ℕ) → length own_bytes ≡ 4 → at + 4 ≤ length b → length (put_bytes b at own_bytes) ≡ length b
same_length b own_bytes at four room =
    let front = length-take-le at b (omega arith) in
    let back = length-drop (at + length own_bytes) b in
    let tail = length-append own_bytes (drop (at + length own_bytes) b) in
    let all = length-append (take at b) (own_bytes ++ drop (at + length own_bytes) b) in
    omega arith

-- some entry compares as equal exactly where the key is one of the keys
pub hit_is_key : (key : ℕ) (entries : List (ℕ × ℕ)) → AnyHit (λ e. nat_cmp key e.0) entries ↔ Contains (map (λ e. e.0) entries) key
hit_is_key key entries = (
  λ hit. (
    hit.0,
    simp length-map hit.1,
    get_or-map (λ e. e.0) entries hit.0 (key, 0) key hit.1 ∙ equal_is key (get_or entries hit.0 (key, 0)).0 (hit.2 (key, 0)),
  ),
  λ there.
      let inside : there.0 < length entries = simp length-map at there.1 in
      (there.0, inside, λ d. is_equal key (get_or entries there.0 d).0 (sym (get_or-map (λ e. e.0) entries there.0 d key inside) ∙ there.2)),
)

is_some-map : {X Y : Type 0} (f : X → Y) (found : Option X) → is_some (option_map f found) ≡ is_some found
is_some-map f None = refl
is_some-map f (Some x) = refl

module _ (key value : ℕ) (small : value < 2 ^ 32) (writes : WritesValues u32_kind u32_kind 5) (b c : List ℕ) (entries : List (ℕ × ℕ)) (opened : IsArchive b entries) where
  -- a search for the key has found this
  abbrev Found : Option (ℕ × ℕ) → Type 0
  Found found = FindsPlace u32_kind u32_kind 5 b (root_of b) (nat_cmp key) found

  -- the entry at the place that is found has the value
  is_set : (place : ℕ × ℕ) → Found (Some place) → PutsEntry u32_kind u32_kind 5 b (root_of b) place (to_le_bytes w32 value) c → IsSet key value entries b place c
  is_set place finds puts =
      let i = puts.entry.0 in
      let there = writes b 0 (root_of b) (root_of b) opened.0 entries opened.1 i place puts.entry.1 in
      let before = there.before in
      let within = there.within in
      let long = same_length b (to_le_bytes w32 value) (value_start place) refl within in
      let made : length c ≡ length (put_bytes b (value_start place) (to_le_bytes w32 value)) = ap length puts.bytes in
      let root : root_of b ≡ root_of c = omega (arith, long, made) in
      record {
        i = i;
        number = puts.entry.1;
        has_key = rw there.means (equal_is key (entry_at u32_kind u32_kind 5 b place).0 finds.search.hit.0);
        before = there.before;
        bytes = puts.bytes;
        archive = (
          opened.0,
          subst (λ (v : ℕ). Accepted u32_kind u32_kind 5 c 0 (root_of c) (root_of c) opened.0 (put_value entries i v)) (u32_faithful.means value small)
              (subst (λ (at : ℕ). Accepted u32_kind u32_kind 5 c 0 at at opened.0 (put_value entries i (value_of u32_kind (to_le_bytes w32 value)))) root
              (puts.accepted i 0 (root_of b) opened.0 entries puts.entry.1 opened.1)),
        );
      }

  -- so it is where one is found, and else nothing is written
  found_or_not : (found : Option (ℕ × ℕ)) (ended : Bool) → Found found → ended ≡ is_some found → MatchOption found (c ≡ b) (λ place. PutsEntry u32_kind u32_kind 5 b (root_of b) place (to_le_bytes w32 value) c)
      → MatchOption found ((ended ≡ false) × (c ≡ b)) (λ place. (ended ≡ true) × IsSet key value entries b place c)
  found_or_not None ended finds is same = (is, same)
  found_or_not (Some place) ended finds is puts = (is, is_set place finds puts)

  -- where the keys are ordered for it, one is found exactly if the key is among them
  set_where_key : (found : Option (ℕ × ℕ)) (ended : Bool) → Found found → ended ≡ is_some found → OrderedBy (λ e. nat_cmp key e.0) entries → (IsTrue ended ↔ Contains (map (λ e. e.0) entries) key)
  set_where_key found ended finds is ordered =
      let read = map_is_read u32_kind u32_kind 5 b u32_laws.is_read u32_laws.is_read 0 (root_of b) (root_of b) opened.0 entries opened.1 in
      let hits = finds.search.complete (subst (OrderedBy (λ e. nat_cmp key e.0)) read ordered) in
      let keys = hit_is_key key entries in
      let same = is_some-map (entry_at u32_kind u32_kind 5 b) found in (
        λ yes. keys.0 (subst (AnyHit (λ e. nat_cmp key e.0)) (sym read) (hits.0 (same ∙ (sym is ∙ yes)))),
        λ there. is ∙ (sym same ∙ hits.1 (subst (AnyHit (λ e. nat_cmp key e.0)) read (keys.1 there))),
      )

  -- what the library ensures of an archive's root is what is promised of the archive
  pub sets_value : (ended : Bool) → SetsFound u32_kind u32_kind 5 b (root_of b) (nat_cmp key) (to_le_bytes w32 value) c ended → SetsValue key value entries b c ended
  sets_value ended sets = record {
    set = subst (λ (found : Option (ℕ × ℕ)). MatchOption found ((ended ≡ false) × (c ≡ b)) (λ place. (ended ≡ true) × IsSet key value entries b place c)) sets.finds.probed
        (found_or_not sets.found ended sets.finds sets.has_found sets.puts);
    complete = set_where_key sets.found ended sets.finds sets.has_found;
  }
