-- What is built of entries that C hands in.
use Rattle.std.proofs.Common.{◌≡◌, ℕ, ◌+◌, ◌-◌, ◌<◌, ◌≤◌, ◌∙◌, IsTrue, List, [], ◌∷◌, ◌++◌, length, map, take, drop, get_or, Bor, refl, sym, ap, subst, arith, inl, inr, append_assoc, length-take}
use Rattle.std.specs.Prelude.{Result, Ok, Err, IfOk, OnOk, IfErr}
use Rattle.std.specs.Iterator.{Yields, Drains, YieldsFirstBy}
use Rattle.std.specs.List.{All, AllZip, AllByRecursion, range_with_len}
use Rattle.std.specs.List.Sorted.{IsStrictlySortedBy}
use Rattle.std.specs.Map.{keys_of}
use Rattle.std.specs.declared.alloc.AllocError.{AllocError}
use Rattle.std.specs.declared.alloc.Global.{Global}
use Rattle.std.specs.declared.vec.Vec.{Vec}
use Rattle.std.specs.declared.cmp.Ordering.{Ordering}
use Rattle.std.specs.declared.cmp.Ordering.TheVariants.{Less}
use Rattle.std.proofs.lemmas.List.{append-nil, length-map, map-append, take_more, take-append-drop}
use Rattle.std.proofs.lemmas.List.Elements.{All-more}
use Rattle.std.proofs.lemmas.List.FromFn.{get_or-range_with_len, length-range_with_len}
use Rattle.rkyv_btree_writer.specs.Archiving.{Archival, Matches, IsArchived, IsUnserialised, Serialises, itself}
use Rattle.rkyv_btree_writer.specs.Causes.{HasCauses}
use Rattle.rkyv_btree_writing_laws.specs.Entries.{now_of}
use Rattle.rkyv_btree_writer.specs.declared.fault.EntryFault.{EntryFault}
use Rattle.rkyv_btree_writer.specs.declared.fault.Fault.{Fault}
use Rattle.rkyv_btree_writer.specs.declared.fault.Fault.TheVariants.{Length, LengthOverflow, PositionOverflow, OffsetOverflow, Writer, Memory, Entry, OutOfOrder}
use Rattle.rkyv_btree_format.specs.Increasing.{Increasing as AreIncreasing, IsOutOfOrder}
use Rattle.rkyv_btree_portable.specs.Kind.{Kind, IsLawful}
use Rattle.rkyv_btree_format.specs.Layout.{NodeLayout, are_fitting, layout_of}
use Rattle.rkyv_btree_verify.specs.Map.{map_kind}
use Rattle.rkyv_btree_writing_laws.specs.Miscounts.{IsMiscount}
use Rattle.rkyv_btree_shape.specs.Plan.{planned_alone}
use Rattle.rkyv_btree_writing_laws.specs.Serialising.{Built, BuildsTree, BuildFault as TreeCause, RootFault}
use Rattle.rkyv_btree_writing_laws.specs.Image.{root_image}
use Rattle.rkyv_btree_writing_laws.specs.Kept.{OnlyAppended}
use Rattle.rkyv_btree_writing_laws.specs.Archives.{WrittenIsHeld}
use Rattle.rkyv_btree_portable.specs.Rounding.{round_up}
use Rattle.rkyv_btree_format.specs.Spells.{Accepted}
use Rattle.rkyv_btree_writing_laws.specs.SmallestMaps.{entry_value, ArchivesItems, IsArchive}
use Rattle.rkyv_btree_writing_laws.specs.StrictBuilding.{StrictFault, BuildsInOrder}
use Rattle.rkyv_btree_writing_laws.specs.TreeArchival.{tree_archival, nodes}
use Rattle.rkyv_btree_writing_laws.specs.Whole.{fresh}
use Rattle.rkyv_btree_format.specs.OwnBytes.{IsArchiveOf}
use Rattle.rkyv_btree_writer.specs.Writing.{Writing, Wrote, position, last_end}
use Rattle.rkyv_btree_writing_laws.proofs.Accepting.{archive_length}
use Rattle.rkyv_btree_writing_laws.proofs.TreeSerialised.{list_unserialised}
use Rattle.rkyv_btree_ffi.specs.Building.{IsFirstBad, IsBuiltOf, IsUnbuiltOf, StopsWith, IsEntryOf, given, IsRowOf, row, Archives, ArchivesColumns}
use Rattle.rkyv_btree_ffi.specs.Columns.{IsNativeCell}
use Rattle.rkyv_btree_ffi.specs.Items.{Native, Resolver, archival_of, native_value, IsNative}
use Rattle.rkyv_btree_ffi.specs.Lengths.{IsArchiveOfLength, least_len, most_len, texts_len}
use Rattle.rkyv_btree_ffi.specs.MapTypes.{key_kind, value_kind, kind_of}
use Rattle.rkyv_btree_ffi.specs.declared.building.BuildFault.{BuildFault}
use Rattle.rkyv_btree_ffi.specs.declared.building.BuildFault.TheVariants.{BadItem, Unbuilt}
use Rattle.rkyv_btree_ffi.specs.declared.column.BtreeColumn.{BtreeColumn}
use Rattle.rkyv_btree_ffi.specs.declared.order.Order.{Order}
use Rattle.rkyv_btree_ffi.specs.declared.order.Order.TheVariants.{Any, Increasing}
use Rattle.rkyv_btree_ffi.specs.declared.item.BtreeEntry.{BtreeEntry}
use Rattle.rkyv_btree_ffi.specs.declared.map_type.ItemType.{ItemType}
use Rattle.rkyv_btree_ffi.specs.declared.map_type.ItemType.TheVariants.{U32, U64, I64, Text, Bytes, Empty}
use Rattle.rkyv_btree_ffi.specs.declared.map_type.MapType.{MapType}
use Rattle.rkyv_btree_ffi.specs.mirror.Natives.{GivesBoth, native_meaning, NativesStop, TreeFault, NativeFault, AreGiven, ArchivesNatives, HasTree, BuiltGiven, UnbuiltGiven}
use Rattle.rkyv_btree_ffi.proofs.ArchiveLengths.{between}
use Rattle.rkyv_btree_ffi.proofs.Never.{never_refused}

-- the entry at an index is the first bad one
pub first_bad : {E : Type 0} (IsOf : E → Type 0) (entries : List E) (i : ℕ) (d : E) → i < length entries → All IsOf (take i entries) → (IsOf (get_or entries i d) → ⊥) → IsFirstBad IsOf entries i
first_bad IsOf entries i d inside good bad = record {
  front = take i entries;
  entry = get_or entries i d;
  back = drop (i + 1) entries;
  parts = sym (take-append-drop (i + 1) entries) ∙ (ap (λ xs. xs ++ drop (i + 1) entries) (take_more entries i d inside) ∙ append_assoc (take i entries) (get_or entries i d ∷ []) (drop (i + 1) entries));
  number = omega (arith, length-take i entries, inside);
  good = good;
  bad = bad;
}

-- items that came are the first of what was left, and all items are all of it
pub yielded : {P M N : Type 0} (rest : P → List (M × N)) (s : P) (items : List (Bor M × Bor N)) (t : P) → Yields (YieldsFirstBy now_of rest) s items t → rest s ≡ map now_of items ++ rest t
yielded rest s [] t y = ap rest y
yielded rest s (x ∷ items) t y = y.1 ∙ ap (λ ys. now_of x ∷ ys) (yielded rest y.0 items t y.2)

pub drained : {P M N : Type 0} (rest : P → List (M × N)) (s : P) (items : List (Bor M × Bor N)) → Drains (YieldsFirstBy now_of rest) s items → map now_of items ≡ rest s
drained rest s items d = sym (append-nil (map now_of items)) ∙ (ap (λ left. map now_of items ++ left) (sym d.1.2.0) ∙ sym (yielded rest s items d.1.0 d.1.1))

module _ {M N R S : Type 0} (KA : Archival M R) (VA : Archival N S) where
  -- keys that increase, as what they mean
  module _ (cmp : M → M → Ordering) (same : (x y : M) → cmp x y ≡ KA.kind.order (KA.meaning x) (KA.meaning y)) where
    less_meant : (x : M) (xs : List (M × N)) → AllByRecursion (λ y. cmp x y ≡ Less) (keys_of xs) → AllByRecursion (λ y. KA.kind.order (KA.meaning x) y ≡ Less) (keys_of (map (native_meaning KA VA) xs))
    less_meant x [] h = tt
    less_meant x (y ∷ ys) h = (sym (same x y.0) ∙ h.0, less_meant x ys h.1)

    pub increasing_meant : (xs : List (M × N)) → AreIncreasing cmp xs → AreIncreasing KA.kind.order (map (native_meaning KA VA) xs)
    unfolding IsStrictlySortedBy
    increasing_meant [] h = tt
    increasing_meant (x ∷ xs) h = (less_meant x.0 xs h.0, increasing_meant xs h.1)

    pub out_of_order_meant : (xs : List (M × N)) (index : ℕ) → IsOutOfOrder cmp xs index → IsOutOfOrder KA.kind.order (map (native_meaning KA VA) xs) index
    out_of_order_meant xs index o =
        let meant = native_meaning KA VA in
        record {
          front = map meant o.front;
          before = meant o.before;
          entry = meant o.entry;
          back = map meant o.back;
          parts = ap (map meant) o.parts ∙ map-append meant o.front (o.before ∷ o.entry ∷ o.back);
          number = o.number ∙ ap (λ n. n + 1) (sym (length-map o.front meant));
          first = subst (λ zs. AreIncreasing KA.kind.order zs) (map-append meant o.front (o.before ∷ [])) (increasing_meant (o.front ++ o.before ∷ []) o.first);
          not_greater = λ e. o.not_greater (same o.before.0 o.entry.0 ∙ e);
        }

  -- why there is no archive of native entries
  module _ (cmp : M → M → Ordering) (order : Order) (natives : List (M × N)) where
    pub tree_fault : (from : Writing) (fault : Fault AllocError) (to : Writing) → IsUnserialised (tree_archival 5 KA VA (λ xs. xs)) natives from fault to → TreeFault KA VA cmp order natives from fault to
    tree_fault from (Length m) to h = h
    tree_fault from LengthOverflow to h = h
    tree_fault from PositionOverflow to h = h
    tree_fault from OffsetOverflow to h = h
    tree_fault from (Writer error) to h = h
    tree_fault from (Memory error) to h = h
    tree_fault from (Entry f) to h = h
    tree_fault from (OutOfOrder index) to h = absurd h

    pub fault_of_tree : (fault : Fault AllocError) (to : Writing) → TreeFault KA VA cmp order natives fresh fault to → NativeFault KA VA cmp order natives fault
    fault_of_tree (Length m) to h = (to, inl h)
    fault_of_tree LengthOverflow to h = (to, inl h)
    fault_of_tree PositionOverflow to h = (to, inl h)
    fault_of_tree OffsetOverflow to h = (to, inl h)
    fault_of_tree (Writer error) to h = (to, inl h)
    fault_of_tree (Memory error) to h = (to, inl h)
    fault_of_tree (Entry f) to h = (to, inl h)
    fault_of_tree (OutOfOrder index) to h = h

    pub fault_of_root : (root : ℕ) (mid : Writing) (fault : Fault AllocError) (to : Writing) → Serialises (tree_archival 5 KA VA (λ xs. xs)) natives fresh mid root → RootFault root (length natives) mid fault to → NativeFault KA VA cmp order natives fault
    fault_of_root root mid (Length m) to s h = absurd h
    fault_of_root root mid LengthOverflow to s h = (to, inr (root, mid, s, h))
    fault_of_root root mid PositionOverflow to s h = (to, inr (root, mid, s, h))
    fault_of_root root mid OffsetOverflow to s h = (to, inr (root, mid, s, h))
    fault_of_root root mid (Writer error) to s h = (to, inr (root, mid, s, h))
    fault_of_root root mid (Memory error) to s h = absurd h
    fault_of_root root mid (Entry f) to s h = absurd h
    fault_of_root root mid (OutOfOrder index) to s h = absurd h

-- the first entry out of order is so in a longer list
longer : {A B : Type 0} (cmp : A → A → Ordering) (entries first later : List (A × B)) (index : ℕ) → entries ≡ first ++ later → IsOutOfOrder cmp first index → IsOutOfOrder cmp entries index
longer cmp entries first later index is o = record {
  front = o.front;
  before = o.before;
  entry = o.entry;
  back = o.back ++ later;
  parts = is ∙ (ap (λ xs. xs ++ later) o.parts ∙ append_assoc o.front (o.before ∷ o.entry ∷ o.back) later);
  number = o.number;
  first = o.first;
  not_greater = o.not_greater;
}

-- why the tree of native entries isn't written
module _ {M N R S P : Type 0} (K V : Kind) (KA : Archival M R) (VA : Archival N S) (key : Matches KA.kind K) (value : Matches VA.kind V) (k : IsLawful KA.kind) (v : IsLawful VA.kind) (fits : IsTrue (are_fitting K V 5))
    (ka : IsArchived KA) (va : IsArchived VA) (kc : HasCauses KA) (vc : HasCauses VA) (cmp : M → M → Ordering) (natives : List (M × N)) (rest : P → List (M × N)) (iter : P) (is : rest iter ≡ natives) (from to : Writing) where
  abbrev Cause : Fault AllocError → Type 0
  Cause fault = TreeCause K V 5 KA VA now_of (YieldsFirstBy now_of rest) iter (length natives) from fault to

  unserialised : (fault : Fault AllocError) → (length natives ≡ 0 → IsMiscount fault) → Cause fault → IsUnserialised (tree_archival 5 KA VA (λ xs. xs)) natives from fault to
  unserialised fault none h =
      list_unserialised 5 K V KA VA key value k v fits (λ xs. xs) natives from to now_of (YieldsFirstBy now_of rest) iter (length natives) (λ items d. drained rest iter items d ∙ is)
      ka va kc vc (λ items end y. (rest end, sym is ∙ yielded rest iter items end y)) refl (Err fault) none h

  pub any_fault : (fault : Fault AllocError) → (length natives ≡ 0 → IsMiscount fault) → Cause fault → TreeFault KA VA cmp Any natives from fault to
  any_fault fault none h = tree_fault KA VA cmp Any natives from fault to (unserialised fault none h)

  pub strict_fault : (fault : Fault AllocError) → (length natives ≡ 0 → IsMiscount fault) → StrictFault cmp K V 5 KA VA now_of (YieldsFirstBy now_of rest) iter (length natives) from fault to → TreeFault KA VA cmp Increasing natives from fault to
  strict_fault (OutOfOrder index) none h = (refl, longer cmp natives (map now_of h.items) (rest h.rest) index (sym is ∙ yielded rest iter h.items h.rest h.taken) h.out)
  strict_fault (Length m) none h = unserialised (Length m) none h.0
  strict_fault LengthOverflow none (inl h) = unserialised LengthOverflow none (inl h)
  strict_fault LengthOverflow none (inr h) = unserialised LengthOverflow none (inr h.0)
  strict_fault PositionOverflow none h = unserialised PositionOverflow none h.0
  strict_fault OffsetOverflow none h = unserialised OffsetOverflow none h.0
  strict_fault (Writer error) none h = unserialised (Writer error) none h.0
  strict_fault (Memory error) none (inl h) = unserialised (Memory error) none (inl h)
  strict_fault (Memory error) none (inr h) = unserialised (Memory error) none (inr h.0)
  strict_fault (Entry f) none h = unserialised (Entry f) none h.0

pub both : {A B : Type 0} {a b : A} {c d : B} → a ≡ b → c ≡ d → ◌≡◌ {A = A × B} (a, c) (b, d)
both {A} {B} {a} {b} {c} {d} e f = ap (λ (x : A). (x, c)) e ∙ ap (λ (y : B). (b, y)) f

-- what holds of a result
pub if_ok : {T E : Type 0} {P Q : T → Type 0} (r : Result T E) → IfOk r P → ((x : T) → P x → Q x) → IfOk r Q
if_ok (Ok x) h f = f x h
if_ok (Err e) h f = tt

pub if_err : {T E Z : Type 0} {P Q N : E → Type 0} (r : Result T E) → (Z → IfErr r N) → IfErr r P → ((e : E) → (Z → N e) → P e → Q e) → IfErr r Q
if_err (Ok x) none h f = tt
if_err (Err e) none h f = f e none h

module _ {M N R S P Q F : Type 0} (K V : Kind) (KA : Archival M R) (VA : Archival N S) (natives : List (M × N)) (rest : P → List (M × N)) (iter : P) (is : rest iter ≡ natives) (claim : ℕ) (state : Q → Writing) (before after : Q) where
  -- the archive of all items, whose keys increase
  pub archived_all : (r : Result ℕ F) → IfOk r (ArchivesItems K V 5 KA VA now_of (YieldsFirstBy now_of rest) iter claim state before after) → IfOk r (λ root. IsArchive K V 5 KA VA (state before) natives root (state after))
  archived_all (Ok root) h = subst (λ (xs : List (M × N)). IsArchive K V 5 KA VA (state before) xs root (state after)) (drained rest iter h.items h.all ∙ is) h.archive
  archived_all (Err e) h = tt

  pub increasing_all : (cmp : M → M → Ordering) (r : Result ℕ F) → IfOk r (BuildsInOrder cmp K V 5 KA VA now_of (YieldsFirstBy now_of rest) iter claim state before after) → OnOk r (AreIncreasing cmp natives)
  increasing_all cmp (Ok root) h = subst (λ (xs : List (M × N)). AreIncreasing cmp xs) (drained rest iter h.0.items h.0.all ∙ is) h.1
  increasing_all cmp (Err e) h = tt

  -- and their tree
  pub built_all : (r : Result ℕ F) → IfOk r (BuildsTree K V 5 KA VA now_of (YieldsFirstBy now_of rest) iter claim state before after) → IfOk r (λ root. Built (layout_of K V 5) KA VA (state before) natives root (state after))
  built_all (Ok root) h = subst (λ (xs : List (M × N)). Built (layout_of K V 5) KA VA (state before) xs root (state after)) (drained rest iter h.items h.all ∙ is) h.built
  built_all (Err e) h = tt

-- an archive has as many bytes as they take
pub tree_written : {M N R S : Type 0} (s : NodeLayout) (KA : Archival M R) (VA : Archival N S) (natives : List (M × N)) (from mid to : Writing) (root : ℕ) → from ≡ fresh → Built s KA VA from natives root mid → OnlyAppended from mid
    → Wrote mid (root_image (position mid) root (length natives)) to → (bytes : List ℕ) → bytes ≡ to.contents → HasTree KA VA s natives (length bytes)
tree_written s KA VA natives from mid to root start built went wrote bytes is = record {
  root = root;
  left = mid;
  built = subst (λ (w : Writing). Built s KA VA w natives root mid) start built;
  long = ap length is ∙ archive_length mid to root (length natives) (went.1.base ∙ ap (λ (w : Writing). w.base) start) wrote;
}

-- the tree and the map after it are the archive
pub archive_written : {M N R S : Type 0} (K V : Kind) (KA : Archival M R) (VA : Archival N S) (natives : List (M × N)) (from s t : Writing) (root : ℕ) → WrittenIsHeld → from ≡ fresh → IsArchive K V 5 KA VA from natives root s → OnlyAppended from s
    → Wrote s (root_image (position s) root (length natives)) t → position t ≤ last_end → (bytes : List ℕ) → bytes ≡ t.contents → ArchivesNatives KA VA K V natives bytes
archive_written K V KA VA natives from s t root held start archive went wrote end bytes is = λ key value.
    let base : from.base ≡ 0 = ap (λ (w : Writing). w.base) start in
    let there = held from s t root (length natives) base went wrote end in
    let accepted = archive key value t.contents (round_up (position s) 4) there in
    let zero : s.base ≡ 0 = went.1.base ∙ base in
    let long = archive_length s t root (length natives) zero wrote in
    let at : round_up (position s) 4 ≡ length t.contents - 8 = omega (arith, long) in
    let means = subst (λ (p : ℕ). Accepted K V 5 t.contents 0 p p accepted.0 (map (entry_value K V 5 KA VA key value) natives)) at accepted.1 in
    subst (λ (b : List ℕ). IsArchiveOf (map_kind K V 5) b (map (entry_value K V 5 KA VA key value) natives)) (sym is) (record { room = omega (arith, long); left = accepted.0; means = means })

-- of native entries that mean what C hands in
module _ {E M N : Type 0} (IsOf : E → Type 0) (GivesKey : E → M → Type 0) (GivesValue : E → N → Type 0) where
  abbrev Given : List E → List (M × N) → Type 0
  Given = AreGiven IsOf GivesKey GivesValue

  -- one entry more
  zip_more : (es : List E) (xs : List (M × N)) (e : E) (x : M × N) → AllZip (GivesBoth IsOf GivesKey GivesValue) es xs → GivesBoth IsOf GivesKey GivesValue e x →
      AllZip (GivesBoth IsOf GivesKey GivesValue) (es ++ e ∷ []) (xs ++ x ∷ [])
  zip_more [] [] e x h g = (g, tt)
  zip_more [] (y ∷ ys) e x h g = absurd h
  zip_more (d ∷ es) [] e x h g = absurd h
  zip_more (d ∷ es) (y ∷ ys) e x h g = (h.0, zip_more es ys e x h.1 g)

  pub given_more : (entries : List E) (i : ℕ) (d : E) (natives : List (M × N)) (x : M × N) → i < length entries → Given (take i entries) natives → IsOf (get_or entries i d) →
      GivesKey (get_or entries i d) x.0 → GivesValue (get_or entries i d) x.1 → Given (take (i + 1) entries) (natives ++ x ∷ [])
  given_more entries i d natives x inside are good key value = record {
    good = All-more IsOf entries i d inside are.good good;
    each = subst (λ (es : List E). AllZip (GivesBoth IsOf GivesKey GivesValue) es (natives ++ x ∷ [])) (sym (take_more entries i d inside)) (zip_more (take i entries) natives (get_or entries i d) x are.each (key, value));
  }

  module _ {R S : Type 0} (KA : Archival M R) (VA : Archival N S) (cmp : M → M → Ordering) (order : Order) (entries : List E) where
    pub unbuilt : (natives : List (M × N)) → Given entries natives → (fault : Fault AllocError) → NativeFault KA VA cmp order natives fault → UnbuiltGiven IsOf GivesKey GivesValue order entries KA VA cmp (Unbuilt fault)
    unbuilt natives are (Length m) h = (natives, are, h)
    unbuilt natives are LengthOverflow h = (natives, are, h)
    unbuilt natives are PositionOverflow h = (natives, are, h)
    unbuilt natives are OffsetOverflow h = (natives, are, h)
    unbuilt natives are (Writer error) h = (natives, are, h)
    unbuilt natives are (Memory error) h = tt
    unbuilt natives are (Entry f) h = (natives, are, h)
    unbuilt natives are (OutOfOrder index) h = (natives, are, h)

    -- as what the entries mean
    module _ (meant : E → KA.kind.Value × VA.kind.Value) (means : (e : E) (x : M × N) → GivesBoth IsOf GivesKey GivesValue e x → native_meaning KA VA x ≡ meant e)
        (same : (x y : M) → cmp x y ≡ KA.kind.order (KA.meaning x) (KA.meaning y)) (no_key : (x : M) (at : ℕ) (f : EntryFault) → KA.Refuses x at f → ⊥) (no_value : (x : N) (at : ℕ) (f : EntryFault) → VA.Refuses x at f → ⊥) where
      pub all_meant : (es : List E) (xs : List (M × N)) → AllZip (GivesBoth IsOf GivesKey GivesValue) es xs → map (native_meaning KA VA) xs ≡ map meant es
      all_meant [] [] h = refl
      all_meant [] (x ∷ xs) h = absurd h
      all_meant (e ∷ es) [] h = absurd h
      all_meant (e ∷ es) (x ∷ xs) h = ap (λ y. y ∷ map (native_meaning KA VA) xs) (means e x h.0) ∙ ap (λ ys. meant e ∷ ys) (all_meant es xs h.1)

      pub built_of : (r : Result (Vec ℕ Global) BuildFault) → IfOk r (λ bytes. BuiltGiven IsOf GivesKey GivesValue order entries KA.kind VA.kind KA VA cmp bytes.items) →
          IfOk r (λ bytes. IsBuiltOf IsOf meant KA.kind.order order entries (IsArchiveOf (map_kind KA.kind VA.kind 5) bytes.items))
      built_of (Ok bytes) h =
          let is = all_meant entries h.natives h.given.each in
          record {
            good = h.given.good;
            archived = subst (λ (xs : List (KA.kind.Value × VA.kind.Value)). IsArchiveOf (map_kind KA.kind VA.kind 5) bytes.items xs) is (h.archived (itself KA.kind) (itself VA.kind));
            increasing = λ up. subst (λ (xs : List (KA.kind.Value × VA.kind.Value)). AreIncreasing KA.kind.order xs) is (increasing_meant KA VA cmp same h.natives (h.increasing up));
          }
      built_of (Err fault) h = tt

      abbrev Why : BuildFault → Type 0
      Why = IsUnbuiltOf IsOf meant KA.kind.order order entries (NativesStop KA VA)

      refused : (f : EntryFault) (natives : List (M × N)) → StopsWith KA VA natives (Entry f) → ⊥
      refused f natives (left, inl h) = never_refused (nodes 5 KA VA) KA VA f (λ x at. no_key x at f) (λ x at. no_value x at f) 0 (planned_alone 5 natives) h.0
      refused f natives (left, inr h) = h.3

      miscounted : (m : _) (natives : List (M × N)) → StopsWith KA VA natives (Length m) → ⊥
      miscounted m natives (left, inl h) = h
      miscounted m natives (left, inr h) = h.3

      why : (fault : BuildFault) → UnbuiltGiven IsOf GivesKey GivesValue order entries KA VA cmp fault → Why fault
      why (BadItem index) h = h
      why (Unbuilt (Memory error)) h = tt
      why (Unbuilt (Writer error)) h = tt
      why (Unbuilt LengthOverflow) h = (h.1.good, (h.0, all_meant entries h.0 h.1.each, h.2))
      why (Unbuilt PositionOverflow) h = (h.1.good, (h.0, all_meant entries h.0 h.1.each, h.2))
      why (Unbuilt OffsetOverflow) h = (h.1.good, (h.0, all_meant entries h.0 h.1.each, h.2))
      why (Unbuilt (OutOfOrder index)) h =
          (h.2.0, h.1.good, subst (λ (xs : List (KA.kind.Value × VA.kind.Value)). IsOutOfOrder KA.kind.order xs index) (all_meant entries h.0 h.1.each) (out_of_order_meant KA VA cmp same h.0 index h.2.1))
      why (Unbuilt (Length m)) h = miscounted m h.0 h.2
      why (Unbuilt (Entry f)) h = refused f h.0 h.2

      pub unbuilt_of : (r : Result (Vec ℕ Global) BuildFault) → IfErr r (UnbuiltGiven IsOf GivesKey GivesValue order entries KA VA cmp) → IfErr r Why
      unbuilt_of (Ok bytes) h = tt
      unbuilt_of (Err fault) h = why fault h

-- of the rows of columns, by their indices
row_at : (len i : ℕ) → i < len → get_or (range_with_len 0 len) i 0 ≡ i
row_at len i inside = omega (arith, get_or-range_with_len 0 len i 0 inside)

pub bad_row : (IsOf : ℕ → Type 0) (len i : ℕ) → i < len → All IsOf (take i (range_with_len 0 len)) → (IsOf i → ⊥) → IsFirstBad IsOf (range_with_len 0 len) i
bad_row IsOf len i inside good bad =
    first_bad IsOf (range_with_len 0 len) i 0 (omega (arith, length-range_with_len 0 len, inside)) good (subst (λ (j : ℕ). IsOf j → ⊥) (sym (row_at len i inside)) bad)

pub row_more : {M N : Type 0} (IsOf : ℕ → Type 0) (GivesKey : ℕ → M → Type 0) (GivesValue : ℕ → N → Type 0) (len i : ℕ) (natives : List (M × N)) (x : M × N) → i < len → AreGiven IsOf GivesKey GivesValue (take i (range_with_len 0 len)) natives → IsOf i →
    GivesKey i x.0 → GivesValue i x.1 → AreGiven IsOf GivesKey GivesValue (take (i + 1) (range_with_len 0 len)) (natives ++ x ∷ [])
row_more IsOf GivesKey GivesValue len i natives x inside are good key value =
    let at : i ≡ get_or (range_with_len 0 len) i 0 = sym (row_at len i inside) in
    given_more IsOf GivesKey GivesValue (range_with_len 0 len) i 0 natives x (omega (arith, length-range_with_len 0 len, inside)) are (subst IsOf at good) (subst (λ (j : ℕ). GivesKey j x.0) at key) (subst (λ (j : ℕ). GivesValue j x.1) at value)

-- no native key or value refuses itself
never : (i : ItemType) (x : Native i) (at : ℕ) (f : EntryFault) → (archival_of i).Refuses x at f → ⊥
never U32 x at f h = h
never U64 x at f h = h
never I64 x at f h = h
never Text x at f h = h
never Bytes x at f h = h
never Empty x at f h = h

-- at the types of a map, whose native keys are ordered as what they mean
module _ (t : MapType) (cmp : Native t.key → Native t.key → Ordering) (same : (x y : Native t.key) → cmp x y ≡ (key_kind t).order (native_value t.key x) (native_value t.key y)) (order : Order) where
  abbrev Key : Archival (Native t.key) (Resolver t.key)
  Key = archival_of t.key

  abbrev Value : Archival (Native t.value) (Resolver t.value)
  Value = archival_of t.value

  module _ {E : Type 0} (IsOf : E → Type 0) (GivesKey : E → Native t.key → Type 0) (GivesValue : E → Native t.value → Type 0) (entries : List E) where
    abbrev IsGivenArchive : Vec ℕ Global → Type 0
    IsGivenArchive x = BuiltGiven IsOf GivesKey GivesValue order entries (key_kind t) (value_kind t) Key Value cmp x.items

    abbrev IsGivenFault : BuildFault → Type 0
    IsGivenFault = UnbuiltGiven IsOf GivesKey GivesValue order entries Key Value cmp

    -- what native entries mean is what the given ones mean, so an archive has as many bytes as these take
    of_length : (meant : E → (key_kind t).Value × (value_kind t).Value) (x : Vec ℕ Global) (h : IsGivenArchive x) → map (native_meaning Key Value) h.natives ≡ map meant entries
        → IsBuiltOf IsOf meant (key_kind t).order order entries (IsArchiveOf (kind_of t) x.items) → IsBuiltOf IsOf meant (key_kind t).order order entries (IsArchiveOfLength t x.items)
    of_length meant x h is built =
        let lengths = between t h.natives (length x.items) h.tree built.archived.means.short in
        record {
          good = built.good;
          archived = record {
            archive = built.archived;
            least = subst (λ (xs : List ((key_kind t).Value × (value_kind t).Value)). least_len t (length xs) (texts_len t xs) ≤ length x.items) is lengths.0;
            most = subst (λ (xs : List ((key_kind t).Value × (value_kind t).Value)). length x.items ≤ most_len t (length xs) (texts_len t xs)) is lengths.1;
          };
          increasing = built.increasing;
        }

  -- what is built of entries
  pub archives : (texts : List ℕ) (es : List BtreeEntry) (r : Result (Vec ℕ Global) BuildFault)
      → IfOk r (IsGivenArchive (IsEntryOf t texts) (λ e. IsNative t.key texts e.key) (λ e. IsNative t.value texts e.value) es)
      → IfErr r (IsGivenFault (IsEntryOf t texts) (λ e. IsNative t.key texts e.key) (λ e. IsNative t.value texts e.value) es)
      → Archives t order texts es r
  archives texts es (Ok x) h g =
      of_length (IsEntryOf t texts) (λ e. IsNative t.key texts e.key) (λ e. IsNative t.value texts e.value) es (given t texts) x h
      (all_meant (IsEntryOf t texts) (λ e. IsNative t.key texts e.key) (λ e. IsNative t.value texts e.value) Key Value cmp order es (given t texts) (λ e x h. both h.0 h.1) same (never t.key) (never t.value) es h.natives h.given.each)
      (built_of (IsEntryOf t texts) (λ e. IsNative t.key texts e.key) (λ e. IsNative t.value texts e.value) Key Value cmp order es (given t texts) (λ e x h. both h.0 h.1) same (never t.key) (never t.value) (Ok x) h)
  archives texts es (Err fault) h g =
      unbuilt_of (IsEntryOf t texts) (λ e. IsNative t.key texts e.key) (λ e. IsNative t.value texts e.value) Key Value cmp order es (given t texts) (λ e x h. both h.0 h.1) same (never t.key) (never t.value) (Err fault) g

  -- and of the rows of columns
  pub archives_columns : (keys values : BtreeColumn) (len : ℕ) (r : Result (Vec ℕ Global) BuildFault)
      → IfOk r (IsGivenArchive (IsRowOf t keys values) (IsNativeCell t.key keys) (IsNativeCell t.value values) (range_with_len 0 len))
      → IfErr r (IsGivenFault (IsRowOf t keys values) (IsNativeCell t.key keys) (IsNativeCell t.value values) (range_with_len 0 len))
      → ArchivesColumns t order keys values len r
  archives_columns keys values len (Ok x) h g =
      of_length (IsRowOf t keys values) (IsNativeCell t.key keys) (IsNativeCell t.value values) (range_with_len 0 len) (row t keys values) x h
      (all_meant (IsRowOf t keys values) (IsNativeCell t.key keys) (IsNativeCell t.value values) Key Value cmp order (range_with_len 0 len) (row t keys values) (λ e x h. both h.0 h.1) same (never t.key) (never t.value) (range_with_len 0 len) h.natives h.given.each)
      (built_of (IsRowOf t keys values) (IsNativeCell t.key keys) (IsNativeCell t.value values) Key Value cmp order (range_with_len 0 len) (row t keys values) (λ e x h. both h.0 h.1) same (never t.key) (never t.value) (Ok x) h)
  archives_columns keys values len (Err fault) h g =
      unbuilt_of (IsRowOf t keys values) (IsNativeCell t.key keys) (IsNativeCell t.value values) Key Value cmp order (range_with_len 0 len) (row t keys values) (λ e x h. both h.0 h.1) same (never t.key) (never t.value) (Err fault) g
