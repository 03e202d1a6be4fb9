-- What building leaves, from what its parts leave.
use Rattle.std.proofs.Common.{◌≡◌, ◌≢◌, ℕ, ◌+◌, ◌-◌, ◌<◌, ◌≤◌, ◌∙◌, Bool, IsTrue, List, [], ◌∷◌, ◌++◌, length, map, replicate, take, Option, None, unwrap_or, refl, sym, subst, ap, arith}
use Rattle.std.specs.Iterator.{Yields, YieldsThen, Drains}
use Rattle.std.proofs.lemmas.List.{length-append, length-map, length-replicate, append-nil, nil_from_length, take_at}
use Rattle.rkyv_btree_writer.specs.Archiving.{Archival, IsArchived, Matches}
use Rattle.rkyv_btree_portable.specs.Bytes.{Holds}
use Rattle.rkyv_btree_writer.specs.Padding.{padding}
use Rattle.rkyv_btree_writing_laws.specs.Image.{root_bytes, root_reaches}
use Rattle.rkyv_btree_portable.specs.Kind.{Kind, IsLawful}
use Rattle.rkyv_btree_format.specs.Layout.{layout_of, are_fitting}
use Rattle.rkyv_btree_shape.specs.Plan.{plan, planned_alone}
use Rattle.rkyv_btree_portable.specs.Rounding.{round_up}
use Rattle.rkyv_btree_writing_laws.specs.Serialising.{meaning_of, BeginClaimed, Built, Spelled, Miscounted, RootFault}
use Rattle.rkyv_btree_format.specs.Spells.{Spells}
use Rattle.rkyv_btree_shape.specs.Tree.{list}
use Rattle.rkyv_btree_writer.specs.Writing.{Writing, position, Write, Wrote, Refused, last_end}
use Rattle.rkyv_btree_writing_laws.specs.Written.{ChildWritten}
use Rattle.rkyv_btree_format.proofs.Sizes.{room_of}
use Rattle.rkyv_btree_writer.specs.declared.fault.Fault.{Fault}
use Rattle.rkyv_btree_writer.specs.declared.fault.Fault.TheVariants.{Length, LengthOverflow, PositionOverflow, OffsetOverflow, Writer, Memory, Entry, OutOfOrder}
use Rattle.rkyv_btree_writing_laws.proofs.EntriesWritten.{meant, since}
use Rattle.rkyv_btree_shape.proofs.Mapped.{plan_mapped, list_mapped, height_mapped}
use Rattle.rkyv_btree_shape.specs.Mapped.{mapped}
use Rattle.rkyv_btree_shape.proofs.Smallest.{plan_is_left_complete, left_complete_is_smallest}
use Rattle.rkyv_btree_writing_laws.proofs.TreesWritten.{tree_grown, tree_spelled}
use Rattle.rkyv_btree_writer.proofs.WriteRuns.{stopped-behind, stopped-one}

-- what was taken, and then more
pub Yields-both : {S A : Type 0} (steps : S → Option A → S → Type 0) (s : S) (xs : List A) (t : S) (ys : List A) (u : S) → Yields steps s xs t → Yields steps t ys u → Yields steps s (xs ++ ys) u
Yields-both steps s [] t ys u y z = subst (λ v. Yields steps v ys u) (sym y) z
Yields-both steps s (x ∷ xs) t ys u y z = (y.0, y.1, Yields-both steps y.0 xs t ys u y.2 z)

-- what was taken, and then the rest to its end
pub then-behind : {S A : Type 0} (steps : S → Option A → S → Type 0) (s : S) (xs : List A) (t : S) (ys : List A) (end : S) → Yields steps s xs t → YieldsThen steps t ys None end → YieldsThen steps s (xs ++ ys) None end
then-behind steps s xs t ys end y d = (d.0, Yields-both steps s xs t ys d.0 y d.1, d.2)

-- what was taken is all, where nothing is left
pub drained : {S A : Type 0} (steps : S → Option A → S → Type 0) (s : S) (xs : List A) (t : S) (ys : List A) (n : ℕ) → Yields steps s xs t → Drains steps t ys → n ≡ length ys → n ≡ 0 → Drains steps s xs
drained steps s xs t ys n y d is none =
    subst (Drains steps s) (ap (λ zs. xs ++ zs) (nil_from_length ys (sym is ∙ none)) ∙ append-nil xs) (d.0, then-behind steps s xs t ys d.0 y d.1)

-- some items are the first of a list of as many entries as claimed
pub some_claimed : {I M N : Type 0} (borrowed : I → M × N) (items : List I) (claim : ℕ) → 0 < length items → length items ≤ claim → (xs : List (M × N)) × BeginClaimed borrowed items claim xs
some_claimed borrowed [] claim some few = absurd (omega arith)
some_claimed borrowed (x ∷ items) claim some few =
    let others = replicate (claim - length (x ∷ items)) (borrowed x) in
    let same = length-map (x ∷ items) borrowed in
    let front = length-append (map borrowed (x ∷ items)) others in
    let back = length-replicate (claim - length (x ∷ items)) (borrowed x) in
    (map borrowed (x ∷ items) ++ others, record { later = others; parts = refl; count = omega (arith, same, front, back, few) })

module _ {I M N R S P : Type 0} (K V : Kind) (E : ℕ) (KA : Archival M R) (VA : Archival N S) (borrowed : I → M × N) (steps : P → Option I → P → Type 0) where
  -- it gave more, and the tree of the first was written
  pub miscounted_of : (iter : P) (claim more : ℕ) (s t : Writing) (xs : List I) (rest : P) (ys : List I) (end : P) (place : Option ℕ) →
      Yields steps iter xs rest → YieldsThen steps rest ys None end → more ≡ length ys → more ≢ 0 → length xs ≡ claim → ChildWritten (layout_of K V E) KA VA s (planned_alone E (map borrowed xs)) place t → (m : Miscounted K V E KA VA borrowed steps iter claim claim (claim + more) s t) × (m.all.0 ≡ end)
  miscounted_of iter claim more s t xs rest ys end place y d is many n written =
      let all = length-append xs ys in
      let taken : take claim (xs ++ ys) ≡ xs = take_at xs ys claim n in (
        record {
          items = xs ++ ys;
          all = (end, then-behind steps iter xs rest ys end y d);
          differs = λ e. many (omega (arith, all, e));
          claimed = refl;
          counted = omega (arith, all);
          none = λ empty. absurd (many (omega (arith, all, ap length empty)));
          few = λ some less. absurd (omega (arith, all));
          many = λ more. (place, subst (λ (zs : List I). ChildWritten (layout_of K V E) KA VA s (planned_alone E (map borrowed zs)) place t) (sym taken) written);
        },
        refl,
      )

module _ {M N R S : Type 0} (K V : Kind) (E : ℕ) (k : IsLawful K) (v : IsLawful V) (fits : IsTrue (are_fitting K V E)) (KA : Archival M R) (VA : Archival N S) (key : Matches KA.kind K) (value : Matches VA.kind V) (ka : IsArchived KA) (va : IsArchived VA) where
  pub meaning_is : {I : Type 0} (borrowed : I → M × N) (xs : List I) → map (meant K V E k v fits KA VA key value ka va) (map borrowed xs) ≡ map (meaning_of K V KA VA borrowed key value) xs
  meaning_is borrowed [] = refl
  meaning_is borrowed (x ∷ xs) = ap (λ (ys : List (K.Value × V.Value)). meaning_of K V KA VA borrowed key value x ∷ ys) (meaning_is borrowed xs)

  -- every buffer that holds the writes of a built tree spells it
  pub spelled_of : (s : Writing) (xs : List (M × N)) (m : List (K.Value × V.Value)) (root : ℕ) (t : Writing) → map (meant K V E k v fits KA VA key value ka va) xs ≡ m → 0 < length xs → length xs ≤ last_end → Built (layout_of K V E) KA VA s xs root t → Spelled K V E s m root t
  spelled_of s [] m root t means some few b = absurd (omega arith)
  spelled_of s (x ∷ more) m root t means some few b =
      let xs = x ∷ more in
      let mean = meant K V E k v fits KA VA key value ka va in
      let e = (room_of K V E k v fits).some in
      let tree = plan E xs in
      let complete = plan_is_left_complete (M × N) E e xs some in
      let smallest = left_complete_is_smallest (M × N) E e tree complete.0 in
      let count : length (list tree) ≡ length xs = ap length complete.1 in
      let place = b.written.0 in
      let grown = tree_grown K V E k v fits KA VA key value ka va s tree place t b.written.1 in
      let here : root ≡ place = b.root_is ∙ ap (λ (o : Option ℕ). unwrap_or o 0) b.written.2 in
      record {
        tree = mapped mean tree;
        entries = list_mapped mean tree ∙ (ap (map mean) complete.1 ∙ means);
        planned = sym (plan_mapped mean E xs) ∙ ap (plan E) means;
        levels = omega (arith, height_mapped mean tree, smallest.height_fits (omega (arith, count, few)));
        appended = grown.more;
        contents = grown.contents;
        spelled = λ bytes short held inside.
            subst (λ (p : ℕ). Spells K V E bytes (position s) (position t) p (mapped mean tree)) (sym here)
            (tree_spelled K V E k v fits KA VA key value ka va bytes short (position s) (position t) s tree place t complete.0.has_shape b.written.1
            (subst (Holds bytes (position s)) (sym (since s t grown)) held) (omega arith) (omega arith) inside);
      }

abbrev root_write : ℕ → ℕ → ℕ → Write
root_write at root len = record { bytes = root_bytes at root len; reaches = root_reaches at root len }

stopped_root : {X : Type 0} (root len : ℕ) (s m t : Writing) (fault : Fault X) → Wrote s (padding 4 (position s)) m → Refused fault m (root_write (round_up (position s) 4) root len) t → RootFault root len s fault t
stopped_root root len s m t PositionOverflow wrote r = stopped-behind s (padding 4 (position s)) m (root_write (round_up (position s) 4) root len ∷ []) PositionOverflow t wrote (stopped-one m (root_write (round_up (position s) 4) root len) PositionOverflow t r)
stopped_root root len s m t OffsetOverflow wrote r = stopped-behind s (padding 4 (position s)) m (root_write (round_up (position s) 4) root len ∷ []) OffsetOverflow t wrote (stopped-one m (root_write (round_up (position s) 4) root len) OffsetOverflow t r)
stopped_root root len s m t (Writer error) wrote r = stopped-behind s (padding 4 (position s)) m (root_write (round_up (position s) 4) root len ∷ []) (Writer error) t wrote (stopped-one m (root_write (round_up (position s) 4) root len) (Writer error) t r)
stopped_root root len s m t (Length mismatch) wrote r = r
stopped_root root len s m t LengthOverflow wrote r = absurd r
stopped_root root len s m t (Memory error) wrote r = r
stopped_root root len s m t (Entry fault) wrote r = r
stopped_root root len s m t (OutOfOrder index) wrote r = r

-- a map that isn't written after its padding
pub root_refused : {X : Type 0} (root len : ℕ) (s m t : Writing) (bytes : List ℕ) (fault : Fault X) → bytes ≡ root_bytes (round_up (position s) 4) root len → Wrote s (padding 4 (position s)) m → ((reaches : Bool) → Refused fault m (record { bytes = bytes; reaches = reaches }) t) → RootFault root len s fault t
root_refused root len s m t bytes fault is wrote refused =
    let at = round_up (position s) 4 in
    stopped_root root len s m t fault wrote (subst (λ bs. Refused fault m (record { bytes = bs; reaches = root_reaches at root len }) t) is (refused (root_reaches at root len)))
