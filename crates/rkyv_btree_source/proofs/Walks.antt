-- What the steps of a walk give where they are read from a source: what they lead to, and that no map is refused.
use Rattle.std.proofs.Common.{◌≡◌, ◌∙◌, ℕ, suc, ◌+◌, ◌-◌, ◌≤◌, ◌<◌, ◌++◌, ◌∷◌, [], IsTrue, List, length, take, drop, Option, Some, None, Result, Ok, Err, refl, sym, ap, arith, false, inl, inr, slice_index}
use Rattle.std.proofs.lemmas.Bool.{eq-eqb, eqb-true, ne_eqb, cases_Bool}
use Rattle.std.proofs.lemmas.List.{get_or-take, length-append, length-take-le}
use Rattle.std.proofs.Math.Seq.{drop-append_seam, take-append_seam}
use Rattle.std.specs.declared.cmp.Ordering.{Ordering}
use Rattle.rkyv_btree_portable.specs.Bytes.{bytes_at, number_at, place_at}
use Rattle.rkyv_btree_portable.specs.Kind.{Kind, IsLawful}
use Rattle.rkyv_btree_portable.specs.Refusing.{AreRefusals, HasPlace}
use Rattle.rkyv_btree_portable.specs.Standing.{SameBytes}
use Rattle.rkyv_btree_portable.specs.Views.{stands}
use Rattle.rkyv_btree_portable.specs.declared.refusal.Refusal.{Refusal}
use Rattle.rkyv_btree_portable.specs.laws.Views.{fitting_of, means_read, stands_of}
use Rattle.rkyv_btree_format.specs.Layout.{layout_of, are_fitting, inner_size}
use Rattle.rkyv_btree_verify.specs.Refusals.{IsInner, leaf_len}
use Rattle.rkyv_btree_source.specs.Reading.{IfUnread, IsPart, IsTooSmall}
use Rattle.rkyv_btree_source.specs.mirror.Walking.{AreLow, IsLow, IsLowPath}
use Rattle.rkyv_btree_source.specs.declared.fault.SourceFault.{SourceFault}
use Rattle.rkyv_btree_source.specs.declared.fault.SourceFault.TheVariants.{Refused, Read, NoRoom, OverBudget}
use Rattle.rkyv_btree_unverified.proofs.Chains.{entries_put}
use Rattle.rkyv_btree_unverified.proofs.Entered.{leads_inside}
use Rattle.rkyv_btree_unverified.proofs.Exact.{is_node}
use Rattle.rkyv_btree_unverified.proofs.Goes.{has_kind}
use Rattle.rkyv_btree_unverified.proofs.OnMaps.{placed, no_bad_place}
use Rattle.rkyv_btree_unverified.proofs.Passes.{child_fits, child_none, child_some, not_misplaced, root_fits}
use Rattle.rkyv_btree_unverified.specs.Steps.{HasRoom, HeadGives, misplaced, empty, bad_root, root, NodeGives, bad_kind, inner_past, too_many, leaf, inner, ChildGives, of_leaf, absent, bad_place, child}
use Rattle.rkyv_btree_unverified.specs.Walks.{EntryRefuses, refused_key, refused_value}
use Rattle.rkyv_btree_unverified.specs.mirror.Passes.{NodePasses, Passes}
use Rattle.rkyv_btree_unverified.specs.mirror.Walked.{IsWay, LeadsTo, path_entries}
use Rattle.rkyv_btree_view.specs.Map.{IsMap}
use Rattle.rkyv_btree_view.specs.Query.{ComparesAs}
use Rattle.rkyv_btree_walk.proofs.Searches.{leaf_alone}
use Rattle.rkyv_btree_walk.specs.Below.{root_place}
use Rattle.rkyv_btree_walk.specs.Nodes.{is_leaf, entry_count, child_place}
use Rattle.rkyv_btree_walk.specs.mirror.Node.{EntryStands}

-- the front of a buffer has its bytes
same_front : (room : List ℕ) (cut from to : ℕ) → to ≤ cut → cut ≤ length room → SameBytes room (take cut room) from to
same_front room cut from to low le = record {
  covers = omega (arith, low, length-take-le cut room le);
  same = λ k more less. sym (get_or-take cut room k 0 (omega (arith, less, low)));
}

module _ {kind : Kind} (law : IsLawful kind) (room : List ℕ) (place : ℕ) (valid : IsTrue (stands kind room place)) where
  pub value_room : place + kind.size ≤ length room
  value_room = let m = means_read law room place valid in (law.lies room 0 place place m.left (kind.read room place) m.means).inside

  -- a value is valid in the front of a buffer that has its own bytes, and reads the same there
  pub kept_front : (cut : ℕ) → place + kind.size ≤ cut → cut ≤ length room → IsTrue (stands kind (take cut room) place) × (kind.read (take cut room) place ≡ kind.read room place)
  kept_front cut low le =
      let fits = fitting_of kind room place valid in
      let m = means_read law room place valid in
      let lies = law.lies room 0 place place m.left (kind.read room place) m.means in
      let kept = lies.kept in
      let short = lies.short in
      let there = law.local fits room (take cut room) 0 place place m.left (kind.read room place) (omega (arith, short, le, length-take-le cut room le))
      (same_front room cut 0 m.left (omega (arith, kept, low)) le) (same_front room cut place (place + kind.size) low le) m.means in
      (stands_of law fits (take cut room) 0 place place m.left (kind.read room place) there, sym (law.is_read (take cut room) 0 place place m.left (kind.read room place) there))

-- what was read of a source is a part of it
pub part_read : (b c : List ℕ) (at n : ℕ) → length b ≤ 4294967295 → at + n ≤ length b → c ≡ bytes_at b at n → length c ≡ n → IsPart b c at
part_read b c at n short inside same size = record { short = short; inside = omega (arith, inside, size); same = same ∙ ap (bytes_at b at) (sym size) }

module _ (K V : Kind) (E at : ℕ) where
  nodes_parts : (fs : List (ℕ × ℕ)) (f : ℕ × ℕ) → AreLow K V E at (fs ++ f ∷ []) → AreLow K V E at fs × IsLow K V E at f
  nodes_parts [] f h = (tt, h.0)
  nodes_parts (e ∷ fs) f h = let r = nodes_parts fs f h.1 in ((h.0, r.0), r.1)

  nodes_put : (fs : List (ℕ × ℕ)) (f : ℕ × ℕ) → AreLow K V E at fs → IsLow K V E at f → AreLow K V E at (fs ++ f ∷ [])
  nodes_put [] f h low = (low, tt)
  nodes_put (e ∷ fs) f h low = (h.0, nodes_put fs f h.1 low)

module _ (K V : Kind) (E at : ℕ) (fs all : List (ℕ × ℕ)) (p i : ℕ) (ends : all ≡ fs ++ (p, i) ∷ []) where
  -- a path without its last node
  pub low_parts : IsLowPath K V E at all → IsLowPath K V E at fs × (p + inner_size (layout_of K V E) ≤ at) × (i ≤ E) × (length fs < 32)
  low_parts h =
      let parts = nodes_parts K V E at fs (p, i) (rw ends at h.nodes) in
      let levels = h.levels in
      let short : length fs < 32 = omega (arith, levels, ap length ends, length-append fs ((p, i) ∷ [])) in
      (record { levels = omega (arith, short); nodes = parts.0 }, parts.1.0, parts.1.1, short)

  -- and with it
  pub low_put : length fs < 32 → IsLowPath K V E at fs → p + inner_size (layout_of K V E) ≤ at → i ≤ E → IsLowPath K V E at all
  low_put short h room low = rw ends (record {
    levels = omega (arith, short, length-append fs ((p, i) ∷ []));
    nodes = nodes_put K V E at fs (p, i) h.nodes (room, low);
  })

-- the two parts of a buffer that was cut
pub front_of : (front back : List ℕ) (cut : ℕ) → length front ≡ cut → take cut (front ++ back) ≡ front
front_of front back cut size = ap (λ n. take n (front ++ back)) (sym size) ∙ take-append_seam front back

pub back_of : (front back : List ℕ) (cut : ℕ) → length front ≡ cut → drop cut (front ++ back) ≡ back
back_of front back cut size = ap (λ n. drop n (front ++ back)) (sym size) ∙ drop-append_seam front back

module _ (K V : Kind) (E : ℕ) (b : List ℕ) where
  head_from : (at : ℕ) (r : Result (Option ℕ) Refusal) → HeadGives K V E b at r → (o : Option ℕ) → r ≡ Ok o → HasPlace b 8 4 at × (o ≡ root_place b at)
  head_from at r (misplaced bad) o e = absurd (cc e)
  head_from at r (empty place none) o e = let is : None ≡ o = cc e in (place, sym is ∙ rw (eq-eqb (number_at b (at + 4) 4) 0 none) refl)
  head_from at r (bad_root place some bad) o e = absurd (cc e)
  head_from at r (root {q = q} place some leads) o e =
      let is : Some q ≡ o = cc e in
      let to = placed K V E at q (place_at b at) (Ok q) leads refl in
      (place, sym is ∙ rw (ne_eqb (number_at b (at + 4) 4) 0 some, to) refl)

  -- the own bytes of a map have a place, and say where its root is
  pub head_leads : (at : ℕ) (o : Option ℕ) → HeadGives K V E b at (Ok o) → HasPlace b 8 4 at × (o ≡ root_place b at)
  head_leads at o h = head_from at (Ok o) h o refl

  inner_byte : (hi p : ℕ) → IsInner K V E b 0 hi p → is_leaf (layout_of K V E) b p ≡ false
  inner_byte hi p is = let byte = is.kind_byte in ne_eqb (slice_index b p) 0 (λ e. absurd (omega (arith, e, byte)))

  child_from : (hi p i : ℕ) (r : Result (Option ℕ) Refusal) → ChildGives K V E b hi p i r → IsInner K V E b 0 hi p → (o : Option ℕ) → r ≡ Ok o → o ≡ child_place (layout_of K V E) b p i
  child_from hi p i r (of_leaf is) there o e = let zero = is.kind_byte in let one = there.kind_byte in absurd (omega (arith, zero, one))
  child_from hi p i r (absent is none) there o e = let same : None ≡ o = cc e in sym same ∙ sym (child_none (layout_of K V E) b p i (inner_byte hi p there) none)
  child_from hi p i r (bad_place is to bad) there o e = absurd (cc e)
  child_from hi p i r (child {z = z} {q = q} is to place) there o e =
      let same : Some q ≡ o = cc e in
      sym same ∙ sym (child_some (layout_of K V E) b p i q z (inner_byte hi p there) to (placed K V E p q z (Ok q) place refl))

  -- a pointer of an inner node leads to its child
  pub child_leads : (hi p i : ℕ) (o : Option ℕ) → IsInner K V E b 0 hi p → ChildGives K V E b hi p i (Ok o) → o ≡ child_place (layout_of K V E) b p i
  child_leads hi p i o is h = child_from hi p i (Ok o) h is o refl

  child_any : (hi p i : ℕ) (r : Result (Option ℕ) Refusal) → ChildGives K V E b hi p i r → (o : Option ℕ) → r ≡ Ok o → o ≡ child_place (layout_of K V E) b p i
  child_any hi p i r (of_leaf is) o e = let same : None ≡ o = cc e in sym same ∙ sym (leaf_alone (layout_of K V E) b p i (eq-eqb (slice_index b p) 0 is.kind_byte))
  child_any hi p i r (absent is none) o e = child_from hi p i r (absent is none) is o e
  child_any hi p i r (bad_place is to bad) o e = absurd (cc e)
  child_any hi p i r (child is to place) o e = child_from hi p i r (child is to place) is o e

  -- and a leaf has none
  pub child_is : (hi p i : ℕ) (o : Option ℕ) → ChildGives K V E b hi p i (Ok o) → o ≡ child_place (layout_of K V E) b p i
  child_is hi p i o h = child_any hi p i (Ok o) h o refl

  node_from : (hi p : ℕ) (r : Result ℕ Refusal) → NodeGives K V E b hi p r → (n : ℕ) → r ≡ Ok n → n ≡ entry_count (layout_of K V E) b p
  node_from hi p r (bad_kind is not_leaf not_inner) n e = absurd (cc e)
  node_from hi p r (inner_past is past) n e = absurd (cc e)
  node_from hi p r (too_many is many) n e = absurd (cc e)
  node_from hi p r (leaf is few) n e = let same : leaf_len K V E b p ≡ n = cc e in sym same ∙ rw (eq-eqb (slice_index b p) 0 is.kind_byte) refl
  node_from hi p r (inner is) n e = let same : E ≡ n = cc e in sym same ∙ rw (inner_byte hi p is) refl

  -- a node has as many entries as it gives
  pub node_count : (hi p n : ℕ) → NodeGives K V E b hi p (Ok n) → n ≡ entry_count (layout_of K V E) b p
  node_count hi p n h = node_from hi p (Ok n) h n refl

  -- a node that passes gives no error
  passing_node : (hi p : ℕ) → NodePasses (layout_of K V E) b hi p → NodeGives K V E b hi p (Ok (entry_count (layout_of K V E) b p))
  passing_node hi p node =
      let room : HasRoom K V E hi p = record { room = node.leaf_room; aligned = node.aligned } in
      elim (cases_Bool (is_leaf (layout_of K V E) b p)) [
        | inl e ↦
            let few = node.count in
            rw e (leaf (has_kind K V E b hi p 0 room (eqb-true (slice_index b p) 0 e)) (rw e at few))
        | inr e ↦
            let inside = node.inner_room e in
            rw e (inner (record { start = omega arith; room = inside; aligned = node.aligned; kind_byte = node.kind e }))
      ]

  pub node_never : (hi p : ℕ) (e : Refusal) → NodeGives K V E b hi p (Err e) → NodePasses (layout_of K V E) b hi p → ⊥
  node_never hi p e bad passes = absurd (cc (sym (is_node K V E b hi p (Err e) bad) ∙ is_node K V E b hi p _ (passing_node hi p passes)))

  child_bad : (hi p i : ℕ) (r : Result (Option ℕ) Refusal) → ChildGives K V E b hi p i r → (e : Refusal) → r ≡ Err e → i ≤ E → (m h2 : ℕ) → Passes K V E b (suc m) h2 p → ⊥
  child_bad hi p i r (of_leaf is) e same low m h2 h = absurd (cc same)
  child_bad hi p i r (absent is none) e same low m h2 h = absurd (cc same)
  child_bad hi p i r (bad_place {z = z} {e = d} is to bad) e same low m h2 h =
      let fits = child_fits K V E b m h2 p i z h (inner_byte hi p is) low to in
      no_bad_place K V E p fits.0 z d fits.1 fits.2 bad
  child_bad hi p i r (child is to place) e same low m h2 h = absurd (cc same)

  -- nor has one a bad pointer
  pub child_never : (hi p i : ℕ) (e : Refusal) → ChildGives K V E b hi p i (Err e) → i ≤ E → (m h2 : ℕ) → Passes K V E b (suc m) h2 p → ⊥
  child_never hi p i e bad low = child_bad hi p i (Err e) bad e refl low

  module _ (k : IsLawful K) (v : IsLawful V) where
    module _ (fits : IsTrue (are_fitting K V E)) (at : ℕ) (m : List (K.Value × V.Value)) (map : IsMap K V E b at m) where
      head_bad : (r : Result (Option ℕ) Refusal) → HeadGives K V E b at r → (e : Refusal) → r ≡ Err e → ⊥
      head_bad r (misplaced {e = d} bad) e same = not_misplaced b at d map.1.short map.1.room map.1.aligned bad
      head_bad r (empty place none) e same = absurd (cc same)
      head_bad r (bad_root {e = d} place some bad) e same =
          let good = root_fits K V E b k v fits at map.0 m map.1 some in
          no_bad_place K V E at good.0 (place_at b at) d good.1 good.2 bad
      head_bad r (root place some leads) e same = absurd (cc same)

      -- the own bytes of a map aren't refused
      pub head_never : (e : Refusal) → HeadGives K V E b at (Err e) → ⊥
      head_never e bad = head_bad (Err e) bad e refl

    module _ (KR VR : List ℕ → ℕ → ℕ → ℕ → Refusal → Type 0) (kr : AreRefusals K KR) (vr : AreRefusals V VR) where
      -- nor is an entry that is valid
      pub entry_never : (place : ℕ × ℕ) (e : Refusal) → EntryRefuses K V E b KR VR place e → EntryStands K V E b place → ⊥
      entry_never place e (refused_key bad) h = let m = means_read k b _ h.key in kr.no_meaning b 0 _ _ e bad m.left (K.read b _) m.means
      entry_never place e (refused_value bad) h = let m = means_read v b _ h.value in vr.no_meaning b 0 _ _ e bad m.left (V.read b _) m.means

-- what holds anyway holds after a fault of reading
pub unread_of : {X : Type 0} (P : Type 0) (fault : SourceFault X) → P → IfUnread P fault
unread_of P (Refused e) h = tt
unread_of P (Read e) h = h
unread_of P (NoRoom n) h = h
unread_of P OverBudget h = h

-- and so does what follows
pub unread_on : {X : Type 0} (P Q : Type 0) → (P → Q) → (fault : SourceFault X) → IfUnread P fault → IfUnread Q fault
unread_on P Q on (Refused e) h = tt
unread_on P Q on (Read e) h = on h
unread_on P Q on (NoRoom n) h = on h
unread_on P Q on OverBudget h = on h

-- the bytes that are read of a node to which a path leads are a part of the source
pub node_part : (K V : Kind) (E : ℕ) (b : List ℕ) (at : ℕ) (fs : List (ℕ × ℕ)) (p hi : ℕ) → IsWay (layout_of K V E) b at fs → LeadsTo K V E b at fs p hi
    → (page c : List ℕ) (n : ℕ) → n ≤ length page → p + n ≤ hi → c ≡ bytes_at b p (length (take n page)) → length c ≡ length (take n page) → IsPart b c p
node_part K V E b at fs p hi way leads page c n le inside same size =
    let end = leads_inside K V E b at fs p hi way leads in
    let short = leads.placed.short in
    part_read b c p (length (take n page)) short (omega (arith, inside, end, length-take-le n page le)) same size

-- a key that was brought compares as it does where it was brought from
pub compared_there : {T : Type 0} {K : Kind} {compared_at : T → List ℕ → ℕ → Ordering} → ComparesAs K compared_at → (key : T) (room b : List ℕ) (place at : ℕ) → K.read room place ≡ K.read b at
    → compared_at key room place ≡ compared_at key b at
compared_there law key room b place at same = law.by_value key room place ∙ (ap (law.compared key) same ∙ sym (law.by_value key b at))

-- what is too small for reads up to an end is so for a further one
pub too_small_within : (end further node room left : ℕ) {X : Type 0} (fault : SourceFault X) → end ≤ further → IsTooSmall end node room left fault → IsTooSmall further node room left fault
too_small_within end further node room left (Refused e) more h = tt
too_small_within end further node room left (Read e) more h = tt
too_small_within end further node room left (NoRoom n) more h = let small = h.2 in (h.0, h.1, omega (arith, more, small))
too_small_within end further node room left OverBudget more h = omega (arith, more, h)

-- a path with one more node has more entries left
pub entries_with : (E : ℕ) (fs all : List (ℕ × ℕ)) (p i : ℕ) → all ≡ fs ++ (p, i) ∷ [] → path_entries E all ≡ path_entries E fs + (E - i)
entries_with E fs all p i ends = ap (path_entries E) ends ∙ entries_put E fs p i
