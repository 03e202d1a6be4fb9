-- The nodes that are open while a tree is written.
use Rattle.std.proofs.Common.{◌≡◌, ℕ, zero, suc, ◌+◌, ◌*◌, ◌-◌, ◌^◌, ◌<◌, ◌≤◌, min, List, [], ◌∷◌, ◌++◌, length, map, replicate, Option, Some, None, arith, refl, sym, ap, ◌∙◌, subst}
use Rattle.std.proofs.lemmas.List.{length-append, append_assoc, append-nil, length-map, map-append}
use Rattle.rkyv_btree_portable.specs.InPlace.{OwnBytes}
use Rattle.rkyv_btree_format.specs.Layout.{NodeLayout, inner_size}
use Rattle.rkyv_btree_shape.proofs.Filled.{full_up}
use Rattle.rkyv_btree_writer.specs.Archiving.{Archival}
use Rattle.rkyv_btree_writer.specs.Writing.{Writing}
use Rattle.rkyv_btree_writer.specs.declared.fault.Fault.{Fault}
use Rattle.rkyv_btree_writing_laws.specs.Image.{inner_image}
use Rattle.rkyv_btree_writing_laws.specs.Written.{NodeWritten, NodeStopped}
use Rattle.rkyv_btree_shape.specs.mirror.Filled.{most}
use Rattle.rkyv_btree_archive.specs.mirror.Passing.{NextWritten, NextStopped, NextShort, RowTaken, Frame, waiting_of, children_of, starts_of, Opened, Done}
use Rattle.rkyv_btree_shape.proofs.Pairs.{some_pairs}
use Rattle.rkyv_btree_archive.proofs.Passing.{row_started, row_count, row_pushed, row_closed, row_room, row_child_stopped, row_child_short, row_entry_short, row_node_stopped, written_count, pairs_written_count}

-- nodes of which none has an entry yet
abbrev pub opening : {X : Type 0} → ℕ → List (Frame X) → List (Frame X)
opening zero fs = fs
opening (suc k) fs = ([], []) ∷ opening k fs

pub opening_waiting : {X : Type 0} (k : ℕ) (fs : List (Frame X)) → waiting_of (opening k fs) ≡ waiting_of fs
opening_waiting zero fs = refl
opening_waiting (suc k) fs = append-nil (waiting_of (opening k fs)) ∙ opening_waiting k fs

pub opening_children : {X : Type 0} (k : ℕ) (fs : List (Frame X)) → children_of (opening k fs) ≡ children_of fs
opening_children zero fs = refl
opening_children (suc k) fs = append-nil (children_of (opening k fs)) ∙ opening_children k fs

replicate_push : {X : Type 0} (k : ℕ) (x : X) → replicate k x ++ x ∷ [] ≡ x ∷ replicate k x
replicate_push zero x = refl
replicate_push (suc k) x = ap (λ xs. x ∷ xs) (replicate_push k x)

pub opening_starts : {X : Type 0} (k : ℕ) (fs : List (Frame X)) → starts_of (opening k fs) ≡ starts_of fs ++ replicate k (length (waiting_of fs))
opening_starts zero fs = sym (append-nil (starts_of fs))
opening_starts (suc k) fs =
    ap (λ n. starts_of (opening k fs) ++ n ∷ []) (ap length (opening_waiting k fs))
    ∙ (ap (λ xs. xs ++ length (waiting_of fs) ∷ []) (opening_starts k fs)
    ∙ (append_assoc (starts_of fs) (replicate k (length (waiting_of fs))) (length (waiting_of fs) ∷ [])
    ∙ ap (λ xs. starts_of fs ++ xs) (replicate_push k (length (waiting_of fs)))))

-- what is left for the last level after a row
left_closed : (E g first left0 left k : ℕ) → k ≡ E → left0 ≡ first - k * most E g → left ≡ left0 - most E g → left ≡ first - most E (suc g)
left_closed E g first left0 left k is a b = go (most E g) (most E (suc g)) (full_up E g) a b
  where
    go : (full up : ℕ) → up ≡ (E + 1) * full → left0 ≡ first - k * full → left ≡ left0 - full → left ≡ first - up
    go full up u x y = let z : left0 ≡ first - E * full = rw is at x in omega (arith, z, y, u)

module _ {I M N R S P : Type 0} (s : NodeLayout) (K : Archival M R) (V : Archival N S) (borrowed : I → M × N) (steps : P → Option I → P → Type 0) (G L : ℕ) (iter0 : P) (from0 : Writing) (some : 1 ≤ s.E) where
  -- nothing is open
  pub opened_none : Opened s K V borrowed steps G L iter0 from0 [] G L 0 iter0 from0
  opened_none = (refl, refl, refl, refl, refl)

  opened_one : (fs : List (Frame I)) (g left taken : ℕ) (rest : P) (to : Writing) → 1 ≤ left + g → Opened s K V borrowed steps G L iter0 from0 fs (suc g) left taken rest to → Opened s K V borrowed steps G L iter0 from0 (([], []) ∷ fs) g left taken rest to
  opened_one fs g left taken rest to high o = (left, taken, rest, to, row_started s K V borrowed steps g left rest to, o, high, omega arith, omega arith)

  -- nodes were opened, down to g levels
  pub opened_many : (k : ℕ) (fs : List (Frame I)) (top g left taken : ℕ) (rest : P) (to : Writing) → top ≡ k + g → (0 < k → 1 ≤ left + g) → Opened s K V borrowed steps G L iter0 from0 fs top left taken rest to → Opened s K V borrowed steps G L iter0 from0 (opening k fs) g left taken rest to
  opened_many zero fs top g left taken rest to is high o = subst (λ h. Opened s K V borrowed steps G L iter0 from0 fs h left taken rest to) (is ∙ omega arith) o
  opened_many (suc k) fs top g left taken rest to is high o = let h = high (omega arith) in opened_one (opening k fs) g left taken rest to h (opened_many k fs top (suc g) left taken rest to (omega arith) (λ z. omega arith) o)

  -- the leaf that comes next is written
  pub done_next : (fs : List (Frame I)) (g left taken left2 taken2 : ℕ) (rest : P) (to : Writing) (root : Option ℕ) (rest2 : P) (to2 : Writing) → Opened s K V borrowed steps G L iter0 from0 fs g left taken rest to → (w : NextWritten s K V borrowed steps g left rest to root rest2 to2) → left2 ≡ left - most s.E g → taken2 ≡ taken + length w.items → Done s K V borrowed steps G L iter0 from0 fs g left2 taken2 root rest2 to2
  done_next fs g left taken left2 taken2 rest to root rest2 to2 o w l t = (left, taken, rest, to, w, o, l, t)

  -- the innermost node takes it and its entry
  pub done_pushed : (f : Frame I) (fs : List (Frame I)) (g left taken : ℕ) (root : Option ℕ) (rest : P) (to : Writing) (item : I) (rest2 : P) → length f.0 < s.E → Done s K V borrowed steps G L iter0 from0 (f ∷ fs) g left taken root rest to → steps rest (Some item) rest2 →
      Opened s K V borrowed steps G L iter0 from0 ((f.0 ++ item ∷ [], f.1 ++ root ∷ []) ∷ fs) g left (taken + 1) rest2 to
  done_pushed f fs g left taken root rest to item rest2 few d gave =
      let o = d.5 in
      let r = o.4 in
      let w = d.4 in
      let own = length-map f.0 borrowed in
      let p = row_pushed s K V borrowed steps g o.0 d.0 o.2 o.3 (map borrowed f.0) f.1 d.2 d.3 root rest to item rest2 (omega (arith, own, few)) r w gave in
      let named : map borrowed f.0 ++ borrowed item ∷ [] ≡ map borrowed (f.0 ++ item ∷ []) = sym (map-append borrowed f.0 (item ∷ [])) in
      let q = subst (λ xs. (q : RowTaken s K V borrowed steps g o.0 (d.0 - most s.E g) o.2 o.3 xs (f.1 ++ root ∷ []) rest2 to) × (length q.items ≡ length r.items + (length w.items + 1))) named p in
      let q2 = subst (λ l. (q : RowTaken s K V borrowed steps g o.0 l o.2 o.3 (map borrowed (f.0 ++ item ∷ [])) (f.1 ++ root ∷ []) rest2 to) × (length q.items ≡ length r.items + (length w.items + 1))) (sym d.6) q in
      (o.0, o.1, o.2, o.3, q2.0, o.5, o.6, simp length-append (omega (arith, few)), omega (arith, q2.1, d.7, o.8))

  -- the innermost node has all, and is written
  pub done_closed : (f : Frame I) (fs : List (Frame I)) (g left taken : ℕ) (at : Option ℕ) (rest : P) (to : Writing) (root : ℕ) (to2 : Writing) → length f.0 ≡ s.E → Done s K V borrowed steps G L iter0 from0 (f ∷ fs) g left taken at rest to →
      NodeWritten s K V (λ (n : ℕ) (owns : List OwnBytes). inner_image s n owns (f.1 ++ at ∷ [])) (inner_size s) to (map borrowed f.0) root to2 → Done s K V borrowed steps G L iter0 from0 fs (suc g) left taken (Some root) rest to2
  done_closed f fs g left taken at rest to root to2 all d node =
      let o = d.5 in
      let r = o.4 in
      let w = d.4 in
      let own = length-map f.0 borrowed in
      let n = row_count s K V borrowed steps g o.0 d.0 o.2 o.3 (map borrowed f.0) f.1 d.2 d.3 r in
      let p = row_closed s K V borrowed steps g o.0 d.0 o.2 o.3 (map borrowed f.0) f.1 d.2 d.3 at rest to root to2 (own ∙ all) some o.6 r w node in
      (o.0, o.1, o.2, o.3, p.0, o.5, left_closed s.E g o.0 d.0 left (length r.pairs) (omega (arith, n, own, all)) r.left_is d.6, omega (arith, p.1, d.7, o.8))

  -- ---- why the whole tree isn't written

  pub opened_stopped : {X : Type 0} (fs : List (Frame I)) (g left taken : ℕ) (rest : P) (to : Writing) (fault : Fault X) (to2 : Writing) → Opened s K V borrowed steps G L iter0 from0 fs g left taken rest to → NextStopped s K V borrowed steps g left rest to fault to2 → NextStopped s K V borrowed steps G L iter0 from0 fault to2
  opened_stopped {X} [] g left taken rest to fault to2 o h =
      let a = subst (λ k. NextStopped s K V borrowed steps {X = X} k left rest to fault to2) o.0 h in
      let b = subst (λ k. NextStopped s K V borrowed steps {X = X} G k rest to fault to2) o.1 a in
      let c = subst (λ k. NextStopped s K V borrowed steps {X = X} G L k to fault to2) o.3 b in
      subst (λ k. NextStopped s K V borrowed steps {X = X} G L iter0 k fault to2) o.4 c
  opened_stopped (f ∷ fs) g left taken rest to fault to2 o h =
      opened_stopped fs (suc g) o.0 o.1 o.2 o.3 fault to2 o.5 (row_child_stopped s K V borrowed steps g o.0 left o.2 o.3 (map borrowed f.0) f.1 rest to fault to2 some o.6 (omega (arith, length-map f.0 borrowed, o.7)) o.4 h)

  pub opened_short : (fs : List (Frame I)) (g left taken : ℕ) (rest : P) (to : Writing) (more : ℕ) (end : P) (to2 : Writing) → Opened s K V borrowed steps G L iter0 from0 fs g left taken rest to → NextShort s K V borrowed steps g left rest to more end to2 → NextShort s K V borrowed steps G L iter0 from0 (taken + more) end to2
  opened_short [] g left taken rest to more end to2 o h =
      let a = subst (λ k. NextShort s K V borrowed steps k left rest to more end to2) o.0 h in
      let b = subst (λ k. NextShort s K V borrowed steps G k rest to more end to2) o.1 a in
      let c = subst (λ k. NextShort s K V borrowed steps G L k to more end to2) o.3 b in
      let d = subst (λ k. NextShort s K V borrowed steps G L iter0 k more end to2) o.4 c in
      let z : more ≡ taken + more = omega (arith, o.2) in
      subst (λ k. NextShort s K V borrowed steps G L iter0 from0 k end to2) z d
  opened_short (f ∷ fs) g left taken rest to more end to2 o h =
      let r = row_child_short s K V borrowed steps g o.0 left o.2 o.3 (map borrowed f.0) f.1 rest to more end to2 some o.6 (omega (arith, length-map f.0 borrowed, o.7)) o.4 h in
      let z : o.1 + (length o.4.items + more) ≡ taken + more = omega (arith, o.8) in
      subst (λ k. NextShort s K V borrowed steps G L iter0 from0 k end to2) z (opened_short fs (suc g) o.0 o.1 o.2 o.3 (length o.4.items + more) end to2 o.5 r)

  -- the items come to an end where the innermost node's entry is to come
  pub done_short : (f : Frame I) (fs : List (Frame I)) (g left taken : ℕ) (root : Option ℕ) (rest : P) (end : P) (to : Writing) → length f.0 < s.E → Done s K V borrowed steps G L iter0 from0 (f ∷ fs) g left taken root rest to → steps rest None end → NextShort s K V borrowed steps G L iter0 from0 taken end to
  done_short f fs g left taken root rest end to few d none =
      let o = d.5 in
      let r = row_entry_short s K V borrowed steps g o.0 d.0 o.2 o.3 (map borrowed f.0) f.1 d.2 d.3 root rest end to some o.6 (omega (arith, length-map f.0 borrowed, few)) o.4 d.4 none in
      let z : o.1 + (length o.4.items + length d.4.items) ≡ taken = omega (arith, d.7, o.8) in
      subst (λ k. NextShort s K V borrowed steps G L iter0 from0 k end to) z (opened_short fs (suc g) o.0 o.1 o.2 o.3 (length o.4.items + length d.4.items) end to o.5 r)

  -- the innermost node is stopped
  pub done_stopped : {X : Type 0} (f : Frame I) (fs : List (Frame I)) (g left taken : ℕ) (at : Option ℕ) (rest : P) (to : Writing) (fault : Fault X) (to2 : Writing) → length f.0 ≡ s.E → Done s K V borrowed steps G L iter0 from0 (f ∷ fs) g left taken at rest to →
      NodeStopped s K V {E = X} (λ (n : ℕ) (owns : List OwnBytes). inner_image s n owns (f.1 ++ at ∷ [])) (inner_size s) to (map borrowed f.0) fault to2 → NextStopped s K V borrowed steps G L iter0 from0 fault to2
  done_stopped f fs g left taken at rest to fault to2 all d node =
      let o = d.5 in
      opened_stopped fs (suc g) o.0 o.1 o.2 o.3 fault to2 o.5 (row_node_stopped s K V borrowed steps g o.0 d.0 o.2 o.3 (map borrowed f.0) f.1 d.2 d.3 at rest to fault to2 some o.6 (length-map f.0 borrowed ∙ all) o.4 d.4 node)

  -- ---- how many entries

  pub opened_room : (fs : List (Frame I)) (g left taken : ℕ) (rest : P) (to : Writing) → Opened s K V borrowed steps G L iter0 from0 fs g left taken rest to → taken + ((s.E + 1) ^ g + min left (most s.E g)) ≤ (s.E + 1) ^ G + min L (most s.E G)
  opened_room [] g left taken rest to o = rw (o.0, o.1, o.2) (omega arith)
  opened_room (f ∷ fs) g left taken rest to o =
      omega (arith, o.8, opened_room fs (suc g) o.0 o.1 o.2 o.3 o.5, row_room s K V borrowed steps g o.0 left o.2 o.3 (map borrowed f.0) f.1 rest to (s.E - length (map borrowed f.0)) o.4 (omega (arith, length-map f.0 borrowed, o.7)))

  pub done_room : (f : Frame I) (fs : List (Frame I)) (g left taken : ℕ) (root : Option ℕ) (rest : P) (to : Writing) → length f.0 < s.E → Done s K V borrowed steps G L iter0 from0 (f ∷ fs) g left taken root rest to → taken + 2 ≤ (s.E + 1) ^ G + min L (most s.E G)
  done_room f fs g left taken root rest to few d =
      let o = d.5 in
      let n = length-map f.0 borrowed in
      let room = row_room s K V borrowed steps g o.0 d.0 o.2 o.3 (map borrowed f.0) f.1 d.2 d.3 (s.E - length (map borrowed f.0)) o.4 (omega (arith, n, o.7)) in
      let above = opened_room fs (suc g) o.0 o.1 o.2 o.3 o.5 in
      let all = written_count s K V borrowed steps g d.0 d.2 d.3 root rest to d.4 in
      let one = some_pairs s.E g (s.E - length (map borrowed f.0)) ((s.E - length (map borrowed f.0)) * (s.E + 1) ^ g + min 0 ((s.E - length (map borrowed f.0)) * (s.E * (s.E + 1) ^ g))) 0 (omega (arith, n, few)) refl in
      omega (arith, o.8, d.7, above, room, all, one)

  -- ---- the whole tree is written
  pub done_whole : (g left taken : ℕ) (root : Option ℕ) (rest : P) (to : Writing) → Done s K V borrowed steps G L iter0 from0 [] g left taken root rest to → NextWritten s K V borrowed steps G L iter0 from0 root rest to
  done_whole g left taken root rest to d =
      let o = d.5 in
      let a = subst (λ k. NextWritten s K V borrowed steps k d.0 d.2 d.3 root rest to) o.0 d.4 in
      let b = subst (λ k. NextWritten s K V borrowed steps G k d.2 d.3 root rest to) o.1 a in
      let c = subst (λ k. NextWritten s K V borrowed steps G L k d.3 root rest to) o.3 b in
      subst (λ k. NextWritten s K V borrowed steps G L iter0 k root rest to) o.4 c

  -- ---- what waits

  pub frame_children : (f : Frame I) (fs : List (Frame I)) (g left taken : ℕ) (rest : P) (to : Writing) → Opened s K V borrowed steps G L iter0 from0 (f ∷ fs) g left taken rest to → length f.1 ≡ length f.0
  frame_children f fs g left taken rest to o =
      let n = row_count s K V borrowed steps g o.0 left o.2 o.3 (map borrowed f.0) f.1 rest to o.4 in
      omega (arith, n, length-map f.0 borrowed, pairs_written_count s K V o.3 o.4.pairs f.1 to o.4.written)

  pub opened_counts : (fs : List (Frame I)) (g left taken : ℕ) (rest : P) (to : Writing) → Opened s K V borrowed steps G L iter0 from0 fs g left taken rest to → (length (children_of fs) ≡ length (waiting_of fs)) × (length (waiting_of fs) ≤ s.E * length fs) × (length (starts_of fs) ≡ length fs) × (g + length fs ≡ G)
  opened_counts [] g left taken rest to o = (refl, omega arith, refl, omega (arith, o.0))
  opened_counts (f ∷ fs) g left taken rest to o =
      let h = opened_counts fs (suc g) o.0 o.1 o.2 o.3 o.5 in
      let n = frame_children f fs g left taken rest to o in (
        omega (arith, h.0, n, length-append (children_of fs) f.1, length-append (waiting_of fs) f.0),
        omega (arith, h.1, o.7, length-append (waiting_of fs) f.0),
        omega (arith, h.2, length-append (starts_of fs) (length (waiting_of fs) ∷ [])),
        omega (arith, h.3),
      )
