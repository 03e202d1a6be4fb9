-- What the builder's lists hold of the open nodes, from step to step.
use Rattle.std.proofs.Common.{◌≡◌, ℕ, zero, suc, ◌+◌, ◌*◌, ◌-◌, ◌^◌, ◌<◌, ◌≤◌, min, List, [], ◌∷◌, ◌++◌, length, map, take, drop, replicate, Option, Some, None, arith, refl, sym, ap, ◌∙◌, subst, inl, inr}
use Rattle.std.proofs.lemmas.List.{length-append, append_assoc, take_at, drop_at}
use Rattle.std.proofs.Math.Nat.{mul-le-mul_left, mul-le-mul_right}
use Rattle.rkyv_btree_portable.specs.InPlace.{OwnBytes}
use Rattle.rkyv_btree_format.specs.Layout.{NodeLayout, inner_size}
use Rattle.rkyv_btree_shape.proofs.Bounds.{pow_grows}
use Rattle.rkyv_btree_writer.specs.Archiving.{Archival}
use Rattle.rkyv_btree_writer.specs.Writing.{Writing}
use Rattle.rkyv_btree_writer.specs.declared.fault.Fault.{Fault}
use Rattle.rkyv_btree_writing_laws.specs.Image.{inner_image}
use Rattle.rkyv_btree_writing_laws.specs.Written.{NodeWritten, NodeStopped}
use Rattle.rkyv_btree_shape.specs.mirror.Filled.{most, IsLeafOf}
use Rattle.rkyv_btree_archive.specs.mirror.Passing.{NextWritten, NextStopped, NextShort, NextFault, Frame, waiting_of, children_of, starts_of, Opened, Done}
use Rattle.rkyv_btree_archive.proofs.Passing.{written_count}
use Rattle.rkyv_btree_archive.proofs.OpenNodes.{opening, opening_waiting, opening_children, opening_starts, opened_none, opened_many, done_next, done_pushed, done_closed, opened_stopped, opened_short, done_short, done_stopped, opened_room, done_room, done_whole, opened_counts}
use Rattle.rkyv_btree_archive.proofs.WholeTree.{leaf_count, leaf_left}

snoc_same : {X : Type 0} (a b : List X) (x y : X) → a ++ x ∷ [] ≡ b ++ y ∷ [] → (a ≡ b) × (x ≡ y)
snoc_same [] [] x y e = (refl, cc e)
snoc_same [] (z ∷ b) x y e = absurd (omega (arith, length-append b (y ∷ []), ap length e))
snoc_same (z ∷ a) [] x y e = absurd (omega (arith, length-append a (x ∷ []), ap length e))
snoc_same (z ∷ a) (w ∷ b) x y e = let t = snoc_same a b x y (cc e) in (cc (t.0, e), t.1)

module _ {I M N R S P : Type 0} (s : NodeLayout) (K : Archival M R) (V : Archival N S) (borrowed : I → M × N) (steps : P → Option I → P → Type 0) (G L : ℕ) (iter0 : P) (from0 : Writing) where
  -- a child is written that has its place in the innermost open node, and the lists hold what waits in the open nodes
  pub record Stands (g left taken : ℕ) (waiting : List I) (children : List (Option ℕ)) (starts : List ℕ) (root : Option ℕ) (rest : P) (to : Writing) : Type 0 where
    pub frames : List (Frame I)
    pub done : Done s K V borrowed steps G L iter0 from0 frames g left taken root rest to
    pub waiting_is : waiting ≡ waiting_of frames
    pub children_is : children ≡ children_of frames
    pub starts_is : starts ≡ starts_of frames

module _ {I M N R S P : Type 0} (s : NodeLayout) (K : Archival M R) (V : Archival N S) (borrowed : I → M × N) (steps : P → Option I → P → Type 0) (G L : ℕ) (iter0 : P) (from0 : Writing) (some : 1 ≤ s.E) where
  -- the first child is written
  pub stands_first : (g left taken n : ℕ) (waiting : List I) (children : List (Option ℕ)) (starts starts0 : List ℕ) (root : Option ℕ) (rest : P) (to : Writing) → g ≤ G → (g < G → 1 ≤ L + g) → waiting ≡ [] → children ≡ [] → starts0 ≡ [] → starts ≡ starts0 ++ replicate (G - g) 0 →
      IsLeafOf s.E g L n → NextWritten s K V borrowed steps g L iter0 from0 root rest to → left ≡ L - s.E → taken ≡ 0 + n → Stands s K V borrowed steps G L iter0 from0 g left taken waiting children starts root rest to
  stands_first g left taken n waiting children starts starts0 root rest to low high none1 none2 none3 opened is w left_is taken_is =
      let o = opened_many s K V borrowed steps G L iter0 from0 some (G - g) [] G g L 0 iter0 from0 (omega arith) (λ h. high (omega arith)) (opened_none s K V borrowed steps G L iter0 from0 some) in
      let counted = written_count s K V borrowed steps g L iter0 from0 root rest to w in
      record {
        frames = opening (G - g) [];
        done = done_next s K V borrowed steps G L iter0 from0 some (opening (G - g) []) g L 0 left taken iter0 from0 root rest to o w (leaf_left s.E g L n left is left_is) (omega (arith, counted, leaf_count s.E g L n is, taken_is));
        waiting_is = none1 ∙ sym (opening_waiting {X = I} (G - g) []);
        children_is = none2 ∙ sym (opening_children {X = I} (G - g) []);
        starts_is = opened ∙ (ap (λ xs. xs ++ replicate (G - g) 0) none3 ∙ sym (opening_starts {X = I} (G - g) []));
      }

  -- why the first child isn't
  pub first_fault : {X : Type 0} (claim g : ℕ) (fault : Fault X) (end : P) (to : Writing) → g ≤ G → (g < G → 1 ≤ L + g) → NextFault s K V borrowed steps claim 0 g L iter0 from0 fault end to → NextFault s K V borrowed steps claim 0 G L iter0 from0 fault end to
  first_fault {X} claim g fault end to low high h = go h
    where
      o : Opened s K V borrowed steps G L iter0 from0 (opening (G - g) []) g L 0 iter0 from0
      o = opened_many s K V borrowed steps G L iter0 from0 some (G - g) [] G g L 0 iter0 from0 (omega arith) (λ h. high (omega arith)) (opened_none s K V borrowed steps G L iter0 from0 some)

      go : NextFault s K V borrowed steps claim 0 g L iter0 from0 fault end to → NextFault s K V borrowed steps claim 0 G L iter0 from0 fault end to
      go (inl h) = inl (opened_stopped s K V borrowed steps G L iter0 from0 some (opening (G - g) []) g L 0 iter0 from0 fault to o h)
      go (inr h) = inr (h.0, 0 + h.1, h.2, h.3, omega (arith, h.4), opened_short s K V borrowed steps G L iter0 from0 some (opening (G - g) []) g L 0 iter0 from0 h.1 end to o h.5)

  -- ---- the innermost open node
  record Innermost (g left taken : ℕ) (waiting : List I) (children : List (Option ℕ)) (front : List ℕ) (first : ℕ) (root : Option ℕ) (rest : P) (to : Writing) : Type 0 where
    f : Frame I
    fs : List (Frame I)
    done : Done s K V borrowed steps G L iter0 from0 (f ∷ fs) g left taken root rest to
    waiting_is : waiting ≡ waiting_of fs ++ f.0
    children_is : children ≡ children_of fs ++ f.1
    front_is : front ≡ starts_of fs
    first_is : length (waiting_of fs) ≡ first
    counts : (length (children_of fs) ≡ length (waiting_of fs)) × (length (waiting_of fs) ≤ s.E * length fs) × (length (starts_of fs) ≡ length fs) × (suc g + length fs ≡ G)
    pairs : length f.1 ≡ length f.0
    few : length f.0 ≤ s.E

  innermost : (g left taken : ℕ) (waiting : List I) (children : List (Option ℕ)) (starts front : List ℕ) (first : ℕ) (root : Option ℕ) (rest : P) (to : Writing) → Stands s K V borrowed steps G L iter0 from0 g left taken waiting children starts root rest to → starts ≡ front ++ first ∷ [] → Innermost g left taken waiting children front first root rest to
  innermost g left taken waiting children starts front first root rest to h e = go h.frames h.done h.waiting_is h.children_is (sym h.starts_is ∙ e)
    where
      go : (frames : List (Frame I)) → Done s K V borrowed steps G L iter0 from0 frames g left taken root rest to → waiting ≡ waiting_of frames → children ≡ children_of frames → starts_of frames ≡ front ++ first ∷ [] → Innermost g left taken waiting children front first root rest to
      go [] d a b c = absurd (omega (arith, length-append front (first ∷ []), ap length c))
      go (f ∷ fs) d a b c =
          let t = snoc_same (starts_of fs) front (length (waiting_of fs)) first c in
          let o = d.5 in
          let counts = opened_counts s K V borrowed steps G L iter0 from0 some fs (suc g) o.0 o.1 o.2 o.3 o.5 in
          let all = opened_counts s K V borrowed steps G L iter0 from0 some (f ∷ fs) g d.0 d.1 d.2 d.3 o in
          record { f = f; fs = fs; done = d; waiting_is = a; children_is = b; front_is = sym t.0; first_is = t.1; counts = counts; pairs = omega (arith, all.0, counts.0, length-append (children_of fs) f.1, length-append (waiting_of fs) f.0); few = o.7 }

  -- what the code asks
  pub record Sizes (g taken : ℕ) (waiting : List I) (children : List (Option ℕ)) (starts : List ℕ) (first : ℕ) : Type 0 where
    pub first_low : first ≤ length waiting
    pub children_count : length children ≡ length waiting
    pub waiting_few : length waiting ≤ first + s.E
    pub below : g < G
    pub starts_count : length starts + g ≡ G
    pub more_waits : length waiting < first + s.E → length waiting + 1 ≤ s.E * G
    pub more_comes : length waiting < first + s.E → taken + 2 ≤ (s.E + 1) ^ G + min L (most s.E G)

  pub sizes : (g left taken : ℕ) (waiting : List I) (children : List (Option ℕ)) (starts front : List ℕ) (first : ℕ) (root : Option ℕ) (rest : P) (to : Writing) → Stands s K V borrowed steps G L iter0 from0 g left taken waiting children starts root rest to → starts ≡ front ++ first ∷ [] → Sizes g taken waiting children starts first
  sizes g left taken waiting children starts front first root rest to h e =
      let i = innermost g left taken waiting children starts front first root rest to h e in
      let n = ap length i.waiting_is ∙ length-append (waiting_of i.fs) i.f.0 in
      let m = ap length i.children_is ∙ length-append (children_of i.fs) i.f.1 in
      let l = ap length e ∙ length-append front (first ∷ []) in
      let levels : s.E * (length i.fs + 1) ≤ s.E * G = mul-le-mul_left s.E (omega (arith, i.counts.3)) in
      record {
        first_low = omega (arith, n, i.first_is);
        children_count = omega (arith, n, m, i.counts.0, i.pairs);
        waiting_few = omega (arith, n, i.first_is, i.few);
        below = omega (arith, i.counts.3);
        starts_count = omega (arith, l, ap length i.front_is, i.counts.2, i.counts.3);
        more_waits = λ less. omega (arith, less, n, i.first_is, i.counts.1, levels);
        more_comes = λ less. done_room s K V borrowed steps G L iter0 from0 some i.f i.fs g left taken root rest to (omega (arith, less, n, i.first_is)) i.done;
      }

  -- the innermost node is written
  pub stands_closed : (g left taken : ℕ) (waiting : List I) (children : List (Option ℕ)) (starts front : List ℕ) (first : ℕ) (at : Option ℕ) (rest : P) (to : Writing) (root : ℕ) (to2 : Writing) (waiting2 : List I) (children2 : List (Option ℕ)) (starts2 : List ℕ) (g2 : ℕ) →
      Stands s K V borrowed steps G L iter0 from0 g left taken waiting children starts at rest to → starts ≡ front ++ first ∷ [] → length waiting - first ≡ s.E →
      NodeWritten s K V (λ (n : ℕ) (owns : List OwnBytes). inner_image s n owns (drop first children ++ at ∷ [])) (inner_size s) to (map borrowed (drop first waiting)) root to2 → waiting2 ≡ take first waiting → children2 ≡ take first children → starts2 ≡ take (length starts - 1) starts → g2 ≡ g + 1 →
      Stands s K V borrowed steps G L iter0 from0 g2 left taken waiting2 children2 starts2 (Some root) rest to2
  stands_closed g left taken waiting children starts front first at rest to root to2 waiting2 children2 starts2 g2 h e all node a b c up =
      let i = innermost g left taken waiting children starts front first at rest to h e in
      let n = ap length i.waiting_is ∙ length-append (waiting_of i.fs) i.f.0 in
      let l = ap length e ∙ length-append front (first ∷ []) in
      let own : drop first waiting ≡ i.f.0 = ap (drop first) i.waiting_is ∙ drop_at (waiting_of i.fs) i.f.0 first i.first_is in
      let roots : drop first children ≡ i.f.1 = ap (drop first) i.children_is ∙ drop_at (children_of i.fs) i.f.1 first (i.counts.0 ∙ i.first_is) in
      let node1 = subst (λ xs. NodeWritten s K V (λ (n : ℕ) (owns : List OwnBytes). inner_image s n owns (drop first children ++ at ∷ [])) (inner_size s) to (map borrowed xs) root to2) own node in
      let node2 = subst (λ xs. NodeWritten s K V (λ (n : ℕ) (owns : List OwnBytes). inner_image s n owns (xs ++ at ∷ [])) (inner_size s) to (map borrowed i.f.0) root to2) roots node1 in
      let d = done_closed s K V borrowed steps G L iter0 from0 some i.f i.fs g left taken at rest to root to2 (omega (arith, all, n, i.first_is)) i.done node2 in
      let next : suc g ≡ g2 = omega (arith, up) in
      record {
        frames = i.fs;
        done = subst (λ k. Done s K V borrowed steps G L iter0 from0 i.fs k left taken (Some root) rest to2) next d;
        waiting_is = a ∙ (ap (take first) i.waiting_is ∙ take_at (waiting_of i.fs) i.f.0 first i.first_is);
        children_is = b ∙ (ap (take first) i.children_is ∙ take_at (children_of i.fs) i.f.1 first (i.counts.0 ∙ i.first_is));
        starts_is = c ∙ (ap (take (length starts - 1)) e ∙ (take_at front (first ∷ []) (length starts - 1) (omega (arith, l)) ∙ i.front_is));
      }

  pub closed_fault : {X : Type 0} (g left taken : ℕ) (waiting : List I) (children : List (Option ℕ)) (starts front : List ℕ) (first : ℕ) (at : Option ℕ) (rest : P) (to : Writing) (fault : Fault X) (to2 : Writing) →
      Stands s K V borrowed steps G L iter0 from0 g left taken waiting children starts at rest to → starts ≡ front ++ first ∷ [] → length waiting - first ≡ s.E →
      NodeStopped s K V {E = X} (λ (n : ℕ) (owns : List OwnBytes). inner_image s n owns (drop first children ++ at ∷ [])) (inner_size s) to (map borrowed (drop first waiting)) fault to2 → NextStopped s K V borrowed steps G L iter0 from0 fault to2
  closed_fault {X} g left taken waiting children starts front first at rest to fault to2 h e all node =
      let i = innermost g left taken waiting children starts front first at rest to h e in
      let n = ap length i.waiting_is ∙ length-append (waiting_of i.fs) i.f.0 in
      let own : drop first waiting ≡ i.f.0 = ap (drop first) i.waiting_is ∙ drop_at (waiting_of i.fs) i.f.0 first i.first_is in
      let roots : drop first children ≡ i.f.1 = ap (drop first) i.children_is ∙ drop_at (children_of i.fs) i.f.1 first (i.counts.0 ∙ i.first_is) in
      let node1 = subst (λ xs. NodeStopped s K V {E = X} (λ (n : ℕ) (owns : List OwnBytes). inner_image s n owns (drop first children ++ at ∷ [])) (inner_size s) to (map borrowed xs) fault to2) own node in
      let node2 = subst (λ xs. NodeStopped s K V {E = X} (λ (n : ℕ) (owns : List OwnBytes). inner_image s n owns (xs ++ at ∷ [])) (inner_size s) to (map borrowed i.f.0) fault to2) roots node1 in
      done_stopped s K V borrowed steps G L iter0 from0 some i.f i.fs g left taken at rest to fault to2 (omega (arith, all, n, i.first_is)) i.done node2

  -- its next entry doesn't come
  pub entry_short : (g left taken : ℕ) (waiting : List I) (children : List (Option ℕ)) (starts front : List ℕ) (first : ℕ) (root : Option ℕ) (rest : P) (end : P) (to : Writing) → Stands s K V borrowed steps G L iter0 from0 g left taken waiting children starts root rest to → starts ≡ front ++ first ∷ [] → length waiting < first + s.E → steps rest None end → NextShort s K V borrowed steps G L iter0 from0 taken end to
  entry_short g left taken waiting children starts front first root rest end to h e less none =
      let i = innermost g left taken waiting children starts front first root rest to h e in
      let n = ap length i.waiting_is ∙ length-append (waiting_of i.fs) i.f.0 in
      done_short s K V borrowed steps G L iter0 from0 some i.f i.fs g left taken root rest end to (omega (arith, less, n, i.first_is)) i.done none

  -- its next entry comes, and nodes are opened down to the next leaf
  pub record Goes (g left taken : ℕ) (waiting : List I) (children : List (Option ℕ)) (starts : List ℕ) (rest : P) (to : Writing) : Type 0 where
    pub frames : List (Frame I)
    pub opened : Opened s K V borrowed steps G L iter0 from0 frames g left taken rest to
    pub waiting_is : waiting ≡ waiting_of frames
    pub children_is : children ≡ children_of frames
    pub starts_is : starts ≡ starts_of frames

  pub goes_on : (g left taken : ℕ) (waiting : List I) (children : List (Option ℕ)) (starts front : List ℕ) (first : ℕ) (root : Option ℕ) (rest : P) (to : Writing) (item : I) (rest2 : P) (g2 taken2 : ℕ) (waiting2 : List I) (children2 : List (Option ℕ)) (starts2 : List ℕ) →
      Stands s K V borrowed steps G L iter0 from0 g left taken waiting children starts root rest to → starts ≡ front ++ first ∷ [] → length waiting < first + s.E → steps rest (Some item) rest2 → waiting2 ≡ waiting ++ item ∷ [] → children2 ≡ children ++ root ∷ [] → taken2 ≡ taken + 1 →
      g2 ≤ g → (g2 < g → 1 ≤ left + g2) → starts2 ≡ starts ++ replicate (g - g2) (length waiting2) → Goes g2 left taken2 waiting2 children2 starts2 rest2 to
  goes_on g left taken waiting children starts front first root rest to item rest2 g2 taken2 waiting2 children2 starts2 h e less gave a b t low high c =
      let i = innermost g left taken waiting children starts front first root rest to h e in
      let n = ap length i.waiting_is ∙ length-append (waiting_of i.fs) i.f.0 in
      let o = done_pushed s K V borrowed steps G L iter0 from0 some i.f i.fs g left taken root rest to item rest2 (omega (arith, less, n, i.first_is)) i.done gave in
      let f2 : Frame I = (i.f.0 ++ item ∷ [], i.f.1 ++ root ∷ []) in
      let o2 = opened_many s K V borrowed steps G L iter0 from0 some (g - g2) (f2 ∷ i.fs) g g2 left (taken + 1) rest2 to (omega arith) (λ z. high (omega arith)) o in
      let w : waiting2 ≡ waiting_of (f2 ∷ i.fs) = a ∙ (ap (λ xs. xs ++ item ∷ []) i.waiting_is ∙ append_assoc (waiting_of i.fs) i.f.0 (item ∷ [])) in
      let q : children2 ≡ children_of (f2 ∷ i.fs) = b ∙ (ap (λ xs. xs ++ root ∷ []) i.children_is ∙ append_assoc (children_of i.fs) i.f.1 (root ∷ [])) in
      let z : starts ≡ starts_of (f2 ∷ i.fs) = e ∙ (ap (λ xs. xs ++ first ∷ []) i.front_is ∙ ap (λ k. starts_of i.fs ++ k ∷ []) (sym i.first_is)) in
      record {
        frames = opening (g - g2) (f2 ∷ i.fs);
        opened = subst (λ k. Opened s K V borrowed steps G L iter0 from0 (opening (g - g2) (f2 ∷ i.fs)) g2 left k rest2 to) (sym t) o2;
        waiting_is = w ∙ sym (opening_waiting (g - g2) (f2 ∷ i.fs));
        children_is = q ∙ sym (opening_children (g - g2) (f2 ∷ i.fs));
        starts_is = c ∙ (ap (λ xs. xs ++ replicate (g - g2) (length waiting2)) z ∙ (ap (λ k. starts_of (f2 ∷ i.fs) ++ replicate (g - g2) k) (ap length w) ∙ sym (opening_starts (g - g2) (f2 ∷ i.fs))));
      }

  pub goes_room : (g left taken n : ℕ) (waiting : List I) (children : List (Option ℕ)) (starts : List ℕ) (rest : P) (to : Writing) → Goes g left taken waiting children starts rest to → IsLeafOf s.E g left n → taken + n + 1 ≤ (s.E + 1) ^ G + min L (most s.E G)
  goes_room g left taken n waiting children starts rest to h is = omega (arith, opened_room s K V borrowed steps G L iter0 from0 some h.frames g left taken rest to h.opened, leaf_count s.E g left n is)

  pub goes_counts : (g left taken : ℕ) (waiting : List I) (children : List (Option ℕ)) (starts : List ℕ) (rest : P) (to : Writing) → Goes g left taken waiting children starts rest to → length starts + g ≡ G
  goes_counts g left taken waiting children starts rest to h = let c = opened_counts s K V borrowed steps G L iter0 from0 some h.frames g left taken rest to h.opened in omega (arith, ap length h.starts_is, c.2, c.3)

  -- the next leaf is written
  pub stands_next : (g left taken n : ℕ) (waiting : List I) (children : List (Option ℕ)) (starts : List ℕ) (rest : P) (to : Writing) (root : Option ℕ) (rest2 : P) (to2 : Writing) (left2 taken2 : ℕ) → Goes g left taken waiting children starts rest to → IsLeafOf s.E g left n → NextWritten s K V borrowed steps g left rest to root rest2 to2 → left2 ≡ left - s.E → taken2 ≡ taken + n →
      Stands s K V borrowed steps G L iter0 from0 g left2 taken2 waiting children starts root rest2 to2
  stands_next g left taken n waiting children starts rest to root rest2 to2 left2 taken2 h is w l t =
      let counted = written_count s K V borrowed steps g left rest to root rest2 to2 w in
      record {
        frames = h.frames;
        done = done_next s K V borrowed steps G L iter0 from0 some h.frames g left taken left2 taken2 rest to root rest2 to2 h.opened w (leaf_left s.E g left n left2 is l) (omega (arith, counted, leaf_count s.E g left n is, t));
        waiting_is = h.waiting_is;
        children_is = h.children_is;
        starts_is = h.starts_is;
      }

  pub next_fault : {X : Type 0} (claim g left taken : ℕ) (waiting : List I) (children : List (Option ℕ)) (starts : List ℕ) (rest : P) (to : Writing) (fault : Fault X) (end : P) (to2 : Writing) → Goes g left taken waiting children starts rest to → NextFault s K V borrowed steps claim taken g left rest to fault end to2 → NextFault s K V borrowed steps claim 0 G L iter0 from0 fault end to2
  next_fault claim g left taken waiting children starts rest to fault end to2 h (inl k) = inl (opened_stopped s K V borrowed steps G L iter0 from0 some h.frames g left taken rest to fault to2 h.opened k)
  next_fault claim g left taken waiting children starts rest to fault end to2 h (inr k) = inr (k.0, taken + k.1, k.2, k.3, omega (arith, k.4), opened_short s K V borrowed steps G L iter0 from0 some h.frames g left taken rest to k.1 end to2 h.opened k.5)

  -- no node is open any more
  pub stands_whole : (g left taken : ℕ) (waiting : List I) (children : List (Option ℕ)) (starts : List ℕ) (root : Option ℕ) (rest : P) (to : Writing) → Stands s K V borrowed steps G L iter0 from0 g left taken waiting children starts root rest to → starts ≡ [] → NextWritten s K V borrowed steps G L iter0 from0 root rest to
  stands_whole g left taken waiting children starts root rest to h none = go h.frames h.done (sym h.starts_is ∙ none)
    where
      go : (frames : List (Frame I)) → Done s K V borrowed steps G L iter0 from0 frames g left taken root rest to → starts_of frames ≡ [] → NextWritten s K V borrowed steps G L iter0 from0 root rest to
      go [] d e = done_whole s K V borrowed steps G L iter0 from0 some g left taken root rest to d
      go (f ∷ fs) d e = absurd (omega (arith, length-append (starts_of fs) (length (waiting_of fs) ∷ []), ap length e))

module _ {I M N R S P : Type 0} (s : NodeLayout) (K : Archival M R) (V : Archival N S) (borrowed : I → M × N) (steps : P → Option I → P → Type 0) (G L : ℕ) (iter0 : P) (from0 : Writing) where
  -- none waits then
  pub stands_none : (g left taken : ℕ) (waiting : List I) (children : List (Option ℕ)) (starts : List ℕ) (root : Option ℕ) (rest : P) (to : Writing) → Stands s K V borrowed steps G L iter0 from0 g left taken waiting children starts root rest to → starts ≡ [] → waiting ≡ []
  stands_none g left taken waiting children starts root rest to h none = go h.frames h.waiting_is (sym h.starts_is ∙ none)
    where
      go : (frames : List (Frame I)) → waiting ≡ waiting_of frames → starts_of frames ≡ [] → waiting ≡ []
      go [] is e = is
      go (f ∷ fs) is e = absurd (omega (arith, length-append (starts_of fs) (length (waiting_of fs) ∷ []), ap length e))

  -- all have come then
  pub stands_taken : (g left taken : ℕ) (waiting : List I) (children : List (Option ℕ)) (starts : List ℕ) (root : Option ℕ) (rest : P) (to : Writing) → Stands s K V borrowed steps G L iter0 from0 g left taken waiting children starts root rest to → starts ≡ [] → taken + 1 ≡ (s.E + 1) ^ G + min L (most s.E G)
  stands_taken g left taken waiting children starts root rest to h none = go h.frames h.done (sym h.starts_is ∙ none)
    where
      go : (frames : List (Frame I)) → Done s K V borrowed steps G L iter0 from0 frames g left taken root rest to → starts_of frames ≡ [] → taken + 1 ≡ (s.E + 1) ^ G + min L (most s.E G)
      go [] d e =
          let o = d.5 in
          let n = written_count s K V borrowed steps g d.0 d.2 d.3 root rest to d.4 in
          rw (sym o.0, sym o.1) (omega (arith, n, d.7, o.2))
      go (f ∷ fs) d e = absurd (omega (arith, length-append (starts_of fs) (length (waiting_of fs) ∷ []), ap length e))

-- ---- numbers
-- each turn takes an entry, or closes a node
pub turn_taken : (claim taken n above starts starts2 : ℕ) → taken + n + 1 ≤ claim → starts2 ≤ above → (claim - (taken + 1 + n)) * (above + 1) + starts2 < (claim - taken) * (above + 1) + starts
turn_taken claim taken n above starts starts2 room few = let m : ((claim - (taken + 1 + n)) + 1) * (above + 1) ≤ (claim - taken) * (above + 1) = mul-le-mul_right (above + 1) (omega arith) in omega (arith, m)

-- the first leaf has an entry
pub some_leaf : (E g left n : ℕ) → 1 ≤ E → 1 ≤ left → IsLeafOf E g left n → n ≡ 0 → ⊥
some_leaf E g left n some more (inl h) none = absurd (omega (arith, h.1, none, some, more))
some_leaf E g left n some more (inr h) none = absurd (omega (arith, h.1, more))

-- a node less is open
pub fewer_open : (starts starts2 front : List ℕ) (first n : ℕ) → starts ≡ front ++ first ∷ [] → n ≡ length starts - 1 → starts2 ≡ take n starts → (starts2 ≡ take (length starts - 1) starts) × (length starts2 < length starts)
fewer_open starts starts2 front first n e is c =
    let l = ap length e ∙ length-append front (first ∷ []) in
    let same : starts2 ≡ front = c ∙ (ap (take n) e ∙ take_at front (first ∷ []) n (omega (arith, l, is))) in
    (c ∙ ap (λ k. take k starts) is, omega (arith, l, ap length same))

pub closing_less : (claim taken above starts starts2 : ℕ) → starts2 < starts → (claim - taken) * (above + 1) + starts2 < (claim - taken) * (above + 1) + starts
closing_less claim taken above starts starts2 h = omega arith

pub level_fits : (n m : ℕ) → n < m → m < 18446744073709551616 → n + 1 < 18446744073709551616
level_fits n m low fits = omega arith

pub taken_fits : (taken claim : ℕ) → taken + 2 ≤ claim + 1 → claim ≤ 4294967295 → taken + 1 < 18446744073709551616
taken_fits taken claim low small = omega arith

pub all_claimed : (E above on_last claim : ℕ) → (E + 1) ^ above + on_last ≡ claim + 1 → on_last ≤ most E above → (E + 1) ^ above + min on_last (most E above) ≡ claim + 1
all_claimed E above on_last claim is few = omega (arith, is, few)

-- a child has as many entries as its first leaf
pub leaf_inside : (E g g2 left n : ℕ) → g2 ≤ g → IsLeafOf E g2 left n → n + 1 ≤ (E + 1) ^ g + min left (most E g)
leaf_inside E g g2 left n low is = omega (arith, leaf_count E g2 left n is, pow_grows E g2 g low, mul-le-mul_left E (pow_grows E g2 g low))

pub none_left : (E g left n : ℕ) → 1 ≤ E → IsLeafOf E g left n → n ≡ 0 → left ≡ left - E
none_left E g left n some (inl h) none = omega (arith, h.1, none, some)
none_left E g left n some (inr h) none = omega (arith, h.2, none, some)

pub some_count : (n : ℕ) → (n ≡ 0 → ⊥) → 0 < n
some_count zero h = absurd (h refl)
some_count (suc n) h = omega arith

pub turn_entry : (claim taken above starts starts2 : ℕ) → taken + 1 ≤ claim → starts2 ≤ above → (claim - (taken + 1)) * (above + 1) + starts2 < (claim - taken) * (above + 1) + starts
turn_entry claim taken above starts starts2 room few = let m : ((claim - (taken + 1)) + 1) * (above + 1) ≤ (claim - taken) * (above + 1) = mul-le-mul_right (above + 1) (omega arith) in omega (arith, m)

pub fits_below : (n claim : ℕ) → n ≤ claim → claim ≤ 4294967295 → n < 18446744073709551616
fits_below n claim low small = omega arith
