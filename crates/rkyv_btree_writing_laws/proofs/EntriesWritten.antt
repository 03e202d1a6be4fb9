-- The entries of a node, from what was written for them.
use Rattle.std.proofs.Common.{◌≡◌, ℕ, ◌+◌, ◌*◌, ◌≤◌, ◌∙◌, IsTrue, List, [], ◌∷◌, ◌++◌, length, map, drop, get_or, refl, sym, ap, subst, arith}
use Rattle.std.proofs.lemmas.List.{length-append, append-nil, append_assoc, drop_at}
use Rattle.rkyv_btree_writer.specs.Archiving.{Archival, IsArchived, Matches}
use Rattle.rkyv_btree_portable.specs.Bytes.{Holds}
use Rattle.rkyv_btree_portable.specs.InPlace.{OwnBytes}
use Rattle.rkyv_btree_portable.specs.Kind.{Kind, IsLawful}
use Rattle.rkyv_btree_format.specs.Layout.{layout_of, are_fitting, key_at, value_at, align, leaf_size}
use Rattle.rkyv_btree_format.specs.Spells.{Entries}
use Rattle.rkyv_btree_portable.specs.Standing.{IsAligned}
use Rattle.rkyv_btree_writer.specs.Writing.{Writing, Write, position, Wrote, appended}
use Rattle.rkyv_btree_writing_laws.specs.Entries.{IsSerialised, AreSerialised, AreResolved}
use Rattle.rkyv_btree_format.proofs.Sizes.{room_of}
use Rattle.rkyv_btree_format.proofs.Aligned.{key_aligned, value_aligned}
use Rattle.rkyv_btree_portable.specs.laws.Holding.{Holds-front, Holds-back, Holds-at}
use Rattle.rkyv_btree_writing_laws.proofs.Leaves.{keys_of, values_of}

-- state t has more after the contents of s
pub record Grown (s t : Writing) : Type 0 where
  pub more : List ℕ
  pub base : t.base ≡ s.base
  pub contents : t.contents ≡ s.contents ++ more

-- a buffer holds what t has after the contents of s
abbrev pub HeldSince : List ℕ → Writing → Writing → Type 0
HeldSince b s t = Holds b (position s) (drop (length s.contents) t.contents)

pub since : (s t : Writing) (g : Grown s t) → drop (length s.contents) t.contents ≡ g.more
since s t g = ap (drop (length s.contents)) g.contents ∙ drop_at s.contents g.more (length s.contents) refl

pub grown-position : (s t : Writing) (g : Grown s t) → position t ≡ position s + length g.more
grown-position s t g = omega (arith, g.base, ap length g.contents, length-append s.contents g.more)

pub grown-none : (s t : Writing) → t ≡ s → Grown s t
grown-none s t same = subst (λ (u : Writing). Grown s u) (sym same) (record { more = []; base = refl; contents = sym (append-nil s.contents) })

abbrev pub grown-both : (s m t : Writing) → Grown s m → Grown m t → Grown s t
grown-both s m t g h = record {
  more = g.more ++ h.more;
  base = h.base ∙ g.base;
  contents = h.contents ∙ (ap (λ z. z ++ h.more) g.contents ∙ append_assoc s.contents g.more h.more);
}

abbrev pub grown-wrote : (s t : Writing) (writes : List Write) → Wrote s writes t → Grown s t
grown-wrote s t writes w = record { more = appended writes; base = w.done.base; contents = w.done.contents }

-- what is held between two states is held up to one between them, and from it
pub held-split : (b : List ℕ) (s m t : Writing) → Grown s m → Grown m t → HeldSince b s t → HeldSince b s m × HeldSince b m t
held-split b s m t g h held =
    let both = grown-both s m t g h in
    let whole : Holds b (position s) (g.more ++ h.more) = subst (Holds b (position s)) (since s t both) held in (
      subst (Holds b (position s)) (sym (since s m g)) (Holds-front b (position s) g.more h.more whole),
      subst (Holds b (position m)) (sym (since m t h)) (Holds-at b (position s + length g.more) (position m) h.more (sym (grown-position s m g)) (Holds-back b (position s) g.more h.more whole)),
    )

pub held-wrote : (b : List ℕ) (s t : Writing) (writes : List Write) (w : Wrote s writes t) → HeldSince b s t → Holds b (position s) (appended writes)
held-wrote b s t writes w held = subst (Holds b (position s)) (since s t (grown-wrote s t writes w)) held

abbrev pub tail_of : {X : Type 0} → List X → List X
tail_of [] = []
tail_of (x ∷ xs) = xs

-- serialised and resolved entries, one after another
module _ {M N R S : Type 0} (KA : Archival M R) (VA : Archival N S) where
  abbrev pub AreWritten : Writing → ℕ → ℕ → List (M × N) → List OwnBytes → Writing → Type 0
  AreWritten from ka va [] owns to = (to ≡ from) × (owns ≡ [])
  AreWritten from ka va (x ∷ xs) owns to =
      (o : OwnBytes) × (rest : List OwnBytes) × (mid : Writing) × (next : Writing) × (r : R) × (r2 : S) × IsSerialised KA from x.0 r mid × KA.Resolves x.0 r ka o.0 × IsSerialised VA mid x.1 r2 next × VA.Resolves x.1 r2 va o.1 × AreWritten next (ka + KA.kind.size) (va + VA.kind.size) xs rest to × (owns ≡ o ∷ rest)

  pub together : (from : Writing) (ka va : ℕ) (xs : List (M × N)) (keys : List R) (values : List S) (owns : List OwnBytes) (to : Writing) → AreSerialised KA VA from xs keys values to →
      AreResolved KA ka (map (λ x. x.0) xs) keys (map (λ o. o.0) owns) → AreResolved VA va (map (λ x. x.1) xs) values (map (λ o. o.1) owns) → AreWritten from ka va xs owns to
  together from ka va [] keys values [] to h hk hv = (h.0, refl)
  together from ka va [] keys values (o ∷ owns) to h hk hv = absurd (cc hk.1)
  together from ka va (x ∷ xs) keys values [] to h hk hv = absurd (cc hk.7)
  together from ka va (x ∷ xs) keys values (o ∷ owns) to h hk hv =
      let ek : h.2 ≡ hk.1 = ap tail_of (sym h.9 ∙ hk.6) in
      let er : hk.0 ≡ h.0 = ap (λ (zs : List R). get_or zs 0 h.0) (sym hk.6 ∙ h.9) in
      let ev : h.3 ≡ hv.1 = ap tail_of (sym h.10 ∙ hv.6) in
      let er2 : hv.0 ≡ h.1 = ap (λ (zs : List S). get_or zs 0 h.1) (sym hv.6 ∙ h.10) in
      let own : hk.2 ≡ o.0 = ap (λ (zs : List (List ℕ)). get_or zs 0 o.0) (sym hk.7) in
      let own2 : hv.2 ≡ o.1 = ap (λ (zs : List (List ℕ)). get_or zs 0 o.1) (sym hv.7) in
      let rest : hk.3 ≡ map (λ (z : OwnBytes). z.0) owns = ap tail_of (sym hk.7) in
      let rest2 : hv.3 ≡ map (λ (z : OwnBytes). z.1) owns = ap tail_of (sym hv.7) in
      let hk2 : AreResolved KA (ka + KA.kind.size) (map (λ z. z.0) xs) h.2 (map (λ (z : OwnBytes). z.0) owns) = subst (λ (zs : List R). AreResolved KA (ka + KA.kind.size) (map (λ z. z.0) xs) zs (map (λ (z : OwnBytes). z.0) owns)) (sym ek) (subst (λ (zs : List (List ℕ)). AreResolved KA (ka + KA.kind.size) (map (λ z. z.0) xs) hk.1 zs) rest hk.5) in
      let hv2 : AreResolved VA (va + VA.kind.size) (map (λ z. z.1) xs) h.3 (map (λ (z : OwnBytes). z.1) owns) = subst (λ (zs : List S). AreResolved VA (va + VA.kind.size) (map (λ z. z.1) xs) zs (map (λ (z : OwnBytes). z.1) owns)) (sym ev) (subst (λ (zs : List (List ℕ)). AreResolved VA (va + VA.kind.size) (map (λ z. z.1) xs) hv.1 zs) rest2 hv.5) in (
        o,
        owns,
        h.4,
        h.5,
        h.0,
        h.1,
        h.6,
        subst (λ (z : R). KA.Resolves x.0 z ka o.0) er (subst (λ (z : List ℕ). KA.Resolves x.0 hk.0 ka z) own hk.4),
        h.7,
        subst (λ (z : S). VA.Resolves x.1 z va o.1) er2 (subst (λ (z : List ℕ). VA.Resolves x.1 hv.0 va z) own2 hv.4),
        together h.5 (ka + KA.kind.size) (va + VA.kind.size) xs h.2 h.3 owns to h.8 hk2 hv2,
        refl,
      )

  pub entries_grown : (from : Writing) (ka va : ℕ) (xs : List (M × N)) (owns : List OwnBytes) (to : Writing) → AreWritten from ka va xs owns to → Grown from to
  entries_grown from ka va [] owns to h = grown-none from to h.0
  entries_grown from ka va (x ∷ xs) owns to h =
      grown-both from h.2 to (grown-wrote from h.2 h.6.writes h.6.wrote) (grown-both h.2 h.3 to (grown-wrote h.2 h.3 h.8.writes h.8.wrote) (entries_grown h.3 (ka + KA.kind.size) (va + VA.kind.size) xs h.1 to h.10))

-- what a value means that was serialised and resolved, in a window of which its bytes are a part
value_spelled : {X R : Type 0} (T : Archival X R) (K : Kind) (match : Matches T.kind K) → IsArchived T → IsLawful K → IsTrue K.is_fitting → (b : List ℕ) (lo hi : ℕ) (s t : Writing) (x : X) (r : R) (at : ℕ) (own : List ℕ) →
    IsSerialised T s x r t → T.Resolves x r at own → HeldSince b s t → Holds b at own → length b ≤ 4294967295 → lo ≤ position s → position t ≤ hi → hi ≤ at → at + K.size ≤ length b → IsAligned K.align at → (left : ℕ) × K.Means b lo hi at left (match.to (T.meaning x)) × (left ≤ position t) × (lo ≤ left)
value_spelled T K match law k fits b lo hi s t x r at own h resolves held there short low high before inside aligned =
    let end = grown-position s t (grown-wrote s t h.writes h.wrote) in
    let meant = (law x (position s) at h.writes r own h.is_in h.allowed resolves).1 (subst IsTrue (sym match.fits) fits) b h.wrote.reach short (subst (λ (n : ℕ). IsAligned n at) (sym match.align) aligned) (omega (arith, end)) (omega (arith, match.size)) (held-wrote b s t h.writes h.wrote held) there in
    let here = match.means b (position s) (position s + length (appended h.writes)) at meant.0 (T.meaning x) meant.1 in
    let lies = k.lies b (position s) (position s + length (appended h.writes)) at meant.0 (match.to (T.meaning x)) here in
    let wide = k.widens b (position s) (position s + length (appended h.writes)) at meant.0 lo hi (match.to (T.meaning x)) low (omega (arith, end)) before here in
    let wider = k.lies b lo hi at wide.0 (match.to (T.meaning x)) wide.2 in
    (wide.0, wide.2, omega (arith, wide.1, lies.kept, end), wider.forward)

module _ {M N R S : Type 0} (K V : Kind) (E : ℕ) (k : IsLawful K) (v : IsLawful V) (fits : IsTrue (are_fitting K V E)) (KA : Archival M R) (VA : Archival N S) (key : Matches KA.kind K) (value : Matches VA.kind V) (ka : IsArchived KA) (va : IsArchived VA) where
  -- what an entry means
  abbrev pub meant : M × N → K.Value × V.Value
  meant x = (key.to (KA.meaning x.0), value.to (VA.meaning x.1))

  pub sizes : (from : Writing) (p q : ℕ) (xs : List (M × N)) (owns : List OwnBytes) (to : Writing) → AreWritten KA VA from p q xs owns to → (length owns ≡ length xs) × (length (keys_of owns) ≡ length xs * K.size) × (length (values_of owns) ≡ length xs * V.size)
  sizes from p q [] owns to h = (ap length h.1, ap (λ z. length (keys_of z)) h.1 ∙ omega arith, ap (λ z. length (values_of z)) h.1 ∙ omega arith)
  sizes from p q (x ∷ xs) owns to h =
      let more = sizes h.3 (p + KA.kind.size) (q + VA.kind.size) xs h.1 to h.10 in
      let one = (ka x.0 (position from) p h.6.writes h.4 h.0.0 h.6.is_in h.6.allowed h.7).0 in
      let two = (va x.1 (position h.2) q h.8.writes h.5 h.0.1 h.8.is_in h.8.allowed h.9).0 in (
        ap length h.11 ∙ omega (arith, more.0),
        ap (λ z. length (keys_of z)) h.11 ∙ omega (arith, length-append h.0.0 (keys_of h.1), one, key.size, more.1),
        ap (λ z. length (values_of z)) h.11 ∙ omega (arith, length-append h.0.1 (values_of h.1), two, value.size, more.2),
      )

  -- the entries from number i on, each in the window that the one before it left
  pub entries_spelled : (b : List ℕ) (lo p i ak av : ℕ) (from : Writing) (xs : List (M × N)) (owns : List OwnBytes) (to : Writing) → AreWritten KA VA from ak av xs owns to → ak ≡ p + key_at (layout_of K V E) i → av ≡ p + value_at (layout_of K V E) i → HeldSince b from to →
      length b ≤ 4294967295 → lo ≤ position from → position to ≤ p → IsAligned (align (layout_of K V E)) p → i + length xs ≤ E → p + leaf_size (layout_of K V E) ≤ length b → Holds b ak (keys_of owns) → Holds b av (values_of owns) →
      (left : ℕ) × Entries K V E b p i lo left (map meant xs) × (left ≤ position to)
  entries_spelled b lo p i ak av from [] owns to h ek ev held short low high aligned few inside ks vs = (lo, refl, omega (arith, low, ap position h.0))
  entries_spelled b lo p i ak av from (x ∷ xs) owns to h ek ev held short low high aligned few inside ks vs =
      let s = layout_of K V E in
      let room = room_of K V E k v fits in
      let parts = room.parts in
      let mid = h.2 in
      let next = h.3 in
      let first = grown-wrote from mid h.6.writes h.6.wrote in
      let second = grown-wrote mid next h.8.writes h.8.wrote in
      let others = entries_grown KA VA next (ak + KA.kind.size) (av + VA.kind.size) xs h.1 to h.10 in
      let a = held-split b from mid to first (grown-both mid next to second others) held in
      let c = held-split b mid next to second others a.1 in
      let p1 = grown-position from mid first in
      let p2 = grown-position mid next second in
      let p3 = grown-position next to others in
      let key_room : (i + 1) * K.size ≤ E * K.size = room.key_at (i + 1) (omega arith) in
      let value_room : (i + 1) * V.size ≤ E * V.size = room.value_at (i + 1) (omega arith) in
      let hk : Holds b ak (h.0.0 ++ keys_of h.1) = subst (λ (z : List OwnBytes). Holds b ak (keys_of z)) h.11 ks in
      let hv : Holds b av (h.0.1 ++ values_of h.1) = subst (λ (z : List OwnBytes). Holds b av (values_of z)) h.11 vs in
      let one = (ka x.0 (position from) ak h.6.writes h.4 h.0.0 h.6.is_in h.6.allowed h.7).0 in
      let two = (va x.1 (position mid) av h.8.writes h.5 h.0.1 h.8.is_in h.8.allowed h.9).0 in
      let key_here = value_spelled KA K key ka k room.key b lo p from mid x.0 h.4 ak h.0.0 h.6 h.7 a.0 (Holds-front b ak h.0.0 (keys_of h.1) hk) short low (omega (arith, p2, p3, high)) (omega (arith, ek)) (omega (arith, ek)) (subst (IsAligned K.align) (sym ek) (key_aligned K V E k v p i aligned)) in
      let value_here = value_spelled VA V value va v room.value b key_here.0 p mid next x.1 h.5 av h.0.1 h.8 h.9 c.0 (Holds-front b av h.0.1 (values_of h.1) hv) short (omega (arith, key_here.2)) (omega (arith, p3, high)) (omega (arith, ev)) (omega (arith, ev)) (subst (IsAligned V.align) (sym ev) (value_aligned K V E k v p i aligned)) in
      let rest = entries_spelled b value_here.0 p (i + 1) (ak + KA.kind.size) (av + VA.kind.size) next xs h.1 to h.10 (omega (arith, ek, key.size)) (omega (arith, ev, value.size)) c.1 short (omega (arith, value_here.2)) high aligned (omega arith) inside
      (Holds-at b (ak + length h.0.0) (ak + KA.kind.size) (keys_of h.1) (omega (arith, one)) (Holds-back b ak h.0.0 (keys_of h.1) hk))
      (Holds-at b (av + length h.0.1) (av + VA.kind.size) (values_of h.1) (omega (arith, two)) (Holds-back b av h.0.1 (values_of h.1) hv)) in (
        rest.0,
        (
          key_here.0,
          value_here.0,
          subst (λ (n : ℕ). K.Means b lo p n key_here.0 (key.to (KA.meaning x.0))) ek key_here.1,
          subst (λ (n : ℕ). V.Means b key_here.0 p n value_here.0 (value.to (VA.meaning x.1))) ev value_here.1,
          rest.1,
        ),
        rest.2,
      )
