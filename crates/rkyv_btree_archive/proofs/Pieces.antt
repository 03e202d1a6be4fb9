-- Pieces written in their places over zeros.
use Rattle.std.proofs.Common.{◌≡◌, ℕ, ◌+◌, ◌-◌, ◌∙◌, ◌≤◌, ◌<◌, List, [], ◌∷◌, ◌++◌, length, take, drop, set, get_or, Option, ◌*◌, replicate, refl, sym, ap, subst, arith}
use Rattle.std.proofs.lemmas.List.{append_assoc, length-append, length-replicate, length-take-le, length-drop, replicate-append-replicate, take_at, drop_at, drop-drop, set_split, take-append-drop, take_more}
use Rattle.std.specs.List.{flat_map, splice}
use Rattle.std.specs.Int.{w32, to_le_bytes}
use Rattle.rkyv_btree_portable.specs.InPlace.{OwnBytes}
use Rattle.rkyv_btree_portable.specs.Bytes.{filled, zeros}
use Rattle.rkyv_btree_portable.specs.laws.Holding.{length-filled}
use Rattle.rkyv_btree_format.specs.Layout.{NodeLayout, keys_at, values_at, len_at, leaf_size, inner_size}
use Rattle.rkyv_btree_writing_laws.specs.Image.{entry_bytes, leaf_bytes, inner_bytes, pointers}
use Rattle.rkyv_btree_writing_laws.proofs.NodesHeld.{length-pointers}
use Rattle.rkyv_btree_writing_laws.proofs.PointerRuns.{pointers-append}
use Rattle.rkyv_btree_writing_laws.proofs.Resolving.{paired, filled_columns, filled_leaf}

-- bytes written over a part of a list
pub put_part : (xs own : List ℕ) (start count : ℕ) → count ≡ length own → take start xs ++ (own ++ drop count (drop start xs)) ≡ splice xs start (start + length own) own
put_part xs own start count is = ap (λ z. take start xs ++ (own ++ z)) (drop-drop count start xs ∙ ap (λ n. drop (start + n) xs) is)

-- a piece after one that was written
pub splice_more : (xs : List ℕ) (a b c : ℕ) (done own : List ℕ) → b ≡ a + length done → c ≡ b + length own → c ≤ length xs → splice (splice xs a b done) b c own ≡ splice xs a c (done ++ own)
splice_more xs a b c done own eb ec inside =
    let front = take a xs ++ done in
    let len : length front ≡ b = omega (arith, length-append (take a xs) done, length-take-le a xs (omega arith)) in
    let whole : splice xs a b done ≡ front ++ drop b xs = sym (append_assoc (take a xs) done (drop b xs)) in
    let head : take b (splice xs a b done) ≡ front = ap (take b) whole ∙ take_at front (drop b xs) b len in
    let tail : drop c (splice xs a b done) ≡ drop c xs =
    ap (drop c) whole
    ∙ (ap (λ n. drop n (front ++ drop b xs)) ec
    ∙ (sym (drop-drop (length own) b (front ++ drop b xs))
    ∙ (ap (drop (length own)) (drop_at front (drop b xs) b len)
    ∙ (drop-drop (length own) b xs ∙ ap (λ n. drop n xs) (sym ec))))) in
    ap (λ z. z ++ (own ++ drop c (splice xs a b done))) head
    ∙ (ap (λ z. front ++ (own ++ z)) tail
    ∙ (append_assoc (take a xs) done (own ++ drop c xs) ∙ ap (λ z. take a xs ++ z) (sym (append_assoc done own (drop c xs)))))

-- zeros up to a length are zeros up to a place before it, and the rest of them
split_zeros : (front : List ℕ) (n full : ℕ) → length front ≤ n → n ≤ full → filled front full ≡ filled front n ++ zeros (full - n)
split_zeros front n full low high =
    let parts : zeros (full - length front) ≡ zeros (n - length front) ++ zeros (full - n) = ap (λ k. replicate k 0) (omega arith) ∙ sym (replicate-append-replicate (n - length front) (full - n) 0) in
    ap (λ z. front ++ z) parts ∙ sym (append_assoc front (zeros (n - length front)) (zeros (full - n)))

-- a piece written over zeros
pub put_over : (front own : List ℕ) (at end full : ℕ) → length front ≤ at → end ≡ at + length own → end ≤ full → splice (filled front full) at end own ≡ filled (filled front at ++ own) full
put_over front own at end full low is high =
    let head : take at (filled front full) ≡ filled front at = ap (take at) (split_zeros front at full low (omega arith)) ∙ take_at (filled front at) (zeros (full - at)) at (length-filled front at low) in
    let tail : drop end (filled front full) ≡ zeros (full - end) = ap (drop end) (split_zeros front end full (omega arith) high) ∙ drop_at (filled front end) (zeros (full - end)) end (length-filled front end (omega arith)) in
    let len : length (filled front at ++ own) ≡ end = omega (arith, length-append (filled front at) own, length-filled front at low) in
    ap (λ z. z ++ (own ++ drop end (filled front full))) head
    ∙ (ap (λ z. filled front at ++ (own ++ z)) tail
    ∙ (sym (append_assoc (filled front at) own (zeros (full - end))) ∙ ap (λ n. (filled front at ++ own) ++ zeros (full - n)) (sym len)))

-- a first byte written over zeros
pub put_first : (xs : List ℕ) (byte full : ℕ) → xs ≡ zeros full → 1 ≤ full → set xs 0 byte ≡ filled (byte ∷ []) full
put_first xs byte full zero some =
    let long : 0 < length xs = omega (arith, ap length zero, length-replicate {A = ℕ} full 0) in
    let none : full ≡ full - 0 = omega arith in
    set_split xs 0 byte long ∙ (ap (λ z. splice z 0 1 (byte ∷ [])) (zero ∙ ap zeros none) ∙ put_over [] (byte ∷ []) 0 1 full (omega arith) (omega arith) some)

-- a node's kind, keys and values, written over zeros
pub columns_put : (s : NodeLayout) (kind k v full : ℕ) (kowns vowns : List (List ℕ)) (n0 n1 n2 n3 : List ℕ) → length kowns ≡ length vowns → k ≡ keys_at s → v ≡ values_at s → 1 ≤ k → k + length (flat_map (λ b. b) kowns) ≤ v → v + length (flat_map (λ b. b) vowns) ≤ full → n0 ≡ zeros full → n1 ≡ set n0 0 kind →
    n2 ≡ splice n1 k (k + length (flat_map (λ b. b) kowns)) (flat_map (λ b. b) kowns) → n3 ≡ splice n2 v (v + length (flat_map (λ b. b) vowns)) (flat_map (λ b. b) vowns) → n3 ≡ filled (entry_bytes s kind (paired kowns vowns)) full
columns_put s kind k v full kowns vowns n0 n1 n2 n3 same ek ev some low high zero e1 e2 e3 =
    let fk = flat_map (λ b. b) kowns in
    let fv = flat_map (λ b. b) vowns in
    let keys = filled (kind ∷ []) k ++ fk in
    let both = filled keys v ++ fv in
    let len : length keys ≤ v = omega (arith, length-append (filled (kind ∷ []) k) fk, length-filled (kind ∷ []) k some) in
    let s1 : n1 ≡ filled (kind ∷ []) full = e1 ∙ put_first n0 kind full zero (omega arith) in
    let s2 : n2 ≡ filled keys full = e2 ∙ (ap (λ z. splice z k (k + length fk) fk) s1 ∙ put_over (kind ∷ []) fk k (k + length fk) full some refl (omega arith)) in
    let s3 : n3 ≡ filled both full = e3 ∙ (ap (λ z. splice z v (v + length fv) fv) s2 ∙ put_over keys fv v (v + length fv) full len refl high) in
    s3 ∙ ap (λ z. filled z full) (filled_columns s kind k v kowns vowns [] (kind ∷ []) (filled (kind ∷ []) k) keys (filled keys v) both same ek ev refl refl refl refl refl refl)

-- they end within the room that they have
pub columns_length : (s : NodeLayout) (kind k v full : ℕ) (kowns vowns : List (List ℕ)) → length kowns ≡ length vowns → k ≡ keys_at s → v ≡ values_at s → 1 ≤ k → k + length (flat_map (λ b. b) kowns) ≤ v → v + length (flat_map (λ b. b) vowns) ≤ full → length (entry_bytes s kind (paired kowns vowns)) ≤ full
columns_length s kind k v full kowns vowns same ek ev some low high =
    let fk = flat_map (λ b. b) kowns in
    let fv = flat_map (λ b. b) vowns in
    let keys = filled (kind ∷ []) k ++ fk in
    let both = filled keys v ++ fv in
    let len : length keys ≤ v = omega (arith, length-append (filled (kind ∷ []) k) fk, length-filled (kind ∷ []) k some) in
    let end : length both ≤ full = omega (arith, length-append (filled keys v) fv, length-filled keys v len) in
    let is : both ≡ entry_bytes s kind (paired kowns vowns) = filled_columns s kind k v kowns vowns [] (kind ∷ []) (filled (kind ∷ []) k) keys (filled keys v) both same ek ev refl refl refl refl refl refl in
    subst (λ z. length z ≤ full) is end

-- a leaf's length, written over zeros after its entries
pub leaf_put : (s : NodeLayout) (owns : List OwnBytes) (count start size : ℕ) (len b0 b1 : List ℕ) → count ≡ length owns → start ≡ len_at s → size ≡ leaf_size s → len ≡ to_le_bytes w32 count → length (entry_bytes s 0 owns) ≤ len_at s → start + length len ≤ size → b0 ≡ filled (entry_bytes s 0 owns) size → b1 ≡ splice b0 start (start + length len) len → b1 ≡ leaf_bytes s owns
leaf_put s owns count start size len b0 b1 ec es ez el low high before after =
    let entries = entry_bytes s 0 owns in
    let whole : b1 ≡ filled (filled entries start ++ len) size = after ∙ (ap (λ z. splice z start (start + length len) len) before ∙ put_over entries len start (start + length len) size (omega arith) refl high) in
    filled_leaf s owns count start size entries (filled entries start) (filled entries start ++ len) b1 ec es ez refl refl (ap (λ z. filled entries start ++ z) el) whole

-- nothing was written yet
pub nothing_put : (xs : List ℕ) (start : ℕ) → xs ≡ splice xs start (start + 0) []
nothing_put xs start =
    let same : start ≡ start + 0 = omega arith in
    sym (take-append-drop start xs) ∙ ap (λ n. splice xs start n []) same

-- pointers after those that were written
pub more_pointers_put : (first old new : List ℕ) (start at middle end n : ℕ) (ps qs : List (Option ℕ)) → middle ≡ start + 4 * length ps → end ≡ middle + 4 * length qs → n ≡ at + 4 * length ps → end ≤ length first → old ≡ splice first start middle (pointers at ps) → new ≡ splice old middle end (pointers n qs) → new ≡ splice first start end (pointers at (ps ++ qs))
more_pointers_put first old new start at middle end n ps qs em ee en inside before after =
    let whole : splice (splice first start middle (pointers at ps)) middle end (pointers n qs) ≡ splice first start end (pointers at ps ++ pointers n qs) = splice_more first start middle end (pointers at ps) (pointers n qs) (omega (arith, length-pointers at ps)) (omega (arith, length-pointers n qs)) inside in
    let joined : pointers at ps ++ pointers n qs ≡ pointers at (ps ++ qs) = ap (λ k. pointers at ps ++ pointers k qs) en ∙ sym (pointers-append at ps qs) in
    after ∙ (ap (λ z. splice z middle end (pointers n qs)) before ∙ (whole ∙ ap (splice first start end) joined))

-- the next of them
pub pointer_put : (first old new : List ℕ) (start at i n : ℕ) (qs : List (Option ℕ)) (d q : Option ℕ) → i < length qs → q ≡ get_or qs i d → n ≡ at + 4 * i → start + 4 * length qs ≤ length first → old ≡ splice first start (start + 4 * i) (pointers at (take i qs)) → new ≡ splice old (start + 4 * i) (start + 4 * i + 4) (pointers n (q ∷ [])) →
    new ≡ splice first start (start + 4 * (i + 1)) (pointers at (take (i + 1) qs))
pointer_put first old new start at i n qs d q more is place room before after =
    let count : length (take i qs) ≡ i = length-take-le i qs (omega arith) in
    let end : start + 4 * i + 4 ≡ start + 4 * (i + 1) = omega arith in
    let list : take i qs ++ q ∷ [] ≡ take (i + 1) qs = ap (λ z. take i qs ++ z ∷ []) is ∙ sym (take_more qs i d more) in
    more_pointers_put first old new start at (start + 4 * i) (start + 4 * i + 4) n (take i qs) (q ∷ []) (omega (arith, count)) (omega arith) (omega (arith, count)) (omega arith) before after
    ∙ (ap (λ k. splice first start k (pointers at (take i qs ++ q ∷ []))) end ∙ ap (λ z. splice first start (start + 4 * (i + 1)) (pointers at z)) list)

-- an inner node's pointers, written over zeros after its entries
pub inner_put : (s : NodeLayout) (owns : List OwnBytes) (pos start end size n : ℕ) (qs : List (Option ℕ)) (b0 b1 : List ℕ) → start ≡ len_at s → n ≡ pos + len_at s → size ≡ inner_size s → length (entry_bytes s 1 owns) ≤ len_at s → end ≡ start + 4 * length qs → end ≤ size → b0 ≡ filled (entry_bytes s 1 owns) size → b1 ≡ splice b0 start end (pointers n qs) → b1 ≡ inner_bytes s pos owns qs
inner_put s owns pos start end size n qs b0 b1 es en ez low ee high before after =
    let entries = entry_bytes s 1 owns in
    after ∙ (ap (λ z. splice z start end (pointers n qs)) before
    ∙ (put_over entries (pointers n qs) start end size (omega arith) (omega (arith, length-pointers n qs)) high
    ∙ (ap (λ k. filled (filled entries k ++ pointers n qs) size) es
    ∙ (ap (λ k. filled (filled entries (len_at s) ++ pointers k qs) size) en ∙ ap (filled (filled entries (len_at s) ++ pointers (pos + len_at s) qs)) ez))))

-- what is in front of the rest of a list of one length
pub own_long : (own new old : List ℕ) (size room : ℕ) → size ≤ room → room ≤ length old → new ≡ own ++ drop size old → length new ≡ length old → length own ≡ size
own_long own new old size room low high is same = omega (arith, ap length is, length-append own (drop size old), length-drop size old)

pub front_is : (n size room : ℕ) (own part new old : List ℕ) → n ≡ size → size ≤ room → room ≤ length old → part ≡ new → new ≡ own ++ drop size old → length new ≡ length old → take n part ≡ own
front_is n size room own part new old en low high ep is same = ap (take n) (ep ∙ is) ∙ take_at own (drop size old) n (own_long own new old size room low high is same ∙ sym en)
