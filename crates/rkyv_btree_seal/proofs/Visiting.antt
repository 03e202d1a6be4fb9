-- A visit as far as it has come.
use Rattle.std.proofs.Common.{◌≡◌, ℕ, zero, suc, List, [], ◌∷◌, ◌++◌, length, drop, refl, sym, ap, ◌∙◌, append_assoc, arith, Option, Some, None, MutBor, IsTrue, slice_get}
use Rattle.std.proofs.lemmas.List.{length_push}
use Rattle.std.specs.declared.ops.ControlFlow.{ControlFlow}
use Rattle.std.specs.declared.ops.ControlFlow.TheVariants.{Continue, Break}
use Rattle.rkyv_btree_portable.specs.Bytes.{bytes_at}
use Rattle.rkyv_btree_portable.specs.InPlace.{LiesAlone, value_of}
use Rattle.rkyv_btree_portable.specs.Kind.{Kind, IsLawful}
use Rattle.rkyv_btree_format.specs.Layout.{layout_of}
use Rattle.rkyv_btree_verify.specs.Map.{map_kind}
use Rattle.rkyv_btree_format.specs.Read.{map_tree, read_map}
use Rattle.rkyv_btree_portable.specs.Views.{stands}
use Rattle.rkyv_btree_seal.proofs.Cursors.{at_seam}
use Rattle.rkyv_btree_seal.proofs.Entered.{entry_means}
use Rattle.rkyv_btree_seal.specs.Calls.{CallsEntry, MayCallAt}
use Rattle.rkyv_btree_seal.specs.Places.{IsNumber}
use Rattle.rkyv_btree_seal.specs.Put.{key_place, value_place, put_value}
use Rattle.rkyv_btree_walk.specs.EntryPlaces.{entry_places}
use Rattle.rkyv_btree_seal.specs.Visits.{Visits, MayVisit, Goes}
use Rattle.rkyv_btree_seal.specs.declared.lent_key.LentKey.{LentKey}
use Rattle.rkyv_btree_seal.specs.declared.seal.Seal.{Seal}

get_drop : {X : Type 0} (xs : List X) (i : ℕ) → slice_get (drop i xs) 0 ≡ slice_get xs i
get_drop [] zero = refl
get_drop [] (suc i) = refl
get_drop (x ∷ xs) zero = refl
get_drop (x ∷ xs) (suc i) = get_drop xs i

drop_next : {X : Type 0} (xs : List X) (i : ℕ) → drop (suc i) xs ≡ drop 1 (drop i xs)
drop_next [] zero = refl
drop_next [] (suc i) = refl
drop_next (x ∷ xs) zero = refl
drop_next (x ∷ xs) (suc i) = drop_next xs i

drop_put : {A B : Type 0} (m : List (A × B)) (i : ℕ) (v : B) → drop (suc i) (put_value m i v) ≡ drop (suc i) m
drop_put [] i v = refl
drop_put (e ∷ m) zero v = refl
drop_put (e ∷ m) (suc i) v = drop_put m i v

module _ {X Y T F : Type 0} (K V : Kind) (E : ℕ) (at : ℕ) (step : F → LentKey X → MutBor (Seal Y) → ControlFlow T (Unit {0}) → MutBor (Seal Y) → F → Type 0) (f₀ : F) (b₀ : List ℕ) where
  -- the first entries were visited, which left b and f, and these are left
  pub record SoFar (es : List (ℕ × ℕ)) (b : List ℕ) (f : F) : Type 0 where
    pub done : List (ℕ × ℕ)
    pub split : entry_places K V E b₀ at ≡ done ++ es
    pub tree : map_tree (layout_of K V E) b at ≡ map_tree (layout_of K V E) b₀ at
    pub rest : drop (length done) (read_map K V E b at) ≡ drop (length done) (read_map K V E b₀ at)
    pub back : (c : List ℕ) (r : Option T) (last : F) → Visits K V E at step es f b c r last → Visits K V E at step (entry_places K V E b₀ at) f₀ b₀ c r last

  -- the end of the list
  pub so_far_end : (es : List (ℕ × ℕ)) (b : List ℕ) (f : F) → es ≡ [] → SoFar es b f → Visits K V E at step (entry_places K V E b₀ at) f₀ b₀ b None f
  so_far_end es b f is s = s.back b None f (rw is (refl, refl, refl))

  module _ (old es : List (ℕ × ℕ)) (e : ℕ × ℕ) (first : old ≡ e ∷ es) (b : List ℕ) (f : F) (s : SoFar old b f) where
    -- the next entry has the number of those that were visited
    pub next_number : IsNumber K V E b at (length s.done) e
    next_number = rw (s.tree, s.split, first) (at_seam s.done e es)

    pub next_may : (pre : F → LentKey X → MutBor (Seal Y) → Type 0) → MayVisit K V E at step pre b₀ → (k : IsLawful K) (v : IsLawful V) → LiesAlone V → IsTrue (stands (map_kind K V E) b at) → MayCallAt K V E b e (λ q t. pre f q t) (λ q t a u. (g : F) × step f q t a u g)
    next_may pre may k v alone h =
        let means = entry_means K V E k v alone b at h (length s.done) e next_number in
        let same : slice_get (read_map K V E b at) (length s.done) ≡ slice_get (read_map K V E b₀ at) (length s.done) = sym (get_drop (read_map K V E b at) (length s.done)) ∙ ap (λ xs. slice_get xs 0) s.rest ∙ get_drop (read_map K V E b₀ at) (length s.done) in
        may f (length s.done) (K.read b (key_place K V E e), value_of V (bytes_at b (value_place K V E e) V.size)) (sym same ∙ means)

    module _ (c : List ℕ) (outcome : ControlFlow T (Unit {0})) (g : F) (calls : CallsEntry K V E b at c (λ k s a t. step f k s a t g) e outcome) where
      visited : (d : List ℕ) (r : Option T) (last : F) → Goes outcome r ((d ≡ c) × (last ≡ g)) (Visits K V E at step es g c d r last) → Visits K V E at step (entry_places K V E b₀ at) f₀ b₀ d r last
      visited d r last goes = s.back d r last (rw first (outcome, c, g, calls, goes))

      -- after a result that goes on, one entry more was visited
      pub so_far_more : (u : Unit {0}) → outcome ≡ Continue u → SoFar es c g
      so_far_more u is =
          let put = calls.puts.list (length s.done) next_number in
          let n : length (s.done ++ e ∷ []) ≡ suc (length s.done) = omega (arith, length_push s.done e) in
          record {
            done = s.done ++ e ∷ [];
            split = s.split ∙ rw first (sym (append_assoc s.done (e ∷ []) es));
            tree = calls.puts.tree ∙ s.tree;
            rest = rw (n, put) (drop_put (read_map K V E b at) (length s.done) _ ∙ drop_next (read_map K V E b at) (length s.done) ∙ ap (drop 1) s.rest ∙ sym (drop_next (read_map K V E b₀ at) (length s.done)));
            back = λ d r last v. visited d r last (rw is v);
          }

      -- a break ends the visit
      pub so_far_break : (t : T) → outcome ≡ Break t → Visits K V E at step (entry_places K V E b₀ at) f₀ b₀ c (Some t) g
      so_far_break t is = visited c (Some t) g (rw is (refl, (refl, refl)))
