-- Closures that add 10 to the value of the seal that they are lent.
use Rattle.std.proofs.Common.{◌≡◌, ℕ, zero, suc, ◌+◌, ◌%◌, ◌^◌, ◌≤◌, List, [], ◌∷◌, ◌++◌, length, take, drop, refl, ap, subst, ◌∙◌, arith, append-nil, Option, Some, None, MutBor}
use Rattle.std.proofs.lemmas.List.{drop_all}
use Rattle.std.specs.Prelude.{Bool, is_some, MatchOption}
use Rattle.std.specs.Ordering.{nat_cmp}
use Rattle.std.specs.declared.ops.ControlFlow.{ControlFlow}
use Rattle.std.specs.declared.ops.ControlFlow.TheVariants.{Continue}
use Rattle.rkyv_btree_base.specs.Bytes.{bytes_at, from_le}
use Rattle.rkyv_btree_base.specs.Natives.{u32_form}
use Rattle.rkyv_btree_base.specs.Scalars.{u32_kind}
use Rattle.rkyv_btree.specs.Calls.{CallsEntry, CallsFound}
use Rattle.rkyv_btree.specs.Places.{FindsPlace, PutsEntry}
use Rattle.rkyv_btree.specs.Put.{put_bytes, value_place}
use Rattle.rkyv_btree.specs.Visits.{Visits}
use Rattle.rkyv_btree.specs.LentKey.{LentKey}
use Rattle.rkyv_btree.specs.Seal.{Seal}
use Rattle.examples.specs.Editing.{IsNumbers, AddsTo}
use Rattle.examples.proofs.Adding.{Adding, adding_more}
use Rattle.examples.proofs.Numbers.{found_adds}

-- 10 was added to the value that a seal covers
abbrev pub AddsToSeal : {Y : Type 0} → MutBor (Seal Y) → MutBor (Seal Y) → Type 0
AddsToSeal s t = t.now.buf.now ≡ put_bytes s.now.buf.now s.now.pos (u32_form.own_bytes ((from_le (bytes_at s.now.buf.now s.now.pos 4) + 10) % 2 ^ 32))

take_twice : (n : ℕ) (xs : List ℕ) → take n (take n xs) ≡ take n xs
take_twice zero xs = refl
take_twice (suc n) [] = refl
take_twice (suc n) (x ∷ xs) = ap (λ ys. x ∷ ys) (take_twice n xs)

-- a write over all of a buffer leaves what was written
put_whole : (b own : List ℕ) → length b ≤ length own → put_bytes b 0 own ≡ own
put_whole b own h = let start : 0 + length own ≡ length own = omega arith in rw start (ap (λ xs. own ++ xs) (drop_all (length own) b h) ∙ append-nil own)

-- such a call at an entry puts 10 more there
pub call_adds : {X Y R : Type 0} (call : LentKey X → MutBor (Seal Y) → R → MutBor (Seal Y) → Type 0) → ((k : LentKey X) (s t : MutBor (Seal Y)) (r : R) → call k s r t → AddsToSeal s t) → (b left : List ℕ) (pos : ℕ) (e : ℕ × ℕ) (r : R) → CallsEntry u32_kind u32_kind 5 b pos left call e r → PutsEntry u32_kind u32_kind 5 b pos e (u32_form.own_bytes ((from_le (bytes_at b (value_place u32_kind u32_kind 5 e) 4) + 10) % 2 ^ 32)) left
call_adds call adds b left pos e r calls =
    let s = calls.called.before in
    let t = calls.called.after in
    let holds = calls.called.holds in
    let value : from_le (bytes_at s.now.buf.now 0 4) ≡ from_le (bytes_at b (value_place u32_kind u32_kind 5 e) 4) = holds.means ∙ ap from_le (take_twice 4 (drop (value_place u32_kind u32_kind 5 e) b)) in
    let wrote : t.now.buf.now ≡ put_bytes s.now.buf.now 0 (u32_form.own_bytes ((from_le (bytes_at s.now.buf.now 0 4) + 10) % 2 ^ 32)) = rw holds.start at (adds calls.called.lent s t r calls.called.called) in
    let whole = put_whole s.now.buf.now (u32_form.own_bytes ((from_le (bytes_at s.now.buf.now 0 4) + 10) % 2 ^ 32)) (omega (arith, holds.exact)) in
    subst (λ own. PutsEntry u32_kind u32_kind 5 b pos e own left) (wrote ∙ whole ∙ ap (λ n. u32_form.own_bytes ((n + 10) % 2 ^ 32)) value) calls.puts

-- a visit by such calls, which all go on, adds 10 to all
pub visit_adds : {X Y T F : Type 0} (b₀ : List ℕ) (pos : ℕ) (step : F → LentKey X → MutBor (Seal Y) → ControlFlow T (Unit {0}) → MutBor (Seal Y) → F → Type 0)
    → ((f g : F) (k : LentKey X) (s t : MutBor (Seal Y)) (r : ControlFlow T (Unit {0})) → step f k s r t g → AddsToSeal s t)
    → ((f g : F) (k : LentKey X) (s t : MutBor (Seal Y)) (r : ControlFlow T (Unit {0})) → step f k s r t g → (u : Unit {0}) × (r ≡ Continue u))
    → (es : List (ℕ × ℕ)) (f : F) (b c : List ℕ) (r : Option T) (last : F) → Visits u32_kind u32_kind 5 pos step es f b c r last → Adding b₀ pos [] [] b es → Adding b₀ pos [] [] c []
visit_adds b₀ pos step adds goes_on [] f b c r last visits so_far = rw visits.0 so_far
visit_adds b₀ pos step adds goes_on (e ∷ es) f b c r last visits so_far =
    let calls = visits.3 in
    let g = visits.2 in
    let on = goes_on f g calls.called.lent calls.called.before calls.called.after visits.0 calls.called.called in
    let puts = call_adds (λ k s a t. step f k s a t g) (λ k s t a called. adds f g k s t a called) b visits.1 pos e visits.0 calls in
    visit_adds b₀ pos step adds goes_on es g visits.1 c r last (rw on.1 at visits.4) (adding_more b₀ pos [] [] b visits.1 (e ∷ es) es e _ so_far refl refl puts)

-- such a call at what a search has found adds 10 to the value of the key
pub call_found_adds : {X Y R : Type 0} (call : LentKey X → MutBor (Seal Y) → R → MutBor (Seal Y) → Type 0) → ((k : LentKey X) (s t : MutBor (Seal Y)) (r : R) → call k s r t → AddsToSeal s t) → (b c : List ℕ) (pos key : ℕ) (result : Option R) (comparison : Bool) (m : List (ℕ × ℕ)) → comparison ≡ is_some result → IsNumbers b pos m → CallsFound u32_kind u32_kind 5 b pos (nat_cmp key) c call result → AddsTo b c pos m key comparison
call_found_adds call adds b c pos key result comparison m told is calls = case calls.found calls.finds calls.calls
  where
    case : (found : Option (ℕ × ℕ)) → FindsPlace u32_kind u32_kind 5 b pos (nat_cmp key) found → MatchOption found ((result ≡ None) × (c ≡ b)) (λ e. (r : _) × (result ≡ Some r) × CallsEntry u32_kind u32_kind 5 b pos c call e r) → AddsTo b c pos m key comparison
    case None finds none = rw (told, none.0) none.1
    case (Some e) finds some = rw (told, some.1) (found_adds b c pos key m e is finds (call_adds call adds b c pos e some.0 some.2))
