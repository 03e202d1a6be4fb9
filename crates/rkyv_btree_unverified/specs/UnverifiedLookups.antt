-- What the items of many lookups at once are in bytes that nobody has validated.
use Rattle.std.specs.Option.{option_map}
use Rattle.std.specs.Prelude.{◌≡◌, ℕ, IfSome, List, [], ◌∷◌, Option, Some, None, Result, Ok, Err}
use Rattle.rkyv_btree_portable.specs.Kind.{Kind}
use Rattle.rkyv_btree_format.specs.Read.{entry_at}
use Rattle.rkyv_btree_portable.specs.declared.refusal.Refusal.{Refusal}
use Rattle.rkyv_btree_portable.specs.declared.check.Portable
use Rattle.rkyv_btree_view.specs.View.{view_value}
use Rattle.rkyv_btree_view.specs.declared.view.View.{View}

module _ (K V : Kind) (E : ℕ) (b : List ℕ) {X : Type 0} {x : Portable.Ghosts X} (place : ℕ × ℕ → ℕ) (part : K.Value × V.Value → x.kind.Value) where
  -- a result is the error of a search, or the view in this buffer of a part of the entry that it found
  abbrev pub Shows : Result (Option (ℕ × ℕ)) Refusal → Result (Option (View X x)) Refusal → Type 0
  Shows (Err e) r = r ≡ Err e
  Shows (Ok entry) r =
      (found : Option (View X x)) × (r ≡ Ok found) × IfSome found (λ view. view.buf.now ≡ b) × (option_map (λ view. view.pos) found ≡ option_map place entry)
      × (option_map view_value found ≡ option_map part (option_map (entry_at K V E b) entry))

-- a call gave the first of the items that are left, and left the others, where it is a relation which items are left
abbrev pub YieldsLeft : {S X : Type 0} → (S → List X → Type 0) → S → Option X → S → Type 0
YieldsLeft AreLeft s None t = AreLeft s [] × AreLeft t []
YieldsLeft {X = X} AreLeft s (Some x) t = (rest : List X) → AreLeft t rest → AreLeft s (x ∷ rest)
