-- The first result that is left is taken.
use Rattle.std.proofs.Common.{◌≡◌, ℕ, ◌+◌, ◌<◌, ◌≤◌, ◌-◌, ◌∙◌, ◌∷◌, ◌++◌, ap, arith, drop, length, map, sym, take, inl, inr}
use Rattle.std.proofs.lemmas.Bool.{cases_lt}
use Rattle.std.specs.Option.{option_map}
use Rattle.std.specs.Prelude.{Option}
use Rattle.rkyv_btree_format.specs.Read.{entry_at}
use Rattle.rkyv_btree_walk.specs.Ends.{end_of}
use Rattle.rkyv_btree_walk.specs.declared.many.Way.{Way}
use Rattle.rkyv_btree_walk.specs.declared.many.Way.TheVariants.{On}
use Rattle.rkyv_btree_view.proofs.Held.{one_taken}
use Rattle.rkyv_btree_view.proofs.ManyFound.{if_some}
use Rattle.rkyv_btree_view.specs.ManyLookups.{entry_looked_up}
use Rattle.rkyv_btree_view.proofs.get_many.EntryLookups.next_found.Goals as goal

some_left : (left : ℕ) → (left ≡ 0 → ⊥) → 0 < left
some_left left some = elim (cases_lt 0 left) [
  | inl h ↦ h
  | inr h ↦ absurd (some (omega arith))
]

pub entry_found-found-requires : goal.entry_found-found-requires
entry_found-found-requires g c =
    let now = c.refill.new.self in
    let some = some_left now.left c.if-self-eq0.false in
    rw c.end.ensures (if_some _ _ (now.stand now.next (omega arith) (omega (arith, some))))

pub invariant_of-self : goal.invariant_of-self
invariant_of-self g c =
    let now = c.refill.new.self in
    let some = some_left now.left c.if-self-eq0.false in
    let within : now.next + 1 + (now.left - 1) ≤ 16 = omega (arith, some, now.within) in
    let short : now.left - 1 + length now.keys.now < 18446744073709551616 = omega (arith, some, now.short) in
    record {
      within = within;
      short = short;
      stand = λ i low high. now.stand i (omega (arith, low)) (omega (arith, high, some));
    }

pub returns : goal.returns
returns g c =
    let K = g.K.Portable.kind in
    let V = g.V.Portable.kind in
    let E = g.M.ArchivedMap.E in
    let now = c.refill.new.self in
    let b = now.map.buf.now in
    let find = entry_looked_up K V E g.K.CompareWith.compared_at b now.map.pos in
    let held : Way → Option (K.Value × V.Value) = λ way. option_map (entry_at K V E b) (end_of way) in
    sym c.refill.ensures.same
    ∙ ap (λ values. values ++ map find now.keys.now) (one_taken held (On 0) now.ways now.next now.left (omega (arith, now.within)) c.if-self-eq0.false)
    ∙ ap (λ value. value ∷ (map held (take (now.left - 1) (drop (now.next + 1) now.ways)) ++ map find now.keys.now)) (sym (c.entry_found-found.ensures ∙ ap (option_map (entry_at K V E b)) c.end.ensures))
