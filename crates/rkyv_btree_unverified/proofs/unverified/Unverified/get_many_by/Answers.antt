-- Each item shows what a lookup gives.
use Rattle.std.proofs.Common.{List, sym, subst}
use Rattle.std.specs.List.{AllZip}
use Rattle.std.specs.Prelude.{ℕ, Option, Result}
use Rattle.rkyv_btree_format.proofs.Sizes.{room_of}
use Rattle.rkyv_btree_portable.specs.declared.refusal.Refusal.{Refusal}
use Rattle.rkyv_btree_unverified.proofs.ManyGiven.{drained_left, given_value, no_error_on_map, zip_both}
use Rattle.rkyv_btree_unverified.proofs.Promised.{by_native}
use Rattle.rkyv_btree_unverified.specs.Given.{GivesValue}
use Rattle.rkyv_btree_unverified.specs.Lookups.{LookupGives}
use Rattle.rkyv_btree_unverified.specs.UnverifiedLookupsLeft.{AreLookups}
use Rattle.rkyv_btree_view.proofs.LookedUp.{natives_agree}
use Rattle.rkyv_btree_view.specs.Lookup.{ByNative}
use Rattle.rkyv_btree_unverified.proofs.unverified.Unverified.get_many_by.Goals as goal

pub returns-clause-yields : goal.returns-clause-yields
returns-clause-yields g c items drains =
    let K = g.K.Portable.kind in let V = g.V.Portable.kind in let E = g.M.ArchivedMap.E in
    let b = c.args.self.buf.now in let at = c.args.self.pos in
    let KR = g.K.CheckBytes.Refuses in let VR = g.V.CheckBytes.Refuses in
    let law = g.met.K.CompareWith.compares in
    let k = g.met.K.Portable.laws in let v = g.met.V.Portable.laws in let fits = c.args.self.fitting in
    let room = room_of K V E k v fits in
    let kr = g.met.K.CheckBytes.refusals room.key in let vr = g.met.V.CheckBytes.refusals room.value in
    let left = rw (c.of.ensures.map, c.of.ensures.keys, c.of.ensures.none) at (drained_left (AreLookups g.K.CompareWith.compared_at KR VR) _ items drains) in
    let Given : g.row.T.Denot → Result (Option (ℕ × ℕ)) Refusal → Type 0 =
    λ key end. ByNative K g.K.CompareWith.compared_at key (λ comparison. LookupGives K V E b comparison KR VR at end) in
    let given : AllZip Given c.args.keys.now left.0 = subst (λ (found : List (Result (Option (ℕ × ℕ)) Refusal)). AllZip Given c.args.keys.now found) (sym left.1.1) left.1.2 in
    zip_both (λ key item. GivesValue K E KR VR b at (ByNative K g.K.CompareWith.compared_at key) item)
    (λ key end item gives shows.
    given_value K E b KR VR k v kr vr fits at (by_native K g.K.CompareWith.compared_at key) (λ f p. (law.compared key, law.cuts key, natives_agree law f p key b)) end item gives
    (no_error_on_map K V E b KR VR k v kr vr fits at (law.compared key) end (gives law.compared law.by_value)) shows)
    c.args.keys.now left.0 items given left.2
