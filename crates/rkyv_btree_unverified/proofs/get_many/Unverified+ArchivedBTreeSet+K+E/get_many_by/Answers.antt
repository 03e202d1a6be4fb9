-- Each item shows what a lookup gives.
use Rattle.std.proofs.Common.{List, sym, subst}
use Rattle.std.specs.List.{AllZip}
use Rattle.std.specs.Prelude.{ℕ, Option, Result}
use Rattle.rkyv_btree_portable.specs.Refusing.{RefusesWhole}
use Rattle.rkyv_btree_portable.specs.Scalars.{unit_kind}
use Rattle.rkyv_btree_portable.specs.laws.Refusing.{whole_refusals}
use Rattle.rkyv_btree_portable.specs.laws.Scalars.{unit_laws}
use Rattle.rkyv_btree_format.proofs.Sizes.{room_of}
use Rattle.rkyv_btree_portable.specs.declared.refusal.Refusal.{Refusal}
use Rattle.rkyv_btree_unverified.proofs.ManyGiven.{drained_left, given_key, no_error_on_map, zip_both}
use Rattle.rkyv_btree_unverified.proofs.Promised.{by_native}
use Rattle.rkyv_btree_unverified.specs.Given.{GivesKey}
use Rattle.rkyv_btree_unverified.specs.Lookups.{LookupGives}
use Rattle.rkyv_btree_unverified.specs.UnverifiedLookupsLeft.{AreKeyLookups}
use Rattle.rkyv_btree_view.proofs.LookedUp.{natives_agree}
use Rattle.rkyv_btree_view.specs.Lookup.{ByNative}
use Rattle.rkyv_btree_unverified.proofs.get_many.Unverified+ArchivedBTreeSet+K+E.get_many_by.Goals as goal

pub returns-clause-yields : goal.returns-clause-yields
returns-clause-yields g c items drains =
    let K = g.K.Portable.kind in let V = unit_kind in let E = g.row.E in
    let b = c.args.self.buf.now in let at = c.args.self.pos in
    let KR = g.K.CheckBytes.Refuses in let VR = RefusesWhole unit_kind in
    let law = g.met.K.CompareWith.compares in
    let k = g.met.K.Portable.laws in let fits = c.args.self.fitting in
    let room = room_of K V E k unit_laws fits in
    let kr = g.met.K.CheckBytes.refusals room.key in
    let left = rw (c.of.ensures.map, c.of.ensures.keys, c.of.ensures.none) at (drained_left (AreKeyLookups g.K.CompareWith.compared_at KR VR) _ items drains) in
    let Given : g.row.T.Denot → Result (Option (ℕ × ℕ)) Refusal → Type 0 =
    λ key end. ByNative K g.K.CompareWith.compared_at key (λ comparison. LookupGives K V E b comparison KR VR at end) in
    let given : AllZip Given c.args.keys.now left.0 = subst (λ (found : List (Result (Option (ℕ × ℕ)) Refusal)). AllZip Given c.args.keys.now found) (sym left.1.1) left.1.2 in
    zip_both (λ key item. GivesKey V E KR VR b at (ByNative K g.K.CompareWith.compared_at key) item)
    (λ key end item gives shows.
    given_key V E b KR VR k unit_laws kr (whole_refusals unit_laws) fits at (by_native K g.K.CompareWith.compared_at key) (λ f p. (law.compared key, law.cuts key, natives_agree law f p key b)) end item gives
    (no_error_on_map K V E b KR VR k unit_laws kr (whole_refusals unit_laws) fits at (law.compared key) end (gives law.compared law.by_value)) shows)
    c.args.keys.now left.0 items given left.2
