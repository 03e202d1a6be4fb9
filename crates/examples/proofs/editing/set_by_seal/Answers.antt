-- What is found is set.
use Rattle.std.proofs.Common.{◌≡◌, refl, subst, rules, List, ℕ, Some, None, true}
use Rattle.std.specs.Ordering.{nat_cmp}
use Rattle.examples.specs.Editing.{Changed}
use Rattle.examples.proofs.Numbers.{numbers_stand, absent_key, found_changed}
use Rattle.examples.proofs.editing.set_by_seal.Goals as goal
use Rattle.rkyv_btree_base.specs.Natives.{u32_form}
use Rattle.rkyv_btree_base.specs.Scalars.{u32_kind}
use Rattle.rkyv_btree_base.specs.laws.Natives.{u32_faithful}
use Rattle.rkyv_btree.specs.Places.{FindsPlace, IsEntry, PutsEntry}
use Rattle.rkyv_btree.specs.EntryPlaces.{place_of}

pub at-requires : goal.at-requires
at-requires c = numbers_stand c.args.buf.now c.args.pos c.requires.0 c.requires.1

pub seal_at-seal-requires-clause-entry : goal.seal_at-seal-requires-clause-entry
seal_at-seal-requires-clause-entry c =
    let finds : FindsPlace u32_kind u32_kind 5 c.args.buf.now c.args.pos (nat_cmp c.args.key) (Some (place_of c.in-Some.place)) = rw (c.at.ensures.buffer, c.at.ensures.position) at (rw c.in-Some.is at (c.find_by-found.ensures.finds nat_cmp (λ n b at. refl))) in
    subst (λ (x : List ℕ). IsEntry u32_kind u32_kind 5 x c.args.pos (place_of c.in-Some.place)) (search rules) finds.entry

pub returns-in-None : goal.returns-in-None
returns-in-None c m is =
    let finds : FindsPlace u32_kind u32_kind 5 c.args.buf.now c.args.pos (nat_cmp c.args.key) None = rw (c.at.ensures.buffer, c.at.ensures.position) at (rw c.in-None.is at (c.find_by-found.ensures.finds nat_cmp (λ n b at. refl))) in
    (search rules, absent_key c.args.buf.now c.args.pos c.args.key m is finds)

pub returns-in-Some : goal.returns-in-Some
returns-in-Some c m is =
    let finds : FindsPlace u32_kind u32_kind 5 c.args.buf.now c.args.pos (nat_cmp c.args.key) (Some (place_of c.in-Some.place)) = rw (c.at.ensures.buffer, c.at.ensures.position) at (rw c.in-Some.is at (c.find_by-found.ensures.finds nat_cmp (λ n b at. refl))) in
    let same : c.seal_at-seal.result.buf.now ≡ c.args.buf.now = search rules in
    let puts : PutsEntry u32_kind u32_kind 5 c.args.buf.now c.args.pos (place_of c.in-Some.place) (u32_form.own_bytes c.args.value) c.write.new.self.buf.now = rw (c.write.ensures.bytes, same) (rw (← c.seal_at-seal.ensures.buffer, same) at (c.seal_at-seal.ensures.puts (u32_form.own_bytes c.args.value) (u32_faithful.is_own c.args.value))) in
    subst (λ (x : List ℕ). Changed c.args.buf.now x c.args.pos m c.args.key c.args.value true) (search rules) (found_changed c.args.buf.now c.write.new.self.buf.now c.args.pos c.args.key c.args.value m (place_of c.in-Some.place) c.ranges.value.fits is finds puts)
