use Rattle.std.proofs.Common.{◌≡◌, ℕ, ◌+◌, ◌*◌, ◌<◌, ◌≤◌, ◌∙◌, [], ◌∷◌, ◌++◌, List, length, map, reverse, refl, sym, ap, subst, arith}
use Rattle.std.proofs.Math.Nat.{mul-le-mul_left}
use Rattle.std.specs.List.{flat_map, splice}
use Rattle.std.proofs.lemmas.List.{nil_from_length, length-append, length_push, length-reverse, reverse-append, reverse-reverse}
use Rattle.std.proofs.lemmas.Result.{err_from_is_err_and}
use Rattle.rkyv_btree_writer.specs.Archiving.{Archival, IsUnresolved}
use Rattle.rkyv_btree_writing_laws.proofs.Resolving.{ResolvedSoFar, none_so_far, next_resolved, next_unresolved, all_resolved, joined_more}
use Rattle.rkyv_btree_archive.proofs.Numbers.{as_much}
use Rattle.rkyv_btree_archive.proofs.Pieces.{splice_more, nothing_put}
use Rattle.rkyv_btree_archive.proofs.node_bytes.place_each.Goals as goal

-- what is there, after so many parts of one size, has room for one more
one_more_part : (i n size : ℕ) → i < n → i * size + size ≤ n * size
one_more_part i n size more =
    let up : i + 1 ≤ n = omega arith in
    omega (arith, mul-le-mul_left size up)

part_below : (start at i n size full : ℕ) → at ≡ start + i * size → i < n → start + n * size ≤ full → at + size ≤ full
part_below start at i n size full is more room = omega (arith, one_more_part i n size more)

all_gone : (i n : ℕ) → n ≤ i → i ≤ n → i ≡ n
all_gone i n none few = omega arith

next_part : (start at i size step : ℕ) → at ≡ start + i * size → step ≡ size → at + step ≡ start + (i + 1) * size
next_part start at i size step is same = omega arith

none_left_of : (k i n : ℕ) → k + i ≡ n → n ≤ i → k ≡ 0
none_left_of k i n is none = omega arith

-- the last of a list is the first of its reverse
last_first : {R : Type 0} (old left : List R) (r : R) → old ≡ left ++ r ∷ [] → reverse old ≡ r ∷ reverse left
last_first old left r is = ap reverse is ∙ reverse-append left (r ∷ [])

-- at the start all resolvers are left, the last of them first
first_last : {X R : Type 0} (T : Archival X R) (pos : ℕ) (all : List X) (given turned : List R) → turned ≡ reverse given → ResolvedSoFar T pos all given pos all (reverse turned) []
first_last T pos all given turned is = subst (λ rs. ResolvedSoFar T pos all given pos all rs []) (sym (ap reverse is ∙ reverse-reverse given)) (none_so_far T pos all given)

joined : (done : List (List ℕ)) (own : List ℕ) → flat_map (λ b. b) done ++ own ≡ flat_map (λ b. b) (done ++ own ∷ [])
joined done own = joined_more done own [] (flat_map (λ b. b) done) (flat_map (λ b. b) done ++ own) refl refl

joined_length : (done : List (List ℕ)) (own : List ℕ) (i size : ℕ) → length (flat_map (λ b. b) done) ≡ i * size → length own ≡ size → length (flat_map (λ b. b) (done ++ own ∷ [])) ≡ (i + 1) * size
joined_length done own i size before more = omega (arith, ap length (joined done own), length-append (flat_map (λ b. b) done) own)

joined_put : (first old new : List ℕ) (start place : ℕ) (done : List (List ℕ)) (own : List ℕ) → place ≡ start + length (flat_map (λ b. b) done) → place + length own ≤ length first → old ≡ splice first start (start + length (flat_map (λ b. b) done)) (flat_map (λ b. b) done) → new ≡ splice old place (place + length own) own →
    new ≡ splice first start (start + length (flat_map (λ b. b) (done ++ own ∷ []))) (flat_map (λ b. b) (done ++ own ∷ []))
joined_put first old new start place done own is inside before after =
    let flat = flat_map (λ b. b) done in
    let whole : splice (splice first start (start + length flat) flat) place (place + length own) own ≡ splice first start (place + length own) (flat ++ own) = ap (λ n. splice (splice first start n flat) place (place + length own) own) (sym is) ∙ splice_more first start place (place + length own) flat own is refl inside in
    let end : place + length own ≡ start + length (flat ++ own) = omega (arith, length-append flat own) in
    after ∙ (ap (λ z. splice z place (place + length own) own) before
    ∙ (whole ∙ (ap (λ n. splice first start n (flat ++ own)) end ∙ ap (λ z. splice first start (start + length z) z) (joined done own))))

pub loop-entry-init : goal.loop-entry-init
loop-entry-init g c = record {
  done = ([], first_last g.H.Part.Archive.archival c.args.pos (map g.H.Half.part c.args.entries.now) c.args.resolvers.now.items c.reverse.new.self.items c.reverse.ensures.items, omega arith, nothing_put c.args.node.now c.args.start);
  at = omega arith;
  place = omega arith;
  left = omega (arith, c.requires.count, ap length c.reverse.ensures.items, length-reverse c.args.resolvers.now.items);
  kept = omega arith;
}

pub loop-entry-preserved : goal.loop-entry-preserved
loop-entry-preserved g c =
    let before = c.loop-entry.invariant in
    let now = c.in_ok-place_value.ensures.ok in
    let r = c.take_last-resolver.result in
    let rest : reverse c.loop-entry.resolvers.items ≡ r ∷ reverse c.take_last-resolver.new.self.items = last_first c.loop-entry.resolvers.items c.take_last-resolver.new.self.items r c.take_last-resolver.ensures.items in
    let size = g.met.H.Part.Archive.same_kind.size in
    record {
      done = (
        before.done.0 ++ now.0 ∷ [],
        next_resolved g.H.Part.Archive.archival g.H.Half.part c.args.pos (map g.H.Half.part c.args.entries.now) c.args.resolvers.now.items c.loop-entry.at (c.loop-entry.at + c.size-size.result) c.loop-entry.entry-index c.args.entries.now _ c.entry-item.result r (reverse c.loop-entry.resolvers.items) (reverse c.take_last-resolver.new.self.items) now.0 before.done.0
            c.loop-entry-test.true c.entry-item.is rest (subst (λ x. g.H.Part.Archive.archival.Resolves x r c.loop-entry.at now.0) c.of.ensures now.1) (omega (arith, c.size-size.ensures, size)) before.done.1,
        joined_length before.done.0 now.0 c.loop-entry.entry-index g.H.Part.Archived.Portable.kind.size before.done.2 now.2,
        joined_put c.args.node.now c.loop-entry.node c.place_value.new.node c.args.start c.loop-entry.place before.done.0 now.0 (before.place ∙ ap (λ n. c.args.start + n) (sym before.done.2)) (subst (λ n. n ≤ length c.args.node.now) (ap (λ n. c.loop-entry.place + n) (sym now.2)) (part_below c.args.start c.loop-entry.place c.loop-entry.entry-index (length c.args.entries.now) g.H.Part.Archived.Portable.kind.size (length c.args.node.now) before.place c.loop-entry-test.true c.requires.room)) before.done.3 now.3,
      );
      at = next_part c.args.pos c.loop-entry.at c.loop-entry.entry-index _ _ before.at c.size-size.ensures;
      place = next_part c.args.start c.loop-entry.place c.loop-entry.entry-index _ _ before.place c.size-size.ensures;
      left = omega (arith, before.left, ap length c.take_last-resolver.ensures.items ∙ length_push c.take_last-resolver.new.self.items r);
      kept = as_much _ _ _ before.kept c.take_last-resolver.ensures.capacity;
    }

pub returns-in_err-place_value-clause-err : goal.returns-in_err-place_value-clause-err
returns-in_err-place_value-clause-err g c =
    let before = c.loop-entry.invariant in
    let r = c.take_last-resolver.result in
    let rest : reverse c.loop-entry.resolvers.items ≡ r ∷ reverse c.take_last-resolver.new.self.items = last_first c.loop-entry.resolvers.items c.take_last-resolver.new.self.items r c.take_last-resolver.ensures.items in
    let p = err_from_is_err_and c.from_residual.result c.from_residual.ensures.1 in
    rw (p.1, p.2) (next_unresolved g.H.Part.Archive.archival g.H.Half.part c.args.pos (map g.H.Half.part c.args.entries.now) c.args.resolvers.now.items c.loop-entry.at c.loop-entry.entry-index c.args.entries.now _ c.entry-item.result r (reverse c.loop-entry.resolvers.items) (reverse c.take_last-resolver.new.self.items) before.done.0 c.in_err-place_value.field-0.0
    c.loop-entry-test.true c.entry-item.is rest
    (subst (λ x. IsUnresolved g.H.Part.Archive.archival x r c.loop-entry.at c.in_err-place_value.field-0.0) c.of.ensures c.in_err-place_value.ensures.err) before.done.1)

pub returns-clause-ok : goal.returns-clause-ok
returns-clause-ok g c =
    let before = c.loop-entry.invariant in (
      before.done.0,
      all_resolved g.H.Part.Archive.archival g.H.Half.part c.args.pos (map g.H.Half.part c.args.entries.now) c.args.resolvers.now.items c.loop-entry.at c.loop-entry.entry-index c.args.entries.now (reverse c.loop-entry.resolvers.items) before.done.0 (omega arith) (omega (arith, before.left, length-reverse c.loop-entry.resolvers.items)) before.done.1,
      before.done.2 ∙ ap (λ n. n * g.H.Part.Archived.Portable.kind.size) (all_gone c.loop-entry.entry-index (length c.args.entries.now) c.loop-entry-test.false c.loop-entry.auto.entry-index-end),
      before.done.3,
    )

pub place_value-requires-clause-fitting : goal.place_value-requires-clause-fitting
place_value-requires-clause-fitting g c = c.requires.fitting

pub place_value-requires-clause-room : goal.place_value-requires-clause-room
place_value-requires-clause-room g c =
    let before = c.loop-entry.invariant in
    omega (arith, c.loop-entry.auto.node, part_below c.args.start c.loop-entry.place c.loop-entry.entry-index (length c.args.entries.now) g.H.Part.Archived.Portable.kind.size (length c.args.node.now) before.place c.loop-entry-test.true c.requires.room)

pub place_value-requires-clause-end : goal.place_value-requires-clause-end
place_value-requires-clause-end g c =
    part_below c.args.pos c.loop-entry.at c.loop-entry.entry-index (length c.args.entries.now) g.H.Part.Archived.Portable.kind.size 4294967295 c.loop-entry.invariant.at c.loop-entry-test.true c.requires.end

pub returns-in_err-place_value-clause-kept : goal.returns-in_err-place_value-clause-kept
returns-in_err-place_value-clause-kept g c = as_much _ _ _ c.loop-entry.invariant.kept c.take_last-resolver.ensures.capacity

pub size-size-requires : goal.size-size-requires
size-size-requires g c = c.requires.fitting

pub returns-clause-spent : goal.returns-clause-spent
returns-clause-spent g c = nil_from_length _ (none_left_of _ c.loop-entry.entry-index (length c.args.entries.now) c.loop-entry.invariant.left c.loop-entry-test.false)

pub returns-clause-kept : goal.returns-clause-kept
returns-clause-kept g c = c.loop-entry.invariant.kept
