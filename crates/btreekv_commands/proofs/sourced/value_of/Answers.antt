-- The search in the lent buffer is that of the bytes, where they are known.
use Rattle.std.proofs.Common.{◌+◌, ℕ, ◌∙◌, None, Some, sym, subst, ap, refl, rules}
use Rattle.std.specs.Cmp.Lexicographic.{slice_cmp}
use Rattle.std.specs.Option.{option_map}
use Rattle.std.specs.Ordering.{nat_cmp}
use Rattle.rkyv_btree_source.specs.Known.{AreOf}
use Rattle.rkyv_btree_view.specs.View.{view_value}
use Rattle.btreekv_commands.specs.Sourced.{IsReadFailure, lookup_fault}
use Rattle.btreekv_commands.proofs.LookedUp.{failed_so, gives_fault, gives_value}
use Rattle.btreekv_commands.proofs.sourced.value_of.Goals as goal

pub returns-in-Ok-None-clause-value : goal.returns-in-Ok-None-clause-value
returns-in-Ok-None-clause-value g c b known place =
    let there = subst (λ k. AreOf k b) (sym c.longer.invariant.0) known in
    let at = c.longer.invariant.1 ∙ place in
    let reads = c.in-Ok-None.ensures.same_as b there in
    gives_value b c.args.key.now _ at c.maps_are_searched.ensures None (option_map view_value c.in-Ok-None.field-0) (rw c.in-Ok-None.field-0-is refl)
    (λ m is increase. reads.sorted m is increase (λ n k. slice_cmp nat_cmp n.now k) (λ n b at. refl))
    (reads.places (λ n k. slice_cmp nat_cmp n.now k) (λ n b at. refl))

pub returns-in-Ok-clause-value : goal.returns-in-Ok-clause-value
returns-in-Ok-clause-value g c b known place =
    let there = subst (λ k. AreOf k b) (sym c.longer.invariant.0) known in
    let at = c.longer.invariant.1 ∙ place in
    let reads = c.in-Ok-Some.ensures.same_as b there in
    gives_value b c.args.key.now _ at c.maps_are_searched.ensures (Some c.in-Ok.copy) (option_map view_value c.in-Ok-Some.field-0) (rw c.in-Ok-Some.field-0-is (ap Some c.in-Ok.ensures.ok))
    (λ m is increase. reads.sorted m is increase (λ n k. slice_cmp nat_cmp n.now k) (λ n b at. refl))
    (reads.places (λ n k. slice_cmp nat_cmp n.now k) (λ n b at. refl))

pub returns-in-Err : goal.returns-in-Err
returns-in-Err g c = record {
  value = λ b known place.
      let there = subst (λ k. AreOf k b) (sym c.longer.invariant.0) known in
      let at = c.longer.invariant.1 ∙ place in
      let reads = (c.in-Err.ensures.same_as b there).refuses in
      rw c.lookup_fault.ensures
      (gives_fault b c.args.key.now _ at c.in-Err.fault (reads.refused (λ n k. slice_cmp nat_cmp n.now k) (λ n b at. refl)) reads.accepts);
  failed = rw c.lookup_fault.ensures
      (subst (λ k. IsReadFailure (g.S.ReadAt.Fails k) (c.args.map.now.pos + 8) c.get_by.new.self.reader.left (lookup_fault c.in-Err.fault)) c.longer.invariant.0
      (subst (λ (p : ℕ). IsReadFailure (g.S.ReadAt.Fails (g.S.ReadAt.known c.longer.map.reader.source)) (p + 8) c.get_by.new.self.reader.left (lookup_fault c.in-Err.fault)) c.longer.invariant.1
      (failed_so _ _ _ _ _ c.in-Err.fault c.in-Err.ensures.source.fails c.in-Err.ensures.bounded.caused)));
  source = search rules;
  position = search rules;
  left = search rules;
}

pub returns-in-Err-copied-clause-failed : goal.returns-in-Err-copied-clause-failed
returns-in-Err-copied-clause-failed g c same = absurd (cc (sym c.in-Err-copied.ensures.err ∙ same))

pub returns-in-Err-lengthen-clause-failed : goal.returns-in-Err-lengthen-clause-failed
returns-in-Err-lengthen-clause-failed g c same = absurd (cc (sym c.in-Err-lengthen.ensures.err ∙ same))
