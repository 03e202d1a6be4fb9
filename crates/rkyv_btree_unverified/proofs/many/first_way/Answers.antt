-- A search begins at the root, or ends with what the own bytes give.
use Rattle.std.proofs.Common.{◌∙◌, refl, sym, Ok, Err, Some, None}
use Rattle.rkyv_btree_unverified.specs.Steps.{misplaced, empty, bad_root, root}
use Rattle.rkyv_btree_unverified.proofs.many.first_way.Goals as goal

pub returns-in-Err-clause-gives : goal.returns-in-Err-clause-gives
returns-in-Err-clause-gives g c comparison r same = rw same (record { result = Err _; gives = misplaced c.in-Err.ensures.err; goes_on = refl })

pub returns-then-num32-eq0-clause-gives : goal.returns-then-num32-eq0-clause-gives
returns-then-num32-eq0-clause-gives g c comparison r same =
    rw same (record { result = Ok None; gives = empty c.in-Ok.ensures.ok (sym c.num32.ensures ∙ c.if-num32-eq0.true); goes_on = refl })

pub returns-in-Ok-node_place-clause-gives : goal.returns-in-Ok-node_place-clause-gives
returns-in-Ok-node_place-clause-gives g c comparison r tree = record {
  result = Ok (Some c.in-Ok-node_place.root);
  gives = root c.in-Ok.ensures.ok (λ z. c.if-num32-eq0.false (c.num32.ensures ∙ z)) c.in-Ok-node_place.ensures.gives;
  goes_on = tree;
}

pub returns-in-Err-node_place-clause-gives : goal.returns-in-Err-node_place-clause-gives
returns-in-Err-node_place-clause-gives g c comparison r same =
    rw same (record {
      result = Err _;
      gives = bad_root c.in-Ok.ensures.ok (λ z. c.if-num32-eq0.false (c.num32.ensures ∙ z)) c.in-Err-node_place.ensures.gives;
      goes_on = refl;
    })
