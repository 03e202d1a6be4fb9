-- Each key is compared where it stands.
use Rattle.std.proofs.Common.{◌∙◌, sym, arith}
use Rattle.rkyv_btree_walk.proofs.Seeks.{between_more}
use Rattle.rkyv_btree_walk.proofs.seek.scan_node.Goals as goal

pub returns-then-reaches-clause-first : goal.returns-then-reaches-clause-first
returns-then-reaches-clause-first g c f p =
    (c.loop-i.invariant f p, λ _. rw (← c.key_pos-pos.ensures) (sym (c.reaches.ensures f p) ∙ c.if-reaches.true))

pub loop-i-preserved : goal.loop-i-preserved
loop-i-preserved g c f p =
    between_more _ _ _ (c.loop-i.invariant f p) (rw (← c.key_pos-pos.ensures) (sym (c.reaches.ensures f p) ∙ c.if-reaches.false))

pub returns-clause-first : goal.returns-clause-first
returns-clause-first g c f p = (λ k low high. c.loop-i.invariant f p k low (omega arith), λ h. absurd (omega arith))
