-- Each key is compared where it stands.
use Rattle.std.proofs.Common.{◌∙◌, arith, sym, below_more, ap}
use Rattle.rkyv_btree_walk.proofs.Searches.{past_is, equal_is, less_is}
use Rattle.rkyv_btree_walk.proofs.search.search_in_turn.Goals as goal

pub loop-i-preserved : goal.loop-i-preserved
loop-i-preserved g c f p = below_more _ _ (c.loop-i.invariant f p) (rw (← c.key_pos-pos.ensures) (past_is _ (sym (ap (λ r. r.past) (c.compare_at-compared.ensures f p)) ∙ c.if-compared.true)))

pub returns-then-compared-2-clause-stops : goal.returns-then-compared-2-clause-stops
returns-then-compared-2-clause-stops g c f p = (omega arith, c.loop-i.invariant f p, rw (← c.key_pos-pos.ensures) (equal_is _ (sym (ap (λ r. r.equal) (c.compare_at-compared.ensures f p)) ∙ c.if-compared-2.true)))

pub returns-in-loop-i-clause-stops : goal.returns-in-loop-i-clause-stops
returns-in-loop-i-clause-stops g c f p =
    (omega arith, c.loop-i.invariant f p, λ _. rw (← c.key_pos-pos.ensures) (less_is _ (sym (ap (λ r. r.past) (c.compare_at-compared.ensures f p)) ∙ c.if-compared.false) (sym (ap (λ r. r.equal) (c.compare_at-compared.ensures f p)) ∙ c.if-compared-2.false)))

pub returns-clause-stops : goal.returns-clause-stops
returns-clause-stops g c f p = (omega arith, λ k h. c.loop-i.invariant f p k (omega arith), λ h. absurd (omega arith))
